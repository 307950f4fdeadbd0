-- Paths by their segments.
use Rattle.std.proofs.Common.{◌≡◌, ℕ, zero, suc, ◌+◌, Bool, true, false, ◌||◌, ◌&&◌, not, cond, List, [], ◌∷◌, ◌++◌, length, take, position, Option, Some, None, Result, Ok, Err, refl, sym, ◌∙◌, ap, subst, ◌-◌, arith, bytes_eq, codes}
use Rattle.std.specs.Str.{IsUtf8}
use Rattle.std.specs.List.{slice_split, onto_first, list_all, list_any, position_from}
use Rattle.std.proofs.lemmas.Str.{utf8_valid_len-IsUtf8}
use Rattle.std.proofs.lemmas.List.{append-nil}
use Rattle.std.proofs.lemmas.Bool.{le-ltb}
use Rattle.std.proofs.lemmas.List.Folds.{list_all-append}
use Rattle.std.proofs.lemmas.Iterator.Adapters.{position_from-zero}
use Rattle.std.proofs.Math.Seq.{take-length}
use Rattle.mx_base.specs.Path.{is_slash, is_refused, is_outside, is_segment, segments_of, path_of, is_path, with_slashes}
use Rattle.mx_base.specs.Join.{first_refused, or_past, Segments, popped, step, walk, and_then}
use Rattle.mx_base.specs.declared.path_join.PathError.{PathError}

or_past_all : (o : Option ℕ) (n : ℕ) → or_past o n n ≡ o
or_past_all (Some at) n = refl
or_past_all None n = ap (λ (b : Bool). cond b (Some n) None) (le-ltb n n (omega arith))

-- in a text only refused bytes are refused
pub first_refused_of_utf8 : (text : List ℕ) → IsUtf8 text → first_refused text ≡ position is_refused text
first_refused_of_utf8 text u =
    ap (λ (n : ℕ). or_past (position is_refused (take n text)) n (length text)) (utf8_valid_len-IsUtf8 text u)
    ∙ ap (λ (t : List ℕ). or_past (position is_refused t) (length text) (length text)) (take-length text)
    ∙ or_past_all (position is_refused text) (length text)

pub path_of_first : (s : List ℕ) (ss : List (List ℕ)) → path_of (s ∷ ss) ≡ s ++ with_slashes ss
path_of_first s [] = sym (append-nil s)
path_of_first s (t ∷ ts) = ap (λ (rest : List ℕ). s ++ 47 ∷ rest) (path_of_first t ts)

either : (a b : Bool) → (a || b) ≡ false → (a ≡ false) × (b ≡ false)
either true b e = cc
either false b e = (refl, e)

pub both : (a b : Bool) → (a && b) ≡ true → (a ≡ true) × (b ≡ true)
both true b e = (refl, e)
both false b e = cc

not_true : (b : Bool) → not b ≡ true → b ≡ false
not_true true e = cc
not_true false e = refl

-- no byte that a segment lacks
abbrev pub is_clean : List ℕ → Bool
is_clean piece = not (list_any is_outside piece)

clean_first : (b : ℕ) (bs : List ℕ) → is_clean (b ∷ bs) ≡ true → (is_slash b ≡ false) × (is_clean bs ≡ true)
clean_first b bs e =
    let parts = either (is_outside b) (list_any is_outside bs) (not_true (list_any is_outside (b ∷ bs)) e) in
    ((either (is_slash b) (is_refused b) parts.0).0, ap not parts.1)

pub split_clean : (piece : List ℕ) → is_clean piece ≡ true → slice_split is_slash piece ≡ piece ∷ []
split_clean [] e = refl
split_clean (b ∷ bs) e =
    let parts = clean_first b bs e in
    ap (λ (t : Bool). cond t ([] ∷ slice_split is_slash bs) (onto_first b (slice_split is_slash bs))) parts.0
    ∙ ap (onto_first b) (split_clean bs parts.1)

split_after : (piece rest : List ℕ) → is_clean piece ≡ true → slice_split is_slash (piece ++ 47 ∷ rest) ≡ piece ∷ slice_split is_slash rest
split_after [] rest e = refl
split_after (b ∷ bs) rest e =
    let parts = clean_first b bs e in
    ap (λ (t : Bool). cond t ([] ∷ slice_split is_slash (bs ++ 47 ∷ rest)) (onto_first b (slice_split is_slash (bs ++ 47 ∷ rest)))) parts.0
    ∙ ap (onto_first b) (split_after bs rest parts.1)

pub clean_segment : (name : List ℕ) → is_segment name ≡ true → is_clean name ≡ true
clean_segment name e =
    (both (not (bytes_eq name [] || bytes_eq name (codes ".")) && not (bytes_eq name (codes ".."))) (is_clean name) e).1

split_path : (s : List ℕ) (ss : List (List ℕ)) → list_all is_segment (s ∷ ss) ≡ true → slice_split is_slash (path_of (s ∷ ss)) ≡ s ∷ ss
split_path s [] e = split_clean s (clean_segment s (both (is_segment s) true e).0)
split_path s (t ∷ ts) e =
    let parts = both (is_segment s) (list_all is_segment (t ∷ ts)) e in
    split_after s (path_of (t ∷ ts)) (clean_segment s parts.0)
    ∙ ap (λ (rest : List (List ℕ)). s ∷ rest) (split_path t ts parts.1)

segments_at : (s : List ℕ) (ss : List (List ℕ)) → is_segment s ≡ true → segments_of (path_of (s ∷ ss)) ≡ slice_split is_slash (path_of (s ∷ ss))
segments_at [] ss e = cc
segments_at (b ∷ bs) [] e = refl
segments_at (b ∷ bs) (t ∷ ts) e = refl

-- segments with slashes between them are a path of these segments
pub path_of_segments : (segments : List (List ℕ)) → list_all is_segment segments ≡ true → is_path (path_of segments) ≡ true
path_of_segments [] e = refl
path_of_segments (s ∷ ss) e =
    ap (list_all is_segment) (segments_at s ss (both (is_segment s) (list_all is_segment ss) e).0 ∙ split_path s ss e) ∙ e

pub path_of_split : (segments rest : List (List ℕ)) (first text : List ℕ) → segments ≡ first ∷ rest → list_all is_segment segments ≡ true → text ≡ first ++ with_slashes rest → is_path text ≡ true
path_of_split segments rest first text split all is =
    ap is_path (is ∙ sym (path_of_first first rest) ∙ ap path_of (sym split)) ∙ path_of_segments segments all

position_from_none : (i : ℕ) (text : List ℕ) → position_from is_refused i text ≡ None → list_any is_refused text ≡ false
position_from_none i [] e = refl
position_from_none i (b ∷ bs) e = at (is_refused b) refl e (position_from_none (i + 1) bs)
  where
    at : (t : Bool) → is_refused b ≡ t → cond t (Some i) (position_from is_refused (i + 1) bs) ≡ None → (position_from is_refused (i + 1) bs ≡ None → list_any is_refused bs ≡ false) → (is_refused b || list_any is_refused bs) ≡ false
    at true is n rest = cc
    at false is n rest = ap (λ (t : Bool). t || list_any is_refused bs) is ∙ rest n

-- a text in which no byte is refused has none
pub none_refused : (text : List ℕ) → position is_refused text ≡ None → list_any is_refused text ≡ false
none_refused text e = position_from_none 0 text (sym (position_from-zero is_refused text) ∙ e)

clean_onto_first : (b : ℕ) (parts : List (List ℕ)) → is_outside b ≡ false → list_all is_clean parts ≡ true → list_all is_clean (onto_first b parts) ≡ true
clean_onto_first b [] out all = ap (λ (t : Bool). not (t || false) && true) out
clean_onto_first b (part ∷ parts) out all =
    ap (λ (t : Bool). not (t || list_any is_outside part) && list_all is_clean parts) out ∙ all

-- what stands between the slashes has no slash
clean_pieces : (text : List ℕ) → list_any is_refused text ≡ false → list_all is_clean (slice_split is_slash text) ≡ true
clean_pieces [] e = refl
clean_pieces (b ∷ bs) e =
    let parts = either (is_refused b) (list_any is_refused bs) e in
    at (is_slash b) refl parts.0 (clean_pieces bs parts.1)
  where
    at : (t : Bool) → is_slash b ≡ t → is_refused b ≡ false → list_all is_clean (slice_split is_slash bs) ≡ true → list_all is_clean (cond t ([] ∷ slice_split is_slash bs) (onto_first b (slice_split is_slash bs))) ≡ true
    at true is own rest = rest
    at false is own rest = clean_onto_first b (slice_split is_slash bs) (ap (λ (t : Bool). t || is_refused b) is ∙ own) rest

all_take : (n : ℕ) (names : List (List ℕ)) → list_all is_segment names ≡ true → list_all is_segment (take n names) ≡ true
all_take zero names e = refl
all_take (suc n) [] e = refl
all_take (suc n) (x ∷ xs) e =
    let parts = both (is_segment x) (list_all is_segment xs) e in
    ap (λ (t : Bool). t && list_all is_segment (take n xs)) parts.0 ∙ all_take n xs parts.1

all_pushed : (names : List (List ℕ)) (name : List ℕ) → list_all is_segment names ≡ true → is_segment name ≡ true → list_all is_segment (names ++ name ∷ []) ≡ true
all_pushed names name all own =
    list_all-append is_segment names (name ∷ []) ∙ ap (λ (t : Bool). t && (is_segment name && true)) all ∙ ap (λ (t : Bool). t && true) own

step_keeps : (names : Segments) (piece : List ℕ) (out : Segments) → list_all is_segment names ≡ true → is_clean piece ≡ true → step names piece ≡ Ok out → list_all is_segment out ≡ true
step_keeps names piece out all clean e = at (bytes_eq piece [] || bytes_eq piece (codes ".")) (bytes_eq piece (codes "..")) refl refl e
  where
    after_pop : (ns : Segments) → list_all is_segment ns ≡ true → popped ns ≡ Ok out → list_all is_segment out ≡ true
    after_pop [] all p = cc
    after_pop (n ∷ ns) all p =
        let is : take (length (n ∷ ns) - 1) (n ∷ ns) ≡ out = cc in
        subst (λ (o : Segments). list_all is_segment o ≡ true) is (all_take (length (n ∷ ns) - 1) (n ∷ ns) all)

    at : (a b : Bool) → (bytes_eq piece [] || bytes_eq piece (codes ".")) ≡ a → bytes_eq piece (codes "..") ≡ b → cond a (Ok names) (cond b (popped names) (Ok (names ++ piece ∷ []))) ≡ Ok out → list_all is_segment out ≡ true
    at true b x y s = let is : names ≡ out = cc in subst (λ (o : Segments). list_all is_segment o ≡ true) is all
    at false true x y s = after_pop names all s
    at false false x y s =
        let is : names ++ piece ∷ [] ≡ out = cc in
        let own : is_segment piece ≡ true = ap (λ (t : Bool). not t && not (bytes_eq piece (codes "..")) && is_clean piece) x ∙ ap (λ (t : Bool). not t && is_clean piece) y ∙ clean in
        subst (λ (o : Segments). list_all is_segment o ≡ true) is (all_pushed names piece all own)

walk_keeps : (names : Segments) (pieces : List (List ℕ)) (out : Segments) → list_all is_segment names ≡ true → list_all is_clean pieces ≡ true → walk names pieces ≡ Ok out → list_all is_segment out ≡ true
walk_keeps names [] out all clean e = let is : names ≡ out = cc in subst (λ (o : Segments). list_all is_segment o ≡ true) is all
walk_keeps names (piece ∷ pieces) out all clean e =
    let parts = both (is_clean piece) (list_all is_clean pieces) clean in
    at (step names piece) refl e parts.0 (λ s own. walk_keeps s pieces out own parts.1)
  where
    at : (r : Result Segments PathError) → step names piece ≡ r → and_then r (λ s. walk s pieces) ≡ Ok out → is_clean piece ≡ true → ((s : Segments) → list_all is_segment s ≡ true → walk s pieces ≡ Ok out → list_all is_segment out ≡ true) → list_all is_segment out ≡ true
    at (Ok s) is n own rest = rest s (step_keeps names piece s all own is) n
    at (Err x) is n own rest = cc

-- the segments that a text leads to are segments
pub walked_segments : (names : Segments) (text : List ℕ) (out : Segments) → list_all is_segment names ≡ true → list_any is_refused text ≡ false → walk names (slice_split is_slash text) ≡ Ok out → list_all is_segment out ≡ true
walked_segments names text out all clean e = walk_keeps names (slice_split is_slash text) out all (clean_pieces text clean) e

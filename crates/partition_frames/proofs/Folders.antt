-- A path that isn't the root's joins the root to itself.
use Rattle.std.proofs.Common.{◌≡◌, ◌≢◌, ℕ, ◌+◌, arith, Bool, true, false, ◌||◌, ◌&&◌, not, cond, List, [], ◌∷◌, ◌++◌, position, Option, Some, None, Result, Ok, Err, refl, sym, ◌∙◌, ap, subst, append_assoc, bytes_eq, codes}
use Rattle.std.specs.Str.{IsUtf8}
use Rattle.std.specs.List.{slice_split, onto_first, list_all, list_any, position_from}
use Rattle.std.proofs.lemmas.Bool.{eqb-true}
use Rattle.std.proofs.lemmas.Iterator.Adapters.{position_from-zero}
use Rattle.std.proofs.lemmas.List.Splits.{join_with_byte-slice_split}
use Rattle.mx_base.specs.Path.{is_slash, is_refused, is_outside, is_segment, is_path, path_of}
use Rattle.mx_base.specs.Join.{Segments, and_then, finished, first_refused, from_base, joined, step, unless_refused, walk}
use Rattle.mx_base.specs.declared.path_join.PathError.{PathError}
use Rattle.mx_base.proofs.NameLemmas.{name_is_utf8}
use Rattle.mx_base.proofs.PathLemmas.{both, clean_segment, first_refused_of_utf8, is_clean}
use Rattle.partition_frames.specs.Frame.{IsFolder, IsSent, IsText}
use Rattle.partition_frames.proofs.Singles.{some_name}

not_true : (b : Bool) → not b ≡ true → b ≡ false
not_true true e = cc
not_true false e = refl

either : (a b : Bool) → (a || b) ≡ false → (a ≡ false) × (b ≡ false)
either true b e = cc
either false b e = (refl, e)

-- ---- no byte of it is refused

clean_all : (parts : List (List ℕ)) → list_all is_segment parts ≡ true → list_all is_clean parts ≡ true
clean_all [] e = refl
clean_all (part ∷ parts) e =
    let split = both (is_segment part) (list_all is_segment parts) e in
    ap (λ (t : Bool). t && list_all is_clean parts) (clean_segment part split.0) ∙ clean_all parts split.1

from_onto : (b : ℕ) (parts : List (List ℕ)) → list_all is_clean (onto_first b parts) ≡ true → (is_outside b ≡ false) × (list_all is_clean parts ≡ true)
from_onto b [] e =
    let whole = both (is_clean (b ∷ [])) true e in
    ((either (is_outside b) false (not_true (list_any is_outside (b ∷ [])) whole.0)).0, refl)
from_onto b (part ∷ parts) e =
    let whole = both (is_clean (b ∷ part)) (list_all is_clean parts) e in
    let inside = either (is_outside b) (list_any is_outside part) (not_true (list_any is_outside (b ∷ part)) whole.0) in
    (inside.0, ap (λ (t : Bool). not t && list_all is_clean parts) inside.1 ∙ whole.1)

slash_stands : (b : ℕ) → is_slash b ≡ true → is_refused b ≡ false
slash_stands b e = ap is_refused (eqb-true b 47 e)

none_refused : (text : List ℕ) → list_all is_clean (slice_split is_slash text) ≡ true → list_any is_refused text ≡ false
none_refused [] e = refl
none_refused (b ∷ bs) e = at (is_slash b) refl e (λ h. none_refused bs h)
  where
    at : (t : Bool) → is_slash b ≡ t → list_all is_clean (cond t ([] ∷ slice_split is_slash bs) (onto_first b (slice_split is_slash bs))) ≡ true
        → (list_all is_clean (slice_split is_slash bs) ≡ true → list_any is_refused bs ≡ false)
        → (is_refused b || list_any is_refused bs) ≡ false
    at true is h rest = ap (λ (t : Bool). t || list_any is_refused bs) (slash_stands b is) ∙ rest h
    at false is h rest =
        let parts = from_onto b (slice_split is_slash bs) h in
        ap (λ (t : Bool). t || list_any is_refused bs) (either (is_slash b) (is_refused b) parts.0).1 ∙ rest parts.1

no_position_from : (i : ℕ) (text : List ℕ) → list_any is_refused text ≡ false → position_from is_refused i text ≡ None
no_position_from i [] e = refl
no_position_from i (b ∷ bs) e =
    let parts = either (is_refused b) (list_any is_refused bs) e in
    ap (λ (t : Bool). cond t (Some i) (position_from is_refused (i + 1) bs)) parts.0 ∙ no_position_from (i + 1) bs parts.1

no_position : (text : List ℕ) → list_any is_refused text ≡ false → position is_refused text ≡ None
no_position text e = position_from-zero is_refused text ∙ no_position_from 0 text e

-- ---- its segments are walked

step_on : (names : Segments) (piece : List ℕ) → is_segment piece ≡ true → step names piece ≡ Ok (names ++ piece ∷ [])
step_on names piece e =
    let whole = both (not (bytes_eq piece [] || bytes_eq piece (codes ".")) && not (bytes_eq piece (codes ".."))) (is_clean piece) e in
    let dots = both (not (bytes_eq piece [] || bytes_eq piece (codes "."))) (not (bytes_eq piece (codes ".."))) whole.0 in
    let a = not_true (bytes_eq piece [] || bytes_eq piece (codes ".")) dots.0 in
    let b = not_true (bytes_eq piece (codes "..")) dots.1 in
    rw (a, b) refl

walk_on : (names : Segments) (pieces : List (List ℕ)) → list_all is_segment pieces ≡ true → walk names pieces ≡ Ok (names ++ pieces)
walk_on names [] e = ap Ok (sym (append_nil names))
  where
    append_nil : (l : Segments) → l ++ [] ≡ l
    append_nil [] = refl
    append_nil (x ∷ xs) = ap (λ t. x ∷ t) (append_nil xs)
walk_on names (piece ∷ pieces) e =
    let split = both (is_segment piece) (list_all is_segment pieces) e in
    ap (λ (r : Result Segments PathError). and_then r (λ s. walk s pieces)) (step_on names piece split.0)
    ∙ walk_on (names ++ piece ∷ []) pieces split.1 ∙ ap Ok (append_assoc names (piece ∷ []) pieces)

finished_by : (s : Segments) (b : ℕ) (bs : List ℕ) → path_of s ≡ b ∷ bs → finished (Ok s) ≡ Ok (b ∷ bs)
finished_by [] b bs e = absurd (cc e)
finished_by (x ∷ xs) b bs e = ap Ok e

from_root : (b : ℕ) (bs : List ℕ) → list_all is_segment (slice_split is_slash (b ∷ bs)) ≡ true → from_base [] (b ∷ bs) ≡ Ok (b ∷ bs)
from_root b bs e = at (is_slash b) refl
  where
    at : (t : Bool) → is_slash b ≡ t
        → cond t (Err PathError.AboveRoot) (finished (walk [] (slice_split is_slash (b ∷ bs)))) ≡ Ok (b ∷ bs)
    at true is =
        let h : list_all is_segment ([] ∷ slice_split is_slash bs) ≡ true =
        sym (ap (λ (t : Bool). list_all is_segment (cond t ([] ∷ slice_split is_slash bs) (onto_first b (slice_split is_slash bs)))) is) ∙ e in
        absurd (cc h)
    at false is =
        ap finished (walk_on [] (slice_split is_slash (b ∷ bs)) e)
        ∙ finished_by (slice_split is_slash (b ∷ bs)) b bs (join_with_byte-slice_split 47 (b ∷ bs))

pub joined_itself : (dir : List ℕ) → dir ≢ [] → is_path dir ≡ true → IsUtf8 dir → joined [] dir ≡ Ok dir
joined_itself [] some path utf8 = absurd (some refl)
joined_itself (b ∷ bs) some path utf8 =
    let clean = none_refused (b ∷ bs) (clean_all (slice_split is_slash (b ∷ bs)) path) in
    let none : first_refused (b ∷ bs) ≡ None = first_refused_of_utf8 (b ∷ bs) utf8 ∙ no_position (b ∷ bs) clean in
    ap (λ (o : Option ℕ). unless_refused o (from_base [] (b ∷ bs))) none ∙ from_root b bs path

-- ---- folders of frames

pub folders_are_texts : (dir : List ℕ) → IsFolder dir → IsText dir
folders_are_texts dir is = is.text

pub sent_folder : (dir : List ℕ) → IsText dir → IsSent dir → is_path dir ≡ true → IsUtf8 dir → IsFolder dir
sent_folder dir text sent path utf8 = record {
  text = text;
  itself = joined_itself dir sent.not_root path utf8;
  outside = sent.outside;
}

not_root : ◌≢◌ {A = List ℕ} (97 ∷ []) []
not_root e = cc e

pub some_folder : IsFolder (97 ∷ [])
some_folder = record {
  text = omega arith;
  itself = joined_itself (97 ∷ []) not_root refl (name_is_utf8 (97 ∷ []) some_name.bytes);
  outside = refl;
}

-- ---- the root isn't one

nothing_utf8 : IsUtf8 []
nothing_utf8 = name_is_utf8 [] (λ k below. absurd (omega (arith, below)))

root_refused : joined [] [] ≡ Err PathError.Empty
root_refused = ap (λ (o : Option ℕ). unless_refused o (from_base [] [])) (first_refused_of_utf8 [] nothing_utf8)

pub folder_sent : (dir : List ℕ) → IsFolder dir → IsSent dir
folder_sent dir is = record {
  not_root = λ e. let ok : joined [] [] ≡ Ok [] = subst (λ (d : List ℕ). joined [] d ≡ Ok d) e is.itself in absurd (cc (ok, root_refused));
  outside = is.outside;
}

-- Paths below a folder.
use Rattle.std.proofs.Common.{◌≡◌, ℕ, ◌+◌, ◌<◌, Bool, true, false, ◌&&◌, cond, List, [], ◌∷◌, ◌++◌, length, get_or, ◌==◌, Some, None, refl, sym, ◌∙◌, ap, subst, append_assoc, arith}
use Rattle.std.specs.List.{slice_split, onto_first, list_all}
use Rattle.std.proofs.lemmas.List.Folds.{list_all-append}
use Rattle.std.specs.Str.{IsUtf8, IsCharBoundary}
use Rattle.std.proofs.lemmas.Str.{IsCharBoundary-start, IsCharBoundary-after_ascii}
use Rattle.std.proofs.lemmas.Bool.{eqb-true}
use Rattle.mx_base.specs.Path.{is_slash, text_after, path_from, is_segment, segments_of, is_path, child_of, folder_text}
use Rattle.mx_base.proofs.PathLemmas.{split_clean, clean_segment, both}

-- more than no parts
abbrev IsSome_part : List (List ℕ) → Type 0
IsSome_part [] = ⊥
IsSome_part (part ∷ parts) = Unit {0}

onto_some : (b : ℕ) (parts : List (List ℕ)) → IsSome_part (onto_first b parts)
onto_some b [] = tt
onto_some b (part ∷ parts) = tt

split_some : (text : List ℕ) → IsSome_part (slice_split is_slash text)
split_some [] = tt
split_some (b ∷ bs) = at (is_slash b)
  where
    at : (t : Bool) → IsSome_part (cond t ([] ∷ slice_split is_slash bs) (onto_first b (slice_split is_slash bs)))
    at true = tt
    at false = onto_some b (slice_split is_slash bs)

onto_append : (b : ℕ) (parts more : List (List ℕ)) → IsSome_part parts → onto_first b (parts ++ more) ≡ onto_first b parts ++ more
onto_append b [] more none = absurd none
onto_append b (part ∷ parts) more some = refl

-- a text is cut at each slash, so at one as well
pub split_at_slash : (xs ys : List ℕ) → slice_split is_slash (xs ++ 47 ∷ ys) ≡ slice_split is_slash xs ++ slice_split is_slash ys
split_at_slash [] ys = refl
split_at_slash (b ∷ bs) ys = at (is_slash b) (split_at_slash bs ys)
  where
    at : (t : Bool) → slice_split is_slash (bs ++ 47 ∷ ys) ≡ slice_split is_slash bs ++ slice_split is_slash ys → cond t ([] ∷ slice_split is_slash (bs ++ 47 ∷ ys)) (onto_first b (slice_split is_slash (bs ++ 47 ∷ ys))) ≡ cond t ([] ∷ slice_split is_slash bs) (onto_first b (slice_split is_slash bs)) ++ slice_split is_slash ys
    at true rest = ap (λ (ps : List (List ℕ)). [] ∷ ps) rest
    at false rest = ap (onto_first b) rest ∙ onto_append b (slice_split is_slash bs) (slice_split is_slash ys) (split_some bs)

segment_split : (name : List ℕ) → is_segment name ≡ true → segments_of name ≡ name ∷ []
segment_split [] e = cc
segment_split (b ∷ bs) e = split_clean (b ∷ bs) (clean_segment (b ∷ bs) e)

all_one : (name : List ℕ) → is_segment name ≡ true → list_all is_segment (name ∷ []) ≡ true
all_one name e = ap (λ (t : Bool). t && true) e

-- the path of a name in a folder is a path
pub child_is_path : (folder name : List ℕ) → is_path folder ≡ true → is_segment name ≡ true → is_path (child_of folder name) ≡ true
child_is_path [] name p s = ap (list_all is_segment) (segment_split name s) ∙ all_one name s
child_is_path (b ∷ bs) name p s =
    ap (λ (t : List ℕ). list_all is_segment (segments_of t)) (append_assoc (b ∷ bs) (47 ∷ []) name)
    ∙ ap (list_all is_segment) (split_at_slash (b ∷ bs) name)
    ∙ ap (λ (ps : List (List ℕ)). list_all is_segment (slice_split is_slash (b ∷ bs) ++ ps)) (split_clean name (clean_segment name s))
    ∙ list_all-append is_segment (slice_split is_slash (b ∷ bs)) (name ∷ [])
    ∙ ap (λ (t : Bool). t && list_all is_segment (name ∷ [])) p
    ∙ all_one name s

whole_split : (rest : List ℕ) → list_all is_segment (slice_split is_slash rest) ≡ true → is_path rest ≡ true
whole_split [] e = refl
whole_split (b ∷ bs) e = e

-- what follows a folder in a path is a path
pub rest_is_path : (folder rest : List ℕ) → is_path (child_of folder rest) ≡ true → is_path rest ≡ true
rest_is_path [] rest p = p
rest_is_path (b ∷ bs) rest p =
    whole_split rest
    (both (list_all is_segment (slice_split is_slash (b ∷ bs))) (list_all is_segment (slice_split is_slash rest))
    (sym (list_all-append is_segment (slice_split is_slash (b ∷ bs)) (slice_split is_slash rest))
    ∙ ap (list_all is_segment) (sym (split_at_slash (b ∷ bs) rest))
    ∙ ap (λ (t : List ℕ). list_all is_segment (segments_of t)) (sym (append_assoc (b ∷ bs) (47 ∷ []) rest))
    ∙ p)).1

-- what follows a beginning in a text
pub after_is : (beginning text rest : List ℕ) → text_after beginning text ≡ Some rest → text ≡ beginning ++ rest
after_is [] text rest e = cc
after_is (b ∷ bs) [] rest e = cc
after_is (b ∷ bs) (c ∷ cs) rest e = at (b == c) refl e (after_is bs cs rest)
  where
    at : (t : Bool) → (b == c) ≡ t → cond t (text_after bs cs) None ≡ Some rest → (text_after bs cs ≡ Some rest → cs ≡ bs ++ rest) → c ∷ cs ≡ b ∷ (bs ++ rest)
    at true same e next = let is : b ≡ c = eqb-true b c same in ap (λ (x : ℕ). x ∷ cs) (sym is) ∙ ap (λ (xs : List ℕ). b ∷ xs) (next e)
    at false same e next = cc

-- a path as it is seen from a folder is a path
pub path_from_is_path : (folder path rest : List ℕ) → is_path path ≡ true → path_from folder path ≡ Some rest → is_path rest ≡ true
path_from_is_path folder path rest p e =
    rest_is_path folder rest (subst (λ (t : List ℕ). is_path t ≡ true) (after_is (folder_text folder) path rest e) p)

pub starts_at_character : (text : List ℕ) → IsUtf8 text → IsCharBoundary text 0
starts_at_character text u = IsCharBoundary-start text u

pub follows_slash : (text : List ℕ) (i : ℕ) → IsUtf8 text → i < length text → get_or text i 0 ≡ 47 → IsCharBoundary text (i + 1)
follows_slash text i u l e = IsCharBoundary-after_ascii text i u l (omega (arith, e))

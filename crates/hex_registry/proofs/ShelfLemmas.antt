-- Shelves are found by the places of their names.
use Rattle.std.proofs.Common.{◌≡◌, ℕ, suc, ◌+◌, ◌<◌, ◌≤◌, Bool, true, false, not, cond, List, [], ◌∷◌, map, find, length, position, slice_get, Option, Some, None, bytes_eq, refl, sym, ap, subst, ◌∙◌, nat_lt, arith}
use Rattle.std.specs.List.{position_or_len}
use Rattle.std.proofs.lemmas.Bool.{cases_Bool, ltb-false, ltb-true}
use Rattle.std.proofs.lemmas.List.{length-map}
use Rattle.std.proofs.lemmas.List.Folds.{find_at}
use Rattle.std.proofs.lemmas.Option.{slice_get_past}
use Rattle.hex_registry.specs.Shelves.{shelf_names, shelf_of}
use Rattle.hex_registry.specs.declared.shelf.Shelf.{Shelf}

-- the place among mapped elements
first_mapped : {A : Type 0} (f : A → List ℕ) (t : List ℕ → Bool) (xs : List A) → position_or_len t (map f xs) ≡ position_or_len (λ x. t (f x)) xs
first_mapped f t [] = refl
first_mapped f t (x ∷ xs) = ap (λ (n : ℕ). cond (not (t (f x))) (1 + n) 0) (first_mapped f t xs)

at_mapped : {A : Type 0} (f : A → List ℕ) (t : List ℕ → Bool) (xs : List A) (i : ℕ) → position t (map f xs) ≡ Some i → slice_get xs i ≡ find (λ x. t (f x)) xs
at_mapped f t xs i e = at (nat_lt (position_or_len t (map f xs)) (length (map f xs))) e
  where
    at : (b : Bool) → cond b (Some (position_or_len t (map f xs))) None ≡ Some i → slice_get xs i ≡ find (λ x. t (f x)) xs
    at true h = let same : position_or_len t (map f xs) ≡ i = cc in ap (slice_get xs) (sym same ∙ first_mapped f t xs) ∙ sym (find_at (λ x. t (f x)) xs)
    at false h = absurd (cc)

none_mapped : {A : Type 0} (f : A → List ℕ) (t : List ℕ → Bool) (xs : List A) → position t (map f xs) ≡ None → None ≡ find (λ x. t (f x)) xs
none_mapped f t xs e = at (nat_lt (position_or_len t (map f xs)) (length (map f xs))) refl e
  where
    at : (b : Bool) → nat_lt (position_or_len t (map f xs)) (length (map f xs)) ≡ b → cond b (Some (position_or_len t (map f xs))) None ≡ None
        → None ≡ find (λ x. t (f x)) xs
    at true is h = absurd (cc)
    at false is h =
        let past = ltb-false (position_or_len t (map f xs)) (length (map f xs)) is in
        let long : length (map f xs) ≡ length xs = length-map xs f in
        let same = first_mapped f t xs in
        let over : length xs ≤ position_or_len (λ x. t (f x)) xs = omega (arith, past, long, same) in
        sym (find_at (λ x. t (f x)) xs ∙ slice_get_past xs (position_or_len (λ x. t (f x)) xs) over)

-- the shelf at the place of a name
pub shelf_at : (shelves : List Shelf) (keys : List (List ℕ)) (name : List ℕ) (i : ℕ) → keys ≡ shelf_names shelves → position (bytes_eq name) keys ≡ Some i
    → slice_get shelves i ≡ shelf_of shelves name
shelf_at shelves keys name i named e =
    at_mapped (λ (s : Shelf). s.name) (bytes_eq name) shelves i (subst (λ (ks : List (List ℕ)). position (bytes_eq name) ks ≡ Some i) named e)

pub no_shelf : (shelves : List Shelf) (keys : List (List ℕ)) (name : List ℕ) → keys ≡ shelf_names shelves → position (bytes_eq name) keys ≡ None
    → None ≡ shelf_of shelves name
no_shelf shelves keys name named e =
    none_mapped (λ (s : Shelf). s.name) (bytes_eq name) shelves (subst (λ (ks : List (List ℕ)). position (bytes_eq name) ks ≡ None) named e)

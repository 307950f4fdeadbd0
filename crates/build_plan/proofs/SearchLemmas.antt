-- Places in order, and what is found among them.
use Rattle.std.proofs.Common.{◌≡◌, ◌≢◌, ℕ, zero, suc, ◌<◌, ◌≤◌, inl, inr, Bool, true, false, eqb, List, [], ◌∷◌, length, get_or, AllPairs, Contains, refl, sym, ◌∙◌, ap, subst, arith, eq-eqb, eqb-true, Option, Some, None, Ok, Err}
use Rattle.std.specs.List.{AllZip, slice_get, position}
use Rattle.std.specs.List.Sorted.{IsBinarySearchResult}
use Rattle.std.specs.Ordering.{nat_cmp}
use Rattle.std.specs.Prelude.{nat_eq}
use Rattle.std.proofs.lemmas.Bool.{cases_order, cases_lt, cases_eq}
use Rattle.std.proofs.lemmas.List.{get_or_default}
use Rattle.std.proofs.lemmas.List.Sorted.{searched}
use Rattle.std.proofs.lemmas.Option.{none-some, slice_get_within, slice_get-get_or, get_or_from_slice_get}
use Rattle.build_plan.specs.Needs.{is_child_at}
use Rattle.build_plan.proofs.Positions.{position_first, position_none}

not_equal : (x y : ℕ) → x ≢ y → eqb x y ≡ false
not_equal x y apart = at (eqb x y) refl
  where
    at : (b : Bool) → eqb x y ≡ b → b ≡ false
    at true e = absurd (apart (eqb-true x y e))
    at false e = refl

module _ (places : List ℕ) (in_order : AllPairs (λ a b. a < b) places) where
  rising : (i j : ℕ) → i ≤ j → j < length places → get_or places i 0 ≤ get_or places j 0
  rising i j le within = elim (cases_eq i j) [
    | inl same ↦ omega (arith, ap (λ (n : ℕ). get_or places n 0) same)
    | inr apart ↦ omega (arith, in_order i j 0 (omega (arith, le, apart)) within)
  ]

  strictly : (i j : ℕ) → i < length places → j < length places → get_or places i 0 ≡ get_or places j 0 → i ≡ j
  strictly i j in_i in_j same = elim (cases_order i j) [
    | inl equal ↦ equal
    | inr differ ↦ elim differ [
      | inl less ↦ absurd (omega (arith, same, in_order i j 0 less in_j))
      | inr more ↦ absurd (omega (arith, same, in_order j i 0 more in_i))
    ]
  ]

  pub found_there : (place at : ℕ) → IsBinarySearchResult (λ y. nat_cmp y place) places (Ok at) → (at < length places) × (get_or places at 0 ≡ place)
  found_there place at search_ok = let found = searched places place (Ok at) search_ok rising in (found.0, found.1)

  pub not_there : (place at : ℕ) → IsBinarySearchResult (λ y. nat_cmp y place) places (Err at) → (k : ℕ) → k < length places → get_or places k 0 ≢ place
  not_there place at search_err k within is =
      let found = searched places place (Err at) search_err rising in
      elim (cases_lt k at) [
        | inl before ↦ omega (arith, is, found.1 k before)
        | inr after ↦ omega (arith, is, found.2 k after within)
      ]

  pub child_found : (by at : ℕ) (declared : Option ℕ) → declared ≡ Some by → IsBinarySearchResult (λ y. nat_cmp y by) places (Ok at) → (node : ℕ) → node < length places → is_child_at (get_or places node 0) declared ≡ eqb node at
  child_found by at declared is search_ok node within =
      let found = found_there by at search_ok in
      ap (is_child_at (get_or places node 0)) is
      ∙ elim (cases_eq node at) [
        | inl same ↦ eq-eqb (get_or places node 0) by (ap (λ (n : ℕ). get_or places n 0) same ∙ found.1) ∙ sym (eq-eqb node at same)
        | inr apart ↦ not_equal (get_or places node 0) by (λ e. apart (strictly node at within found.0 (e ∙ sym found.1))) ∙ sym (not_equal node at apart)
      ]

  pub child_missing : (by at : ℕ) (declared : Option ℕ) → declared ≡ Some by → IsBinarySearchResult (λ y. nat_cmp y by) places (Err at) → (node : ℕ) → node < length places → is_child_at (get_or places node 0) declared ≡ false
  child_missing by at declared is search_err node within =
      ap (is_child_at (get_or places node 0)) is ∙ not_equal (get_or places node 0) by (not_there by at search_err node within)

  pub is_there : (place at : ℕ) → IsBinarySearchResult (λ y. nat_cmp y place) places (Err at) → Contains places place → ⊥
  is_there place at search_err has =
      not_there place at search_err has.0 has.1 (get_or_default places has.0 0 place has.1 ∙ has.2)

  earlier_differs : (place at : ℕ) → (at < length places) × (get_or places at 0 ≡ place) → (j y : ℕ) → j < at → slice_get places j ≡ Some y → nat_eq place y ≡ false
  earlier_differs place at found j y before stands =
      let is : get_or places j 0 ≡ y = get_or_from_slice_get places j y 0 stands in
      not_equal place y (λ same. omega (arith, same, is, found.1, in_order j at 0 before found.0))

  -- where a search finds a place, the place stands first
  pub position_found : (place at : ℕ) → IsBinarySearchResult (λ y. nat_cmp y place) places (Ok at) → position (nat_eq place) places ≡ Some at
  position_found place at search_ok =
      let found = found_there place at search_ok in
      let stands : slice_get places at ≡ Some place = slice_get-get_or places at 0 found.0 ∙ ap (λ (n : ℕ). Some n) found.1 in
      position_first (nat_eq place) places at place stands (eq-eqb place place refl) (earlier_differs place at found)

  pub position_missing : (place at : ℕ) → IsBinarySearchResult (λ y. nat_cmp y place) places (Err at) → position (nat_eq place) places ≡ None
  position_missing place at search_err =
      position_none (nat_eq place) places (λ j y stands.
      let within = slice_get_within places j y stands in
      let is : get_or places j 0 ≡ y = get_or_from_slice_get places j y 0 stands in
      not_equal place y (λ same. not_there place at search_err j within (is ∙ sym same)))

-- items of two lists at one place
pub zip_get : {A B : Type 0} (R : A → B → Type 0) (xs : List A) (ys : List B) (k : ℕ) (x : A) (y : B) → AllZip R xs ys → slice_get xs k ≡ Some x → slice_get ys k ≡ Some y → R x y
zip_get R [] ys k x y all at_x at_y = absurd (none-some x at_x)
zip_get R (a ∷ xs) [] k x y all at_x at_y = absurd all
zip_get R (a ∷ xs) (b ∷ ys) zero x y all at_x at_y = let same_x : a ≡ x = cc in let same_y : b ≡ y = cc in subst (λ (v : _). R v y) same_x (subst (R a) same_y all.0)
zip_get R (a ∷ xs) (b ∷ ys) (suc k) x y all at_x at_y = zip_get R xs ys k x y all.1 at_x at_y

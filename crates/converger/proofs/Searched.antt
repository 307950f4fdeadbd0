-- Places in strict order, searched by halves.
use Rattle.std.proofs.Common.{◌≡◌, ◌≢◌, ◌↔◌, ℕ, ◌<◌, ◌≤◌, inl, inr, AllPairs, Contains, List, length, get_or, sym, ◌∙◌, ap, refl, arith, Option, Some, Ok, Err}
use Rattle.std.specs.List.{slice_get}
use Rattle.std.specs.List.Sorted.{IsBinarySearchResult}
use Rattle.std.specs.Ordering.{nat_cmp}
use Rattle.std.proofs.lemmas.Bool.{cases_eq, cases_lt, cases_order}
use Rattle.std.proofs.lemmas.List.{get_or_default}
use Rattle.std.proofs.lemmas.List.Sorted.{searched}
use Rattle.std.proofs.lemmas.Option.{slice_get_within, slice_get_read, slice_get-get_or, get_or_from_slice_get}
use Rattle.semver.specs.declared.Version.{Version}
use Rattle.converger.specs.Divergence.{HasVersion}
use Rattle.converger.proofs.WebLemmas.{one_value}

module _ (places : List ℕ) (sorted : AllPairs (λ earlier later. earlier < later) places) where
  rising : (i j : ℕ) → i ≤ j → j < length places → get_or places i 0 ≤ get_or places j 0
  rising i j le within = elim (cases_eq i j) [
    | inl same ↦ omega (arith, ap (λ (n : ℕ). get_or places n 0) same)
    | inr apart ↦ omega (arith, sorted i j 0 (omega (arith, le, apart)) within)
  ]

  strictly : (i j : ℕ) → i < length places → j < length places → get_or places i 0 ≡ get_or places j 0 → i ≡ j
  strictly i j in_i in_j same = elim (cases_order i j) [
    | inl equal ↦ equal
    | inr differ ↦ elim differ [
      | inl less ↦ absurd (omega (arith, same, sorted i j 0 less in_j))
      | inr more ↦ absurd (omega (arith, same, sorted j i 0 more in_i))
    ]
  ]

  found_at : (place at : ℕ) → IsBinarySearchResult (λ y. nat_cmp y place) places (Ok at) → (at < length places) × (get_or places at 0 ≡ place)
  found_at place at result = searched places place (Ok at) result rising

  not_at : (place at : ℕ) → IsBinarySearchResult (λ y. nat_cmp y place) places (Err at) → (k : ℕ) → k < length places → get_or places k 0 ≢ place
  not_at place at result k within is =
      let found = searched places place (Err at) result rising in
      elim (cases_lt k at) [
        | inl before ↦ omega (arith, is, found.1 k before)
        | inr after ↦ omega (arith, is, found.2 k after within)
      ]

  pub found_there : (place at : ℕ) → IsBinarySearchResult (λ y. nat_cmp y place) places (Ok at) → Contains places place
  found_there place at result = let found = found_at place at result in (at, found.0, get_or_default places at place 0 found.0 ∙ found.1)

  pub not_there : (place at : ℕ) → IsBinarySearchResult (λ y. nat_cmp y place) places (Err at) → Contains places place → ⊥
  not_there place at result has = not_at place at result has.0 has.1 (sym (get_or_default places has.0 place 0 has.1) ∙ has.2)

  -- the version of a winner
  pub version_found : (versions : List (Option Version)) (place at : ℕ) → IsBinarySearchResult (λ y. nat_cmp y place) places (Ok at) → (there : Option Version)
      → at < length versions → there ≡ get_or versions at there → (v : Version) → (there ≡ Some v) ↔ HasVersion places versions place (Some v)
  version_found versions place at result there within read v =
      let found = found_at place at result in
      let stands : slice_get places at ≡ Some place = slice_get-get_or places at 0 found.0 ∙ ap (λ (n : ℕ). Some n) found.1 in
      let has : slice_get versions at ≡ Some there = slice_get_read versions (length versions) at there refl within read in (
        λ h. (at, stands, rw h at has),
        λ other.
            let here : other.0 ≡ at = strictly other.0 at (slice_get_within places other.0 place other.1) found.0
            (get_or_from_slice_get places other.0 place 0 other.1 ∙ sym found.1) in
            one_value (sym has ∙ rw here at other.2),
      )

  pub version_missing : (versions : List (Option Version)) (place at : ℕ) → IsBinarySearchResult (λ y. nat_cmp y place) places (Err at) → (v : Option Version)
      → HasVersion places versions place v → ⊥
  version_missing versions place at result v has = not_at place at result has.0 (slice_get_within places has.0 place has.1)
      (get_or_from_slice_get places has.0 place 0 has.1)

-- What stands at a place of a list that goes on.
use Rattle.std.proofs.Common.{◌≡◌, ℕ, zero, suc, ◌+◌, ◌<◌, ◌≤◌, ◌⊎◌, inl, inr, List, [], ◌∷◌, ◌++◌, length, slice_get, Some, refl, sym, ◌∙◌, arith}
use Rattle.std.proofs.lemmas.Option.{none-some, same_Some, slice_get_within}

pub get_before : {X : Type 0} (xs ys : List X) (i : ℕ) → i < length xs → slice_get (xs ++ ys) i ≡ slice_get xs i
get_before [] ys i h = absurd (omega (arith, h))
get_before (x ∷ xs) ys zero h = refl
get_before (x ∷ xs) ys (suc i) h = get_before xs ys i (omega (arith, h))

-- what stands there, stands there when more follows
pub get_longer : {X : Type 0} (xs ys : List X) (i : ℕ) (x : X) → slice_get xs i ≡ Some x → slice_get (xs ++ ys) i ≡ Some x
get_longer xs ys i x h = get_before xs ys i (slice_get_within xs i x h) ∙ h

pub get_shorter : {X : Type 0} (xs ys : List X) (i : ℕ) (x : X) → i < length xs → slice_get (xs ++ ys) i ≡ Some x → slice_get xs i ≡ Some x
get_shorter xs ys i x within h = sym (get_before xs ys i within) ∙ h

pub get_end : {X : Type 0} (xs : List X) (y : X) → slice_get (xs ++ y ∷ []) (length xs) ≡ Some y
get_end [] y = refl
get_end (x ∷ xs) y = get_end xs y

-- a place past the end is one of the list that follows
pub record IsPast {X : Type 0} (xs ys : List X) (i : ℕ) (x : X) : Type 0 where
  pub past : length xs ≤ i
  pub place : ℕ
  pub at : i ≡ length xs + place
  pub stands : slice_get ys place ≡ Some x

pub get_cases : {X : Type 0} (xs ys : List X) (i : ℕ) (x : X) → slice_get (xs ++ ys) i ≡ Some x → (slice_get xs i ≡ Some x) ⊎ IsPast xs ys i x
get_cases [] ys i x h = inr (record { past = omega arith; place = i; at = omega arith; stands = h })
get_cases (y ∷ xs) ys zero x h = inl h
get_cases (y ∷ xs) ys (suc i) x h =
    elim (get_cases xs ys i x h) [
      | inl before ↦ inl before
      | inr p ↦ let past = p.past in let at = p.at in inr (record { past = omega (arith, past); place = p.place; at = omega (arith, at); stands = p.stands })
    ]

pub get_one : {X : Type 0} (y : X) (i : ℕ) (x : X) → slice_get (y ∷ []) i ≡ Some x → (i ≡ 0) × (y ≡ x)
get_one y zero x h = (refl, same_Some y x h)
get_one y (suc i) x h = absurd (none-some x h)

-- The first place of a list where a test passes.
use Rattle.std.proofs.Common.{◌≡◌, ℕ, zero, suc, ◌<◌, Bool, true, false, cond, List, [], ◌∷◌, length, refl, ◌∙◌, ap, arith, Option, Some, None}
use Rattle.std.specs.Prelude.{nat_lt}
use Rattle.std.specs.List.{position, position_or_len, slice_get}
use Rattle.std.proofs.lemmas.Bool.{lt-ltb, le-ltb, ltb-true, ltb-false}

-- a place one later
abbrev pub later_by_one : Option ℕ → Option ℕ
later_by_one None = None
later_by_one (Some k) = Some (suc k)

module _ {X : Type 0} (p : X → Bool) where
  pub position_here : (x : X) (xs : List X) → p x ≡ true → position p (x ∷ xs) ≡ Some 0
  position_here x xs h = rw h (ap (λ (b : Bool). cond b (Some 0) None) (lt-ltb 0 (suc (length xs)) (omega arith)))

  shifted : (n m : ℕ) → cond (nat_lt (suc n) (suc m)) (Some (suc n)) None ≡ later_by_one (cond (nat_lt n m) (Some n) None)
  shifted n m = at (nat_lt n m) refl
    where
      at : (b : Bool) → nat_lt n m ≡ b → cond (nat_lt (suc n) (suc m)) (Some (suc n)) None ≡ later_by_one (cond b (Some n) None)
      at true e = ap (λ (t : Bool). cond t (Some (suc n)) None) (lt-ltb (suc n) (suc m) (omega (arith, ltb-true n m e)))
      at false e = ap (λ (t : Bool). cond t (Some (suc n)) None) (le-ltb (suc n) (suc m) (omega (arith, ltb-false n m e)))

  one_longer : (x : X) (xs : List X) → p x ≡ false → position_or_len p (x ∷ xs) ≡ suc (position_or_len p xs)
  one_longer x xs h = rw h (omega arith)

  pub position_later : (x : X) (xs : List X) → p x ≡ false → position p (x ∷ xs) ≡ later_by_one (position p xs)
  position_later x xs h = ap (λ (n : ℕ). cond (nat_lt n (suc (length xs))) (Some n) None) (one_longer x xs h) ∙ shifted (position_or_len p xs) (length xs)

  -- the first place is the one before which the test passes nowhere
  pub position_first : (xs : List X) (k : ℕ) (x : X) → slice_get xs k ≡ Some x → p x ≡ true → ((j : ℕ) (y : X) → j < k → slice_get xs j ≡ Some y → p y ≡ false) → position p xs ≡ Some k
  position_first [] k x stands passes first = cc
  position_first (y ∷ xs) zero x stands passes first = position_here y xs (let same : y ≡ x = cc in rw same passes)
  position_first (y ∷ xs) (suc k) x stands passes first =
      position_later y xs (first 0 y (omega arith) refl)
      ∙ ap later_by_one (position_first xs k x stands passes (λ j z before at. first (suc j) z (omega arith) at))

  -- where the test passes nowhere there is none
  pub position_none : (xs : List X) → ((j : ℕ) (y : X) → slice_get xs j ≡ Some y → p y ≡ false) → position p xs ≡ None
  position_none [] nowhere = refl
  position_none (y ∷ xs) nowhere =
      position_later y xs (nowhere 0 y refl) ∙ ap later_by_one (position_none xs (λ j z at. nowhere (suc j) z at))

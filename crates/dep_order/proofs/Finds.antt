-- The first place in a list that passes a test.
use Rattle.std.proofs.Common.{◌≡◌, ℕ, ◌<◌, Bool, true, false, cond, eqb, List, [], ◌∷◌, length, get_or, zero, suc, sym, refl, arith, eq-eqb, Some, None, find}
use Rattle.std.proofs.lemmas.Bool.{or_left, or_right}
use Rattle.dep_order.specs.Listing.{is_listed}

-- it is in the list, and passes
pub record Found (p : ℕ → Bool) (xs : List ℕ) (x : ℕ) : Type 0 where
  pub listed : is_listed xs x ≡ true
  pub passes : p x ≡ true

found_at : (p : ℕ → Bool) (y : ℕ) (ys : List ℕ) (x : ℕ) → (find p ys ≡ Some x → Found p ys x) → (b : Bool) → p y ≡ b → cond b (Some y) (find p ys) ≡ Some x → Found p (y ∷ ys) x
found_at p y ys x rest true passes is =
    let same : y ≡ x = cc in
    record { listed = or_left (eqb x y) (is_listed ys x) (eq-eqb x y (sym same)); passes = rw same at passes }
found_at p y ys x rest false fails is =
    let later = rest is in
    record { listed = or_right (eqb x y) (is_listed ys x) later.listed; passes = later.passes }

pub found : (p : ℕ → Bool) (xs : List ℕ) (x : ℕ) → find p xs ≡ Some x → Found p xs x
found p [] x h = absurd (cc)
found p (y ∷ ys) x h = found_at p y ys x (found p ys x) (p y) refl h

none_at : (p : ℕ → Bool) (y : ℕ) (ys : List ℕ) → (find p ys ≡ None → (i : ℕ) → i < length ys → p (get_or ys i 0) ≡ false) → (b : Bool) → p y ≡ b → cond b (Some y) (find p ys) ≡ None → (i : ℕ) → i < length (y ∷ ys) → p (get_or (y ∷ ys) i 0) ≡ false
none_at p y ys rest true passes is i within = absurd (cc)
none_at p y ys rest false fails is zero within = fails
none_at p y ys rest false fails is (suc i) within = rest is i (omega arith)

-- where there is none, each fails
pub none_found : (p : ℕ → Bool) (xs : List ℕ) → find p xs ≡ None → (i : ℕ) → i < length xs → p (get_or xs i 0) ≡ false
none_found p [] h i within = absurd (omega arith)
none_found p (y ∷ ys) h i within = none_at p y ys (none_found p ys) (p y) refl h i within

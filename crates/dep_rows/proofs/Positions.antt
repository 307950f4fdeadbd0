-- The first place at which a test passes.
use Rattle.std.proofs.Common.{◌≡◌, ℕ, zero, suc, ◌<◌, Bool, true, false, cond, List, [], ◌∷◌, ◌++◌, length, Option, Some, None, slice_get, sym, ◌∙◌, ap, subst, refl, arith}
use Rattle.std.specs.List.{position}
use Rattle.std.specs.Option.{option_map, option_or}
use Rattle.std.proofs.lemmas.Bool.Decides.{nat_tests}
use Rattle.std.proofs.lemmas.Option.{none-some, same_Some}

position-cons : {X : Type 0} (p : X → Bool) (x : X) (xs : List X) → position p (x ∷ xs) ≡ cond (p x) (Some 0) (option_map suc (position p xs))
position-cons p x xs = at (p x) refl
  where
    at : (b : Bool) → p x ≡ b → position p (x ∷ xs) ≡ cond b (Some 0) (option_map suc (position p xs))
    at true is = grind (arith, nat_tests)
    at false is = grind (arith, nat_tests)

-- the first place is one further after what is appended, where none is there
pub position-push : {X : Type 0} (p : X → Bool) (xs : List X) (x : X)
    → position p (xs ++ x ∷ []) ≡ option_or (position p xs) (cond (p x) (Some (length xs)) None)
position-push p [] x = position-cons p x [] ∙ refl
position-push p (y ∷ ys) x =
    position-cons p y (ys ++ x ∷ [])
    ∙ ap (λ o. cond (p y) (Some 0) (option_map suc o)) (position-push p ys x)
    ∙ at (p y) (position p ys) (p x)
    ∙ ap (λ o. option_or o (cond (p x) (Some (suc (length ys))) None)) (sym (position-cons p y ys))
  where
    at : (here : Bool) (before : Option ℕ) (last : Bool)
        → cond here (Some 0) (option_map suc (option_or before (cond last (Some (length ys)) None))) ≡ option_or (cond here (Some 0) (option_map suc before))
        (cond last (Some (suc (length ys))) None)
    at true before last = refl
    at false (Some k) last = refl
    at false None true = refl
    at false None false = refl

-- the test passes there, and at no place before
pub record IsFirst {X : Type 0} (p : X → Bool) (xs : List X) (place : ℕ) : Type 0 where
  pub item : X
  pub stands : slice_get xs place ≡ Some item
  pub passes : p item ≡ true
  pub before : (other : ℕ) (earlier : X) → other < place → slice_get xs other ≡ Some earlier → p earlier ≡ false

pub first_from_position : {X : Type 0} (p : X → Bool) (xs : List X) (place : ℕ) → position p xs ≡ Some place → IsFirst p xs place
first_from_position p [] place is = absurd (none-some place is)
first_from_position p (x ∷ xs) place is = at (first_from_position p xs) (p x) refl (position p xs) refl (sym (position-cons p x xs) ∙ is)
  where
    later : (k : ℕ) → p x ≡ false → IsFirst p xs k → IsFirst p (x ∷ xs) (suc k)
    later k fails rest = record { item = rest.item; stands = rest.stands; passes = rest.passes; before = before }
      where
        before : (other : ℕ) (earlier : _) → other < suc k → slice_get (x ∷ xs) other ≡ Some earlier → p earlier ≡ false
        before zero earlier less stands = ap p (sym (same_Some x earlier stands)) ∙ fails
        before (suc other) earlier less stands = rest.before other earlier (omega arith) stands

    at : ((k : ℕ) → position p xs ≡ Some k → IsFirst p xs k) → (b : Bool) → p x ≡ b → (o : Option ℕ) → position p xs ≡ o
        → cond b (Some 0) (option_map suc o) ≡ Some place → IsFirst p (x ∷ xs) place
    at rest true passes o found is = subst (IsFirst p (x ∷ xs)) (same_Some 0 place is) (record {
      item = x;
      stands = refl;
      passes = passes;
      before = λ other earlier before. absurd (omega arith);
    })
    at rest false fails None found is = absurd (none-some place is)
    at rest false fails (Some k) found is = subst (IsFirst p (x ∷ xs)) (same_Some (suc k) place is) (later k fails (rest k found))

pub none_from_position : {X : Type 0} (p : X → Bool) (xs : List X) → position p xs ≡ None → (place : ℕ) (item : X) → slice_get xs place ≡ Some item
    → p item ≡ false
none_from_position p [] none place item stands = absurd (none-some item stands)
none_from_position p (x ∷ xs) none place item stands = at (none_from_position p xs) (p x) refl (position p xs) refl (sym (position-cons p x xs) ∙ none) place stands
  where
    at : (position p xs ≡ None → (place : ℕ) (item : _) → slice_get xs place ≡ Some item → p item ≡ false) → (b : Bool) → p x ≡ b → (o : Option ℕ)
        → position p xs ≡ o → cond b (Some 0) (option_map suc o) ≡ None → (place : ℕ) → slice_get (x ∷ xs) place ≡ Some item → p item ≡ false
    at rest true passes o found none place stands = absurd (none-some 0 (sym none))
    at rest false fails (Some k) found none place stands = absurd (none-some (suc k) (sym none))
    at rest false fails None found none zero stands = ap p (sym (same_Some x item stands)) ∙ fails
    at rest false fails None found none (suc place) stands = rest found place item stands

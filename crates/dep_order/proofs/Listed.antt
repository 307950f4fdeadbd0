-- Places among those that are listed.
use Rattle.std.proofs.Common.{◌≡◌, ℕ, ◌<◌, ◌≤◌, Bool, true, false, ◌||◌, ◌⊎◌, inl, inr, eqb, List, [], ◌∷◌, ◌++◌, length, get_or, take, Contains, sym, ◌∙◌, ap, refl, arith, eq-eqb, eqb-true}
use Rattle.std.proofs.lemmas.List.{get_or_default, length-take, get_or-take}
use Rattle.std.proofs.lemmas.List.Folds.{list_any-append, list_any_at}
use Rattle.std.proofs.lemmas.Bool.{or_left, or_right, or_cases}
use Rattle.std.proofs.lemmas.Map.Views.{Contains-from_any, list_any-from_Contains, exact_unsigned_eq}
use Rattle.std.proofs.lemmas.Cmp.{nat_eq_equiv}
use Rattle.dep_order.specs.Listing.{is_listed}

pub listed-from_Contains : (listed : List ℕ) (place : ℕ) → Contains listed place → is_listed listed place ≡ true
listed-from_Contains listed place h = list_any-from_Contains nat_eq_equiv place listed h

pub Contains-from_listed : (listed : List ℕ) (place : ℕ) → is_listed listed place ≡ true → Contains listed place
Contains-from_listed listed place h = Contains-from_any exact_unsigned_eq place listed h

-- where a place stands
pub record StandsAt (listed : List ℕ) (below place : ℕ) : Type 0 where
  pub at : ℕ
  pub before : at < below
  pub is : get_or listed at 0 ≡ place

pub stands_at : (listed : List ℕ) (place : ℕ) → is_listed listed place ≡ true → StandsAt listed (length listed) place
stands_at listed place h =
    let c = Contains-from_listed listed place h in
    record { at = c.0; before = c.1; is = get_or_default listed c.0 0 place c.1 ∙ c.2 }

pub listed_at : (listed : List ℕ) (k : ℕ) → k < length listed → is_listed listed (get_or listed k 0) ≡ true
listed_at listed k h = list_any_at (eqb (get_or listed k 0)) listed k 0 h (eq-eqb (get_or listed k 0) (get_or listed k 0) refl)

-- what stands before a place is listed there
pub listed_before : (listed : List ℕ) (j k : ℕ) → j < k → k ≤ length listed → is_listed (take k listed) (get_or listed j 0) ≡ true
listed_before listed j k before within =
    let long : j < length (take k listed) = rw length-take (omega arith) in
    rw (get_or-take k listed j 0 before) at (listed_at (take k listed) j long)

pub stands_before : (listed : List ℕ) (k place : ℕ) → k ≤ length listed → is_listed (take k listed) place ≡ true → StandsAt listed k place
stands_before listed k place within h =
    let s = stands_at (take k listed) place h in
    let long : length (take k listed) ≡ k = rw length-take (omega arith) in
    let before : s.at < k = omega arith in
    record { at = s.at; before = before; is = sym (get_or-take k listed s.at 0 before) ∙ s.is }

-- what is listed stays listed
pub listed_longer : (listed : List ℕ) (k place : ℕ) → k ≤ length listed → is_listed (take k listed) place ≡ true → is_listed listed place ≡ true
listed_longer listed k place within h =
    let s = stands_before listed k place within h in
    rw s.is at (listed_at listed s.at (omega arith))

pub or_false : (b : Bool) → (b || false) ≡ b
or_false true = refl
or_false false = refl

pub listed-push : (listed : List ℕ) (x place : ℕ) → is_listed (listed ++ x ∷ []) place ≡ (is_listed listed place || eqb place x)
listed-push listed x place = list_any-append (eqb place) listed (x ∷ []) ∙ ap (λ b. is_listed listed place || b) (or_false (eqb place x))

pub listed_push_kept : (listed : List ℕ) (x place : ℕ) → is_listed listed place ≡ true → is_listed (listed ++ x ∷ []) place ≡ true
listed_push_kept listed x place h = rw listed-push (or_left _ _ h)

pub listed_push_cases : (listed : List ℕ) (x place : ℕ) → is_listed (listed ++ x ∷ []) place ≡ true → (is_listed listed place ≡ true) ⊎ (place ≡ x)
listed_push_cases listed x place h =
    elim (or_cases (is_listed listed place) (eqb place x) (rw listed-push at h)) [ inl was ↦ inl was | inr is ↦ inr (eqb-true place x is) ]

pub listed_push_new : (listed : List ℕ) (x : ℕ) → is_listed (listed ++ x ∷ []) x ≡ true
listed_push_new listed x = rw listed-push (or_right (is_listed listed x) (eqb x x) (eq-eqb x x refl))

-- Lists, and tests on them.
use Rattle.std.proofs.Common.{◌≡◌, ℕ, zero, suc, ◌+◌, ◌<◌, ◌≤◌, Bool, true, false, not, cond, ◌&&◌, ◌||◌, List, [], ◌∷◌, ◌++◌, map, filter, flat_map, find, position, length, get_or, Option, Some, None, nat_lt, ◌⊎◌, inl, inr, refl, sym, ap, subst, ◌∙◌, arith}
use Rattle.std.specs.List.{list_any, list_all, position_or_len, Contains}
use Rattle.std.proofs.lemmas.Bool.{ltb-false}
use Rattle.std.proofs.lemmas.List.Elements.{Contains-append_cases, Contains-append_left, Contains-append_right, Contains-get_or}
use Rattle.std.proofs.lemmas.List.Folds.{list_any_at}
use Rattle.std.proofs.lemmas.List.Quantifiers.{position-Some}

pub here : {A : Type 0} (x : A) (xs : List A) → Contains (x ∷ xs) x
here x xs = (0, omega arith, refl)

pub there : {A : Type 0} (x y : A) (xs : List A) → Contains xs y → Contains (x ∷ xs) y
there x y xs h = (suc h.0, omega (arith, h.1), h.2)

pub contains_cases : {A : Type 0} (x y : A) (xs : List A) → Contains (x ∷ xs) y → (x ≡ y) ⊎ Contains xs y
contains_cases x y xs (zero, lt, e) = inl e
contains_cases x y xs (suc k, lt, e) = inr (k, omega (arith, lt), e)

pub contains_none : {A : Type 0} (y : A) → Contains [] y → ⊥
contains_none y h = omega (arith, h.1)

pub or_cases : (a b : Bool) → (a || b) ≡ true → (a ≡ true) ⊎ (b ≡ true)
or_cases true b h = inl refl
or_cases false b h = inr h

pub and_both : (a b : Bool) → (a && b) ≡ true → (a ≡ true) × (b ≡ true)
and_both true b h = (refl, h)
and_both false b h = absurd (cc)

pub any_found : {A : Type 0} (t : A → Bool) (xs : List A) → list_any t xs ≡ true → (x : A) × Contains xs x × (t x ≡ true)
any_found t [] h = absurd (cc)
any_found t (x ∷ xs) h =
    elim (or_cases (t x) (list_any t xs) h) [
      | inl e ↦ (x, here x xs, e)
      | inr e ↦ (let k = any_found t xs e in (k.0, there x k.0 xs k.1, k.2))
    ]

pub any_from : {A : Type 0} (t : A → Bool) (xs : List A) (x : A) → Contains xs x → t x ≡ true → list_any t xs ≡ true
any_from t xs x c e = list_any_at t xs c.0 x c.1 (ap t c.2 ∙ e)

pub all_each : {A : Type 0} (t : A → Bool) (xs : List A) (y : A) → list_all t xs ≡ true → Contains xs y → t y ≡ true
all_each t [] y h c = absurd (contains_none y c)
all_each t (x ∷ xs) y h c =
    let both = and_both (t x) (list_all t xs) h in
    elim (contains_cases x y xs c) [ inl e ↦ ap t (sym e) ∙ both.0 | inr k ↦ all_each t xs y both.1 k ]

pub all_from : {A : Type 0} (t : A → Bool) (xs : List A) → ((x : A) → Contains xs x → t x ≡ true) → list_all t xs ≡ true
all_from t [] f = refl
all_from t (x ∷ xs) f = ap (λ b. b && list_all t xs) (f x (here x xs)) ∙ all_from t xs (λ y c. f y (there x y xs c))

pub find_some : {A : Type 0} (t : A → Bool) (xs : List A) (x : A) → find t xs ≡ Some x → Contains xs x × (t x ≡ true)
find_some t [] x e = absurd (cc)
find_some t (y ∷ xs) x e =
    (elim (t y) as (λ b. t y ≡ b → cond b (Some y) (find t xs) ≡ Some x → Contains (y ∷ xs) x × (t x ≡ true)) [
      | true ↦ (λ k h. let same : y ≡ x = cc in (subst (λ z. Contains (y ∷ xs) z) same (here y xs), ap t (sym same) ∙ k))
      | false ↦ (λ k h. let m = find_some t xs x h in (there y x xs m.0, m.1))
    ]) refl e

pub find_none : {A : Type 0} (t : A → Bool) (xs : List A) (x : A) → find t xs ≡ None → Contains xs x → t x ≡ false
find_none t [] x e c = absurd (contains_none x c)
find_none t (y ∷ xs) x e c =
    (elim (t y) as (λ b. t y ≡ b → cond b (Some y) (find t xs) ≡ None → t x ≡ false) [
      | true ↦ (λ k h. absurd (cc))
      | false ↦ (λ k h. elim (contains_cases y x xs c) [ inl is ↦ ap t (sym is) ∙ k | inr more ↦ find_none t xs x h more ])
    ]) refl e

-- one that passes is found, the first
pub found_one : {A : Type 0} (t : A → Bool) (xs : List A) (x : A) → Contains xs x → t x ≡ true → (y : A) × (find t xs ≡ Some y)
found_one {A} t xs x c e = at (find t xs) refl
  where
    at : (o : Option A) → find t xs ≡ o → (y : A) × (find t xs ≡ Some y)
    at None f = absurd (let k : true ≡ false = sym e ∙ find_none t xs x f c in cc)
    at (Some y) f = (y, f)

pub position_found : {A : Type 0} (t : A → Bool) (xs : List A) (i : ℕ) → position t xs ≡ Some i → (x : A) × Contains xs x × (t x ≡ true)
position_found t [] i e = absurd (cc)
position_found t (x ∷ xs) i e =
    let k = position-Some t (x ∷ xs) i x e in
    (get_or (x ∷ xs) i x, Contains-get_or (x ∷ xs) i x k.0, k.1)

none_before : {A : Type 0} (t : A → Bool) (xs : List A) (x : A) → length xs ≤ position_or_len t xs → Contains xs x → t x ≡ false
none_before t [] x long c = absurd (contains_none x c)
none_before t (y ∷ xs) x long c =
    (elim (t y) as (λ b. t y ≡ b → length (y ∷ xs) ≤ cond (not b) (1 + position_or_len t xs) 0 → t x ≡ false) [
      | true ↦ (λ k h. absurd (omega (arith, h)))
      | false ↦ (λ k h. elim (contains_cases y x xs c) [ inl is ↦ ap t (sym is) ∙ k | inr more ↦ none_before t xs x (omega (arith, h)) more ])
    ]) refl long

pub position_none : {A : Type 0} (t : A → Bool) (xs : List A) (x : A) → position t xs ≡ None → Contains xs x → t x ≡ false
position_none t xs x e c = at (nat_lt (position_or_len t xs) (length xs)) refl e
  where
    at : (b : Bool) → nat_lt (position_or_len t xs) (length xs) ≡ b → cond b (Some (position_or_len t xs)) None ≡ None → t x ≡ false
    at true is h = absurd (cc)
    at false is h = none_before t xs x (ltb-false (position_or_len t xs) (length xs) is) c

pub position_one : {A : Type 0} (t : A → Bool) (xs : List A) (x : A) → Contains xs x → t x ≡ true → (i : ℕ) × (position t xs ≡ Some i)
position_one t xs x c e = at (position t xs) refl
  where
    at : (o : Option ℕ) → position t xs ≡ o → (i : ℕ) × (position t xs ≡ Some i)
    at None f = absurd (let k : true ≡ false = sym e ∙ position_none t xs x f c in cc)
    at (Some i) f = (i, f)

-- elements of mapped, filtered and joined lists
pub record Mapped {A B : Type 0} (f : A → B) (xs : List A) (y : B) : Type 0 where
  pub x : A
  pub stands : Contains xs x
  pub is : f x ≡ y

pub mapped_of : {A B : Type 0} (f : A → B) (xs : List A) (y : B) → Contains (map f xs) y → Mapped f xs y
mapped_of f [] y c = absurd (contains_none y c)
mapped_of f (x ∷ xs) y c =
    elim (contains_cases (f x) y (map f xs) c) [
      | inl e ↦ record { x = x; stands = here x xs; is = e }
      | inr more ↦ (let k = mapped_of f xs y more in record { x = k.x; stands = there x k.x xs k.stands; is = k.is })
    ]

pub in_mapped : {A B : Type 0} (f : A → B) (xs : List A) (x : A) → Contains xs x → Contains (map f xs) (f x)
in_mapped f [] x c = absurd (contains_none x c)
in_mapped f (y ∷ xs) x c =
    elim (contains_cases y x xs c) [
      | inl e ↦ subst (λ z. Contains (f y ∷ map f xs) (f z)) e (here (f y) (map f xs))
      | inr more ↦ there (f y) (f x) (map f xs) (in_mapped f xs x more)
    ]

pub filtered_of : {A : Type 0} (t : A → Bool) (xs : List A) (y : A) → Contains (filter t xs) y → Contains xs y × (t y ≡ true)
filtered_of t [] y c = absurd (contains_none y c)
filtered_of t (x ∷ xs) y c =
    (elim (t x) as (λ b. t x ≡ b → Contains (cond b (x ∷ filter t xs) (filter t xs)) y → Contains (x ∷ xs) y × (t y ≡ true)) [
      | true ↦ (λ e h. elim (contains_cases x y (filter t xs) h) [
        | inl is ↦ (subst (λ z. Contains (x ∷ xs) z) is (here x xs), ap t (sym is) ∙ e)
        | inr more ↦ (let k = filtered_of t xs y more in (there x y xs k.0, k.1))
      ])
      | false ↦ (λ e h. let k = filtered_of t xs y h in (there x y xs k.0, k.1))
    ]) refl c

pub in_filtered : {A : Type 0} (t : A → Bool) (xs : List A) (y : A) → Contains xs y → t y ≡ true → Contains (filter t xs) y
in_filtered t [] y c e = absurd (contains_none y c)
in_filtered t (x ∷ xs) y c e =
    (elim (t x) as (λ b. t x ≡ b → Contains (cond b (x ∷ filter t xs) (filter t xs)) y) [
      | true ↦ (λ k. elim (contains_cases x y xs c) [
        | inl is ↦ subst (λ z. Contains (x ∷ filter t xs) z) is (here x (filter t xs))
        | inr more ↦ there x y (filter t xs) (in_filtered t xs y more e)
      ])
      | false ↦ (λ k. elim (contains_cases x y xs c) [
        | inl is ↦ absurd (let clash : true ≡ false = sym e ∙ ap t (sym is) ∙ k in cc)
        | inr more ↦ in_filtered t xs y more e
      ])
    ]) refl

pub record Joined {A B : Type 0} (f : A → List B) (xs : List A) (y : B) : Type 0 where
  pub x : A
  pub stands : Contains xs x
  pub within : Contains (f x) y

pub joined_of : {A B : Type 0} (f : A → List B) (xs : List A) (y : B) → Contains (flat_map f xs) y → Joined f xs y
joined_of f [] y c = absurd (contains_none y c)
joined_of f (x ∷ xs) y c =
    elim (Contains-append_cases (f x) (flat_map f xs) y c) [
      | inl h ↦ record { x = x; stands = here x xs; within = h }
      | inr h ↦ (let k = joined_of f xs y h in record { x = k.x; stands = there x k.x xs k.stands; within = k.within })
    ]

pub in_joined : {A B : Type 0} (f : A → List B) (xs : List A) (x : A) (y : B) → Contains xs x → Contains (f x) y → Contains (flat_map f xs) y
in_joined f [] x y c h = absurd (contains_none x c)
in_joined f (z ∷ xs) x y c h =
    elim (contains_cases z x xs c) [
      | inl e ↦ Contains-append_left (f z) (flat_map f xs) y (subst (λ w. Contains (f w) y) (sym e) h)
      | inr more ↦ Contains-append_right (f z) (flat_map f xs) y (in_joined f xs x y more h)
    ]

-- The places at which a test passes, and lists of places.
use Rattle.std.proofs.Common.{◌≡◌, ℕ, zero, suc, ◌+◌, ◌<◌, ◌≤◌, ◌⊎◌, inl, inr, Bool, true, false, cond, List, [], ◌∷◌, length, get_or, filter, filter_map, All, AllPairs, Contains, refl, sym, ◌∙◌, ap, ap₂, subst, arith, Option, Some}
use Rattle.std.specs.List.{slice_get, cons_option}
use Rattle.std.proofs.lemmas.List.Elements.{Contains-get_or}

-- ---- places at which a test passes

pub ranks : (ℕ → Bool) → ℕ → List ℕ → List ℕ
ranks p at [] = []
ranks p at (x ∷ xs) = cond (p x) (at ∷ ranks p (suc at) xs) (ranks p (suc at) xs)

pub record Ranked (p : ℕ → Bool) (at : ℕ) (xs : List ℕ) (r : ℕ) : Type 0 where
  pub k : ℕ
  pub x : ℕ
  pub is : r ≡ at + k
  pub stands : slice_get xs k ≡ Some x
  pub passes : p x ≡ true

-- a list from two parts of which a test takes one
first_or : {A : Type 0} (b : Bool) (P : List A → Type 0) (x : A) (xs : List A) → (b ≡ true → P (x ∷ xs)) → (b ≡ false → P xs) → P (cond b (x ∷ xs) xs)
first_or true P x xs here there = here refl
first_or false P x xs here there = there refl

contains_later : (x y : ℕ) (xs : List ℕ) → Contains xs y → Contains (x ∷ xs) y
contains_later x y xs has = (suc has.0, omega (arith, has.1), has.2)

contains_cases : (x y : ℕ) (xs : List ℕ) → Contains (x ∷ xs) y → (y ≡ x) ⊎ Contains xs y
contains_cases x y xs (zero, within, is) = inl (sym is)
contains_cases x y xs (suc k, within, is) = inr (k, omega arith, is)

module _ (p : ℕ → Bool) where
  pub ranks_has : (at : ℕ) (xs : List ℕ) (k x : ℕ) → slice_get xs k ≡ Some x → p x ≡ true → Contains (ranks p at xs) (at + k)
  unfolding ranks
  ranks_has at [] k x stands passes = cc
  ranks_has at (y ∷ xs) zero x stands passes =
      let here : p y ≡ true = let same : y ≡ x = cc in rw same passes in
      let is : at ≡ at + 0 = omega arith in
      rw here (0, omega arith, is)
  ranks_has at (y ∷ xs) (suc k) x stands passes =
      let is : suc at + k ≡ at + suc k = omega arith in
      let rest : Contains (ranks p (suc at) xs) (at + suc k) = subst (λ (n : ℕ). Contains (ranks p (suc at) xs) n) is (ranks_has (suc at) xs k x stands passes) in
      first_or (p y) (λ (l : List ℕ). Contains l (at + suc k)) at (ranks p (suc at) xs) (λ e. contains_later at (at + suc k) (ranks p (suc at) xs) rest) (λ e. rest)

  one_later : (at : ℕ) (y : ℕ) (xs : List ℕ) (r : ℕ) → Ranked p (suc at) xs r → Ranked p at (y ∷ xs) r
  one_later at y xs r w = record { k = suc w.k; x = w.x; is = omega (arith, w.is); stands = w.stands; passes = w.passes }

  pub ranks_from : (at : ℕ) (xs : List ℕ) (r : ℕ) → Contains (ranks p at xs) r → Ranked p at xs r
  unfolding ranks
  ranks_from at [] r has = absurd (omega (arith, has.1))
  ranks_from at (y ∷ xs) r has = by_test (p y) refl (ranks_from (suc at) xs r) has
    where
      by_test : (b : Bool) → p y ≡ b → (Contains (ranks p (suc at) xs) r → Ranked p (suc at) xs r) → Contains (cond b (at ∷ ranks p (suc at) xs) (ranks p (suc at) xs)) r → Ranked p at (y ∷ xs) r
      by_test true e rest h = elim (contains_cases at r (ranks p (suc at) xs) h) [
        | inl same ↦ record { k = 0; x = y; is = omega (arith, same); stands = refl; passes = e }
        | inr later ↦ one_later at y xs r (rest later)
      ]
      by_test false e rest h = one_later at y xs r (rest h)

  pairs_first : (x : ℕ) (xs : List ℕ) → ((y : ℕ) → Contains xs y → x < y) → AllPairs (λ a b. a < b) xs → AllPairs (λ a b. a < b) (x ∷ xs)
  pairs_first x xs less rest i zero d before within = absurd (omega arith)
  pairs_first x xs less rest zero (suc j) d before within = less (get_or xs j d) (Contains-get_or xs j d (omega arith))
  pairs_first x xs less rest (suc i) (suc j) d before within = rest i j d (omega arith) (omega arith)

  pub ranks_in_order : (at : ℕ) (xs : List ℕ) → AllPairs (λ a b. a < b) (ranks p at xs)
  unfolding ranks
  ranks_in_order at [] = λ i j d before within. absurd (omega arith)
  ranks_in_order at (y ∷ xs) =
      first_or (p y) (λ (l : List ℕ). AllPairs (λ a b. a < b) l) at (ranks p (suc at) xs)
      (λ e. pairs_first at (ranks p (suc at) xs) (λ r has. let w = ranks_from (suc at) xs r has in omega (arith, w.is)) (ranks_in_order (suc at) xs))
      (λ e. ranks_in_order (suc at) xs)

  as_ranks_at : (f : ℕ → Option ℕ) (at x : ℕ) (rest later : List ℕ) (b : Bool) → p x ≡ b → f x ≡ Some at → filter_map f rest ≡ later → filter_map f (cond (p x) (x ∷ rest) rest) ≡ cond (p x) (at ∷ later) later
  as_ranks_at f at x rest later true e is same =
      let here : cons_option (f x) (filter_map f rest) ≡ at ∷ later = ap₂ (λ (o : Option ℕ) (l : List ℕ). cons_option o l) is same in
      rw e here
  as_ranks_at f at x rest later false e is same = rw e same

  pub as_ranks : (f : ℕ → Option ℕ) (at : ℕ) (xs : List ℕ) → ((k x : ℕ) → slice_get xs k ≡ Some x → f x ≡ Some (at + k)) → filter_map f (filter p xs) ≡ ranks p at xs
  unfolding ranks
  as_ranks f at [] each = refl
  as_ranks f at (x ∷ xs) each =
      let here : at + 0 ≡ at = omega arith in
      as_ranks_at f at x (filter p xs) (ranks p (suc at) xs) (p x) refl (each 0 x refl ∙ ap (λ (n : ℕ). Some n) here)
      (as_ranks f (suc at) xs (λ k y stands. let next : at + suc k ≡ suc at + k = omega arith in each (suc k) y stands ∙ ap (λ (n : ℕ). Some n) next))

  as_values_at : {A : Type 0} (h g : ℕ → Option A) (at x : ℕ) (rest : List ℕ) (later : List ℕ) (b : Bool) → p x ≡ b → (p x ≡ true → h x ≡ g at) → filter_map h rest ≡ filter_map g later → filter_map h (cond (p x) (x ∷ rest) rest) ≡ filter_map g (cond (p x) (at ∷ later) later)
  as_values_at {A = A} h g at x rest later true e is same =
      let here : cons_option (h x) (filter_map h rest) ≡ cons_option (g at) (filter_map g later) = ap₂ (λ (o : Option A) (l : List A). cons_option o l) (is e) same in
      rw e here
  as_values_at h g at x rest later false e is same = rw e same

  pub as_values : {A : Type 0} (h g : ℕ → Option A) (at : ℕ) (xs : List ℕ) → ((k x : ℕ) → slice_get xs k ≡ Some x → p x ≡ true → h x ≡ g (at + k)) → filter_map h (filter p xs) ≡ filter_map g (ranks p at xs)
  unfolding ranks
  as_values h g at [] each = refl
  as_values h g at (x ∷ xs) each =
      let here : at + 0 ≡ at = omega arith in
      as_values_at h g at x (filter p xs) (ranks p (suc at) xs) (p x) refl (λ e. each 0 x refl e ∙ ap g here)
      (as_values h g (suc at) xs (λ k y stands passes. let next : at + suc k ≡ suc at + k = omega arith in each (suc k) y stands passes ∙ ap g next))

-- ---- lists of places

all_some_at : {A : Type 0} (g : ℕ → Option A) (x : ℕ) (y : A) (xs : List ℕ) → g x ≡ Some y → length (filter_map g xs) ≡ length xs → length (filter_map g (x ∷ xs)) ≡ suc (length xs)
all_some_at {A = A} g x y xs is rest = ap (λ (o : Option A). length (cons_option o (filter_map g xs))) is ∙ ap suc rest

pub all_some : {A : Type 0} (g : ℕ → Option A) (xs : List ℕ) → ((x : ℕ) → Contains xs x → (y : A) × (g x ≡ Some y)) → length (filter_map g xs) ≡ length xs
all_some g [] each = refl
all_some g (x ∷ xs) each =
    let here = each x (0, omega arith, refl) in
    all_some_at g x here.0 xs here.1 (all_some g xs (λ y has. each y (contains_later x y xs has)))

rises : (xs : List ℕ) → AllPairs (λ a b. a < b) xs → (k : ℕ) → k < length xs → k ≤ get_or xs k 0
rises xs pairs zero within = omega arith
rises xs pairs (suc k) within = omega (arith, rises xs pairs k (omega arith), pairs k (suc k) 0 (omega arith) within)

pub few_places : (xs : List ℕ) (n : ℕ) → AllPairs (λ a b. a < b) xs → All (λ x. x < n) xs → length xs ≤ n
few_places [] n pairs below = omega arith
few_places (x ∷ xs) n pairs below =
    let within : length xs < length (x ∷ xs) = omega arith in
    omega (arith, rises (x ∷ xs) pairs (length xs) within, below (length xs) 0 within)

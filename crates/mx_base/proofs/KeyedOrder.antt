-- Lists in the order of a key that is a text.
use Rattle.std.proofs.Common.{◌≡◌, ℕ, suc, zero, ◌+◌, ◌<◌, ◌⊎◌, inl, inr, Bool, true, false, List, [], ◌∷◌, length, map, get_or, refl, sym, ◌∙◌, ap, arith, bytes_eq}
use Rattle.std.specs.Prelude.{IsTrue, ◌↔◌}
use Rattle.std.specs.List.{AllByRecursion, Contains, IsAllAdjacentAnswer, IsDistinct}
use Rattle.std.specs.List.Sorted.{IsPermutation, IsStrictlySortedBy, IsSortedByKey}
use Rattle.std.specs.declared.cmp.Ordering.{Ordering}
use Rattle.std.specs.declared.cmp.Ordering.TheVariants.{Less, Equal, Greater}
use Rattle.std.specs.Ordering.{is_eq, is_lt, ordering_reverse}
use Rattle.std.proofs.lemmas.Cmp.{nat_list_cmp_total}
use Rattle.std.proofs.lemmas.List.{get_or-map, length-map}
use Rattle.std.proofs.lemmas.List.Sorted.{Contains-permutation, IsPermutation-sym}
use Rattle.std.proofs.lemmas.Map.Keys.{sorted_head, sorted_tail, sorted_from_all_adjacent, apart_from_distinct}
use Rattle.std.proofs.lemmas.Map.Text.{is_eq-slice_cmp}
use native.Mathlib.Numerals.{unary_clauses}
use Rattle.mx_base.specs.Order.{text_cmp, IsBefore, ArePathsInOrder}

-- ---- what stands in order, step by step

before_from_all : (path : List ℕ) (paths : List (List ℕ)) → AllByRecursion (λ p. text_cmp path p ≡ Less) paths → IsBefore path paths
before_from_all path [] all = tt
before_from_all path (p ∷ ps) all = (all.0, before_from_all path ps all.1)

in_order_from_sorted : (paths : List (List ℕ)) → IsStrictlySortedBy text_cmp paths → ArePathsInOrder paths
in_order_from_sorted [] sorted = tt
in_order_from_sorted (p ∷ ps) sorted = (before_from_all p ps (sorted_head text_cmp p ps sorted), in_order_from_sorted ps (sorted_tail text_cmp p ps sorted))

-- the one at a place stands before the next
abbrev RisesAt : {X : Type 0} → (X → List ℕ) → List X → ℕ → X → Type 0
RisesAt key xs k d = text_cmp (key (get_or xs k d)) (key (get_or xs (k + 1) d)) ≡ Less

in_order_from_steps : {X : Type 0} (key : X → List ℕ) (xs : List X) → ((k : ℕ) (d : X) → k + 1 < length xs → RisesAt key xs k d) → ArePathsInOrder (map key xs)
in_order_from_steps key [] steps = tt
in_order_from_steps key (x ∷ xs) steps =
    in_order_from_sorted (map key (x ∷ xs)) (sorted_from_all_adjacent nat_list_cmp_total (map key (x ∷ xs)) (key x)
    (λ k below.
    let below' : k + 1 < length (x ∷ xs) = omega (arith, length-map (x ∷ xs) key) in
    rw (get_or-map key (x ∷ xs) k x (key x) (omega arith), get_or-map key (x ∷ xs) (k + 1) x (key x) below') (steps k x below')))

first_before : {X : Type 0} (key : X → List ℕ) (path : List ℕ) (xs : List X) (k : ℕ) (d : X) → IsBefore path (map key xs) → k < length xs
    → text_cmp path (key (get_or xs k d)) ≡ Less
first_before key path [] k d b below = absurd (omega arith)
first_before key path (x ∷ xs) zero d b below = b.0
first_before key path (x ∷ xs) (suc k) d b below = first_before key path xs k d b.1 (omega arith)

steps_of_order : {X : Type 0} (key : X → List ℕ) (xs : List X) (k : ℕ) (d : X) → ArePathsInOrder (map key xs) → k + 1 < length xs → RisesAt key xs k d
steps_of_order key [] k d order below = absurd (omega arith)
steps_of_order key (x ∷ xs) zero d order below = first_before key (key x) xs zero d order.0 (omega arith)
steps_of_order key (x ∷ xs) (suc k) d order below = simp unary_clauses (simp unary_clauses at (steps_of_order key xs k d order.1 (omega arith)))

-- ---- sorting and its test

less_from_apart : (one other : Ordering) → one ≡ ordering_reverse other → is_lt other ≡ false → is_eq one ≡ false → one ≡ Less
less_from_apart Less other e lt apart = refl
less_from_apart Equal other e lt apart = cc
less_from_apart Greater Less e lt apart = cc
less_from_apart Greater Equal e lt apart = cc
less_from_apart Greater Greater e lt apart = cc

-- what is sorted and has different keys is in order
pub in_order_from_sort : {X : Type 0} (key : X → List ℕ) (xs : List X) → IsSortedByKey key text_cmp xs → IsDistinct bytes_eq (map key xs)
    → ArePathsInOrder (map key xs)
in_order_from_sort key xs sorted apart =
    in_order_from_steps key xs (λ k d below.
    let one = key (get_or xs k d) in
    let next = key (get_or xs (k + 1) d) in
    let differs = rw (get_or-map key xs k d (key d) (omega arith), get_or-map key xs (k + 1) d (key d) below) at
    (apart_from_distinct bytes_eq (map key xs) k (k + 1) (key d) apart (omega arith) (omega (arith, length-map xs key))) in
    less_from_apart (text_cmp one next) (text_cmp next one) (nat_list_cmp_total.antisymm one next) (sorted k d (omega arith) below)
    (is_eq-slice_cmp one next ∙ differs))

less_from_test : (o : Ordering) → true ≡ is_lt o → o ≡ Less
less_from_test Less e = refl
less_from_test Equal e = cc
less_from_test Greater e = cc

not_less : (o : Ordering) → o ≡ Less → false ≡ is_lt o → ⊥
not_less o e f = cc

falls_nowhere : {X : Type 0} (key : X → List ℕ) (xs : List X) (k : ℕ) → ArePathsInOrder (map key xs) → k + 1 < length xs
    → ((d : X) → false ≡ is_lt (text_cmp (key (get_or xs k d)) (key (get_or xs (k + 1) d)))) → ⊥
falls_nowhere key [] k order below says = absurd (omega arith)
falls_nowhere key (x ∷ xs) k order below says =
    not_less (text_cmp (key (get_or (x ∷ xs) k x)) (key (get_or (x ∷ xs) (k + 1) x))) (steps_of_order key (x ∷ xs) k x order below) (says x)

-- what a test of neighbours says of the order
pub order_of_answer : {X : Type 0} (key : X → List ℕ) (xs : List X) (answer : Bool)
    → IsAllAdjacentAnswer (λ one next b. b ≡ is_lt (text_cmp (key one) (key next))) xs answer → IsTrue answer ↔ ArePathsInOrder (map key xs)
order_of_answer key xs true all =
    (λ _. in_order_from_steps key xs (λ k d below. less_from_test (text_cmp (key (get_or xs k d)) (key (get_or xs (k + 1) d))) (all k d below)), λ _. refl)
order_of_answer key xs false some = (λ h. cc, λ order. absurd (falls_nowhere key xs some.0 order some.1 some.2))

-- ---- there is one order at most

one_way : (a b : List ℕ) → text_cmp a b ≡ Less → text_cmp b a ≡ Less → ⊥
one_way a b before behind =
    let both : Less ≡ Greater = sym before ∙ (nat_list_cmp_total.antisymm a b ∙ ap ordering_reverse behind) in cc

contained : {X : Type 0} (x : X) (xs : List X) (z : X) → Contains (x ∷ xs) z → (x ≡ z) ⊎ Contains xs z
contained x xs z has = at has.0 has.1 has.2
  where
    at : (k : ℕ) → k < length (x ∷ xs) → get_or (x ∷ xs) k z ≡ z → (x ≡ z) ⊎ Contains xs z
    at zero below is = inl is
    at (suc k) below is = inr (k, omega arith, is)

before_all : {X : Type 0} (key : X → List ℕ) (path : List ℕ) (xs : List X) (z : X) → IsBefore path (map key xs) → Contains xs z → text_cmp path (key z) ≡ Less
before_all key path xs z before has = ap (λ x. text_cmp path (key x)) (sym has.2) ∙ first_before key path xs has.0 z before has.1

tail_of : {X : Type 0} (key : X → List ℕ) (x y : X) (xs ys : List X) → x ≡ y → IsBefore (key x) (map key xs)
    → ((z : X) → Contains (x ∷ xs) z → Contains (y ∷ ys) z) → (z : X) → Contains xs z → Contains ys z
tail_of key x y xs ys same before kept z has =
    elim (contained y ys z (kept z (suc has.0, omega (arith, has.1), has.2))) [
      | inl first ↦
          let itself : text_cmp (key x) (key x) ≡ Less = ap (λ r. text_cmp (key x) (key r)) (same ∙ first) ∙ before_all key (key x) xs z before has in
          absurd (one_way (key x) (key x) itself itself)
      | inr rest ↦ rest
    ]

same_first : {X : Type 0} (key : X → List ℕ) (x y : X) (xs ys : List X) → IsBefore (key x) (map key xs) → IsBefore (key y) (map key ys)
    → (y ≡ x) ⊎ Contains ys x → (x ≡ y) ⊎ Contains xs y → x ≡ y
same_first key x y xs ys o p (inl is) there = sym is
same_first key x y xs ys o p (inr here) (inl is) = is
same_first key x y xs ys o p (inr here) (inr there) = absurd (one_way (key x) (key y) (before_all key (key x) xs y o there) (before_all key (key y) ys x p here))

one_order : {X : Type 0} (key : X → List ℕ) (xs ys : List X) → ArePathsInOrder (map key xs) → ArePathsInOrder (map key ys)
    → ((z : X) → Contains xs z → Contains ys z) → ((z : X) → Contains ys z → Contains xs z) → xs ≡ ys
one_order key [] [] o p to from = refl
one_order key [] (y ∷ ys) o p to from = let none = from y (zero, omega arith, refl) in absurd (omega (arith, none.1))
one_order key (x ∷ xs) [] o p to from = let none = to x (zero, omega arith, refl) in absurd (omega (arith, none.1))
one_order key (x ∷ xs) (y ∷ ys) o p to from =
    let same = same_first key x y xs ys o.0 p.0 (contained y ys x (to x (zero, omega arith, refl))) (contained x xs y (from y (zero, omega arith, refl))) in
    let rest = one_order key xs ys o.1 p.1 (tail_of key x y xs ys same o.0 to) (tail_of key y x ys xs (sym same) p.0 from) in cc (same, rest)

-- what the same values are in order, is one list
pub one_sorting : {X : Type 0} (key : X → List ℕ) (us vs : List X) → IsPermutation us vs → ArePathsInOrder (map key us) → ArePathsInOrder (map key vs) → us ≡ vs
one_sorting key us vs same o p =
    one_order key us vs o p (λ z. Contains-permutation us vs z same) (λ z. Contains-permutation vs us z (IsPermutation-sym us vs same))

-- Each graph has its order or its cycle list.
use Rattle.std.proofs.Common.{◌≡◌, ℕ, ◌<◌, ◌≤◌, Bool, true, false, not, ◌&&◌, eqb, List, [], ◌∷◌, ◌++◌, length, drop, zero, suc, refl, inl, inr, ◌⊎◌, arith, eq-eqb, eqb-true, count_by}
use Rattle.std.proofs.lemmas.List.{get_or_default}
use Rattle.std.proofs.lemmas.Bool.{both_ways, cases_lt, cases_eq, cases_Bool, and_parts, and_from, not-true, not-false, not_from_true, not_from_false}
use Rattle.dep_order.specs.Graph.{needs_of, NeedsAreWithin}
use Rattle.dep_order.specs.Listing.{is_listed, IsLeft, IsReady, IsNext, IsListing, IsOrderOf, IsStuck}
use Rattle.dep_order.specs.Cycle.{IsFirstLeft, IsCycleAfter, IsCycleOf}
use Rattle.dep_order.specs.Pending.{pending_of}
use Rattle.dep_order.proofs.Listed.{stands_at, listed_push_kept, listed_push_new}
use Rattle.dep_order.proofs.Listings.{listing_push, IsEnded}
use Rattle.dep_order.proofs.Cycles.{some_need_left, need_left_is_left}
use Rattle.dep_order.proofs.Walks.{IsTrail, trail_at_first, trail_push, cycle_from_trail}
use Rattle.dep_order.proofs.Counts.{count_less, count_none, none_passes, times_from_listed}

-- ---- the first number below a bound that passes a test

pub record IsFirstBelow (n : ℕ) (test : ℕ → Bool) (k : ℕ) : Type 0 where
  pub below : k < n
  pub passes : test k ≡ true
  pub before : (j : ℕ) → j < k → test j ≡ false

abbrev HasFirst : ℕ → (ℕ → Bool) → Type 0
HasFirst n test = ((k : ℕ) × IsFirstBelow n test k) ⊎ ((k : ℕ) → k < n → test k ≡ false)

one_further : (n : ℕ) (test : ℕ → Bool) → HasFirst n test → (b : Bool) → test n ≡ b → HasFirst (suc n) test
one_further n test (inl found) b is = inl (found.0, record { below = omega (arith, found.1.below); passes = found.1.passes; before = found.1.before })
one_further n test (inr none) true is = inl (n, record { below = omega arith; passes = is; before = none })
one_further n test (inr none) false is = inr (λ k below. elim (cases_eq k n) [ inl same ↦ rw same is | inr differ ↦ none k (omega arith) ])

pub first_below : (n : ℕ) (test : ℕ → Bool) → HasFirst n test
first_below zero test = inr (λ k below. absurd (omega arith))
first_below (suc n) test = one_further n test (first_below n test) (test n) refl

-- ---- all places below a bound

places_below : ℕ → List ℕ
places_below zero = []
places_below (suc n) = places_below n ++ n ∷ []

place_is_below : (n k : ℕ) → k < n → is_listed (places_below n) k ≡ true
unfolding places_below
place_is_below zero k below = absurd (omega arith)
place_is_below (suc n) k below =
    elim (cases_eq k n) [
      | inl same ↦ rw same (listed_push_new (places_below n) n)
      | inr differ ↦ listed_push_kept (places_below n) n k (place_is_below n k (omega arith))
    ]

-- ---- the listing

module _ (graph : List (List ℕ)) where
  abbrev tests_ready : List ℕ → ℕ → Bool
  tests_ready listed place = not (is_listed listed place) && eqb (pending_of graph listed place) 0

  ready_from_test : (listed : List ℕ) (place : ℕ) → place < length graph → tests_ready listed place ≡ true → IsReady graph listed place
  ready_from_test listed place within passes =
      let parts = and_parts _ _ passes in
      record {
        left = record { within = within; not_listed = not-true _ parts.0 };
        needs_listed = λ i d inside.
            rw (get_or_default (needs_of graph place) i d 0 inside)
            (not-false _ (none_passes (λ need. not (is_listed listed need)) (needs_of graph place) (eqb-true _ 0 parts.1) i inside));
      }

  test_from_ready : (listed : List ℕ) (place : ℕ) → IsReady graph listed place → tests_ready listed place ≡ true
  test_from_ready listed place ready =
      and_from _ _ (not_from_false _ ready.left.not_listed)
      (eq-eqb _ 0 (count_none (λ need. not (is_listed listed need)) (needs_of graph place) (λ i within. not_from_true _ (ready.needs_listed i 0 within))))

  -- how many places are left
  abbrev left_count : List ℕ → ℕ
  left_count listed = count_by (λ place. not (is_listed listed place)) (places_below (length graph))

  one_left_less : (listed : List ℕ) (place : ℕ) → IsLeft graph listed place → left_count (listed ++ place ∷ []) < left_count listed
  one_left_less listed place left =
      omega (arith, count_less listed place left.not_listed (places_below (length graph)), times_from_listed place (places_below (length graph)) (place_is_below (length graph) place left.within))

  abbrev Ends : Type 0
  Ends = (listed : List ℕ) × IsEnded graph listed

  ends_here : (listed : List ℕ) → IsListing graph listed → ((place : ℕ) → place < length graph → tests_ready listed place ≡ false) → Ends
  ends_here listed listing none =
      (listed, record { listing = listing; stops = λ place ready. both_ways _ (none place ready.left.within) (test_from_ready listed place ready) })

  is_next : (listed : List ℕ) (place : ℕ) → IsFirstBelow (length graph) (tests_ready listed) place → IsNext graph listed place
  is_next listed place found = record {
    ready = ready_from_test listed place found.below found.passes;
    first = λ other ready. elim (cases_lt other place) [
      | inl less ↦ absurd (both_ways _ (found.before other less) (test_from_ready listed other ready))
      | inr more ↦ more
    ];
  }

  goes_on : (fuel : ℕ) (listed : List ℕ) → IsListing graph listed → left_count listed ≤ fuel → Ends
  goes_on zero listed listing enough =
      elim (first_below (length graph) (tests_ready listed)) [
        | inl found ↦ absurd (omega (arith, enough, one_left_less listed found.0 (is_next listed found.0 found.1).ready.left))
        | inr none ↦ ends_here listed listing none
      ]
  goes_on (suc fuel) listed listing enough =
      elim (first_below (length graph) (tests_ready listed)) [
        | inl found ↦
            let next = is_next listed found.0 found.1 in
            goes_on fuel (listed ++ found.0 ∷ []) (listing_push graph listed found.0 listing next)
            (omega (arith, enough, one_left_less listed found.0 next.ready.left))
        | inr none ↦ ends_here listed listing none
      ]

  -- ---- the cycle list

  module _ (within : NeedsAreWithin graph) (listed : List ℕ) (stuck : IsStuck graph listed) (start : ℕ) (is_first : IsFirstLeft graph listed start) where
    abbrev HasCycle : Type 0
    HasCycle = (cycle : List ℕ) × IsCycleAfter graph listed cycle

    ends_walk : (walk : List ℕ) (place : ℕ) → IsTrail graph listed start walk place → is_listed walk place ≡ true → HasCycle
    ends_walk walk place trail met =
        let s = stands_at walk place met in
        (drop s.at walk, cycle_from_trail graph listed start walk place trail is_first s.at s.before s.is (drop s.at walk) refl)

    one_met_more : (walk : List ℕ) (place : ℕ) → IsLeft graph listed place → is_listed walk place ≡ false → left_count (walk ++ place ∷ []) < left_count walk
    one_met_more walk place left new =
        omega (arith, count_less walk place new (places_below (length graph)), times_from_listed place (places_below (length graph)) (place_is_below (length graph) place left.within))

    walks_on : (fuel : ℕ) (walk : List ℕ) (place : ℕ) → IsTrail graph listed start walk place → IsLeft graph listed place → left_count walk ≤ fuel → HasCycle
    walks_on zero walk place trail left enough =
        elim (cases_Bool (is_listed walk place)) [
          | inl met ↦ ends_walk walk place trail met
          | inr new ↦ absurd (omega (arith, enough, one_met_more walk place left new))
        ]
    walks_on (suc fuel) walk place trail left enough =
        elim (cases_Bool (is_listed walk place)) [
          | inl met ↦ ends_walk walk place trail met
          | inr new ↦
              let next = some_need_left graph listed stuck place left in
              walks_on fuel (walk ++ place ∷ []) next.0
              (trail_push graph listed start walk place trail next.0 new next.1)
              (need_left_is_left graph listed within place next.0 next.1)
              (omega (arith, enough, one_met_more walk place left new))
        ]

    cycle_of_stuck : HasCycle
    cycle_of_stuck = walks_on (left_count []) [] start (trail_at_first graph listed start [] refl) is_first.left (omega arith)

  -- each graph has its order or its cycle list
  pub order_or_cycle_list : NeedsAreWithin graph → ((order : List ℕ) × IsOrderOf graph order) ⊎ ((cycle : List ℕ) × IsCycleOf graph cycle)
  order_or_cycle_list within =
      let ended = goes_on (left_count []) [] (record { each = λ k inside. absurd (omega arith) }) (omega arith) in
      elim (first_below (length graph) (λ place. not (is_listed ended.0 place))) [
        | inl found ↦
            let left : IsLeft graph ended.0 found.0 = record { within = found.1.below; not_listed = not-true _ found.1.passes } in
            let stuck : IsStuck graph ended.0 = record { listing = ended.1.listing; left = (found.0, left); stops = ended.1.stops } in
            let is_first : IsFirstLeft graph ended.0 found.0 = record {
              left = left;
              first = λ other other_left. elim (cases_lt other found.0) [
                | inl less ↦ absurd (both_ways _ other_left.not_listed (not-false _ (found.1.before other less)))
                | inr more ↦ more
              ];
            } in
            let cycle = cycle_of_stuck within ended.0 stuck found.0 is_first in
            inr (cycle.0, record { listed = ended.0; stuck = stuck; around = cycle.1 })
        | inr none ↦ inl (ended.0, record { listing = ended.1.listing; whole = λ place inside. not-false _ (none place inside) })
      ]

-- Walks from a place that is left to its first need that is left.
use Rattle.std.proofs.Common.{◌≡◌, ◌≢◌, ℕ, ◌+◌, ◌-◌, ◌<◌, true, not, List, [], length, get_or, drop, zero, suc, add-one, All, AllPairs, Contains, sym, ◌∙◌, ap, ap₂, refl, inl, inr, arith, le_antisymm, Option, Some, None}
use Rattle.std.proofs.lemmas.List.{get_or_default, get_or_past, get_or-drop, length-drop, ext_get_or}
use Rattle.std.proofs.lemmas.Bool.{both_ways, cases_lt, cases_order, not-true, not-false}
use Rattle.dep_order.specs.Graph.{needs_of, NeedsAreWithin}
use Rattle.dep_order.specs.Listing.{is_listed, IsLeft, IsOrderOf, IsStuck}
use Rattle.dep_order.specs.Cycle.{first_need_left, IsWalk, IsCycle, IsCycleAfter, IsCycleOf}
use Rattle.dep_order.proofs.Listed.{stands_at, Contains-from_listed}
use Rattle.dep_order.proofs.Listings.{one_stuck, order_not_stuck}
use Rattle.dep_order.proofs.Finds.{found, none_found}

-- each need is a place of the graph
pub need_within : (graph : List (List ℕ)) → NeedsAreWithin graph → (place need : ℕ) → is_listed (needs_of graph place) need ≡ true → need < length graph
need_within graph within place need h =
    elim (cases_lt place (length graph)) [
      | inl inside ↦
          let s = stands_at (needs_of graph place) need h in
          rw s.is at (within place [] inside s.at 0 s.before)
      | inr past ↦ absurd (both_ways (is_listed [] need) refl (rw (get_or_past graph place [] past) at h))
    ]

module _ (graph : List (List ℕ)) (listed : List ℕ) where
  pub need_left_is_need : (place need : ℕ) → first_need_left graph listed place ≡ Some need → is_listed (needs_of graph place) need ≡ true
  need_left_is_need place need h = (found (λ x. not (is_listed listed x)) (needs_of graph place) need h).listed

  pub need_left_is_left : NeedsAreWithin graph → (place need : ℕ) → first_need_left graph listed place ≡ Some need → IsLeft graph listed need
  need_left_is_left within place need h = record {
    within = need_within graph within place need (need_left_is_need place need h);
    not_listed = not-true _ (found (λ x. not (is_listed listed x)) (needs_of graph place) need h).passes;
  }

  some_left_at : IsStuck graph listed → (place : ℕ) → IsLeft graph listed place → (o : Option ℕ) → first_need_left graph listed place ≡ o → (need : ℕ) × (first_need_left graph listed place ≡ Some need)
  some_left_at stuck place left (Some need) is = (need, is)
  some_left_at stuck place left None is =
      absurd (stuck.stops place (record {
        left = left;
        needs_listed = λ i d within. rw (get_or_default (needs_of graph place) i d 0 within) (not-false _ (none_found (λ x. not (is_listed listed x)) (needs_of graph place) is i within));
      }))

  -- a place that is left has a first need that is left
  pub some_need_left : IsStuck graph listed → (place : ℕ) → IsLeft graph listed place → (need : ℕ) × (first_need_left graph listed place ≡ Some need)
  some_need_left stuck place left = some_left_at stuck place left (first_need_left graph listed place) refl

  pub left_needs_left : NeedsAreWithin graph → IsStuck graph listed → (place : ℕ) → IsLeft graph listed place → (need : ℕ) × Contains (needs_of graph place) need × IsLeft graph listed need
  left_needs_left within stuck place left =
      let some = some_need_left stuck place left in
      (some.0, Contains-from_listed (needs_of graph place) some.0 (need_left_is_need place some.0 some.1), need_left_is_left within place some.0 some.1)

  -- all places of a walk are left
  pub walk_left : NeedsAreWithin graph → (walk : List ℕ) → IsWalk graph listed walk → (k : ℕ) → k < length walk → IsLeft graph listed (get_or walk k 0)
  walk_left within walk w zero inside = w.start.left
  walk_left within walk w (suc k) inside =
      let step : first_need_left graph listed (get_or walk k 0) ≡ Some (get_or walk (suc k) 0) = rw add-one at (w.steps k (omega arith)) in
      need_left_is_left within (get_or walk k 0) (get_or walk (suc k) 0) step

-- the cycle list, as the rest of the walk
module _ (graph : List (List ℕ)) (listed cycle : List ℕ) (c : IsCycleAfter graph listed cycle) where
  length_cycle : length cycle + c.from ≡ length c.walk
  length_cycle = omega (arith, ap length c.rest, length-drop c.from c.walk, c.within)

  cycle_at : (k : ℕ) → get_or cycle k 0 ≡ get_or c.walk (c.from + k) 0
  cycle_at k = ap (λ (xs : List ℕ). get_or xs k 0) c.rest ∙ get_or-drop c.from c.walk k 0

  cycle_not_empty : 0 < length cycle
  cycle_not_empty = omega (arith, length_cycle, c.within)

  pub cycle_left : NeedsAreWithin graph → All (IsLeft graph listed) cycle
  cycle_left within k d inside =
      let here : c.from + k < length c.walk = omega (arith, length_cycle) in
      let same : get_or cycle k d ≡ get_or c.walk (c.from + k) 0 = get_or_default cycle k d 0 inside ∙ cycle_at k in
      rw same (walk_left graph listed within c.walk c.is_walk (c.from + k) here)

  cycle_apart : AllPairs (λ earlier later. earlier ≢ later) cycle
  cycle_apart i j d before inside same =
      let here : c.from + j < length c.walk = omega (arith, length_cycle) in
      c.is_walk.apart (c.from + i) (c.from + j) 0 (omega arith) here
      (sym (cycle_at i) ∙ get_or_default cycle i 0 d (omega arith) ∙ same ∙ get_or_default cycle j d 0 inside ∙ cycle_at j)

  cycle_steps : (k : ℕ) → k + 1 < length cycle → Contains (needs_of graph (get_or cycle k 0)) (get_or cycle (k + 1) 0)
  cycle_steps k inside =
      let here : c.from + k + 1 < length c.walk = omega (arith, length_cycle) in
      let next : get_or cycle (k + 1) 0 ≡ get_or c.walk (c.from + k + 1) 0 = cycle_at (k + 1) ∙ ap (λ n. get_or c.walk n 0) (omega arith) in
      rw (cycle_at k, next) (Contains-from_listed _ _ (need_left_is_need graph listed _ _ (c.is_walk.steps (c.from + k) here)))

  cycle_back : Contains (needs_of graph (get_or cycle (length cycle - 1) 0)) (get_or cycle 0 0)
  cycle_back =
      let last : get_or cycle (length cycle - 1) 0 ≡ get_or c.walk (length c.walk - 1) 0 = cycle_at (length cycle - 1) ∙ ap (λ n. get_or c.walk n 0) (omega (arith, length_cycle, cycle_not_empty)) in
      let start : get_or cycle 0 0 ≡ get_or c.walk c.from 0 = cycle_at 0 ∙ ap (λ n. get_or c.walk n 0) (omega arith) in
      rw (last, start) (Contains-from_listed _ _ (need_left_is_need graph listed _ _ c.back))

pub cycle_is_cycle : (graph : List (List ℕ)) (cycle : List ℕ) → IsCycleOf graph cycle → IsCycle graph cycle
cycle_is_cycle graph cycle c = record {
  not_empty = cycle_not_empty graph c.listed cycle c.around;
  apart = cycle_apart graph c.listed cycle c.around;
  steps = cycle_steps graph c.listed cycle c.around;
  back = cycle_back graph c.listed cycle c.around;
}

same_found : (o p : Option ℕ) (x y : ℕ) → o ≡ Some x → p ≡ Some y → o ≡ p → x ≡ y
same_found o p x y is_x is_y same = cc

sub_add : (n : ℕ) → 0 < n → n - 1 + 1 ≡ n
sub_add n positive = omega arith

-- a place stands once in a list of places that differ
same_place : (xs : List ℕ) → AllPairs (λ earlier later. earlier ≢ later) xs → (i j : ℕ) → i < length xs → j < length xs → get_or xs i 0 ≡ get_or xs j 0 → i ≡ j
same_place xs apart i j in_i in_j same =
    elim (cases_order i j) [
      | inl equal ↦ equal
      | inr differ ↦ elim differ [
        | inl less ↦ absurd (apart i j 0 less in_j same)
        | inr more ↦ absurd (apart j i 0 more in_i (sym same))
      ]
    ]

-- two walks agree as far as both go
module _ (graph : List (List ℕ)) (listed a b : List ℕ) (walk_a : IsWalk graph listed a) (walk_b : IsWalk graph listed b) where
  same_steps : (k : ℕ) → k < length a → k < length b → get_or a k 0 ≡ get_or b k 0
  same_steps zero in_a in_b = le_antisymm (walk_a.start.first _ walk_b.start.left) (walk_b.start.first _ walk_a.start.left)
  same_steps (suc k) in_a in_b =
      let before : get_or a k 0 ≡ get_or b k 0 = same_steps k (omega arith) (omega arith) in
      let step_a : first_need_left graph listed (get_or a k 0) ≡ Some (get_or a (suc k) 0) = rw add-one at (walk_a.steps k (omega arith)) in
      let step_b : first_need_left graph listed (get_or b k 0) ≡ Some (get_or b (suc k) 0) = rw add-one at (walk_b.steps k (omega arith)) in
      let same : first_need_left graph listed (get_or a k 0) ≡ first_need_left graph listed (get_or b k 0) = ap (first_need_left graph listed) before in
      same_found _ _ _ _ step_a step_b same

-- no walk goes on past one that would come back
past_back : (graph : List (List ℕ)) (listed : List ℕ) (a : List ℕ) (from : ℕ) (b : List ℕ) → IsWalk graph listed a → IsWalk graph listed b → from < length a → first_need_left graph listed (get_or a (length a - 1) 0) ≡ Some (get_or a from 0) → length a < length b → ⊥
past_back graph listed a from b walk_a walk_b within back longer =
    let last : get_or a (length a - 1) 0 ≡ get_or b (length a - 1) 0 = same_steps graph listed a b walk_a walk_b (length a - 1) (omega arith) (omega arith) in
    let step : first_need_left graph listed (get_or b (length a - 1) 0) ≡ Some (get_or b (length a) 0) = rw (sub_add (length a) (omega arith)) at (walk_b.steps (length a - 1) (omega arith)) in
    let again : get_or a from 0 ≡ get_or b (length a) 0 = same_found _ _ _ _ back step (ap (first_need_left graph listed) last) in
    let there : get_or a from 0 ≡ get_or b from 0 = same_steps graph listed a b walk_a walk_b from within (omega arith) in
    walk_b.apart from (length a) 0 within longer (sym there ∙ again)

same_ends : (graph : List (List ℕ)) (listed a b : List ℕ) → IsCycleAfter graph listed a → IsCycleAfter graph listed b → a ≡ b
same_ends graph listed a b c d =
    let long : length c.walk ≡ length d.walk = elim (cases_order (length c.walk) (length d.walk)) [
      | inl same ↦ same
      | inr differ ↦ elim differ [
        | inl less ↦ absurd (past_back graph listed c.walk c.from d.walk c.is_walk d.is_walk c.within c.back less)
        | inr more ↦ absurd (past_back graph listed d.walk d.from c.walk d.is_walk c.is_walk d.within d.back more)
      ]
    ] in
    let walk : c.walk ≡ d.walk = ext_get_or 0 c.walk d.walk long (λ k within. same_steps graph listed c.walk d.walk c.is_walk d.is_walk k within (omega arith)) in
    let back_d : first_need_left graph listed (get_or c.walk (length c.walk - 1) 0) ≡ Some (get_or c.walk d.from 0) = rw walk d.back in
    let at : get_or c.walk c.from 0 ≡ get_or c.walk d.from 0 = same_found _ _ _ _ c.back back_d refl in
    let from : c.from ≡ d.from = same_place c.walk c.is_walk.apart c.from d.from c.within (omega arith) at in
    c.rest ∙ ap₂ drop from walk ∙ sym d.rest

pub one_cycle : (graph : List (List ℕ)) (cycle other : List ℕ) → IsCycleOf graph cycle → IsCycleOf graph other → cycle ≡ other
one_cycle graph cycle other c d =
    let same : c.listed ≡ d.listed = one_stuck graph c.listed d.listed c.stuck d.stuck in
    let around : IsCycleAfter graph c.listed other = rw same d.around in
    same_ends graph c.listed cycle other c.around around

pub order_or_cycle : (graph : List (List ℕ)) (order cycle : List ℕ) → IsOrderOf graph order → IsCycleOf graph cycle → ⊥
order_or_cycle graph order cycle o c = order_not_stuck graph order c.listed o c.stuck

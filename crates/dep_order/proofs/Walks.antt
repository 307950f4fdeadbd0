-- A walk on its way: from each place to the next, and from the last one to the place at hand.
use Rattle.std.proofs.Common.{◌≡◌, ◌≢◌, ℕ, ◌+◌, ◌-◌, ◌<◌, ◌≤◌, Bool, true, false, not, cond, ◌||◌, eqb, List, [], ◌∷◌, ◌++◌, length, get_or, set, drop, AllPairs, sym, ◌∙◌, ap, refl, subst, inl, inr, arith, Some, None, find}
use Rattle.std.proofs.lemmas.List.{get_or_default, get_or_past, get_or_read, get_or-set_other, get_or_append_left, get_or_push, length_push, drop_more, at_drop_all}
use Rattle.std.proofs.lemmas.List.Quantifiers.{all_pairs_push}
use Rattle.std.proofs.lemmas.Bool.{both_ways, cases_lt, cases_eq, cases_Bool, true_from_ne_false, false_from_ne_true, eq-eqb, ne_eqb}
use Rattle.std.proofs.lemmas.Grind.{get_or-set_at}
use Rattle.dep_order.specs.Graph.{needs_of, NeedsAreWithin}
use Rattle.dep_order.specs.Listing.{is_listed, IsLeft, IsStuck}
use Rattle.dep_order.specs.Cycle.{IsFirstLeft, first_need_left, IsCycleAfter}
use Rattle.dep_order.specs.Pending.{HasStopped}
use Rattle.dep_order.proofs.Listed.{listed_at, listed-push, listed_push_new, or_false}
use Rattle.dep_order.proofs.Listings.{listed_needs}
use Rattle.dep_order.proofs.Counts.{ready_from_zero, zero_from_listed}
use Rattle.dep_order.proofs.Cycles.{some_need_left, need_within}

-- ---- a listing that has stopped

module _ (graph : List (List ℕ)) (listed pending : List ℕ) (stopped : HasStopped graph listed pending) where
  pub listed_is_zero : (place : ℕ) → is_listed listed place ≡ true → get_or pending place 0 ≡ 0
  listed_is_zero place h = zero_from_listed graph listed pending stopped.counts place (listed_needs graph listed stopped.listing place h)

  pub zero_is_listed : (place : ℕ) → place < length graph → get_or pending place 0 ≡ 0 → is_listed listed place ≡ true
  zero_is_listed place within none =
      true_from_ne_false _ (λ not_listed. stopped.stops place
      (ready_from_zero graph listed pending stopped.counts place (record { within = within; not_listed = not_listed }) none))

  pub first_left_from_zeros : (start : ℕ) → 0 < get_or pending start 0 → ((place : ℕ) → place < start → get_or pending place 0 ≡ 0) → IsFirstLeft graph listed start
  first_left_from_zeros start waits before = record {
    left = record {
      within = elim (cases_lt start (length graph)) [
        | inl within ↦ within
        | inr past ↦ absurd (omega (arith, waits, get_or_past pending start 0 (omega (arith, past, stopped.counts.long))))
      ];
      not_listed = false_from_ne_true _ (λ was. absurd (omega (arith, waits, listed_is_zero start was)));
    };
    first = λ other left. elim (cases_lt other start) [
      | inl less ↦ absurd (both_ways _ left.not_listed (zero_is_listed other left.within (before other less)))
      | inr more ↦ more
    ];
  }

  pub stuck_from_left : (place : ℕ) → IsLeft graph listed place → IsStuck graph listed
  stuck_from_left place left = record { listing = stopped.listing; left = (place, left); stops = stopped.stops }

  -- the test of the counts is that of the definition
  pub left_by_count : (place : ℕ) → place < length graph → not (is_listed listed place) ≡ not (eqb (get_or pending place 0) 0)
  left_by_count place within =
      elim (cases_Bool (is_listed listed place)) [
        | inl was ↦ rw (was, eq-eqb (get_or pending place 0) 0 (listed_is_zero place was)) refl
        | inr not_listed ↦
            rw (not_listed, ne_eqb (get_or pending place 0) 0 (λ none. both_ways _ not_listed (zero_is_listed place within none))) refl
      ]

-- ---- the search for the first need that is left

pub find_here : (p : ℕ → Bool) (xs : List ℕ) (i : ℕ) → i < length xs → p (get_or xs i 0) ≡ true → find p (drop i xs) ≡ Some (get_or xs i 0)
find_here p xs i within passes = ap (find p) (drop_more xs i 0 within) ∙ ap (λ b. cond b (Some (get_or xs i 0)) (find p (drop (i + 1) xs))) passes

pub find_later : (p : ℕ → Bool) (xs : List ℕ) (i : ℕ) → i < length xs → p (get_or xs i 0) ≡ false → find p (drop i xs) ≡ find p (drop (i + 1) xs)
find_later p xs i within fails = ap (find p) (drop_more xs i 0 within) ∙ ap (λ b. cond b (Some (get_or xs i 0)) (find p (drop (i + 1) xs))) fails

-- ---- a walk on its way

pub record IsTrail (graph : List (List ℕ)) (listed : List ℕ) (start : ℕ) (walk : List ℕ) (place : ℕ) : Type 0 where
  pub begins : get_or (walk ++ place ∷ []) 0 0 ≡ start
  pub steps : (k : ℕ) → k < length walk → first_need_left graph listed (get_or walk k 0) ≡ Some (get_or (walk ++ place ∷ []) (k + 1) 0)
  pub apart : AllPairs (λ earlier later. earlier ≢ later) walk

module _ (graph : List (List ℕ)) (listed : List ℕ) (start : ℕ) where
  pub trail_at_first : (walk : List ℕ) → walk ≡ [] → IsTrail graph listed start walk start
  trail_at_first walk none = rw none (record {
    begins = refl;
    steps = λ k within. absurd (omega arith);
    apart = λ i j d before within same. omega arith;
  })

  module _ (walk : List ℕ) (place : ℕ) (trail : IsTrail graph listed start walk place) where
    pub trail_push : (next : ℕ) → is_listed walk place ≡ false → first_need_left graph listed place ≡ Some next → IsTrail graph listed start (walk ++ place ∷ []) next
    trail_push next new step = record {
      begins = get_or_append_left (walk ++ place ∷ []) (next ∷ []) 0 0 (omega (arith, length_push walk place)) ∙ trail.begins;
      steps = λ k within. elim (cases_lt k (length walk)) [
        | inl before ↦
            ap (first_need_left graph listed) (get_or_append_left walk (place ∷ []) 0 k before)
            ∙ trail.steps k before
            ∙ ap Some (sym (get_or_append_left (walk ++ place ∷ []) (next ∷ []) 0 (k + 1) (omega (arith, length_push walk place))))
        | inr past ↦
            let at : length walk ≡ k = omega (arith, within, length_push walk place) in
            ap (first_need_left graph listed) (get_or_push walk place 0 k at)
            ∙ step
            ∙ ap Some (sym (get_or_push (walk ++ place ∷ []) next 0 (k + 1) (omega (arith, length_push walk place))))
      ];
      apart = all_pairs_push (λ earlier later. earlier ≢ later) walk place trail.apart (λ k d within same.
          both_ways _ new (rw (get_or_default walk k 0 d within ∙ same) at (listed_at walk k within)));
    }

    pub cycle_from_trail : IsFirstLeft graph listed start → (from : ℕ) → from < length walk → get_or walk from 0 ≡ place → (cycle : List ℕ) → cycle ≡ drop from walk → IsCycleAfter graph listed cycle
    cycle_from_trail first from within is cycle rest = record {
      walk = walk;
      from = from;
      is_walk = record {
        not_empty = omega arith;
        start = rw (sym (get_or_append_left walk (place ∷ []) 0 0 (omega arith)) ∙ trail.begins) first;
        steps = λ k inside. trail.steps k (omega arith) ∙ ap Some (get_or_append_left walk (place ∷ []) 0 (k + 1) inside);
        apart = trail.apart;
      };
      within = within;
      back =
          trail.steps (length walk - 1) (omega arith)
          ∙ ap Some (get_or_push walk place 0 (length walk - 1 + 1) (omega arith) ∙ sym is);
      rest = rest;
    }

-- the marks are those of the walk
pub met_more : (n : ℕ) (walk : List ℕ) (is_met : List Bool) (place : ℕ) → place < length is_met → ((q : ℕ) → q < n → get_or is_met q false ≡ is_listed walk q) → (q : ℕ) → q < n → get_or (set is_met place true) q false ≡ is_listed (walk ++ place ∷ []) q
met_more n walk is_met place within met q inside =
    elim (cases_eq q place) [
      | inl same ↦
          get_or-set_at is_met place q true false same within
          ∙ sym (rw same (listed_push_new walk place))
      | inr differ ↦
          get_or-set_other is_met place q true false differ
          ∙ met q inside
          ∙ sym (listed-push walk place q ∙ ap (λ b. is_listed walk q || b) (ne_eqb q place differ) ∙ or_false (is_listed walk q))
    ]

-- ---- the needs of a place, one after another

module _ (graph : List (List ℕ)) (listed pending : List ℕ) (stopped : HasStopped graph listed pending) (within : NeedsAreWithin graph) (place : ℕ) (items : List ℕ) (are : items ≡ needs_of graph place) where
  item_within : (i : ℕ) → i < length items → get_or items i 0 < length graph
  item_within i inside =
      let P : List ℕ → Type 0 = λ xs. is_listed xs (get_or items i 0) ≡ true in
      need_within graph within place (get_or items i 0) (subst P are (listed_at items i inside))

  count_is : (i count : ℕ) → i < length items → count ≡ get_or pending (get_or items i 0) count → count ≡ get_or pending (get_or items i 0) 0
  count_is i count inside is = get_or_read pending (get_or items i 0) count (omega (arith, item_within i inside, stopped.counts.long)) is 0

  pub found_need : (i count : ℕ) → i < length items → count ≡ get_or pending (get_or items i 0) count → count ≢ 0 → first_need_left graph listed place ≡ find (λ need. not (is_listed listed need)) (drop i items) → first_need_left graph listed place ≡ Some (get_or items i 0)
  found_need i count inside is waits so_far =
      so_far ∙ find_here (λ need. not (is_listed listed need)) items i inside
      (left_by_count graph listed pending stopped (get_or items i 0) (item_within i inside) ∙ ap not (ne_eqb _ 0 (λ none. waits (count_is i count inside is ∙ none))))

  pub passed_need : (i count : ℕ) → i < length items → count ≡ get_or pending (get_or items i 0) count → count ≡ 0 → first_need_left graph listed place ≡ find (λ need. not (is_listed listed need)) (drop i items) → first_need_left graph listed place ≡ find (λ need. not (is_listed listed need)) (drop (i + 1) items)
  passed_need i count inside is none so_far =
      so_far ∙ find_later (λ need. not (is_listed listed need)) items i inside
      (left_by_count graph listed pending stopped (get_or items i 0) (item_within i inside) ∙ ap not (eq-eqb _ 0 (sym (count_is i count inside is) ∙ none)))

  pub some_need : (i : ℕ) → length items ≤ i → IsLeft graph listed place → first_need_left graph listed place ≡ find (λ need. not (is_listed listed need)) (drop i items) → ⊥
  some_need i past left so_far =
      let some = some_need_left graph listed (stuck_from_left graph listed pending stopped place left) place left in
      let none : find (λ need. not (is_listed listed need)) (drop i items) ≡ None = at_drop_all (find (λ need. not (is_listed listed need))) items i past in
      absurd (cc (some.1, so_far, none))

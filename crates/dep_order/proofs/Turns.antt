-- A turn of the listing: one place is listed, and those that need it wait for one need less.
use Rattle.std.proofs.Common.{◌≡◌, ◌≢◌, ◌↔◌, ℕ, ◌+◌, ◌<◌, ◌≤◌, Bool, true, cond, eqb, List, [], ◌∷◌, ◌++◌, map, length, get_or, take, sym, ◌∙◌, ap, refl, subst, inl, inr, arith, eq-eqb, IsTrue}
use Rattle.std.proofs.lemmas.List.{get_or_past, get_or_read}
use Rattle.std.proofs.lemmas.List.Sums.{sum_by-take-le, sum_by_more}
use Rattle.std.proofs.lemmas.Bool.{both_ways, cases_lt, false_from_ne_true}
use Rattle.dep_order.specs.Graph.{needs_of}
use Rattle.dep_order.specs.Listing.{is_listed, IsLeft, IsReady, IsNext, IsListing}
use Rattle.dep_order.specs.Pending.{times, ArePending, AreDependents, Releases, TakesFirst}
use Rattle.dep_order.proofs.Listed.{stands_at, listed_push_kept, listed_push_cases, listed_push_new}
use Rattle.dep_order.proofs.Listings.{listing_push, listed_needs}
use Rattle.dep_order.proofs.Counts.{count_less, ready_from_zero, zero_from_ready, pending_at_first, listed_from_times}

-- what is left for a place that has yet to come
pub some_pending : (places : List ℕ) (i : ℕ) (a b : List ℕ) (r s : ℕ → Bool) → i < length places → ((q : ℕ) → times q places ≤ get_or a q 0) → Releases (take i places) a b r s → 0 < get_or b (get_or places i 0) 0
some_pending places i a b r s within room done =
    let q = get_or places i 0 in
    let f : ℕ → ℕ = λ y. cond (eqb q y) 1 0 in
    let here : f q ≡ 1 = ap (λ t. cond t 1 0) (eq-eqb q q refl) in
    omega (arith, here, room q, done.each q, sum_by_more f places i 0 within, sum_by-take-le f places (i + 1))

-- ---- a turn

abbrev pub AreReady : List (List ℕ) → List ℕ → (ℕ → Bool) → Type 0
AreReady graph listed ready = (q : ℕ) → IsTrue (ready q) ↔ IsReady graph listed q

pub record Stands (graph : List (List ℕ)) (listed pending : List ℕ) (ready : ℕ → Bool) : Type 0 where
  pub listing : IsListing graph listed
  pub counts : ArePending graph listed pending
  pub are_ready : AreReady graph listed ready

-- before anything is listed
pub stands_at_first : (graph : List (List ℕ)) (listed pending : List ℕ) (ready : ℕ → Bool) → listed ≡ [] → pending ≡ map length graph → ((q : ℕ) → IsTrue (ready q) ↔ ((q < length pending) × (get_or pending q 0 ≡ 0))) → Stands graph listed pending ready
stands_at_first graph listed pending ready none lengths is =
    let counts : ArePending graph listed pending = rw (none, lengths) (pending_at_first graph) in
    record {
      listing = record { each = λ k within. absurd (omega (arith, within, ap length none)) };
      counts = counts;
      are_ready = λ q. (
        λ has. ready_from_zero graph listed pending counts q (record { within = omega (arith, ((is q).0 has).0, counts.long); not_listed = rw none refl }) ((is q).0 has).1,
        λ is_ready. (is q).1 (omega (arith, is_ready.left.within, counts.long), zero_from_ready graph listed pending counts q is_ready),
      );
    }

-- what indexing gives
pub row_is : (rows : List (List ℕ)) (place : ℕ) (got row : List ℕ) → place < length rows → got ≡ get_or rows place got → row ≡ got → row ≡ needs_of rows place
row_is rows place got row within is same = same ∙ get_or_read rows place got within is []

module _ (graph dependents : List (List ℕ)) (listed pending : List ℕ) (ready : ℕ → Bool) (stands : Stands graph listed pending ready) (are : AreDependents graph dependents) where
  -- each place waits for another as often as it names that one
  pub room_for : (place : ℕ) → ready place ≡ true → (q : ℕ) → times q (needs_of dependents place) ≤ get_or pending q 0
  room_for place has q =
      let is_ready : IsReady graph listed place = (stands.are_ready place).0 has in
      omega (arith, are.each place q, stands.counts.each q, count_less listed place is_ready.left.not_listed (needs_of graph q))

  pub place_is_next : (place : ℕ) (rest : ℕ → Bool) → TakesFirst place ready rest → IsNext graph listed place
  place_is_next place rest takes = record {
    ready = (stands.are_ready place).0 takes.had;
    first = λ other is_ready. takes.first other ((stands.are_ready other).1 is_ready);
  }

  module _ (place : ℕ) (rest : ℕ → Bool) (takes : TakesFirst place ready rest) (new_pending : List ℕ) (new_ready : ℕ → Bool) (released : Releases (needs_of dependents place) pending new_pending rest new_ready) where
    is_next : IsNext graph listed place
    is_next = place_is_next place rest takes

    new_counts : ArePending graph (listed ++ place ∷ []) new_pending
    new_counts = record {
      long = released.long ∙ stands.counts.long;
      each = λ q. omega (arith, are.each place q, released.each q, stands.counts.each q, count_less listed place is_next.ready.left.not_listed (needs_of graph q));
    }

    still_left : (q : ℕ) → IsLeft graph listed q → q ≢ place → IsLeft graph (listed ++ place ∷ []) q
    still_left q left differ = record {
      within = left.within;
      not_listed = false_from_ne_true _ (λ was. elim (listed_push_cases listed place q was) [
        | inl before ↦ both_ways _ left.not_listed before
        | inr same ↦ differ same
      ]);
    }

    still_ready : (q : ℕ) → rest q ≡ true → IsReady graph (listed ++ place ∷ []) q
    still_ready q has =
        let before = takes.back q has in
        let was = (stands.are_ready q).0 before.1 in
        record {
          left = still_left q was.left before.0;
          needs_listed = λ i d within. listed_push_kept listed place _ (was.needs_listed i d within);
        }

    -- a place that waited for this one had a need that wasn't listed
    waits : (q : ℕ) → 0 < times q (needs_of dependents place) → ((i : ℕ) → i < length (needs_of graph q) → is_listed listed (get_or (needs_of graph q) i 0) ≡ true) → ⊥
    waits q some all =
        let s = stands_at (needs_of graph q) place (listed_from_times place (needs_of graph q) (omega (arith, some, are.each place q))) in
        both_ways _ is_next.ready.left.not_listed (rw s.is at (all s.at s.before))

    waited_left : (q : ℕ) → 0 < times q (needs_of dependents place) → IsLeft graph listed q
    waited_left q some = record {
      within = elim (cases_lt q (length graph)) [
        | inl within ↦ within
        | inr past ↦ absurd (waits q some (λ i within. absurd (omega (arith, within, ap length (get_or_past graph q [] past)))))
      ];
      not_listed = false_from_ne_true _ (λ was. waits q some (listed_needs graph listed stands.listing q was));
    }

    waited_other : (q : ℕ) → 0 < times q (needs_of dependents place) → q ≢ place
    waited_other q some same =
        let P : ℕ → Type 0 = λ x. (i : ℕ) → i < length (needs_of graph x) → is_listed listed (get_or (needs_of graph x) i 0) ≡ true in
        waits q some (subst P (sym same) (λ i within. is_next.ready.needs_listed i 0 within))

    new_is_ready : (q : ℕ) → 0 < times q (needs_of dependents place) → get_or new_pending q 0 ≡ 0 → IsReady graph (listed ++ place ∷ []) q
    new_is_ready q some none =
        ready_from_zero graph (listed ++ place ∷ []) new_pending new_counts q
        (still_left q (waited_left q some) (waited_other q some)) none

    ready_is_new : (q : ℕ) → IsReady graph (listed ++ place ∷ []) q → new_ready q ≡ true
    ready_is_new q is_ready =
        let none = zero_from_ready graph (listed ++ place ∷ []) new_pending new_counts q is_ready in
        elim (cases_lt 0 (times q (needs_of dependents place))) [
          | inl some ↦ (released.ready q).1 (inr (some, none))
          | inr no_more ↦
              let none_before : get_or pending q 0 ≡ 0 = omega (arith, none, no_more, released.each q) in
              let left : IsLeft graph listed q = record {
                within = is_ready.left.within;
                not_listed = false_from_ne_true _ (λ was. both_ways _ is_ready.left.not_listed (listed_push_kept listed place q was));
              } in
              let was_ready = (stands.are_ready q).1 (ready_from_zero graph listed pending stands.counts q left none_before) in
              (released.ready q).1 (inl (takes.kept q was_ready (λ same. both_ways _ is_ready.left.not_listed (rw same (listed_push_new listed place)))))
        ]

    pub turn : Stands graph (listed ++ place ∷ []) new_pending new_ready
    turn = record {
      listing = listing_push graph listed place stands.listing is_next;
      counts = new_counts;
      are_ready = λ q. (
        λ has. elim ((released.ready q).0 has) [ inl before ↦ still_ready q before | inr new ↦ new_is_ready q new.0 new.1 ],
        ready_is_new q,
      );
    }

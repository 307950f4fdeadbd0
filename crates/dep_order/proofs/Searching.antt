-- A search from some places on, by a queue.
use Rattle.std.proofs.Common.{◌≡◌, ◌↔◌, AllPairs, All, Contains, ℕ, ◌+◌, ◌<◌, ◌≤◌, Bool, true, false, not, cond, ◌||◌, inl, inr, eqb, eqb-true, nat_eq, nat_cmp, IsTrue, List, [], ◌∷◌, ◌++◌, length, get_or, take, sym, ◌∙◌, ap, refl, arith}
use Rattle.std.specs.BTreeSet.{BTreeSet, contains, Updates, IsOrdered}
use Rattle.std.specs.List.{IsDistinct}
use Rattle.std.proofs.lemmas.List.{get_or_read, get_or_append_left, length_push}
use Rattle.std.proofs.lemmas.List.Folds.{list_any_more}
use Rattle.std.proofs.lemmas.Map.Keys.{IsDistinct-push, below_from_sorted}
use Rattle.std.proofs.lemmas.Map.Steps.{length-le_from_distinct_below}
use Rattle.std.proofs.lemmas.Bool.{or_left, or_right, or_cases, cases_eq}
use Rattle.std.proofs.lemmas.Map.Views.{btree_set_contains_iff}
use Rattle.std.proofs.lemmas.Map.Lookups.{exact_unsigned}
use Rattle.std.proofs.lemmas.Cmp.{nat_eq_equiv, nat_cmp_total}
use Rattle.dep_order.specs.Graph.{needs_of, NeedsAreWithin}
use Rattle.dep_order.specs.Listing.{is_listed}
use Rattle.dep_order.specs.Reach.{IsReachedFrom, Direct, Further, AreReachedFrom}
use Rattle.dep_order.specs.Search.{Adds, AreNumbers}
use Rattle.dep_order.proofs.Listed.{stands_at, listed_at, listed-push, listed-from_Contains, Contains-from_listed, or_false}
use Rattle.dep_order.proofs.Cycles.{need_within}

-- ---- places that are queued

pub adds_none : (queue : List ℕ) → Adds [] queue queue
adds_none queue = record {
  longer = omega arith;
  kept = λ k within. refl;
  each = λ q. sym (or_false (is_listed queue q));
}

or_three : (a b c : Bool) → ((a || b) || (c || false)) ≡ (a || (b || c))
or_three true b c = refl
or_three false true c = refl
or_three false false true = refl
or_three false false false = refl

pub adds_more : (places : List ℕ) (i place : ℕ) → i < length places → place ≡ get_or places i 0 → (a b c : List ℕ) → Adds (take i places) a b → Adds (place ∷ []) b c → Adds (take (i + 1) places) a c
adds_more places i place within is a b c first then = record {
  longer = omega (arith, first.longer, then.longer);
  kept = λ k inside. then.kept k (omega (arith, first.longer, inside)) ∙ first.kept k inside;
  each = λ q.
      then.each q
      ∙ ap (λ (t : Bool). t || (eqb q place || false)) (first.each q)
      ∙ or_three (is_listed a q) (is_listed (take i places) q) (eqb q place)
      ∙ ap (λ (t : Bool). is_listed a q || t) (ap (λ (n : ℕ). is_listed (take i places) q || eqb q n) is ∙ sym (list_any_more (eqb q) places i 0 within));
}

-- a place that was queued already
pub adds_known : (queue : List ℕ) (place : ℕ) → is_listed queue place ≡ true → Adds (place ∷ []) queue queue
adds_known queue place known = record {
  longer = omega arith;
  kept = λ k within. refl;
  each = λ q. at q (eqb q place) refl;
}
  where
    at : (q : ℕ) (b : Bool) → eqb q place ≡ b → is_listed queue q ≡ (is_listed queue q || (b || false))
    at q true same = rw (eqb-true q place same, known) refl
    at q false apart = sym (or_false (is_listed queue q))

-- a place that is new
pub adds_new : (queue : List ℕ) (place : ℕ) → Adds (place ∷ []) queue (queue ++ place ∷ [])
adds_new queue place = record {
  longer = omega (arith, length_push queue place);
  kept = λ k within. get_or_append_left queue (place ∷ []) 0 k within;
  each = λ q. listed-push queue place q ∙ ap (λ (b : Bool). is_listed queue q || b) (sym (or_false (eqb q place)));
}

-- ---- the queue

-- the first places of the queue have queued what they need
pub record IsSearch (graph : List (List ℕ)) (starts : List ℕ) (at : ℕ) (queue : List ℕ) : Type 0 where
  pub apart : IsDistinct nat_eq queue
  pub inside : at ≤ length queue
  pub places : (q : ℕ) → is_listed queue q ≡ true → q < length graph
  pub sound : (q : ℕ) → is_listed queue q ≡ true → IsReachedFrom graph starts q
  pub begun : (q : ℕ) → is_listed starts q ≡ true → is_listed queue q ≡ true
  pub closed : (j : ℕ) → j < at → (q : ℕ) → is_listed (needs_of graph (get_or queue j 0)) q ≡ true → is_listed queue q ≡ true

module _ (graph : List (List ℕ)) (starts : List ℕ) where
  pub search_at_first : (queue : List ℕ) → All (λ start. start < length graph) starts → IsDistinct nat_eq queue → Adds starts [] queue → IsSearch graph starts 0 queue
  search_at_first queue within apart adds = record {
    apart = apart;
    inside = omega arith;
    places = λ q listed.
        let s = stands_at starts q (sym (adds.each q) ∙ listed) in
        rw s.is at (within s.at 0 s.before);
    sound = λ q listed. Direct q (Contains-from_listed starts q (sym (adds.each q) ∙ listed));
    begun = λ q listed. adds.each q ∙ listed;
    closed = λ j before. absurd (omega arith);
  }

  pub search_more : (at : ℕ) (old new : List ℕ) → IsSearch graph starts at old → at < length old → NeedsAreWithin graph → IsDistinct nat_eq new → Adds (needs_of graph (get_or old at 0)) old new → IsSearch graph starts (at + 1) new
  search_more at old new search within needs apart adds = record {
    apart = apart;
    inside = omega (arith, adds.longer);
    places = λ q listed. elim (or_cases _ _ (sym (adds.each q) ∙ listed)) [
      | inl was ↦ search.places q was
      | inr need ↦ need_within graph needs (get_or old at 0) q need
    ];
    sound = λ q listed. elim (or_cases _ _ (sym (adds.each q) ∙ listed)) [
      | inl was ↦ search.sound q was
      | inr need ↦ Further (get_or old at 0) q (search.sound _ (listed_at old at within)) (Contains-from_listed _ q need)
    ];
    begun = λ q listed. kept q (search.begun q listed);
    closed = λ j before q need.
        elim (cases_eq j at) [
          | inl same ↦
              let here : get_or new j 0 ≡ get_or old at 0 = adds.kept j (omega arith) ∙ ap (λ (n : ℕ). get_or old n 0) same in
              adds.each q ∙ or_right (is_listed old q) _ (rw here at need)
          | inr other ↦
              let here : get_or new j 0 ≡ get_or old j 0 = adds.kept j (omega (arith, search.inside)) in
              kept q (search.closed j (omega arith) q (rw here at need))
        ];
  }
    where
      kept : (q : ℕ) → is_listed old q ≡ true → is_listed new q ≡ true
      kept q was = adds.each q ∙ or_left (is_listed old q) _ was

  reached_queued : (at : ℕ) (queue : List ℕ) → IsSearch graph starts at queue → length queue ≤ at → (q : ℕ) → IsReachedFrom graph starts q → is_listed queue q ≡ true
  reached_queued at queue search done q (Direct _ has) = search.begun q (listed-from_Contains starts q has)
  reached_queued at queue search done q (Further through _ reached has) =
      let s = stands_at queue through (reached_queued at queue search done through reached) in
      search.closed s.at (omega (arith, s.before, done)) q (rw (← s.is) at (listed-from_Contains (needs_of graph through) q has))

  -- the places of the queue are places of the graph
  pub queue_within : (at : ℕ) (queue : List ℕ) → IsSearch graph starts at queue → (k place : ℕ) → k < length queue → place ≡ get_or queue k place → place < length graph
  queue_within at queue search k place inside is = search.places place (rw (← get_or_read queue k place inside is 0) at (listed_at queue k inside))

  pub queue_short : (at : ℕ) (queue : List ℕ) → IsSearch graph starts at queue → length queue ≤ length graph
  queue_short at queue search = length-le_from_distinct_below queue (length graph) search.apart search.places

  -- all places of the queue have queued what they need
  pub search_ends : (at : ℕ) (queue : List ℕ) (met : BTreeSet ℕ) → IsSearch graph starts at queue → length queue ≤ at → ((q : ℕ) → contains nat_cmp met q ≡ is_listed queue q) → (places : List ℕ) → AreNumbers places (contains nat_cmp met) → AreReachedFrom graph starts places
  search_ends at queue met search done same places are = record {
    in_order = are.in_order;
    each = λ q. (
      λ has. search.sound q (sym (same q) ∙ (are.each q).0 has),
      λ reached. (are.each q).1 (same q ∙ reached_queued at queue search done q reached),
    );
  }

pub set_numbers : (set : BTreeSet ℕ) (list : List ℕ) → IsOrdered nat_cmp set → list ≡ set.keys → AreNumbers list (contains nat_cmp set)
set_numbers set list ordered are = record {
  in_order = rw are (λ i j d before within. below_from_sorted set.keys i j d ordered before within);
  each = λ n. rw are ((btree_set_contains_iff nat_cmp_total exact_unsigned set n).1, (btree_set_contains_iff nat_cmp_total exact_unsigned set n).0);
}

pub distinct_none : (places : List ℕ) → places ≡ [] → IsDistinct nat_eq places
unfolding IsDistinct
distinct_none places none = rw none tt

pub distinct_more : (places new : List ℕ) (place : ℕ) → IsDistinct nat_eq places → is_listed places place ≡ false → new ≡ places ++ place ∷ [] → IsDistinct nat_eq new
distinct_more places new place apart fresh are = rw are (IsDistinct-push nat_eq_equiv places place apart fresh)

-- Agreement, as a test and as facts; and what one more decision has to meet.
use Rattle.std.proofs.Common.{◌≡◌, ℕ, Bool, true, false, not, ◌&&◌, ◌||◌, cond, List, [], ◌∷◌, bytes_eq, Option, Some, None, slice_get, option_and_then, IsTrue, ◌⊎◌, inl, inr, refl, sym, ap, subst, ◌∙◌}
use Rattle.std.specs.List.{list_any, list_all, Contains}
use Rattle.std.proofs.lemmas.Bool.{and_from, and_parts, cases_Bool, not-true}
use Rattle.hex_registry.specs.Candidates.{AreCandidatesOf, is_usable_in}
use Rattle.hex_registry.specs.Picks.{Picked, demand_refuses, demand_takes, demands_at, is_candidate, want_refuses, want_takes, with_picked}
use Rattle.hex_registry.specs.Shelves.{offer_at, stock_of}
use Rattle.hex_registry.specs.declared.offer.Demand.{Demand}
use Rattle.hex_registry.specs.declared.offer.Offer.{Offer}
use Rattle.hex_registry.specs.declared.shelf.Shelf.{Shelf}
use Rattle.hex_registry.specs.declared.shelf.Stock.{Stock}
use Rattle.hex_registry.specs.declared.wants.Want.{Want}
use Rattle.hex_registry.specs.declared.wants.Wants.{Wants}
use Rattle.hex_pick.specs.Problem.{AreTried, Problem, agrees, demands_take_offer, takes, wants_take, wants_take_offer}
use Rattle.hex_registry.proofs.Lists.{all_each, all_from, any_found, any_from, contains_none}
use Rattle.hex_registry.proofs.ValidLemmas.{demand_against, same_bytes, want_against}

pub none_any : {A : Type 0} (t : A → Bool) (xs : List A) → ((x : A) → Contains xs x → t x ≡ true → ⊥) → list_any t xs ≡ false
none_any t xs never =
    elim (cases_Bool (list_any t xs)) [
      | inl having ↦ (let k = any_found t xs having in absurd (never k.0 k.1 k.2))
      | inr lacking ↦ lacking
    ]

-- candidates
tried_at : (o : Option Stock) (locked : Option (List ℕ)) (places : List ℕ) (place : ℕ) → AreCandidatesOf o locked places
    → (Contains places place → is_usable_in (option_and_then (λ (stock : Stock). slice_get stock.offers place) o) ≡ true) ×
    (is_usable_in (option_and_then (λ (stock : Stock). slice_get stock.offers place) o) ≡ true → Contains places place)
tried_at None locked places place are = (λ c. absurd (contains_none place (subst (λ (ps : List ℕ). Contains ps place) are c)), λ u. absurd (cc))
tried_at (Some stock) locked places place are = ((are.each place).0, (are.each place).1)

pub candidate_of : (problem : Problem) (q : Picked) → AreTried problem.shelves problem.wants problem.candidates → Contains (problem.candidates q.0) q.1
    → IsTrue (is_candidate problem.shelves q)
candidate_of problem q tried c = (tried_at (stock_of problem.shelves q.0) _ (problem.candidates q.0) q.1 (tried q.0)).0 c

pub in_candidates : (problem : Problem) (q : Picked) → AreTried problem.shelves problem.wants problem.candidates → IsTrue (is_candidate problem.shelves q)
    → Contains (problem.candidates q.0) q.1
in_candidates problem q tried is = (tried_at (stock_of problem.shelves q.0) _ (problem.candidates q.0) q.1 (tried q.0)).1 is

-- wants that are met
want_met : (wants : List Want) (name : List ℕ) (o : Option Offer) (offer : Offer) (want : Want) → wants_take_offer wants name o ≡ true → o ≡ Some offer
    → Contains wants want → name ≡ want.«package» → want_takes offer want ≡ true
want_met wants name None offer want t e c same = absurd (cc)
want_met wants name (Some other) offer want t e c same =
    let is : other ≡ offer = cc in
    elim (cases_Bool (want_takes offer want)) [
      | inl having ↦ having
      | inr lacking ↦ (let refused : want_refuses name other want ≡ true = want_against name other want same
          (ap (λ (f : Offer). want_takes f want) is ∙ lacking) in
          let some = any_from (want_refuses name other) wants want c refused in
          absurd (let k : false ≡ true = sym (ap not some) ∙ t in cc))
    ]

wants_from : (wants : List Want) (name : List ℕ) (o : Option Offer) → ((want : Want) (offer : Offer) → Contains wants want → name ≡ want.«package»
    → o ≡ Some offer → want_takes offer want ≡ true) → wants_take_offer wants name o ≡ true
wants_from wants name None met = refl
wants_from wants name (Some offer) met =
    ap not (none_any (want_refuses name offer) wants (λ want c r.
    (let both = and_parts (bytes_eq name want.«package») (not (want_takes offer want)) r in
    let taken = met want offer c (same_bytes name want.«package» both.0) refl in
    let k : false ≡ true = sym (ap not taken) ∙ both.1 in cc)))

demand_met : (overridden : List (List ℕ)) (demands : List Demand) (name : List ℕ) (o : Option Offer) (offer : Offer) (demand : Demand)
    → demands_take_offer overridden demands name o ≡ true → o ≡ Some offer → Contains demands demand → name ≡ demand.«package»
    → demand_takes overridden offer demand ≡ true
demand_met overridden demands name None offer demand t e c same = absurd (cc)
demand_met overridden demands name (Some other) offer demand t e c same =
    let is : other ≡ offer = cc in
    elim (cases_Bool (demand_takes overridden offer demand)) [
      | inl having ↦ having
      | inr lacking ↦ (let refused : demand_refuses overridden name other demand ≡ true = demand_against overridden name other demand same
          (ap (λ (f : Offer). demand_takes overridden f demand) is ∙ lacking) in
          let some = any_from (demand_refuses overridden name other) demands demand c refused in
          absurd (let k : false ≡ true = sym (ap not some) ∙ t in cc))
    ]

demands_from : (overridden : List (List ℕ)) (demands : List Demand) (name : List ℕ) (o : Option Offer)
    → ((demand : Demand) (offer : Offer) → Contains demands demand → name ≡ demand.«package» → o ≡ Some offer → demand_takes overridden offer demand ≡ true)
    → demands_take_offer overridden demands name o ≡ true
demands_from overridden demands name None met = refl
demands_from overridden demands name (Some offer) met =
    ap not (none_any (demand_refuses overridden name offer) demands (λ demand c r.
    (let both = and_parts (bytes_eq name demand.«package») (not (demand_takes overridden offer demand)) r in
    let taken = met demand offer c (same_bytes name demand.«package» both.0) refl in
    let k : false ≡ true = sym (ap not taken) ∙ both.1 in cc)))

pub record Agrees (problem : Problem) (pick : List Picked) : Type 0 where
  pub wants : (want : Want) (picked : Picked) (offer : Offer) → Contains problem.wants.wants want → Contains pick picked → picked.0 ≡ want.«package»
      → offer_at problem.shelves picked ≡ Some offer → want_takes offer want ≡ true
  pub demands : (by picked : Picked) (demand : Demand) (offer : Offer) → Contains pick by → Contains (demands_at problem.shelves problem.wants by) demand
      → Contains pick picked → picked.0 ≡ demand.«package» → offer_at problem.shelves picked ≡ Some offer
      → demand_takes problem.wants.overridden offer demand ≡ true

pub agrees_met : (problem : Problem) (pick : List Picked) → agrees problem pick ≡ true → Agrees problem pick
agrees_met problem pick h =
    let each = λ (picked : Picked) (c : Contains pick picked). and_parts (wants_take problem picked)
    (list_all (λ (by : Picked). takes problem by picked) pick) (all_each (λ (q : Picked). wants_take problem q && list_all
    (λ (by : Picked). takes problem by q) pick) pick picked h c) in
    record {
      wants = λ want picked offer w c same e. want_met problem.wants.wants picked.0 (offer_at problem.shelves picked) offer want (each picked c).0 e w same;
      demands = λ by picked demand offer b d c same e.
          demand_met problem.wants.overridden (demands_at problem.shelves problem.wants by) picked.0 (offer_at problem.shelves picked) offer demand
          (all_each (λ (q : Picked). takes problem q picked) pick by (each picked c).1 b) e d same;
    }

pub agrees_from : (problem : Problem) (pick : List Picked) → Agrees problem pick → agrees problem pick ≡ true
agrees_from problem pick a =
    all_from (λ (q : Picked). wants_take problem q && list_all (λ (by : Picked). takes problem by q) pick) pick (λ picked c.
    and_from (wants_take problem picked) (list_all (λ (by : Picked). takes problem by picked) pick)
    (wants_from problem.wants.wants picked.0 (offer_at problem.shelves picked) (λ want offer w same e. a.wants want picked offer w c same e))
    (all_from (λ (by : Picked). takes problem by picked) pick (λ by b.
    demands_from problem.wants.overridden (demands_at problem.shelves problem.wants by) picked.0 (offer_at problem.shelves picked)
    (λ demand offer d same e. a.demands by picked demand offer b d c same e))))

-- An agenda takes in an event.
use Rattle.std.proofs.Common.{◌≡◌, ℕ, zero, suc, ◌+◌, ◌<◌, ◌==◌, ◌||◌, inl, inr, Bool, true, false, cond, List, [], ◌∷◌, length, count_by, is_none, get_or, Option, Some, slice_set, refl, sym, ◌∙◌, ap, subst, arith, eq-eqb}
use Rattle.std.specs.List.{All}
use Rattle.std.proofs.lemmas.Bool.{cases_lt}
use Rattle.std.proofs.lemmas.Option.{slice_get-get_or, slice_get_past}
use Rattle.compile_model.specs.declared.job.Job.{Job}
use Rattle.partition_core.specs.declared.agenda.Agenda.{Agenda}
use Rattle.partition_core.specs.declared.outlook.Outlook.{Outlook}
use Rattle.partition_core.specs.declared.event.Event.{Event}
use Rattle.partition_core.specs.State.{State, needs_of}
use Rattle.partition_core.specs.Refusals.{place_of}
use Rattle.partition_core.specs.Agendas.{has, offers, HasFronts, IsOutlook, AreDependents, IsAgenda, IsBehind, dependents_at, places_or_none, settles}
use Rattle.partition_core.proofs.OutlookLemmas.{outlook_looked}

-- the place of the event was looked at
pub looked : (jobs : List Job) (s : State) (event : Event) (agenda : Agenda) (new : Outlook) → IsBehind jobs s event agenda → place_of event < length jobs →
    HasFronts jobs s.fates new → new.offering ≡ slice_set agenda.outlook.offering (place_of event) (offers jobs s (place_of event)) → (rest : List ℕ) →
    cond (settles event) (dependents_at agenda.dependents.items (place_of event)) [] ≡ rest → IsOutlook jobs s rest new
looked jobs s event agenda new behind within fronts set rest is =
    outlook_looked jobs s (place_of event) rest agenda.outlook new
    (subst (λ (places : List ℕ). IsOutlook jobs s (place_of event ∷ places) agenda.outlook) is behind.outlook) within fronts set

-- an event that gives its place no fate
pub taken_quiet : (jobs : List Job) (s : State) (event : Event) (agenda : Agenda) (new : Outlook) → IsBehind jobs s event agenda →
    place_of event < length jobs →
    settles event ≡ false → HasFronts jobs s.fates new → new.offering ≡ slice_set agenda.outlook.offering (place_of event) (offers jobs s (place_of event)) →
    IsAgenda jobs s (record { outlook = new; dependents = agenda.dependents; left = agenda.left })
taken_quiet jobs s event agenda new behind within quiet fronts set = record {
  outlook = looked jobs s event agenda new behind within fronts set []
      (ap (λ (b : Bool). cond b (dependents_at agenda.dependents.items (place_of event)) []) quiet);
  dependents = behind.dependents;
  left = let h = behind.left ∙ ap (λ (b : Bool). count_by is_none s.fates + cond b 1 0) quiet in omega arith;
}

-- what a flag says, at the place of the event
pub flag_at : (jobs : List Job) (s : State) (old new : List Bool) (p q : ℕ) → p ≡ q → new ≡ slice_set old p (offers jobs s p) →
    new ≡ slice_set old q (offers jobs s q)
flag_at jobs s old new p q e is = subst (λ (n : ℕ). new ≡ slice_set old n (offers jobs s n)) e is

-- the event gave its place a fate
pub looked_settled : (jobs : List Job) (s : State) (event : Event) (agenda : Agenda) (new : Outlook) (places : List ℕ) → IsBehind jobs s event agenda →
    place_of event < length jobs → settles event ≡ true → HasFronts jobs s.fates new →
    new.offering ≡ slice_set agenda.outlook.offering (place_of event) (offers jobs s (place_of event)) →
    places ≡ get_or agenda.dependents.items (place_of event) places → IsOutlook jobs s places new
looked_settled jobs s event agenda new places behind within settled fronts set is =
    let long : place_of event < length agenda.dependents.items = let h = behind.dependents.places in omega arith in
    looked jobs s event agenda new behind within fronts set places
    (ap (λ (b : Bool). cond b (dependents_at agenda.dependents.items (place_of event)) []) settled
    ∙ ap places_or_none (slice_get-get_or agenda.dependents.items (place_of event) places long) ∙ sym is)

-- a list that is read through a call that lends it
pub read_through : (xs : List (List ℕ)) (i j : ℕ) (seen item : List ℕ) → i ≡ j → seen ≡ item → item ≡ get_or xs i item → seen ≡ get_or xs j seen
read_through xs i j seen item same e is =
    subst (λ (n : ℕ). seen ≡ get_or xs n seen) same (subst (λ (places : List ℕ). places ≡ get_or xs i places) (sym e) is)

or_yes : (a b : Bool) → b ≡ true → (a || b) ≡ true
or_yes true b e = refl
or_yes false b e = e

-- what stands in a list is in it
has_at : (places : List ℕ) (k d : ℕ) → k < length places → has places (get_or places k d) ≡ true
has_at [] k d h = absurd (omega arith)
has_at (p ∷ places) zero d h = ap (λ (b : Bool). b || has places p) (eq-eqb p p refl)
has_at (p ∷ places) (suc k) d h = or_yes (p == get_or places k d) (has places (get_or places k d)) (has_at places k d (omega arith))

-- dependents are places of jobs
pub dependents_within : (jobs : List Job) (dependents : List (List ℕ)) (need : ℕ) (places : List ℕ) → AreDependents jobs dependents → need < length dependents →
    places ≡ get_or dependents need places → All (λ place. place < length jobs) places
dependents_within jobs dependents need places are within is k d below =
    elim (cases_lt (get_or places k d) (length jobs)) [
      | inl less ↦ less
      | inr past ↦ absurd (
          let listed : has places (get_or places k d) ≡ true = has_at places k d below in
          let none : has places (get_or places k d) ≡ false =
          ap (λ (f : Option (List ℕ)). has (places_or_none f) (get_or places k d))
          (ap Some is ∙ sym (slice_get-get_or dependents need places within))
          ∙ are.each need (get_or places k d)
          ∙ ap (λ (f : Option Job). has (needs_of f) need) (slice_get_past jobs (get_or places k d) past) in
          let h : true ≡ false = sym listed ∙ none in cc)
    ]

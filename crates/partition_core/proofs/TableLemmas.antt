-- A table before and after an event.
use Rattle.std.proofs.Common.{◌≡◌, ℕ, ◌+◌, ◌-◌, ◌*◌, ◌<◌, ◌≤◌, ◌==◌, Bool, true, false, cond, Result, Ok, Err, OnOk, OnErr, List, [], ◌∷◌, ◌++◌, length, replicate, reverse, map, Option, Some, None, is_some, slice_get, refl, sym, ◌∙◌, ap, subst, arith, length-append, vec_capacity}
use Rattle.std.proofs.lemmas.Bool.{eqb-false}
use Rattle.std.specs.Option.{option_and_then}
use Rattle.std.proofs.lemmas.List.{length-map, length-replicate, reverse-append, append_assoc, map-append}
use Rattle.std.proofs.lemmas.Option.{slice_get_within}
use Rattle.compile_model.specs.declared.job.Plan.{Plan}
use Rattle.compile_model.specs.declared.outcome.Outcome.{Outcome}
use Rattle.compile_model.specs.declared.outcome.Fate.{Fate}
use Rattle.compile_model.specs.Content.{Content}
use Rattle.compile_model.specs.Planned.{ArePlanned}
use Rattle.staleness.specs.declared.kept.Kept.{Kept}
use Rattle.partition_core.specs.declared.lot.Lot.{Lot}
use Rattle.partition_core.specs.declared.table.Table.{Table}
use Rattle.partition_core.specs.declared.event.Event.{Event}
use Rattle.partition_core.specs.declared.event.Event.TheVariants.{Keep, Start, Finish, Fail, Skip, Back}
use Rattle.partition_core.specs.declared.event.Standing.{Standing}
use Rattle.partition_core.specs.declared.event.Standing.TheVariants.{Idle}
use Rattle.partition_core.specs.declared.event.IllegalCause.{IllegalCause}
use Rattle.partition_core.specs.State.{Opening, State, start_of, at, standing, needs_at, outcomes_now}
use Rattle.partition_core.specs.Steps.{IsLegal, effect, after}
use Rattle.partition_core.specs.Histories.{Legal, Faithful, IsFaithful, AreFaithful, after_all, replay}
use Rattle.partition_core.specs.Refusals.{refusal, place_of, by_of, not_acting}
use Rattle.partition_core.specs.Lots.{fate_of, fates_of, kepts_of}
use Rattle.partition_core.specs.Story.{Story, state_now, with_event}
use Rattle.partition_core.specs.declared.lot.Lot.TheVariants.{Open}
use Rattle.partition_core.specs.Tables.{IsTable, IsCore, IsDue, HasKept, state_in, opening_in, story_in}
use Rattle.partition_core.specs.Agendas.{IsAgenda}
use Rattle.partition_core.proofs.Places.{kept_parts}
use Rattle.partition_core.proofs.Tidy.{Tidy, tidy_all, tidy_start, replay_more, legal_more}
use Rattle.partition_core.proofs.Exact.{legal_since, acts, not_refused}
use Rattle.partition_core.proofs.HistoryLength.{bounded}

pub tidy_table : (t : Table) → IsTable t → Tidy (state_in t)
tidy_table t table = subst Tidy (sym table.now) (tidy_all (opening_in t) (start_of (opening_in t)) t.history.items (tidy_start (opening_in t)) table.legal)

pub fates_table : (t : Table) → IsTable t → length (state_in t).fates ≡ length t.plan.jobs
fates_table t table = length-map t.lots.items fate_of ∙ table.places

-- what isn't refused is legal
pub legal_here : (t : Table) → IsTable t → (event : Event) → refusal (opening_in t) (state_in t) event ≡ None → IsLegal (opening_in t) (state_in t) event
legal_here t table event e = legal_since (opening_in t) (state_in t) (fates_table t table) event e

by_there : (by : ℕ) (n : ℕ) (found : Option Standing) → (zeroth : Bool) → (by == 0) ≡ zeroth → ((x : Standing) → found ≡ Some x → by - 1 < n) →
    not_acting (cond zeroth None found) ≡ None → (0 < by) × (by ≤ n)
by_there by n found true is within e = cc
by_there by n None false is within e = cc
by_there by n (Some x) false is within e =
    let h = within x refl in
    let positive : 0 < by = pos by (eqb-false by 0 is) in
    (positive, omega arith)
  where
    pos : (m : ℕ) → (m ≡ 0 → ⊥) → 0 < m
    pos m not_zero = omega (arith, not_zero)

acting_by : (standings : List Standing) (by : ℕ) → not_acting (standing standings by) ≡ None → (0 < by) × (by ≤ length standings)
acting_by standings by e = by_there by (length standings) (slice_get standings (by - 1)) (by == 0) refl (λ x is. slice_get_within standings (by - 1) x is) e

some_is : (o : Option Kept) (k : Kept) → o ≡ Some k → is_some o ≡ true
some_is o k e = ap is_some e

has_kept : (o : Opening) (s : State) (event : Event) → IsLegal o s event → HasKept o.kept event
has_kept o s (Keep place by) legal =
    let parts = kept_parts (at o.kept place) (slice_get o.plan.jobs place) (outcomes_now s.fates (needs_at o place)) legal.2 in
    some_is (at o.kept place) parts.0 parts.2
has_kept o s (Start place by) legal = tt
has_kept o s (Finish place by outcome) legal = tt
has_kept o s (Fail place by outcome) legal = tt
has_kept o s (Skip place need by) legal = tt
has_kept o s (Back place by cause) legal = tt

-- what isn't refused may happen
pub due_here : (t : Table) → IsTable t → (event : Event) → refusal (opening_in t) (state_in t) event ≡ None → IsDue t.lots.items t.standings.items event
due_here t table event e =
    let legal = legal_here t table event e in
    let act = acts (opening_in t) (state_in t) (tidy_table t table) event legal in
    let by = acting_by t.standings.items (by_of event) act.1 in
    let inside = slice_get_within (fates_of t.lots.items) (place_of event) None act.0 in
    record {
      low = by.0;
      high = by.1;
      within = omega (arith, inside, length-map t.lots.items fate_of);
      open_place = ap (option_and_then (λ (v : Option Fate). v)) act.0;
      kept = has_kept (opening_in t) (state_in t) event legal;
    }

legal_then : (t : Table) → IsTable t → (event : Event) → refusal (opening_in t) (state_in t) event ≡ None → Legal (opening_in t) (t.history.items ++ event ∷ [])
legal_then t table event e =
    legal_more (opening_in t) t.history.items event table.legal (subst (λ (s : State). IsLegal (opening_in t) s event) table.now (legal_here t table event e))

-- there is room for one event more
pub room_here : (t : Table) → IsTable t → (event : Event) → refusal (opening_in t) (state_in t) event ≡ None → length t.history.items < vec_capacity t.history
room_here t table event e =
    omega (arith, bounded (opening_in t) (t.history.items ++ event ∷ []) (legal_then t table event e), length-append t.history.items (event ∷ []), table.room)

spare_room : (t new : Table) → new.spare ≡ t.spare → length new.plan.jobs ≡ length t.plan.jobs → length t.plan.jobs ≤ vec_capacity t.spare →
    length new.plan.jobs ≤ vec_capacity new.spare
spare_room t new spare jobs room = omega (arith, ap vec_capacity spare)

-- the table after an event
pub table_then : (t new : Table) → IsTable t → (event : Event) → refusal (opening_in t) (state_in t) event ≡ None → new.plan ≡ t.plan →
    state_in new ≡ effect (kepts_of t.lots.items) (state_in t) event → kepts_of new.lots.items ≡ kepts_of t.lots.items →
    length new.standings.items ≡ length t.standings.items → length new.lots.items ≡ length t.lots.items →
    new.history.items ≡ t.history.items ++ event ∷ [] → vec_capacity t.history ≤ vec_capacity new.history → new.spare ≡ t.spare →
    IsAgenda new.plan.jobs (state_in new) new.agenda → IsTable new
table_then t new table event e plan state kept standings lots history capacity spare agenda =
    let o = opening_in t in
    let opening : opening_in new ≡ o =
    ap (λ (p : Plan). record { plan = p; kept = kepts_of new.lots.items; partitions = length new.standings.items }) plan
    ∙ ap (λ (k : List (Option Kept)). record { plan = t.plan; kept = k; partitions = length new.standings.items }) kept
    ∙ ap (λ (n : ℕ). record { plan = t.plan; kept = kepts_of t.lots.items; partitions = n }) standings in
    let jobs : length new.plan.jobs ≡ length t.plan.jobs = ap (λ (p : Plan). length p.jobs) plan in
    record {
      now = state ∙ ap (λ (s : State). effect (kepts_of t.lots.items) s event) table.now ∙ sym (replay_more o t.history.items event)
          ∙ ap (replay o) (sym history) ∙ ap (λ (p : Opening). replay p new.history.items) (sym opening);
      legal = subst (λ (p : Opening). Legal p new.history.items) (sym opening)
          (subst (λ (es : List Event). Legal o es) (sym history) (legal_then t table event e));
      planned = subst (λ (p : Plan). ArePlanned p.jobs) (sym plan) table.planned;
      places = lots ∙ table.places ∙ sym jobs;
      few = omega (arith, standings, table.few);
      room = omega (arith, table.room, standings, jobs, capacity);
      empty = ap (λ (s : _). s.items) spare ∙ table.empty;
      fates_room = spare_room t new spare jobs table.fates_room;
      agenda = agenda;
    }

are_faithful_more : (compile : Content → Outcome) (o : Opening) (s : State) (events : List Event) (event : Event) → AreFaithful compile o s events →
    IsFaithful compile o (after_all o s events) event → AreFaithful compile o s (events ++ event ∷ [])
are_faithful_more compile o s [] event faithful now = (now, tt)
are_faithful_more compile o s (first ∷ events) event faithful now = (faithful.0, are_faithful_more compile o (after o s first) events event faithful.1 now)

faithful_same : (compile : Content → Outcome) (old new : Story) → new ≡ old → Faithful compile old.opening old.events → Faithful compile new.opening new.events
faithful_same compile old new e = subst (λ (story : Story). Faithful compile story.opening story.events) (sym e)

-- a core after a step, of either answer
pub core_then : {T E : Type 0} (honest : Type 0) (compile : Content → Outcome) (t new : Table) (event : Event) (r : Result T E) →
    IsCore honest compile t → IsTable new → OnOk r (story_in new ≡ with_event (story_in t) event) → OnErr r (story_in new ≡ story_in t) →
    OnOk r (IsLegal (opening_in t) (state_in t) event) →
    (honest → IsLegal (opening_in t) (state_now (story_in t)) event → IsFaithful compile (opening_in t) (state_now (story_in t)) event) →
    IsCore honest compile new
core_then honest compile t new event (Ok x) core table ok err legal meant = record {
  table = table;
  faithful = λ h. faithful_same compile (with_event (story_in t) event) (story_in new) ok
      (are_faithful_more compile (opening_in t) (start_of (opening_in t)) t.history.items event (core.faithful h)
      (meant h (subst (λ (s : State). IsLegal (opening_in t) s event) core.table.now legal)));
}
core_then honest compile t new event (Err e) core table ok err legal meant = record {
  table = table;
  faithful = λ h. faithful_same compile (story_in t) (story_in new) err (core.faithful h);
}

kepts_open : (kept : List (Option Kept)) → kepts_of (map Open kept) ≡ kept
kepts_open [] = refl
kepts_open (k ∷ ks) = ap (λ (rest : List (Option Kept)). k ∷ rest) (kepts_open ks)

fates_open : (kept : List (Option Kept)) → fates_of (map Open kept) ≡ replicate (length kept) None
fates_open [] = refl
fates_open (k ∷ ks) = ap (λ (rest : List (Option Fate)). None ∷ rest) (fates_open ks)

-- no place has a fate
pub fates_first : (lots : List Lot) (kept : List (Option Kept)) (jobs : ℕ) → lots ≡ map Open kept → length kept ≡ jobs →
    fates_of lots ≡ replicate jobs None
fates_first lots kept jobs is places = ap fates_of is ∙ fates_open kept ∙ ap (λ (n : ℕ). replicate n None) places

opening_first : (t : Table) (kept : List (Option Kept)) (partitions : ℕ) → t.lots.items ≡ map Open kept →
    t.standings.items ≡ replicate partitions Idle → opening_in t ≡ record { plan = t.plan; kept = kept; partitions = partitions }
opening_first t kept partitions lots standings =
    ap (λ (k : List (Option Kept)). record { plan = t.plan; kept = k; partitions = length t.standings.items }) (ap kepts_of lots ∙ kepts_open kept)
    ∙ ap (λ (n : ℕ). record { plan = t.plan; kept = kept; partitions = n }) (ap length standings ∙ length-replicate partitions Idle)

-- where nothing has happened
pub story_first : (t : Table) (kept : List (Option Kept)) (partitions : ℕ) → t.lots.items ≡ map Open kept →
    t.standings.items ≡ replicate partitions Idle → t.history.items ≡ [] →
    story_in t ≡ record { opening = record { plan = t.plan; kept = kept; partitions = partitions }; events = [] }
story_first t kept partitions lots standings history =
    ap (λ (o : Opening). record { opening = o; events = t.history.items }) (opening_first t kept partitions lots standings)
    ∙ ap (λ (es : List Event). record { opening = record { plan = t.plan; kept = kept; partitions = partitions }; events = es }) history

pub table_first : (t : Table) (kept : List (Option Kept)) (partitions : ℕ) → ArePlanned t.plan.jobs → length kept ≡ length t.plan.jobs →
    partitions ≤ 64 → t.lots.items ≡ map Open kept → t.standings.items ≡ replicate partitions Idle → t.history.items ≡ [] →
    2 * (length t.plan.jobs + partitions) ≤ vec_capacity t.history → t.spare.items ≡ [] → length t.plan.jobs ≤ vec_capacity t.spare →
    IsAgenda t.plan.jobs (state_in t) t.agenda → IsTable t
table_first t kept partitions planned places few lots standings history room empty fates_room agenda =
    let o : Opening = record { plan = t.plan; kept = kept; partitions = partitions } in
    let opening = opening_first t kept partitions lots standings in
    let count : length t.standings.items ≡ partitions = ap length standings ∙ length-replicate partitions Idle in
    let begun : state_in t ≡ start_of o =
    ap (λ (xs : List Lot). record { fates = fates_of xs; standings = t.standings.items }) lots
    ∙ ap (λ (fs : List (Option Fate)). record { fates = fs; standings = t.standings.items }) (fates_open kept)
    ∙ ap (λ (n : ℕ). record { fates = replicate n None; standings = t.standings.items }) places
    ∙ ap (λ (ss : List Standing). record { fates = replicate (length t.plan.jobs) None; standings = ss }) standings in
    record {
      now = begun ∙ ap (λ (p : Opening). start_of p) (sym opening) ∙ ap (replay (opening_in t)) (sym history);
      legal = subst (λ (es : List Event). Legal (opening_in t) es) (sym history) tt;
      planned = planned;
      places = ap length lots ∙ length-map kept Open ∙ places;
      few = omega (arith, few, count);
      room = omega (arith, room, count);
      empty = empty;
      fates_room = fates_room;
      agenda = agenda;
    }

-- a lot taken from the end of some, and its fate put at the end of others
pub fates_moved : (lots rest : List Lot) (fates : List (Option Fate)) (lot : Lot) → lots ≡ rest ++ lot ∷ [] →
    fates_of rest ++ reverse (fates ++ fate_of lot ∷ []) ≡ fates_of lots ++ reverse fates
fates_moved lots rest fates lot e =
    ap (λ (xs : List (Option Fate)). fates_of rest ++ xs) (reverse-append fates (fate_of lot ∷ []))
    ∙ sym (append_assoc (fates_of rest) (fate_of lot ∷ []) (reverse fates))
    ∙ ap (λ (xs : List (Option Fate)). xs ++ reverse fates) (sym (map-append fate_of rest (lot ∷ [])) ∙ ap fates_of (sym e))

-- a legal event isn't refused
pub accepted : (t : Table) → IsTable t → (event : Event) → (cause : IllegalCause) → refusal (opening_in t) (state_in t) event ≡ Some cause →
    IsLegal (opening_in t) (state_in t) event → ⊥
accepted t table event cause e legal = let none = not_refused (opening_in t) (state_in t) (fates_table t table) (tidy_table t table) event legal in cc

pub bound_in : (t : Table) → IsTable t → length t.history.items ≤ 2 * (length t.plan.jobs + length t.standings.items)
bound_in t table = bounded (opening_in t) t.history.items table.legal

pub within_here : (t : Table) → IsTable t → (event : Event) → refusal (opening_in t) (state_in t) event ≡ None → place_of event < length t.plan.jobs
within_here t table event e = let h = (due_here t table event e).within in let g = table.places in omega arith

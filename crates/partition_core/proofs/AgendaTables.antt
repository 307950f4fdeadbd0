-- Tables and their agendas.
use Rattle.std.proofs.Common.{◌≡◌, ℕ, ◌<◌, ◌==◌, true, false, List, length, Option, Some, None, IfSome, IfNone, is_some, slice_get, sym, ◌∙◌, ap, subst, arith}
use Rattle.std.proofs.lemmas.Bool.{eqb-false, eqb-true}
use Rattle.partition_core.specs.declared.table.Table.{Table}
use Rattle.partition_core.specs.declared.event.Event.{Event}
use Rattle.partition_core.specs.declared.event.Next.{Next}
use Rattle.partition_core.specs.declared.event.Next.TheVariants.{Later, Over}
use Rattle.partition_core.specs.State.{State}
use Rattle.partition_core.specs.Steps.{effect}
use Rattle.partition_core.specs.Refusals.{refusal}
use Rattle.partition_core.specs.Lots.{kepts_of, state_of}
use Rattle.compile_model.specs.declared.job.Plan.{Plan}
use Rattle.partition_core.specs.declared.lot.Lot.{Lot}
use Rattle.partition_core.specs.declared.agenda.Agenda.{Agenda}
use Rattle.partition_core.specs.declared.event.Standing.{Standing}
use Rattle.partition_core.specs.Tables.{IsTable, state_in, opening_in}
use Rattle.partition_core.specs.Nexts.{offer, IsFirst, IsNext}
use Rattle.partition_core.specs.PlaceSets.{IsFirstOf}
use Rattle.partition_core.specs.Agendas.{IsAgenda, IsBehind}
use Rattle.partition_core.proofs.Offers.{next_over, next_later}
use Rattle.partition_core.proofs.Touched.{behind_after}
use Rattle.partition_core.proofs.Offered.{none_left, settled_left, first_at, some_at, none_at}
use Rattle.partition_core.proofs.TableLemmas.{tidy_table, fates_table, legal_here}

-- nothing is offered, and no place is left
pub over_here : (t : Table) → IsTable t →
    ((place : ℕ) → place < length (state_in t).fates → offer (opening_in t) (state_in t) place ≡ None) →
    (t.agenda.left == 0) ≡ true → IsNext (opening_in t) (state_in t) Over
over_here t table none over =
    next_over (opening_in t) (state_in t) none (none_left (state_in t).fates (sym table.agenda.left ∙ eqb-true t.agenda.left 0 over))

pub later_here : (t : Table) → IsTable t →
    ((place : ℕ) → place < length (state_in t).fates → offer (opening_in t) (state_in t) place ≡ None) →
    (t.agenda.left == 0) ≡ false → IsNext (opening_in t) (state_in t) Later
later_here t table none over =
    next_later (opening_in t) (state_in t) table.planned (fates_table t table) none
    (λ settled. eqb-false t.agenda.left 0 over (table.agenda.left ∙ settled_left (state_in t).fates settled))

-- the first place whose flag is true, and what it offers
pub first_here : (t : Table) → IsTable t → (place : ℕ) → IsFirstOf t.agenda.outlook.offering place → (next : Next) →
    offer (opening_in t) (state_in t) place ≡ Some next → IsFirst (opening_in t) (state_in t) next
first_here t table place first next here =
    first_at (opening_in t) (state_in t) t.agenda.outlook table.agenda.outlook (fates_table t table) place first next here

pub lit_here : (t : Table) → IsTable t → (place : ℕ) → IsFirstOf t.agenda.outlook.offering place →
    (place < length t.plan.jobs) × (is_some (offer (opening_in t) (state_in t) place) ≡ true)
lit_here t table place first = some_at (opening_in t) (state_in t) t.agenda.outlook table.agenda.outlook place first.here

pub dark_here : (t : Table) → IsTable t → ((place : ℕ) → slice_get t.agenda.outlook.offering place ≡ Some true → ⊥) →
    (place : ℕ) → place < length (state_in t).fates → offer (opening_in t) (state_in t) place ≡ None
dark_here t table dark place within =
    none_at (opening_in t) (state_in t) t.agenda.outlook table.agenda.outlook place (let h = fates_table t table in omega arith) (dark place)

-- what the first place whose flag is true offers
pub found_here : (t : Table) → IsTable t → (place : ℕ) → IsFirstOf t.agenda.outlook.offering place → (made : Option Next) →
    made ≡ offer (opening_in t) (state_in t) place → IfSome made (IsFirst (opening_in t) (state_in t))
found_here t table place first None e = tt
found_here t table place first (Some next) e = first_here t table place first next (sym e)

-- it offers something
pub none_here : (t : Table) → IsTable t → (place : ℕ) → IsFirstOf t.agenda.outlook.offering place → (made : Option Next) →
    made ≡ offer (opening_in t) (state_in t) place →
    IfNone made ((p : ℕ) → p < length (state_in t).fates → offer (opening_in t) (state_in t) p ≡ None)
none_here t table place first None e =
    let lit = (lit_here t table place first).1 in let h : false ≡ true = ap (λ (m : Option Next). is_some m) e ∙ lit in cc
none_here t table place first (Some next) e = tt

-- the agenda after an event that isn't refused
pub behind_here : (t : Table) → IsTable t → (event : Event) → refusal (opening_in t) (state_in t) event ≡ None → (new : State) →
    new ≡ effect (kepts_of t.lots.items) (state_in t) event → IsBehind t.plan.jobs new event t.agenda
behind_here t table event e new is =
    subst (λ (s : State). IsBehind t.plan.jobs s event t.agenda) (sym is)
    (behind_after (opening_in t) (state_in t) (tidy_table t table) event (legal_here t table event e) t.agenda table.agenda)

-- the same, read through the calls that lend the table's parts
pub agenda_seen : (p plan : Plan) (ls lots : List Lot) (ss standings : List Standing) (agenda : Agenda) → p ≡ plan → ls ≡ lots →
    ss ≡ standings → IsAgenda p.jobs (state_of ls ss) agenda → IsAgenda plan.jobs (state_of lots standings) agenda
agenda_seen p plan ls lots ss standings agenda e f g is =
    subst (λ (q : Plan). IsAgenda q.jobs (state_of lots standings) agenda) e
    (subst (λ (xs : List Lot). IsAgenda p.jobs (state_of xs standings) agenda) f
    (subst (λ (ys : List Standing). IsAgenda p.jobs (state_of ls ys) agenda) g is))

pub behind_seen : (p plan : Plan) (ls lots : List Lot) (ss standings : List Standing) (event : Event) (agenda : Agenda) → p ≡ plan →
    ls ≡ lots → ss ≡ standings → IsBehind plan.jobs (state_of lots standings) event agenda → IsBehind p.jobs (state_of ls ss) event agenda
behind_seen p plan ls lots ss standings event agenda e f g is =
    subst (λ (q : Plan). IsBehind q.jobs (state_of ls ss) event agenda) (sym e)
    (subst (λ (xs : List Lot). IsBehind plan.jobs (state_of xs ss) event agenda) (sym f)
    (subst (λ (ys : List Standing). IsBehind plan.jobs (state_of lots ys) event agenda) (sym g) is))

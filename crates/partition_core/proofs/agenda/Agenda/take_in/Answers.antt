use Rattle.std.proofs.Common.{sym, refl, ◌∙◌, arith}
use Rattle.partition_core.specs.Refusals.{place_of}
use Rattle.partition_core.specs.Lots.{state_of}
use Rattle.partition_core.proofs.AgendaLemmas.{flag_at, read_through, dependents_within, looked_settled, taken_quiet}
use Rattle.partition_core.proofs.agenda.Agenda.take_in.Goals as goal

pub look_at_all-requires-clause-within : goal.look_at_all-requires-clause-within
look_at_all-requires-clause-within c =
    let places = c.requires.behind.dependents.places in
    let is = c.place-place.ensures in
    dependents_within c.args.plan.now.jobs c.args.self.now.dependents.items c.place-place.result c.as_slice-dependents.result.now
    c.requires.behind.dependents (omega (arith, c.requires.within))
    (read_through c.args.self.now.dependents.items c.place-place.result c.place-place.result c.as_slice-dependents.result.now c.index.result.now refl
    c.as_slice-dependents.ensures c.index.ensures)

pub look_at_all-requires-clause-behind : goal.look_at_all-requires-clause-behind
look_at_all-requires-clause-behind c =
    looked_settled c.args.plan.now.jobs (state_of c.args.lots.now c.args.standings.now) c.args.event.now c.args.self.now c.look_at.new.self
    c.as_slice-dependents.result.now c.requires.behind c.requires.within (sym c.settles.ensures ∙ c.if-settles.true) c.look_at.ensures.fronts
    (flag_at c.args.plan.now.jobs (state_of c.args.lots.now c.args.standings.now) c.args.self.now.outlook.offering c.look_at.new.self.offering
    c.place-place.result (place_of c.args.event.now) c.place-place.ensures c.look_at.ensures.flags)
    (read_through c.args.self.now.dependents.items c.place-place.result (place_of c.args.event.now) c.as_slice-dependents.result.now c.index.result.now
    c.place-place.ensures c.as_slice-dependents.ensures c.index.ensures)

pub returns-else-settles : goal.returns-else-settles
returns-else-settles c =
    taken_quiet c.args.plan.now.jobs (state_of c.args.lots.now c.args.standings.now) c.args.event.now c.args.self.now c.look_at.new.self
    c.requires.behind c.requires.within (sym c.settles.ensures ∙ c.if-settles.false) c.look_at.ensures.fronts
    (flag_at c.args.plan.now.jobs (state_of c.args.lots.now c.args.standings.now) c.args.self.now.outlook.offering c.look_at.new.self.offering
    c.place-place.result (place_of c.args.event.now) c.place-place.ensures c.look_at.ensures.flags)

use Rattle.std.proofs.Common.{◌<◌, length, refl, sym, ◌∙◌, subst}
use Rattle.compile_model.specs.declared.job.Plan.{Plan}
use Rattle.partition_core.specs.Refusals.{place_of}
use Rattle.partition_core.proofs.TableLemmas.{legal_here, due_here, room_here, table_then, accepted, within_here}
use Rattle.partition_core.specs.Lots.{fates_of}
use Rattle.partition_core.proofs.AgendaTables.{behind_here, behind_seen, agenda_seen}
use Rattle.partition_core.proofs.table.Table.step.Goals as goal

pub happen-requires-clause-due : goal.happen-requires-clause-due
happen-requires-clause-due c = due_here c.args.self.now c.requires.table c.args.event (sym c.refusal.ensures ∙ c.in_default.is)

pub note-requires : goal.note-requires
note-requires c = room_here c.args.self.now c.requires.table c.args.event (sym c.refusal.ensures ∙ c.in_default.is)

pub returns-clause-legal : goal.returns-clause-legal
returns-clause-legal c = legal_here c.args.self.now c.requires.table c.args.event (sym c.refusal.ensures ∙ c.in_default.is)

pub returns-clause-table : goal.returns-clause-table
returns-clause-table c =
    table_then c.args.self.now
    (record {
      plan = c.args.self.now.plan;
      lots = c.happen.new.lots;
      standings = c.happen.new.standings;
      history = c.note.new.history;
      spare =
          c.args.self.now.spare;
      agenda = c.take_in.new.self;
    }) c.requires.table c.args.event (sym c.refusal.ensures ∙ c.in_default.is)
    refl c.happen.ensures.state c.happen.ensures.kept c.happen.ensures.partitions c.happen.ensures.places c.note.ensures.items c.note.ensures.capacity
    refl
    (agenda_seen c.get.result.now c.args.self.now.plan c.as_slice.result.now c.happen.new.lots.items c.as_slice-2.result.now
    c.happen.new.standings.items c.take_in.new.self
    c.get.ensures c.as_slice.ensures.value c.as_slice-2.ensures.value c.take_in.ensures)

pub returns-in-Some-clause-exact : goal.returns-in-Some-clause-exact
returns-in-Some-clause-exact c =
    λ legal. absurd (accepted c.args.self.now c.requires.table c.args.event c.in-Some.cause (sym c.refusal.ensures ∙ c.in-Some.is) legal)

pub returns-clause-within : goal.returns-clause-within
returns-clause-within c = within_here c.args.self.now c.requires.table c.args.event (sym c.refusal.ensures ∙ c.in_default.is)

pub take_in-requires-clause-within : goal.take_in-requires-clause-within
take_in-requires-clause-within c =
    subst (λ (p : Plan). place_of c.args.event < length p.jobs) (sym c.get.ensures)
    (within_here c.args.self.now c.requires.table c.args.event (sym c.refusal.ensures ∙ c.in_default.is))

pub take_in-requires-clause-behind : goal.take_in-requires-clause-behind
take_in-requires-clause-behind c =
    behind_seen c.get.result.now c.args.self.now.plan c.as_slice.result.now c.happen.new.lots.items c.as_slice-2.result.now
    c.happen.new.standings.items c.args.event c.args.self.now.agenda c.get.ensures c.as_slice.ensures.value c.as_slice-2.ensures.value
    (behind_here c.args.self.now c.requires.table c.args.event (sym c.refusal.ensures ∙ c.in_default.is)
    (record { fates = fates_of c.happen.new.lots.items; standings = c.happen.new.standings.items }) c.happen.ensures.state)

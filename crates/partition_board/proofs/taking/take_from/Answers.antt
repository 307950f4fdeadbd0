use Rattle.std.proofs.Common.{refl, sym, ◌∙◌, ap}
use Rattle.partition_core.specs.declared.event.Event.TheVariants.{Keep, Start, Skip}
use Rattle.partition_core.specs.State.{State, standing}
use Rattle.partition_core.specs.Story.{with_event}
use Rattle.partition_board.proofs.StoryHomes.{housed_as, keep_story, on_ok, skip_story, start_outputs, start_runs, start_within}
use Rattle.partition_board.proofs.taking.take_from.Goals as goal

pub make-requires-clause-legal : goal.make-requires-clause-legal
make-requires-clause-legal g c = c.in-Keep.ensures.legal (Keep c.in-Keep.place c.args.by) refl

pub make-requires-in-Skip-clause-legal : goal.make-requires-in-Skip-clause-legal
make-requires-in-Skip-clause-legal g c = c.in-Skip.ensures.legal (Skip c.in-Skip.place c.in-Skip.need c.args.by) refl

pub collect-requires-clause-within : goal.collect-requires-clause-within
collect-requires-clause-within g c = start_within c.args.core.now c.in-Start.place c.args.by (c.in-Start.ensures.legal (Start c.in-Start.place c.args.by) refl)

pub start-folder-requires-clause-legal : goal.start-folder-requires-clause-legal
start-folder-requires-clause-legal g c = c.in-Start.ensures.legal (Start c.in-Start.place c.args.by) refl

pub returns-in-Keep-clause-home : goal.returns-in-Keep-clause-home
returns-in-Keep-clause-home g c =
    housed_as g.F.Folder.known (with_event c.args.core.now (Keep c.in-Keep.place c.args.by)) c.make.new.core c.args.house.now c.args.house.now
    c.make.ensures.story refl
    (keep_story g.F.Folder.known c.args.core.now c.args.house.now c.make.ensures.legal c.requires.home c.in-Keep.place c.args.by
    (c.in-Keep.ensures.legal (Keep c.in-Keep.place c.args.by) refl))

pub returns-in-Skip-clause-home : goal.returns-in-Skip-clause-home
returns-in-Skip-clause-home g c =
    housed_as g.F.Folder.known (with_event c.args.core.now (Skip c.in-Skip.place c.in-Skip.need c.args.by)) c.make-in-Skip.new.core c.args.house.now
    c.args.house.now c.make-in-Skip.ensures.story refl
    (skip_story g.F.Folder.known c.args.core.now c.args.house.now c.make-in-Skip.ensures.legal c.requires.home c.in-Skip.place c.in-Skip.need c.args.by
    (c.in-Skip.ensures.legal (Skip c.in-Skip.place c.in-Skip.need c.args.by) refl))

pub returns-else-is_err-clause-lent : goal.returns-else-is_err-clause-lent
returns-else-is_err-clause-lent g c =
    let legal = c.in-Start.ensures.legal (Start c.in-Start.place c.args.by) refl in (
      refl,
      start_runs c.args.core.now c.start-folder.new.core c.in-Start.place c.args.by legal c.start-folder.ensures.state,
      c.start-folder.ensures.folder,
      on_ok c.collect.result _ c.collect.ensures (sym c.is_err.ensures.value ∙ c.if-is_err.false)
          ∙ start_outputs c.args.core.now c.start-folder.new.core c.in-Start.place c.args.by c.start-folder.ensures.story c.start-folder.ensures.state,
    )

pub returns-in-Keep-clause-lent : goal.returns-in-Keep-clause-lent
returns-in-Keep-clause-lent g c = (c.requires.empty, ap (λ (s : State). standing s.standings c.args.by) c.make.ensures.state ∙ c.requires.idle)

pub returns-in-Skip-clause-lent : goal.returns-in-Skip-clause-lent
returns-in-Skip-clause-lent g c = (c.requires.empty, ap (λ (s : State). standing s.standings c.args.by) c.make-in-Skip.ensures.state ∙ c.requires.idle)

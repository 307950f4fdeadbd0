use Rattle.std.proofs.Common.{◌∷◌}
use Rattle.partition_crew.specs.Work.{given_by}
use Rattle.partition_crew.proofs.Settling.{compiled_else, meant_then, outcome_else, outcome_then}
use Rattle.partition_crew.proofs.Stopping.{stops_never}
use Rattle.partition_crew.proofs.compiling.settle.Goals as goal

pub returns-then-status-eq0-clause-outcome : goal.returns-then-status-eq0-clause-outcome
returns-then-status-eq0-clause-outcome g c =
    outcome_then c.args.verdict (g.F.Folder.known c.args.folder.now).held c.finish.result c.if-status-eq0.true c.finish.ensures.outcome

pub returns-then-status-eq0-clause-stops : goal.returns-then-status-eq0-clause-stops
returns-then-status-eq0-clause-stops g c = λ compile known means.
    c.finish.ensures.stops compile known
    (meant_then compile (given_by c.args.input.now.job.now c.args.input.now.needs.now) c.args.verdict
    (g.F.Folder.known c.args.folder.now) c.if-status-eq0.true means)

pub returns-else-status-eq0-clause-compiled : goal.returns-else-status-eq0-clause-compiled
returns-else-status-eq0-clause-compiled g c =
    compiled_else (given_by c.args.input.now.job.now c.args.input.now.needs.now) c.args.verdict (g.F.Folder.known c.args.folder.now)
    (g.F.Folder.known c.fail.new.folder) c.fail.result
    c.requires.unmarked c.if-status-eq0.false c.fail.ensures.outcome c.fail.ensures.cleared

pub returns-else-status-eq0-clause-outcome : goal.returns-else-status-eq0-clause-outcome
returns-else-status-eq0-clause-outcome g c =
    outcome_else c.args.verdict (g.F.Folder.known c.args.folder.now).held c.fail.result c.if-status-eq0.false c.fail.ensures.outcome

pub returns-else-status-eq0-clause-stops : goal.returns-else-status-eq0-clause-stops
returns-else-status-eq0-clause-stops g c = λ compile known means.
    stops_never compile (given_by c.args.input.now.job.now c.args.input.now.needs.now ∷ known) (g.F.Folder.known c.args.folder.now)
    (g.F.Folder.known c.fail.new.folder) c.fail.ensures.unmarked

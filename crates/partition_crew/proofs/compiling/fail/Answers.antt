use Rattle.std.proofs.Common.{◌∙◌, ap}
use Rattle.compile_model.specs.Content.{outcome_with}
use Rattle.tree_store.specs.Moment.Write.{Clear}
use Rattle.partition_crew.proofs.Courses.{touches_write, wrote_one}
use Rattle.partition_crew.proofs.Stopping.{never_clear}
use Rattle.partition_crew.proofs.compiling.fail.Goals as goal

pub returns-in_err-clear-clause-unmarked : goal.returns-in_err-clear-clause-unmarked
returns-in_err-clear-clause-unmarked g c = never_clear (g.F.Folder.known c.args.folder.now)
    (g.F.Folder.known c.clear.new.self) c.clear.result c.requires.unmarked c.clear.ensures

pub returns-in_err-outcome-clause-unmarked : goal.returns-in_err-outcome-clause-unmarked
returns-in_err-outcome-clause-unmarked g c = never_clear (g.F.Folder.known c.args.folder.now)
    (g.F.Folder.known c.clear.new.self) c.clear.result c.requires.unmarked c.clear.ensures

pub returns-in_err-of-clause-unmarked : goal.returns-in_err-of-clause-unmarked
returns-in_err-of-clause-unmarked g c = never_clear (g.F.Folder.known c.args.folder.now)
    (g.F.Folder.known c.clear.new.self) c.clear.result c.requires.unmarked c.clear.ensures

pub returns-clause-outcome : goal.returns-clause-outcome
returns-clause-outcome g c =
    let own = c.in_ok-outcome.ensures ∙ ap (outcome_with c.args.status c.args.text) c.new.ensures in
    record { event = c.in_ok-of.ensures.0 ∙ own; fate = c.in_ok-of.ensures.1 ∙ own }

pub returns-clause-cleared : goal.returns-clause-cleared
returns-clause-cleared g c = wrote_one Clear (g.F.Folder.known c.args.folder.now) (g.F.Folder.known c.clear.new.self) c.in_ok-clear.ensures.ended

pub returns-clause-unmarked : goal.returns-clause-unmarked
returns-clause-unmarked g c = never_clear (g.F.Folder.known c.args.folder.now)
    (g.F.Folder.known c.clear.new.self) c.clear.result c.requires.unmarked c.clear.ensures

pub returns-clause-folder : goal.returns-clause-folder
returns-clause-folder g c = touches_write Clear (g.F.Folder.known c.args.folder.now) (g.F.Folder.known c.clear.new.self) _ c.in_ok-clear.ensures

use Rattle.std.proofs.Common.{◌∷◌, ℕ, List, sym, subst}
use Rattle.build_manifest.specs.MarkOf.{mark_of}
use Rattle.build_manifest.specs.Text.{Spells}
use Rattle.tree_store.specs.Moment.Write.{Mark}
use Rattle.partition_crew.specs.Work.{given_by}
use Rattle.partition_crew.proofs.Courses.{touches_look, touches_then, touches_write}
use Rattle.partition_crew.proofs.Settling.{compiled_marked, stops_finish, twin_told}
use Rattle.partition_crew.proofs.Stopping.{stops_look}
use Rattle.partition_crew.proofs.compiling.finish.Goals as goal

pub returns-in_err-outcome-clause-stops : goal.returns-in_err-outcome-clause-stops
returns-in_err-outcome-clause-stops g c = λ compile known meant.
    stops_look compile (given_by c.args.input.now.job.now c.args.input.now.needs.now ∷ known) (g.F.Folder.known c.args.folder.now)
    (g.F.Folder.known c.outcome_in.new.folder)
    c.requires.unmarked c.in_err-outcome.ensures.looks.same

pub returns-in_err-bytes-clause-stops : goal.returns-in_err-bytes-clause-stops
returns-in_err-bytes-clause-stops g c = λ compile known meant.
    stops_look compile (given_by c.args.input.now.job.now c.args.input.now.needs.now ∷ known) (g.F.Folder.known c.args.folder.now)
    (g.F.Folder.known c.outcome_in.new.folder)
    c.requires.unmarked c.in_ok-outcome.ensures.looks.same

pub returns-in_err-twin-clause-stops : goal.returns-in_err-twin-clause-stops
returns-in_err-twin-clause-stops g c = λ compile known meant.
    stops_look compile (given_by c.args.input.now.job.now c.args.input.now.needs.now ∷ known) (g.F.Folder.known c.args.folder.now)
    (g.F.Folder.known c.outcome_in.new.folder)
    c.requires.unmarked c.in_ok-outcome.ensures.looks.same

pub returns-in_err-mark-clause-stops : goal.returns-in_err-mark-clause-stops
returns-in_err-mark-clause-stops g c = λ compile known meant.
    let given = given_by c.args.input.now.job.now c.args.input.now.needs.now in
    stops_finish compile given known c.args.text c.in_ok-outcome.outcome c.as_slice.result.now
    (g.F.Folder.known c.args.folder.now) (g.F.Folder.known c.outcome_in.new.folder) (g.F.Folder.known c.mark.new.self) c.mark.result
    c.requires.unmarked c.in_ok-outcome.ensures.looks c.in_ok-outcome.ensures.status c.in_ok-outcome.ensures.outcome
    (subst (λ (b : List ℕ). Spells b (mark_of given.job given.needs c.in_ok-outcome.outcome))
    (sym c.as_slice.ensures) c.in_ok-bytes.ensures) c.mark.ensures meant

pub returns-clause-compiled : goal.returns-clause-compiled
returns-clause-compiled g c =
    let given = given_by c.args.input.now.job.now c.args.input.now.needs.now in
    compiled_marked given c.args.text c.in_ok-outcome.outcome c.in_ok-twin.twin c.as_slice.result.now
    (g.F.Folder.known c.args.folder.now) (g.F.Folder.known c.outcome_in.new.folder) (g.F.Folder.known c.mark.new.self)
    c.in_ok-outcome.ensures.looks c.in_ok-outcome.ensures.status c.in_ok-outcome.ensures.outcome
    (subst (λ (b : List ℕ). Spells b (mark_of given.job given.needs c.in_ok-outcome.outcome)) (sym c.as_slice.ensures) c.in_ok-bytes.ensures)
    c.in_ok-twin.ensures.0 c.in_ok-twin.ensures.1 c.in_ok-mark.ensures.ended

pub returns-clause-outcome : goal.returns-clause-outcome
returns-clause-outcome g c =
    twin_told
    (g.F.Folder.known c.args.folder.now).held c.args.text c.in_ok-outcome.outcome c.in_ok-twin.twin.event c.in_ok-twin.ensures.0 c.in_ok-outcome.ensures.outcome

pub returns-clause-stops : goal.returns-clause-stops
returns-clause-stops g c = λ compile known meant.
    let given = given_by c.args.input.now.job.now c.args.input.now.needs.now in
    stops_finish compile given known c.args.text c.in_ok-outcome.outcome c.as_slice.result.now
    (g.F.Folder.known c.args.folder.now) (g.F.Folder.known c.outcome_in.new.folder) (g.F.Folder.known c.mark.new.self) c.mark.result
    c.requires.unmarked c.in_ok-outcome.ensures.looks c.in_ok-outcome.ensures.status c.in_ok-outcome.ensures.outcome
    (subst (λ (b : List ℕ). Spells b (mark_of given.job given.needs c.in_ok-outcome.outcome))
    (sym c.as_slice.ensures) c.in_ok-bytes.ensures) c.mark.ensures meant

pub returns-clause-folder : goal.returns-clause-folder
returns-clause-folder g c =
    touches_then (g.F.Folder.known c.args.folder.now) (g.F.Folder.known c.outcome_in.new.folder) (g.F.Folder.known c.mark.new.self) _
    (touches_look (g.F.Folder.known c.args.folder.now) (g.F.Folder.known c.outcome_in.new.folder) _ c.in_ok-outcome.ensures.looks)
    (touches_write (Mark c.as_slice.result.now) (g.F.Folder.known c.outcome_in.new.folder) (g.F.Folder.known c.mark.new.self) _ c.in_ok-mark.ensures)

use Rattle.std.proofs.Common.{sym, subst}
use Rattle.tree_store.specs.declared.holding.Holding.{Holding}
use Rattle.tree_store.specs.FolderKnown.{FolderKnown}
use Rattle.honest_tree.specs.Given.{Given, outcome_of}
use Rattle.partition_crew.specs.declared.worked.Worked.{Worked}
use Rattle.partition_crew.specs.Work.{HasWorked, IsMeant, Touches, given_by, tree_failed, worked_of}
use Rattle.partition_crew.proofs.Settling.{meant_told, worked_done}
use Rattle.partition_crew.proofs.Starting.{folder_set, folder_there, told_must}
use Rattle.partition_crew.proofs.advancing.compile_at.Goals as goal

pub returns-clause-works : goal.returns-clause-works
returns-clause-works g c =
    let known = g.F.Folder.known in
    let given : Given = given_by c.args.job.now c.args.needs.now in
    let before : FolderKnown = known c.index_mut-folder.result.now in
    let after : FolderKnown = known c.compile_into.new.folder in
    let outcome = outcome_of g.P.Meaning.compile_of given in
    record {
      before = before;
      after = after;
      there = folder_there known c.args.folders.now.items c.args.place c.index_mut-folder.result.now c.requires.within c.index_mut-folder.ensures.value;
      folders = folder_set known c.args.folders.now.items c.args.place c.compile_into.new.folder;
      came = subst (λ (worked : Worked). HasWorked given worked before after) (sym c.of.ensures)
          (worked_done given c.compile_into.result before after c.compile_into.ensures.done);
      meant = λ honest. subst (IsMeant outcome) (sym c.of.ensures)
          (told_must Holding (IsMeant outcome (worked_of c.compile_into.result)) before.held (g.met.F.Folder.told honest.1 c.index_mut-folder.result.now)
          (meant_told outcome before.held c.compile_into.result (c.compile_into.ensures.meant honest.0)));
      stays = λ honest. c.compile_into.ensures.honest honest.0;
      touches = subst (λ (worked : Worked). Touches before after (tree_failed worked)) (sym c.of.ensures) c.compile_into.ensures.folder;
    }

use Rattle.std.proofs.Common.{◌≡◌, Option, IfSome, false, subst}
use Rattle.build_manifest.specs.Mark.{MarkView}
use Rattle.kept_tree.specs.Reading.{IsMarkIn}
use Rattle.kept_tree.proofs.KeptLemmas.{told_still, told_with}
use Rattle.kept_tree.proofs.kept.read_folder.Goals as goal

pub returns-clause-kept : goal.returns-clause-kept
returns-clause-kept g c =
    let old = g.F.Folder.known c.args.folder.now in
    let mid = g.F.Folder.known c.mark_of_folder.new.folder in
    told_with old.held c.in-Some.mark c.in_ok-files.files c.in_ok-kept_with.field-0
    (subst (λ (m : Option MarkView). IfSome old.held (λ held. IsMarkIn held.mark m)) c.in-Some.is c.in_ok-mark.ensures.mark)
    (told_still (λ held. c.in_ok-files.files ≡ held.files) old mid false c.in_ok-mark.ensures.looks c.in_ok-files.ensures.files)
    c.in_ok-kept_with.ensures

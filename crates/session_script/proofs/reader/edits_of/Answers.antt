use Rattle.std.proofs.Common.{sym, ◌∙◌, refl}
use Rattle.session_script.specs.Says.{AreEdits, TermSays}
use Rattle.session_script.specs.Says.TermSays.{list, no_list}
use Rattle.session_script.proofs.ReadLemmas.{edits_as}
use Rattle.session_script.proofs.reader.edits_of.Goals as goal

pub returns-in-Some : goal.returns-in-Some
returns-in-Some c =
    let found = rw c.in-Some.is at c.as_list.ensures in
    edits_as (AreEdits c.in-Some.elements.now) (TermSays c.args.term.now) c.edits_in.result
    (λ answer are. list (sym found) are) c.edits_in.ensures

pub returns-in-None : goal.returns-in-None
returns-in-None c =
    let found = rw c.in-None.is at c.as_list.ensures in
    λ input. no_list (sym found)

use Rattle.std.proofs.Common.{sym, ◌∙◌, arith}
use Rattle.session_script.proofs.ReadLemmas.{all_read, first_here}
use Rattle.session_script.proofs.reader.edits_in.Goals as goal

pub returns-in-None : goal.returns-in-None
returns-in-None c = λ input.
    first_here c.args.elements.now c.loop-place.place c.index-elements-place.result (omega (arith, c.loop-place-test.true)) c.index-elements-place.is
    (sym c.in_ok-edit.ensures ∙ c.in-None.is) c.loop-place.invariant.first

pub returns : goal.returns
returns c = all_read c.args.elements.now c.loop-place.place c.loop-place.edits.items (omega (arith, c.loop-place-test.false)) c.loop-place.invariant.all

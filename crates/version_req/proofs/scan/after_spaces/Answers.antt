use Rattle.std.proofs.Common.{length, sym, ◌∙◌, arith}
use Rattle.std.proofs.lemmas.List.{drop_all, take_rest}
use Rattle.version_req.proofs.ScanSteps.{spaces_end, spaces_step, spaces_stop}
use Rattle.version_req.proofs.scan.after_spaces.Goals as goal

pub returns-then-text-i-ne32 : goal.returns-then-text-i-ne32
returns-then-text-i-ne32 c =
    take_rest c.args.text.now c.bytes.i ∙ sym (c.bytes.invariant ∙ spaces_stop c.args.text.now c.bytes.i c.bytes-test.true (grind arith))

pub bytes-preserved : goal.bytes-preserved
bytes-preserved c = c.bytes.invariant ∙ spaces_step c.args.text.now c.bytes.i c.bytes-test.true (grind arith)

pub returns : goal.returns
returns c =
    let text = c.args.text.now in
    take_rest text (length text) ∙ drop_all (length text) text (omega arith)
    ∙ sym (c.bytes.invariant ∙ spaces_end text c.bytes.i (omega arith))

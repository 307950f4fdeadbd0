use Rattle.hex_messages.proofs.FindLemmas.{passed_start, passed_on, passed_found, passed_end, passed_stuck, some_bytes, no_bytes}
use Rattle.hex_messages.proofs.finding.find.Goals as goal

pub loop-rest-init : goal.loop-rest-init
loop-rest-init c = passed_start c.args.number c.args.text.now

pub returns-in_default : goal.returns-in_default
returns-in_default c = passed_stuck c.args.message c.args.number c.args.text.now c.loop-rest.rest.now c.in_default.field-0 c.loop-rest.invariant
    (some_bytes c.loop-rest.rest.now (c.is_empty.ensures) c.loop-rest-test.true) c.in_default.ensures.refused

pub returns-then-wire-number : goal.returns-then-wire-number
returns-then-wire-number c = passed_found c.args.message c.args.number c.args.text.now c.loop-rest.rest.now c.in-Ok.after.now c.in-Ok.wire
    c.loop-rest.invariant c.in-Ok.ensures.read c.if-wire-number.true

pub loop-rest-preserved : goal.loop-rest-preserved
loop-rest-preserved c = passed_on c.args.message c.args.number c.args.text.now c.loop-rest.rest.now c.in-Ok.after.now c.in-Ok.wire
    c.loop-rest.invariant c.in-Ok.ensures.read c.if-wire-number.false

pub returns : goal.returns
returns c = passed_end c.args.message c.args.number c.args.text.now c.loop-rest.rest.now c.loop-rest.invariant
    (no_bytes c.loop-rest.rest.now (c.is_empty.ensures) c.loop-rest-test.false)

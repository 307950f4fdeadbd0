use Rattle.std.specs.Prelude.{option_map}
use Rattle.hex_messages.specs.Reading.{payload_of}
use Rattle.hex_messages.proofs.FindLemmas.{last_start, last_more, last_end, found_shorter}
use Rattle.hex_messages.proofs.finding.last.Goals as goal

pub loop-value-init : goal.loop-value-init
loop-value-init c = last_start c.args.number c.args.text.now

pub loop-value-smaller : goal.loop-value-smaller
loop-value-smaller c = found_shorter c.args.number c.loop-value.rest.now c.in-Some.after.now (payload_of c.in-Some.value) c.in-Some.ensures

pub loop-value-preserved : goal.loop-value-preserved
loop-value-preserved c = last_more c.args.number c.args.text.now c.loop-value.rest.now c.in-Some.after.now (option_map payload_of c.loop-value.found)
    (payload_of c.in-Some.value) c.loop-value.invariant c.in-Some.ensures

pub returns : goal.returns
returns c = last_end c.args.message c.args.number c.args.text.now c.loop-value.rest.now (option_map payload_of c.loop-value.found)
    c.loop-value.invariant c.in_default.ensures

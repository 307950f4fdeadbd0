use Rattle.std.specs.Prelude.{option_map}
use Rattle.hex_messages.specs.Reading.{payload_of}
use Rattle.hex_messages.proofs.MergeLemmas.{merged_start, merged_more, merged_end, or_later}
use Rattle.hex_messages.proofs.finding.last_merged.Goals as goal

pub loop-value-init : goal.loop-value-init
loop-value-init c = merged_start c.args.number c.args.text.now

pub loop-value-preserved : goal.loop-value-preserved
loop-value-preserved c =
    rw (c.or-found.ensures, or_later c.last.result c.loop-value.found)
    (merged_more c.args.number c.args.text.now c.loop-value.rest.now c.in-Some.after.now c.bytes.result.now (option_map payload_of c.loop-value.found)
    (option_map payload_of c.last.result) (payload_of c.in-Some.value) c.loop-value.invariant c.in-Some.ensures c.bytes.ensures c.last.ensures)

pub returns : goal.returns
returns c = merged_end c.args.number c.args.text.now c.loop-value.rest.now (option_map payload_of c.loop-value.found) c.loop-value.invariant
    c.in_default.ensures

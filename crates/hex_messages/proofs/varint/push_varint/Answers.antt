use Rattle.std.proofs.Common.{refl, ◌%◌, ◌+◌}
use Rattle.hex_messages.proofs.VarintLemmas.{digits_more, digits_done}
use Rattle.hex_messages.proofs.varint.push_varint.Goals as goal

pub loop-rest-preserved : goal.loop-rest-preserved
loop-rest-preserved c = digits_more c.args.out.now.items c.loop-rest.out.items c.push.new.self.items c.args.number c.loop-rest.rest
    (c.loop-rest.rest % 128 + 128) c.loop-rest.invariant c.loop-rest-test.true refl c.in_ok-push.ensures.items

pub returns : goal.returns
returns c = digits_done c.args.out.now.items c.loop-rest.out.items c.push-2.new.self.items c.args.number c.loop-rest.rest c.ranges.number.fits
    c.loop-rest.invariant c.loop-rest-test.false c.in_ok-push-2.ensures.items

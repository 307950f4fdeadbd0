use Rattle.std.proofs.Common.{arith}
use Rattle.dep_order.proofs.Turns.{some_pending}
use Rattle.dep_order.proofs.listing.release.Goals as goal

pub release_one-requires : goal.release_one-requires
release_one-requires c =
    some_pending c.args.places.now c.loop-place.place-index c.args.pending.now.items c.loop-place.pending.items _ _
    (omega arith) c.requires c.loop-place.invariant.releases

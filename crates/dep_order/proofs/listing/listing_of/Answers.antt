use Rattle.std.proofs.Common.{◌<◌, length, nat_cmp, arith}
use Rattle.std.specs.BTreeSet.{contains}
use Rattle.dep_order.proofs.Turns.{stands_at_first, room_for, turn, row_is}
use Rattle.dep_order.proofs.listing.listing_of.Goals as goal

pub loop-place-init : goal.loop-place-init
loop-place-init c =
    stands_at_first c.args.graph.now _ _ _ c.new-listed.ensures.items c.in_ok-pending.ensures
    (rw c.deref.ensures.value at c.in_ok-ready.ensures)

pub release-requires : goal.release-requires
release-requires c =
    let rows = c.in_ok-dependents.dependents.items in
    let place = c.in-Some.place in
    let stands = c.loop-place.invariant in
    let are = c.in_ok-dependents.ensures in
    let takes = c.in-Some.ensures.first in
    let within : place < length rows = omega (arith, are.long, ((stands.are_ready place).0 takes.had).left.within) in
    rw (row_is rows place _ _ within c.index.ensures c.as_slice.ensures)
    (room_for c.args.graph.now rows _ _ (contains nat_cmp c.loop-place.ready) stands are place takes.had)

pub loop-place-preserved : goal.loop-place-preserved
loop-place-preserved c =
    let rows = c.in_ok-dependents.dependents.items in
    let place = c.in-Some.place in
    let stands = c.loop-place.invariant in
    let are = c.in_ok-dependents.ensures in
    let takes = c.in-Some.ensures.first in
    let within : place < length rows = omega (arith, are.long, ((stands.are_ready place).0 takes.had).left.within) in
    let row = row_is rows place _ _ within c.index.ensures c.as_slice.ensures in
    rw c.in_ok-push.ensures.items
    (turn c.args.graph.now rows _ _ _ stands are place _ takes _ _ (rw row at c.in_ok-release.ensures.releases))

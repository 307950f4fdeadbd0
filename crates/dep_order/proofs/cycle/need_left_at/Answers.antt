use Rattle.std.proofs.Common.{arith}
use Rattle.dep_order.proofs.Cycles.{need_left_is_left}
use Rattle.dep_order.proofs.Walks.{found_need, passed_need, some_need}
use Rattle.dep_order.proofs.cycle.need_left_at.Goals as goal

pub returns-then-index-ne0 : goal.returns-then-index-ne0
returns-then-index-ne0 c =
    let graph = c.args.graph.now in
    let listed = c.args.listing.now.listed.items in
    let within = c.needs_at-need-items.ensures.within in
    let first = found_need graph listed _ c.requires.stopped within c.args.place _ c.needs_at-need-items.ensures.needs c.loop-need.need-index _ (omega arith) c.index.ensures c.if-index-ne0.true c.loop-need.invariant in
    record { first = first; left = need_left_is_left graph listed within c.args.place _ first }

pub loop-need-preserved : goal.loop-need-preserved
loop-need-preserved c =
    passed_need c.args.graph.now c.args.listing.now.listed.items _ c.requires.stopped c.needs_at-need-items.ensures.within c.args.place _ c.needs_at-need-items.ensures.needs
    c.loop-need.need-index _ (omega arith) c.index.ensures c.if-index-ne0.false c.loop-need.invariant

pub unreachable-requires : goal.unreachable-requires
unreachable-requires c =
    some_need c.args.graph.now _ _ c.requires.stopped c.needs_at-need-items.ensures.within c.args.place _ c.needs_at-need-items.ensures.needs
    c.loop-need.need-index (omega arith) c.requires.left c.loop-need.invariant

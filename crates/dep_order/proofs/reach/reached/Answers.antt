use Rattle.std.proofs.Common.{◌≡◌, ◌<◌, [], length, get_or, ◌∙◌, ap, arith}
use Rattle.std.proofs.lemmas.List.{get_or_read}
use Rattle.std.proofs.lemmas.Result.{IfOk-weaker}
use Rattle.dep_order.specs.Graph.{needs_of}
use Rattle.dep_order.specs.Search.{Adds}
use Rattle.dep_order.proofs.Searching.{search_at_first, search_more, search_ends, queue_within, queue_short, distinct_none}
use Rattle.dep_order.proofs.reach.reached.Goals as goal

pub add_all-requires-clause-apart : goal.add_all-requires-clause-apart
add_all-requires-clause-apart c = distinct_none c.new-queue.result.items c.new-queue.ensures.items

pub loop-at-init : goal.loop-at-init
loop-at-init c =
    let adds : Adds c.args.starts.now [] c.add_all.new.queue.items = rw c.new-queue.ensures.items at c.in_ok-add_all.ensures.adds in
    record {
      same = c.in_ok-add_all.ensures.same;
      search = search_at_first c.args.graph.now c.args.starts.now c.add_all.new.queue.items c.requires c.in_ok-add_all.ensures.apart adds;
    }

pub needs_at-requires : goal.needs_at-requires
needs_at-requires c =
    queue_within c.args.graph.now c.args.starts.now c.loop-at.at c.loop-at.queue.items c.loop-at.invariant.search c.loop-at.at c.index-place.result.now (omega arith) c.index-place.ensures

pub loop-at-smaller : goal.loop-at-smaller
loop-at-smaller c =
    let short = queue_short c.args.graph.now c.args.starts.now c.loop-at.at c.loop-at.queue.items c.loop-at.invariant.search in
    let within : c.loop-at.at < length c.loop-at.queue.items = omega arith in
    omega (arith, short, within)

pub loop-at-preserved : goal.loop-at-preserved
loop-at-preserved c =
    let graph = c.args.graph.now in
    let queue = c.loop-at.queue.items in
    let within : c.loop-at.at < length queue = omega arith in
    let here : c.index-place.result.now ≡ get_or queue c.loop-at.at 0 = get_or_read queue c.loop-at.at c.index-place.result.now within c.index-place.ensures 0 in
    let adds : Adds (needs_of graph (get_or queue c.loop-at.at 0)) queue c.add_all-in-loop-at.new.queue.items =
    rw (c.needs_at.ensures.needs ∙ ap (needs_of graph) here) at c.in_ok-add_all-2.ensures.adds in
    record {
      same = c.in_ok-add_all-2.ensures.same;
      search = search_more graph c.args.starts.now c.loop-at.at queue _ c.loop-at.invariant.search within c.needs_at.ensures.within c.in_ok-add_all-2.ensures.apart adds;
    }

pub returns : goal.returns
returns c =
    IfOk-weaker c.increasing.result _ _
    (λ places are. search_ends c.args.graph.now c.args.starts.now c.loop-at.at c.loop-at.queue.items c.loop-at.met c.loop-at.invariant.search (omega arith) c.loop-at.invariant.same places.items are)
    c.increasing.ensures

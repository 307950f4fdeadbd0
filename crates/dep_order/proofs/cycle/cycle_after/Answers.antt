use Rattle.std.proofs.Common.{◌≡◌, ◌<◌, false, length, get_or, sym, ◌∙◌, arith, length-set}
use Rattle.std.proofs.lemmas.Bool.{some_since}
use Rattle.std.proofs.lemmas.Option.{MatchOption-at_some}
use Rattle.std.proofs.lemmas.Result.{IfOk-weaker}
use Rattle.std.proofs.lemmas.List.{get_or_read}
use Rattle.dep_order.proofs.Listed.{stands_at}
use Rattle.dep_order.proofs.Walks.{trail_push, met_more, cycle_from_trail}
use Rattle.dep_order.proofs.cycle.cycle_after.Goals as goal

pub loop-is_met-preserved : goal.loop-is_met-preserved
loop-is_met-preserved c =
    let graph = c.args.graph.now in
    let listed = c.args.listing.now.listed.items in
    let place = c.loop-is_met.place in
    let so_far = c.loop-is_met.invariant in
    let is_met = c.loop-is_met.is_met.items in
    let within : place < length is_met = omega (arith, so_far.left.within, so_far.long) in
    let mark : c.index.result.now ≡ get_or is_met place false = get_or_read is_met place _ within c.index.ensures false in
    let new = sym (so_far.met place so_far.left.within) ∙ sym mark ∙ c.loop-is_met-test.true in
    rw c.in_ok-push.ensures.items (record {
      trail = trail_push graph listed c.args.start c.loop-is_met.walk.items place so_far.trail _ new c.need_left_at-place.ensures.first;
      left = c.need_left_at-place.ensures.left;
      long = simp length-set so_far.long;
      met = met_more (length graph) c.loop-is_met.walk.items is_met place within so_far.met;
    })

pub unwrap-from-requires : goal.unwrap-from-requires
unwrap-from-requires c =
    let so_far = c.loop-is_met.invariant in
    let place = c.loop-is_met.place in
    let is_met = c.loop-is_met.is_met.items in
    let mark : c.index.result.now ≡ get_or is_met place false = get_or_read is_met place _ (omega (arith, so_far.left.within, so_far.long)) c.index.ensures false in
    let s = stands_at c.loop-is_met.walk.items place (sym (so_far.met place so_far.left.within) ∙ sym mark ∙ c.loop-is_met-test.false) in
    some_since c.position_of.result _ _ c.position_of.ensures.none (λ none. (rw c.deref.ensures.value at none) s.at s.before s.is)

pub returns : goal.returns
returns c =
    let graph = c.args.graph.now in
    let listed = c.args.listing.now.listed.items in
    let so_far = c.loop-is_met.invariant in
    let from = c.unwrap-from.result in
    let within = rw c.deref.ensures.value at (MatchOption-at_some _ _ from c.unwrap-from.ensures c.position_of.ensures.within) in
    let is = rw c.deref.ensures.value at (MatchOption-at_some _ _ from c.unwrap-from.ensures c.position_of.ensures.is) in
    IfOk-weaker c.split_off.result _ _
    (λ cycle rest. cycle_from_trail graph listed c.args.start c.loop-is_met.walk.items c.loop-is_met.place so_far.trail c.requires.start from within is cycle.items rest)
    c.split_off.ensures.tail

use Rattle.std.proofs.Common.{◌<◌, ◌≤◌, length, sym, ◌∙◌, subst, arith}
use Rattle.dep_order.specs.Graph.{NeedsAreWithin}
use Rattle.build_plan.proofs.NeedLemmas.{row_added, graph_done, graph_within}
use Rattle.build_plan.proofs.needs.graph_of.Goals as goal

pub loop-row-preserved : goal.loop-row-preserved
loop-row-preserved c =
    let rows = c.args.rows.now.rows in
    let all = c.rows-row-items.result.now in
    let i = c.loop-row.row-index in
    let within : i < length all = omega arith in
    record {
      long = c.in_ok-add_row.ensures.long ∙ c.loop-row.invariant.long;
      each = row_added rows c.args.target.now c.args.places.now all i c.row-item.result c.loop-row.needs.items c.add_row.new.needs.items within c.row-item.is c.loop-row.invariant.each c.in_ok-add_row.ensures.each;
    }

pub of-requires : goal.of-requires
of-requires c =
    let rows = c.args.rows.now.rows in
    let all = c.rows-row-items.result.now in
    let past : length all ≤ c.loop-row.row-index = omega arith in
    let whole = graph_done rows c.args.target.now c.args.places.now all c.loop-row.row-index c.loop-row.needs.items c.rows-row-items.ensures.rows past c.loop-row.invariant.long c.loop-row.invariant.each in
    subst NeedsAreWithin (sym whole) (graph_within rows c.args.target.now c.args.places.now)

pub returns : goal.returns
returns c =
    let rows = c.args.rows.now.rows in
    let all = c.rows-row-items.result.now in
    let past : length all ≤ c.loop-row.row-index = omega arith in
    c.of.ensures ∙ graph_done rows c.args.target.now c.args.places.now all c.loop-row.row-index c.loop-row.needs.items c.rows-row-items.ensures.rows past c.loop-row.invariant.long c.loop-row.invariant.each

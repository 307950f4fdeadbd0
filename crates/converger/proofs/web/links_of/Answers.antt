use Rattle.std.proofs.Common.{◌<◌, ◌≤◌, length, sym, ◌∙◌, ap, subst, arith}
use Rattle.dep_order.specs.Graph.{NeedsAreWithin}
use Rattle.converger.proofs.Links.{link_more, links_done, links_within}
use Rattle.converger.proofs.web.links_of.Goals as goal

pub loop-row-preserved : goal.loop-row-preserved
loop-row-preserved c =
    let rows = c.args.rows.now.rows in
    let within : c.loop-row.row-index < length rows = omega (arith, ap length c.rows-list.ensures.rows) in
    let is = rw c.rows-list.ensures.rows at c.row-item.is in
    record {
      long = c.in_ok-add_link.ensures.long ∙ c.loop-row.invariant.long;
      each = λ place inside. link_more rows c.args.target.now c.loop-row.row-index c.row-item.result place c.loop-row.links.items
          c.add_link.new.links.items within is (c.loop-row.invariant.each place inside) (c.in_ok-add_link.ensures.each place);
    }

pub of-requires : goal.of-requires
of-requires c =
    let rows = c.args.rows.now.rows in
    let past : length rows ≤ c.loop-row.row-index = omega (arith, ap length c.rows-list.ensures.rows) in
    let whole = links_done rows c.args.target.now c.loop-row.row-index c.loop-row.links.items past c.loop-row.invariant.long c.loop-row.invariant.each in
    subst NeedsAreWithin (sym whole) (links_within rows c.args.target.now)

pub returns-clause-links : goal.returns-clause-links
returns-clause-links c =
    let rows = c.args.rows.now.rows in
    let past : length rows ≤ c.loop-row.row-index = omega (arith, ap length c.rows-list.ensures.rows) in
    c.of.ensures ∙ links_done rows c.args.target.now c.loop-row.row-index c.loop-row.links.items past c.loop-row.invariant.long c.loop-row.invariant.each

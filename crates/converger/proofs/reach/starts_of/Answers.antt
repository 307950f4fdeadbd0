use Rattle.std.proofs.Common.{◌<◌, length, sym, ◌∙◌, ap, arith}
use Rattle.converger.proofs.Links.{start_more, start_same, starts_done}
use Rattle.converger.proofs.reach.starts_of.Goals as goal
use Rattle.converger.proofs.reach.starts_of.Goals.{then-is_wanted+in_ok-add_winner, else-is_wanted}

pub loop-row-preserved : goal.loop-row-preserved
loop-row-preserved c =
    let rows = c.args.rows.now.rows in
    let env = c.args.env.now in
    let target = c.args.target.now in
    let i = c.loop-row.row-index in
    let row = c.row-item.result in
    let old = c.loop-row.starts.items in
    let within : i < length rows = omega (arith, ap length c.rows-row-items.ensures.rows) in
    let is = rw c.rows-row-items.ensures.rows at c.row-item.is in
    elim c.if-is_wanted.branch [
      | then-is_wanted+in_ok-add_winner w ↦
          rw w.starts-is (start_more rows env target i row old w.add_winner.new.winners.items within is c.loop-row.invariant
          (sym c.is_wanted.ensures ∙ w.if-is_wanted.true) w.in_ok-add_winner.ensures)
      | else-is_wanted w ↦ rw w.starts-is (start_same rows env target i row old within is c.loop-row.invariant (sym c.is_wanted.ensures ∙ w.if-is_wanted.false))
    ]

pub returns : goal.returns
returns c = starts_done c.args.rows.now.rows c.args.env.now c.args.target.now c.loop-row.row-index c.loop-row.starts.items
    (omega (arith, ap length c.rows-row-items.ensures.rows)) c.loop-row.invariant

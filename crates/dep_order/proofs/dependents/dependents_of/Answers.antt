use Rattle.std.proofs.Common.{◌∙◌, sym, ap, ap₂, ◌+◌, ◌<◌, length, cond, eqb, arith}
use Rattle.dep_order.specs.Pending.{times}
use Rattle.dep_order.proofs.Naming.{rows_more}
use Rattle.dep_order.proofs.Turns.{row_is}
use Rattle.dep_order.proofs.dependents.dependents_of.Goals as goal

pub loop-place-preserved : goal.loop-place-preserved
loop-place-preserved c =
    let graph = c.args.graph.now in
    let place = c.loop-place.place in
    let within : place < length graph = omega (arith, ap length c.needs-needs.ensures.needs) in
    let row = row_is graph place _ _ within (rw c.needs-needs.ensures.needs at c.index-needs-place.is) c.as_slice.ensures in
    record {
      long = c.add_dependent.ensures.long ∙ c.loop-place.invariant.long;
      each = λ need other.
          c.in_ok-add_dependent.ensures.each need other
          ∙ ap₂ (λ n xs. n + cond (eqb other place) (times need xs) 0) (c.loop-place.invariant.each need other) row
          ∙ sym (rows_more graph place need other within);
    }

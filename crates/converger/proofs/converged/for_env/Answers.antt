use Rattle.std.proofs.Common.{sym, ◌∙◌, subst, arith}
use Rattle.std.proofs.lemmas.Option.{slice_get_within}
use Rattle.std.proofs.lemmas.Result.{IfOk-weaker}
use Rattle.dep_order.specs.Reach.{AreReachedFrom}
use Rattle.converger.specs.Reach.{AreReached, links_of, starts_of}
use Rattle.converger.proofs.Reached.{are_reached}
use Rattle.converger.proofs.converged.for_env.Goals as goal

pub narrowed-requires : goal.narrowed-requires
narrowed-requires c =
    let rows = c.args.converged.now.rows.rows in
    let env = c.args.env.now in
    let target = c.args.target.now in
    let places = c.in_ok-places.places.items in
    let reached : AreReachedFrom (links_of rows target) (starts_of rows env target) places = rw
    (c.in_ok-web.ensures.rows, c.in_ok-web.ensures.target, c.as_str.ensures.value, c.as_str-2.ensures.value) at c.in_ok-places.ensures in
    rw c.deref.ensures.value (λ k d within.
    let at = (are_reached rows env target places reached).only k d within in
    omega (arith, slice_get_within rows _ at.0 at.1.stands, c.in_ok-web.ensures.few))

pub returns : goal.returns
returns c =
    let rows = c.args.converged.now.rows.rows in
    let env = c.args.env.now in
    let target = c.args.target.now in
    let places = c.in_ok-places.places.items in
    let reached : AreReachedFrom (links_of rows target) (starts_of rows env target) places = rw
    (c.in_ok-web.ensures.rows, c.in_ok-web.ensures.target, c.as_str.ensures.value, c.as_str-2.ensures.value) at c.in_ok-places.ensures in
    IfOk-weaker c.narrowed.result _ _ (λ list is. subst (AreReached rows env target) (sym (is ∙ c.deref.ensures.value))
    (are_reached rows env target places reached))
    c.narrowed.ensures

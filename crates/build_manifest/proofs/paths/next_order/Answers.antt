use Rattle.std.proofs.Common.{arith}
use Rattle.build_manifest.proofs.PathOrders.{gets_above, gets_below, none_left}
use Rattle.build_manifest.proofs.paths.next_order.Goals as goal

pub returns-in-Same-None-clause-some : goal.returns-in-Same-None-clause-some
returns-in-Same-None-clause-some c earlier bytes e =
    (λ _. tt, λ _. none_left c.args.now earlier bytes c.args.byte c.args.other c.in-Same-None.is-0 c.in-Same-None.is-1 e)

pub returns-in-Same-Some-2-clause-some : goal.returns-in-Same-Some-2-clause-some
returns-in-Same-Some-2-clause-some c earlier bytes e = (
  λ _. tt,
  λ _. gets_above c.args.now earlier bytes c.args.byte c.in-Same-Some-2.other c.args.other c.in-Same-Some-2.is-0 c.in-Same-Some-2.is-1 e (omega arith),
)

pub returns-in_default-clause-none : goal.returns-in_default-clause-none
returns-in_default-clause-none c earlier bytes e =
    gets_below c.args.now earlier bytes c.args.byte c.in-Same-Some-2.other c.args.other c.in-Same-Some-2.is-0 c.in-Same-Some-2.is-1 e (omega arith)

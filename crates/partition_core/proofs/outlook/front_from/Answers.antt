use Rattle.std.proofs.Common.{◌<◌, length, sym, ◌∙◌, arith}
use Rattle.partition_core.specs.Lots.{fates_of}
use Rattle.partition_core.proofs.Fronts.{front_here, front_more}
use Rattle.partition_core.proofs.outlook.front_from.Goals as goal

pub returns-then-not-is_built-clause-first : goal.returns-then-not-is_built-clause-first
returns-then-not-is_built-clause-first c =
    let within : c.loop-front.front < length c.args.needs.now = omega arith in
    front_here (fates_of c.args.lots.now) c.args.needs.now c.loop-front.front 0 c.loop-front.invariant within
    (sym c.is_built.ensures ∙ c.if-not-is_built.true)

pub loop-front-preserved : goal.loop-front-preserved
loop-front-preserved c =
    let within : c.loop-front.front < length c.args.needs.now = omega arith in
    front_more (fates_of c.args.lots.now) c.args.needs.now c.loop-front.front 0 within
    (sym c.is_built.ensures ∙ c.if-not-is_built.false) c.loop-front.invariant

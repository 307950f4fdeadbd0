use Rattle.std.proofs.Common.{◌<◌, length, arith}
use Rattle.partition_core.specs.Lots.{state_of}
use Rattle.partition_core.proofs.OutlookLemmas.{outlook_dropped}
use Rattle.partition_core.proofs.outlook.Outlook.look_at_all.Goals as goal

pub loop-place-preserved : goal.loop-place-preserved
loop-place-preserved c =
    let within : c.loop-place.place-index < length c.args.places.now = omega arith in
    outlook_dropped c.args.plan.now.jobs (state_of c.args.lots.now c.args.standings.now) c.args.places.now c.loop-place.place-index 0
    c.loop-place.self c.look_at.new.self within c.loop-place.invariant (c.requires.within c.loop-place.place-index 0 within)
    c.look_at.ensures.fronts c.look_at.ensures.flags

use Rattle.std.proofs.Common.{get_or, refl, arith}
use Rattle.dep_order.proofs.Ranking.{ranks_among_more}
use Rattle.dep_order.proofs.ranks.ranks_among.Goals as goal

pub loop-place-preserved : goal.loop-place-preserved
loop-place-preserved c =
    ranks_among_more (λ place. get_or c.args.ranks.now place 0) c.args.places.now c.loop-place.place-index _ (omega arith) refl c.loop-place.set c.insert.new.self c.in_ok-insert.ensures.updates c.loop-place.invariant

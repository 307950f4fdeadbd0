use Rattle.std.proofs.Common.{◌∙◌, length-set, arith}
use Rattle.dep_order.proofs.Ranking.{ranks_more, ranks_whole}
use Rattle.dep_order.proofs.ranks.ranks_of.Goals as goal

pub loop-rank-preserved : goal.loop-rank-preserved
loop-rank-preserved c = record {
  long = length-set c.loop-rank.ranks.items _ _ ∙ c.loop-rank.invariant.long;
  each = ranks_more c.args.graph.now c.args.order.now c.requires c.loop-rank.ranks.items c.loop-rank.rank (omega arith) c.loop-rank.invariant.long c.loop-rank.invariant.each;
}

pub returns-clause-ranks : goal.returns-clause-ranks
returns-clause-ranks c = ranks_whole c.args.graph.now c.args.order.now c.requires c.loop-rank.ranks.items c.loop-rank.invariant.long (λ k within. c.loop-rank.invariant.each k (omega arith))

use Rattle.std.proofs.Common.{rules}
use Rattle.partition_board.proofs.Looking.{sees_more, went_more, own_more, went_none}
use Rattle.partition_board.proofs.board.Board.wait_past.Goals as goal

pub returns-then-front-now-clause-sees : goal.returns-then-front-now-clause-sees
returns-then-front-now-clause-sees g c = sees_more c.args.post.now c.loop.post c.look-now.new.post c.loop.invariant.went c.look-now.ensures.sees

pub loop-preserved : goal.loop-preserved
loop-preserved g c = record {
  can_next = search rules;
  finite = search rules;
  own = own_more c.loop.post c.look-now.new.post c.args.self.now.board c.loop.invariant.own c.look-now.ensures.sees;
  went = went_more c.args.post.now c.loop.post c.look-now.new.post c.loop.invariant.went c.look-now.ensures.sees;
}

pub loop-init : goal.loop-init
loop-init g c = record {
  can_next = search rules;
  finite = search rules;
  own = search rules;
  went = went_none c.args.post.now;
}

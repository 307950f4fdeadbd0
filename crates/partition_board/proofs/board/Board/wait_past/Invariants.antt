use Rattle.partition_board.specs.Posts.{IsIn}
use Rattle.partition_board.proofs.Looking.{Went}
use Rattle.partition_board.proofs.board.Board.wait_past.Given as goal

abbrev pub invariant-loop : goal.invariant-loop
invariant-loop g l = record {
  can_next : (goal.iterator-loop g).can_next l.iterator';
  finite : (goal.iterator-loop g).is_finite l.iterator';
  own : IsIn l.self.board l.post;
  went : Went l.fn.post l.post;
}

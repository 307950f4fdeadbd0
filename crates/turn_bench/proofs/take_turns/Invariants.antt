use Rattle.std.proofs.Common.{◌≡◌, false}
use Rattle.turn_bench.proofs.take_turns.Given as goal

abbrev pub invariant-loop-turn : goal.invariant-loop-turn
invariant-loop-turn g l = (l.seat.board ≡ l.fn.board.board) × (l.seat.has_value ≡ false)

use Rattle.std.proofs.Common.{◌≡◌, false}
use Rattle.turn_tests.proofs.notes.add_all.Given as goal

abbrev pub invariant-loop-number : goal.invariant-loop-number
invariant-loop-number g l = (l.seat.board ≡ l.fn.board.board) × (l.seat.has_value ≡ false)

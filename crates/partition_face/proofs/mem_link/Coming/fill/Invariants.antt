use Rattle.std.proofs.Common.{◌≡◌, length}
use Rattle.partition_face.proofs.mem_link.Coming.fill.Given as goal

abbrev pub invariant-loop-place : goal.invariant-loop-place
invariant-loop-place l = l.place-end ≡ length l.self.pieces

use Rattle.std.proofs.Common.{◌≡◌, ◌++◌, drop, filter, map, not, bytes_eq, []}
use Rattle.compiler_drive.specs.Command.{words_in}
use Rattle.compiler_drive.proofs.commands.words_in.Given as goal

abbrev pub invariant-loop-piece : goal.invariant-loop-piece
invariant-loop-piece l = l.words ++ filter (λ piece. not (bytes_eq piece [])) (map (λ p. p.now) (drop l.piece-index l.piece-items)) ≡ words_in l.text

use Rattle.std.proofs.Common.{map, take}
use Rattle.std.specs.Prelude.{string_bytes}
use Rattle.mix_words.specs.Sofar.{place_of}
use Rattle.mix_words.proofs.RefusedLemmas.{Led}
use Rattle.mix_words.proofs.read.read_pieces.Given as goal

abbrev pub invariant-loop-at : goal.invariant-loop-at
invariant-loop-at l = Led l.fn.verb (take l.at (map (λ word. string_bytes word) l.words)) (place_of l.reader)

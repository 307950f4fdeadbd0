use Rattle.std.proofs.Common.{◌≡◌, take, drop}
use Rattle.unit_lang.specs.Lexing.{dotted}
use Rattle.unit_lang.proofs.WordLemmas.{put_before}
use Rattle.unit_lang.proofs.words.dotted.Given as goal

abbrev pub invariant-loop-at : goal.invariant-loop-at
invariant-loop-at l = dotted l.word ≡ put_before (take l.at l.word) (dotted (drop l.at l.word))

use Rattle.std.proofs.Common.{◌≡◌, List, ℕ, ◌++◌, length, IsTrue}
use Rattle.unit_lang.specs.Lines.{are_blanks}
use Rattle.unit_lang.proofs.blanks.trim_end.Given as goal

-- the text is the rest and blanks after it
abbrev pub invariant-loop-rest : goal.invariant-loop-rest
invariant-loop-rest l = (after : List ℕ) × IsTrue (are_blanks after) × (l.text ≡ l.rest ++ after)

abbrev pub decreases-loop-rest : goal.decreases-loop-rest
decreases-loop-rest l = length l.rest

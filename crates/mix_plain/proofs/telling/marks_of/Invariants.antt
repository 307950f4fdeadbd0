use Rattle.std.proofs.Common.{◌≡◌, ◌++◌, map, option_map}
use Rattle.mix_plain.proofs.telling.marks_of.Given as goal

abbrev pub invariant-loop-entry : goal.invariant-loop-entry
invariant-loop-entry l =
    l.marks.items ++ map (option_map (λ entry. entry.mark)) l.entry-iterator.rest.items ≡ map (option_map (λ entry. entry.mark)) l.fn.kept.items

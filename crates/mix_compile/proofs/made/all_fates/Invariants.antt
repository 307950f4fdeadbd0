use Rattle.std.proofs.Common.{◌≡◌, ◌++◌, filter_map}
use Rattle.mix_compile.proofs.made.all_fates.Given as goal

abbrev pub invariant-loop-fate : goal.invariant-loop-fate
invariant-loop-fate l = l.all.items ++ filter_map (λ fate. fate) l.fate-iterator.rest.items ≡ filter_map (λ fate. fate) l.fn.fates.items

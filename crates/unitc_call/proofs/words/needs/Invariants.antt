use Rattle.std.proofs.Common.{◌≡◌, ◌++◌, length, map, option_map, string_bytes}
use Rattle.unitc_call.specs.Words.{needs_of}
use Rattle.unitc_call.proofs.words.needs.Given as goal

abbrev pub invariant-loop-rest : goal.invariant-loop-rest
invariant-loop-rest l =
    needs_of l.env (map (λ word. string_bytes word) l.fn.words) ≡
    option_map (λ more. l.needs.items ++ more) (needs_of l.env (map (λ word. string_bytes word) l.rest))

abbrev pub decreases-loop-rest : goal.decreases-loop-rest
decreases-loop-rest l = length l.rest

use Rattle.std.proofs.Common.{◌≡◌, ◌++◌, drop, map}
use Rattle.std.specs.Prelude.{string_bytes}
use Rattle.mx_base.specs.Path.{with_slashes}
use Rattle.mx_base.proofs.path.with_rest.Given as goal

abbrev pub invariant-loop-segment : goal.invariant-loop-segment
invariant-loop-segment l = string_bytes l.text ++ with_slashes (map (λ s. s.now) (drop l.segment-index l.rest)) ≡ l.first ++ with_slashes (map (λ s. s.now) l.rest)

use Rattle.std.proofs.Common.{◌≡◌, ◌++◌, drop, map, flat_map}
use Rattle.compile_model.specs.Echo.{bytes_of}
use Rattle.compile_model.proofs.echo.push_needs.Given as goal

abbrev pub invariant-loop-need : goal.invariant-loop-need
invariant-loop-need l = l.bytes.items ++ flat_map bytes_of (map (λ o. o.files) (drop l.need-index l.needs)) ≡ l.fn.bytes.items ++ flat_map bytes_of (map (λ o. o.files) l.needs)

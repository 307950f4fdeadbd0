use Rattle.std.proofs.Common.{◌≡◌, ◌+◌, map, drop, sum}
use Rattle.compile_model.specs.Planned.{sent}
use Rattle.partition_frames.proofs.limits.after_names.Given as goal

abbrev pub invariant-loop-name : goal.invariant-loop-name
invariant-loop-name l = l.fn.room + sum (map sent (drop l.name-index l.names)) ≡ l.room + sum (map sent l.names)

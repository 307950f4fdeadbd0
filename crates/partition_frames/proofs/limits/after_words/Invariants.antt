use Rattle.std.proofs.Common.{◌≡◌, ◌+◌, map, drop, sum}
use Rattle.compile_model.specs.Planned.{sent}
use Rattle.partition_frames.proofs.limits.after_words.Given as goal

abbrev pub invariant-loop-word : goal.invariant-loop-word
invariant-loop-word l = l.fn.room + sum (map sent (drop l.word-index l.words)) ≡ l.room + sum (map sent l.words)

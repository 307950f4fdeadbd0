use Rattle.std.proofs.Common.{arith}
use Rattle.std.proofs.lemmas.List.{length-take}
use Rattle.partition_face.proofs.mem_spawner.first_bytes.Goals as goal

pub slice_bounds-result-end : goal.slice_bounds-result-end
slice_bounds-result-end c = omega (arith, length-take 1048576 c.args.text.now)

pub returns-else-text-le-MOST_OUTPUT : goal.returns-else-text-le-MOST_OUTPUT
returns-else-text-le-MOST_OUTPUT c = omega (arith, length-take 1048576 c.args.text.now)

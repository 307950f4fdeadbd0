use Rattle.partition_build.proofs.Totals.{counts_add_up}
use Rattle.partition_build.proofs.laws.counts_add_up.Goals as goal

pub returns : goal.returns
returns g c = counts_add_up g.P.Partition.lasting

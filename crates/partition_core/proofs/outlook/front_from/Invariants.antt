use Rattle.partition_core.specs.Lots.{fates_of}
use Rattle.partition_core.specs.Agendas.{IsFront}
use Rattle.partition_core.proofs.outlook.front_from.Given as goal

abbrev pub invariant-loop-front : goal.invariant-loop-front
invariant-loop-front l = IsFront (fates_of l.lots) l.needs l.front

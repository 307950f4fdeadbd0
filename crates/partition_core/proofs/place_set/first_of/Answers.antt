use Rattle.std.proofs.Common.{arith}
use Rattle.partition_core.proofs.PlaceSetLemmas.{dark_more, first_whole, dark_all}
use Rattle.partition_core.proofs.place_set.first_of.Goals as goal

pub returns-in-Some-clause-first : goal.returns-in-Some-clause-first
returns-in-Some-clause-first c = first_whole c.args.flags.now c.loop-block.block c.in-Some.place c.loop-block.invariant c.in-Some.ensures.first

pub loop-block-preserved : goal.loop-block-preserved
loop-block-preserved c = dark_more c.args.flags.now c.loop-block.block c.loop-block.invariant c.in_default.ensures.none

pub returns-clause-none : goal.returns-clause-none
returns-clause-none c = dark_all c.args.flags.now c.args.blocks.now c.loop-block.block c.requires (omega arith) c.loop-block.invariant

use Rattle.partition_core.proofs.PlaceSetLemmas.{block_begins}
use Rattle.partition_core.proofs.place_set.first_lit.Goals as goal

pub first_in-requires : goal.first_in-requires
first_in-requires c = block_begins c.args.flags.now c.args.blocks.now c.args.block c.requires.blocks c.requires.within

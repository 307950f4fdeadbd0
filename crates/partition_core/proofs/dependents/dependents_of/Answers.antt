use Rattle.std.proofs.Common.{◌∙◌, arith}
use Rattle.partition_core.proofs.DependentLemmas.{needs_within, dependents_next}
use Rattle.partition_core.proofs.dependents.dependents_of.Goals as goal

pub add_dependent-requires : goal.add_dependent-requires
add_dependent-requires c =
    needs_within c.args.jobs.now c.loop-place.place c.index-jobs-place.result c.as_slice.result.now _ c.requires (omega arith)
    c.index-jobs-place.is c.as_slice.ensures c.loop-place.invariant.long

pub loop-place-preserved : goal.loop-place-preserved
loop-place-preserved c = record {
  long = c.add_dependent.ensures.long ∙ c.loop-place.invariant.long;
  each = dependents_next c.args.jobs.now c.loop-place.place c.index-jobs-place.result c.loop-place.dependents.items c.add_dependent.new.dependents.items
      c.as_slice.result.now (omega arith) c.index-jobs-place.is c.as_slice.ensures c.loop-place.invariant.each c.in_ok-add_dependent.ensures.each;
}

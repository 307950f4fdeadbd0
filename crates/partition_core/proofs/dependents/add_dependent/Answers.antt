use Rattle.std.proofs.Common.{◌<◌, ◌∙◌, length, get_or, arith}
use Rattle.std.proofs.lemmas.List.{length-set}
use Rattle.partition_core.proofs.DependentLemmas.{dependents_put}
use Rattle.partition_core.proofs.dependents.add_dependent.Goals as goal

pub loop-need-preserved : goal.loop-need-preserved
loop-need-preserved c =
    let within : c.loop-need.need-index < length c.args.needs.now = omega arith in
    let inside : get_or c.args.needs.now c.loop-need.need-index 0 < length c.loop-need.dependents.items =
    let h = c.requires c.loop-need.need-index 0 within in let long = c.loop-need.invariant.long in omega arith in
    record {
      long = length-set c.loop-need.dependents.items (get_or c.args.needs.now c.loop-need.need-index 0) c.push.new.self ∙ c.loop-need.invariant.long;
      each = dependents_put c.args.needs.now c.loop-need.need-index within c.loop-need.dependents.items c.args.dependents.now.items c.args.place
          c.index_mut.result.now c.push.new.self inside c.index_mut.ensures.value c.in_ok-push.ensures.ok c.loop-need.invariant.each;
    }

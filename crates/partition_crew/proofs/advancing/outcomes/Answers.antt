use Rattle.std.proofs.Common.{◌≡◌, ◌∙◌, sym, ap, arith}
use Rattle.std.proofs.lemmas.Grind.{common_steps}
use Rattle.compile_model.specs.declared.job.Job.{Job}
use Rattle.compile_model.specs.declared.job.Plan.{Plan}
use Rattle.partition_core.specs.State.{outcomes_now}
use Rattle.partition_core.specs.Story.{state_now}
use Rattle.partition_crew.proofs.Planning.{job_here}
use Rattle.partition_crew.proofs.Starting.{start_outcomes}
use Rattle.partition_crew.proofs.advancing.outcomes.Goals as goal

pub returns : goal.returns
returns g c =
    let o = c.args.core.now.opening in
    let job : Job = c.index-as_slice-place.result in
    let here = job_here c.as_slice.result.now o.plan.jobs c.args.place job
    (c.as_slice.ensures ∙ ap (λ (plan : Plan). plan.jobs) c.plan.ensures.value) c.requires c.index-as_slice-place.is in
    let own : c.loop-need.outcomes.items ≡ outcomes_now (state_now c.args.core.now).fates c.as_slice-need-items.result.now = grind (arith, common_steps) in
    own ∙ ap (outcomes_now (state_now c.args.core.now).fates) c.as_slice-need-items.ensures
    ∙ sym (start_outcomes o (state_now c.args.core.now) c.args.place job here)

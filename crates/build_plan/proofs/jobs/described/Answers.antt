use Rattle.std.proofs.Common.{sym, subst, All}
use Rattle.compile_model.specs.Planned.{most_jobs}
use Rattle.build_plan.specs.Scenes.{StandsBefore}
use Rattle.build_plan.proofs.PartLemmas.{parts_given}
use Rattle.build_plan.proofs.PostLemmas.{before_most}
use Rattle.build_plan.proofs.jobs.described.Goals as goal

pub needs_of-requires : goal.needs_of-requires
needs_of-requires c =
    let order = c.args.scene.now.schedule.order in
    subst (All (StandsBefore order most_jobs)) (sym c.deref.ensures.value)
    (before_most order c.args.at c.args.post.now.reached.items c.requires.few c.requires.post.before)

pub returns : goal.returns
returns c =
    let schedule = c.args.scene.now.schedule in
    parts_given schedule c.args.post.now c.in_ok-recipe.recipe c.in_ok-needs.needs c.args.sources c.of_parts.result c.of_parts.ensures
    (rw c.as_slice.ensures.value at c.in_ok-recipe.ensures)
    (rw c.deref.ensures.value at c.in_ok-needs.ensures.places) (rw c.deref.ensures.value at c.in_ok-needs.ensures.apps)

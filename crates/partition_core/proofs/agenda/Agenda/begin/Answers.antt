use Rattle.std.proofs.Common.{◌≡◌, ℕ, ◌<◌, List, false, length, replicate, ◌∙◌, ap, subst, arith}
use Rattle.compile_model.specs.declared.job.Job.{Job}
use Rattle.partition_core.specs.Lots.{fates_of, state_of}
use Rattle.partition_core.specs.Agendas.{AreDependents}
use Rattle.partition_core.proofs.OutlookLemmas.{fronts_begin, flags_more, outlook_begins, left_begins}
use Rattle.partition_core.proofs.agenda.Agenda.begin.Goals as goal

pub loop-place-init : goal.loop-place-init
loop-place-init c =
    let count : length c.as_slice-jobs.result.now ≡ length c.args.plan.now.jobs = ap length c.as_slice-jobs.ensures in
    record {
      fronts = fronts_begin c.args.plan.now.jobs (fates_of c.args.lots.now) c.in_ok-outlook.outlook
          (c.in_ok-outlook.ensures.0 ∙ ap (λ (n : ℕ). replicate n false) count)
          (c.in_ok-outlook.ensures.1 ∙ ap (λ (n : ℕ). replicate n 0) count);
      right = λ place h. absurd (omega arith);
    }

pub loop-place-preserved : goal.loop-place-preserved
loop-place-preserved c =
    let count : length c.as_slice-jobs.result.now ≡ length c.args.plan.now.jobs = ap length c.as_slice-jobs.ensures in
    let flags = c.loop-place.invariant.fronts.flags in
    let within : c.loop-place.place < length c.loop-place.outlook.offering = omega arith in
    record {
      fronts = c.look_at.ensures.fronts;
      right = flags_more c.args.plan.now.jobs (state_of c.args.lots.now c.args.standings.now) c.loop-place.outlook.offering c.look_at.new.self.offering
          c.loop-place.place within c.look_at.ensures.flags c.loop-place.invariant.right;
    }

pub returns : goal.returns
returns c =
    let count : length c.as_slice-jobs.result.now ≡ length c.args.plan.now.jobs = ap length c.as_slice-jobs.ensures in
    let ended = c.loop-place-test.false in
    record {
      outlook = outlook_begins c.args.plan.now.jobs (state_of c.args.lots.now c.args.standings.now) c.loop-place.outlook c.loop-place.invariant.fronts
          (λ place within. c.loop-place.invariant.right place (omega arith));
      dependents = subst (λ (jobs : List Job). AreDependents jobs c.in_ok-dependents_of.field-0.items) c.as_slice-jobs.ensures c.in_ok-dependents_of.ensures;
      left = count ∙ left_begins (fates_of c.args.lots.now) (length c.args.plan.now.jobs) c.requires.open_places;
    }

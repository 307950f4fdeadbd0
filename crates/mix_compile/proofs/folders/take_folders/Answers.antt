use Rattle.std.proofs.Common.{◌≡◌, ◌<◌, ◌≤◌, List, [], ◌∷◌, ◌++◌, ◌+◌, length, map, slice_get, Some, refl, sym, ap, ◌∙◌, subst, arith}
use Rattle.compile_model.specs.declared.job.Job.{Job}
use Rattle.tree_store.specs.FolderKnown.{FolderKnown}
use Rattle.partition_crew.proofs.Planning.{job_here}
use Rattle.mix_compile.proofs.LendLemmas.{map_more}
use Rattle.mix_compile.proofs.TakeLemmas.{Taking, next_home, taking_more, taking_none}
use Rattle.mix_compile.proofs.folders.take_folders.Goals as goal

pub loop-job-init : goal.loop-job-init
loop-job-init g c =
    let known = g.S.F.Folder.known in
    let first = g.S.Store.known c.args.store.now in
    record {
      taking = subst (λ (folders : List FolderKnown). Taking c.args.plan.now 0 first first folders) (sym (ap (map known) c.in_ok-folders.ensures.items)) (taking_none c.args.plan.now first);
      jobs = c.as_slice-jobs.ensures;
      many = c.in_ok-folders.ensures.len;
      room = c.in_ok-folders.ensures.capacity;
    }

pub folder-requires : goal.folder-requires
folder-requires g c =
    let known = g.S.F.Folder.known in
    let plan = c.args.plan.now in
    let taking = c.loop-job.invariant.taking in
    let within : c.loop-job.job-index < length plan.jobs = subst (λ (js : List Job). c.loop-job.job-index < length js) c.loop-job.invariant.jobs (omega arith) in
    let here = job_here c.as_slice-jobs.result.now plan.jobs c.loop-job.job-index c.job-item.result c.loop-job.invariant.jobs within c.job-item.is in
    next_home plan.env plan.jobs c.requires.planned c.loop-job.job-index (map known c.loop-job.folders.items) c.job-item.result
    (g.S.Store.known c.args.store.now).slot (g.S.Store.known c.loop-job.store).slot taking.keys here taking.whole c.requires.here

pub loop-job-preserved : goal.loop-job-preserved
loop-job-preserved g c =
    let known = g.S.F.Folder.known in
    let plan = c.args.plan.now in
    let within : c.loop-job.job-index < length plan.jobs = subst (λ (js : List Job). c.loop-job.job-index < length js) c.loop-job.invariant.jobs (omega arith) in
    let here = job_here c.as_slice-jobs.result.now plan.jobs c.loop-job.job-index c.job-item.result c.loop-job.invariant.jobs within c.job-item.is in
    let is = ap (map known) c.push_reserved.ensures.items ∙ map_more known c.loop-job.folders.items c.in-Ok.folder in
    let first = g.S.Store.known c.args.store.now in
    let now = g.S.Store.known c.folder.new.self in
    record {
      taking = subst (λ (folders : List FolderKnown). Taking plan (c.loop-job.job-index + 1) first now folders) (sym is)
          (taking_more plan c.requires.planned c.loop-job.job-index first (g.S.Store.known c.loop-job.store) now (map known c.loop-job.folders.items) c.job-item.result
          (known c.in-Ok.folder) here c.loop-job.invariant.taking c.in-Ok.ensures.folder c.in-Ok.ensures.lends.out c.in-Ok.ensures.lends.rest
          (c.in-Ok.ensures.lends.cause.kept refl));
      jobs = c.loop-job.invariant.jobs;
      many = omega (arith, c.push_reserved.ensures.len, c.loop-job.invariant.many);
      room = omega (arith, c.push_reserved.ensures.capacity, c.loop-job.invariant.room);
    }

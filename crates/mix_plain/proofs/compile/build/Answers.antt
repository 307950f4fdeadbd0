use Rattle.std.proofs.Common.{rules, inl, List, refl, ◌∙◌, ap, subst}
use Rattle.mx_base.specs.Blame.{is_outside}
use Rattle.compile_model.specs.declared.outcome.Fate.{Fate}
use Rattle.compile_model.specs.declared.seq.SeqFault.{SeqFault}
use Rattle.compile_model.specs.Blame.{seq_blame}
use Rattle.kept_tree.specs.Tree.{IsTree}
use Rattle.mix_answer.specs.declared.status.Status.TheVariants.{Died}
use Rattle.mix_answer.specs.Reply.{reply_of}
use Rattle.mix_compile.specs.Right.{status_by}
use Rattle.mix_report.specs.Report.{report}
use Rattle.mix_plain.specs.Compile.Builds.{died}
use Rattle.mix_plain.specs.Filling.{FillsPartly}
use Rattle.mix_plain.proofs.HonestLemmas.{leads_cleared, leads_filled}
use Rattle.mix_plain.proofs.WorkLemmas.{built_builds, fates_of, fault_builds, memory_builds, works_of}
use Rattle.mix_plain.proofs.compile.build.Goals as goal

-- the line of a death couldn't be made
pub returns-in_err-died-clause-works : goal.returns-in_err-died-clause-works
returns-in_err-died-clause-works g c =
    let old = g.S.Store.known c.args.store.now in
    let deaths = g.C.Compiler.deaths c.args.compiler.now in
    works_of g.C.Meaning.compile_of c.args.plan.now old old deaths deaths _
    (leads_cleared g.C.Meaning.compile_of c.args.plan.now c.requires.planned old.slot old.slot (λ q. inl refl))
    (memory_builds g.C.Meaning.compile_of c.args.plan.now old old deaths deaths _ (record { reads = refl; trees = refl; deaths = refl }) (search rules))

pub returns-in_err-clear_apart-clause-works : goal.returns-in_err-clear_apart-clause-works
returns-in_err-clear_apart-clause-works g c =
    let old = g.S.Store.known c.args.store.now in
    let new = g.S.Store.known c.clear_apart.new.store in
    let deaths = g.C.Compiler.deaths c.args.compiler.now in
    works_of g.C.Meaning.compile_of c.args.plan.now old new deaths deaths _
    (leads_cleared g.C.Meaning.compile_of c.args.plan.now c.requires.planned old.slot new.slot c.clear_apart.ensures.part)
    (fault_builds (Unit {0}) g.C.Meaning.compile_of c.args.plan.now old old new deaths deaths _ c.in_err-clear_apart.field-0.0
    (record { reads = refl; trees = refl; deaths = refl }) c.in_err-clear_apart.ensures.counts (search rules))

pub fill_env-requires-clause-fates : goal.fill_env-requires-clause-fates
fill_env-requires-clause-fates g c =
    fates_of g.C.Meaning.compile_of c.args.plan.now c.requires.planned c.as_slice.result.now (c.as_slice.ensures.value ∙ c.in-Ok.ensures.fates)
    (c.as_slice.ensures.len ∙ c.in-Ok.ensures.length)

pub returns-in_err-fill_env-in-Ok-clause-works : goal.returns-in_err-fill_env-in-Ok-clause-works
returns-in_err-fill_env-in-Ok-clause-works g c =
    let old = g.S.Store.known c.args.store.now in
    let mid = g.S.Store.known c.clear_apart.new.store in
    let new = g.S.Store.known c.fill_env.new.store in
    let before = g.C.Compiler.deaths c.args.compiler.now in
    let after = g.C.Compiler.deaths c.seq_build.new.compiler in
    works_of g.C.Meaning.compile_of c.args.plan.now old new before after _
    (leads_filled g.C.Meaning.compile_of c.args.plan.now c.requires.planned old.slot mid.slot new.slot c.clear_apart.ensures.part
    (subst (λ (fates : List Fate). FillsPartly c.args.plan.now fates mid.slot new.slot) (c.as_slice.ensures.value ∙ c.in-Ok.ensures.fates) c.fill_env.ensures.part))
    (fault_builds (Unit {0}) g.C.Meaning.compile_of c.args.plan.now old mid new before after _ c.in_err-fill_env-in-Ok.field-0.0
    (record {
      reads = c.in_ok-clear_apart.ensures.counts.0;
      trees = c.in_ok-clear_apart.ensures.counts.1;
      deaths = c.in-Ok.ensures.cause.kept refl;
    }) c.in_err-fill_env-in-Ok.ensures.counts (search rules))

pub returns-in_err-told-in-Ok-clause-works : goal.returns-in_err-told-in-Ok-clause-works
returns-in_err-told-in-Ok-clause-works g c =
    let old = g.S.Store.known c.args.store.now in
    let mid = g.S.Store.known c.clear_apart.new.store in
    let new = g.S.Store.known c.fill_env.new.store in
    let before = g.C.Compiler.deaths c.args.compiler.now in
    let after = g.C.Compiler.deaths c.seq_build.new.compiler in
    works_of g.C.Meaning.compile_of c.args.plan.now old new before after _
    (leads_filled g.C.Meaning.compile_of c.args.plan.now c.requires.planned old.slot mid.slot new.slot c.clear_apart.ensures.part
    (subst (λ (fates : List Fate). FillsPartly c.args.plan.now fates mid.slot new.slot) (c.as_slice.ensures.value ∙ c.in-Ok.ensures.fates) c.fill_env.ensures.part))
    (memory_builds g.C.Meaning.compile_of c.args.plan.now old new before after _
    (record {
      reads = c.in_ok-fill_env-in-Ok.ensures.counts.0 ∙ c.in_ok-clear_apart.ensures.counts.0;
      trees = c.in_ok-fill_env-in-Ok.ensures.counts.1 ∙ c.in_ok-clear_apart.ensures.counts.1;
      deaths = c.in-Ok.ensures.cause.kept refl;
    }) (search rules))

pub returns-in_ok-told-in-Ok-clause-works : goal.returns-in_ok-told-in-Ok-clause-works
returns-in_ok-told-in-Ok-clause-works g c =
    let old = g.S.Store.known c.args.store.now in
    let mid = g.S.Store.known c.clear_apart.new.store in
    let new = g.S.Store.known c.fill_env.new.store in
    let before = g.C.Compiler.deaths c.args.compiler.now in
    let after = g.C.Compiler.deaths c.seq_build.new.compiler in
    works_of g.C.Meaning.compile_of c.args.plan.now old new before after _
    (leads_filled g.C.Meaning.compile_of c.args.plan.now c.requires.planned old.slot mid.slot new.slot c.clear_apart.ensures.part
    (subst (λ (fates : List Fate). FillsPartly c.args.plan.now fates mid.slot new.slot) (c.as_slice.ensures.value ∙ c.in-Ok.ensures.fates) c.fill_env.ensures.part))
    (built_builds g.C.Meaning.compile_of c.args.plan.now old new before after c.in-Ok.fates.items c.in_ok-told-in-Ok.field-0.status
    c.in_ok-told-in-Ok.field-0.text.items c.in-Ok.ensures.fates
    (subst (λ (fates : List Fate). IsTree c.args.plan.now fates new.slot) c.as_slice.ensures.value c.in_ok-fill_env-in-Ok.ensures.tree)
    (c.in_ok-told-in-Ok.ensures.status ∙ ap status_by c.as_slice-in-Ok.ensures.value)
    (c.in_ok-told-in-Ok.ensures.text ∙ ap (report c.args.plan.now.jobs) c.as_slice-in-Ok.ensures.value)
    (record {
      reads = c.in_ok-fill_env-in-Ok.ensures.counts.0 ∙ c.in_ok-clear_apart.ensures.counts.0;
      trees = c.in_ok-fill_env-in-Ok.ensures.counts.1 ∙ c.in_ok-clear_apart.ensures.counts.1;
      deaths = c.in-Ok.ensures.cause.kept refl;
    }))

pub returns-in-Err-Died-clause-works : goal.returns-in-Err-Died-clause-works
returns-in-Err-Died-clause-works g c =
    let old = g.S.Store.known c.args.store.now in
    let new = g.S.Store.known c.clear_apart.new.store in
    let before = g.C.Compiler.deaths c.args.compiler.now in
    let after = g.C.Compiler.deaths c.seq_build.new.compiler in
    works_of g.C.Meaning.compile_of c.args.plan.now old new before after _
    (leads_cleared g.C.Meaning.compile_of c.args.plan.now c.requires.planned old.slot new.slot c.clear_apart.ensures.part)
    (died (record {
      rose = c.in-Err-Died.ensures.cause.rose (ap (λ (fault : SeqFault). is_outside (seq_blame fault)) c.in-Err-Died.field-0-is);
      tree = c.in_ok-clear_apart.ensures.cleared;
      says = ap (reply_of Died) c.in_ok-died.ensures;
    }))

pub returns-in-Err-OutOfMemory-clause-works : goal.returns-in-Err-OutOfMemory-clause-works
returns-in-Err-OutOfMemory-clause-works g c =
    let old = g.S.Store.known c.args.store.now in
    let new = g.S.Store.known c.clear_apart.new.store in
    let before = g.C.Compiler.deaths c.args.compiler.now in
    let after = g.C.Compiler.deaths c.seq_build.new.compiler in
    works_of g.C.Meaning.compile_of c.args.plan.now old new before after _
    (leads_cleared g.C.Meaning.compile_of c.args.plan.now c.requires.planned old.slot new.slot c.clear_apart.ensures.part)
    (memory_builds g.C.Meaning.compile_of c.args.plan.now old new before after _
    (record {
      reads = c.in_ok-clear_apart.ensures.counts.0;
      trees = c.in_ok-clear_apart.ensures.counts.1;
      deaths = c.in-Err-OutOfMemory.ensures.cause.kept (ap (λ (fault : SeqFault). is_outside (seq_blame fault)) c.in-Err-OutOfMemory.field-0-is);
    }) refl)

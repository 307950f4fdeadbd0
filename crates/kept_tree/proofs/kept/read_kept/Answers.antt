use Rattle.std.proofs.Common.{◌≡◌, ◌<◌, ◌∙◌, ℕ, [], ◌∷◌, ◌++◌, All, IfSome, Option, length, length-append, get_or, ap, subst, sym, arith}
use Rattle.std.proofs.lemmas.List.Elements.{All-push}
use Rattle.staleness.specs.declared.kept.Kept.{Kept}
use Rattle.tree_store.specs.Known.{Known}
use Rattle.honest_tree.specs.KeptOf.{IsKeptAt}
use Rattle.kept_tree.specs.Reading.{IsWhole}
use Rattle.kept_tree.proofs.KeptLemmas.{AreKeptSoFar, kept_more}
use Rattle.kept_tree.proofs.kept.read_kept.Goals as goal

pub loop-job-preserved : goal.loop-job-preserved
loop-job-preserved g c =
    let jobs = c.as_slice-jobs.result.now in
    let kept = c.loop-job.kept.items in
    let env = c.args.plan.now.env in
    let job = c.job-item.result in
    let entry = c.in_ok-entry.entry in
    let slots = (g.S.Store.known c.args.store.now).slot in
    let each = c.loop-job.invariant.each in
    let at : c.loop-job.job-index < length jobs = omega arith in
    let within : length kept < length jobs = omega (arith, at, each) in
    let own : job ≡ get_or jobs (length kept) job = c.job-item.is ∙ ap (λ (n : ℕ). get_or jobs n job) (sym each) in
    let pushed : c.push.new.self.items ≡ kept ++ entry ∷ [] = c.in_ok-push.ensures.items in
    let now : IsKeptAt (slots (record { env = env; app = job.app })) entry =
    subst (λ (k : Known). IsKeptAt (k.slot (record { env = env; app = job.app })) entry) c.loop-job.invariant.same c.in_ok-entry.ensures.kept in
    record {
      each = ap length pushed ∙ length-append kept (entry ∷ []) ∙ omega (arith, each);
      so_far = subst (AreKeptSoFar slots env jobs) (sym pushed) (kept_more slots env jobs kept job entry within own c.loop-job.invariant.so_far now);
      whole = subst (All (λ (e : Option Kept). IfSome e IsWhole)) (sym pushed)
          (All-push (λ (e : Option Kept). IfSome e IsWhole) kept entry c.loop-job.invariant.whole c.in_ok-entry.ensures.whole);
      same = c.in_ok-entry.ensures.reads ∙ c.loop-job.invariant.same;
    }

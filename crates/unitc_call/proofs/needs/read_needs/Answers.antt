use Rattle.std.proofs.Common.{◌+◌, take, sym, ◌∙◌, subst}
use Rattle.tree_store.specs.declared.key.BuildKey.{BuildKey}
use Rattle.tree_store.specs.Known.{Known}
use Rattle.unitc_call.specs.Reading.{AreFilesAt}
use Rattle.unitc_call.proofs.NeedLemmas.{AreBuilt, built_more}
use Rattle.unitc_call.proofs.needs.read_needs.Goals as goal

pub loop-app-preserved : goal.loop-app-preserved
loop-app-preserved g c =
    let at = c.loop-app in
    let slots = (g.S.Store.known c.args.store.now).slot in
    let env = c.args.env.now in
    let app = c.app-item.result in
    let key : BuildKey = record { env = env; app = app } in
    let files : AreFilesAt (slots key) c.in_ok-files.files =
    subst (λ (k : Known). AreFilesAt (k.slot key) c.in_ok-files.files) at.invariant.same c.in_ok-files.ensures.files in
    record {
      built = subst (AreBuilt slots env (take (at.app-index + 1) c.args.apps.now)) (sym c.in_ok-push.ensures.items)
          (built_more slots env c.args.apps.now at.app-index app at.needs.items c.in_ok-outcome_of.field-0 c.loop-app-test.true c.app-item.is at.invariant.built
          (subst (AreFilesAt (slots key)) (sym c.in_ok-outcome_of.ensures) files));
      same = c.in_ok-files.ensures.reads ∙ at.invariant.same;
    }

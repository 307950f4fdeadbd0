use Rattle.std.proofs.Common.{◌≡◌, List, ℕ, sym, ap, subst, ◌∙◌, arith, rules}
use Rattle.std.proofs.lemmas.List.{drop_all}
use Rattle.std.proofs.lemmas.Grind.{common_steps}
use Rattle.tree_store.specs.declared.key.BuildKey.{BuildKey}
use Rattle.tree_store.specs.Known.{Known}
use Rattle.tree_store.specs.Slot.{Slot, AllHere}
use Rattle.mix_main.proofs.PartLemmas.{same_part, part_more}
use Rattle.mix_main.proofs.TreeLemmas.{clears_env, cleared_by, elsewhere_more}
use Rattle.mix_main.proofs.clear.clear_env.Goals as goal

pub returns-clause-cleared : goal.returns-clause-cleared
returns-clause-cleared g c =
    clears_env c.args.env.now c.deref-app-items.result.now (g.S.Store.known c.args.store.now).slot (g.S.Store.known c.loop-app.store).slot
    (λ app. rw c.deref-app-items.ensures.value (c.in_ok-apps.ensures.apps app))
    (λ q. ap (λ (apps : List (List ℕ)). cleared_by c.args.env.now apps q ((g.S.Store.known c.loop-app.store).slot q)) (sym (drop_all c.loop-app.app-index c.deref-app-items.result.now c.loop-app-test.false)) ∙ c.loop-app.invariant.rest q)

pub returns-in_err-apps-clause-part : goal.returns-in_err-apps-clause-part
returns-in_err-apps-clause-part g c =
    same_part (g.S.Store.known c.args.store.now).slot (g.S.Store.known c.apps.new.self).slot (ap (λ (k : Known). k.slot) c.apps.ensures.reads.same)

pub loop-app-init : goal.loop-app-init
loop-app-init g c =
    let slots : (g.S.Store.known c.apps.new.self).slot ≡ (g.S.Store.known c.args.store.now).slot = ap (λ (k : Known). k.slot) c.apps.ensures.reads.same in
    record {
      rest = λ q. ap (λ (at : BuildKey → Slot). cleared_by c.args.env.now c.deref-app-items.result.now q (at q)) slots;
      part = same_part (g.S.Store.known c.args.store.now).slot (g.S.Store.known c.apps.new.self).slot slots;
      here = subst AllHere (sym slots) c.requires;
      elsewhere = λ q e. ap (λ (at : BuildKey → Slot). at q) slots;
      sources = ap (λ (k : Known). k.sources) c.apps.ensures.reads.same;
      faults = first_of (search rules, grind (arith, common_steps));
      returned = ap (λ (k : Known). k.returned) c.apps.ensures.reads.same;
    }

pub returns-in_err-clear_app-clause-part : goal.returns-in_err-clear_app-clause-part
returns-in_err-clear_app-clause-part g c =
    part_more (g.S.Store.known c.args.store.now).slot (g.S.Store.known c.loop-app.store).slot (g.S.Store.known c.clear_app.new.store).slot c.loop-app.invariant.part c.clear_app.ensures.part

pub loop-app-preserved : goal.loop-app-preserved
loop-app-preserved g c = record {
  rest = first_of (search rules, grind (arith, common_steps));
  part = part_more (g.S.Store.known c.args.store.now).slot (g.S.Store.known c.loop-app.store).slot (g.S.Store.known c.clear_app.new.store).slot c.loop-app.invariant.part c.clear_app.ensures.part;
  here = c.clear_app.ensures.keeps.here;
  elsewhere = elsewhere_more c.args.env.now c.app-item.result (g.S.Store.known c.args.store.now).slot (g.S.Store.known c.loop-app.store).slot (g.S.Store.known c.clear_app.new.store).slot c.loop-app.invariant.elsewhere c.clear_app.ensures.others;
  sources = c.clear_app.ensures.keeps.sources ∙ c.loop-app.invariant.sources;
  faults = first_of (search rules, grind (arith, common_steps));
  returned = first_of (search rules, grind (arith, common_steps));
}

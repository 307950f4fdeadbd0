use Rattle.std.proofs.Common.{◌≡◌, List, ℕ, map, sym, ap, ◌∙◌, subst, AllPairs}
use Rattle.mix_compile.proofs.AppLemmas.{Differ, built_differ}
use Rattle.mix_compile.proofs.KeepLemmas.{apart_keeps, keeps_then}
use Rattle.mix_compile.proofs.settling.settle_tree.Goals as goal

pub rewrite_each-requires-clause-apart : goal.rewrite_each-requires-clause-apart
rewrite_each-requires-clause-apart g c =
    subst (AllPairs Differ) (sym (ap (map (λ app. app.now)) c.deref.ensures.value ∙ c.in_ok-built.ensures))
    (built_differ c.args.plan.now.jobs c.args.fates.now c.requires.planned.apart)

pub returns-in_err-clear_apart-clause-tree : goal.returns-in_err-clear_apart-clause-tree
returns-in_err-clear_apart-clause-tree g c =
    keeps_then c.args.plan.now.env (g.S.Store.known c.args.store.now).slot (g.S.Store.known c.rewrite_each.new.store).slot (g.S.Store.known c.clear_apart.new.store).slot
    c.rewrite_each.ensures.tree
    (apart_keeps c.args.plan.now.env _ (g.S.Store.known c.rewrite_each.new.store).slot (g.S.Store.known c.clear_apart.new.store).slot c.clear_apart.ensures.part)

pub returns-clause-tree : goal.returns-clause-tree
returns-clause-tree g c =
    keeps_then c.args.plan.now.env (g.S.Store.known c.args.store.now).slot (g.S.Store.known c.rewrite_each.new.store).slot (g.S.Store.known c.clear_apart.new.store).slot
    c.rewrite_each.ensures.tree
    (apart_keeps c.args.plan.now.env _ (g.S.Store.known c.rewrite_each.new.store).slot (g.S.Store.known c.clear_apart.new.store).slot c.clear_apart.ensures.part)

use Rattle.std.proofs.Common.{◌≡◌, ◌∙◌, ap, map, List, ℕ}
use Rattle.tree_store.specs.Known.{Known}
use Rattle.kept_tree.proofs.ClearLemmas.{apart_cleared, apart_partly, map_ok}
use Rattle.kept_tree.proofs.clearing.clear_apart.Goals as goal

pub returns-clause-cleared : goal.returns-clause-cleared
returns-clause-cleared g c =
    let stays : List (List ℕ) = map (λ name. name.now) c.args.stays.now in
    let same : (g.S.Store.known c.apps.new.self).slot ≡ (g.S.Store.known c.args.store.now).slot = ap (λ (k : Known). k.slot) c.apps.ensures.reads.same in
    map_ok c.clear_each.result _ _
    (λ clears. apart_cleared c.args.env.now stays c.in_ok-apps.apps.items c.deref.result.now (g.S.Store.known c.args.store.now).slot
    (g.S.Store.known c.apps.new.self).slot (g.S.Store.known c.clear_each.new.store).slot same (c.deref.ensures.value ∙ c.in_ok-apart.ensures)
    c.in_ok-apps.ensures.apps clears)
    c.clear_each.ensures.cleared

pub returns-clause-part : goal.returns-clause-part
returns-clause-part g c =
    let stays : List (List ℕ) = map (λ name. name.now) c.args.stays.now in
    let same : (g.S.Store.known c.apps.new.self).slot ≡ (g.S.Store.known c.args.store.now).slot = ap (λ (k : Known). k.slot) c.apps.ensures.reads.same in
    apart_partly c.args.env.now stays c.in_ok-apps.apps.items c.deref.result.now (g.S.Store.known c.args.store.now).slot
    (g.S.Store.known c.apps.new.self).slot (g.S.Store.known c.clear_each.new.store).slot same (c.deref.ensures.value ∙ c.in_ok-apart.ensures)
    c.clear_each.ensures.part

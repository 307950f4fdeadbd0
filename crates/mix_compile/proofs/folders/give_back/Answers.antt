use Rattle.std.proofs.Common.{◌≡◌, List, [], ◌∷◌, ◌++◌, map, ap, ◌∙◌, arith}
use Rattle.tree_store.specs.FolderKnown.{FolderKnown}
use Rattle.mix_compile.proofs.GiveLemmas.{Giving, giving_first, giving_last, giving_more, giving_out, giving_rose, no_items}
use Rattle.mix_compile.proofs.LendLemmas.{map_more, out_last}
use Rattle.mix_compile.proofs.folders.give_back.Goals as goal

pub giving-init : goal.giving-init
giving-init g c = giving_first (map g.S.F.Folder.known c.args.folders.items) (g.S.Store.known c.args.store.now) c.requires

pub give_back-requires : goal.give_back-requires
give_back-requires g c =
    let known = g.S.F.Folder.known in
    let is = ap (map known) c.in-Some.ensures.items ∙ map_more known c.pop.new.self.items c.in-Some.folder in
    out_last (map known c.pop.new.self.items) (known c.in-Some.folder) (g.S.Store.known c.giving.store).slot
    (giving_out (map known c.args.folders.items) (map known c.giving.folders.items) (map known c.pop.new.self.items) (known c.in-Some.folder)
    (g.S.Store.known c.args.store.now) (g.S.Store.known c.giving.store) is c.giving.invariant)

pub giving-preserved : goal.giving-preserved
giving-preserved g c =
    let known = g.S.F.Folder.known in
    let is = ap (map known) c.in-Some.ensures.items ∙ map_more known c.pop.new.self.items c.in-Some.folder in
    giving_more (map known c.args.folders.items) (map known c.giving.folders.items) (map known c.pop.new.self.items) (known c.in-Some.folder)
    (g.S.Store.known c.args.store.now) (g.S.Store.known c.giving.store) (g.S.Store.known c.give_back.new.self) is c.giving.invariant c.give_back.ensures

pub returns-clause-back : goal.returns-clause-back
returns-clause-back g c q =
    let known = g.S.F.Folder.known in
    (giving_last (map known c.args.folders.items) (map known c.giving.folders.items) (g.S.Store.known c.args.store.now) (g.S.Store.known c.giving.store) (no_items known c.giving.folders.items (omega (arith, c.in_default.ensures.cases.0, c.giving.folders.ok.0))) c.giving.invariant).whole q

pub returns-clause-rest : goal.returns-clause-rest
returns-clause-rest g c = c.giving.invariant.rest

pub returns-clause-rose : goal.returns-clause-rose
returns-clause-rose g c =
    let known = g.S.F.Folder.known in
    giving_rose (map known c.args.folders.items) (g.S.Store.known c.args.store.now) (g.S.Store.known c.giving.store)
    (giving_last (map known c.args.folders.items) (map known c.giving.folders.items) (g.S.Store.known c.args.store.now) (g.S.Store.known c.giving.store) (no_items known c.giving.folders.items (omega (arith, c.in_default.ensures.cases.0, c.giving.folders.ok.0))) c.giving.invariant)

pub returns-clause-kept : goal.returns-clause-kept
returns-clause-kept g c none = (c.giving.invariant.kept none).1

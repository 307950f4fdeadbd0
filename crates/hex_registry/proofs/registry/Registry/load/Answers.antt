use Rattle.std.proofs.Common.{◌≡◌, List, Some, Result, Err, length, slice_get, refl, sym, ap, subst, ◌∙◌, rules}
use Rattle.std.proofs.lemmas.Result.{err_from_is_err_and}
use Rattle.mx_base.specs.Blame.{Answers, fails}
use Rattle.tree_store.specs.Known.{OnlyReads, Told}
use Rattle.hex_registry.specs.Blame.{blame_of}
use Rattle.hex_registry.specs.Loaded.{IsLoaded}
use Rattle.hex_registry.specs.declared.error.RegistryError.{RegistryError}
use Rattle.hex_registry.specs.declared.shelf.Shelf.{Shelf}
use Rattle.hex_registry.proofs.LoadSteps.{begins, goes_on, has_names, loads, refuses}
use Rattle.hex_registry.proofs.registry.Registry.load.Goals as goal

pub reading-init : goal.reading-init
reading-init g c =
    begins (g.S.Store.known c.args.store.now) (g.S.Store.known c.args.store.now) c.args.wants.now c.new-shelves.result.items c.in_ok-names.names.keys
    c.len-wanted.result
    refl (search rules) (search rules) (search rules)

pub returns-in_err-stock-clause-answer : goal.returns-in_err-stock-clause-answer
returns-in_err-stock-clause-answer g c =
    let at : slice_get c.reading.names.keys (length c.reading.shelves.items) ≡ Some c.in-Some.name = search rules in
    let p = err_from_is_err_and c.from_residual-in_err-stock.result c.from_residual-in_err-stock.ensures.1 in
    subst (λ (r : Result (List Shelf) RegistryError).
    Answers blame_of r (Told (g.S.Store.known c.args.store.now) (λ files. IsLoaded files c.args.wants.now))) (sym (p.1 ∙ ap Err p.2))
    (refuses (g.S.Store.known c.args.store.now) (g.S.Store.known c.reading.store) _ c.args.wants.now c.reading.shelves.items c.reading.names.keys
    c.len-wanted.result c.in-Some.name _ _
    c.reading.invariant at (search rules) c.in_err-stock.ensures).answer

pub returns-in_err-stock-clause-reads : goal.returns-in_err-stock-clause-reads
returns-in_err-stock-clause-reads g c =
    let at : slice_get c.reading.names.keys (length c.reading.shelves.items) ≡ Some c.in-Some.name = search rules in
    let p = err_from_is_err_and c.from_residual-in_err-stock.result c.from_residual-in_err-stock.ensures.1 in
    subst (λ (r : Result (List Shelf) RegistryError).
    OnlyReads (g.S.Store.known c.args.store.now) (g.S.Store.known c.load_stock.new.store) (fails blame_of r)) (sym (p.1 ∙ ap Err p.2))
    (refuses (g.S.Store.known c.args.store.now) (g.S.Store.known c.reading.store) _ c.args.wants.now c.reading.shelves.items c.reading.names.keys
    c.len-wanted.result c.in-Some.name _ _
    c.reading.invariant at (search rules) c.in_err-stock.ensures).reads

pub reading-preserved : goal.reading-preserved
reading-preserved g c =
    let at : slice_get c.reading.names.keys (length c.reading.shelves.items) ≡ Some c.in-Some.name = search rules in
    goes_on (g.S.Store.known c.args.store.now) (g.S.Store.known c.reading.store) _ c.args.wants.now c.reading.shelves.items _ c.reading.names.keys _
    c.len-wanted.result c.in-Some.name c.in_ok-stock.stock _
    c.reading.invariant at (search rules) c.in_ok-stock.ensures (search rules) (search rules)

pub invariant_of-result : goal.invariant_of-result
invariant_of-result g c = (
  has_names (g.S.Store.known c.args.store.now) (g.S.Store.known c.reading.store) c.args.wants.now c.reading.shelves.items c.reading.names.keys
      c.len-wanted.result c.reading.invariant (search rules),
  tt,
)

pub returns-clause-answer : goal.returns-clause-answer
returns-clause-answer g c =
    (loads (g.S.Store.known c.args.store.now) (g.S.Store.known c.reading.store) c.args.wants.now c.reading.shelves.items c.reading.names.keys
    c.len-wanted.result c.reading.invariant (search rules)).answer

pub returns-clause-reads : goal.returns-clause-reads
returns-clause-reads g c =
    (loads (g.S.Store.known c.args.store.now) (g.S.Store.known c.reading.store) c.args.wants.now c.reading.shelves.items c.reading.names.keys
    c.len-wanted.result c.reading.invariant (search rules)).reads

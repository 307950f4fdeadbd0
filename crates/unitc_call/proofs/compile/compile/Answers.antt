use Rattle.std.proofs.Common.{◌≡◌, refl, sym, subst}
use Rattle.tree_store.specs.declared.key.BuildKey.{BuildKey}
use Rattle.tree_store.specs.Known.{Known}
use Rattle.tree_store.specs.Slot.{emptied_slot}
use Rattle.unitc_call.specs.Reading.{own_build}
use Rattle.unitc_call.proofs.CompileLemmas.{empty_then, is_compiled}
use Rattle.unitc_call.proofs.compile.compile.Goals as goal

pub fill-requires-clause-empty : goal.fill-requires-clause-empty
fill-requires-clause-empty g c =
    let key : BuildKey = own_build c.args.task.now in
    subst (λ (k : Known). k.slot key ≡ emptied_slot (k.slot key)) (sym c.in_ok-outcome.ensures.reads)
    (empty_then key (g.S.Store.known c.args.store.now).slot (g.S.Store.known c.clear_app.new.store).slot c.in_ok-clear_app.ensures.cleared)

pub returns-clause-compiled : goal.returns-clause-compiled
returns-clause-compiled g c =
    is_compiled c.args.task.now (g.S.Store.known c.args.store.now) (g.S.Store.known c.clear_app.new.store) (g.S.Store.known c.outcome.new.store)
    (g.S.Store.known c.fill.new.store) c.in_ok-outcome.outcome _ c.in_ok-clear_app.ensures.keeps.sources c.in_ok-clear_app.ensures.cleared
    c.in_ok-clear_app.ensures.counts c.in_ok-outcome.ensures.read c.in_ok-outcome.ensures.reads c.in_ok-fill.ensures.filled c.in_ok-fill.ensures.counts refl refl

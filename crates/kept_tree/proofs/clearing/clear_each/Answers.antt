use Rattle.std.proofs.Common.{◌<◌, ◌∙◌, length, arith}
use Rattle.kept_tree.proofs.ClearLemmas.{cleared_app, partly_app}
use Rattle.kept_tree.proofs.clearing.clear_each.Goals as goal

pub returns-in_err-clear_app-clause-part : goal.returns-in_err-clear_app-clause-part
returns-in_err-clear_app-clause-part g c =
    let within : c.loop-app.app-index < length c.args.apps.now = omega arith in
    partly_app c.args.env.now c.args.apps.now c.loop-app.app-index c.app-item.result (g.S.Store.known c.args.store.now).slot
    (g.S.Store.known c.loop-app.store).slot (g.S.Store.known c.clear_app.new.store).slot within c.app-item.is c.loop-app.invariant.part
    c.clear_app.ensures.part

pub loop-app-preserved : goal.loop-app-preserved
loop-app-preserved g c =
    let within : c.loop-app.app-index < length c.args.apps.now = omega arith in
    record {
      cleared = cleared_app c.args.env.now c.args.apps.now c.loop-app.app-index c.app-item.result (g.S.Store.known c.args.store.now).slot
          (g.S.Store.known c.loop-app.store).slot (g.S.Store.known c.clear_app.new.store).slot within c.app-item.is c.loop-app.invariant.cleared
          c.in_ok-clear_app.ensures.cleared;
      part = partly_app c.args.env.now c.args.apps.now c.loop-app.app-index c.app-item.result (g.S.Store.known c.args.store.now).slot
          (g.S.Store.known c.loop-app.store).slot (g.S.Store.known c.clear_app.new.store).slot within c.app-item.is c.loop-app.invariant.part
          c.clear_app.ensures.part;
      here = c.clear_app.ensures.keeps.here;
      sources = c.clear_app.ensures.keeps.sources ∙ c.loop-app.invariant.sources;
      faults = c.in_ok-clear_app.ensures.counts.0 ∙ c.loop-app.invariant.faults;
      returned = c.in_ok-clear_app.ensures.counts.1 ∙ c.loop-app.invariant.returned;
    }

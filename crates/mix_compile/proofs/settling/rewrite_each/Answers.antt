use Rattle.std.proofs.Common.{◌≡◌, ◌<◌, ◌∙◌, length, map, List, arith, ap}
use Rattle.std.proofs.lemmas.List.{length-map}
use Rattle.mix_compile.proofs.KeepLemmas.{keeps_then, named_at, rewriting_keeps, rewritten_more}
use Rattle.mix_compile.proofs.settling.rewrite_each.Goals as goal

pub returns-in_err-rewrite-clause-tree : goal.returns-in_err-rewrite-clause-tree
returns-in_err-rewrite-clause-tree g c =
    keeps_then c.args.env.now (g.S.Store.known c.args.store.now).slot (g.S.Store.known c.loop-app.store).slot (g.S.Store.known c.rewrite.new.store).slot
    c.loop-app.invariant.tree
    (rewriting_keeps c.args.env.now c.app-item.result.now (g.S.Store.known c.loop-app.store).slot (g.S.Store.known c.rewrite.new.store).slot
    c.rewrite.ensures.part c.rewrite.ensures.others)

pub loop-app-preserved : goal.loop-app-preserved
loop-app-preserved g c =
    let apps = c.args.apps.now in
    let within : c.loop-app.app-index < length apps = omega arith in
    let many : c.loop-app.app-index < length (map (λ app. app.now) apps) = omega (arith, within, length-map apps (λ app. app.now)) in
    record {
      rewritten = rewritten_more c.args.env.now (map (λ app. app.now) apps) c.loop-app.app-index c.app-item.result.now (g.S.Store.known c.args.store.now).slot
          (g.S.Store.known c.loop-app.store).slot (g.S.Store.known c.rewrite.new.store).slot many (named_at (λ app. app.now) apps c.loop-app.app-index c.app-item.result within c.app-item.is) c.requires.apart c.loop-app.invariant.rewritten
          c.in_ok-rewrite.ensures.rewritten c.rewrite.ensures.others;
      tree = keeps_then c.args.env.now (g.S.Store.known c.args.store.now).slot (g.S.Store.known c.loop-app.store).slot (g.S.Store.known c.rewrite.new.store).slot
          c.loop-app.invariant.tree
          (rewriting_keeps c.args.env.now c.app-item.result.now (g.S.Store.known c.loop-app.store).slot (g.S.Store.known c.rewrite.new.store).slot
          c.rewrite.ensures.part c.rewrite.ensures.others);
      here = c.rewrite.ensures.keeps.here;
      sources = c.rewrite.ensures.keeps.sources ∙ c.loop-app.invariant.sources;
      faults = c.in_ok-rewrite.ensures.counts.0 ∙ c.loop-app.invariant.faults;
      returned = c.in_ok-rewrite.ensures.counts.1 ∙ c.loop-app.invariant.returned;
    }

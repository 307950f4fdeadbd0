use Rattle.std.proofs.Common.{◌≡◌, ℕ, ◌+◌, ◌<◌, List, Err, IfSome, length, take, get_or, sym, ◌∙◌, subst}
use Rattle.std.specs.List.{AllZip, Contains}
use Rattle.std.proofs.lemmas.List.Elements.{Contains-get_or}
use Rattle.std.proofs.lemmas.Result.{err_from_is_err_and}
use Rattle.tree_store.specs.Known.{Known}
use Rattle.dep_rows.specs.declared.row.Row.{Row}
use Rattle.build_plan.specs.declared.found.Found.{Found}
use Rattle.build_plan.specs.Dependencies.{AreChildren}
use Rattle.build_plan.specs.Found.{IsFoundAt}
use Rattle.build_plan.specs.Kept.{AreKept, IsFoundIn}
use Rattle.build_plan.proofs.ReadLemmas.{all_same}
use Rattle.build_plan.proofs.VersionLemmas.{zip_more}
use Rattle.build_plan.proofs.WinnerLemmas.{found_at, found_more, winner_refused, winner_stands}
use Rattle.build_plan.proofs.dependencies.found_for.Goals as goal

pub bounds-all-winner : goal.bounds-all-winner
bounds-all-winner g c =
    let items = c.winners-winner-items.result.now in
    let place = get_or items c.loop-winner.winner-index 0 in
    let rows = c.args.rows.now in
    let among : Contains rows.winners place = subst (λ (ws : List ℕ). Contains ws place) c.winners-winner-items.ensures.winners (Contains-get_or items c.loop-winner.winner-index 0 c.loop-winner-test.true) in
    subst (λ (rs : List Row). place < length rs) (sym c.rows-all.ensures.rows) (winner_stands rows.rows rows.winners place c.rows-all.ensures.within.well_formed.winning among)

pub returns-in_err-take-clause-answer : goal.returns-in_err-take-clause-answer
returns-in_err-take-clause-answer g c =
    let told = (g.S.Store.known c.args.manifests.now.store.now).sources in
    let items = c.winners-winner-items.result.now in
    let place = get_or items c.loop-winner.winner-index 0 in
    let rows = c.args.rows.now in
    let row = c.index-all-winner.result in
    let error = c.in_err-take.field-0.0 in
    let among : Contains rows.winners place = subst (λ (ws : List ℕ). Contains ws place) c.winners-winner-items.ensures.winners (Contains-get_or items c.loop-winner.winner-index 0 c.loop-winner-test.true) in
    let below = winner_stands rows.rows rows.winners place c.rows-all.ensures.within.well_formed.winning among in
    let is = subst (λ (rs : List Row). row ≡ get_or rs place row) c.rows-all.ensures.rows c.index-all-winner.is in
    let p = err_from_is_err_and c.from_residual.result c.from_residual.ensures.1 in
    rw (p.1, p.2) (λ input.
    winner_refused told rows place row error among below is
    (subst (λ (k : Known). IfSome k.sources (λ files. AreChildren files row.app row.decl (Err error))) c.loop-winner.invariant.same (c.in_err-take.ensures.answer input)))

pub loop-winner-preserved : goal.loop-winner-preserved
loop-winner-preserved g c =
    let told = (g.S.Store.known c.args.manifests.now.store.now).sources in
    let at = c.loop-winner in
    let i = at.winner-index in
    let items = c.winners-winner-items.result.now in
    let place = get_or items i 0 in
    let rows = c.args.rows.now in
    let row = c.index-all-winner.result in
    let found = c.in_ok-take.field-0 in
    let among : Contains rows.winners place = subst (λ (ws : List ℕ). Contains ws place) c.winners-winner-items.ensures.winners (Contains-get_or items i 0 c.loop-winner-test.true) in
    let below = winner_stands rows.rows rows.winners place c.rows-all.ensures.within.well_formed.winning among in
    let is = subst (λ (rs : List Row). row ≡ get_or rs place row) c.rows-all.ensures.rows c.index-all-winner.is in
    let here = found_at rows.rows place row found below is c.in_ok-take.ensures.answer.0 c.in_ok-take.ensures.answer.1.sound in
    let within = subst (λ (ws : List ℕ). i < length ws) c.winners-winner-items.ensures.winners c.loop-winner-test.true in
    record {
      at = subst (λ (fs : List Found). AllZip (IsFoundAt rows.rows) (take (i + 1) rows.winners) fs) (sym c.in_ok-push.ensures.items)
          (zip_more (IsFoundAt rows.rows) rows.winners at.found.items i 0 found within at.invariant.at
          (subst (λ (ws : List ℕ). IsFoundAt rows.rows (get_or ws i 0) found) c.winners-winner-items.ensures.winners here));
      found = found_more told at.found.items c.push.new.self.items found c.in_ok-push.ensures.items at.invariant.found
          (subst (λ (k : Known). IsFoundIn k.sources found.dir found) at.invariant.same c.in_ok-take.ensures.answer.1).says;
      kept = subst (λ (k : Known). AreKept k.sources c.take.new.self.found.now) at.invariant.same c.in_ok-take.ensures.kept;
      same_reference = c.in_ok-take.ensures.same_reference ∙ at.invariant.same_reference;
      same = all_same c.in_ok-take.ensures.reads ∙ at.invariant.same;
    }

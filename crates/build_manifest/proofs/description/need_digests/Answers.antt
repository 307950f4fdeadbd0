use Rattle.std.proofs.Common.{◌≡◌, ℕ, ◌+◌, ◌<◌, List, [], ◌∷◌, ◌++◌, length, drop, get_or, sym, ◌∙◌, ap, subst, arith, append_assoc}
use Rattle.std.specs.List.{All}
use Rattle.std.proofs.lemmas.List.{append-nil}
use Rattle.std.proofs.lemmas.List.Elements.{All-push}
use Rattle.reading.specs.Field.{FitInTurn}
use Rattle.compile_model.specs.declared.outcome.Outcome.{Outcome}
use Rattle.build_manifest.specs.Description.{need_digests}
use Rattle.build_manifest.specs.Mark.{Need, NeedFits}
use Rattle.build_manifest.proofs.MarkOfLemmas.{NeedSound, need_pushed, needs_fit, no_need_left}
use Rattle.build_manifest.proofs.description.need_digests.Goals as goal

pub loop-at-preserved : goal.loop-at-preserved
loop-at-preserved c =
    let apps = c.args.input.now.job.now.need_apps in
    let outcomes = c.args.input.now.needs.now in
    let at = c.loop-at.at in
    let app = c.app-item.result in
    let outcome = c.index-input-at.result in
    let made = c.loop-at.made in
    let held = c.loop-at.invariant in
    let rest = need_digests (drop (at + 1) apps) (drop (at + 1) outcomes) in
    let below : at < length apps = omega (arith, c.loop-at-test.true, ap length c.as_slice-app-items.ensures) in
    let low : at < length outcomes = omega (arith, below, c.requires.each) in
    let is : app ≡ get_or apps at app = c.app-item.is ∙ ap (λ (xs : List (List ℕ)). get_or xs at app) c.as_slice-app-items.ensures in
    let need = c.in_ok-need_of.ensures.is ∙ ap (λ (o : Outcome). (o.digest, app)) (c.get.ensures ∙ sym c.index-input-at.is) in
    let sound = All-push NeedSound made c.in_ok-need_of.field-0 held.sound c.in_ok-need_of.ensures.sound in
    record {
      made =
          ap (λ (ns : List Need). ns ++ rest) c.in_ok-push.ensures.ok
          ∙ append_assoc made (c.in_ok-need_of.field-0 ∷ []) rest
          ∙ ap (λ (n : Need). made ++ n ∷ rest) need
          ∙ ap (λ (ns : List Need). made ++ ns) (sym (need_pushed apps outcomes at app outcome below low is c.index-input-at.is))
          ∙ held.made;
      sound = subst (All NeedSound) (sym {A = List Need} c.in_ok-push.ensures.ok) sound;
    }

pub returns-clause-fit : goal.returns-clause-fit
returns-clause-fit c =
    let apps = c.args.input.now.job.now.need_apps in
    let outcomes = c.args.input.now.needs.now in
    let at = c.loop-at.at in
    let made = c.loop-at.made in
    let end : at ≡ length apps = omega (arith, ap length c.as_slice-app-items.ensures) in
    let all : made ≡ need_digests apps outcomes =
    sym (append-nil made) ∙ ap (λ (ns : List Need). made ++ ns) (sym (no_need_left apps outcomes at end)) ∙ c.loop-at.invariant.made in
    subst (FitInTurn NeedFits []) (sym all) (needs_fit apps outcomes c.requires.apart (subst (All NeedSound) all c.loop-at.invariant.sound))

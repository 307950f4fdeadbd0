use Rattle.std.proofs.Common.{◌≡◌, ◌≤◌, ◌+◌, ℕ, List, [], ◌∷◌, ◌++◌, add-one, length, length-append, map, sym, ◌∙◌, ap, subst, arith}
use Rattle.std.specs.List.{All}
use Rattle.std.proofs.lemmas.List.{map-append}
use Rattle.std.proofs.lemmas.List.Elements.{All-push}
use Rattle.unit_gen.specs.declared.dependency.Dependency.{Dependency}
use Rattle.unit_gen.specs.Dependency.{asked, begins, drawn, drawn_after}
use Rattle.unit_gen.specs.Seen.{seen}
use Rattle.unit_gen.specs.Stream.{number_at}
use Rattle.unit_gen.proofs.DrawLemmas.{dependencies_push}
use Rattle.unit_gen.proofs.dependency.draw_all.Goals as goal

pub loop-before-preserved : goal.loop-before-preserved
loop-before-preserved c =
    let start : ℕ = c.args.start in
    let before : ℕ = c.loop-before.before in
    let old : List Dependency = c.loop-before.all.items in
    let one : Dependency = c.in_ok-draw.field-0 in
    let pushed : c.push.new.self.items ≡ old ++ one ∷ [] = c.in_ok-push.ensures.items in
    let next : seen one ≡ drawn_after start before = c.in_ok-draw.ensures.drawn ∙ ap (λ (s : ℕ). drawn s (before + 1)) c.loop-before.invariant.on in
    let counted = c.loop-before.invariant.count in
    let longer = ap length pushed ∙ length-append old (one ∷ []) in
    record {
      all = ap (map seen) pushed ∙ map-append seen old (one ∷ []) ∙ (λ i. c.loop-before.invariant.all i ++ next i ∷ []) ∙ sym (dependencies_push start before);
      count = omega (arith, longer, counted);
      few = subst (All (λ (d : Dependency). length d.needs.items ≤ 3)) (sym pushed)
          (All-push (λ (d : Dependency). length d.needs.items ≤ 3) old one c.loop-before.invariant.few c.in_ok-draw.ensures.few);
      on = c.in_ok-draw.ensures.on ∙ ap (λ (s : ℕ). number_at s (asked s (before + 1) + 2)) c.loop-before.invariant.on ∙ sym (ap (begins start) (add-one before));
    }

use Rattle.std.proofs.Common.{◌≡◌, ◌≤◌, ◌+◌, ◌%◌, ◌-◌, ℕ, Bool, List, [], ◌∷◌, ◌++◌, cond, length, length-append, sym, ◌∙◌, ap, arith}
use Rattle.unit_gen.specs.Dependency.{need_of}
use Rattle.unit_gen.specs.Stream.{draw_at, step}
use Rattle.unit_gen.proofs.DrawLemmas.{needs_more}
use Rattle.unit_gen.proofs.FirstLemmas.{has}
use Rattle.unit_gen.proofs.StreamLemmas.{number_next}
use Rattle.unit_gen.proofs.dependency.draw_needs.Goals as goal
use Rattle.unit_gen.proofs.dependency.draw_needs.Goals.{then-not-contains+in_ok-push, else-not-contains}

pub loop-place-preserved : goal.loop-place-preserved
loop-place-preserved c =
    let x : ℕ = c.args.stream.now in
    let place : ℕ = c.loop-place.place in
    let old : List ℕ = c.loop-place.needs.items in
    let need : ℕ = need_of c.args.number c.draw.result in
    let before = c.loop-place.invariant.few in
    let made : c.if-not-contains.needs.items ≡ cond c.contains.result old (old ++ need ∷ []) =
    elim c.if-not-contains.branch [
      | then-not-contains+in_ok-push w ↦
          ap (λ v. v.items) w.needs-is ∙ w.in_ok-push.ensures.items ∙ ap (λ (b : Bool). cond b old (old ++ need ∷ [])) (sym w.if-not-contains.true)
      | else-not-contains w ↦ ap (λ v. v.items) w.needs-is ∙ ap (λ (b : Bool). cond b old (old ++ need ∷ [])) (sym w.if-not-contains.false)
    ] in
    let few : length c.if-not-contains.needs.items ≤ place + 1 =
    elim c.if-not-contains.branch [
      | then-not-contains+in_ok-push w ↦
          let pushed = ap length (ap (λ v. v.items) w.needs-is ∙ w.in_ok-push.ensures.items) ∙ length-append old (need ∷ []) in
          omega (arith, pushed, before)
      | else-not-contains w ↦ let same = ap (λ v. length v.items) w.needs-is in omega (arith, same, before)
    ] in
    record {
      needs = needs_more c.args.number x place old c.if-not-contains.needs.items c.draw.result c.contains.result c.loop-place.invariant.needs
          (c.draw.ensures.drawn ∙ ap (λ (s : ℕ). draw_at s 0) c.loop-place.invariant.on)
          (c.contains.ensures.value ∙ ap (λ (ns : List ℕ). has need ns) c.deref.ensures.value) made;
      on = c.draw.ensures.on ∙ ap step c.loop-place.invariant.on ∙ sym (number_next x place);
      few = few;
    }

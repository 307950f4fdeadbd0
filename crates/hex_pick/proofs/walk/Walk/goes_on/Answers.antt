use Rattle.std.proofs.Common.{◌≡◌, ℕ, ◌+◌, List, [], Option, Some, None, IfNone, refl, sym, ap, subst, ◌∙◌, arith, unwrap_or}
use Rattle.hex_registry.specs.Picks.{without_package}
use Rattle.hex_pick.specs.Problem.{problem_of}
use Rattle.hex_pick.specs.Walking.{NoFit, SaysFit, WentOn}
use Rattle.hex_pick.specs.declared.walk.Walk.{Walk}
use Rattle.hex_pick.proofs.WalkLemmas.{has_decided, has_ended, has_gone_back}
use Rattle.hex_pick.proofs.walk.Walk.goes_on.Goals as goal

pub returns-in-Some : goal.returns-in-Some
returns-in-Some c = (
  c.in_ok-decides.ensures.count ∙ ap (λ (n : ℕ). n + 1) c.back.invariant.count,
  λ candidates tried. has_decided (problem_of c.args.registry.now c.args.wants.now candidates) c.back.self c.decides.new.self c.back.step c.in-Some.at
      (c.back.invariant.stands candidates tried)
      (subst (λ (r : Option ℕ). SaysFit c.args.registry.now c.args.wants.now c.back.self.pick c.back.step r) c.in-Some.is c.in_ok-at.ensures)
      c.in_ok-decides.ensures.pick c.in_ok-decides.ensures.steps c.in_ok-decides.ensures.count c.in_ok-decides.ensures.dead,
)

pub back-preserved : goal.back-preserved
back-preserved c =
    let unfit : NoFit c.args.registry.now c.args.wants.now c.back.self.pick c.back.step = subst
    (λ (r : Option ℕ). SaysFit c.args.registry.now c.args.wants.now c.back.self.pick c.back.step r) c.in_default.is c.in_ok-at.ensures in
    record {
      stands = λ candidates tried. has_gone_back
          (problem_of c.args.registry.now c.args.wants.now candidates) c.back.self c.goes_back.new.self c.back.step c.in-Some-goes_back.last
          (c.back.invariant.stands candidates tried) unfit
          (sym (ap (λ (w : Walk). w.steps.items) c.in_ok-notes.ensures.noted) ∙ c.in-Some-goes_back.ensures.last)
          (c.in-Some-goes_back.ensures.pick ∙ ap (λ (w : Walk). without_package w.pick c.in-Some-goes_back.last.name) c.in_ok-notes.ensures.noted)
          (c.in-Some-goes_back.ensures.count ∙ ap (λ (w : Walk). w.count) c.in_ok-notes.ensures.noted)
          (c.in-Some-goes_back.ensures.dead ∙ ap (λ (w : Walk). w.dead) c.in_ok-notes.ensures.noted);
      count = c.in-Some-goes_back.ensures.count ∙ ap (λ (w : Walk). w.count) c.in_ok-notes.ensures.noted ∙ c.back.invariant.count;
    }

pub returns-in-None : goal.returns-in-None
returns-in-None c =
    let unfit : NoFit c.args.registry.now c.args.wants.now c.back.self.pick c.back.step = subst
    (λ (r : Option ℕ). SaysFit c.args.registry.now c.args.wants.now c.back.self.pick c.back.step r) c.in_default.is c.in_ok-at.ensures in
    let dead : c.take.result ≡ Some (unwrap_or c.back.self.dead c.back.step.name) = c.take.ensures.value ∙ c.in-None.ensures.dead
    ∙ ap (λ (w : Walk). w.dead) c.in_ok-notes.ensures.noted in
    subst (λ (o : Option (List ℕ)). WentOn c.args.registry.now c.args.wants.now c.args.self.now
    (record { pick = c.goes_back.new.self.pick; steps = c.goes_back.new.self.steps; count = c.goes_back.new.self.count; dead = c.take.new.self }) o)
    (sym dead)
    (λ candidates tried limit few. has_ended (problem_of c.args.registry.now c.args.wants.now candidates) c.back.self c.back.step limit tried
    (c.back.invariant.stands candidates tried) unfit
    (sym (ap (λ (w : Walk). w.steps.items) c.in_ok-notes.ensures.noted) ∙ c.in-None.ensures.none)
    (let same = c.back.invariant.count in omega (arith, few, same)))

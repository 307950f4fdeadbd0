use Rattle.std.proofs.Common.{◌≡◌, ℕ, List, Option, Some, None, option_copied, refl, sym, ap, subst, ◌∙◌, arith}
use Rattle.hex_registry.specs.Shelves.{stock_of}
use Rattle.hex_registry.proofs.OneOrder.{one_order_of}
use Rattle.hex_pick.specs.Outcome.IsOutcome.{picked, no_pick, too_many}
use Rattle.hex_pick.specs.Problem.{locked_of, next_needed, problem_of}
use Rattle.hex_pick.specs.Walking.{WentOn}
use Rattle.hex_pick.proofs.WalkLemmas.{has_begun, is_past, is_picked, stands_by}
use Rattle.hex_pick.proofs.search.pick_within.Goals as goal

pub walk-init : goal.walk-init
walk-init c = record {
  comes = λ candidates tried. has_begun (problem_of c.args.registry.now c.args.wants.now candidates)
      (record { pick = c.new.result; steps = c.new-2.result; count = 0; dead = None }) c.new.ensures c.new-2.ensures.items refl refl;
  few = omega arith;
}

pub returns-then-walk-limit : goal.returns-then-walk-limit
returns-then-walk-limit c = λ input candidates tried.
    too_many (is_past (problem_of c.args.registry.now c.args.wants.now candidates) c.walk.walk c.args.limit c.in-Some.name.now
    (c.walk.invariant.comes candidates tried) (sym c.first_missing.ensures ∙ ap option_copied c.in-Some.is) c.if-walk-limit.true)

pub goes_on-requires-clause-stands : goal.goes_on-requires-clause-stands
goes_on-requires-clause-stands c = λ candidates tried.
    stands_by (problem_of c.args.registry.now c.args.wants.now candidates) c.walk.walk c.in_ok-step.step (c.walk.invariant.comes candidates tried)
    (sym c.first_missing.ensures ∙ ap option_copied c.in-Some.is ∙ ap Some (sym c.in_ok-step.ensures.name)) c.in_ok-step.ensures.next
    (one_order_of (stock_of c.args.registry.now c.in-Some.name.now) (locked_of c.args.wants.now.locked c.in-Some.name.now) c.in_ok-step.step.candidates.items
    (candidates c.in-Some.name.now) c.in_ok-step.ensures.candidates (tried c.in-Some.name.now)
    ∙ ap candidates (sym c.in_ok-step.ensures.name))

pub returns-in-Some-2 : goal.returns-in-Some-2
returns-in-Some-2 c = λ input candidates tried.
    let ended =
    subst (λ (o : Option (List ℕ)). WentOn c.args.registry.now c.args.wants.now c.walk.walk c.goes_on.new.self o) c.in-Some-2.is c.in_ok-package.ensures in
    no_pick (ended candidates tried c.args.limit c.if-walk-limit.false)

pub returns : goal.returns
returns c = λ candidates tried.
    (let k = is_picked (problem_of c.args.registry.now c.args.wants.now candidates) c.walk.walk c.args.limit tried (c.walk.invariant.comes candidates tried)
    (sym c.first_missing.ensures ∙ ap option_copied c.in_default.is) c.walk.invariant.few in
    picked k.0 k.1)

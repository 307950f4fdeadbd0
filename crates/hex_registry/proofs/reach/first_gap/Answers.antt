use Rattle.std.proofs.Common.{◌≡◌, true, false, sym, ◌∙◌, arith, rules}
use Rattle.hex_registry.proofs.GapLemmas.{all_there, first_gap_is}
use Rattle.hex_registry.proofs.reach.first_gap.Goals as goal

pub returns-then-not-stands_at-clause-gap : goal.returns-then-not-stands_at-clause-gap
returns-then-not-stands_at-clause-gap c =
    let lacks : c.stands_at.result ≡ false = search rules in
    first_gap_is c.args.places.now c.args.count c.loop-place.place c.requires.in_order c.loop-place.invariant
    (λ e. let clash : true ≡ false = sym (c.stands_at.ensures.1 e) ∙ lacks in cc) c.loop-place-test.true

pub returns-clause-none : goal.returns-clause-none
returns-clause-none c =
    let past = c.loop-place-test.false in
    all_there c.args.places.now c.args.count (λ k less. c.loop-place.invariant k (omega (arith, less, past)))

use Rattle.std.proofs.Common.{refl, arith}
use Rattle.unit_lang.proofs.FileOutcomes.{unitless_rest, unitless_with, none_left}
use Rattle.unit_lang.proofs.parse.lacks_unit_line.Goals as goal

pub loop-rest-init : goal.loop-rest-init
loop-rest-init c = record { on = λ none. none; back = λ none. none }

pub loop-rest-preserved : goal.loop-rest-preserved
loop-rest-preserved c =
    let h = rw c.in-Some.is at c.loop-rest.invariant in
    record {
      on = λ none. (unitless_rest _ _ _ c.first_line.ensures.lines (h.on none)).1;
      back = λ none. h.back (unitless_with _ _ _ c.first_line.ensures.lines (λ n. let e = c.is_unit_line.ensures.1 n in cc) none);
    }

pub loop-rest-smaller : goal.loop-rest-smaller
loop-rest-smaller c = rw c.in-Some.is (omega (arith, c.first_line.ensures.shorter))

pub returns-then-is_unit_line : goal.returns-then-is_unit_line
returns-then-is_unit_line c =
    let h = rw c.in-Some.is at c.loop-rest.invariant in
    (λ no. absurd (cc), λ none. absurd ((unitless_rest _ _ _ c.first_line.ensures.lines (h.on none)).0 (c.is_unit_line.ensures.0 (cc))))

pub returns : goal.returns
returns c =
    let e = none_left c.loop-rest.rest c.in_default.not-Some in
    let h = rw e at c.loop-rest.invariant in
    (λ _. h.back tt, λ _. refl)

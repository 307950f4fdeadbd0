use Rattle.std.proofs.Common.{◌≡◌, ℕ, ◌++◌, length, drop, refl, sym, ap, ◌∙◌, subst, arith, decimal, slice_index}
use Rattle.std.proofs.lemmas.List.{take_rest}
use Rattle.reading.specs.Field.{Stops}
use Rattle.reading.specs.Plain.{IsBelow, number_text}
use Rattle.build_manifest.specs.Mark.{limit}
use Rattle.reading.specs.declared.stuck.Stuck.{Stuck}
use Rattle.build_manifest.proofs.FieldLemmas.{digits_stuck, one_digit_more}
use Rattle.build_manifest.proofs.fields.read_digits.Goals as goal

pub returns-in_default : goal.returns-in_default
returns-in_default c =
    let text = c.args.text.now in
    let from = decimal c.args.first ++ text in
    let e : c.stuck_at.result.left ≡ length (drop c.digits.i text) =
    ap (λ (s : Stuck). s.left) c.stuck_at.ensures ∙ ap length (take_rest text c.digits.i) in
    subst (λ (n : ℕ). Stops (number_text c.args.end) (IsBelow limit) from n) (sym e)
    (digits_stuck from text c.digits.i c.digits.value c.args.end c.digits.invariant
    (λ inside. ((λ same. absurd (omega arith)), c.in_default.ensures.none)))

pub digits-preserved : goal.digits-preserved
digits-preserved c =
    let text = c.args.text.now in
    let some = c.in-Some.ensures.some in
    one_digit_more (decimal c.args.first ++ text) text c.digits.i c.digits.value (slice_index text c.digits.i) c.in-Some.more c.digits.invariant
    c.digits-test.true refl some.0 some.1 some.2 some.3 some.4

pub returns : goal.returns
returns c =
    let text = c.args.text.now in
    let from = decimal c.args.first ++ text in
    let at : length text ≡ c.digits.i = omega arith in
    let e : c.stuck_at-2.result.left ≡ length (drop c.digits.i text) =
    ap (λ (s : Stuck). s.left) c.stuck_at-2.ensures ∙ ap length (take_rest text (length text)) ∙ ap (λ (n : ℕ). length (drop n text)) at in
    subst (λ (n : ℕ). Stops (number_text c.args.end) (IsBelow limit) from n) (sym e)
    (digits_stuck from text c.digits.i c.digits.value c.args.end c.digits.invariant (λ inside. absurd (omega arith)))

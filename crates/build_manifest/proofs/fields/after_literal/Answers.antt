use Rattle.std.proofs.Common.{◌≡◌, ℕ, length, drop, sym, ap, ◌∙◌, subst, arith}
use Rattle.std.proofs.lemmas.List.{take_rest}
use Rattle.reading.specs.Field.{Stops}
use Rattle.reading.specs.Plain.{Always, literal_text}
use Rattle.reading.specs.declared.stuck.Stuck.{Stuck}
use Rattle.build_manifest.proofs.FieldLemmas.{literal_stuck}
use Rattle.build_manifest.proofs.fields.after_literal.Goals as goal

pub returns-then-i-text : goal.returns-then-i-text
returns-then-i-text c =
    let text = c.args.text.now in
    let e : c.stuck_at.result.left ≡ length (drop c.bytes.i text) =
    ap (λ (s : Stuck). s.left) c.stuck_at.ensures ∙ ap length (take_rest text c.bytes.i) in
    subst (λ (n : ℕ). Stops {A = Unit {0}} (literal_text c.args.literal.now) (Always {A = Unit {0}}) text n) (sym e)
    (literal_stuck c.args.literal.now text c.bytes.i c.bytes-test.true c.bytes.invariant.0 c.bytes.invariant.1 (λ inside same. absurd (omega arith)))

pub returns-then-text-i : goal.returns-then-text-i
returns-then-text-i c =
    let text = c.args.text.now in
    let e : c.stuck_at-then-text-i.result.left ≡ length (drop c.bytes.i text) =
    ap (λ (s : Stuck). s.left) c.stuck_at-then-text-i.ensures ∙ ap length (take_rest text c.bytes.i) in
    subst (λ (n : ℕ). Stops {A = Unit {0}} (literal_text c.args.literal.now) (Always {A = Unit {0}}) text n) (sym e)
    (literal_stuck c.args.literal.now text c.bytes.i c.bytes-test.true c.bytes.invariant.0 c.bytes.invariant.1 (λ inside same. absurd (omega arith)))

use Rattle.std.proofs.Common.{ℕ, List, length, get_or, sym, ap, subst, arith}
use Rattle.reading.specs.Field.{Stops}
use Rattle.reading.specs.declared.stuck.Stuck.{Stuck}
use Rattle.build_manifest.specs.Fields.{IsByte, byte_text}
use Rattle.build_manifest.proofs.DigestLemmas.{IsNoHex, first_stops_byte, second_stuck, two_digits}
use Rattle.build_manifest.proofs.digits.read_byte.Goals as goal

pub returns-in_default : goal.returns-in_default
returns-in_default c =
    let text = c.args.text.now in
    subst (λ (n : ℕ). Stops byte_text IsByte text n) (sym (ap (λ (s : Stuck). s.left) c.stuck_at.ensures))
    (first_stops_byte text (λ next others e. absurd (omega (arith, ap length e))))

pub returns-in_default-digit_value : goal.returns-in_default-digit_value
returns-in_default-digit_value c =
    let text = c.args.text.now in
    subst (λ (n : ℕ). Stops byte_text IsByte text n) (sym (ap (λ (s : Stuck). s.left) c.stuck_at-in_default-digit_value.ensures))
    (first_stops_byte text (λ next others e.
    subst (λ (b : ℕ). IsNoHex b) (ap (λ (t : List ℕ). get_or t 0 0) e) c.in_default-digit_value.ensures.none))

pub returns-in_default-after : goal.returns-in_default-after
returns-in_default-after c =
    let text = c.args.text.now in
    subst (λ (n : ℕ). Stops byte_text IsByte text n) (sym (ap (λ (s : Stuck). s.left) c.stuck_at-in_default-after.ensures))
    (second_stuck text c.in-Some.high (omega arith) c.in-Some.ensures.some (λ next others e. absurd (omega (arith, ap length e))))

pub returns-in_default-digit_value-2 : goal.returns-in_default-digit_value-2
returns-in_default-digit_value-2 c =
    let text = c.args.text.now in
    subst (λ (n : ℕ). Stops byte_text IsByte text n) (sym (ap (λ (s : Stuck). s.left) c.stuck_at-in_default-digit_value-2.ensures))
    (second_stuck text c.in-Some.high (omega arith) c.in-Some.ensures.some (λ next others e.
    subst (λ (b : ℕ). IsNoHex b) (ap (λ (t : List ℕ). get_or t 0 0) e) c.in_default-digit_value-2.ensures.none))

pub returns : goal.returns
returns c = (
  omega (arith, c.in-Some.ensures.some.0, c.in-Some-digit_value.ensures.some.0),
  two_digits c.args.text.now c.in-Some.high c.in-Some-digit_value.low (omega arith) (omega arith) c.in-Some.ensures.some
      c.in-Some-digit_value.ensures.some,
)

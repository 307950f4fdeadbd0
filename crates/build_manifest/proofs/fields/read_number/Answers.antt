use Rattle.std.proofs.Common.{◌≡◌, ℕ, ◌+◌, ◌<◌, List, ◌++◌, get_or, length, sym, ap, subst, arith, MatchResult}
use Rattle.reading.specs.Field.{Stops}
use Rattle.reading.specs.Plain.{IsBelow, IsNoDigit, number_text}
use Rattle.build_manifest.specs.Mark.{limit}
use Rattle.reading.specs.declared.stuck.Stuck.{Stuck}
use Rattle.build_manifest.proofs.FieldLemmas.{first_digit, no_number}
use Rattle.build_manifest.proofs.fields.read_number.Goals as goal

pub returns-in_default : goal.returns-in_default
returns-in_default c =
    let text = c.args.text.now in
    subst (λ (n : ℕ). Stops (number_text c.args.end) (IsBelow limit) text n) (sym (ap (λ (s : Stuck). s.left) c.stuck_at.ensures))
    (no_number c.args.end text (λ next others e. absurd (omega (arith, ap length e))))

pub returns-in_default-digit_of : goal.returns-in_default-digit_of
returns-in_default-digit_of c =
    let text = c.args.text.now in
    subst (λ (n : ℕ). Stops (number_text c.args.end) (IsBelow limit) text n) (sym (ap (λ (s : Stuck). s.left) c.stuck_at-in_default-digit_of.ensures))
    (no_number c.args.end text (λ next others e.
    subst (λ (b : ℕ). IsNoDigit b) (ap (λ (t : List ℕ). get_or t 0 0) e) c.in_default-digit_of.ensures.none))

pub returns : goal.returns
returns c =
    let text = c.args.text.now in
    let digit : (get_or text 0 0 ≡ 48 + c.from.result) × (c.from.result < 10) =
    subst (λ (d : ℕ). (get_or text 0 0 ≡ 48 + d) × (d < 10)) (sym c.from.ensures) c.in-Some.ensures.some in
    subst (λ (t : List ℕ). MatchResult c.read_digits.result (λ read. (read.0 < limit) × (t ≡ number_text c.args.end read.0 ++ read.1.now))
    (λ stuck. Stops (number_text c.args.end) (IsBelow limit) t stuck.left))
    (first_digit text c.from.result (omega arith) digit.0 digit.1) c.read_digits.ensures

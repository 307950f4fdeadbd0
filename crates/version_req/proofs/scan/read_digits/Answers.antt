use Rattle.std.proofs.Common.{◌≡◌, ◌-◌, length, slice_index, true, false, Some, None, rules, sym, ◌∙◌, arith}
use Rattle.std.specs.Char.{is_ascii_digit}
use Rattle.std.proofs.lemmas.List.{drop_all, take_rest}
use Rattle.version_req.specs.Reading.{with_digit}
use Rattle.version_req.proofs.ScanSteps.{digits_end, digits_step, digits_stop, digits_stuck, stuck_at}
use Rattle.version_req.proofs.scan.read_digits.Goals as goal

pub returns-then-not-is_ascii_digit : goal.returns-then-not-is_ascii_digit
returns-then-not-is_ascii_digit c =
    let d : is_ascii_digit (slice_index c.args.text.now c.digits.i) ≡ false = search rules in
    rw (take_rest c.args.text.now c.digits.i) (sym (c.digits.invariant ∙ digits_stop c.digits.value c.args.text.now c.digits.i c.digits-test.true d))

pub returns-in_default : goal.returns-in_default
returns-in_default c =
    let text = c.args.text.now in
    let d : is_ascii_digit (slice_index text c.digits.i) ≡ true = search rules in
    let none : with_digit c.digits.value (slice_index text c.digits.i - 48) ≡ None = sym c.with_digit.ensures ∙ c.in_default.is in
    stuck_at text c.digits.i _ c.stuck_at.ensures
    ∙ sym (c.digits.invariant ∙ digits_stuck c.digits.value text c.digits.i c.digits-test.true d none)

pub digits-preserved : goal.digits-preserved
digits-preserved c =
    let text = c.args.text.now in
    let d : is_ascii_digit (slice_index text c.digits.i) ≡ true = search rules in
    let some : with_digit c.digits.value (slice_index text c.digits.i - 48) ≡ Some c.in-Some.more = sym c.with_digit.ensures ∙ c.in-Some.is in
    c.digits.invariant ∙ digits_step c.digits.value c.in-Some.more text c.digits.i c.digits-test.true d some

pub returns : goal.returns
returns c =
    let text = c.args.text.now in
    rw (take_rest text (length text), drop_all (length text) text (omega arith))
    (sym (c.digits.invariant ∙ digits_end c.digits.value text c.digits.i (omega arith)))

use Rattle.std.proofs.Common.{◌≡◌, true, false, refl}
use Rattle.std.proofs.lemmas.Result.{err_from_is_err_and}
use Rattle.hex_messages.specs.Reading.{wire_code, payload_of}
use Rattle.hex_messages.specs.Schema.{field_at}
use Rattle.hex_messages.specs.Faults.{IsOwnWire}
use Rattle.hex_messages.proofs.WireLemmas.{wrong_at, own_some, own_none, value_at, field_at_front}
use Rattle.hex_messages.proofs.wire.split_field.Goals as goal
use Rattle.hex_messages.proofs.wire.split_field.Goals.{in-Some+else-not-is_spelled, in_default}

pub returns-then-not-is_spelled-clause-refused : goal.returns-then-not-is_spelled-clause-refused
returns-then-not-is_spelled-clause-refused c =
    wrong_at c.args.message c.args.text.now c.in_ok-number.after.now c.in_ok-number.number (wire_code c.in_ok-number.wire) c.in-Some.known
    c.in_ok-number.ensures.read c.in-Some.ensures (λ e. let f : false ≡ true = c.if-not-is_spelled.ensures.1 e in absurd cc)

pub returns-in_err-value-clause-refused : goal.returns-in_err-value-clause-refused
returns-in_err-value-clause-refused c =
    let known = field_at c.args.message c.in_ok-number.number in
    let wire = wire_code c.in_ok-number.wire in
    let own : IsOwnWire known wire =
    elim c.match-field_at.branch [
      | in-Some+else-not-is_spelled w ↦ own_some known w.in-Some.known wire w.in-Some.ensures (w.if-not-is_spelled.ensures.0 refl)
      | in_default w ↦ own_none known wire w.in_default.ensures
    ] in
    let p = err_from_is_err_and c.from_residual-in_err-value.result c.from_residual-in_err-value.ensures.1 in
    rw (p.1, p.2) (value_at c.args.message c.args.text.now c.in_ok-number.after.now c.in_ok-number.number wire c.in_err-value.field-0.0
    c.in_ok-number.ensures.read own c.in_err-value.ensures.refused)

pub returns-clause-read : goal.returns-clause-read
returns-clause-read c =
    let known = field_at c.args.message c.in_ok-number.number in
    let wire = wire_code c.in_ok-number.wire in
    let own : IsOwnWire known wire =
    elim c.match-field_at.branch [
      | in-Some+else-not-is_spelled w ↦ own_some known w.in-Some.known wire w.in-Some.ensures (w.if-not-is_spelled.ensures.0 refl)
      | in_default w ↦ own_none known wire w.in_default.ensures
    ] in
    field_at_front c.args.message c.args.text.now c.in_ok-number.after.now c.in_ok-value.rest.now c.in_ok-number.number wire
    (payload_of c.in_ok-value.value) c.in_ok-number.ensures.read own c.in_ok-value.ensures.read

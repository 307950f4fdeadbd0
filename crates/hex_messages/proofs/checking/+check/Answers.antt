use Rattle.std.proofs.Common.{◌+◌, ◌-◌, ◌<◌, length, refl, ap, ◌∙◌, ⊎_elim, arith}
use Rattle.std.proofs.lemmas.Result.{err_from_is_err_and, on_ok_weaker, IfErr-weaker}
use Rattle.hex_messages.specs.Schema.{wire_of}
use Rattle.hex_messages.specs.Reading.{field_of}
use Rattle.hex_messages.specs.Checking.{FaultFrom, BlamesField}
use Rattle.hex_messages.proofs.CheckLemmas.{depth, checked_start, checked_on, checked_whole, checked_missing, checked_faults, field_faults, own_is, good_unknown, good_bytes, good_truth, good_text, good_reason, good_inner, text_refused, reason_refused, inner_refused, deeper}
use Rattle.hex_messages.proofs.FindLemmas.{no_bytes}
use Rattle.hex_messages.proofs.checking.+check.Goals as goal

pub check_field-returns-in_default-clause-good : goal.check_field-returns-in_default-clause-good
check_field-returns-in_default-clause-good t c = good_unknown c.args.message c.args.wire.now c.in_default.ensures

pub check_field-check_message-requires : goal.check_field-check_message-requires
check_field-check_message-requires t c =
    let d : depth c.in-Inner.inner < depth c.args.message = deeper c.args.message c.args.wire.now.number c.in-Some.known c.in-Inner.inner
    c.in-Some.ensures c.in-Inner.is in
    (let m = c.decreases in omega arith, c.inner-start.ensures.fits)

pub check_field-returns-in-Bytes-clause-good : goal.check_field-returns-in-Bytes-clause-good
check_field-returns-in-Bytes-clause-good t c =
    let k = c.in-Some.known in
    let own = own_is c.args.message c.args.wire.now k c.in-Some.ensures c.requires.own in
    ⊎_elim
    (λ e. good_bytes c.args.message c.args.wire.now k c.in-Some.ensures e own)
    (λ e. good_truth c.args.message c.args.wire.now k c.in-Some.ensures e own) c.in-Bytes.is

pub check_field-returns-in-Ok-clause-good : goal.check_field-returns-in-Ok-clause-good
check_field-returns-in-Ok-clause-good t c =
    let k = c.in-Some.known in
    let own = own_is c.args.message c.args.wire.now k c.in-Some.ensures c.requires.own ∙ ap wire_of c.in-Text.is in
    good_text c.args.message c.args.wire.now k c.bytes.result.now c.in-Some.ensures c.in-Text.is (c.bytes.ensures own) c.in-Ok.ensures.cases.1

pub check_field-returns-in-Err-clause-refused : goal.check_field-returns-in-Err-clause-refused
check_field-returns-in-Err-clause-refused t c =
    let k = c.in-Some.known in
    let own = own_is c.args.message c.args.wire.now k c.in-Some.ensures c.requires.own ∙ ap wire_of c.in-Text.is in
    text_refused c.args.message c.args.wire.now k c.bytes.result.now _ c.in-Some.ensures c.in-Text.is (c.bytes.ensures own) c.in-Err.ensures.cases.0
    refl refl

pub check_field-returns-then-varint-le4-clause-good : goal.check_field-returns-then-varint-le4-clause-good
check_field-returns-then-varint-le4-clause-good t c =
    let k = c.in-Some.known in
    let own = own_is c.args.message c.args.wire.now k c.in-Some.ensures c.requires.own ∙ ap wire_of c.in-Reason.is in
    good_reason c.args.message c.args.wire.now k c.varint.result c.in-Some.ensures c.in-Reason.is (c.varint.ensures own) c.if-varint-le4.true

pub check_field-returns-else-varint-le4-clause-refused : goal.check_field-returns-else-varint-le4-clause-refused
check_field-returns-else-varint-le4-clause-refused t c =
    let k = c.in-Some.known in
    let own = own_is c.args.message c.args.wire.now k c.in-Some.ensures c.requires.own ∙ ap wire_of c.in-Reason.is in
    reason_refused c.args.message c.args.wire.now k c.varint.result _ c.in-Some.ensures c.in-Reason.is (c.varint.ensures own) c.if-varint-le4.false
    refl refl

pub check_field-returns-in-Inner-clause-good : goal.check_field-returns-in-Inner-clause-good
check_field-returns-in-Inner-clause-good t c =
    let k = c.in-Some.known in
    let own = own_is c.args.message c.args.wire.now k c.in-Some.ensures c.requires.own ∙ ap wire_of c.in-Inner.is in
    on_ok_weaker c.check_message.result (λ w. good_inner c.args.message c.in-Inner.inner c.args.wire.now k c.inner-start.result.1.now
    c.in-Some.ensures c.in-Inner.is (c.inner-start.ensures.value own) w) c.check_message.ensures.whole

pub check_field-returns-in-Inner-clause-refused : goal.check_field-returns-in-Inner-clause-refused
check_field-returns-in-Inner-clause-refused t c =
    let k = c.in-Some.known in
    let i = c.inner-start.ensures in
    let own = own_is c.args.message c.args.wire.now k c.in-Some.ensures c.requires.own ∙ ap wire_of c.in-Inner.is in
    IfErr-weaker c.check_message.result (λ error. FaultFrom c.in-Inner.inner c.inner-start.result.0 c.inner-start.result.1.now error)
    (λ error. BlamesField c.args.message c.args.wire.now error)
    (λ error f. inner_refused c.args.message c.in-Inner.inner c.args.wire.now k c.inner-start.result.1.now c.inner-start.result.0 error
    c.in-Some.ensures c.in-Inner.is (i.value own) i.ends i.after f) c.check_message.ensures.refused

pub check_message-loop-rest-init : goal.check_message-loop-rest-init
check_message-loop-rest-init t c = checked_start c.args.message c.args.text.now

pub check_message-returns-in-Err-clause-refused : goal.check_message-returns-in-Err-clause-refused
check_message-returns-in-Err-clause-refused t c =
    checked_faults c.args.message c.args.text.now c.loop-rest.rest.now c.args.start
    (c.args.start + (length c.args.text.now - length c.loop-rest.rest.now)) 0 _ c.loop-rest.invariant refl (omega arith) c.in-Err.ensures.refused

pub check_message-returns-in_err-check_field-clause-refused : goal.check_message-returns-in_err-check_field-clause-refused
check_message-returns-in_err-check_field-clause-refused t c =
    let e = c.in-Ok.ensures in
    let p = err_from_is_err_and c.from_residual.result c.from_residual.ensures.1 in
    rw (p.1, p.2) (field_faults c.args.message c.args.text.now c.loop-rest.rest.now c.in-Ok.split.1.now c.args.start
    (c.args.start + (length c.args.text.now - length c.loop-rest.rest.now)) c.in-Ok.split.0 c.in_err-check_field.field-0.0 c.loop-rest.invariant
    e.read e.at e.end refl c.in_err-check_field.ensures.refused)

pub check_message-loop-rest-preserved : goal.check_message-loop-rest-preserved
check_message-loop-rest-preserved t c =
    checked_on c.args.message c.args.text.now c.loop-rest.rest.now c.in-Ok.split.1.now (field_of c.in-Ok.split.0) c.loop-rest.invariant
    c.in-Ok.ensures.read c.in_ok-check_field.ensures.good

pub check_message-returns-in-Some-clause-refused : goal.check_message-returns-in-Some-clause-refused
check_message-returns-in-Some-clause-refused t c =
    checked_missing c.args.message c.args.text.now c.loop-rest.rest.now c.args.start c.in-Some.name _ c.loop-rest.invariant
    (no_bytes c.loop-rest.rest.now c.is_empty.ensures c.loop-rest-test.false) c.in-Some.ensures refl refl

pub check_message-returns-in-None-clause-whole : goal.check_message-returns-in-None-clause-whole
check_message-returns-in-None-clause-whole t c =
    checked_whole c.args.message c.args.text.now c.loop-rest.rest.now c.loop-rest.invariant
    (no_bytes c.loop-rest.rest.now c.is_empty.ensures c.loop-rest-test.false) c.in-None.ensures

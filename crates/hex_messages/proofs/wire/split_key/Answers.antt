use Rattle.std.proofs.Common.{arith}
use Rattle.std.proofs.lemmas.Result.{err_from_is_err_and}
use Rattle.hex_messages.proofs.WireLemmas.{bad_key_at, key_at}
use Rattle.hex_messages.proofs.wire.split_key.Goals as goal
use Rattle.hex_messages.proofs.wire.split_key.Goals.{in_default-via-in-Some+then-number-ge1+else-number-le-GREATEST_NUMBER, in_default-via-in-Some+else-number-ge1, in_default-via-in_default}

pub returns-in_err-key-clause-refused : goal.returns-in_err-key-clause-refused
returns-in_err-key-clause-refused c =
    let p = err_from_is_err_and c.from_residual.result c.from_residual.ensures.1 in
    rw (p.1, p.2) (key_at c.args.text.now c.in_err-key.field-0.0 c.in_err-key.ensures.refused)

pub returns-in_default-clause-refused : goal.returns-in_default-clause-refused
returns-in_default-clause-refused c = λ m some. bad_key_at c.args.text.now c.in_ok-key.rest.now c.in_ok-key.key c.in_ok-key.ensures.read
    (elim c.in_default.branch [
      | in_default-via-in-Some+then-number-ge1+else-number-le-GREATEST_NUMBER w ↦ λ k. let l = k.most in omega
          (arith, w.if-number-le-GREATEST_NUMBER.false)
      | in_default-via-in-Some+else-number-ge1 w ↦ λ k. let l = k.least in omega (arith, w.if-number-ge1.false)
      | in_default-via-in_default w ↦ λ k. w.in_default.ensures k.typed
    ]) m

use Rattle.std.proofs.Common.{sym, ◌∙◌, arith}
use Rattle.build_manifest.proofs.NameFronts.{longest}
use Rattle.build_manifest.proofs.names.name_front.Goals as goal
use Rattle.build_manifest.proofs.names.name_front.Goals.{then-i-eq-MAX_NAME_LEN-via-then-i-eq-MAX_NAME_LEN, then-i-eq-MAX_NAME_LEN-via-else-i-eq-MAX_NAME_LEN+then-not-may_stand}

pub returns-then-i-eq-MAX_NAME_LEN : goal.returns-then-i-eq-MAX_NAME_LEN
returns-then-i-eq-MAX_NAME_LEN c =
    longest c.args.text.now c.bytes.i c.bytes.invariant.0 (omega (arith, c.bytes-test.true)) c.bytes.invariant.1
    (λ within short. elim c.then-i-eq-MAX_NAME_LEN.branch [
      | then-i-eq-MAX_NAME_LEN-via-then-i-eq-MAX_NAME_LEN w ↦ absurd (omega (arith, short, w.if-i-eq-MAX_NAME_LEN.true))
      | then-i-eq-MAX_NAME_LEN-via-else-i-eq-MAX_NAME_LEN+then-not-may_stand w ↦ sym w.may_stand.ensures ∙ w.if-not-may_stand.true
    ])

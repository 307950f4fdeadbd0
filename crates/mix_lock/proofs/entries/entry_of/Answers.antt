use Rattle.std.proofs.Common.{sym, ◌∙◌, subst}
use Rattle.std.proofs.lemmas.Bool.{true≢false}
use Rattle.mix_lock.specs.Says.{AreRead}
use Rattle.mix_lock.specs.Says.IsEntry.{other, hex, shape, requirement}
use Rattle.mix_lock.proofs.entries.entry_of.Goals as goal

pub returns-then-not-is_hex : goal.returns-then-not-is_hex
returns-then-not-is_hex c = other (sym c.is_hex.ensures ∙ c.if-not-is_hex.true)

pub returns-in_default : goal.returns-in_default
returns-in_default c = shape (sym c.is_hex.ensures ∙ c.if-not-is_hex.false) (sym c.in_ok-entry.ensures ∙ c.in_default.is)

pub returns-then-branch : goal.returns-then-branch
returns-then-branch c =
    hex c.in-Some.entry (sym c.is_hex.ensures ∙ c.if-not-is_hex.false) (sym c.in_ok-entry.ensures ∙ c.in-Some.is)
    (subst AreRead c.as_slice.ensures (c.in_ok-are_read.ensures.0 c.if-branch.true))

pub returns : goal.returns
returns c =
    requirement c.in-Some.entry (sym c.is_hex.ensures ∙ c.if-not-is_hex.false) (sym c.in_ok-entry.ensures ∙ c.in-Some.is)
    (λ reads. true≢false (sym (c.in_ok-are_read.ensures.1 (subst AreRead (sym c.as_slice.ensures) reads)) ∙ c.if-branch.false))

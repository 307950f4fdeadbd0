use Rattle.std.proofs.Common.{Err, sym, ◌∙◌, subst}
use Rattle.mix_lock.specs.Says.{IsEntry, IsPair}
use Rattle.mix_lock.specs.Says.IsPair.{good, nameless, entryless}
use Rattle.mix_lock.proofs.entries.pair_of.Goals as goal

pub returns-in_default : goal.returns-in_default
returns-in_default c = λ input.
    subst (λ e. IsPair c.args.key.now c.args.value (Err e)) (sym (c.refused.ensures input)) (nameless (sym c.in_ok-app.ensures ∙ c.in_default.is))

pub returns-in-Some-2 : goal.returns-in-Some-2
returns-in-Some-2 c = good (sym c.in_ok-app.ensures ∙ c.in-Some.is) (subst (IsEntry c.args.value) c.in-Some-2.is c.in_ok-entry.ensures)

pub returns-in-None : goal.returns-in-None
returns-in-None c = λ input.
    subst (λ e. IsPair c.args.key.now c.args.value (Err e)) (sym (c.refused-in-None.ensures input))
    (entryless (sym c.in_ok-app.ensures ∙ c.in-Some.is) (subst (IsEntry c.args.value) c.in-None.is c.in_ok-entry.ensures))

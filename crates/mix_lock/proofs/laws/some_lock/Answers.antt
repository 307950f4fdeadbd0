use Rattle.std.proofs.Common.{ℕ, inl, inr, ⊎_elim}
use Rattle.version_req.specs.Condition.{Alternatives}
use Rattle.version_req.specs.Grammar.{IsSpelled, Spells}
use Rattle.version_req.specs.Refusal.{IsRefusedAt}
use Rattle.mix_lock.proofs.SomeLemmas.{EachRequirement, some_lock}
use Rattle.mix_lock.proofs.laws.some_lock.Goals as goal

pub returns : goal.returns
returns c =
    let each : EachRequirement = λ text. ⊎_elim
    (λ (is : (requirement : Alternatives) × Spells text requirement). inl is)
    (λ (no : (at : ℕ) × IsRefusedAt text at). inr (λ (is : IsSpelled text). c.one_refusal.ensures.apart text no.0 is.0 no.1 is.1))
    (c.each_is_read_or_refused.ensures text) in
    some_lock c.some_answer.ensures each

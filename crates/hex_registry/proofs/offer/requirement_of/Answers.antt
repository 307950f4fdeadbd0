use Rattle.std.proofs.Common.{ℕ, List, sym, subst}
use Rattle.version_req.specs.Grammar.{Spells}
use Rattle.hex_registry.proofs.offer.requirement_of.Goals as goal

pub returns-in-Err-Refused : goal.returns-in-Err-Refused
returns-in-Err-Refused c =
    let refused = rw c.in-Err-Refused.field-0-is at c.in-Err-Refused.ensures.err in
    λ requirement spells. refused.nothing (requirement, subst (λ (t : List ℕ). Spells t requirement) (sym c.as_slice.ensures) spells)

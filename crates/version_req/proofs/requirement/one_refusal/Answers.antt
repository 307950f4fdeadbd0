use Rattle.reading.proofs.Refusals.{one_place}
use Rattle.version_req.specs.Grammar.{IsSpelled}
use Rattle.version_req.proofs.requirement.one_refusal.Goals as goal

pub returns-clause-places : goal.returns-clause-places
returns-clause-places c = one_place IsSpelled

pub returns-clause-apart : goal.returns-clause-apart
returns-clause-apart c = λ text at requirement refused spells. refused.nothing (requirement, spells)

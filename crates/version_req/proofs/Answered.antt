-- Each text spells a requirement, or is refused at one place.
use Rattle.std.proofs.Common.{◌≡◌, ◌⊎◌, ℕ, ◌-◌, List, length, Result, Ok, Err, refl, inl, inr}
use Rattle.version_req.specs.Condition.{Alternatives}
use Rattle.version_req.specs.Grammar.{Spells}
use Rattle.version_req.specs.Machine.{Lead, empty, run}
use Rattle.version_req.specs.Refusal.{IsRefusedAt}
use Rattle.version_req.proofs.Refused.{refused}
use Rattle.version_req.proofs.RunSound.{Spells-run}

answered : (text : List ℕ) (answer : Result Alternatives ℕ) → run text Lead empty ≡ answer
    → ((requirement : Alternatives) × Spells text requirement) ⊎ ((at : ℕ) × IsRefusedAt text at)
answered text (Ok requirement) e = inl (requirement, Spells-run text requirement e)
answered text (Err left) e = inr (length text - left, (refused text left e).1)

pub read_or_refused : (text : List ℕ) → ((requirement : Alternatives) × Spells text requirement) ⊎ ((at : ℕ) × IsRefusedAt text at)
read_or_refused text = answered text (run text Lead empty) refl

-- A text that grew twice.
use Rattle.std.proofs.Common.{◌≡◌, ℕ, List, ◌++◌, append_assoc, ap, ◌∙◌, subst}
use Rattle.std.specs.Prelude.{Result, OnOk}

pub grew_twice : {X E : Type 0} (r : Result X E) (old middle one two new : List ℕ) → middle ≡ old ++ one → OnOk r (new ≡ middle ++ two) → OnOk r (new ≡ old ++ (one ++ two))
grew_twice r old middle one two new e h = subst (λ (l : List ℕ). OnOk r (new ≡ l)) (ap (λ (l : List ℕ). l ++ two) e ∙ append_assoc old one two) h

-- Four elements pushed one by one.
use Rattle.std.proofs.Common.{◌≡◌, List, [], ◌∷◌, ◌++◌, append_assoc}
use Rattle.term_values.specs.declared.term.Term.{Term}

pub four_pushed : (old : List Term) (a b c d : Term)
    → (((old ++ a ∷ []) ++ b ∷ []) ++ c ∷ []) ++ d ∷ [] ≡ old ++ a ∷ b ∷ c ∷ d ∷ []
four_pushed old a b c d = simp append_assoc

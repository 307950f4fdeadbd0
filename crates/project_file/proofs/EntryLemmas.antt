-- Entries one after another.
use Rattle.std.proofs.Common.{◌≡◌, ℕ, ◌+◌, ◌<◌, List, ◌∷◌, drop, length, get_or, sym, ◌∙◌, ap}
use Rattle.std.proofs.lemmas.List.{at_drop_more}
use Rattle.term_values.specs.Views.{Lent, named}

-- the entries from a place on
pub named_rest : (xs : List Lent) (i : ℕ) (o : Lent) → i < length xs → o ≡ get_or xs i o → named (drop i xs) ≡ (o.0.now, o.1.now) ∷ named (drop (i + 1) xs)
named_rest xs i o within is =
    at_drop_more named xs i o within ∙ ap (λ (x : Lent). named (x ∷ drop (i + 1) xs)) (sym is)

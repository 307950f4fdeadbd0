-- Options one after another.
use Rattle.std.proofs.Common.{◌≡◌, ℕ, ◌+◌, ◌<◌, List, [], ◌∷◌, None, drop, length, get_or, refl, sym, ◌∙◌, ap, arith}
use Rattle.std.proofs.lemmas.List.{at_drop_more}
use Rattle.term_values.specs.Views.{Lent, named}
use Rattle.mix_lock.specs.Terms.{three, link_in}

-- the options from a place on
pub named_rest : (xs : List Lent) (i : ℕ) (o : Lent) → i < length xs → o ≡ get_or xs i o → named (drop i xs) ≡ (o.0.now, o.1.now) ∷ named (drop (i + 1) xs)
named_rest xs i o within is =
    at_drop_more named xs i o within ∙ ap (λ (x : Lent). named (x ∷ drop (i + 1) xs)) (sym is)

-- three options, and another number of them
pub three_of : (os : List Lent) → length os ≡ 3 → three (named os) ≡ link_in (named os)
three_of [] e = absurd (omega arith)
three_of (a ∷ []) e = absurd (omega arith)
three_of (a ∷ b ∷ []) e = absurd (omega arith)
three_of (a ∷ b ∷ c ∷ []) e = refl
three_of (a ∷ b ∷ c ∷ d ∷ more) e = absurd (omega arith)

pub not_three : (os : List Lent) → (length os ≡ 3 → ⊥) → three (named os) ≡ None
not_three [] e = refl
not_three (a ∷ []) e = refl
not_three (a ∷ b ∷ []) e = refl
not_three (a ∷ b ∷ c ∷ []) e = absurd (e refl)
not_three (a ∷ b ∷ c ∷ d ∷ more) e = refl

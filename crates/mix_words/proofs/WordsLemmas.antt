-- Reading all words.
use Rattle.std.proofs.Common.{◌≡◌, ℕ, ◌+◌, List, [], ◌∷◌, length, map, refl, sym, ap, subst, arith}
use Rattle.std.specs.Prelude.{Err}
use Rattle.mx_base.specs.Blame.{Computes}
use Rattle.reading.specs.Refusal.{IsRefusedAt}
use Rattle.mix_words.specs.declared.error.WordsError.TheVariants.{Refused}
use Rattle.mix_words.specs.declared.verb.Verb.{Verb}
use Rattle.mix_words.specs.Meaning.{IsMeant}
use Rattle.mix_words.specs.Piece.{Word}
use Rattle.mix_words.specs.Reading.{IsAsked, IsReading, blame_of}
use Rattle.mix_words.specs.Table.{name_of}
use Rattle.mix_words.proofs.NamedLemmas.{refused_empty, refused_later, refused_unnamed}

pub computes_reading : (words : List Word) (at : ℕ) → IsRefusedAt IsMeant words at → Computes blame_of (Err (Refused at)) (IsReading words)
computes_reading words at refused = record { answer = λ _. refused; alone = refl }

module _ {A : Type 0} (f : A → Word) where
  no_words : (xs : List A) → length xs ≡ 0 → [] ≡ map f xs
  no_words [] e = refl
  no_words (x ∷ xs) e = absurd (omega arith)

  first_words : (xs rest : List A) (x : A) → xs ≡ x ∷ rest → f x ∷ map f rest ≡ map f xs
  first_words xs rest x e = sym (ap (map f) e)

  pub refused_no_words : (xs : List A) → length xs ≡ 0 → IsRefusedAt IsMeant (map f xs) 0
  refused_no_words xs e = subst (λ (t : List Word). IsRefusedAt IsMeant t 0) (no_words xs e) refused_empty

  pub refused_first : (xs rest : List A) (x : A) → xs ≡ x ∷ rest → ((verb : Verb) → f x ≡ name_of verb → ⊥) → IsRefusedAt IsMeant (map f xs) 0
  refused_first xs rest x e never = subst (λ (t : List Word). IsRefusedAt IsMeant t 0) (first_words xs rest x e) (refused_unnamed (f x) (map f rest) never)

  pub refused_behind_name : (verb : Verb) (xs rest : List A) (x : A) (at : ℕ) → xs ≡ x ∷ rest → f x ≡ name_of verb → IsRefusedAt (IsAsked verb) (map f rest) at
      → IsRefusedAt IsMeant (map f xs) (at + 1)
  refused_behind_name verb xs rest x at e named refused =
      subst (λ (t : List Word). IsRefusedAt IsMeant t (at + 1)) (first_words xs rest x e) (refused_later verb (f x) (map f rest) at named refused)

-- Fields that say the same each time, and fields behind them.
use Rattle.std.proofs.Common.{◌≡◌, ℕ, List, ◌∷◌, ◌++◌, length, refl, sym, ◌∙◌, append_assoc}
use Rattle.std.proofs.lemmas.List.{append_cancel_left}
use Rattle.reading.specs.Field.{PairFits, Stops, TellsItsEnd, pair_text}
use Rattle.reading.specs.Plain.{Always, after_text, literal_text}
use Rattle.reading.proofs.Fields.{first_stops, second_stops, told_otherwise}
use Rattle.reading.proofs.Lists.{same_head}

pub literal_tells : (literal : List ℕ) → TellsItsEnd (literal_text literal) Always
literal_tells literal a b x y fa fb e = refl

pub literal_stops : (literal taken more rest : List ℕ) (byte : ℕ) → literal ≡ taken ++ byte ∷ more
    → ((next : ℕ) (others : List ℕ) → rest ≡ next ∷ others → next ≡ byte → ⊥)
    → Stops (literal_text literal) Always (taken ++ rest) (length rest)
literal_stops literal taken more rest byte front other = record {
  taken = taken;
  rest = rest;
  bytes = refl;
  size = refl;
  sticks = record {
    value = tt;
    fits = tt;
    byte = byte;
    more = more;
    begins = front;
    refuses = λ next others further _ e _ whole.
        other next others e (same_head next byte further more (append_cancel_left taken (next ∷ further) (byte ∷ more) (sym whole ∙ front)));
  };
}

-- ---- a field behind a literal

pub after_tells : {A : Type 0} (literal : List ℕ) (text : A → List ℕ) (Fits : A → Type 0) → TellsItsEnd text Fits
    → TellsItsEnd (after_text literal text) Fits
after_tells literal text Fits tells a b x y fa fb e =
    tells a b x y fa fb (append_cancel_left literal (text a ++ x) (text b ++ y)
    (sym (append_assoc literal (text a) x) ∙ e ∙ append_assoc literal (text b) y))

behind : {A : Type 0} (literal : List ℕ) (text : A → List ℕ) (Fits : A → Type 0) (from : List ℕ) (left : ℕ)
    → Stops (pair_text (literal_text literal) (λ _. text)) (PairFits Always (λ _. Fits)) from left
    → Stops (after_text literal text) Fits from left
behind literal text Fits from left s =
    told_otherwise (pair_text (literal_text literal) (λ _. text)) (PairFits Always (λ _. Fits)) (after_text literal text) Fits
    (λ p. p.1) (λ a. (tt, a)) (λ p fits. (fits.1, refl)) (λ a fits. ((tt, fits), refl)) from left s

pub literal_first_stops : {A : Type 0} (literal : List ℕ) (text : A → List ℕ) (Fits : A → Type 0) (some : A) → Fits some → (from : List ℕ) (left : ℕ)
    → Stops (literal_text literal) Always from left → Stops (after_text literal text) Fits from left
literal_first_stops literal text Fits some fits from left s =
    behind literal text Fits from left
    (first_stops (literal_text literal) Always (λ _. text) (λ _. Fits) (literal_tells literal) (λ _ _. (some, fits)) from left s)

pub literal_second_stops : {A : Type 0} (literal : List ℕ) (text : A → List ℕ) (Fits : A → Type 0) (from after : List ℕ) (left : ℕ)
    → from ≡ literal ++ after → Stops text Fits after left → Stops (after_text literal text) Fits from left
literal_second_stops literal text Fits from after left cut s =
    behind literal text Fits from left
    (second_stops (literal_text literal) Always (λ _. text) (λ _. Fits) (literal_tells literal) tt tt from after left cut s)

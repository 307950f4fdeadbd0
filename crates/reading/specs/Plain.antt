-- The plainest fields: a literal, a number, so many bytes.
use Rattle.std.specs.Prelude.{◌≡◌, ◌⊎◌, ℕ, ◌<◌, List, [], ◌∷◌, ◌++◌, length, decimal}

-- the same text each time
abbrev pub literal_text : List ℕ → Unit {0} → List ℕ
literal_text literal _ = literal

abbrev pub Always : {A : Type 0} → A → Type 0
Always _ = Unit {0}

-- a field behind a literal
abbrev pub after_text : {A : Type 0} → List ℕ → (A → List ℕ) → A → List ℕ
after_text literal text value = literal ++ text value

-- a number in decimal digits, and the byte behind it
abbrev pub number_text : ℕ → ℕ → List ℕ
number_text end n = decimal n ++ end ∷ []

abbrev pub IsBelow : ℕ → ℕ → Type 0
IsBelow limit n = n < limit

-- a byte that isn't a digit
pub record IsNoDigit (byte : ℕ) : Type 0 where
  pub holds : (byte < 48) ⊎ (57 < byte)

abbrev pub bytes_text : List ℕ → List ℕ
bytes_text bytes = bytes

abbrev pub AreSoMany : ℕ → List ℕ → Type 0
AreSoMany count bytes = length bytes ≡ count

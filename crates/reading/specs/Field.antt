-- Fields of a text. A field is given by the text of each value, and by which values fit.
use Rattle.std.specs.Prelude.{◌≡◌, ℕ, List, [], ◌∷◌, ◌++◌, length}

-- a field shows by itself where it ends: what a text begins with tells the value
abbrev pub TellsItsEnd : {A : Type 0} → (A → List ℕ) → (A → Type 0) → Type 0
TellsItsEnd {A} text Fits = (a b : A) (x y : List ℕ) → Fits a → Fits b → text a ++ x ≡ text b ++ y → a ≡ b

-- what was taken begins the text of a value and isn't all of it, and with the next byte it begins none
pub record Sticks {A : Type 0} (text : A → List ℕ) (Fits : A → Type 0) (taken left : List ℕ) : Type 0 where
  pub value : A
  pub fits : Fits value
  pub byte : ℕ
  pub more : List ℕ
  pub begins : text value ≡ taken ++ byte ∷ more
  pub refuses : (next : ℕ) (others further : List ℕ) (other : A) → left ≡ next ∷ others → Fits other
      → text other ≡ taken ++ next ∷ further → ⊥

-- a reader of the field stops in a text with so many bytes left
pub record Stops {A : Type 0} (text : A → List ℕ) (Fits : A → Type 0) (from : List ℕ) (left : ℕ) : Type 0 where
  pub taken : List ℕ
  pub rest : List ℕ
  pub bytes : from ≡ taken ++ rest
  pub size : length rest ≡ left
  pub sticks : Sticks text Fits taken rest

-- one field after another, of which the second may go by the value of the first
abbrev pub pair_text : {A B : Type 0} → (A → List ℕ) → (A → B → List ℕ) → A × B → List ℕ
pair_text first second both = first both.0 ++ second both.0 both.1

abbrev pub PairFits : {A B : Type 0} → (A → Type 0) → (A → B → Type 0) → A × B → Type 0
PairFits First Second both = First both.0 × Second both.0 both.1

-- values one after another, of which each has to fit after those before it
abbrev pub FitInTurn : {A : Type 0} → (List A → A → Type 0) → List A → List A → Type 0
FitInTurn Fits before [] = Unit {0}
FitInTurn Fits before (value ∷ values) = Fits before value × FitInTurn Fits (before ++ value ∷ []) values

abbrev pub ListFits : {A : Type 0} → (List A → A → Type 0) → ℕ → List A → List A → Type 0
ListFits Fits count before values = (length values ≡ count) × FitInTurn Fits before values

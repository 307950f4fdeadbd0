-- Values that are written as fields, one behind the other. A field is some bytes.
use Rattle.std.specs.Prelude.{◌≡◌, ℕ, List, ◌∷◌, ◌++◌, length, flat_map}

-- the bytes of fields
abbrev pub together : List (List ℕ) → List ℕ
together fields = flat_map (λ field. field) fields

-- a value has these fields and others behind them
pub record Begins {A : Type 0} (fields : A → List (List ℕ)) (Fits : A → Type 0) (front : List (List ℕ)) : Type 0 where
  pub value : A
  pub fits : Fits value
  pub others : List (List ℕ)
  pub has : fields value ≡ front ++ others

-- Bytes lack a field at a place: up to there stand the fields of a front with which some value begins. No value that
-- begins with them goes on with a field that stands there, so no value's fields stand there whole.
pub record Lacks {A : Type 0} (fields : A → List (List ℕ)) (Fits : A → Type 0) (bytes : List ℕ) (at : ℕ) : Type 0 where
  pub front : List (List ℕ)
  pub rest : List ℕ
  pub cut : bytes ≡ together front ++ rest
  pub place : length (together front) ≡ at
  pub begins : Begins fields Fits front
  pub refuses : (value : A) (field : List ℕ) (more : List (List ℕ)) (others : List ℕ) → Fits value
      → fields value ≡ front ++ field ∷ more → rest ≡ field ++ others → ⊥
  pub nothing : (value : A) (others : List ℕ) → Fits value → bytes ≡ together (fields value) ++ others → ⊥

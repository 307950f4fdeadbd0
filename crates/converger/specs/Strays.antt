-- Rows that are reached in an environment or for a target that their winner isn't for.
use Rattle.std.specs.Prelude.{◌≡◌, ℕ, Bool, false, ◌&&◌, not, is_none, if◌then◌else◌, List, Option, Some, None, IsTrue, IsFalse, slice_get, bytes_eq}
use Rattle.std.specs.List.{list_any, slice_index_or}
use Rattle.dep_rows.specs.declared.row.Row.{Row}
use Rattle.converger.specs.Reach.{IsReached, admits, is_for}
use Rattle.converger.specs.Divergence.{IsUnder}

-- the row is reached in an environment and for a target of which the winner, in the root, isn't for both
pub record IsStray (rows : List Row) (env target : List ℕ) (other : ℕ) : Type 0 where
  pub place : ℕ
  pub by : ℕ
  pub winner : Row
  pub row : Row
  pub parent : Row
  pub under : IsUnder rows place winner other row
  pub root : winner.by ≡ None
  pub barred : IsFalse (is_for env target winner.decl)
  pub required : IsTrue row.required
  pub meant : IsTrue (admits row.decl.targets target)
  pub declared : row.by ≡ Some by
  pub stands : slice_get rows by ≡ Some parent
  pub reached : IsReached rows env target parent.app

-- the row is one for the target, in some environment
abbrev pub IsStrayFor : List Row → List ℕ → ℕ → Type 0
IsStrayFor rows target other = (env : List ℕ) × IsStray rows env target other

-- the row is one for some target
abbrev pub IsStraySomewhere : List Row → ℕ → Type 0
IsStraySomewhere rows other = (target : List ℕ) × IsStrayFor rows target other

-- whether a place is marked
abbrev pub is_marked : List Bool → ℕ → Bool
is_marked marks place = slice_index_or marks place false

-- whether an environment or a target is named there
abbrev pub is_named : Option (List (List ℕ)) → List ℕ → Bool
is_named None name = false
is_named (Some names) name = list_any (bytes_eq name) names

-- the environments that a row of the root names
abbrev pub only_of : Row → Option (List (List ℕ))
only_of row = if is_none row.by then row.decl.only else None

-- the targets that a row names
abbrev pub targets_of : Row → Option (List (List ℕ))
targets_of row = row.decl.targets

-- the texts that pass the test are all that the rows name there
abbrev pub AreNamed : (Row → Option (List (List ℕ))) → List Row → (List ℕ → Bool) → Type 0
AreNamed names_of rows has = (place : ℕ) (row : Row) (name : List ℕ) → slice_get rows place ≡ Some row
    → IsTrue (is_named (names_of row) name) → IsTrue (has name)

-- the rows don't name it there
abbrev pub IsUnnamed : (Row → Option (List (List ℕ))) → List Row → List ℕ → Type 0
IsUnnamed names_of rows name = (place : ℕ) (row : Row) → slice_get rows place ≡ Some row → IsFalse (is_named (names_of row) name)

-- whether a row is a stray, where its parent is reached or not
abbrev pub is_stray_beside : Row → Row → Bool → List ℕ → List ℕ → Bool
is_stray_beside winner row reached env target =
    row.required && (admits row.decl.targets target && (is_none winner.by && (reached && not (is_for env target winner.decl))))

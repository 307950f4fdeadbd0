-- The rows of a project: its own declarations and those of its dependencies, in one list.
use Rattle.std.specs.Prelude.{◌≡◌, ◌≢◌, ℕ, suc, ◌+◌, ◌<◌, ◌≤◌, Bool, not, ◌||◌, ◌&&◌, is_none, bytes_eq, position, List, [], ◌∷◌, ◌++◌, length, Option, Some, None, Result, Ok, Err, IsTrue, slice_get}
use Rattle.std.specs.List.{All, AllPairs, Contains}
use Rattle.dep_options.specs.declared.decl.Decl.{Decl}
use Rattle.dep_rows.specs.declared.row.Row.{Row}

-- how many rows there may be
abbrev pub most_rows : ℕ
most_rows = 65536

-- a declaration as a row. It is required unless it is optional and stands outside the root
abbrev pub row_of : Option ℕ → ℕ → Decl → Row
row_of by index decl = record { app = decl.app; by = by; index = index; decl = decl; required = not decl.optional || is_none by }

-- declarations as rows, from this index on
abbrev pub rows_from : Option ℕ → ℕ → List Decl → List Row
rows_from by index [] = []
rows_from by index (decl ∷ decls) = row_of by index decl ∷ rows_from by (suc index) decls

-- the winner of its app stands here: the first required row of the app
pub record IsWinner (rows : List Row) (place : ℕ) (row : Row) : Type 0 where
  pub stands : slice_get rows place ≡ Some row
  pub required : IsTrue row.required
  pub first : (other : ℕ) (earlier : Row) → other < place → slice_get rows other ≡ Some earlier → IsTrue earlier.required → earlier.app ≢ row.app

-- whether the row is a required one of the app
abbrev pub is_required_of : List ℕ → Row → Bool
is_required_of app row = row.required && bytes_eq app row.app

-- the place of an app's winner, where it has one
unfoldable pub winner_of : List Row → List ℕ → Option ℕ
winner_of rows app = position (is_required_of app) rows

-- the places of all winners, in order
pub record AreWinners (rows : List Row) (winners : List ℕ) : Type 0 where
  pub in_order : AllPairs (λ earlier later. earlier < later) winners
  pub only : All (λ place. (row : Row) × IsWinner rows place row) winners
  pub all : (place : ℕ) (row : Row) → IsWinner rows place row → Contains winners place

-- what an app's winner declares in turn, or why that isn't known
abbrev pub ChildrenOf : Type 0 → Type 1
ChildrenOf Fault = List ℕ → Decl → Result (List Decl) Fault → Type 0

-- each winner has one answer at most
abbrev pub AnswersOnce : {Fault : Type 0} → ChildrenOf Fault → Type 0
AnswersOnce {Fault = Fault} children = (app : List ℕ) (winner : Decl) (answer other : Result (List Decl) Fault) → children app winner answer → children app winner other → answer ≡ other

-- each winner has an answer
abbrev pub AnswersEach : {Fault : Type 0} → ChildrenOf Fault → Type 0
AnswersEach {Fault = Fault} children = (app : List ℕ) (winner : Decl) → (answer : Result (List Decl) Fault) × children app winner answer

-- the children of these winners as rows, from a place on. Each winner stands before its children
pub data Blocks {Fault : Type 0} (children : ChildrenOf Fault) (rows : List Row) : ℕ → List ℕ → List Row → Type 0 where
  none : {start : ℕ} → Blocks children rows start [] []
  next : {start winner : ℕ} {winners : List ℕ} {row : Row} {decls : List Decl} {more : List Row} → winner < start → slice_get rows winner ≡ Some row → children row.app row.decl (Ok decls) → Blocks children rows (start + length decls) winners more → Blocks children rows start (winner ∷ winners) (rows_from (Some winner) 0 decls ++ more)

-- rows so far: the declarations of the root, and then the children of the first winners
pub record AreRowsSoFar {Fault : Type 0} (children : ChildrenOf Fault) (root : List Decl) (rows : List Row) (asked later : List ℕ) : Type 0 where
  pub below : List Row
  pub whole : rows ≡ rows_from None 0 root ++ below
  pub blocks : Blocks children rows (length root) asked below
  pub winners : AreWinners rows (asked ++ later)

-- the rows of a root: its declarations, and then the children of all winners in their order
abbrev pub AreRows : {Fault : Type 0} → ChildrenOf Fault → List Decl → List Row → List ℕ → Type 0
AreRows children root rows winners = AreRowsSoFar children root rows winners []

-- the rows pass the limit, perhaps before all winners were asked for their children
pub record PassesLimit {Fault : Type 0} (children : ChildrenOf Fault) (root : List Decl) : Type 0 where
  pub rows : List Row
  pub asked : List ℕ
  pub later : List ℕ
  pub so_far : AreRowsSoFar children root rows asked later
  pub many : most_rows < length rows

-- within the limit a winner is met whose children aren't known
pub record Meets {Fault : Type 0} (children : ChildrenOf Fault) (root : List Decl) (fault : Fault) : Type 0 where
  pub rows : List Row
  pub asked : List ℕ
  pub winner : ℕ
  pub later : List ℕ
  pub row : Row
  pub so_far : AreRowsSoFar children root rows asked (winner ∷ later)
  pub few : length rows ≤ most_rows
  pub stands : slice_get rows winner ≡ Some row
  pub answer : children row.app row.decl (Err fault)

-- a row outside the root stands after the winner that declares it
abbrev pub IsDeclaredBy : List ℕ → ℕ → Option ℕ → Type 0
IsDeclaredBy winners place None = Unit {0}
IsDeclaredBy winners place (Some by) = (by < place) × Contains winners by

-- rows and their winners: each row stands as its declaration says, and after its declaring winner
pub record AreWellFormed (rows : List Row) (winners : List ℕ) : Type 0 where
  pub winning : AreWinners rows winners
  pub as_declared : All (λ row. row ≡ row_of row.by row.index row.decl) rows
  pub declared_by : (place : ℕ) (row : Row) → slice_get rows place ≡ Some row → IsDeclaredBy winners place row.by

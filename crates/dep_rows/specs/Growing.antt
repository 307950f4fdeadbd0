-- Rows that grow at their end, and the winners among the new ones.
use Rattle.std.specs.Prelude.{◌≡◌, ℕ, ◌+◌, ◌<◌, ◌≤◌, ◌&&◌, is_none, nat_eq, List, [], ◌∷◌, ◌++◌, length, if◌then◌else◌, slice_get, Option, Some, Ok, Err, IfSome}
use Rattle.std.specs.Cmp.Lexicographic.{pointwise}
use Rattle.indexmap.specs.IndexMap.{IndexMap, get}
use Rattle.mx_base.specs.Blame.{Blame}
use Rattle.mx_base.specs.Blame.Blame.{Input}
use Rattle.dep_options.specs.declared.decl.Decl.{Decl}
use Rattle.dep_rows.specs.declared.row.Row.{Row}
use Rattle.dep_rows.specs.declared.error.RowsError.{RowsError}
use Rattle.dep_rows.specs.declared.error.RowsError.TheVariants.{Children, TooManyRows, OutOfMemory}
use Rattle.dep_rows.specs.Rows.{ChildrenOf, rows_from, winner_of, most_rows}

-- the place of the row that comes after these, where it wins
abbrev pub next_winner : List Row → Row → List ℕ
next_winner rows row = if row.required && is_none (winner_of rows row.app) then length rows ∷ [] else []

-- the places of the winners among the rows that come after these
abbrev pub next_winners : List Row → List Row → List ℕ
next_winners rows [] = []
next_winners rows (row ∷ more) = next_winner rows row ++ next_winners (rows ++ row ∷ []) more

-- the map has the winner of each app
abbrev pub KnowsWinners : {Hasher : Type 0} → IndexMap (List ℕ) ℕ Hasher → List Row → Type 0
KnowsWinners by_app rows = (app : List ℕ) → get (pointwise nat_eq) by_app app ≡ winner_of rows app

-- the children of the winner at a place have come at the end, the known ones where they are told
pub record BringsIn {Known Fault : Type 0} (children_of : Known → ChildrenOf Fault) (meaning : Option Known) (winner : ℕ) (old_rows new_rows : List Row) (old_winners new_winners : List ℕ) : Type 0 where
  pub row : Row
  pub decls : List Decl
  pub stands : slice_get old_rows winner ≡ Some row
  pub answer : IfSome meaning (λ known. children_of known row.app row.decl (Ok decls))
  pub rows : new_rows ≡ old_rows ++ rows_from (Some winner) 0 decls
  pub winners : new_winners ≡ old_winners ++ next_winners old_rows (rows_from (Some winner) 0 decls)
  pub few : length new_rows ≤ most_rows

-- why the children of the winner at a place can't come
abbrev pub Hinders : {Fault : Type 0} → (Fault → Blame) → ChildrenOf Fault → List Row → ℕ → RowsError Fault → Type 0
Hinders blame children rows winner (Children fault) = (row : Row) × (slice_get rows winner ≡ Some row) × (blame fault ≡ Input → children row.app row.decl (Err fault))
Hinders blame children rows winner TooManyRows =
    (row : Row) × (decls : List Decl) × (slice_get rows winner ≡ Some row) × children row.app row.decl (Ok decls) × (most_rows < length rows + length decls)
Hinders blame children rows winner OutOfMemory = Unit {0}

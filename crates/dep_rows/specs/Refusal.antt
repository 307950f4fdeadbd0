-- What the rows of a root are, or why there are none.
use Rattle.std.specs.Prelude.{List, Result, Ok, Err, IfOk}
use Rattle.dep_options.specs.declared.decl.Decl.{Decl}
use Rattle.dep_rows.specs.declared.error.RowsError.{RowsError}
use Rattle.dep_rows.specs.declared.error.RowsError.TheVariants.{Children, TooManyRows, OutOfMemory}
use Rattle.dep_rows.specs.Listed.{Listed, IsWithinLimit}
use Rattle.dep_rows.specs.Rows.{ChildrenOf, AreRows, PassesLimit, Meets}

abbrev pub IsListing : {Fault : Type 0} → ChildrenOf Fault → List Decl → Result Listed (RowsError Fault) → Type 0
IsListing children root (Ok listed) = AreRows children root listed.rows listed.winners
IsListing children root (Err (Children fault)) = Meets children root fault
IsListing children root (Err TooManyRows) = PassesLimit children root
IsListing children root (Err OutOfMemory) = ⊥

-- there are rows within the limit, or the limit is passed, or a winner is met whose children aren't known
pub record HasOutcome {Fault : Type 0} (children : ChildrenOf Fault) (root : List Decl) : Type 0 where
  pub outcome : Result Listed (RowsError Fault)
  pub is : IsListing children root outcome
  pub within : IfOk outcome IsWithinLimit

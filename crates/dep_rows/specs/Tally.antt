-- How often children were asked for, and how many declarations came.
use Rattle.std.specs.Prelude.{◌≡◌, ℕ, ◌+◌, ◌<◌, ◌≤◌, ◌⊎◌, length, Result, Ok, Err}
use Rattle.dep_rows.specs.declared.error.RowsError.{RowsError}
use Rattle.dep_rows.specs.declared.error.RowsError.TheVariants.{Children, TooManyRows, OutOfMemory}
use Rattle.dep_rows.specs.declared.tally.Tally.{Tally}
use Rattle.dep_rows.specs.Listed.{Listed}
use Rattle.dep_rows.specs.Rows.{most_rows}

-- with a call more, which gave so many declarations
abbrev pub one_more : Tally → ℕ → Tally
one_more tally count = record { calls = tally.calls + 1; given = tally.given + count; before = tally.given }

-- one call gave as many declarations as there are more rows
pub record AsksOne (old_rows new_rows : ℕ) (old new : Tally) : Type 0 where
  pub calls : new.calls ≡ old.calls + 1
  pub given : new.given + old_rows ≡ old.given + new_rows

-- with the call that ends the rows: where they are too many, it gave more declarations than these rows leave room for; where
-- it is refused, it gave none
abbrev pub EndsWith : {Fault : Type 0} → ℕ → Tally → Tally → RowsError Fault → Type 0
EndsWith rows old new (Children fault) = new ≡ old
EndsWith rows old new TooManyRows = (count : ℕ) × (new ≡ one_more old count) × (most_rows < rows + count)
EndsWith rows old new OutOfMemory = Unit {0}

-- the declarations of the root and those that were given are so many rows, and there was a call for each winner that was asked
pub record HasAsked (root rows asked : ℕ) (old new : Tally) : Type 0 where
  pub calls : new.calls ≡ old.calls + asked
  pub given : root + new.given ≡ old.given + rows

-- with the last call, and not before, the declarations passed the limit
pub record PassesAtLast (root : ℕ) (old new : Tally) : Type 0 where
  pub asked : old.calls < new.calls
  pub within : root + new.before ≤ old.given + most_rows
  pub past : old.given + most_rows < root + new.given

-- what is asked of the children: each winner once, where there are rows; and where they are too many, nobody after the
-- declarations have passed the limit; where children can't be had, the declarations haven't passed it
abbrev pub Asks : {Fault : Type 0} → ℕ → Tally → Tally → Result Listed (RowsError Fault) → Type 0
Asks root old new (Ok listed) = HasAsked root (length listed.rows) (length listed.winners) old new
Asks root old new (Err TooManyRows) = ((new ≡ old) × (most_rows < root)) ⊎ PassesAtLast root old new
Asks root old new (Err (Children fault)) = root + new.given ≤ old.given + most_rows
Asks root old new (Err OutOfMemory) = Unit {0}

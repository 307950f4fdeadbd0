-- Whom the errors of a listing blame.
use Rattle.mx_base.specs.Blame.{Blame}
use Rattle.mx_base.specs.Blame.Blame.{Input, Memory}
use Rattle.dep_rows.specs.declared.error.RowsError.{RowsError}
use Rattle.dep_rows.specs.declared.error.RowsError.TheVariants as rows

-- by whom the faults of the children blame
abbrev pub rows_blame : {Fault : Type 0} → (Fault → Blame) → RowsError Fault → Blame
rows_blame blame (rows.Children fault) = blame fault
rows_blame blame rows.TooManyRows = Input
rows_blame blame rows.OutOfMemory = Memory

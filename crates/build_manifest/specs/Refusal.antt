-- What reading a mark answers.
use Rattle.std.specs.Prelude.{ℕ, List, Result, Ok, Err}
use Rattle.mx_base.specs.Blame.{Blame}
use Rattle.mx_base.specs.Blame.Blame.{Input, Memory}
use Rattle.reading.specs.Refusal.{IsRefusedAt}
use Rattle.build_manifest.specs.declared.error.MarkError.{MarkError}
use Rattle.build_manifest.specs.declared.error.MarkError.TheVariants.{Refused, OutOfMemory}
use Rattle.build_manifest.specs.Mark.{MarkView}
use Rattle.build_manifest.specs.Text.{IsSpelled, Spells}

abbrev pub blame_of : MarkError → Blame
blame_of (Refused at) = Input
blame_of OutOfMemory = Memory

-- the mark whose text the bytes are, or the length of the longest prefix that begins one
abbrev pub IsReading : List ℕ → Result MarkView MarkError → Type 0
IsReading bytes (Ok mark) = Spells bytes mark
IsReading bytes (Err (Refused at)) = IsRefusedAt IsSpelled bytes at
IsReading bytes (Err OutOfMemory) = ⊥

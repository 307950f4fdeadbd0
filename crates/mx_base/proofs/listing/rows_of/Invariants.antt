use Rattle.std.proofs.Common.{◌≡◌, take}
use Rattle.std.specs.List.{All}
use Rattle.mx_base.specs.Listing.{IsRow, rows_of}
use Rattle.mx_base.proofs.listing.rows_of.Given as goal

abbrev pub invariant-loop-file : goal.invariant-loop-file
invariant-loop-file l = record { rows : l.rows.items ≡ rows_of (take l.file-index l.files); each : All IsRow l.rows.items }

use Rattle.std.proofs.Common.{◌≡◌, ◌++◌}
use Rattle.mx_base.specs.Listing.{row_text}
use Rattle.build_manifest.proofs.Pushes.{texts_to}
use Rattle.build_manifest.proofs.writing.push_rows.Given as goal

abbrev pub invariant-loop-row : goal.invariant-loop-row
invariant-loop-row l = l.text.items ≡ l.fn.text.items ++ texts_to row_text l.row-index l.rows

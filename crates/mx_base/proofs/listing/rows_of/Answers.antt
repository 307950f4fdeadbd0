use Rattle.std.proofs.Common.{List, sym, subst, arith}
use Rattle.std.specs.List.{All}
use Rattle.std.proofs.lemmas.Grind.{common_steps}
use Rattle.std.proofs.lemmas.List.Elements.{All-push}
use Rattle.mx_base.specs.declared.row.FileRow.{FileRow}
use Rattle.mx_base.specs.Listing.{IsRow}
use Rattle.mx_base.proofs.listing.rows_of.Goals as goal

pub loop-file-preserved : goal.loop-file-preserved
loop-file-preserved c =
    let each = All-push IsRow c.loop-file.rows.items c.in_ok-row_of.field-0 c.loop-file.invariant.each c.in_ok-row_of.ensures.sound in
    record { rows = grind (arith, common_steps); each = subst (All IsRow) (sym {A = List FileRow} c.in_ok-push.ensures.items) each }

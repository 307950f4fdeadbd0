use Rattle.std.proofs.Common.{◌≡◌, [], ◌++◌, length}
use Rattle.std.specs.Prelude.{flat_map}
use Rattle.reading.specs.Field.{FitInTurn}
use Rattle.build_manifest.specs.Lines.{HasLeads, lines_of}
use Rattle.build_manifest.specs.Mark.{LineFits}
use Rattle.build_manifest.specs.Text.{line_text}
use Rattle.build_manifest.proofs.rows.read_lines.Given as goal

abbrev pub invariant-lines : goal.invariant-lines
invariant-lines l = record {
  leads : HasLeads l.with_digests l.rows.digests.items l.rows.rows.items;
  many : length l.rows.rows.items ≡ l.counter;
  fits : FitInTurn (LineFits l.with_digests) [] (lines_of l.with_digests l.rows.digests.items l.rows.rows.items);
  cut : l.text ≡ flat_map line_text (lines_of l.with_digests l.rows.digests.items l.rows.rows.items) ++ l.rest;
}

use Rattle.std.proofs.Common.{◌≡◌, [], ◌++◌, length}
use Rattle.std.specs.Prelude.{flat_map}
use Rattle.reading.specs.Field.{FitInTurn}
use Rattle.build_manifest.specs.Mark.{NeedFits}
use Rattle.build_manifest.specs.Text.{need_text}
use Rattle.build_manifest.proofs.parsing.read_listed.Given as goal

abbrev pub invariant-needs : goal.invariant-needs
invariant-needs l = record {
  many : length l.needs.listed.items ≡ l.counter;
  fits : FitInTurn NeedFits [] l.needs.listed.items;
  cut : l.text ≡ flat_map need_text l.needs.listed.items ++ l.rest;
}

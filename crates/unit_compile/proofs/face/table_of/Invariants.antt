use Rattle.std.proofs.Common.{◌≡◌, ℕ, List, drop}
use Rattle.std.specs.Option.{option_or}
use Rattle.unit_compile.specs.Faces.{value_of}
use Rattle.unit_compile.specs.Views.{exports_of, in_table}
use Rattle.unit_compile.proofs.face.table_of.Given as goal

abbrev pub invariant-loop-name : goal.invariant-loop-name
invariant-loop-name l = (name : List ℕ) → option_or (value_of (exports_of (drop l.name-index l.exports)) name) (in_table l.table name) ≡ value_of (exports_of l.exports) name

-- Files kept as entries of a map.
use Rattle.std.specs.Prelude.{ℕ, List}
use Rattle.mx_base.specs.declared.file.File.{File}

abbrev pub file_of : List ℕ × List ℕ → File
file_of entry = record { path = entry.0; bytes = entry.1 }

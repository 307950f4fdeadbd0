-- What a manifest states, behind references.
use Rattle.std.specs.Prelude.{ℕ, List, Option, option_and_then}
use Rattle.std.specs.Option.{option_copied}
use Rattle.term_values.specs.declared.term.Term.{Term}
use Rattle.term_values.specs.Views.{string_of}
use Rattle.project_file.specs.declared.manifest.Header.{Header}
use Rattle.project_file.specs.Compilers.{if_word}
use Rattle.project_file.specs.Manifest.{Stated}

-- a word of a program: a string that isn't empty
abbrev pub word_of : Term → Option (List ℕ)
word_of word = option_and_then if_word (string_of word)

-- what a manifest states
abbrev pub stated_in : Header → Stated
stated_in header = record { app = header.app; version = header.version; deps = option_copied header.deps }

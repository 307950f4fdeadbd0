-- What stands in a declaration, as it is read.
use Rattle.std.specs.Prelude.{ℕ, List, Option, option_map}
use Rattle.std.specs.Option.{option_copied}
use Rattle.dep_options.specs.declared.stated.Stated.{Stated}
use Rattle.dep_options.specs.Decls.{Written}
use Rattle.term_values.specs.Views.{Named, named}

-- what is written behind the references
abbrev pub written_by : Stated → Written
written_by s = record { app = s.app; requirement = option_copied s.requirement; options = named s.options.items }

-- what is written, where there is an app
abbrev pub written_as : Option (List ℕ) → Option (List ℕ) → List Named → Option Written
written_as app requirement options = option_map (λ name. record { app = name; requirement = requirement; options = options }) app

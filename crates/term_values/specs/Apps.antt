-- Names of apps in terms.
use Rattle.std.specs.Prelude.{ℕ, List, Option, Some, None, option_and_then, if◌then◌else◌}
use Rattle.term_values.specs.declared.term.Term.{Term}
use Rattle.term_values.specs.Views.{atom_of}
use Rattle.mx_base.specs.AppName.{is_app_name}

-- the name, where an app may have it
abbrev pub if_app : List ℕ → Option (List ℕ)
if_app name = if is_app_name name then Some name else None

-- an atom that is the name of an app
abbrev pub app_of : Term → Option (List ℕ)
app_of t = option_and_then if_app (atom_of t)

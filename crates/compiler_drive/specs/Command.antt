-- By what a dependency is compiled.
use Rattle.std.specs.Prelude.{ℕ, not, ◌==◌, List, [], filter, bytes_eq}
use Rattle.std.specs.List.{slice_split}
use Rattle.compile_model.specs.declared.how.How.{How}
use Rattle.compile_model.specs.declared.how.How.TheVariants.{Nothing, Program}
use Rattle.dep_options.specs.declared.decl.CompileBy.{CompileBy}
use Rattle.dep_options.specs.declared.decl.CompileBy.TheVariants as by
use Rattle.dep_options.specs.declared.decl.Manager.{Manager}
use Rattle.dep_options.specs.declared.decl.Manager.TheVariants.{Mix, Rebar3, Make}
use Rattle.project_file.specs.declared.settings.Settings.{Settings}

-- a text cut at its runs of spaces
abbrev pub words_in : List ℕ → List (List ℕ)
words_in text = filter (λ piece. not (bytes_eq piece [])) (slice_split (λ byte. byte == 32) text)

-- what is set for a manager
abbrev pub set_for : Settings → Manager → How
set_for settings Mix = settings.mix
set_for settings Rebar3 = settings.rebar3
set_for settings Make = settings.make

-- by what a dependency with this manager is compiled whose declaration says this
abbrev pub command : Settings → Manager → CompileBy → How
command settings manager by.Manager = set_for settings manager
command settings manager (by.Command text) = Program (words_in text)
command settings manager by.Nothing = Nothing

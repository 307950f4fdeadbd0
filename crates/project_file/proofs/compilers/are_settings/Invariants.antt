use Rattle.std.proofs.Common.{◌≡◌, drop}
use Rattle.std.specs.List.{list_all}
use Rattle.project_file.specs.Compilers.{is_setting}
use Rattle.term_values.specs.Views.{named}
use Rattle.project_file.proofs.compilers.are_settings.Given as goal

abbrev pub invariant-loop-name : goal.invariant-loop-name
invariant-loop-name l = list_all is_setting (named (drop l.name-index l.entries)) ≡ list_all is_setting (named l.entries)

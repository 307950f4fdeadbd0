use Rattle.std.proofs.Common.{◌≡◌, drop}
use Rattle.dep_options.specs.Options.{first_of}
use Rattle.term_values.specs.Views.{named}
use Rattle.project_file.proofs.entries.first.Given as goal

abbrev pub invariant-loop-key : goal.invariant-loop-key
invariant-loop-key l = first_of l.name (named (drop l.key-index l.entries)) ≡ first_of l.name (named l.entries)

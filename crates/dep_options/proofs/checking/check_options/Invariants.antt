use Rattle.std.proofs.Common.{◌≡◌, ℕ, List, [], take, drop, bytes_eq}
use Rattle.std.specs.List.{list_any}
use Rattle.term_values.specs.Views.{named}
use Rattle.dep_options.specs.Options.{has_name, first_fault}
use Rattle.dep_options.proofs.checking.check_options.Given as goal

abbrev pub invariant-loop-name : goal.invariant-loop-name
invariant-loop-name l = record {
  faults : first_fault l.base (named (take l.name-index l.options)) (named (drop l.name-index l.options)) ≡ first_fault l.base [] (named l.options);
  seen : (q : List ℕ) → list_any (λ name. bytes_eq q name.now) l.seen.items ≡ has_name q (named (take l.name-index l.options));
}

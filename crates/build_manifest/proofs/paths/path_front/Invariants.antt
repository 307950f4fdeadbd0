use Rattle.std.specs.Option.{option_copied}
use Rattle.build_manifest.proofs.PathFronts.{HasLed}
use Rattle.build_manifest.proofs.paths.path_front.Given as goal

abbrev pub invariant-bytes : goal.invariant-bytes
invariant-bytes l = HasLed (option_copied l.fn.before) l.earlier l.text l.i l.place

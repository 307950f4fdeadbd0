use Rattle.std.proofs.Common.{◌≡◌, ◌++◌, drop}
use Rattle.std.specs.Prelude.{flat_map}
use Rattle.compiler_drive.specs.Drive.{need_words}
use Rattle.compiler_drive.proofs.driving.push_needs.Given as goal

abbrev pub invariant-loop-need : goal.invariant-loop-need
invariant-loop-need l =
    l.words.items ++ flat_map (need_words l.env) (drop l.need-index l.needs) ≡ l.fn.words.items ++ flat_map (need_words l.env) l.needs

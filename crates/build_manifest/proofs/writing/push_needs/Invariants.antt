use Rattle.std.proofs.Common.{◌≡◌, ◌++◌}
use Rattle.build_manifest.specs.Text.{need_text}
use Rattle.build_manifest.proofs.Pushes.{texts_to}
use Rattle.build_manifest.proofs.writing.push_needs.Given as goal

abbrev pub invariant-loop-need : goal.invariant-loop-need
invariant-loop-need l = l.text.items ≡ l.initial.text.items ++ texts_to need_text l.need-index l.needs

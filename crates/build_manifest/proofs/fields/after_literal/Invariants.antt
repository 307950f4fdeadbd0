use Rattle.std.proofs.Common.{◌≡◌, ◌≤◌, length, take}
use Rattle.build_manifest.proofs.fields.after_literal.Given as goal

abbrev pub invariant-bytes : goal.invariant-bytes
invariant-bytes l = (l.i ≤ length l.text) × (take l.i l.literal ≡ take l.i l.text)

use Rattle.std.proofs.Common.{◌≡◌, drop}
use Rattle.version_req.specs.Reading.{without_spaces}
use Rattle.version_req.proofs.scan.after_spaces.Given as goal

abbrev pub invariant-bytes : goal.invariant-bytes
invariant-bytes l = without_spaces l.text ≡ without_spaces (drop l.i l.text)

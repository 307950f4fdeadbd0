use Rattle.std.proofs.Common.{◌≡◌}
use Rattle.unit_compile.specs.Lines.{face_bytes}
use Rattle.unit_compile.specs.Views.{needs_in}
use Rattle.unit_compile.proofs.NeedLemmas.{face_from}
use Rattle.unit_compile.proofs.needs.Needs.face.Given as goal

abbrev pub invariant-loop-place : goal.invariant-loop-place
invariant-loop-place l = face_from l.place l.self.apps.now l.self.outcomes.now l.app l.unit ≡ face_bytes (needs_in l.self) l.app l.unit

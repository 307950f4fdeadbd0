use Rattle.std.proofs.Common.{◌≡◌, ◌++◌, flat_map}
use Rattle.unit_compile.specs.Faces.{face_line, face_text}
use Rattle.unit_compile.proofs.face.face_text.Given as goal

abbrev pub invariant-loop-name : goal.invariant-loop-name
invariant-loop-name l = l.text.items ++ flat_map face_line l.name-iterator ≡ face_text l.exports.entries

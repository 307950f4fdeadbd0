use Rattle.std.proofs.Common.{◌≡◌, ◌+◌, map, drop, length}
use Rattle.unit_compile.proofs.FaceLemmas.{IsReadUpTo}
use Rattle.unit_compile.proofs.face.read_face.Given as goal

abbrev pub invariant-loop-line : goal.invariant-loop-line
invariant-loop-line l = record {
  left : l.left + l.line-index ≡ length l.line-items;
  read : IsReadUpTo l.exports.items l.before (map (λ line. line.now) (drop l.line-index l.line-items)) l.text;
}

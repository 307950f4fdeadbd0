use Rattle.std.proofs.Common.{◌≡◌, ◌+◌, ◌++◌, map, drop, Some, is_none, position, option_map}
use Rattle.session_script.specs.Elements.{edit_of}
use Rattle.session_script.proofs.reader.edits_in.Given as goal

abbrev pub invariant-loop-place : goal.invariant-loop-place
invariant-loop-place l = record {
  all : map Some l.edits.items ++ map edit_of (drop l.place l.elements) ≡ map edit_of l.elements;
  first : option_map (λ k. l.place + k) (position (λ element. is_none (edit_of element)) (drop l.place l.elements))
      ≡ position (λ element. is_none (edit_of element)) l.elements;
}

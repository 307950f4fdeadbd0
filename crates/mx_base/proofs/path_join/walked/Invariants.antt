use Rattle.std.proofs.Common.{◌≡◌, drop, map}
use Rattle.std.specs.List.{slice_split}
use Rattle.mx_base.specs.Path.{is_slash, segments_of}
use Rattle.mx_base.specs.Join.{walk}
use Rattle.mx_base.proofs.path_join.walked.Given as goal

abbrev pub invariant-loop-piece : goal.invariant-loop-piece
invariant-loop-piece l = walk (map (λ s. s.now) l.segments.items) (map (λ s. s.now) (drop l.piece-index l.piece-items)) ≡ walk (segments_of l.base) (slice_split is_slash l.text)

use Rattle.std.proofs.Common.{◌≡◌, ◌++◌, ◌∷◌, [], drop}
use Rattle.mx_base.specs.Path.{text_after}
use Rattle.mx_base.proofs.path_folder.start_below.Given as goal

abbrev pub invariant-loop-place : goal.invariant-loop-place
invariant-loop-place l = text_after (drop l.place l.byte-items ++ 47 ∷ []) (drop l.place l.path) ≡ text_after (l.byte-items ++ 47 ∷ []) l.path

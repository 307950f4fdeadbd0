use Rattle.std.proofs.Common.{map, ap}
use Rattle.std.specs.Prelude.{string_bytes}
use Rattle.mx_base.proofs.PathLemmas.{path_of_split}
use Rattle.mx_base.proofs.path.RelPath.of_segments.Goals as goal

pub from_text-requires : goal.from_text-requires
from_text-requires c =
    path_of_split (map (λ s. s.now) c.args.segments.now) (map (λ s. s.now) c.in-Some.rest.now) c.in-Some.first.now.now (string_bytes c.in_ok-text-in-Some.text)
    (ap (map (λ s. s.now)) c.in-Some.ensures.cases.0) c.requires c.in_ok-text-in-Some.ensures

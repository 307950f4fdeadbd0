use Rattle.std.proofs.Common.{map, sym, ap, ◌∙◌}
use Rattle.std.proofs.lemmas.List.{drop_all}
use Rattle.mx_base.specs.Path.{segments_of}
use Rattle.mx_base.specs.Join.{walk}
use Rattle.mx_base.proofs.PathLemmas.{walked_segments}
use Rattle.mx_base.proofs.path_join.walked.Goals as goal

pub returns-clause-segments : goal.returns-clause-segments
returns-clause-segments c =
    let names = map (λ s. s.now) c.loop-piece.segments.items in
    walked_segments (segments_of c.args.base.now) c.args.text.now names c.in_ok-segments.ensures.proper c.requires
    (sym c.loop-piece.invariant ∙ ap (λ ps. walk names (map (λ s. s.now) ps)) (drop_all c.loop-piece.piece-index c.deref-piece-items.result.now c.loop-piece-test.false))

use Rattle.std.proofs.Common.{◌≡◌, ◌++◌, ◌∷◌, [], length, codes, decimal, flat_map, ap, ◌∙◌}
use Rattle.std.proofs.lemmas.Result.{on_ok_weaker}
use Rattle.build_manifest.specs.declared.mark.MarkFormat.TheVariants.{Two}
use Rattle.build_manifest.specs.Mark.{diagnosed}
use Rattle.build_manifest.specs.Text.{line_text}
use Rattle.build_manifest.proofs.Pushes.{sources_pushed}
use Rattle.build_manifest.proofs.writing.push_sources.Goals as goal

pub returns-in-Two : goal.returns-in-Two
returns-in-Two c =
    let digests = c.as_slice.result.now in
    let old = c.args.text.now.items in
    let rows = c.args.rows.now in
    let same : c.args.format.now ≡ Two digests = cc (c.in-Two.is, c.as_slice.ensures) in
    let lines = flat_map line_text (diagnosed digests rows) in
    on_ok_weaker c.push_diagnosed.result
    (λ e. e ∙ ap (λ t. t ++ lines) c.in_ok-push_number.ensures
    ∙ ap (λ t. (t ++ (decimal (length rows) ++ 10 ∷ [])) ++ lines) c.in_ok-extend_from_slice.ensures.items
    ∙ sources_pushed old (codes "sources ") c.args.format.now digests rows same)
    c.push_diagnosed.ensures

use Rattle.std.proofs.Common.{◌≡◌, ◌++◌, length, ap, ◌∙◌, arith}
use Rattle.mx_base.specs.Listing.{row_text}
use Rattle.build_manifest.proofs.Pushes.{all_texts, plain_texts, texts_to}
use Rattle.build_manifest.proofs.writing.push_rows.Goals as goal

pub returns : goal.returns
returns c =
    let end : c.loop-row.row-index ≡ length c.args.rows.now = omega arith in
    c.loop-row.invariant ∙ ap (λ n. c.args.text.now.items ++ texts_to row_text n c.args.rows.now) end
    ∙ ap (λ t. c.args.text.now.items ++ t) (all_texts row_text c.args.rows.now ∙ plain_texts c.args.rows.now)

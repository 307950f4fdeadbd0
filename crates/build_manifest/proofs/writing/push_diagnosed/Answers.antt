use Rattle.std.proofs.Common.{◌≡◌, ◌++◌, ◌∷◌, [], length, sym, ap, ◌∙◌, arith}
use Rattle.hex.specs.Hex.{encode_lower}
use Rattle.mx_base.specs.Listing.{row_text}
use Rattle.build_manifest.proofs.Pushes.{all_diagnosed, diagnosed_to, one_diagnosed_more, regroup}
use Rattle.build_manifest.proofs.writing.push_diagnosed.Goals as goal

pub loop-i-preserved : goal.loop-i-preserved
loop-i-preserved c =
    let digest = c.index-digests-i.result in
    let row = c.index-rows-i.result in
    let old = c.args.text.now.items in
    let before = diagnosed_to c.loop-i.i c.args.digests.now c.args.rows.now in
    c.in_ok-push_row.ensures ∙ ap (λ t. t ++ row_text row) c.in_ok-push_digest.ensures
    ∙ ap (λ t. (t ++ (encode_lower digest ++ 32 ∷ [])) ++ row_text row) c.loop-i.invariant
    ∙ regroup old before (encode_lower digest) (row_text row)
    ∙ ap (λ t. old ++ t)
    (sym (one_diagnosed_more c.args.digests.now c.args.rows.now c.loop-i.i digest row c.requires c.loop-i-test.true c.index-digests-i.is c.index-rows-i.is))

pub returns : goal.returns
returns c =
    let end : c.loop-i.i ≡ length c.args.rows.now = omega arith in
    c.loop-i.invariant ∙ ap (λ n. c.args.text.now.items ++ diagnosed_to n c.args.digests.now c.args.rows.now) end
    ∙ ap (λ t. c.args.text.now.items ++ t) (all_diagnosed c.args.digests.now c.args.rows.now c.requires)

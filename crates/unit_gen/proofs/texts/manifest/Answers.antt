use Rattle.std.proofs.Common.{◌≡◌, ℕ, List, [], ◌∷◌, codes, map, string_bytes, ap, ◌∙◌}
use Rattle.std.specs.List.{concat}
use Rattle.unit_gen.specs.Texts.{declared}
use Rattle.unit_gen.proofs.TextLemmas.{same_joined}
use Rattle.unit_gen.proofs.texts.manifest.Goals as goal

pub returns : goal.returns
returns c =
    let same = ap (λ all. map (λ one. string_bytes one) all) c.deref.ensures.value ∙ c.in_ok-all.ensures in
    let list = c.as_str.ensures.value ∙ c.in_ok-list.ensures.ok
    ∙ same_joined (λ one. string_bytes one) (declared c.args.folder.now) (codes ", ") c.deref.result.now c.args.numbers.now same in
    c.in_ok-text.ensures.ok
    ∙ ap (λ (part : List ℕ). concat (
    codes "[app: :" ∷ c.args.head.app.now ∷ codes ", version: \"" ∷ c.args.head.version.now ∷ codes "\", deps: [" ∷ part ∷
    codes "]]\n" ∷ [])) list

use Rattle.std.proofs.Common.{◌≡◌, ℕ, List, [], ◌∷◌, codes, flat_map, ap, ◌∙◌}
use Rattle.std.specs.List.{concat}
use Rattle.unit_gen.specs.Texts.{added, use_line}
use Rattle.unit_gen.proofs.texts.unit_text.Goals as goal

abbrev unit : (name uses value sum : List ℕ) → List ℕ
unit name uses value sum = concat (
    codes "unit " ∷ name ∷ codes "\n" ∷ uses ∷ codes "let base = " ∷ value ∷ codes "\nlet total = base" ∷ sum ∷
    codes "\nexport base\nexport total\n" ∷ [])

pub returns : goal.returns
returns c =
    let name = c.as_str.ensures.value ∙ c.in_ok-name.ensures in
    let uses = c.as_str-2.ensures.value ∙ c.in_ok-uses.ensures ∙ ap (flat_map use_line) c.deref.ensures.value in
    let value = c.as_str-3.ensures.value ∙ c.in_ok-value.ensures in
    let sum = c.as_str-4.ensures.value ∙ c.in_ok-sum.ensures ∙ ap (flat_map added) c.deref-2.ensures.value in
    c.in_ok-text.ensures.ok ∙ (λ i. unit (name i) (uses i) (value i) (sum i))

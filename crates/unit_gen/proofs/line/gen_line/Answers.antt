use Rattle.std.proofs.Common.{◌≡◌, ℕ, List, [], ◌∷◌, ◌++◌, codes, ap, ◌∙◌}
use Rattle.std.specs.List.{concat}
use Rattle.unit_gen.proofs.line.gen_line.Goals as goal

abbrev line : (count start again needs built : List ℕ) → List ℕ
line count start again needs built = concat (
    codes "gen " ∷ count ∷ codes " " ∷ start ∷ codes ": " ∷ again ∷ codes " dependencies, " ∷ needs ∷ codes " needs, " ∷ built ∷
    codes " built, tree " ∷ [])

pub returns : goal.returns
returns c =
    let count = c.as_str.ensures.value ∙ c.in_ok-count.ensures in
    let start = c.as_str-2.ensures.value ∙ c.in_ok-start.ensures in
    let again = c.as_str-3.ensures.value ∙ c.in_ok-count.ensures in
    let needs = c.as_str-4.ensures.value ∙ c.in_ok-needs.ensures in
    let built = c.as_str-5.ensures.value ∙ c.in_ok-built.ensures in
    let head = c.bytes_of-text.ensures ∙ c.in_ok-text.ensures.ok ∙ (λ i. line (count i) (start i) (again i) (needs i) (built i)) in
    c.from_vec.ensures
    ∙ c.in_ok-push.ensures.items
    ∙ ap (λ (text : List ℕ). text ++ 10 ∷ []) (c.in_ok-extend_from_slice.ensures.items ∙ (λ i. head i ++ c.digits.ensures i))

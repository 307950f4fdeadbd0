use Rattle.std.proofs.Common.{◌∙◌, sym, ap, Some}
use Rattle.hex_messages.proofs.StandLemmas.{dependency_stands}
use Rattle.hex_messages.proofs.building.dependency_of.Goals as goal

pub returns : goal.returns
returns c =
    dependency_stands c.args.text.now c.in_ok-from_slice.field-0 c.in_ok-from_slice-2.field-0 c.is_optional.result c.in_ok-text_of.field-0
    c.in_ok-text_of-2.field-0 c.requires
    (λ fields s g there. c.required.ensures fields s g there ∙ ap (λ x. Some x) (sym c.in_ok-from_slice.ensures))
    (λ fields s g there. c.required-2.ensures fields s g there ∙ ap (λ x. Some x) (sym c.in_ok-from_slice-2.ensures))
    c.is_optional.ensures
    (λ fields s g. c.in_ok-text_of.ensures ∙ c.given.ensures fields s g)
    (λ fields s g. c.in_ok-text_of-2.ensures ∙ c.given-2.ensures fields s g)

use Rattle.std.proofs.Common.{◌∙◌, sym, ap, Some}
use Rattle.hex_messages.proofs.StandLemmas.{package_stands}
use Rattle.hex_messages.proofs.building.package_of.Goals as goal

pub returns : goal.returns
returns c =
    package_stands c.args.text.now c.in_ok-releases_of.field-0 c.in_ok-from_slice.field-0 c.in_ok-from_slice-2.field-0 c.requires
    c.in_ok-releases_of.ensures
    (λ fields s g there. c.required.ensures fields s g there ∙ ap (λ x. Some x) (sym c.in_ok-from_slice.ensures))
    (λ fields s g there. c.required-2.ensures fields s g there ∙ ap (λ x. Some x) (sym c.in_ok-from_slice-2.ensures))

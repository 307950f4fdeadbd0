use Rattle.std.proofs.Common.{◌∙◌, sym, ap, Some}
use Rattle.hex_messages.proofs.StandLemmas.{release_stands}
use Rattle.hex_messages.proofs.building.release_of.Goals as goal

pub returns : goal.returns
returns c =
    release_stands c.args.text.now c.in_ok-from_slice.field-0 c.in_ok-from_slice-2.field-0 c.in_ok-dependencies_of.field-0 c.in_ok-retired_of.field-0
    c.in_ok-checksum_of.field-0 c.requires
    (λ fields s g there. c.required.ensures fields s g there ∙ ap (λ x. Some x) (sym c.in_ok-from_slice.ensures))
    (λ fields s g there. c.required-2.ensures fields s g there ∙ ap (λ x. Some x) (sym c.in_ok-from_slice-2.ensures))
    c.in_ok-dependencies_of.ensures
    c.in_ok-retired_of.ensures
    (λ fields s g. c.in_ok-checksum_of.ensures ∙ c.given.ensures fields s g)

use Rattle.std.proofs.Common.{◌≡◌, List, Some, None, position, bytes_eq, slice_get, sym, ap, subst, ◌∙◌, rules}
use Rattle.hex_registry.specs.Picks.{Picked, picked_of}
use Rattle.hex_registry.proofs.PickSearch.{picked_at, picked_nowhere}
use Rattle.hex_registry.proofs.pick.Pick.picked.Goals as goal

pub returns-in-Some : goal.returns-in-Some
returns-in-Some c =
    c.picked_in.ensures ∙ ap (λ (ps : List Picked). slice_get ps c.in-Some.place) c.as_slice.ensures.value
    ∙ picked_at c.args.self.now c.args.name.now c.in-Some.place (sym c.index_of.ensures ∙ c.in-Some.is)

pub returns-in-None : goal.returns-in-None
returns-in-None c = sym (picked_nowhere c.args.self.now c.args.name.now (sym c.index_of.ensures ∙ c.in-None.is))

use Rattle.std.proofs.Common.{◌≡◌, sym, ◌∙◌, ap, List}
use Rattle.hex_registry.specs.Shelves.{shelf_of}
use Rattle.hex_registry.specs.declared.shelf.Shelf.{Shelf}
use Rattle.hex_registry.proofs.ShelfLemmas.{no_shelf, shelf_at}
use Rattle.hex_registry.proofs.registry.Registry.shelf.Goals as goal

pub returns-in-Some : goal.returns-in-Some
returns-in-Some c =
    let s = shelf_at c.self.inside.shelves.items c.self.inside.names.keys c.args.name.now c.in-Some.place c.self.inside.named
    (sym c.index_of.ensures ∙ c.in-Some.is) in
    cc (s, c.shelf_in.ensures, c.deref.ensures.value, c.self.view_is)

pub returns-in-None : goal.returns-in-None
returns-in-None c =
    let s = no_shelf c.self.inside.shelves.items c.self.inside.names.keys c.args.name.now c.self.inside.named (sym c.index_of.ensures ∙ c.in-None.is) in
    cc (s, c.self.view_is)

use Rattle.std.proofs.Common.{◌≡◌, List, None, Some, position, bytes_eq, sym, ap, subst, ◌∙◌, rules}
use Rattle.hex_registry.specs.Picks.{Picked}
use Rattle.hex_registry.proofs.PickSearch.{adds_nothing, inserted_adds, inserted_in_order}
use Rattle.hex_registry.proofs.pick.Pick.insert.Goals as goal

pub invariant_of-self : goal.invariant_of-self
invariant_of-self c =
    inserted_in_order c.insert_at.result c.self.inside.picks.items c.insert_at.new.picks.items (c.args.name, c.args.place) c.self.invariant
    (ap (position (λ (q : Picked). bytes_eq c.args.name q.0)) (sym c.deref.ensures.value) ∙ c.in-Err.ensures.0)
    c.insert_at.ensures.ok c.insert_at.ensures.err

pub returns-in-Ok-clause-ok : goal.returns-in-Ok-clause-ok
returns-in-Ok-clause-ok c =
    adds_nothing c.args.self.now (c.args.name, c.args.place) c.in-Ok.field-0
    (ap (position (λ (q : Picked). bytes_eq c.args.name q.0)) (sym c.self.view_is ∙ sym c.deref.ensures.value) ∙ c.in-Ok.ensures)

pub returns-in-Err-clause-ok : goal.returns-in-Err-clause-ok
returns-in-Err-clause-ok c =
    rw (← c.self.view_is) (inserted_adds c.insert_at.result c.self.inside.picks.items c.insert_at.new.picks.items (c.args.name, c.args.place)
    (ap (position (λ (q : Picked). bytes_eq c.args.name q.0)) (sym c.deref.ensures.value) ∙ c.in-Err.ensures.0)
    c.insert_at.ensures.ok)

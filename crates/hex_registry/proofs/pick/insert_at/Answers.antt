use Rattle.std.proofs.Common.{◌≡◌, ℕ, insert, ap, ◌∙◌}
use Rattle.hex_registry.proofs.PickLists.{inserted_is}
use Rattle.hex_registry.proofs.pick.insert_at.Goals as goal

pub returns-clause-ok : goal.returns-clause-ok
returns-clause-ok c =
    let items = c.args.picks.now.items in
    c.in_ok-insert.ensures.items ∙ ap (λ (n : ℕ). insert items n (c.args.name, c.args.place)) c.requires.place
    ∙ inserted_is items (c.args.name, c.args.place)

use Rattle.std.proofs.Common.{◌≡◌, List, map, sym, ap, ◌∙◌}
use Rattle.hex_registry.specs.Picks.{demand_refuses}
use Rattle.std.specs.List.{list_all}
use Rattle.hex_registry.specs.Shelves.{without_apps}
use Rattle.hex_pick.specs.Fitting.{takes_picked}
use Rattle.hex_pick.proofs.FitBeside.{any_mapped, refused_beside, taken_beside}
use Rattle.hex_pick.proofs.fitting.fits_beside.Goals as goal

pub returns-then-any_refuses : goal.returns-then-any_refuses
returns-then-any_refuses c =
    let asked = map (λ demand. demand.now) c.args.asked.now in
    refused_beside c.args.registry.now c.args.wants.now c.args.pick.now c.args.name.now c.args.offer.now asked c.requires.in_order c.requires.asked
    (sym (any_mapped (demand_refuses c.args.wants.now.overridden c.args.name.now c.args.offer.now) (λ demand. demand.now) c.args.asked.now)
    ∙ sym c.any_refuses.ensures ∙ c.if-any_refuses.true)

pub returns : goal.returns
returns c =
    let asked = map (λ demand. demand.now) c.args.asked.now in
    c.all_take.ensures
    ∙ ap (λ ds. list_all (takes_picked c.args.registry.now c.args.wants.now c.args.pick.now) (without_apps c.args.wants.now.pinned ds)) c.demands.ensures
    ∙ taken_beside c.args.registry.now c.args.wants.now c.args.pick.now c.args.name.now c.args.offer.now asked c.requires.in_order c.requires.asked
    (sym (any_mapped (demand_refuses c.args.wants.now.overridden c.args.name.now c.args.offer.now) (λ demand. demand.now) c.args.asked.now)
    ∙ sym c.any_refuses.ensures ∙ c.if-any_refuses.false)

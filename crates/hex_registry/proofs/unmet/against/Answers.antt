use Rattle.std.proofs.Common.{◌≡◌, Option, Some, None, option_copied, sym, ap, subst, ◌∙◌, rules}
use Rattle.hex_registry.specs.Breaches.{IsAgainst, first_want_against}
use Rattle.hex_registry.specs.Breaches.IsAgainst.{want, demand}
use Rattle.hex_registry.specs.declared.offer.Offer.{Offer}
use Rattle.hex_registry.specs.declared.unmet.By.{By}
use Rattle.hex_registry.specs.Shelves.{offer_at}
use Rattle.hex_registry.proofs.unmet.against.Goals as goal

pub returns-in-Some-first_want_against : goal.returns-in-Some-first_want_against
returns-in-Some-first_want_against c =
    want c.in-Some.offer.now (sym c.offer.ensures ∙ ap option_copied c.in-Some.is) (sym c.first_want_against.ensures ∙ c.in-Some-first_want_against.is)

pub returns-in_ok-by_package-in-Some-first_demand_against : goal.returns-in_ok-by_package-in-Some-first_demand_against
returns-in_ok-by_package-in-Some-first_demand_against c =
    subst (λ (b : By). IsAgainst c.args.registry.now c.args.wants.now c.args.pick.now c.args.picked.now b)
    (sym c.in_ok-by_package-in-Some-first_demand_against.ensures)
    (demand c.in-Some-first_demand_against.by.now c.in-Some.offer.now (sym c.offer.ensures ∙ ap option_copied c.in-Some.is) (search rules)
    (sym c.first_demand_against.ensures ∙ ap option_copied c.in-Some-first_demand_against.is))

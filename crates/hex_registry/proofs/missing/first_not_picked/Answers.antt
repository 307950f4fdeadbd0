use Rattle.std.proofs.Common.{◌≡◌, Option, Some, None, option_copied, sym, ap, subst, ◌∙◌}
use Rattle.hex_registry.specs.Breaches.{IsBreach, IsFirst, IsOfKind}
use Rattle.hex_registry.specs.declared.breach.Breach.{Breach}
use Rattle.hex_registry.proofs.MissingLemmas.{first_missing}
use Rattle.hex_registry.proofs.missing.first_not_picked.Goals as goal

pub returns-in_ok-not_picked-in-Some : goal.returns-in_ok-not_picked-in-Some
returns-in_ok-not_picked-in-Some c =
    subst (λ (b : Breach). IsFirst (IsOfKind (IsBreach c.args.registry.now c.args.wants.now c.args.pick.now) 0) (Some b))
    (sym c.in_ok-not_picked-in-Some.ensures)
    (first_missing c.args.registry.now c.args.wants.now c.args.pick.now (Some c.in-Some.name.now)
    (sym (ap option_copied c.in-Some.is) ∙ c.first_missing.ensures))

pub returns-in-None : goal.returns-in-None
returns-in-None c = first_missing c.args.registry.now c.args.wants.now c.args.pick.now None (sym (ap option_copied c.in-None.is) ∙ c.first_missing.ensures)

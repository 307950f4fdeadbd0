use Rattle.std.proofs.Common.{◌≡◌, Option, Some, option_copied, sym, ap, subst, ◌∙◌}
use Rattle.hex_registry.specs.Breaches.{IsBreach, IsFirst, IsOfKind}
use Rattle.hex_registry.specs.declared.breach.Breach.{Breach}
use Rattle.hex_registry.proofs.MissingLemmas.{first_not_candidate}
use Rattle.hex_registry.proofs.missing.first_not_candidate.Goals as goal

pub returns-in_ok-not_candidate-in-Some : goal.returns-in_ok-not_candidate-in-Some
returns-in_ok-not_candidate-in-Some c = λ wants.
    subst (λ (b : Breach). IsFirst (IsOfKind (IsBreach c.args.registry.now wants c.args.pick.now) 1) (Some b)) (sym c.in_ok-not_candidate-in-Some.ensures)
    (first_not_candidate c.args.registry.now wants c.args.pick.now c.in-Some.picked.now c.first_outside.ensures.in_order
    (sym c.first_outside.ensures.found ∙ ap option_copied c.in-Some.is))

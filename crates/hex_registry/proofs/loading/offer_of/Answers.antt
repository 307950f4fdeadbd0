use Rattle.std.proofs.Common.{Option, subst, rules}
use Rattle.semver.specs.declared.Version.{Version}
use Rattle.hex_registry.specs.Offers.{SaysVersion}
use Rattle.hex_registry.proofs.OfferSteps.{bad_offer, good_offer}
use Rattle.hex_registry.proofs.loading.offer_of.Goals as goal

pub returns-in_default : goal.returns-in_default
returns-in_default c =
    bad_offer c.args.name.now c.args.repository.now c.args.release.now _ _
    (subst (λ (o : Option Version). SaysVersion c.args.release.now.version o) c.in_default.is c.in_ok-version.ensures) (search rules) (search rules)

pub returns : goal.returns
returns c =
    good_offer c.args.name.now c.args.repository.now c.args.release.now _
    (subst (λ (o : Option Version). SaysVersion c.args.release.now.version o) c.in-Some.is c.in_ok-version.ensures) (search rules) c.in_ok-demands_of.ensures

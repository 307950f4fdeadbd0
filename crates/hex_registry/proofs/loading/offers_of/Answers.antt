use Rattle.std.proofs.Common.{List, ◌+◌, take, sym, subst}
use Rattle.std.proofs.lemmas.Result.{err_from_is_err_and}
use Rattle.hex_registry.specs.Offers.{AreOffers}
use Rattle.hex_registry.specs.declared.offer.Offer.{Offer}
use Rattle.hex_registry.proofs.OfferSteps.{offers_more, offers_refused, offers_whole}
use Rattle.hex_registry.proofs.loading.offers_of.Goals as goal

pub returns-in_err-offer_of : goal.returns-in_err-offer_of
returns-in_err-offer_of c =
    let p = err_from_is_err_and c.from_residual.result c.from_residual.ensures.1 in
    rw (p.1, p.2) (offers_refused c.args.name.now c.args.message.now c.as_slice-release-items.result.now c.loop-release.offers c.loop-release.release-index
    c.release-item.result _
    c.as_slice-release-items.ensures c.loop-release.invariant c.loop-release-test.true (sym c.release-item.is) c.in_err-offer_of.ensures)

pub loop-release-preserved : goal.loop-release-preserved
loop-release-preserved c =
    subst (λ (os : List Offer). AreOffers c.args.message.now.repository (take (c.loop-release.release-index + 1) c.as_slice-release-items.result.now) os)
    (sym c.in_ok-push.ensures.ok)
    (offers_more c.args.name.now c.args.message.now.repository c.as_slice-release-items.result.now c.loop-release.offers c.loop-release.release-index
    c.release-item.result c.in_ok-offer_of.field-0
    c.loop-release.invariant c.loop-release-test.true (sym c.release-item.is) c.in_ok-offer_of.ensures)

pub returns : goal.returns
returns c =
    offers_whole c.args.name.now c.args.message.now c.as_slice-release-items.result.now c.loop-release.offers c.loop-release.release-index
    c.as_slice-release-items.ensures c.loop-release-test.false c.loop-release.invariant

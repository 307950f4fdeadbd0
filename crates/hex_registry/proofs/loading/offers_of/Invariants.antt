use Rattle.std.proofs.Common.{take}
use Rattle.hex_registry.specs.Offers.{AreOffers}
use Rattle.hex_registry.proofs.loading.offers_of.Given as goal

abbrev pub invariant-loop-release : goal.invariant-loop-release
invariant-loop-release l = AreOffers l.message.repository (take l.release-index l.release-items) l.offers

use Rattle.std.proofs.Common.{take}
use Rattle.sha2.specs.Hashers.{Holds256}
use Rattle.mx_base.specs.Listing.{listing_text}
use Rattle.mx_base.proofs.rows_text.listing_digest.Given as goal

abbrev pub invariant-loop-row : goal.invariant-loop-row
invariant-loop-row l = Holds256 l.hasher (listing_text (take l.row-index l.row-items))

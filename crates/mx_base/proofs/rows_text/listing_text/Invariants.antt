use Rattle.std.proofs.Common.{◌≡◌, take}
use Rattle.mx_base.specs.Listing.{listing_text}
use Rattle.mx_base.proofs.rows_text.listing_text.Given as goal

abbrev pub invariant-loop-row : goal.invariant-loop-row
invariant-loop-row l = l.text.items ≡ listing_text (take l.row-index l.row-items)

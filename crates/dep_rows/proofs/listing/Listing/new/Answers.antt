use Rattle.dep_rows.proofs.WinnerOf.{knows_nothing}
use Rattle.dep_rows.proofs.listing.Listing.new.Goals as goal

pub invariant_of-result : goal.invariant_of-result
invariant_of-result c = record { knows = knows_nothing c.new-by_app.result c.new-rows.result.items c.new-rows.ensures.items c.new-by_app.ensures.empty }

use Rattle.mx_base.specs.Listing.{IsRow}
use Rattle.std.proofs.lemmas.List.Sorted.{All-permutation}
use Rattle.mx_base.proofs.ListingLemmas.{rows_apart, rows_keep_order}
use Rattle.mx_base.proofs.listing.listing_of.Goals as goal

pub put_in_order-requires : goal.put_in_order-requires
put_in_order-requires c = rw c.in_ok-rows.ensures.rows (rows_apart c.args.files.now c.requires)

pub invariant_of-result : goal.invariant_of-result
invariant_of-result c = record {
  in_order = c.put_in_order.ensures.in_order;
  each = All-permutation IsRow _ _ c.put_in_order.ensures.same c.in_ok-rows.ensures.each;
}

pub returns-clause-in_order : goal.returns-clause-in_order
returns-clause-in_order c =
    let made = c.in_ok-rows.ensures.rows in
    λ order. let kept = c.put_in_order.ensures.kept (rw made (rows_keep_order c.args.files.now order)) in cc

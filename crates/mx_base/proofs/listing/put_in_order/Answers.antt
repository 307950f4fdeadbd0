use Rattle.std.proofs.Common.{rules}
use Rattle.std.specs.Str.{bytes_eq}
use Rattle.std.proofs.lemmas.Cmp.{nat_list_cmp_total}
use Rattle.std.proofs.lemmas.List.MinMax.{ranks_by}
use Rattle.std.proofs.lemmas.List.Sorted.{answers_always, IsPermutation-map}
use Rattle.std.proofs.lemmas.Map.Keys.{IsDistinct-IsPermutation}
use Rattle.mx_base.proofs.KeyedOrder.{in_order_from_sort}
use Rattle.mx_base.proofs.ListingLemmas.{bytes_eq_flips}
use Rattle.mx_base.proofs.listing.put_in_order.Goals as goal

pub returns-then-not-are_in_order-clause-in_order : goal.returns-then-not-are_in_order-clause-in_order
returns-then-not-are_in_order-clause-in_order c =
    in_order_from_sort (λ row. row.path) c.sort_unstable_by.new.self.items
    (c.sort_unstable_by.ensures.sorted _ (ranks_by nat_list_cmp_total (λ row. row.path)) (answers_always _ _ _ (λ f a r g h. search rules)))
    (IsDistinct-IsPermutation bytes_eq bytes_eq_flips _ _ (IsPermutation-map (λ row. row.path) _ _ c.sort_unstable_by.ensures.permutation) c.requires)

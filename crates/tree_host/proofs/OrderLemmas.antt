-- Lists of paths in order.
use Rattle.std.proofs.Common.{◌≡◌, ℕ, List, [], ◌∷◌, sym, subst}
use Rattle.std.specs.declared.cmp.Ordering.TheVariants.{Less}
use Rattle.std.specs.List.{AllByRecursion}
use Rattle.std.specs.List.Sorted.{IsStrictlySortedBy}
use Rattle.mx_base.specs.Order.{text_cmp, IsBefore, ArePathsInOrder}

before_all : (path : List ℕ) (ps : List (List ℕ)) → AllByRecursion (λ p. text_cmp path p ≡ Less) ps → IsBefore path ps
before_all path [] all = tt
before_all path (p ∷ ps) all = (all.0, before_all path ps all.1)

sorted_in_order : (ps : List (List ℕ)) → IsStrictlySortedBy text_cmp ps → ArePathsInOrder ps
unfolding IsStrictlySortedBy
sorted_in_order [] order = tt
sorted_in_order (p ∷ ps) order = (before_all p ps order.0, sorted_in_order ps order.1)

-- what a set of paths gives is in order
pub listed_in_order : (paths keys : List (List ℕ)) → paths ≡ keys → IsStrictlySortedBy text_cmp keys → ArePathsInOrder paths
listed_in_order paths keys e order = subst ArePathsInOrder (sym e) (sorted_in_order keys order)

-- Paths in order.
use Rattle.std.proofs.Common.{◌≡◌, ℕ, List, [], ◌∷◌, ◌++◌, map, refl, sym, ◌∙◌, ap}
use Rattle.std.specs.declared.cmp.Ordering.{Ordering}
use Rattle.std.specs.declared.cmp.Ordering.TheVariants.{Less, Equal, Greater}
use Rattle.std.specs.Ordering.{nat_cmp, ordering_then, ordering_reverse}
use Rattle.std.proofs.lemmas.Cmp.{nat_cmp_total}
use Rattle.mx_base.specs.Order.{text_cmp, IsBefore, ArePathsInOrder}

before_without : (path : List ℕ) (xs : List (List ℕ)) (y : List ℕ) (ys : List (List ℕ)) → IsBefore path (xs ++ y ∷ ys) → IsBefore path (xs ++ ys)
before_without path [] y ys b = b.1
before_without path (x ∷ xs) y ys b = (b.0, before_without path xs y ys b.1)

-- paths in order stay in order without one of them
pub in_order_without : (xs : List (List ℕ)) (y : List ℕ) (ys : List (List ℕ)) → ArePathsInOrder (xs ++ y ∷ ys) → ArePathsInOrder (xs ++ ys)
in_order_without [] y ys o = o.1
in_order_without (x ∷ xs) y ys o = (before_without x xs y ys o.0, in_order_without xs y ys o.1)

equal_reversed : (o : Ordering) → o ≡ ordering_reverse o → o ≡ Equal
equal_reversed Less e = cc
equal_reversed Equal e = refl
equal_reversed Greater e = cc

-- one front says nothing of the order
pub same_front : (p a b : List ℕ) → text_cmp (p ++ a) (p ++ b) ≡ text_cmp a b
same_front [] a b = refl
same_front (x ∷ xs) a b =
    ap (λ (o : Ordering). ordering_then o (text_cmp (xs ++ a) (xs ++ b))) (equal_reversed (nat_cmp x x) (nat_cmp_total.antisymm x x)) ∙ same_front xs a b

before_front : (p path : List ℕ) (paths : List (List ℕ)) → IsBefore (p ++ path) (map (λ q. p ++ q) paths) → IsBefore path paths
before_front p path [] b = tt
before_front p path (q ∷ qs) b = (sym (same_front p path q) ∙ b.0, before_front p path qs b.1)

-- paths that are in order behind one beginning are in order
pub in_order_behind : (p : List ℕ) (paths : List (List ℕ)) → ArePathsInOrder (map (λ q. p ++ q) paths) → ArePathsInOrder paths
in_order_behind p [] o = tt
in_order_behind p (q ∷ qs) o = (before_front p q qs o.0, in_order_behind p qs o.1)

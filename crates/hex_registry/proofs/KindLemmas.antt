-- The first breach of all is the first of the least kind that has one.
use Rattle.std.proofs.Common.{◌≡◌, ℕ, ◌<◌, Option, Some, None, IsTrue, refl, sym, ap, arith}
use Rattle.std.specs.Cmp.{nat_cmp_is}
use Rattle.std.specs.Ordering.{is_le, nat_cmp, ordering_then}
use Rattle.std.specs.declared.cmp.Ordering.{Ordering}
use Rattle.std.specs.declared.cmp.Ordering.TheVariants.{Less}
use Rattle.mx_base.specs.Order.{text_cmp}
use Rattle.hex_registry.specs.declared.breach.Breach.{Breach}
use Rattle.hex_registry.specs.declared.breach.Breach.TheVariants.{NotPicked, NotCandidate, Unmet, Unreached}
use Rattle.hex_registry.specs.Breaches.IsFirst.{none, first}
use Rattle.hex_registry.specs.Breaches.{IsFirst, IsOfKind, breach_cmp, kind_of, package_of}

-- a breach of a lesser kind stands first
lesser_kind : (one other : Breach) → kind_of one < kind_of other → IsTrue (is_le (breach_cmp one other))
lesser_kind one other less =
    ap (λ (o : Ordering). is_le (ordering_then o (text_cmp (package_of one) (package_of other)))) (sym (nat_cmp_is (kind_of one) (kind_of other) Less less))

pub no_kind : (Is : Breach → Type 0) (kind : ℕ) → IsFirst (IsOfKind Is kind) None → (other : Breach) → kind_of other ≡ kind → Is other → ⊥
no_kind Is kind (none never) other of is = never other (of, is)

pub first_0 : (Is : Breach → Type 0) (found : Breach) → IsFirst (IsOfKind Is 0) (Some found) → IsFirst Is (Some found)
first_0 Is found (first is least) = first is.1 later
  where
    later : (other : Breach) → Is other → IsTrue (is_le (breach_cmp found other))
    later (NotPicked n) o = least (NotPicked n) (refl, o)
    later (NotCandidate n) o = lesser_kind found (NotCandidate n) (omega (arith, is.0))
    later (Unmet n by) o = lesser_kind found (Unmet n by) (omega (arith, is.0))
    later (Unreached n) o = lesser_kind found (Unreached n) (omega (arith, is.0))

pub first_1 : (Is : Breach → Type 0) (found : Breach) → IsFirst (IsOfKind Is 0) None → IsFirst (IsOfKind Is 1) (Some found) → IsFirst Is (Some found)
first_1 Is found no_0 (first is least) = first is.1 later
  where
    later : (other : Breach) → Is other → IsTrue (is_le (breach_cmp found other))
    later (NotPicked n) o = absurd (no_kind Is 0 no_0 (NotPicked n) refl o)
    later (NotCandidate n) o = least (NotCandidate n) (refl, o)
    later (Unmet n by) o = lesser_kind found (Unmet n by) (omega (arith, is.0))
    later (Unreached n) o = lesser_kind found (Unreached n) (omega (arith, is.0))

pub first_2 : (Is : Breach → Type 0) (found : Breach) → IsFirst (IsOfKind Is 0) None → IsFirst (IsOfKind Is 1) None → IsFirst (IsOfKind Is 2) (Some found)
    → IsFirst Is (Some found)
first_2 Is found no_0 no_1 (first is least) = first is.1 later
  where
    later : (other : Breach) → Is other → IsTrue (is_le (breach_cmp found other))
    later (NotPicked n) o = absurd (no_kind Is 0 no_0 (NotPicked n) refl o)
    later (NotCandidate n) o = absurd (no_kind Is 1 no_1 (NotCandidate n) refl o)
    later (Unmet n by) o = least (Unmet n by) (refl, o)
    later (Unreached n) o = lesser_kind found (Unreached n) (omega (arith, is.0))

pub first_3 : (Is : Breach → Type 0) (found : Option Breach) → IsFirst (IsOfKind Is 0) None → IsFirst (IsOfKind Is 1) None → IsFirst (IsOfKind Is 2) None
    → IsFirst (IsOfKind Is 3) found → IsFirst Is found
first_3 Is (Some found) no_0 no_1 no_2 (first is least) = first is.1 later
  where
    later : (other : Breach) → Is other → IsTrue (is_le (breach_cmp found other))
    later (NotPicked n) o = absurd (no_kind Is 0 no_0 (NotPicked n) refl o)
    later (NotCandidate n) o = absurd (no_kind Is 1 no_1 (NotCandidate n) refl o)
    later (Unmet n by) o = absurd (no_kind Is 2 no_2 (Unmet n by) refl o)
    later (Unreached n) o = least (Unreached n) (refl, o)
first_3 Is None no_0 no_1 no_2 (none no_3) = none never
  where
    never : (other : Breach) → Is other → ⊥
    never (NotPicked n) o = no_kind Is 0 no_0 (NotPicked n) refl o
    never (NotCandidate n) o = no_kind Is 1 no_1 (NotCandidate n) refl o
    never (Unmet n by) o = no_kind Is 2 no_2 (Unmet n by) refl o
    never (Unreached n) o = no_3 (Unreached n) (refl, o)

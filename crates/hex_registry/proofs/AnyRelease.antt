-- The requirement `>= 0.0.0` takes all but pre-releases.
use Rattle.std.proofs.Common.{◌≡◌, ℕ, zero, suc, Bool, true, false, not, ◌&&◌, ◌||◌, ◌==◌, List, [], ◌∷◌, length, refl, sym, ap, ◌∙◌, arith, ◌⊎◌, inl, inr, is_ge, nat_cmp, Equal, Greater, Ordering, lt-ltb, ne_eqb}
use Rattle.std.specs.Cmp.{nat_cmp_is}
use Rattle.std.specs.Ordering.{ordering_then}
use Rattle.semver.specs.Order.{pre_cmp}
use Rattle.version_req.specs.declared.operator.Operator.TheVariants.{GreaterOrEqual}
use Rattle.version_req.specs.Meaning.{sat, stands}
use Rattle.hex_registry.specs.Picks.{any_release, from_zero}

abbrev IsAtLeast : Ordering → Type 0
IsAtLeast o = (o ≡ Equal) ⊎ (o ≡ Greater)

zero_least : (n : ℕ) → IsAtLeast (nat_cmp n 0)
zero_least zero = inl refl
zero_least (suc n) = inr (sym (nat_cmp_is (suc n) 0 Greater (omega arith)))

then_least : (o p : Ordering) → IsAtLeast o → IsAtLeast p → IsAtLeast (ordering_then o p)
then_least o p (inl e) least =
    elim least [ inl f ↦ inl (ap (λ (x : Ordering). ordering_then x p) e ∙ f) | inr f ↦ inr (ap (λ (x : Ordering). ordering_then x p) e ∙ f) ]
then_least o p (inr e) least = inr (ap (λ (x : Ordering). ordering_then x p) e)

ge_of : (o : Ordering) → IsAtLeast o → is_ge o ≡ true
ge_of o (inl e) = ap is_ge e
ge_of o (inr e) = ap is_ge e

-- whatever the numbers are
at_least : (major minor patch : ℕ) (build : List ℕ) → sat any_release (major, minor, patch, [], build) false ≡ true
at_least major minor patch build =
    ap (λ (t : Bool). ((t && true) && true) || false)
    (ge_of (ordering_then (nat_cmp major 0) (ordering_then (nat_cmp minor 0) (ordering_then (nat_cmp patch 0) (pre_cmp [] []))))
    (then_least (nat_cmp major 0) (ordering_then (nat_cmp minor 0) (ordering_then (nat_cmp patch 0) (pre_cmp [] []))) (zero_least major)
    (then_least (nat_cmp minor 0) (ordering_then (nat_cmp patch 0) (pre_cmp [] [])) (zero_least minor)
    (then_least (nat_cmp patch 0) (pre_cmp [] []) (zero_least patch) (inl refl)))))

barred : (stands_so : Bool) → (((stands_so && false) && true) || false) ≡ false
barred true = refl
barred false = refl

pub any_takes : (major minor patch : ℕ) (pre build : List ℕ) → sat any_release (major, minor, patch, pre, build) false ≡ (length pre == 0)
any_takes major minor patch [] build = at_least major minor patch build
any_takes major minor patch (b ∷ pre) build =
    ap (λ (t : Bool). ((stands GreaterOrEqual from_zero (major, minor, patch, b ∷ pre, build) && (false || not (true && (t && true)))) && true) || false)
    (lt-ltb 0 (length (b ∷ pre)) (omega arith))
    ∙ barred (stands GreaterOrEqual from_zero (major, minor, patch, b ∷ pre, build))
    ∙ sym (ne_eqb (length (b ∷ pre)) 0 (λ e. omega (arith, e)))

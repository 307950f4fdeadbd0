-- Two ways to cut one list.
use Rattle.std.proofs.Common.{◌≡◌, ◌⊎◌, ℕ, List, [], ◌∷◌, ◌++◌, length, refl, sym, ap, arith, inl, inr, ⊎_elim, length-append}

-- the first front goes further by `between`
abbrev pub GoesFurther : List ℕ → List ℕ → List ℕ → List ℕ → Type 0
GoesFurther a x b y = (between : List ℕ) × (a ≡ b ++ between) × (y ≡ between ++ x)

pub same_head : (a b : ℕ) (s t : List ℕ) → a ∷ s ≡ b ∷ t → a ≡ b
same_head a b s t e = cc

pub same_tail : (a b : ℕ) (s t : List ℕ) → a ∷ s ≡ b ∷ t → s ≡ t
same_tail a b s t e = cc

further_by_one : (c d : ℕ) (a x b y : List ℕ) → c ≡ d → GoesFurther a x b y → GoesFurther (c ∷ a) x (d ∷ b) y
further_by_one c d a x b y e further = (further.0, cc (e, further.1), further.2)

pub one_goes_further : (a x b y : List ℕ) → a ++ x ≡ b ++ y → GoesFurther a x b y ⊎ GoesFurther b y a x
one_goes_further [] x b y e = inr (b, refl, e)
one_goes_further (c ∷ a) x [] y e = inl (c ∷ a, refl, sym e)
one_goes_further (c ∷ a) x (d ∷ b) y e =
    let head = same_head c d (a ++ x) (b ++ y) e in
    ⊎_elim (λ further. inl (further_by_one c d a x b y head further))
    (λ further. inr (further_by_one d c b y a x (sym head) further))
    (one_goes_further a x b y (same_tail c d (a ++ x) (b ++ y) e))

-- no list goes on from its own end
pub not_longer : (a more : List ℕ) (byte : ℕ) → a ≡ a ++ byte ∷ more → ⊥
not_longer a more byte e = omega (arith, ap length e, length-append a (byte ∷ more))

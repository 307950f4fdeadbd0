-- Lists by place, after a place is set.
use Rattle.std.proofs.Common.{◌≡◌, ◌≢◌, ℕ, zero, suc, ◌-◌, ◌<◌, ◌==◌, ◌⊎◌, inl, inr, Bool, true, false, List, [], ◌∷◌, length, Option, Some, None, cond, slice_get, slice_set, replicate, refl, ap, arith}
use Rattle.std.specs.Option.{option_and_then}
use Rattle.std.proofs.lemmas.Option.{slice_get_within, slice_get_cases}
use Rattle.compile_model.specs.declared.job.Job.{Job}
use Rattle.compile_model.specs.declared.outcome.Outcome.{Outcome}
use Rattle.staleness.specs.declared.kept.Kept.{Kept}
use Rattle.staleness.specs.Matching.{matches}
use Rattle.partition_core.specs.declared.event.Standing.{Standing}
use Rattle.partition_core.specs.State.{at, standing, kept_matches}

pub get_set : {X : Type 0} (xs : List X) (i j : ℕ) (x y : X) → slice_get (slice_set xs i x) j ≡ Some y →
    ((j ≡ i) × (x ≡ y)) ⊎ ((j ≢ i) × (slice_get xs j ≡ Some y))
get_set [] i j x y e = cc
get_set (z ∷ zs) zero zero x y e = inl (refl, cc)
get_set (z ∷ zs) zero (suc j) x y e = inr (λ h. cc, e)
get_set (z ∷ zs) (suc i) zero x y e = inr (λ h. cc, e)
get_set (z ∷ zs) (suc i) (suc j) x y e =
    elim (get_set zs i j x y e) [ inl same ↦ inl (ap suc same.0, same.1) | inr other ↦ inr ((λ h. other.0 (omega arith)), other.1) ]

pub set_same : {X : Type 0} (xs : List X) (i : ℕ) (x y : X) → slice_get xs i ≡ Some y → slice_get (slice_set xs i x) i ≡ Some x
set_same [] i x y e = cc
set_same (z ∷ zs) zero x y e = refl
set_same (z ∷ zs) (suc i) x y e = set_same zs i x y e

pub set_other : {X : Type 0} (xs : List X) (i j : ℕ) (x : X) → (j ≡ i → ⊥) → slice_get (slice_set xs i x) j ≡ slice_get xs j
set_other [] i j x h = refl
set_other (z ∷ zs) zero zero x h = absurd (h refl)
set_other (z ∷ zs) zero (suc j) x h = refl
set_other (z ∷ zs) (suc i) zero x h = refl
set_other (z ∷ zs) (suc i) (suc j) x h = set_other zs i j x (λ e. h (ap suc e))

at_some_of : {X : Type 0} (o : Option (Option X)) (x : X) → option_and_then (λ (v : Option X). v) o ≡ Some x → o ≡ Some (Some x)
at_some_of None x e = cc
at_some_of (Some v) x e = ap Some e

pub at_some : {X : Type 0} (xs : List (Option X)) (i : ℕ) (x : X) → at xs i ≡ Some x → slice_get xs i ≡ Some (Some x)
at_some xs i x e = at_some_of (slice_get xs i) x e

standing_of_cases : (zeroth : Bool) (found : Option Standing) (now : Standing) → cond zeroth None found ≡ Some now → (zeroth ≡ false) × (found ≡ Some now)
standing_of_cases true found now e = cc
standing_of_cases false found now e = (refl, e)

-- what a partition does stands one place before its number
pub standing_get : (standings : List Standing) (by : ℕ) (now : Standing) → standing standings by ≡ Some now → slice_get standings (by - 1) ≡ Some now
standing_get standings by now e = (standing_of_cases (by == 0) (slice_get standings (by - 1)) now e).1

-- lists of one length have the same places
pub also_there : {X Y : Type 0} (xs : List X) (ys : List Y) (i : ℕ) (x : X) → length xs ≡ length ys → slice_get xs i ≡ Some x →
    (y : Y) × (slice_get ys i ≡ Some y)
also_there xs ys i x long is =
    elim (slice_get_cases ys i).1 [ inl found ↦ (found.0, found.2) | inr past ↦ absurd (let h : i < length xs = slice_get_within xs i x is in omega arith) ]

pub get_replicate : {X : Type 0} (n i : ℕ) (x y : X) → slice_get (replicate n x) i ≡ Some y → x ≡ y
get_replicate zero i x y e = cc
get_replicate (suc n) zero x y e = cc
get_replicate (suc n) (suc i) x y e = get_replicate n i x y e

-- a kept mark that is a job's
pub kept_parts : (kept : Option Kept) (job : Option Job) (outcomes : List Outcome) → kept_matches kept job outcomes ≡ true →
    (k : Kept) × (j : Job) × (kept ≡ Some k) × (job ≡ Some j) × (matches k.mark j outcomes ≡ true)
kept_parts None job outcomes e = cc
kept_parts (Some k) None outcomes e = cc
kept_parts (Some k) (Some j) outcomes e = (k, j, refl, refl, e)

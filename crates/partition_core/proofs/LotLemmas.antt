-- Lots, one of which changes.
use Rattle.std.proofs.Common.{◌≡◌, ℕ, zero, suc, List, [], ◌∷◌, Option, Some, option_map, slice_get, slice_set, refl, sym, ◌∙◌, ap}
use Rattle.std.specs.Option.{option_and_then}
use Rattle.std.proofs.lemmas.Option.{slice_get-map}
use Rattle.std.proofs.lemmas.List.{map-set}
use Rattle.compile_model.specs.declared.outcome.Fate.{Fate}
use Rattle.compile_model.specs.declared.outcome.Fate.TheVariants.{Built}
use Rattle.staleness.specs.declared.kept.Kept.{Kept}
use Rattle.partition_core.specs.declared.lot.Lot.{Lot}
use Rattle.partition_core.specs.State.{at}
use Rattle.partition_core.specs.Lots.{fate_of, kept_of, fates_of, kepts_of}

pub fates_set : (lots : List Lot) (place : ℕ) (lot : Lot) (fate : Option Fate) → fate_of lot ≡ fate →
    fates_of (slice_set lots place lot) ≡ slice_set (fates_of lots) place fate
fates_set lots place lot fate e = map-set fate_of lots place lot ∙ ap (slice_set (fates_of lots) place) e

pub kepts_set : (lots : List Lot) (place : ℕ) (was lot : Lot) → slice_get lots place ≡ Some was → kept_of lot ≡ kept_of was →
    kepts_of (slice_set lots place lot) ≡ kepts_of lots
kepts_set [] place was lot there e = refl
kepts_set (x ∷ xs) zero was lot there e = let same : was ≡ x = cc in ap (λ (k : Option Kept). k ∷ kepts_of xs) (e ∙ ap kept_of same)
kepts_set (x ∷ xs) (suc place) was lot there e = ap (λ (ks : List (Option Kept)). kept_of x ∷ ks) (kepts_set xs place was lot there e)

-- what was kept of a place
pub kept_there : (lots : List Lot) (place : ℕ) (lot : Lot) → slice_get lots place ≡ Some lot → at (kepts_of lots) place ≡ kept_of lot
kept_there lots place lot there = ap (option_and_then (λ (k : Option Kept). k)) (slice_get-map kept_of lots place ∙ ap (option_map kept_of) there)

pub fate_there : (lots : List Lot) (place : ℕ) (lot : Lot) → slice_get lots place ≡ Some lot → at (fates_of lots) place ≡ fate_of lot
fate_there lots place lot there = ap (option_and_then (λ (k : Option Fate). k)) (slice_get-map fate_of lots place ∙ ap (option_map fate_of) there)

pub kept_fates : (lots : List Lot) (place : ℕ) (was lot : Lot) → slice_get lots place ≡ Some was →
    fate_of lot ≡ option_map (λ (kept : Kept). Built kept.outcome) (kept_of was) →
    fates_of (slice_set lots place lot) ≡ slice_set (fates_of lots) place (option_map (λ (kept : Kept). Built kept.outcome) (at (kepts_of lots) place))
kept_fates lots place was lot there e =
    fates_set lots place lot (option_map (λ (kept : Kept). Built kept.outcome) (at (kepts_of lots) place))
    (e ∙ ap (option_map (λ (kept : Kept). Built kept.outcome)) (sym (kept_there lots place was there)))

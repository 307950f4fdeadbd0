-- Which folders have failed, while events are added.
use Rattle.std.proofs.Common.{◌≡◌, ◌≢◌, ℕ, ◌==◌, Bool, true, false, ◌||◌, List, [], ◌∷◌, ◌++◌, refl, ◌∙◌, subst, arith}
use Rattle.std.specs.Prelude.{◌↔◌, IsTrue}
use Rattle.std.proofs.lemmas.Bool.Decides.{nat_tests}
use Rattle.std.proofs.lemmas.List.Folds.{list_any-append}
use Rattle.tree_store.specs.FolderKnown.{FolderKnown}
use Rattle.partition_core.specs.declared.event.BackCause.TheVariants.{Died, Tree, Memory}
use Rattle.partition_core.specs.declared.event.Event.{Event}
use Rattle.partition_core.specs.declared.event.Event.TheVariants.{Keep, Start, Finish, Fail, Skip, Back}
use Rattle.partition_core.specs.Refusals.{place_of}
use Rattle.partition_board.specs.Failures.{IsCounted, has_failed, is_failure}

or_false : (a b : Bool) → b ≡ false → (a || (b || false)) ≡ a
or_false true b e = refl
or_false false true e = cc
or_false false false e = refl

-- an event that is no failure of the place
pub failed_more : (events : List Event) (event : Event) (place : ℕ) → is_failure place event ≡ false
    → has_failed (events ++ event ∷ []) place ≡ has_failed events place
failed_more events event place isnt =
    list_any-append (is_failure place) events (event ∷ []) ∙ or_false (has_failed events place) (is_failure place event) isnt

pub counted_as : (one other : List Event) (place : ℕ) (folder : FolderKnown) → has_failed one place ≡ has_failed other place
    → IsCounted one place folder → IsCounted other place folder
counted_as one other place folder same count = subst (λ (b : Bool). (folder.faults ≢ 0) ↔ IsTrue b) same count

other_place : (other place : ℕ) → (place ≡ other → ⊥) → (other == place) ≡ false
other_place other place apart = by_test (other == place) refl
  where
    by_test : (test : Bool) → (other == place) ≡ test → test ≡ false
    by_test true is = absurd (apart (grind (arith, nat_tests)))
    by_test false is = refl

-- an event of another place is no failure of this one
pub others_failure : (place : ℕ) (event : Event) → (place ≡ place_of event → ⊥) → is_failure place event ≡ false
others_failure place (Keep p by) apart = refl
others_failure place (Start p by) apart = refl
others_failure place (Finish p by outcome) apart = refl
others_failure place (Fail p by outcome) apart = refl
others_failure place (Skip p need by) apart = refl
others_failure place (Back p by Died) apart = refl
others_failure place (Back p by Tree) apart = other_place p place apart
others_failure place (Back p by Memory) apart = refl

-- a place that is given back because its folder failed
pub own_failure : (events : List Event) (place by : ℕ) → has_failed (events ++ Back place by Tree ∷ []) place ≡ true
own_failure events place by = list_any-append (is_failure place) events (Back place by Tree ∷ []) ∙ last (has_failed events place) (place == place)
    (grind (arith, nat_tests))
  where
    last : (a b : Bool) → b ≡ true → (a || (b || false)) ≡ true
    last true b e = refl
    last false true e = refl
    last false false e = cc

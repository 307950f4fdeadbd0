-- Why some place has no fate.
use Rattle.std.proofs.Common.{◌≡◌, ◌≢◌, ◌↔◌, ℕ, zero, suc, ◌-◌, ◌<◌, ◌≤◌, ◌==◌, Bool, true, false, not, ◌||◌, ◌⊎◌, inl, inr, List, [], ◌∷◌, length, Option, Some, None, is_some, option_map, slice_get, refl, sym, ◌∙◌, ap, subst, arith}
use Rattle.std.specs.List.{list_all, list_any}
use Rattle.std.specs.Option.{option_and_then}
use Rattle.std.proofs.lemmas.Bool.{and_from, and_parts, eqb-true}
use Rattle.std.proofs.lemmas.Bool.Decides.{nat_tests}
use Rattle.std.proofs.lemmas.List.{length-replicate, length-set}
use Rattle.std.proofs.lemmas.List.Elements.{All-cons, All-head, All-nil, All-tail}
use Rattle.std.proofs.lemmas.Option.{slice_get_within}
use Rattle.compile_model.specs.declared.outcome.Fate.{Fate}
use Rattle.compile_model.specs.declared.outcome.Fate.TheVariants.{Built, Failed, Skipped}
use Rattle.staleness.specs.declared.kept.Kept.{Kept}
use Rattle.tree_store.specs.FolderKnown.{FolderKnown}
use Rattle.partition_core.specs.declared.event.BackCause.TheVariants.{Died, Tree, Memory}
use Rattle.partition_core.specs.declared.event.Event.{Event}
use Rattle.partition_core.specs.declared.event.Event.TheVariants.{Keep, Start, Finish, Fail, Skip, Back}
use Rattle.partition_core.specs.declared.event.Standing.TheVariants.{Runs}
use Rattle.partition_core.specs.State.{Opening, State, at, start_of}
use Rattle.partition_core.specs.Steps.{IsLegal, after}
use Rattle.partition_core.specs.Histories.{AreLegal, Legal}
use Rattle.partition_core.proofs.Places.{standing_get}
use Rattle.partition_core.proofs.Tidy.{Tidy, tidy_start, tidy_step}
use Rattle.partition_face.specs.declared.counts.Counts.{Counts}
use Rattle.partition_board.specs.Failures.{AreCounted, has_failed, is_failure}
use Rattle.partition_crew.specs.declared.one.BuildFault.TheVariants.{TreeFault, OutOfMemory, NoPartitionLeft}
use Rattle.partition_crew.specs.declared.one.One.{One}
use Rattle.partition_crew.specs.Build.{HaveFates, SomeFailed}
use Rattle.partition_build.specs.Built.{AllDied, IsEndingOf, all_fated, fault_by, has_died, is_tree_back}

-- ---- fates

fated_each : (fates : List (Option Fate)) (place : ℕ) → list_all is_some fates ≡ true → place < length fates → is_some (at fates place) ≡ true
fated_each [] place all within = absurd (omega (arith, within))
fated_each (fate ∷ fates) zero all within = (and_parts (is_some fate) (list_all is_some fates) all).0
fated_each (fate ∷ fates) (suc place) all within = fated_each fates place (and_parts (is_some fate) (list_all is_some fates) all).1 (omega (arith, within))

fated_all : (fates : List (Option Fate)) → ((place : ℕ) → place < length fates → is_some (at fates place) ≡ true) → list_all is_some fates ≡ true
fated_all [] each = refl
fated_all (fate ∷ fates) each =
    and_from (is_some fate) (list_all is_some fates) (each 0 (omega arith)) (fated_all fates (λ place within. each (suc place) (omega (arith, within))))

-- a place with a fate is within
fate_within : (fates : List (Option Fate)) (place : ℕ) → is_some (at fates place) ≡ true → place < length fates
fate_within fates place some = by (slice_get fates place) refl some
  where
    by : (found : Option (Option Fate)) → slice_get fates place ≡ found → is_some (option_and_then (λ (x : Option Fate). x) found) ≡ true → place < length fates
    by None is e = cc
    by (Some fate) is e = slice_get_within fates place fate is

no_more : (places : ℕ) (fates : List (Option Fate)) → length fates ≤ places → HaveFates places fates → length fates ≡ places
no_more zero fates few have = omega (arith, few)
no_more (suc places) fates few have = omega (arith, few, fate_within fates places (have places (omega arith)))

fated : (places : ℕ) (fates : List (Option Fate)) → length fates ≤ places → (all_fated places fates ≡ true) ↔ HaveFates places fates
fated places fates few = (
  (λ all.
      let parts = and_parts (length fates == places) (list_all is_some fates) all in
      let long : length fates ≡ places = eqb-true (length fates) places parts.0 in
      λ place within. fated_each fates place parts.1 (omega (arith, long, within))),
  (λ have.
      let long = no_more places fates few have in
      and_from (length fates == places) (list_all is_some fates) (grind (arith, nat_tests))
      (fated_all fates (λ place within. have place (omega (arith, long, within))))),
)

-- ---- folders

failure_is_back : (place : ℕ) (event : Event) → is_failure place event ≡ true → is_tree_back event ≡ true
failure_is_back place (Keep p by) e = cc
failure_is_back place (Start p by) e = cc
failure_is_back place (Finish p by outcome) e = cc
failure_is_back place (Fail p by outcome) e = cc
failure_is_back place (Skip p need by) e = cc
failure_is_back place (Back p by Died) e = cc
failure_is_back place (Back p by Tree) e = refl
failure_is_back place (Back p by Memory) e = cc

or_cases : (a b : Bool) → (a || b) ≡ true → (a ≡ true) ⊎ (b ≡ true)
or_cases true b e = inl refl
or_cases false b e = inr e

or_first : (a b : Bool) → a ≡ true → (a || b) ≡ true
or_first true b e = refl
or_first false b e = cc

or_later : (a b : Bool) → b ≡ true → (a || b) ≡ true
or_later true b e = refl
or_later false b e = e

failure_among : (place : ℕ) (events : List Event) → has_failed events place ≡ true → list_any is_tree_back events ≡ true
failure_among place [] e = cc
failure_among place (event ∷ events) e = elim (or_cases (is_failure place event) (has_failed events place) e) [
  | inl here ↦ or_first (is_tree_back event) (list_any is_tree_back events) (failure_is_back place event here)
  | inr later ↦ or_later (is_tree_back event) (list_any is_tree_back events) (failure_among place events later)
]

-- a place that failed, within the plan
record IsFailedIn (places : ℕ) (events : List Event) : Type 0 where
  place : ℕ
  within : place < places
  failed : has_failed events place ≡ true

back_here : (o : Opening) (s : State) (event : Event) (events : List Event) → Tidy s → IsLegal o s event → is_tree_back event ≡ true
    → IsFailedIn (length s.fates) (event ∷ events)
back_here o s (Keep p by) events tidy legal e = cc
back_here o s (Start p by) events tidy legal e = cc
back_here o s (Finish p by outcome) events tidy legal e = cc
back_here o s (Fail p by outcome) events tidy legal e = cc
back_here o s (Skip p need by) events tidy legal e = cc
back_here o s (Back p by Died) events tidy legal e = cc
back_here o s (Back p by Tree) events tidy legal e =
    let open_place = tidy.open_place (by - 1) p (standing_get s.standings by (Runs p) legal) in
    record {
      place = p;
      within = slice_get_within s.fates p None open_place;
      failed = or_first (p == p) (has_failed events p) (grind (arith, nat_tests));
    }
back_here o s (Back p by Memory) events tidy legal e = cc

places_after : (o : Opening) (s : State) (event : Event) → length (after o s event).fates ≡ length s.fates
places_after o s (Keep place by) = length-set s.fates place (option_map (λ (kept : Kept). Built kept.outcome) (at o.kept place))
places_after o s (Start place by) = refl
places_after o s (Finish place by outcome) = length-set s.fates place (Some (Built outcome))
places_after o s (Fail place by outcome) = length-set s.fates place (Some (Failed outcome))
places_after o s (Skip place need by) = length-set s.fates place (Some (Skipped need))
places_after o s (Back place by cause) = refl

back_among : (o : Opening) (s : State) (events : List Event) (n : ℕ) → Tidy s → AreLegal o s events → length s.fates ≡ n
    → list_any is_tree_back events ≡ true → IsFailedIn n events
back_among o s [] n tidy legal long e = cc
back_among o s (event ∷ events) n tidy legal long e = elim (or_cases (is_tree_back event) (list_any is_tree_back events) e) [
  | inl here ↦ subst (λ (m : ℕ). IsFailedIn m (event ∷ events)) long (back_here o s event events tidy legal.0 here)
  | inr later ↦
      let rest = back_among o (after o s event) events n (tidy_step o s tidy event legal.0) legal.1 (places_after o s event ∙ long) later in
      record { place = rest.place; within = rest.within; failed = or_later (is_failure rest.place event) (has_failed events rest.place) rest.failed }
]

folder_at : (folders : List FolderKnown) (place : ℕ) → place < length folders → (folder : FolderKnown) × (slice_get folders place ≡ Some folder)
folder_at [] place within = absurd (omega (arith, within))
folder_at (folder ∷ folders) zero within = (folder, refl)
folder_at (folder ∷ folders) (suc place) within = folder_at folders place (omega (arith, within))

pub failed : (o : Opening) (history : List Event) (folders : List FolderKnown) → Legal o history → length folders ≡ length o.plan.jobs
    → AreCounted history folders → (list_any is_tree_back history ≡ true) ↔ SomeFailed folders
failed o history folders legal long counted = (
  (λ some.
      let is = back_among o (start_of o) history (length o.plan.jobs) (tidy_start o) legal (length-replicate (length o.plan.jobs) None) some in
      let found = folder_at folders is.place (omega (arith, long, is.within)) in
      (is.place, found.0, found.1, (counted is.place found.0 found.1).1 is.failed)),
  (λ some. failure_among some.0 history ((counted some.0 some.1 some.2).0 some.3)),
)

-- ---- partitions

died_is : (c : Counts) → (has_died c ≡ true) ↔ (c.deaths ≢ 0)
died_is c = by (c.deaths == 0) refl
  where
    by : (b : Bool) → (c.deaths == 0) ≡ b → (not b ≡ true) ↔ (c.deaths ≢ 0)
    by true is = ((λ e zero_. let clash : false ≡ true = e in cc), (λ rose. absurd (rose (eqb-true c.deaths 0 is))))
    by false is = ((λ e zero_. let t : (c.deaths == 0) ≡ true = ap (λ (n : ℕ). n == 0) zero_ in cc), (λ rose. refl))

all_died : (counts : List Counts) → (list_all has_died counts ≡ true) ↔ AllDied counts
all_died [] = ((λ e. All-nil (λ (c : Counts). c.deaths ≢ 0)), (λ all. refl))
all_died (c ∷ cs) =
    let rest = all_died cs in (
      (λ e.
          let parts = and_parts (has_died c) (list_all has_died cs) e in
          All-cons (λ (k : Counts). k.deaths ≢ 0) c cs ((died_is c).0 parts.0) (rest.0 parts.1)),
      (λ all. and_from (has_died c) (list_all has_died cs) ((died_is c).1 (All-head (λ (k : Counts). k.deaths ≢ 0) c cs all))
          (rest.1 (All-tail (λ (k : Counts). k.deaths ≢ 0) c cs all))),
    )

-- ---- the fault

-- what is known of the end, by three tests
record Tests (one : One) (places : ℕ) (folders : List FolderKnown) (counts : List Counts) (settled tree dead : Bool) : Type 0 where
  is_settled : (settled ≡ true) ↔ HaveFates places one.fates.items
  is_tree : (tree ≡ true) ↔ SomeFailed folders
  is_dead : (dead ≡ true) ↔ AllDied counts
  is_fault : one.fault ≡ fault_by settled tree dead (length counts)

ending_by : (one : One) (places : ℕ) (folders : List FolderKnown) (counts : List Counts) (settled tree dead : Bool)
    → Tests one places folders counts settled tree dead → IsEndingOf one places folders counts
ending_by one places folders counts true fails dead t = record {
  none = ((λ e. t.is_settled.0 refl), (λ have. t.is_fault));
  tree = ((λ e. let clash : None ≡ Some TreeFault = sym t.is_fault ∙ e in cc), (λ parts. absurd (parts.0 (t.is_settled.0 refl))));
  died = λ n. ((λ e. let clash : None ≡ Some (NoPartitionLeft n) = sym t.is_fault ∙ e in cc), (λ parts. absurd (parts.0 (t.is_settled.0 refl))));
}
ending_by one places folders counts false true dead t =
    let un : HaveFates places one.fates.items → ⊥ = λ have. let clash : false ≡ true = t.is_settled.1 have in cc in
    record {
      none = ((λ e. let clash : None ≡ Some TreeFault = sym e ∙ t.is_fault in cc), (λ have. absurd (un have)));
      tree = ((λ e. (un, t.is_tree.0 refl)), (λ parts. t.is_fault));
      died = λ n. (
        (λ e. let clash : TreeFault ≡ NoPartitionLeft n = (let same : Some TreeFault ≡ Some (NoPartitionLeft n) = sym t.is_fault ∙ e in cc) in cc),
        (λ parts. absurd (parts.1 (t.is_tree.0 refl))),
      );
    }
ending_by one places folders counts false false true t =
    let un : HaveFates places one.fates.items → ⊥ = λ have. let clash : false ≡ true = t.is_settled.1 have in cc in
    let kept : SomeFailed folders → ⊥ = λ some. let clash : false ≡ true = t.is_tree.1 some in cc in
    record {
      none = ((λ e. let clash : None ≡ Some (NoPartitionLeft (length counts)) = sym e ∙ t.is_fault in cc), (λ have. absurd (un have)));
      tree = ((λ e. let clash : Some (NoPartitionLeft (length counts)) ≡ Some TreeFault = sym t.is_fault ∙ e in cc), (λ parts. absurd (kept parts.1)));
      died = λ n. (
        (λ e.
            let same : Some (NoPartitionLeft (length counts)) ≡ Some (NoPartitionLeft n) = sym t.is_fault ∙ e in
            (un, kept, t.is_dead.0 refl, (let k : length counts ≡ n = cc in sym k))),
        (λ parts. t.is_fault ∙ ap (λ (k : ℕ). Some (NoPartitionLeft k)) (sym parts.3)),
      );
    }
ending_by one places folders counts false false false t =
    let un : HaveFates places one.fates.items → ⊥ = λ have. let clash : false ≡ true = t.is_settled.1 have in cc in
    record {
      none = ((λ e. let clash : None ≡ Some OutOfMemory = sym e ∙ t.is_fault in cc), (λ have. absurd (un have)));
      tree = (
        (λ e. let clash : Some OutOfMemory ≡ Some TreeFault = sym t.is_fault ∙ e in cc),
        (λ parts. let clash : false ≡ true = t.is_tree.1 parts.1 in cc),
      );
      died = λ n. (
        (λ e. let clash : Some OutOfMemory ≡ Some (NoPartitionLeft n) = sym t.is_fault ∙ e in cc),
        (λ parts. let clash : false ≡ true = t.is_dead.1 parts.2 in cc),
      );
    }

pub ending_is : (one : One) (places : ℕ) (folders : List FolderKnown) (counts : List Counts) → length one.fates.items ≤ places
    → (list_any is_tree_back one.history.items ≡ true) ↔ SomeFailed folders
    → one.fault ≡ fault_by (all_fated places one.fates.items) (list_any is_tree_back one.history.items) (list_all has_died counts) (length counts)
    → IsEndingOf one places folders counts
ending_is one places folders counts few tree fault =
    ending_by one places folders counts (all_fated places one.fates.items) (list_any is_tree_back one.history.items) (list_all has_died counts) (record {
      is_settled = fated places one.fates.items few;
      is_tree = tree;
      is_dead = all_died counts;
      is_fault = fault;
    })

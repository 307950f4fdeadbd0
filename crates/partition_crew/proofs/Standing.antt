-- A build that has given nothing back.
use Rattle.std.proofs.Common.{◌≡◌, ℕ, suc, ◌+◌, ◌≤◌, cond, List, [], ◌∷◌, length, map, count_by, Option, Some, None, is_some, IfSome, slice_get, refl, ◌∙◌, ap, arith}
use Rattle.std.proofs.lemmas.Bool.{and_from}
use Rattle.compile_model.specs.declared.outcome.Fate.{Fate}
use Rattle.compile_model.specs.declared.outcome.Fate.TheVariants.{Built, Failed as NotBuilt, Skipped}
use Rattle.compile_model.specs.Planned.{ArePlanned}
use Rattle.tree_store.specs.FolderKnown.{FolderKnown}
use Rattle.tree_store.proofs.MomentLemmas.{if_told}
use Rattle.partition_core.specs.declared.event.BackCause.TheVariants as back
use Rattle.partition_core.specs.declared.event.Event.{Event}
use Rattle.partition_core.specs.declared.event.Event.TheVariants.{Keep, Start, Finish, Fail, Skip, Back}
use Rattle.partition_core.specs.State.{Opening, at}
use Rattle.partition_core.specs.Histories.{Sound, replay}
use Rattle.partition_core.specs.Counts.{count_below, is_back, is_compiled}
use Rattle.partition_core.proofs.CountsBelow.{count_le}
use Rattle.partition_core.proofs.Places.{also_there}
use Rattle.partition_core.proofs.Starts.{few_starts}
use Rattle.partition_board.specs.Holds.{AreLeft, AreReady, HoldsBy}
use Rattle.partition_crew.specs.Build.{CountsOf, HaveFates, SomeFailed, is_death, is_undone}
use Rattle.partition_crew.specs.Station.{IsLeftNow, IsStation, IsYoung, Nature, Station, is_covered}
use Rattle.partition_crew.proofs.Tallying.{count_fewer}

-- ---- lists that say the same at each place

pub map_same : {X Y : Type 0} (f : X → Y) (xs ys : List X) → length ys ≡ length xs
    → ((p : ℕ) (a b : X) → slice_get xs p ≡ Some a → slice_get ys p ≡ Some b → f b ≡ f a) → map f ys ≡ map f xs
map_same f [] [] long same = refl
map_same f [] (y ∷ ys) long same = cc
map_same f (x ∷ xs) [] long same = cc
map_same f (x ∷ xs) (y ∷ ys) long same =
    ap (λ v. v ∷ map f ys) (same 0 x y refl refl)
    ∙ ap (λ vs. f x ∷ vs) (map_same f xs ys (let e : length (y ∷ ys) ≡ length (x ∷ xs) = long in omega arith) (λ p a b was has. same (suc p) a b was has))

-- ---- events that count

death_is_back : (event : Event) → cond (is_death event) 1 0 ≤ cond (is_back event) 1 0
death_is_back (Keep place by) = omega arith
death_is_back (Start place by) = omega arith
death_is_back (Finish place by outcome) = omega arith
death_is_back (Fail place by outcome) = omega arith
death_is_back (Skip place need by) = omega arith
death_is_back (Back place by back.Died) = omega arith
death_is_back (Back place by back.Tree) = omega arith
death_is_back (Back place by back.Memory) = omega arith

undone_is_back : (event : Event) → cond (is_undone event) 1 0 ≤ cond (is_back event) 1 0
undone_is_back (Keep place by) = omega arith
undone_is_back (Start place by) = omega arith
undone_is_back (Finish place by outcome) = omega arith
undone_is_back (Fail place by outcome) = omega arith
undone_is_back (Skip place need by) = omega arith
undone_is_back (Back place by back.Died) = omega arith
undone_is_back (Back place by back.Tree) = omega arith
undone_is_back (Back place by back.Memory) = omega arith

-- ---- what is held by a fate

pub holds_by : (o : Opening) (fates : List (Option Fate)) (place : ℕ) (fate : Option Fate) (first now : FolderKnown) → IsLeftNow o fates place fate first now
    → IfSome now.held (HoldsBy o fates place fate)
holds_by o fates place None first now left = if_told now.held (λ held is. tt)
holds_by o fates place (Some (Built outcome)) first now left = left
holds_by o fates place (Some (NotBuilt outcome)) first now left = left
holds_by o fates place (Some (Skipped need)) first now left = if_told now.held (λ held is. tt)

module _ (nature : Nature) (o : Opening) (planned : ArePlanned o.plan.jobs) (first : Station) (ready : AreReady o first.folders)
    (young : IsYoung first.counts) where
  -- ---- where all is as the history says

  module _ (now : Station) (station : IsStation nature o first now) where
    abbrev fates : List (Option Fate)
    fates = (replay o now.events).fates

    pub no_deaths : count_by is_death now.events ≡ 0
    no_deaths = omega (arith, count_fewer is_death is_back now.events death_is_back, station.unended)

    pub none_undone : count_by is_undone now.events ≡ 0
    none_undone = omega (arith, count_fewer is_undone is_back now.events undone_is_back, station.unended)

    pub station_left : AreLeft o fates first.folders now.folders
    station_left = record {
      keys = map_same (λ (folder : FolderKnown). folder.key) first.folders now.folders station.homes.long
          (λ p a b was has. (station.homes.each p a b was has).key);
      each = λ p b has.
          let was = also_there now.folders first.folders p b station.homes.long has in
          holds_by o fates p (at fates p) was.0 b (station.homes.each p was.0 b was.1 has).left;
    }

    pub station_counts : CountsOf nature.lasting now.events first.counts now.counts
    station_counts = record {
      most = omega (arith, station.runs);
      least = omega (arith, station.runs);
      deaths = omega (arith, station.deaths, no_deaths);
      lives = λ e. station.deaths;
      lasts = λ lasting. station.deaths;
    }

    pub unfailed : (p : ℕ) (folder : FolderKnown) → slice_get now.folders p ≡ Some folder → folder.faults ≡ 0
    unfailed p folder has =
        let was = also_there now.folders first.folders p folder station.homes.long has in
        (station.homes.each p was.0 folder was.1 has).faults ∙ ready.fresh p was.0 was.1

    pub none_failed : SomeFailed now.folders → ⊥
    none_failed some = some.3 (unfailed some.0 some.1 some.2)

    pub alive : now.counts.deaths ≡ 0
    alive = station.deaths ∙ young.lives

    pub station_runs : HaveFates (length o.plan.jobs) fates → nature.honest → Sound nature.compile o
        → now.counts.runs ≡ first.counts.runs + count_below (is_compiled nature.compile o) (length o.plan.jobs)
    station_runs have honest sound =
        let few = few_starts nature.compile o now.events planned sound station.legal (station.faithful honest) in
        let enough = count_le (is_compiled nature.compile o) (is_covered nature.compile o fates) (length o.plan.jobs)
        (λ p below e. and_from (is_compiled nature.compile o p) (is_some (at fates p)) e (have p below)) in
        let starts = station.starts honest sound in
        omega (arith, few, enough, starts, station.unended, station.runs)

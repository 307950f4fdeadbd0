-- A build that gave a place back.
use Rattle.std.proofs.Common.{◌≡◌, ◌≢◌, ◌↔◌, ℕ, ◌+◌, inl, inr, true, false, List, length, count_by, Option, Some, None, is_some, IfSome, slice_get, Err, refl, sym, ◌∙◌, ap, subst, arith}
use Rattle.std.proofs.lemmas.Bool.{cases_eq}
use Rattle.std.proofs.lemmas.List.{length-set}
use Rattle.std.proofs.lemmas.Option.{slice_get_within}
use Rattle.compile_model.specs.declared.outcome.Fate.{Fate}
use Rattle.compile_model.specs.Planned.{ArePlanned}
use Rattle.tree_store.specs.FolderKnown.{FolderKnown}
use Rattle.tree_store.proofs.MomentLemmas.{if_told}
use Rattle.partition_core.specs.declared.event.Event.TheVariants.{Start}
use Rattle.partition_core.specs.State.{Opening, State, at}
use Rattle.partition_core.specs.Steps.{after}
use Rattle.partition_core.specs.Histories.{replay}
use Rattle.partition_core.proofs.Places.{also_there, set_other, set_same}
use Rattle.partition_crew.specs.declared.one.BuildFault.{BuildFault}
use Rattle.partition_crew.specs.declared.one.BuildFault.TheVariants.{TreeFault, OutOfMemory, NoPartitionLeft}
use Rattle.partition_crew.specs.declared.one.One.{One}
use Rattle.partition_crew.specs.declared.worked.Worked.{Worked}
use Rattle.partition_crew.specs.declared.worked.Worked.TheVariants.{Finished, Failed, Died, TreeFault as TreeFailed, NoMemory}
use Rattle.partition_board.specs.Holds.{AreLeft, AreReady, HoldsBy}
use Rattle.partition_crew.specs.Build.{CountsOf, HaveFates, IsEnding, SomeFailed, is_death, is_undone}
use Rattle.partition_crew.specs.Station.{IsStation, IsYoung, Nature, Station, WorksOn, event_by, told_by}
use Rattle.partition_crew.specs.Work.{has_died, tree_failed}
use Rattle.partition_board.proofs.Growing.{at_open}
use Rattle.partition_crew.proofs.Telling.{counted_works, replayed, starts_works}
use Rattle.partition_crew.proofs.Standing.{no_deaths, unfailed, alive, map_same, holds_by}

-- ---- the fault

pub ending_of : (one : One) (fault : BuildFault) (places deaths : ℕ) (folders : List FolderKnown) → one.fault ≡ Some fault
    → (HaveFates places one.fates.items → ⊥)
    → (fault ≡ TreeFault) ↔ SomeFailed folders → (fault ≡ NoPartitionLeft 1) ↔ (deaths ≢ 0) → ((n : ℕ) → fault ≡ NoPartitionLeft n → n ≡ 1)
    → IsEnding one places deaths folders
ending_of one fault places deaths folders is unfated tree died just = record {
  none = ((λ e. let clash : None ≡ Some fault = sym e ∙ is in cc), (λ have. absurd (unfated have)));
  tree = ((λ e. tree.0 (let same : Some fault ≡ Some TreeFault = sym is ∙ e in cc)), (λ some. is ∙ ap (λ (f : BuildFault). Some f) (tree.1 some)));
  died = ((λ e. died.0 (let same : Some fault ≡ Some (NoPartitionLeft 1) = sym is ∙ e in cc)), (λ rose. is ∙ ap (λ (f : BuildFault). Some f) (died.1 rose)));
  just_one = λ n e. just n (let same : Some fault ≡ Some (NoPartitionLeft n) = sym is ∙ e in cc);
}

module _ (nature : Nature) (o : Opening) (planned : ArePlanned o.plan.jobs) (first : Station) (ready : AreReady o first.folders)
    (young : IsYoung first.counts) where
  -- ---- where a place was given back

  module _ (last now : Station) (station : IsStation nature o first last) (came : Worked) (w : WorksOn nature o came last now) where
    abbrev s : State
    s = replay o last.events

    -- giving back leaves the fates
    same_fates : (worked : Worked) (fault : BuildFault) → told_by worked ≡ Err fault
        → (after o (after o s (Start w.place 1)) (event_by w.place worked)).fates ≡ s.fates
    same_fates (Finished twin) fault told = cc
    same_fates (Failed twin) fault told = cc
    same_fates Died fault told = refl
    same_fates TreeFailed fault told = refl
    same_fates NoMemory fault told = refl

    fates_now : (fault : BuildFault) → told_by came ≡ Err fault → (replay o now.events).fates ≡ s.fates
    fates_now fault told = ap (λ (t : State). t.fates) (replayed nature o came last now w) ∙ same_fates came fault told

    put : slice_get now.folders w.place ≡ Some w.works.after
    put = ap (λ (all : List FolderKnown). slice_get all w.place) w.works.folders ∙ set_same last.folders w.place w.works.after w.works.before w.works.there

    elsewhere : (p : ℕ) → (p ≡ w.place → ⊥) → slice_get now.folders p ≡ slice_get last.folders p
    elsewhere p other = ap (λ (all : List FolderKnown). slice_get all p) w.works.folders ∙ set_other last.folders w.place p w.works.after other

    long : length now.folders ≡ length last.folders
    long = ap length w.works.folders ∙ length-set last.folders w.place w.works.after

    after_is : (b : FolderKnown) → slice_get now.folders w.place ≡ Some b → w.works.after ≡ b
    after_is b has = let e : Some w.works.after ≡ Some b = sym put ∙ has in cc

    key_same : (p : ℕ) (a b : FolderKnown) → slice_get first.folders p ≡ Some a → slice_get now.folders p ≡ Some b → b.key ≡ a.key
    key_same p a b was has = elim (cases_eq p w.place) [
      | inl same ↦
          let own : w.works.after ≡ b = after_is b (ap (slice_get now.folders) (sym same) ∙ has) in
          let home = station.homes.each p a w.works.before was (ap (slice_get last.folders) same ∙ w.works.there) in
          ap (λ (f : FolderKnown). f.key) (sym own) ∙ w.works.touches.key ∙ home.key
      | inr other ↦ (station.homes.each p a b was (sym (elsewhere p other) ∙ has)).key
    ]

    cut_held : (p : ℕ) (b : FolderKnown) → slice_get now.folders p ≡ Some b → IfSome b.held (HoldsBy o s.fates p (at s.fates p))
    cut_held p b has = elim (cases_eq p w.place) [
      | inl same ↦
          let none : at s.fates p ≡ None = ap (at s.fates) same ∙ at_open s.fates w.place w.legal.0.open_place in
          subst (λ (fate : Option Fate). IfSome b.held (HoldsBy o s.fates p fate)) (sym none) (if_told b.held (λ held is. tt))
      | inr other ↦
          let there : slice_get last.folders p ≡ Some b = sym (elsewhere p other) ∙ has in
          let was = also_there last.folders first.folders p b station.homes.long there in
          holds_by o s.fates p (at s.fates p) was.0 b (station.homes.each p was.0 b was.1 there).left
    ]

    pub cut_left : (fault : BuildFault) → told_by came ≡ Err fault → AreLeft o (replay o now.events).fates first.folders now.folders
    cut_left fault told = subst (λ (all : List (Option Fate)). AreLeft o all first.folders now.folders) (sym (fates_now fault told)) (record {
      keys = map_same (λ (folder : FolderKnown). folder.key) first.folders now.folders (long ∙ station.homes.long) key_same;
      each = cut_held;
    })

    pub cut_open : (fault : BuildFault) → told_by came ≡ Err fault → HaveFates (length o.plan.jobs) (replay o now.events).fates → ⊥
    cut_open fault told have =
        let none : at (replay o now.events).fates w.place ≡ None = ap (λ (all : List (Option Fate)). at all w.place) (fates_now fault told)
        ∙ at_open s.fates w.place w.legal.0.open_place in
        let some : is_some (at (replay o now.events).fates w.place) ≡ true = have w.place (slice_get_within o.plan.jobs w.place w.job w.here) in
        let clash : false ≡ true = ap is_some (sym none) ∙ some in cc

    -- the other folders haven't failed, nor has this one unless the tree did
    unfailed_but : tree_failed came ≡ false → SomeFailed now.folders → ⊥
    unfailed_but kept (p, b, has, failed) = elim (cases_eq p w.place) [
      | inl same ↦
          let own : w.works.after ≡ b = after_is b (ap (slice_get now.folders) (sym same) ∙ has) in
          failed (ap (λ (f : FolderKnown). f.faults) (sym own) ∙ w.works.touches.cause.kept kept ∙ unfailed nature o planned first ready young last station w.place w.works.before w.works.there)
      | inr other ↦ failed (unfailed nature o planned first ready young last station p b (sym (elsewhere p other) ∙ has))
    ]

    tree_rose : tree_failed came ≡ true → SomeFailed now.folders
    tree_rose rose =
        let before : w.works.before.faults ≡ 0 = unfailed nature o planned first ready young last station w.place w.works.before w.works.there in
        let up = w.works.touches.cause.rose rose in
        (w.place, w.works.after, put, λ zero. omega (arith, before, up, zero))

    still_alive : has_died came ≡ false → now.counts.deaths ≡ 0
    still_alive kept = w.counts.deaths.kept kept ∙ alive nature o planned first ready young last station

    deaths_rose : has_died came ≡ true → now.counts.deaths ≢ 0
    deaths_rose rose = λ zero. let up = w.counts.deaths.rose rose in omega (arith, up, zero, alive nature o planned first ready young last station)

  pub counts_cut : (last now : Station) (station : IsStation nature o first last) (came : Worked) (fault : BuildFault) (w : WorksOn nature o came last now)
      → told_by came ≡ Err fault
      → CountsOf nature.lasting now.events first.counts now.counts
  counts_cut last now station (Finished twin) fault w told = cc
  counts_cut last now station (Failed twin) fault w told = cc
  counts_cut last now station Died fault w told =
      let starts = starts_works nature o Died last now w in
      let dead : count_by is_death now.events ≡ count_by is_death last.events + 1 = counted_works nature o Died last now w is_death refl in
      let undone : count_by is_undone now.events ≡ count_by is_undone last.events + 0 = counted_works nature o Died last now w is_undone refl in
      let up = w.counts.deaths.rose refl in
      record {
        most = omega (arith, starts, station.runs, w.counts.few);
        least = omega (arith, starts, station.runs, w.counts.ran refl);
        deaths = omega (arith, dead, no_deaths nature o planned first ready young last station, up, alive nature o planned first ready young last station, young.lives);
        lives = λ e. absurd (omega (arith, dead, e));
        lasts = λ lasting. w.counts.lasts lasting ∙ station.deaths;
      }
  counts_cut last now station TreeFailed fault w told =
      let starts = starts_works nature o TreeFailed last now w in
      let dead : count_by is_death now.events ≡ count_by is_death last.events + 0 = counted_works nature o TreeFailed last now w is_death refl in
      let undone : count_by is_undone now.events ≡ count_by is_undone last.events + 1 = counted_works nature o TreeFailed last now w is_undone refl in
      let same : now.counts.deaths ≡ first.counts.deaths = w.counts.deaths.kept refl ∙ station.deaths in
      record {
        most = omega (arith, starts, station.runs, w.counts.few);
        least = omega (arith, starts, station.runs, w.counts.later, undone);
        deaths = omega (arith, dead, no_deaths nature o planned first ready young last station, same);
        lives = λ e. same;
        lasts = λ lasting. same;
      }
  counts_cut last now station NoMemory fault w told =
      let starts = starts_works nature o NoMemory last now w in
      let dead : count_by is_death now.events ≡ count_by is_death last.events + 0 = counted_works nature o NoMemory last now w is_death refl in
      let undone : count_by is_undone now.events ≡ count_by is_undone last.events + 1 = counted_works nature o NoMemory last now w is_undone refl in
      let same : now.counts.deaths ≡ first.counts.deaths = w.counts.deaths.kept refl ∙ station.deaths in
      record {
        most = omega (arith, starts, station.runs, w.counts.few);
        least = omega (arith, starts, station.runs, w.counts.later, undone);
        deaths = omega (arith, dead, no_deaths nature o planned first ready young last station, same);
        lives = λ e. same;
        lasts = λ lasting. same;
      }

  pub ending_cut : (one : One) (last now : Station) (station : IsStation nature o first last) (came : Worked) (fault : BuildFault)
      (w : WorksOn nature o came last now) → told_by came ≡ Err fault
      → one.fault ≡ Some fault → (HaveFates (length o.plan.jobs) one.fates.items → ⊥) → IsEnding one (length o.plan.jobs) now.counts.deaths now.folders
  ending_cut one last now station (Finished twin) fault w told is unfated = cc
  ending_cut one last now station (Failed twin) fault w told is unfated = cc
  ending_cut one last now station Died fault w told is unfated =
      let own : NoPartitionLeft 1 ≡ fault = cc in
      ending_of one fault (length o.plan.jobs) now.counts.deaths now.folders is unfated
      ((λ e. let clash : NoPartitionLeft 1 ≡ TreeFault = own ∙ e in cc), (λ some. absurd (unfailed_but last now station Died w refl some)))
      ((λ e. deaths_rose last now station Died w refl), (λ rose. sym own))
      (λ n e. let same : NoPartitionLeft 1 ≡ NoPartitionLeft n = own ∙ e in cc)
  ending_cut one last now station TreeFailed fault w told is unfated =
      let own : TreeFault ≡ fault = cc in
      ending_of one fault (length o.plan.jobs) now.counts.deaths now.folders is unfated
      ((λ e. tree_rose last now station TreeFailed w refl), (λ some. sym own))
      ((λ e. let clash : TreeFault ≡ NoPartitionLeft 1 = own ∙ e in cc), (λ rose. absurd (rose (still_alive last now station TreeFailed w refl))))
      (λ n e. let clash : TreeFault ≡ NoPartitionLeft n = own ∙ e in cc)
  ending_cut one last now station NoMemory fault w told is unfated =
      let own : OutOfMemory ≡ fault = cc in
      ending_of one fault (length o.plan.jobs) now.counts.deaths now.folders is unfated
      ((λ e. let clash : OutOfMemory ≡ TreeFault = own ∙ e in cc), (λ some. absurd (unfailed_but last now station NoMemory w refl some)))
      ((λ e. let clash : OutOfMemory ≡ NoPartitionLeft 1 = own ∙ e in cc), (λ rose. absurd (rose (still_alive last now station NoMemory w refl))))
      (λ n e. let clash : OutOfMemory ≡ NoPartitionLeft n = own ∙ e in cc)

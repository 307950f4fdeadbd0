-- From the clauses of a build in folders to what the maker counted.
use Rattle.std.proofs.Common.{get_or, slice_set, ◌≡◌, ◌≢◌, ◌↔◌, ◌⊎◌, inl, inr, ℕ, zero, suc, ◌+◌, ◌-◌, ◌^◌, ◌<◌, ◌≤◌, Bool, true, false, cond, List, [], ◌∷◌, length, map, max, min, nat_lt, count_by, Option, Some, None, Ok, refl, sym, ◌∙◌, ap, subst, arith}
use Rattle.std.specs.List.{All}
use Rattle.std.proofs.lemmas.Bool.{cases_eq}
use Rattle.mx_base.specs.Causes.{Counted, Rose}
use Rattle.compile_model.specs.Content.{Content}
use Rattle.compile_model.specs.Planned.{ArePlanned}
use Rattle.tree_store.specs.FolderKnown.{FolderKnown}
use Rattle.partition_core.specs.declared.event.Event.{Event}
use Rattle.partition_core.specs.Counts.{count_below, is_compiled, is_start}
use Rattle.partition_core.specs.Histories.{Faithful, Sound}
use Rattle.partition_core.specs.State.{Opening}
use Rattle.partition_crew.specs.declared.one.BuildFault.TheVariants.{TreeFault, NoPartitionLeft}
use Rattle.partition_crew.specs.declared.one.One.{One}
use Rattle.partition_crew.specs.Build.{CountsOf, HaveFates, IsEnding, IsHistory as IsHistoryOf, SomeFailed, StayFor, inputs_of, is_death, is_undone}
use Rattle.partition_board.specs.Holds.{AreLeft}
use Rattle.partition_crew.specs.Station.{IsYoung, Nature}
use Rattle.partition_face.specs.declared.counts.Counts.{Counts}
use Rattle.partition_face.specs.Counts.{deaths_of, fresh, raised_by, runs_of}
use Rattle.partition_face.specs.Makers.{MakerKnown, Starts, Stops}
use Rattle.mix_compile.specs.Building.{Bench, HasBuilt, bench_of}
use Rattle.mix_compile.specs.History.{IsCounted}
use Rattle.mix_compile.proofs.Lone.{lone_death, lone_starts}

-- ---- the partition that was started

pub one_started : (old new : MakerKnown) (started : List Counts) → Starts 1 old new (Ok started) → (first : Counts) × (started ≡ first ∷ []) × (first ≡ fresh)
one_started old new [] starts = absurd (omega (arith, starts.start.some (omega arith)))
one_started old new (first ∷ []) starts = (first, refl, starts.start.each 0 first (omega arith))
one_started old new (first ∷ next ∷ more) starts = absurd (omega (arith, starts.start.enough))

pub young : (counts : Counts) → counts ≡ fresh → IsYoung counts
young counts is = record { lives = ap (λ (c : Counts). c.deaths) is; few = let e = ap (λ (c : Counts). c.runs) is in omega (arith, e) }

-- it was started, and stopped with what it counted
pub record Ran (counts : Counts) (old new : MakerKnown) : Type 0 where
  pub runs : new.runs ≡ raised_by counts.runs old.runs
  pub deaths : new.deaths ≡ raised_by counts.deaths old.deaths
  pub asked : new.asked ≡ raised_by 1 old.asked
  pub made : new.faults ≡ old.faults

plain : {n m : ℕ} → n ≡ m + 0 → n ≡ m
plain e = omega (arith, e)

pub ran_one : (old mid new : MakerKnown) (started stopped : List Counts) (last : Counts) → Starts 1 old mid (Ok started) → stopped ≡ last ∷ []
    → Stops stopped mid new → Ran last old new
ran_one old mid new started stopped last starts one stops =
    let first = one_started old mid started starts in
    let enough : nat_lt (length started) 1 ≡ false = ap (λ (cs : List Counts). nat_lt (length cs) 1) first.1 in
    let runs : runs_of stopped ≡ last.runs = plain (ap runs_of one) in
    let deaths : deaths_of stopped ≡ last.deaths = plain (ap deaths_of one) in
    let base = starts.rest in
    record {
      runs = ap (λ (m : MakerKnown). m.runs) stops ∙ ap (λ (n : ℕ). raised_by n mid.runs) runs ∙ ap (λ (m : MakerKnown). raised_by last.runs m.runs) base;
      deaths = ap (λ (m : MakerKnown). m.deaths) stops ∙ ap (λ (n : ℕ). raised_by n mid.deaths) deaths
          ∙ ap (λ (m : MakerKnown). raised_by last.deaths m.deaths) base;
      asked = ap (λ (m : MakerKnown). m.asked) stops ∙ ap (λ (m : MakerKnown). m.asked) base;
      made = ap (λ (m : MakerKnown). m.faults) stops ∙ starts.cause.kept enough;
    }

-- ---- what it counted, in the maker

module _ (lasting : Type 0) (history : List Event) (first last : Counts) (old new : MakerKnown) (is : first ≡ fresh)
    (counts : CountsOf lasting history first last) (ran : Ran last old new) where
  no_runs : first.runs ≡ 0
  no_runs = ap (λ (c : Counts). c.runs) is

  no_deaths : first.deaths ≡ 0
  no_deaths = ap (λ (c : Counts). c.deaths) is

  pub counted_ran : IsCounted history old new
  counted_ran = record {
    most = omega (arith, ran.runs, counts.most, no_runs);
    least = λ below. omega (arith, ran.runs, counts.least, no_runs, below);
    deaths = λ below. omega (arith, ran.deaths, counts.deaths, no_deaths, below);
  }

  pub died_rose : last.deaths ≢ 0 → Rose old.deaths new.deaths
  died_rose some = at last.deaths refl
    where
      at : (n : ℕ) → last.deaths ≡ n → Rose old.deaths new.deaths
      at zero e = absurd (some e)
      at (suc n) e = omega (arith, ran.deaths, e)

  pub died_mortal : last.deaths ≢ 0 → lasting → ⊥
  died_mortal some lasts = some (counts.lasts lasts ∙ no_deaths)

  pub lived : last.deaths ≡ 0 → new.deaths ≡ old.deaths
  lived none = omega (arith, ran.deaths, none)

  pub died_once : last.deaths ≢ 0 → count_by is_death history ≤ 1 → count_by is_death history ≡ 1
  died_once some most = at (count_by is_death history) refl most
    where
      at : (n : ℕ) → count_by is_death history ≡ n → n ≤ 1 → count_by is_death history ≡ 1
      at zero e few = absurd (some (counts.lives e ∙ no_deaths))
      at (suc zero) e few = e
      at (suc (suc n)) e few = absurd (omega (arith, few))

-- ---- all of it

pub has_built : (nature : Nature) (o : Opening) (first last : Counts) (before after : List FolderKnown) (old new : MakerKnown) (one : One)
    → o.partitions ≡ 1 → ArePlanned o.plan.jobs → first ≡ fresh → Ran last old new → IsHistoryOf o one
    → (nature.honest → Faithful nature.compile o one.history.items) → AreLeft o one.fates.items before after
    → (nature.honest → Sound nature.compile o → StayFor nature.compile (inputs_of nature.compile o.plan.jobs) before after)
    → CountsOf nature.lasting one.history.items first last → IsEnding one (length o.plan.jobs) last.deaths after
    → HasBuilt nature o (bench_of before old) (bench_of after new) one
has_built nature o first last before after old new one alone planned is ran history faithful left stay counts ending = record {
  history = history;
  faithful = faithful;
  left = left;
  stay = stay;
  counts = counted;
  all = ending.none.0;
  fault = record {
    tree = ending.tree.0;
    whole = λ other some. other (ending.tree.1 some);
    died = λ n e.
        let single : n ≡ 1 = ending.just_one n e in
        let some : last.deaths ≢ 0 = ending.died.0 (e ∙ ap (λ (m : ℕ). Some (NoPartitionLeft m)) single) in (
          died_rose nature.lasting one.history.items first last old new is counts ran some,
          died_mortal nature.lasting one.history.items first last old new is counts ran some,
          died_once nature.lasting one.history.items first last old new is counts ran some (lone_death o one.history.items alone history.legal),
        );
    lives = λ alive. elim (cases_eq last.deaths 0) [
      | inl none ↦ lived nature.lasting one.history.items first last old new is counts ran none
      | inr some ↦ absurd (alive 1 (ending.died.1 some))
    ];
  };
  asked = ran.asked;
  made = ran.made;
  few = λ honest sound.
      omega (arith, counted.most, lone_starts nature.compile o one.history.items alone planned sound history.legal (faithful honest));
}
  where
    counted : IsCounted one.history.items old new
    counted = counted_ran nature.lasting one.history.items first last old new is counts ran

-- ---- the list of the one partition

one_item : {P : Type 0} (counted : P → Counts) (old new : MakerKnown) (items : List P) → Starts 1 old new (Ok (map counted items))
    → (first : P) × (items ≡ first ∷ []) × (counted first ≡ fresh)
one_item counted old new [] starts = absurd (omega (arith, starts.start.some (omega arith)))
one_item counted old new (first ∷ []) starts = (first, refl, starts.start.each 0 (counted first) (omega arith))
one_item counted old new (first ∷ next ∷ more) starts = absurd (omega (arith, starts.start.enough))

pub first_fresh : {P : Type 0} (counted : P → Counts) (old new : MakerKnown) (items : List P) (read : P) → Starts 1 old new (Ok (map counted items))
    → read ≡ get_or items 0 read → counted read ≡ fresh
first_fresh {P} counted old new items read starts is =
    let one = one_item counted old new items starts in
    ap counted (is ∙ ap (λ (ps : List P). get_or ps 0 read) one.1) ∙ one.2

pub one_set : {P : Type 0} (counted : P → Counts) (old new : MakerKnown) (items : List P) (last : P) → Starts 1 old new (Ok (map counted items))
    → map counted (slice_set items 0 last) ≡ counted last ∷ []
one_set {P} counted old new items last starts =
    let one = one_item counted old new items starts in ap (λ (ps : List P). map counted (slice_set ps 0 last)) one.1

-- What a build has led to, where it began and where there was no memory for that.
use Rattle.std.proofs.Common.{◌≡◌, ℕ, zero, suc, ◌+◌, true, false, List, [], ◌∷◌, length, map, Option, Some, is_some, refl, sym, ◌∙◌, ap, subst, arith}
use Rattle.std.specs.List.{list_all, list_any}
use Rattle.std.proofs.lemmas.List.{length-map}
use Rattle.compile_model.specs.declared.job.Job.{Job}
use Rattle.compile_model.specs.declared.outcome.Outcome.{Outcome}
use Rattle.compile_model.specs.declared.outcome.Fate.{Fate}
use Rattle.compile_model.specs.Content.{Content}
use Rattle.compile_model.specs.Planned.{ArePlanned}
use Rattle.compile_model.specs.Seq.{seq}
use Rattle.tree_store.specs.FolderKnown.{FolderKnown}
use Rattle.partition_core.specs.declared.event.Event.{Event}
use Rattle.partition_core.specs.State.{Opening, at}
use Rattle.partition_core.specs.Histories.{Faithful, Legal, Sound, replay}
use Rattle.partition_core.proofs.Tidy.{places_all}
use Rattle.partition_face.specs.declared.counts.Counts.{Counts}
use Rattle.partition_board.specs.Begun.{Begun}
use Rattle.partition_board.specs.Failures.{AreCounted}
use Rattle.partition_board.specs.Holds.{AreLeft, AreReady}
use Rattle.partition_board.specs.Posts.{AreFatesOf, IsHistoryOf, PostView, begun_in}
use Rattle.partition_crew.specs.declared.one.One.{One}
use Rattle.partition_crew.specs.Build.{CountsOf, HaveFates, IsHistory, SomeFailed}
use Rattle.partition_crew.proofs.Unbegun.{unbegun_agrees, unbegun_counts, unbegun_history}
use Rattle.partition_build.specs.Built.{AreCountsOf, AreStartsOf, GivesFates, HasBegun, IsEndingOf, all_fated, events_of, fault_by, has_died, is_tree_back}
use Rattle.partition_build.specs.Built.HasBegun.{begun, unbegun}
use Rattle.partition_build.proofs.Faults.{ending_is, failed}
use Rattle.partition_build.proofs.Stale.{starts_are}

-- what the board gave when it was closed
pub record IsClosed (honest : Type 0) (compile : Content → Outcome) (o : Opening) (first last : List FolderKnown) (fates : List (Option Fate))
    (history : List Event) : Type 0 where
  pub legal : Legal o history
  pub replayed : fates ≡ (replay o history).fates
  pub faithful : honest → Faithful compile o history
  pub sequential : honest → Sound compile o → AreFatesOf (seq compile o.plan.jobs) fates
  pub left : AreLeft o fates first last
  pub counted : AreCounted history last

pub closed_is : {F : Type 0} (known : F → FolderKnown) (honest : Type 0) (compile : Content → Outcome) (o : Opening) (folders last : List F)
    (fates : List (Option Fate)) (history : List Event) (posts : List (PostView F)) → begun_in posts ≡ record { build = o; folders = folders }
    → IsHistoryOf posts history → fates ≡ (replay (begun_in posts).build history).fates → (honest → Faithful compile (begun_in posts).build history)
    → (honest → Sound compile (begun_in posts).build → AreFatesOf (seq compile (begun_in posts).build.plan.jobs) fates)
    → AreLeft (begun_in posts).build fates (map known (begun_in posts).folders) (map known last) → AreCounted history (map known last)
    → IsClosed honest compile o (map known folders) (map known last) fates history
closed_is {F} known honest compile o folders last fates history posts same is replays faith sequence leaves counts =
    subst (λ (b : Begun F). IsClosed honest compile b.build (map known b.folders) (map known last) fates history) same (record {
      legal = is.legal;
      replayed = replays;
      faithful = faith;
      sequential = sequence;
      left = leaves;
      counted = counts;
    })

module _ (honest : Type 0) (compile : Content → Outcome) (o : Opening) (first last : List FolderKnown) (one : One)
    (closed : IsClosed honest compile o first last one.fates.items one.history.items) where
  pub closed_history : IsHistory o one
  closed_history = record {
    legal = closed.legal;
    fates = λ place. ap (λ (all : List (Option Fate)). at all place) closed.replayed;
  }

  last_length : AreReady o first → length last ≡ length o.plan.jobs
  last_length ready = sym (length-map last (λ (f : FolderKnown). f.key)) ∙ ap length closed.left.keys ∙ length-map first (λ (f : FolderKnown). f.key) ∙ ready.places

  pub closed_ending : (counts : List Counts) (n : ℕ) → AreReady o first → n ≡ length counts
      → one.fault ≡ fault_by (all_fated (length o.plan.jobs) one.fates.items) (list_any is_tree_back one.history.items) (list_all has_died counts) n
      → IsEndingOf one (length o.plan.jobs) last counts
  closed_ending counts n ready many fault =
      let long : length one.fates.items ≡ length o.plan.jobs = ap length closed.replayed ∙ places_all o one.history.items in
      ending_is one (length o.plan.jobs) last counts (omega (arith, long))
      (failed o one.history.items last closed.legal (last_length ready) closed.counted)
      (subst (λ (k : ℕ). one.fault ≡ fault_by (all_fated (length o.plan.jobs) one.fates.items) (list_any is_tree_back one.history.items)
      (list_all has_died counts) k) many fault)

  pub closed_fates : (counts : List Counts) → IsEndingOf one (length o.plan.jobs) last counts → honest → Sound compile o
      → GivesFates (seq compile o.plan.jobs) one
  closed_fates counts ending is sound =
      let long : length one.fates.items ≡ length o.plan.jobs = ap length closed.replayed ∙ places_all o one.history.items in
      let fates = closed.sequential is sound in
      record {
        each = fates.each;
        whole = λ done. fates.whole (λ place within. ending.none.0 done place (omega (arith, within, long)));
      }

  pub closed_starts : (counts : List Counts) → ArePlanned o.plan.jobs → IsEndingOf one (length o.plan.jobs) last counts → honest → Sound compile o
      → AreStartsOf compile o one
  closed_starts counts planned ending is sound = starts_are compile o one planned sound closed.legal (closed.faithful is) (begun closed.replayed) ending.none.0

-- ---- where nothing was begun

no_places : (places : ℕ) (fates : List (Option Fate)) → fates ≡ [] → HaveFates places fates → places ≡ 0
no_places zero fates none have = refl
no_places (suc places) fates none have =
    let clash : false ≡ true = ap (λ (all : List (Option Fate)). is_some (at all 0)) (sym none) ∙ have 0 (omega arith) in cc

module _ (o : Opening) (folders : List FolderKnown) (one : One) (none : one.fates.items ≡ []) (nothing : one.history.items ≡ []) where
  pub nothing_history : IsHistory o one × HasBegun o one
  nothing_history = (unbegun_history o one none nothing, unbegun none nothing)

  pub nothing_fates : (compile : Content → Outcome) (counts : List Counts) → IsEndingOf one (length o.plan.jobs) folders counts
      → GivesFates (seq compile o.plan.jobs) one
  nothing_fates compile counts ending = record {
    each = unbegun_agrees one.fates.items (seq compile o.plan.jobs) none;
    whole = λ done. none ∙ sym (at o.plan.jobs (no_places (length o.plan.jobs) one.fates.items none (ending.none.0 done)));
  }
    where
      at : (jobs : List Job) → length jobs ≡ 0 → map Some (seq compile jobs) ≡ []
      at [] e = refl
      at (job ∷ jobs) e = absurd (omega (arith, e))

  pub nothing_counts : (lasting : Type 0) (counts : List Counts) → AreCountsOf lasting one.history.items counts counts
  nothing_counts lasting counts = record {
    long = refl;
    each = λ i before after was has.
        let same : before ≡ after = let e : Some before ≡ Some after = sym was ∙ has in cc in
        subst (λ (c : Counts). CountsOf lasting (events_of (i + 1) one.history.items) before c) same
        (unbegun_counts lasting (events_of (i + 1) one.history.items) before (ap (events_of (i + 1)) nothing));
  }

  none_failed : AreReady o folders → SomeFailed folders → ⊥
  none_failed ready some = some.3 (ready.fresh some.0 some.1 some.2)

  pub nothing_ending : (counts : List Counts) (n : ℕ) → AreReady o folders → n ≡ length counts
      → one.fault ≡ fault_by (all_fated (length o.plan.jobs) []) false (list_all has_died counts) n
      → IsEndingOf one (length o.plan.jobs) folders counts
  nothing_ending counts n ready many fault =
      let places = length o.plan.jobs in
      let by_fates = subst (λ (all : List (Option Fate)). one.fault ≡ fault_by (all_fated places all) false (list_all has_died counts) n) (sym none) fault in
      let by_all = subst (λ (es : List Event). one.fault
      ≡ fault_by (all_fated places one.fates.items) (list_any is_tree_back es) (list_all has_died counts) n) (sym nothing) by_fates in
      let zero_long : length one.fates.items ≡ 0 = ap length none in
      ending_is one places folders counts (omega (arith, zero_long))
      ((λ e. let clash : false ≡ true = sym (ap (list_any is_tree_back) nothing) ∙ e in cc), (λ some. absurd (none_failed ready some)))
      (subst (λ (k : ℕ). one.fault
      ≡ fault_by (all_fated places one.fates.items) (list_any is_tree_back one.history.items) (list_all has_died counts) k) many by_all)

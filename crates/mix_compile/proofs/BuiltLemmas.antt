-- From a build in folders to one in the store.
use Rattle.std.proofs.Common.{◌≡◌, ◌≢◌, ◌⊎◌, inl, inr, ℕ, zero, suc, ◌+◌, ◌<◌, ◌≤◌, Bool, true, false, List, [], ◌∷◌, ◌++◌, length, map, count_by, Option, Some, None, IfSome, IsSome, slice_get, replicate, ◌==◌, Result, Ok, Err, IfOk, OnErr, refl, sym, ◌∙◌, ap, subst, arith}
use Rattle.std.proofs.lemmas.Bool.{eqb-true}
use Rattle.std.proofs.lemmas.List.{length-map}
use Rattle.compile_model.specs.declared.job.Job.{Job}
use Rattle.compile_model.specs.declared.job.Plan.{Plan}
use Rattle.compile_model.specs.declared.outcome.Fate.{Fate}
use Rattle.compile_model.specs.Planned.{ArePlanned}
use Rattle.staleness.specs.declared.kept.Kept.{Kept}
use Rattle.honest_tree.specs.KeptOf.{AreKeptOf}
use Rattle.honest_tree.specs.Given.{Given}
use Rattle.honest_tree.specs.Honest.{Honest}
use Rattle.honest_tree.proofs.HonestLemmas.{more_tree}
use Rattle.tree_store.specs.declared.key.BuildKey.{BuildKey}
use Rattle.tree_store.specs.FolderKnown.{FolderKnown}
use Rattle.tree_store.specs.Known.{Known}
use Rattle.tree_store.specs.Slot.{Slot}
use Rattle.tree_store.specs.Slot.Slot.{Here}
use Rattle.partition_core.specs.declared.event.Event.{Event}
use Rattle.partition_core.specs.State.{Opening, at}
use Rattle.partition_core.specs.Histories.{replay}
use Rattle.partition_crew.specs.declared.one.One.{One}
use Rattle.mix_answer.specs.declared.stop.Stop.{Stop}
use Rattle.partition_crew.specs.Build.{SomeFailed, by_one, inputs_of}
use Rattle.partition_board.specs.Holds.{AreReady, HoldsBy}
use Rattle.partition_crew.specs.Station.{Nature}
use Rattle.partition_face.specs.Counts.{raised_by}
use Rattle.partition_face.specs.Makers.{MakerKnown}
use Rattle.mix_compile.specs.Building.{HasBuilt, IsFinished, IsMade, bench_of}
use Rattle.mix_compile.specs.History.{wanted}
use Rattle.mix_compile.specs.Lending.{AreOut, AreTaken, HoldsAt, brought, key_of}
use Rattle.mix_compile.specs.Site.{IsCalm, passage_of, site_of}
use Rattle.mix_compile.proofs.MadeLemmas.{among_first, hold_same, made_at, made_elsewhere, made_out, made_stays, told_slot}
use Rattle.mix_compile.proofs.SoundLemmas.{kept_ready}

one_wanted : (jobs : List Job) → jobs ≢ [] → wanted jobs 1 ≡ 1
one_wanted [] some = absurd (some refl)
one_wanted (job ∷ jobs) some = refl

-- the folders hold what was kept
pub taken_ready : (plan : Plan) (planned : ArePlanned plan.jobs) (kept : List (Option Kept)) (old mid : BuildKey → Slot) (folders : List FolderKnown)
    → AreKeptOf old plan kept → AreTaken plan old mid folders → AreReady (by_one plan kept) folders
taken_ready plan planned kept old mid folders are taken =
    kept_ready plan kept old folders are
    (sym (length-map folders (λ (f : FolderKnown). f.key)) ∙ ap length taken.keys ∙ length-map plan.jobs (key_of plan.env)) taken.fresh
    (λ place job folder here is.
    let at_job = made_at plan planned folders folders old mid (brought folders mid) taken refl (λ q. refl) place job here in
    let same : at_job.0 ≡ folder = let e : Some at_job.0 ≡ Some folder = sym at_job.2 ∙ is in cc in
    at_job.4 ∙ ap (λ (f : FolderKnown). Here f.held) same)

module _ (nature : Nature) (plan : Plan) (planned : ArePlanned plan.jobs) (kept : List (Option Kept)) (old mid new : Known) (m0 m1 : MakerKnown)
    (first now : List FolderKnown) (one : One) (taken : AreTaken plan old.slot mid.slot first)
    (built : HasBuilt nature (by_one plan kept) (bench_of first m0) (bench_of now m1) one) (back : (q : BuildKey) → new.slot q ≡ brought now mid.slot q) where
  pub built_made : plan.jobs ≢ [] → (nature.honest → (place : ℕ) (folder : FolderKnown) → slice_get first place ≡ Some folder → IsSome folder.held)
      → IsMade nature (by_one plan kept) (passage_of (site_of old m0) (site_of new m1)) one.history.items
  built_made some tells = record {
    legal = built.history.legal;
    faithful = built.faithful;
    counts = built.counts;
    asked = built.asked ∙ ap (λ (n : ℕ). raised_by n m0.asked) (sym (one_wanted plan.jobs some));
    elsewhere = made_elsewhere plan planned first now old.slot mid.slot new.slot taken built.left.keys back;
    left = λ place job here.
        let at_job = made_at plan planned first now old.slot mid.slot new.slot taken built.left.keys back place job here in
        let fates : List (Option Fate) = (replay (by_one plan kept) one.history.items).fates in
        subst (HoldsAt (HoldsBy (by_one plan kept) fates place (at fates place))) (sym at_job.5)
        (hold_same (by_one plan kept) one.fates.items fates built.history.fates place at_job.1.held (built.left.each place at_job.1 at_job.3));
    told = λ honest place job here.
        let at_job = made_at plan planned first now old.slot mid.slot new.slot taken built.left.keys back place job here in
        told_slot at_job.0.held (old.slot (key_of plan.env job)) at_job.4 (tells honest place at_job.0 at_job.2);
    stays = λ honest sound known before.
        made_stays plan planned first now old.slot mid.slot new.slot taken built.left.keys back nature.compile (inputs_of nature.compile plan.jobs) known
        (built.stay honest sound) before;
    few = built.few;
  }

-- nothing was to be built
module _ (nature : Nature) (plan : Plan) (none : plan.jobs ≡ []) (kept : List (Option Kept)) (old : Known) (m : MakerKnown) where
  pub none_made : (history : List Event) → history ≡ [] → IsMade nature (by_one plan kept) (passage_of (site_of old m) (site_of old m)) history
  none_made history is = subst (IsMade nature (by_one plan kept) (passage_of (site_of old m) (site_of old m))) (sym is) (record {
    legal = tt;
    faithful = λ honest. tt;
    counts = record {
      most = omega arith;
      least = λ below. omega arith;
      deaths = λ below. omega arith;
    };
    asked = unasked;
    elsewhere = λ q e. refl;
    left = λ place job here. absurd (no_job place job here);
    told = λ honest place job here. absurd (no_job place job here);
    stays = λ honest sound known before.
        more_tree nature.compile known (known ++ inputs_of nature.compile plan.jobs) old.slot (among_first known (inputs_of nature.compile plan.jobs)) before;
    few = λ honest sound. omega arith;
  })
    where
      no_job : (place : ℕ) (job : Job) → slice_get plan.jobs place ≡ Some job → ⊥
      no_job place job here = let clash : None ≡ Some job = sym (ap (λ (js : List Job). slice_get js place) none) ∙ here in cc

      unasked : m.asked ≡ raised_by (wanted plan.jobs 1) m.asked
      unasked =
          let zero_wanted : wanted plan.jobs 1 ≡ 0 = ap (λ (js : List Job). wanted js 1) none in
          let same : raised_by 0 m.asked ≡ m.asked = omega arith in
          sym (ap (λ (n : ℕ). raised_by n m.asked) zero_wanted ∙ same)

  pub none_finished : (history : List Event) (fates : List Fate) → history ≡ [] → fates ≡ []
      → IsFinished (by_one plan kept) (passage_of (site_of old m) (site_of old m)) history fates
  none_finished history fates is are = record {
    whole = ap (λ (h : List Event). (replay (by_one plan kept) h).fates) is ∙ ap (λ (js : List Job). replicate (length js) None) none ∙ ap (map Some) (sym are);
    calm = record { reads = refl; trees = refl; deaths = refl; makers = refl };
  }

-- ---- what is given back

module _ {F : Type 0} (known : F → FolderKnown) (nature : Nature) (plan : Plan) (planned : ArePlanned plan.jobs) (kept : List (Option Kept))
    (old mid : BuildKey → Slot) (first now : List F) (m0 m1 : MakerKnown) (taken : AreTaken plan old mid (map known first)) where
  pub built_out : (result : Result One Stop)
      → IfOk result (λ one. HasBuilt nature (by_one plan kept) (bench_of (map known first) m0) (bench_of (map known now) m1) one)
      → OnErr result (now ≡ first) → AreOut mid (map known now)
  built_out (Ok one) built same =
      made_out plan planned (map known first) (map known now) old mid (brought (map known now) mid) taken built.left.keys (λ q. refl)
  built_out (Err stop) built same = subst (λ (fs : List F). AreOut mid (map known fs)) (sym same) taken.out

  pub none_failed : now ≡ first → SomeFailed (map known now) → ⊥
  none_failed same some = at (subst (λ (fs : List F). SomeFailed (map known fs)) same some)
    where
      at : SomeFailed (map known first) → ⊥
      at (place, folder, is, failed) = failed (taken.fresh place folder is)

-- nothing was read
pub none_by : (jobs read : List Job) (empty : Bool) → read ≡ jobs → empty ≡ (length read == 0) → empty ≡ true → jobs ≡ []
none_by jobs read empty same is e = sym same ∙ nil_from_length read (eqb-true (length read) 0 (sym is ∙ e))
  where
    nil_from_length : (xs : List Job) → length xs ≡ 0 → xs ≡ []
    nil_from_length [] e = refl
    nil_from_length (x ∷ xs) e = absurd (omega (arith, e))

-- What was done with the jobs of a plan, from its steps.
use Rattle.std.proofs.Common.{◌≡◌, ◌≢◌, ◌⊎◌, inl, inr, ℕ, zero, suc, ◌+◌, ◌<◌, ◌≤◌, Bool, true, false, cond, not, ◌&&◌, List, [], ◌∷◌, ◌++◌, length, map, count_by, Option, Some, None, IfSome, All, Result, Ok, Err, Vec, slice_get, refl, sym, ◌∙◌, ap, subst, arith}
use Rattle.std.specs.declared.alloc.Global.{Global}
use Rattle.mx_base.specs.Causes.{Rose}
use Rattle.compile_model.specs.declared.job.Job.{Job}
use Rattle.compile_model.specs.declared.job.Plan.{Plan}
use Rattle.compile_model.specs.declared.outcome.Fate.{Fate}
use Rattle.compile_model.specs.Content.{Content}
use Rattle.compile_model.specs.Planned.{ArePlanned}
use Rattle.compile_model.specs.Seq.{seq}
use Rattle.staleness.specs.declared.kept.Kept.{Kept}
use Rattle.honest_tree.specs.Given.{Given, NoClash}
use Rattle.honest_tree.specs.Honest.{Honest}
use Rattle.honest_tree.specs.KeptOf.{AreKeptOf, IsKeptAt}
use Rattle.honest_tree.proofs.HonestLemmas.{more_tree}
use Rattle.kept_tree.specs.Clearing.{Clears, is_among, is_apart, is_in_env}
use Rattle.kept_tree.specs.Faults.{IsCalm as IsCalmStore}
use Rattle.kept_tree.specs.Reading.{IsWhole}
use Rattle.kept_tree.specs.Tree.{IsTree}
use Rattle.tree_store.specs.declared.key.BuildKey.{BuildKey}
use Rattle.tree_store.specs.Known.{Known}
use Rattle.tree_store.specs.Slot.{Slot, AllHere, emptied_slot}
use Rattle.partition_core.specs.declared.event.Event.{Event}
use Rattle.partition_core.specs.State.{Opening, at}
use Rattle.partition_core.specs.Counts.{count_below, is_compiled, is_start}
use Rattle.partition_core.specs.Histories.{Agrees, Sound, replay}
use Rattle.partition_crew.specs.Build.{by_one, inputs_of}
use Rattle.partition_board.specs.Holds.{HoldsBy}
use Rattle.partition_crew.specs.Station.{Nature}
use Rattle.partition_face.specs.Counts.{raised_by}
use Rattle.partition_face.specs.Makers.{MakerKnown}
use Rattle.build_plan.specs.Plan.{Build}
use Rattle.mix_answer.specs.declared.answer.Answer.{Answer}
use Rattle.mix_answer.specs.declared.status.Status.{Status}
use Rattle.mix_answer.specs.declared.stop.Stop.{Stop}
use Rattle.mix_answer.specs.declared.stop.Stop.TheVariants.{Read, Tree, Write, Maker, Memory}
use Rattle.mix_answer.specs.Answer.{reply_in, status_of, stopped}
use Rattle.mix_answer.specs.Reply.{Reply}
use Rattle.mix_compile.specs.Asked.{Asked, Came, asked_of, came_to}
use Rattle.mix_compile.specs.Building.{ComesTo, IsCut, IsFinished, IsMade}
use Rattle.mix_compile.specs.Building.IsCut.{died as cut_died, no_memory as cut_memory, tree_fault as cut_tree}
use Rattle.mix_compile.specs.Compiles.{Builds, Dies, Works}
use Rattle.mix_compile.specs.Compiles.Builds.{built, died, maker_fault, no_memory, read_fault, tree_fault}
use Rattle.mix_compile.specs.Finishing.{Finish, Finishes, Settled, SettlesTo, finish_of}
use Rattle.mix_compile.specs.History.{Begins, IsCounted, IsRecorded, wanted}
use Rattle.mix_compile.specs.Lending.{AreTold, HoldsAt, IsTold, key_of}
use Rattle.mix_compile.specs.Right.{IsDone, IsRight, RunsStale, Trusts, stale_places, status_by, told_of}
use Rattle.mix_compile.specs.Settling.{KeepsTree, Settles, built_apps}
use Rattle.mix_compile.specs.Site.{IsCalm, Passage, passage_of, site_of}
use Rattle.mix_compile.specs.Stopping.{CountsStop, IsUnbegun, MakerStops, StoreStops}
use Rattle.mix_compile.proofs.AppLemmas.{job_among}
use Rattle.mix_compile.proofs.KeepLemmas.{keeps_same, keeps_then}
use Rattle.mix_compile.proofs.MadeLemmas.{among_first}
use Rattle.mix_compile.proofs.SoundLemmas.{kept_means, kept_sound, same_stale}
use Rattle.mix_compile.proofs.TreeLemmas.{settled_tree}
use Rattle.mix_compile.proofs.WholeLemmas.{whole_seq}

-- ---- stops

-- a stop after calm steps
pub stops_later : (stop : Stop) (old mid new : Known) → IsCalmStore old mid → StoreStops stop mid new → StoreStops stop old new
stops_later Read old mid new calm (inl rose) = inl (subst (λ (n : ℕ). Rose n new.faults) calm.0 rose)
stops_later Read old mid new calm (inr rose) = inr (subst (λ (n : ℕ). Rose n new.returned) calm.1 rose)
stops_later Tree old mid new calm rose = subst (λ (n : ℕ). Rose n new.returned) calm.1 rose
stops_later Write old mid new calm rose = absurd rose
stops_later Maker old mid new calm rose = absurd rose
stops_later Memory old mid new calm rose = (rose.0 ∙ calm.0, rose.1 ∙ calm.1)

-- what stopped in the store, the maker having counted nothing
pub store_ends : (nature : Nature) (asked : Asked) (plan : Plan) (stop : Stop) (old new : Known) (m0 m1 : MakerKnown) (came : Came) → StoreStops stop old new
    → m1.deaths ≡ m0.deaths → m1.faults ≡ m0.faults → came.reply ≡ stopped stop
    → Builds nature asked plan (passage_of (site_of old m0) (site_of new m1)) came
store_ends nature asked plan Read old new m0 m1 came rose deaths faults is = read_fault rose is
store_ends nature asked plan Tree old new m0 m1 came rose deaths faults is = tree_fault rose is
store_ends nature asked plan Write old new m0 m1 came rose deaths faults is = absurd rose
store_ends nature asked plan Maker old new m0 m1 came rose deaths faults is = absurd rose
store_ends nature asked plan Memory old new m0 m1 came rose deaths faults is =
    no_memory (record { reads = rose.0; trees = rose.1; deaths = deaths; makers = faults }) is

maker_ends : (nature : Nature) (asked : Asked) (plan : Plan) (stop : Stop) (old new : Known) (m0 m1 : MakerKnown) → IsCalmStore old new → m1.deaths ≡ m0.deaths
    → MakerStops stop m0 m1 → Builds nature asked plan (passage_of (site_of old m0) (site_of new m1)) (came_to (stopped stop) [])
maker_ends nature asked plan Read old new m0 m1 calm deaths stops = absurd stops
maker_ends nature asked plan Tree old new m0 m1 calm deaths stops = absurd stops
maker_ends nature asked plan Write old new m0 m1 calm deaths stops = absurd stops
maker_ends nature asked plan Maker old new m0 m1 calm deaths stops = maker_fault stops refl
maker_ends nature asked plan Memory old new m0 m1 calm deaths stops =
    no_memory (record { reads = calm.0; trees = calm.1; deaths = deaths; makers = stops }) refl

-- no build was begun
pub unbegun_ends : (nature : Nature) (asked : Asked) (plan : Plan) (stop : Stop) (old mid new : Known) (m0 m1 : MakerKnown) → IsCalmStore old mid
    → IsUnbegun stop (passage_of (site_of mid m0) (site_of new m1))
    → Builds nature asked plan (passage_of (site_of old m0) (site_of new m1)) (came_to (stopped stop) [])
unbegun_ends nature asked plan stop old mid new m0 m1 calm unbegun = at unbegun.cause
  where
    at : (StoreStops stop mid new × (m1 ≡ m0)) ⊎ (IsCalmStore mid new × MakerStops stop m0 m1)
        → Builds nature asked plan (passage_of (site_of old m0) (site_of new m1)) (came_to (stopped stop) [])
    at (inl store) =
        store_ends nature asked plan stop old new m0 m1 (came_to (stopped stop) []) (stops_later stop old mid new calm store.0)
        (ap (λ (m : MakerKnown). m.deaths) store.1) (ap (λ (m : MakerKnown). m.faults) store.1) refl
    at (inr maker) =
        maker_ends nature asked plan stop old new m0 m1 (maker.0.0 ∙ calm.0, maker.0.1 ∙ calm.1) unbegun.deaths maker.1

undone : (stop : Stop) → IsDone (status_of stop) → ⊥
undone Read done = done
undone Tree done = done
undone Write done = done
undone Maker done = done
undone Memory done = done

not_done : (stop : Stop) (status : Status) → status ≡ status_of stop → IsDone status → ⊥
not_done stop status is done = undone stop (subst IsDone is done)

-- nothing happened
pub stopped_works : (nature : Nature) (asked : Asked) (plan : Plan) (stop : Stop) (old new : Known) (m0 m1 : MakerKnown) → m1.runs ≡ m0.runs
    → m1.deaths ≡ m0.deaths → KeepsTree plan.env old.slot new.slot
    → Builds nature asked plan (passage_of (site_of old m0) (site_of new m1)) (came_to (stopped stop) [])
    → Works nature asked plan (passage_of (site_of old m0) (site_of new m1)) (came_to (stopped stop) [])
stopped_works nature asked plan stop old new m0 m1 runs deaths keeps ends = record {
  ends = ends;
  history = inl refl;
  counts = record {
    most = omega (arith, runs);
    least = λ below. omega (arith, runs);
    deaths = λ below. omega (arith, deaths);
  };
  elsewhere = keeps.elsewhere;
  right = λ known trusts. record {
    stays = more_tree nature.compile known (known ++ inputs_of nature.compile plan.jobs) new.slot (among_first known (inputs_of nature.compile plan.jobs))
        (keeps.honest nature.compile known trusts.tree);
    tree = λ done. absurd (undone stop done);
    text = λ done. absurd (undone stop done);
    ended = λ done. absurd (undone stop done);
    runs = λ opening begins. record {
      most = omega (arith, runs);
      smooth = λ smooth. omega (arith, runs);
    };
  };
}

-- ---- after a build

-- clearing what no job has leaves the jobs' builds
pub job_stays : (plan : Plan) (old new : BuildKey → Slot) → Clears (is_apart plan.env (map (λ job. job.app) plan.jobs)) old new → (place : ℕ) (job : Job)
    → slice_get plan.jobs place ≡ Some job → new (key_of plan.env job) ≡ old (key_of plan.env job)
job_stays plan old new clears place job here =
    let q = key_of plan.env job in
    clears q ∙ ap (λ (b : Bool). cond (not b && is_in_env plan.env q) (emptied_slot (old q)) (old q)) (job_among plan.jobs place job here)

-- what is kept of the jobs is kept still
pub kept_stays : (plan : Plan) (old new : BuildKey → Slot) (kept : List (Option Kept)) → Clears (is_apart plan.env (map (λ job. job.app) plan.jobs)) old new
    → AreKeptOf old plan kept → AreKeptOf new plan kept
kept_stays plan old new kept clears are = record {
  each = are.each;
  at = λ place job entry here is. subst (λ (s : Slot). IsKeptAt s entry) (sym (job_stays plan old new clears place job here)) (are.at place job entry here is);
}

pub record Before (plan : Plan) (kept : List (Option Kept)) (old mid : Known) : Type 0 where
  pub entries : AreKeptOf old.slot plan kept
  pub whole : All (λ entry. IfSome entry IsWhole) kept
  pub cleared : Clears (is_apart plan.env (map (λ job. job.app) plan.jobs)) old.slot mid.slot
  pub tree : KeepsTree plan.env old.slot mid.slot
  pub calm : IsCalmStore old mid

module _ (nature : Nature) (asked : Asked) (alone : asked.partitions ≡ 1) (plan : Plan) (planned : ArePlanned plan.jobs) (kept : List (Option Kept))
    (old mid new last : Known) (m0 m1 : MakerKnown) (history : List Event) (before : Before plan kept old mid)
    (made : IsMade nature (by_one plan kept) (passage_of (site_of mid m0) (site_of new m1)) history) where
  abbrev o : Opening
  o = by_one plan kept

  abbrev whole_way : Passage
  whole_way = passage_of (site_of old m0) (site_of last m1)

  begins : Begins plan old.slot asked.partitions o
  begins = record {
    same = refl;
    kept = before.entries;
    some = omega arith;
    few = omega (arith, alone);
  }

  abbrev recorded : IsRecorded plan asked.partitions whole_way history
  recorded = record {
    opening = o;
    begins = begins;
    legal = made.legal;
    short = λ less. absurd (omega (arith, less, alone));
  }

  told : nature.honest → AreTold plan old.slot
  told honest place job here = subst IsTold (job_stays plan old.slot mid.slot before.cleared place job here) (made.told honest place job here)

  sound : (known : List Given) → Trusts nature plan old.slot known → Sound nature.compile o
  sound known trusts =
      kept_sound nature.compile plan planned kept old.slot known before.entries (told trusts.honest) trusts.tree trusts.apart before.whole

  -- the tree after the build
  built_honest : (known : List Given) → Trusts nature plan old.slot known → Honest nature.compile (known ++ inputs_of nature.compile plan.jobs) new.slot
  built_honest known trusts = made.stays trusts.honest (sound known trusts) known (before.tree.honest nature.compile known trusts.tree)

  stale_runs : (known : List Given) → Trusts nature plan old.slot known → (opening : Opening) → Begins plan old.slot asked.partitions opening
      → m1.runs ≤ m0.runs + stale_places nature opening
  stale_runs known trusts opening other =
      let same = same_stale nature.compile plan old.slot kept opening.kept 1 opening.partitions before.entries other.kept (told trusts.honest) in
      let by : count_below (is_compiled nature.compile (record { plan = plan; kept = opening.kept; partitions = opening.partitions })) (length plan.jobs)
      ≡ stale_places nature opening =
      ap (λ (p : Plan). count_below (is_compiled nature.compile (record { plan = p; kept = opening.kept; partitions = opening.partitions })) (length p.jobs)) (sym other.same) in
      omega (arith, made.few trusts.honest (sound known trusts), same, by)

  runs : (known : List Given) → Trusts nature plan old.slot known → (opening : Opening) → Begins plan old.slot asked.partitions opening
      → RunsStale nature opening asked.partitions whole_way history
  runs known trusts opening other = record {
    most = omega (arith, stale_runs known trusts opening other);
    smooth = λ smooth. stale_runs known trusts opening other;
  }

  module _ (came : Came) (is : came.history ≡ history) (ends : Builds nature asked plan whole_way came) (keeps : KeepsTree plan.env new.slot last.slot)
      (done : (known : List Given) → Trusts nature plan old.slot known → IsDone came.reply.status
      → IsTree plan (seq nature.compile plan.jobs) last.slot × (came.reply.text ≡ told_of asked.trace plan (seq nature.compile plan.jobs) came.history)
      × (came.reply.status ≡ status_by (seq nature.compile plan.jobs))) where
    pub made_works : Works nature asked plan whole_way came
    made_works = record {
      ends = ends;
      history = subst (λ (h : List Event). (h ≡ []) ⊎ IsRecorded plan asked.partitions whole_way h) (sym is) (inr recorded);
      counts = subst (λ (h : List Event). IsCounted h m0 m1) (sym is) made.counts;
      elsewhere = λ q e. keeps.elsewhere q e ∙ made.elsewhere q e ∙ before.tree.elsewhere q e;
      right = λ known trusts. record {
        stays = keeps.honest nature.compile (known ++ inputs_of nature.compile plan.jobs) (built_honest known trusts);
        tree = λ d. (done known trusts d).0;
        text = λ d. (done known trusts d).1;
        ended = λ d. (done known trusts d).2;
        runs = λ opening other. subst (RunsStale nature opening asked.partitions whole_way) (sym is) (runs known trusts opening other);
      };
    }

  -- ---- where it was cut

  same_keeps : last ≡ new → KeepsTree plan.env new.slot last.slot
  same_keeps same = keeps_same plan.env new.slot last.slot (ap (λ (k : Known). k.slot) same)

  cut_ends : (came : Came) → last ≡ new → IsCut nature.lasting (passage_of (site_of mid m0) (site_of new m1)) came → Builds nature asked plan whole_way came
  cut_ends came same (cut_tree rose is) =
      tree_fault (subst (λ (k : Known). Rose old.returned k.returned) (sym same) (subst (λ (n : ℕ). Rose n new.returned) before.calm.1 rose)) is
  cut_ends came same (cut_died dies) = died (record { rose = dies.rose; mortal = dies.mortal; reply = dies.reply })
  cut_ends came same (cut_memory calm is) =
      no_memory (record {
        reads = ap (λ (k : Known). k.faults) same ∙ calm.reads ∙ before.calm.0;
        trees = ap (λ (k : Known). k.returned) same ∙ calm.trees ∙ before.calm.1;
        deaths = calm.deaths;
        makers = calm.makers;
      }) is

  cut_undone : (came : Came) → IsCut nature.lasting (passage_of (site_of mid m0) (site_of new m1)) came → IsDone came.reply.status → ⊥
  cut_undone came (cut_tree rose is) done = subst (λ (r : Reply). IsDone r.status) is done
  cut_undone came (cut_died dies) done = subst (λ (r : Reply). IsDone r.status) dies.reply done
  cut_undone came (cut_memory calm is) done = subst (λ (r : Reply). IsDone r.status) is done

  pub cut_works : (answer came : Result Answer Stop) → answer ≡ came → last ≡ new
      → IsCut nature.lasting (passage_of (site_of mid m0) (site_of new m1)) (came_to (reply_in came) history)
      → Works nature asked plan whole_way (came_to (reply_in answer) history)
  cut_works answer came is same cut =
      subst (λ (a : Result Answer Stop). Works nature asked plan whole_way (came_to (reply_in a) history)) (sym is)
      (made_works (came_to (reply_in came) history) refl (cut_ends (came_to (reply_in came) history) same cut) (same_keeps same)
      (λ known trusts d. absurd (cut_undone (came_to (reply_in came) history) cut d)))

  -- ---- where each place has its fate

  module _ (home : AllHere new.slot) (fates : List Fate) (finished : IsFinished o (passage_of (site_of mid m0) (site_of new m1)) history fates) where
    calm_store : IsCalmStore old new
    calm_store = (finished.calm.reads ∙ before.calm.0, finished.calm.trees ∙ before.calm.1)

    all_seq : (known : List Given) → Trusts nature plan old.slot known → fates ≡ seq nature.compile plan.jobs
    all_seq known trusts =
        unmap fates (seq nature.compile plan.jobs) (sym finished.whole ∙ whole_seq nature.compile o history fates planned
        (sound known trusts) made.legal (made.faithful trusts.honest) finished.whole)
      where
        unmap : (xs ys : List Fate) → map Some xs ≡ map Some ys → xs ≡ ys
        unmap [] [] e = refl
        unmap [] (y ∷ ys) e = cc
        unmap (x ∷ xs) [] e = cc
        unmap (x ∷ xs) (y ∷ ys) e =
            let head : x ≡ y = cc in
            let rest : map Some xs ≡ map Some ys = cc in
            ap (λ (z : Fate). z ∷ xs) head ∙ ap (λ (zs : List Fate). y ∷ zs) (unmap xs ys rest)

    pub stop_works : (stop : Stop) → StoreStops stop new last → KeepsTree plan.env new.slot last.slot
        → Works nature asked plan whole_way (came_to (stopped stop) history)
    stop_works stop stops keeps =
        made_works (came_to (stopped stop) history) refl
        (store_ends nature asked plan stop old last m0 m1 (came_to (stopped stop) history) (stops_later stop old new last calm_store stops) finished.calm.deaths
        finished.calm.makers refl) keeps (λ known trusts d. absurd (undone stop d))

    done_tree : (known : List Given) → Trusts nature plan old.slot known
        → Settles plan.env (built_apps plan.jobs fates) new.slot last.slot
        → IsTree plan (seq nature.compile plan.jobs) last.slot
    done_tree known trusts settles =
        let is = all_seq known trusts in
        subst (λ (fs : List Fate). IsTree plan fs last.slot) is
        (settled_tree nature.compile plan planned kept 1 known fates is trusts.apart
        (kept_means nature.compile plan planned kept old.slot known before.entries (told trusts.honest) trusts.tree trusts.apart)
        new.slot last.slot home (built_honest known trusts)
        (λ place job here. subst (λ (fs : List (Option Fate)). HoldsAt (HoldsBy o fs place (at fs place)) (new.slot (key_of plan.env job))) finished.whole
        (made.left place job here)) settles)

    pub done_works : (answer : Answer) (text_is : answer.text.items ≡ told_of asked.trace plan fates history) (status_is : answer.status ≡ status_by fates)
        → Settles plan.env (built_apps plan.jobs fates) new.slot last.slot
        → IsCalmStore new last → KeepsTree plan.env new.slot last.slot
        → Works nature asked plan whole_way (came_to (reply_in (Ok answer)) history)
    done_works answer text_is status_is settles calm keeps =
        made_works (came_to (reply_in (Ok answer)) history) refl (built (record {
          recorded = recorded;
          fates = fates;
          whole = finished.whole;
          text = text_is;
          ended = status_is;
          asked_for = made.asked ∙ ap (λ (n : ℕ). raised_by (wanted plan.jobs n) m0.asked) (sym alone);
          reads = calm.0 ∙ calm_store.0;
          trees = calm.1 ∙ calm_store.1;
        })) keeps (λ known trusts d. (
          done_tree known trusts settles,
          text_is ∙ ap (λ (fs : List Fate). told_of asked.trace plan fs history) (all_seq known trusts),
          status_is ∙ ap status_by (all_seq known trusts),
        ))

    pub settled_works : (answer : Result Answer Stop) → Settled plan fates (finish_of asked.trace history new last) answer
        → Works nature asked plan whole_way (came_to (reply_in answer) history)
    settled_works (Ok answer) settled = done_works answer settled.to.text settled.to.ended settled.to.tree settled.counts settled.keeps
    settled_works (Err stop) settled = stop_works stop settled.counts settled.keeps

  -- ---- however it ended

  pub finish_works : AllHere new.slot → (fates : Result (Vec Fate Global) (Result Answer Stop)) (answer : Result Answer Stop)
      → ComesTo nature o (passage_of (site_of mid m0) (site_of new m1)) history fates → Finishes plan fates (finish_of asked.trace history new last) answer
      → Works nature asked plan whole_way (came_to (reply_in answer) history)
  finish_works home (Ok fates) answer comes finishes = settled_works home fates.items comes answer finishes
  finish_works home (Err came) answer comes finishes = cut_works answer came finishes.0 finishes.1 comes

-- What the calls with a post make of a partition that serves.
use Rattle.std.proofs.Common.{◌≡◌, ℕ, ◌≤◌, ◌==◌, Bool, true, false, List, [], ◌∷◌, ◌++◌, length, count_by, Option, Some, refl, sym, ◌∙◌, ap, subst, arith, append-nil}
use Rattle.std.specs.Option.{unwrap_or}
use Rattle.std.proofs.lemmas.List.Sums.{count_by-le-length, length-filter}
use Rattle.atomic_table.specs.Seated.{TableId}
use Rattle.compile_model.specs.declared.job.Plan.{Plan}
use Rattle.compile_model.specs.declared.outcome.Outcome.{Outcome}
use Rattle.compile_model.specs.Planned.{ArePlanned}
use Rattle.tree_store.specs.FolderKnown.{FolderKnown}
use Rattle.partition_core.specs.declared.event.Event.{Event}
use Rattle.partition_core.specs.declared.event.Event.TheVariants.{Keep, Start, Skip}
use Rattle.partition_core.specs.declared.event.Standing.{Standing}
use Rattle.partition_core.specs.declared.event.Standing.TheVariants.{Idle, Runs}
use Rattle.partition_core.specs.State.{Opening, standing}
use Rattle.partition_core.specs.Counts.{is_back, is_start}
use Rattle.partition_core.specs.Histories.{Legal}
use Rattle.partition_core.specs.Refusals.{by_of}
use Rattle.partition_core.proofs.HistoryLength.{bounded}
use Rattle.partition_face.specs.Counts.{CanRun}
use Rattle.partition_board.specs.declared.lease.Lease.{Lease}
use Rattle.partition_board.specs.declared.take.Front.{Front}
use Rattle.partition_board.specs.declared.take.Take.TheVariants.{Started, Kept, Skipped, Later, Over, NoMemory}
use Rattle.partition_board.specs.Begun.{Begun}
use Rattle.partition_board.specs.Answers.{Answers}
use Rattle.partition_board.specs.Leases.{IsLent}
use Rattle.partition_board.specs.Posts.{Adds, IsFreePost, IsSamePost, PostView, Sees, nothing_begun, opening_at, state_at}
use Rattle.partition_crew.specs.declared.worked.Worked.{Worked}
use Rattle.partition_crew.specs.declared.worked.Worked.TheVariants.{Finished, Failed, Died, TreeFault, NoMemory as NoRoom}
use Rattle.partition_crew.specs.Build.{CountsOf}
use Rattle.partition_crew.specs.Station.{IsYoung}
use Rattle.partition_build.specs.Built.{events_of}
use Rattle.partition_build.specs.Postings.{HasRun, HasServed, IsLive, IsPosted, IsServing, IsTaken, MayServe, PostingView, ended_by, own_events, posting_by}
use Rattle.partition_build.proofs.Owning.{own_adds, own_made, own_sees}
use Rattle.partition_build.proofs.Tallies.{counts_on, live_counts, live_more, live_on}

by_ended : (place by : ℕ) (worked : Worked) → by_of (ended_by place by worked) ≡ by
by_ended place by (Finished twin) = refl
by_ended place by (Failed twin) = refl
by_ended place by Died = refl
by_ended place by TreeFault = refl
by_ended place by NoRoom = refl

pub idle_holds : (found : Option Standing) (place : ℕ) → found ≡ Some Idle → found ≡ Some (Runs place) → ⊥
idle_holds found place idle runs = let clash : Some Idle ≡ Some (Runs place) = sym idle ∙ runs in cc

module _ {F : Type 0} where
  same_then : (a b c : PostView F) → IsSamePost a b → IsSamePost b c → IsSamePost a c
  same_then a b c first next = (next.0 ∙ first.0, next.1 ∙ first.1, next.2 ∙ first.2, next.3 ∙ first.3)

  pub posted_still : (board : TableId) (plan : Plan) (old new : PostView F) → IsPosted board plan old → IsSamePost old new → IsPosted board plan new
  posted_still board plan old new posted same =
      let opening : opening_at new ≡ opening_at old = ap (λ (x : Option (Begun F)). (unwrap_or x nothing_begun).build) same.2 in
      record {
        own = (same.0 ∙ posted.own.0, same.3 ∙ posted.own.1);
        asked = posted.asked ∙ ap (λ (o : Opening). o.plan) (sym opening);
        few = subst (λ (o : Opening). o.partitions ≤ 64) (sym opening) posted.few;
      }

  -- ---- between two turns

  pub serving_first : (board : TableId) (plan : Plan) (now : PostingView F) → MayServe board plan now → IsServing now now
  serving_first board plan now may = record {
    same = (refl, refl, refl, refl);
    legal = subst (λ (es : List Event). Legal (opening_at now.post) es) (sym may.unseen) tt;
    free = may.free;
    live = record {
      unended = ap (λ (es : List Event). count_by is_back (events_of now.post.number es)) may.unseen;
      runs = (let none = ap (λ (es : List Event). count_by is_start (events_of now.post.number es)) may.unseen in omega (arith, none));
      deaths = refl;
    };
  }

  -- it may still run
  pub serving_runs : (board : TableId) (plan : Plan) (first now : PostingView F) → IsPosted board plan now.post → ArePlanned plan.jobs
      → IsYoung first.counts → IsServing first now → CanRun now.counts
  serving_runs board plan first now posted planned young serving =
      let mine = count_by-le-length is_start (own_events now.post) in
      let fewer = length-filter (λ (event : Event). by_of event == now.post.number) now.post.seen in
      let all = count_by-le-length (λ (event : Event). by_of event == now.post.number) now.post.seen in
      let bound = bounded (opening_at now.post) now.post.seen serving.legal in
      let jobs : length plan.jobs ≡ length (opening_at now.post).plan.jobs = ap (λ (p : Plan). length p.jobs) posted.asked in
      record {
        lives = serving.live.deaths ∙ young.lives;
        few = omega (arith, serving.live.runs, young.few, mine, fewer, all, bound, jobs, posted.few, planned.few);
      }

  pub serving_sees : (first old : PostingView F) (new : PostView F) → IsServing first old → Sees old.post new → IsServing first (posting_by new old.counts)
  serving_sees first old new serving sees = record {
    same = same_then first.post old.post new serving.same sees.same;
    legal = sees.legal;
    free = sees.stands ∙ serving.free;
    live = subst (λ (es : List Event). IsLive es first.counts old.counts) (sym (own_sees old.post new sees)) serving.live;
  }

  -- an event was made that counts nothing
  serving_made : (first old : PostingView F) (new : PostView F) (event : Event) → IsServing first old → by_of event ≡ old.post.number
      → Adds (event ∷ []) old.post new → is_back event ≡ false → is_start event ≡ false → IsFreePost new → IsServing first (posting_by new old.counts)
  serving_made first old new event serving own adds no_back no_start free = record {
    same = same_then first.post old.post new serving.same adds.same;
    legal = adds.legal;
    free = free;
    live = subst (λ (es : List Event). IsLive es first.counts old.counts) (sym (own_made old.post new event own adds))
        (live_more (own_events old.post) first.counts old.counts event serving.live no_back no_start);
  }

  -- nothing was made
  serving_waits : (first old : PostingView F) (new : PostView F) → IsServing first old → Adds [] old.post new → IsFreePost new
      → IsServing first (posting_by new old.counts)
  serving_waits first old new serving adds free = record {
    same = same_then first.post old.post new serving.same adds.same;
    legal = adds.legal;
    free = free;
    live = subst (λ (es : List Event). IsLive es first.counts old.counts)
        (sym (own_adds old.post new [] refl adds ∙ append-nil (own_events old.post))) serving.live;
  }

  module _ (known : F → FolderKnown) (first old : PostingView F) (new : PostView F) (serving : IsServing first old) (needs : List Outcome) where
    pub serving_kept : (place : ℕ) → Answers (Kept place) old.post new → IsLent known new needs (Kept place) → IsServing first (posting_by new old.counts)
    serving_kept place answers lent = serving_made first old new (Keep place old.post.number) serving refl answers.adds refl refl lent.1

    pub serving_skipped : (place need : ℕ) → Answers (Skipped place need) old.post new → IsLent known new needs (Skipped place need)
        → IsServing first (posting_by new old.counts)
    serving_skipped place need answers lent = serving_made first old new (Skip place need old.post.number) serving refl answers.adds refl refl lent.1

    pub serving_later : (front : Front) → Answers (Later front) old.post new → IsLent known new needs (Later front)
        → IsServing first (posting_by new old.counts)
    serving_later front answers lent = serving_waits first old new serving answers.adds lent.1

    pub serving_over : (front : Front) → Answers (Over front) old.post new → IsLent known new needs (Over front)
        → IsServing first (posting_by new old.counts)
    serving_over front answers lent = serving_waits first old new serving answers.adds lent.1

    pub serving_short : Answers NoMemory old.post new → IsLent known new needs NoMemory → IsServing first (posting_by new old.counts)
    serving_short answers lent = serving_waits first old new serving answers.adds lent.1

    pub taken_is : (lease : Lease F) → Answers (Started lease) old.post new → IsLent known new needs (Started lease) → IsTaken known new needs lease
    taken_is lease answers lent = record { legal = answers.adds.legal; mine = lent.0; count = lent.1; given = lent.2 }

  -- ---- at the end

  pub served_live : (lasting : Type 0) (first now : PostingView F) → IsServing first now → HasServed lasting first now
  served_live lasting first now serving = record {
    same = serving.same;
    returned = λ place holds. idle_holds (standing (state_at now.post).standings now.post.number) place serving.free holds;
    counts = live_counts lasting (own_events now.post) first.counts now.counts serving.live;
  }

  module _ (lasting : Type 0) (first old : PostingView F) (mid : PostView F) (new : PostingView F) (serving : IsServing first old) (lease : Lease F)
      (answers : Answers (Started lease) old.post mid) (goes : Bool) (run : HasRun lasting lease.place (posting_by mid old.counts) new goes) where
    own_run : own_events new.post
        ≡ (own_events old.post ++ Start lease.place old.post.number ∷ []) ++ ended_by lease.place mid.number run.worked ∷ []
    own_run =
        own_made mid new.post (ended_by lease.place mid.number run.worked) (by_ended lease.place mid.number run.worked) run.adds
        ∙ ap (λ (es : List Event). es ++ ended_by lease.place mid.number run.worked ∷ [])
        (own_made old.post mid (Start lease.place old.post.number) refl answers.adds)

    same_run : IsSamePost first.post new.post
    same_run = same_then first.post old.post new.post serving.same (same_then old.post mid new.post answers.adds.same run.adds.same)

    pub serving_ran : goes ≡ true → IsServing first new
    serving_ran on = record {
      same = same_run;
      legal = run.adds.legal;
      free = run.free on;
      live = subst (λ (es : List Event). IsLive es first.counts new.counts) (sym own_run)
          (subst (λ (n : ℕ). IsLive ((own_events old.post ++ Start lease.place old.post.number ∷ [])
          ++ ended_by lease.place n run.worked ∷ []) first.counts new.counts) (sym answers.adds.same.1)
          (live_on lasting (own_events old.post) first.counts old.counts new.counts serving.live lease.place old.post.number run.worked
          (sym run.on ∙ on) run.counts));
    }

    pub served_ran : first.counts.deaths ≡ 0 → HasServed lasting first new
    served_ran lives = record {
      same = same_run;
      returned = run.returned;
      counts = subst (λ (es : List Event). CountsOf lasting es first.counts new.counts) (sym own_run)
          (subst (λ (n : ℕ). CountsOf lasting ((own_events old.post ++ Start lease.place old.post.number ∷ [])
          ++ ended_by lease.place n run.worked ∷ []) first.counts new.counts) (sym answers.adds.same.1)
          (counts_on lasting (own_events old.post) first.counts old.counts new.counts serving.live lease.place old.post.number run.worked lives run.counts));
    }

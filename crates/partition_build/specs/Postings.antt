-- A partition at its post, and what it does there.
use Rattle.std.specs.Prelude.{◌≡◌, ℕ, ◌+◌, ◌≤◌, List, [], ◌∷◌, count_by, IsTrue, Bool, true, false}
use Rattle.atomic_table.specs.Seated.{TableId}
use Rattle.compile_model.specs.declared.job.Plan.{Plan}
use Rattle.compile_model.specs.declared.outcome.Outcome.{Outcome}
use Rattle.compile_model.specs.Content.{Content}
use Rattle.tree_store.specs.FolderKnown.{FolderKnown}
use Rattle.partition_core.specs.declared.event.BackCause.TheVariants as back
use Rattle.partition_core.specs.declared.event.Event.{Event}
use Rattle.partition_core.specs.declared.event.Event.TheVariants.{Finish, Fail, Back}
use Rattle.partition_core.specs.State.{needs_at, outcomes_now}
use Rattle.partition_core.specs.Histories.{IsMeant, Legal}
use Rattle.partition_core.specs.Counts.{is_back, is_start}
use Rattle.partition_face.specs.declared.counts.Counts.{Counts}
use Rattle.partition_board.specs.declared.lease.Lease.{Lease}
use Rattle.partition_board.specs.Failures.{IsCounted}
use Rattle.partition_board.specs.Leases.{HasCause, IsFailed, IsFinished, IsLeaseOf}
use Rattle.partition_board.specs.Posts.{Adds, HoldsPlace, IsFreePost, IsIn, IsSamePost, PostView, opening_at, state_at}
use Rattle.partition_crew.specs.declared.worked.Worked.{Worked}
use Rattle.partition_crew.specs.declared.worked.Worked.TheVariants.{Finished, Failed, Died, TreeFault, NoMemory}
use Rattle.partition_crew.specs.Build.{CountsOf}
use Rattle.partition_crew.specs.Work.{IsCounted as Counted}
use Rattle.partition_crew.specs.Station.{IsYoung}
use Rattle.partition_build.specs.Built.{events_of}

-- a post, and what its partition has counted
pub record PostingView (F : Type 0) : Type 0 where
  pub post : PostView F
  pub counts : Counts

abbrev pub posting_by : {F : Type 0} → PostView F → Counts → PostingView F
posting_by post counts = record { post = post; counts = counts }

-- the post's own events, of those that it has seen
abbrev pub own_events : {F : Type 0} → PostView F → List Event
own_events post = events_of post.number post.seen

-- the post is one of a board for this plan and 64 partitions at most
pub record IsPosted {F : Type 0} (board : TableId) (plan : Plan) (post : PostView F) : Type 0 where
  pub own : IsIn board post
  pub asked : plan ≡ (opening_at post).plan
  pub few : (opening_at post).partitions ≤ 64

-- nothing has happened, and the partition has neither died nor made many runs
pub record MayServe {F : Type 0} (board : TableId) (plan : Plan) (now : PostingView F) : Type 0 where
  pub posted : IsPosted board plan now.post
  pub free : IsFreePost now.post
  pub unseen : now.post.seen ≡ []
  pub young : IsYoung now.counts

-- a partition that has given nothing back has made a run for each start, and lives
pub record IsLive (own : List Event) (first now : Counts) : Type 0 where
  pub unended : count_by is_back own ≡ 0
  pub runs : now.runs ≡ first.runs + count_by is_start own
  pub deaths : now.deaths ≡ first.deaths

-- between two turns: the partition is free, and has given nothing back
pub record IsServing {F : Type 0} (first now : PostingView F) : Type 0 where
  pub same : IsSamePost first.post now.post
  pub legal : Legal (opening_at now.post) now.post.seen
  pub free : IsFreePost now.post
  pub live : IsLive (own_events now.post) first.counts now.counts

-- at the end: it is the same post, without a lease, and the partition has counted what its own events say
pub record HasServed (lasting : Type 0) {F : Type 0} (first now : PostingView F) : Type 0 where
  pub same : IsSamePost first.post now.post
  pub returned : (place : ℕ) → HoldsPlace now.post place → ⊥
  pub counts : CountsOf lasting (own_events now.post) first.counts now.counts

-- ---- one lease

-- the event that hands the place in with what came of it
abbrev pub ended_by : ℕ → ℕ → Worked → Event
ended_by place by (Finished twin) = Finish place by twin.event
ended_by place by (Failed twin) = Fail place by twin.event
ended_by place by Died = Back place by back.Died
ended_by place by TreeFault = Back place by back.Tree
ended_by place by NoMemory = Back place by back.Memory

-- whether the partition goes on
abbrev pub goes_on : Worked → Bool
goes_on (Finished twin) = true
goes_on (Failed twin) = true
goes_on Died = false
goes_on TreeFault = false
goes_on NoMemory = false

-- an outcome is what the place's input means
abbrev pub IsMeantAt : {F : Type 0} → (Content → Outcome) → PostView F → ℕ → Worked → Type 0
IsMeantAt compile post place (Finished twin) = IsMeant compile (opening_at post) (state_at post) place twin.event
IsMeantAt compile post place (Failed twin) = IsMeant compile (opening_at post) (state_at post) place twin.event
IsMeantAt compile post place Died = Unit {0}
IsMeantAt compile post place TreeFault = Unit {0}
IsMeantAt compile post place NoMemory = Unit {0}

module _ {F : Type 0} (known : F → FolderKnown) where
  -- the lease that the post has just taken, with the outcomes of the place's needs
  pub record IsTaken (post : PostView F) (needs : List Outcome) (lease : Lease F) : Type 0 where
    pub legal : Legal (opening_at post) post.seen
    pub mine : IsLeaseOf known post lease
    pub count : IsCounted post.seen lease.place (known lease.folder)
    pub given : needs ≡ outcomes_now (state_at post).fates (needs_at (opening_at post) lease.place)

  -- the lease may be handed in with what came of it
  abbrev pub MayHandIn : PostView F → Lease F → Worked → Type 0
  MayHandIn post lease (Finished twin) = IsFinished known post lease twin
  MayHandIn post lease (Failed twin) = IsFailed known post lease twin
  MayHandIn post lease Died = IsLeaseOf known post lease × HasCause known post lease back.Died
  MayHandIn post lease TreeFault = IsLeaseOf known post lease × HasCause known post lease back.Tree
  MayHandIn post lease NoMemory = IsLeaseOf known post lease × HasCause known post lease back.Memory

-- a lease of the place was worked on and handed in, and the partition goes on or doesn't
pub record HasRun (lasting : Type 0) {F : Type 0} (place : ℕ) (old new : PostingView F) (goes : Bool) : Type 0 where
  pub worked : Worked
  pub adds : Adds (ended_by place old.post.number worked ∷ []) old.post new.post
  pub counts : Counted lasting old.counts new.counts worked
  pub on : goes ≡ goes_on worked
  pub free : IsTrue goes → IsFreePost new.post
  pub returned : (place : ℕ) → HoldsPlace new.post place → ⊥

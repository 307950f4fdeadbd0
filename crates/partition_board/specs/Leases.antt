-- What comes with a lease, and what is handed in with it.
use Rattle.std.specs.Prelude.{◌≡◌, ◌≢◌, List, [], IfSome}
use Rattle.compile_model.specs.declared.outcome.Outcome.{Outcome}
use Rattle.compile_model.specs.declared.outcome.Twin.{Twin}
use Rattle.tree_store.specs.FolderKnown.{FolderKnown}
use Rattle.tree_store.specs.Holding.{nothing}
use Rattle.partition_core.specs.declared.event.BackCause.{BackCause}
use Rattle.partition_core.specs.declared.event.BackCause.TheVariants.{Tree}
use Rattle.partition_core.specs.State.{needs_at, outcomes_now}
use Rattle.partition_board.specs.declared.lease.Lease.{Lease}
use Rattle.partition_board.specs.declared.take.Take.{Take}
use Rattle.partition_board.specs.declared.take.Take.TheVariants.{Started}
use Rattle.partition_board.specs.Begun.{IsOf}
use Rattle.partition_board.specs.Failures.{IsCounted}
use Rattle.partition_board.specs.Holds.{HoldsBuilt}
use Rattle.partition_board.specs.Posts.{HoldsPlace, IsFreePost, PostView, begun_at, opening_at, state_at}

module _ {F : Type 0} (known : F → FolderKnown) where
  -- the lease is that of the place that the post's number runs, with the place's folder
  pub record IsLeaseOf (post : PostView F) (lease : Lease F) : Type 0 where
    pub by : lease.by ≡ post.number
    pub holds : HoldsPlace post lease.place
    pub own : IsOf known (begun_at post).folders lease.place lease.folder

  -- with a place that is started come its folder and the outcomes of its needs; with another answer comes nothing, and the partition stays free
  abbrev pub IsLent : PostView F → List Outcome → Take F → Type 0
  IsLent post needs (Started lease) =
      IsLeaseOf post lease × IsCounted post.seen lease.place (known lease.folder)
      × (needs ≡ outcomes_now (state_at post).fates (needs_at (opening_at post) lease.place))
  IsLent post needs took = (needs ≡ []) × IsFreePost post

  -- the place is built: the folder holds the outcome's files and its mark, and has failed as often as when it was lent
  pub record IsFinished (post : PostView F) (lease : Lease F) (outcome : Twin) : Type 0 where
    pub mine : IsLeaseOf post lease
    pub count : IsCounted post.seen lease.place (known lease.folder)
    pub holds : IfSome (known lease.folder).held (HoldsBuilt (opening_at post) (state_at post).fates lease.place outcome.event)
    pub status : outcome.event.status ≡ 0
    pub copies : outcome.fate ≡ outcome.event

  -- the place has failed: the folder holds nothing
  pub record IsFailed (post : PostView F) (lease : Lease F) (outcome : Twin) : Type 0 where
    pub mine : IsLeaseOf post lease
    pub count : IsCounted post.seen lease.place (known lease.folder)
    pub holds : IfSome (known lease.folder).held (λ held. held ≡ nothing)
    pub status : outcome.event.status ≢ 0
    pub copies : outcome.fate ≡ outcome.event

  -- the folder has failed, where that is the cause, and else as often as when it was lent
  abbrev pub HasCause : PostView F → Lease F → BackCause → Type 0
  HasCause post lease Tree = (known lease.folder).faults ≢ 0
  HasCause post lease cause = IsCounted post.seen lease.place (known lease.folder)

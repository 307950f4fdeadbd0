-- What is handed in with a lease.
use Rattle.std.proofs.Common.{◌≡◌, false, [], ◌∷◌, ◌++◌, refl, sym, ◌∙◌, ap}
use Rattle.compile_model.specs.declared.outcome.Twin.{Twin}
use Rattle.tree_store.specs.FolderKnown.{FolderKnown}
use Rattle.tree_store.proofs.MomentLemmas.{if_told}
use Rattle.partition_core.specs.declared.event.BackCause.{BackCause}
use Rattle.partition_core.specs.declared.event.BackCause.TheVariants.{Died, Tree, Memory}
use Rattle.partition_core.specs.declared.event.Event.{Event}
use Rattle.partition_core.specs.declared.event.Event.TheVariants.{Fail, Finish, Back}
use Rattle.partition_core.specs.State.{standing}
use Rattle.partition_core.specs.Steps.{Holds}
use Rattle.partition_board.specs.declared.lease.Lease.{Lease}
use Rattle.partition_board.specs.Failures.{IsCounted, is_failure}
use Rattle.partition_board.specs.Leases.{HasCause, IsFailed, IsFinished, IsLeaseOf}
use Rattle.partition_board.specs.Posts.{PostView, begun_at, state_at, story_at}
use Rattle.partition_board.specs.Steps.{IsLegalOf, SuitsEvent}
use Rattle.partition_board.proofs.Failing.{counted_as, failed_more, own_failure}

module _ {F : Type 0} (known : F → FolderKnown) (post : PostView F) (lease : Lease F) where
  lease_holds : IsLeaseOf known post lease → Holds (state_at post) lease.place lease.by
  lease_holds is = ap (standing (state_at post).standings) is.by ∙ is.holds

  -- the folder has failed as often as when it was lent
  counted_then : (event : Event) → is_failure lease.place event ≡ false → IsCounted post.seen lease.place (known lease.folder)
      → IsCounted (post.seen ++ event ∷ []) lease.place (known lease.folder)
  counted_then event isnt count =
      counted_as post.seen (post.seen ++ event ∷ []) lease.place (known lease.folder) (sym (failed_more post.seen event lease.place isnt)) count

  pub finish_legal : (outcome : Twin) → IsFinished known post lease outcome → IsLegalOf post (Finish lease.place lease.by outcome.event)
  finish_legal outcome is = (is.mine.by, (lease_holds is.mine, is.status))

  pub finish_suits : (outcome : Twin) → IsFinished known post lease outcome
      → SuitsEvent known (story_at post) (begun_at post).folders (Finish lease.place lease.by outcome.event) lease.folder
  finish_suits outcome is = record {
    ends = tt;
    own = is.mine.own;
    count = counted_then (Finish lease.place lease.by outcome.event) refl is.count;
    holds = is.holds;
  }

  pub fail_legal : (outcome : Twin) → IsFailed known post lease outcome → IsLegalOf post (Fail lease.place lease.by outcome.event)
  fail_legal outcome is = (is.mine.by, (lease_holds is.mine, is.status))

  pub fail_suits : (outcome : Twin) → IsFailed known post lease outcome
      → SuitsEvent known (story_at post) (begun_at post).folders (Fail lease.place lease.by outcome.event) lease.folder
  fail_suits outcome is = record {
    ends = tt;
    own = is.mine.own;
    count = counted_then (Fail lease.place lease.by outcome.event) refl is.count;
    holds = is.holds;
  }

  pub back_legal : (cause : BackCause) → IsLeaseOf known post lease → IsLegalOf post (Back lease.place lease.by cause)
  back_legal cause is = (is.by, lease_holds is)

  back_counted : (cause : BackCause) → HasCause known post lease cause → IsCounted (post.seen ++ Back lease.place lease.by cause ∷ []) lease.place
      (known lease.folder)
  back_counted Died has = counted_then (Back lease.place lease.by Died) refl has
  back_counted Tree has = ((λ some. own_failure post.seen lease.place lease.by), (λ failed. has))
  back_counted Memory has = counted_then (Back lease.place lease.by Memory) refl has

  pub back_suits : (cause : BackCause) → IsLeaseOf known post lease → HasCause known post lease cause
      → SuitsEvent known (story_at post) (begun_at post).folders (Back lease.place lease.by cause) lease.folder
  back_suits cause is has = record {
    ends = tt;
    own = is.own;
    count = back_counted cause has;
    holds = if_told (known lease.folder).held (λ held told. tt);
  }

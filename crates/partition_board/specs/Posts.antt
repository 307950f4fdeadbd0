-- What a post has seen, and what its calls add.
use Rattle.std.specs.Prelude.{◌≡◌, ℕ, ◌+◌, List, [], ◌∷◌, ◌++◌, length, map, false, Option, Some, unwrap_or}
use Rattle.std.specs.List.{All, sum_by}
use Rattle.compile_model.specs.declared.outcome.Fate.{Fate}
use Rattle.partition_core.specs.declared.event.Event.{Event}
use Rattle.partition_core.specs.declared.event.Standing.TheVariants.{Idle, Runs, Ended}
use Rattle.partition_core.specs.State.{Opening, State, standing}
use Rattle.partition_core.specs.Histories.{Agrees, Legal, replay}
use Rattle.partition_core.specs.Refusals.{by_of}
use Rattle.partition_core.specs.Nexts.{AreSettled}
use Rattle.partition_core.specs.Story.{Story}
use Rattle.atomic_table.specs.Seated.{TableId}
use Rattle.turn_board.specs.Histories.{Continues}
use Rattle.turn_board.specs.Seats.{SeatView}
use Rattle.partition_board.specs.Begun.{Begun}

-- what a board begins with that nobody has
abbrev pub nothing_begun : {F : Type 0} → Begun F
nothing_begun = record { build = record { plan = record { env = []; jobs = [] }; kept = []; partitions = 0 }; folders = [] }

abbrev pub PostView : Type 0 → Type 0
PostView F = SeatView (Begun F) Event

module _ {F : Type 0} where
  -- what the post's board began with
  abbrev pub begun_at : PostView F → Begun F
  begun_at post = unwrap_or post.opening nothing_begun

  abbrev pub opening_at : PostView F → Opening
  opening_at post = (begun_at post).build

  -- the core at the end of what the post has seen
  abbrev pub state_at : PostView F → State
  state_at post = replay (opening_at post) post.seen

  abbrev pub story_at : PostView F → Story
  story_at post = record { opening = opening_at post; events = post.seen }

  -- the post is one of this board's, and has nothing out
  abbrev pub IsIn : TableId → PostView F → Type 0
  IsIn board post = (post.board ≡ board) × (post.has_value ≡ false)

  -- the post is live and holds no lease
  abbrev pub IsFreePost : PostView F → Type 0
  IsFreePost post = standing (state_at post).standings post.number ≡ Some Idle

  -- the post's number runs the place
  abbrev pub HoldsPlace : PostView F → ℕ → Type 0
  HoldsPlace post place = standing (state_at post).standings post.number ≡ Some (Runs place)

  -- the post gave a place back, and is live no more
  abbrev pub IsEndedPost : PostView F → Type 0
  IsEndedPost post = standing (state_at post).standings post.number ≡ Some Ended

  -- the post is one of this board's, and its partition runs nothing
  abbrev pub HasReturned : TableId → PostView F → Type 0
  HasReturned board post = IsIn board post × ((place : ℕ) → HoldsPlace post place → ⊥)

  -- the same post of the same board
  abbrev pub IsSamePost : PostView F → PostView F → Type 0
  IsSamePost old new = (new.board ≡ old.board) × (new.number ≡ old.number) × (new.opening ≡ old.opening) × (new.has_value ≡ old.has_value)

  -- the post has seen a legal history that goes on from what it had seen, and made these events last
  pub record Adds (events : List Event) (old new : PostView F) : Type 0 where
    pub same : IsSamePost old new
    pub before : List Event
    pub went : Continues by_of old.number old.seen before
    pub seen : new.seen ≡ before ++ events
    pub legal : Legal (opening_at new) new.seen
    pub counted : new.made ≡ old.made + length events

  -- the post has seen a legal history that goes on from what it had seen, and made nothing
  pub record Sees (old new : PostView F) : Type 0 where
    pub same : IsSamePost old new
    pub went : Continues by_of old.number old.seen new.seen
    pub legal : Legal (opening_at new) new.seen
    pub stands : standing (state_at new).standings new.number ≡ standing (state_at old).standings old.number
    pub counted : new.made ≡ old.made

  -- what the board of these posts began with
  abbrev pub begun_in : List (PostView F) → Begun F
  begun_in [] = nothing_begun
  begun_in (post ∷ posts) = begun_at post

  -- the history of the board of these posts: each has seen a beginning of it and made the events of its number, and there are no others
  pub record IsHistoryOf (posts : List (PostView F)) (history : List Event) : Type 0 where
    pub opening : All (λ post. begun_at post ≡ begun_in posts) posts
    pub seen : All (λ post. Continues by_of post.number post.seen history) posts
    pub counted : length history ≡ sum_by (λ post. post.made) posts
    pub legal : Legal (begun_in posts).build history

-- each place that has a fate has this one, and where each has one they are these
pub record AreFatesOf (all : List Fate) (fates : List (Option Fate)) : Type 0 where
  pub each : Agrees fates all
  pub whole : AreSettled fates → fates ≡ map Some all

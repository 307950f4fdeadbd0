-- The core that a post finds, and what the post has seen when it leaves.
use Rattle.std.proofs.Common.{◌≡◌, ℕ, ◌+◌, List, [], ◌∷◌, ◌++◌, length, Bool, true, false, Option, Some, refl, sym, ◌∙◌, ap, subst, append-nil, arith}
use Rattle.std.specs.Prelude.{if◌then◌else◌}
use Rattle.std.specs.Option.{unwrap_or}
use Rattle.compile_model.specs.declared.outcome.Outcome.{Outcome}
use Rattle.compile_model.specs.Content.{Content}
use Rattle.tree_store.specs.FolderKnown.{FolderKnown}
use Rattle.partition_core.specs.declared.event.Event.{Event}
use Rattle.partition_core.specs.declared.event.Event.TheVariants.{Keep, Start, Skip}
use Rattle.partition_core.specs.declared.event.Standing.TheVariants.{Idle}
use Rattle.partition_core.specs.State.{Opening, State, needs_at, outcomes_now, standing}
use Rattle.partition_core.specs.Steps.{IsLegal}
use Rattle.partition_core.specs.Histories.{IsFaithful, Legal, replay}
use Rattle.partition_core.specs.Refusals.{by_of}
use Rattle.partition_core.specs.Story.{Story, state_now, with_event}
use Rattle.partition_core.proofs.Tidy.{replay_more}
use Rattle.turn_board.specs.Histories.{Continues}
use Rattle.turn_board.specs.Seats.{GrewBy, entered, left}
use Rattle.partition_board.specs.declared.take.Take.{Take}
use Rattle.partition_board.specs.declared.take.Take.TheVariants.{Started, Kept, Skipped, Later, Over, NoMemory}
use Rattle.partition_board.specs.Begun.{Begun, IsOf}
use Rattle.partition_board.specs.Failures.{IsCounted}
use Rattle.partition_board.specs.Homes.{HouseView, StateView}
use Rattle.partition_board.specs.Posts.{Adds, IsFreePost, IsSamePost, PostView, Sees, begun_at, nothing_begun, opening_at, state_at, story_at}
use Rattle.partition_board.specs.Answers.{Answers, IsAnswer, made_with, makes_event, next_of}
use Rattle.partition_board.specs.Leases.{IsLent}
use Rattle.partition_board.specs.Steps.{AnsweredAt, EndsRun, IsLegalOf, IsLentAt, SuitsEvent, standing_after}
use Rattle.partition_board.proofs.Seen.{still}
use Rattle.partition_board.proofs.Later.{ended_stands, faithful_later, legal_later, suits_later}

-- the core, and the folders that were handed in, as the post finds them
pub record Found {F : Type 0} (post : PostView F) (k : Story) (handed : List F) : Type 0 where
  pub opening : post.opening ≡ Some (record { build = k.opening; folders = handed })
  pub went : Continues by_of post.number post.seen k.events
  pub legal : Legal k.opening k.events

-- ---- a call with a post

module _ {F : Type 0} where
  pub found : (post : PostView F) (k : Story) (h : HouseView F) (v : StateView F) → record { story = k; house = h } ≡ v
      → post.opening ≡ Some (record { build = v.story.opening; folders = v.house.handed }) → Continues by_of post.number post.seen v.story.events
      → Legal k.opening k.events → Found post k h.handed
  found post k h v same opening went legal = record {
    opening = opening ∙ ap (λ (w : StateView F). Some (record { build = w.story.opening; folders = w.house.handed })) (sym same);
    went = subst (λ (w : StateView F). Continues by_of post.number post.seen w.story.events) (sym same) went;
    legal = legal;
  }

  module _ (post : PostView F) (k : Story) (handed : List F) (f : Found post k handed) where
    begun_is : begun_at post ≡ record { build = k.opening; folders = handed }
    begun_is = ap (λ (x : Option (Begun F)). unwrap_or x nothing_begun) f.opening

    pub opening_is : opening_at post ≡ k.opening
    opening_is = ap (λ (b : Begun F). b.build) begun_is

    state_is : state_at post ≡ replay k.opening post.seen
    state_is = ap (λ (o : Opening). replay o post.seen) opening_is

    pub standing_is : standing (state_now k).standings post.number ≡ standing (state_at post).standings post.number
    standing_is = still k.opening post.number post.seen k.events f.legal f.went ∙ ap (λ (s : State). standing s.standings post.number) (sym state_is)

    pub free_is : (by : ℕ) → by ≡ post.number → IsFreePost post → standing (state_now k).standings by ≡ Some Idle
    free_is by same free = ap (standing (state_now k).standings) same ∙ standing_is ∙ free

    legal_seen_is : (event : Event) → IsLegal (opening_at post) (state_at post) event → IsLegal k.opening (replay k.opening post.seen) event
    legal_seen_is event is = subst (λ (o : Opening). IsLegal o (replay o post.seen) event) opening_is is

    pub legal_is : (event : Event) → EndsRun event → IsLegalOf post event → IsLegal k.opening (state_now k) event
    legal_is event ends is = legal_later k.opening post.number post.seen k.events f.legal f.went event ends is.0 (legal_seen_is event is.1)

    pub faithful_is : (compile : Content → Outcome) (event : Event) → EndsRun event → IsLegalOf post event
        → IsFaithful compile (opening_at post) (state_at post) event → IsFaithful compile k.opening (state_now k) event
    faithful_is compile event ends is meant =
        faithful_later k.opening post.number post.seen k.events f.legal f.went compile event ends is.0 (legal_seen_is event is.1)
        (subst (λ (o : Opening). IsFaithful compile o (replay o post.seen) event) opening_is meant)

    pub suits_is : (known : F → FolderKnown) (event : Event) (folder : F) → IsLegalOf post event
        → SuitsEvent known (story_at post) (begun_at post).folders event folder → SuitsEvent known k handed event folder
    suits_is known event folder is suits =
        suits_later k.opening post.number post.seen k.events f.legal f.went known handed event folder is.0 (legal_seen_is event is.1)
        (subst (λ (b : Begun F). SuitsEvent known (record { opening = b.build; events = post.seen }) b.folders event folder) begun_is suits)

    -- the post when it leaves, after it entered
    module _ (e l : PostView F) (v : StateView F) (new : Story) (h : HouseView F) (grew : Bool) (same : record { story = k; house = h } ≡ v)
        (enters : e ≡ entered post v.story.events) (leaves : l ≡ left e new.events grew) where
      story_is : k ≡ v.story
      story_is = ap (λ (w : StateView F). w.story) same

      pub events_is : k.events ≡ e.seen
      events_is = ap (λ (s : Story). s.events) story_is ∙ sym (ap (λ (p : PostView F). p.seen) enters)

      number_left : l.number ≡ post.number
      number_left = ap (λ (p : PostView F). p.number) leaves ∙ ap (λ (p : PostView F). p.number) enters

      begun_left : begun_at l ≡ record { build = k.opening; folders = handed }
      begun_left = ap (λ (p : PostView F). begun_at p) leaves ∙ ap (λ (p : PostView F). begun_at p) enters ∙ begun_is

      pub seen_left : l.seen ≡ new.events
      seen_left = ap (λ (p : PostView F). p.seen) leaves

      pub same_left : post.has_value ≡ false → IsSamePost post l
      same_left home = (
        ap (λ (p : PostView F). p.board) leaves ∙ ap (λ (p : PostView F). p.board) enters,
        number_left,
        ap (λ (p : PostView F). p.opening) leaves ∙ ap (λ (p : PostView F). p.opening) enters,
        ap (λ (p : PostView F). p.has_value) leaves ∙ sym home,
      )

      pub made_left : l.made ≡ post.made + (if grew then 1 else 0)
      made_left = ap (λ (p : PostView F). p.made) leaves ∙ ap (λ (p : PostView F). p.made + (if grew then 1 else 0)) enters

      pub state_left : k.opening ≡ new.opening → state_at l ≡ state_now new
      state_left kept =
          ap (λ (b : Begun F). replay b.build l.seen) begun_left ∙ ap (λ (o : Opening). replay o l.seen) kept ∙ ap
          (λ (es : List Event). replay new.opening es) seen_left

      pub legal_left : k.opening ≡ new.opening → Legal new.opening new.events → Legal (opening_at l) l.seen
      legal_left kept legal =
          subst (λ (b : Begun F). Legal b.build l.seen) (sym begun_left)
          (subst (λ (o : Opening). Legal o l.seen) (sym kept) (subst (λ (es : List Event). Legal new.opening es) (sym seen_left) legal))

      -- the post still knows what its board began with
      pub opening_left : (now : HouseView F) → new.opening ≡ k.opening → now.handed ≡ handed → e.opening ≡ Some
          (record { build = new.opening; folders = now.handed })
      opening_left now kept same_folders =
          ap (λ (p : PostView F). p.opening) enters ∙ f.opening
          ∙ ap (λ (o : Opening). Some (record { build = o; folders = handed })) (sym kept)
          ∙ ap (λ (fs : List F). Some (record { build = new.opening; folders = fs })) (sym same_folders)

      -- these events were made
      abbrev pub adds_is : (events : List Event) → post.has_value ≡ false → new ≡ record k { events = k.events ++ events }
          → length events ≡ (if grew then 1 else 0)
          → Legal new.opening new.events → Adds events post l
      adds_is events home makes many legal = record {
        same = same_left home;
        before = k.events;
        went = f.went;
        seen = seen_left ∙ ap (λ (s : Story). s.events) makes;
        legal = legal_left (sym (ap (λ (s : Story). s.opening) makes)) legal;
        counted = made_left ∙ ap (λ (n : ℕ). post.made + n) (sym many);
      }

      -- an event that ends a run was made
      pub stands_left : (event : Event) → EndsRun event → by_of event ≡ post.number → IsLegal k.opening (state_now k) event → new ≡ with_event k event
          → standing (state_at l).standings l.number ≡ Some (standing_after event)
      stands_left event ends own is makes =
          ap (λ (s : State). standing s.standings l.number) (state_left (sym (ap (λ (s : Story). s.opening) makes)))
          ∙ ap (standing (state_now new).standings) (number_left ∙ sym own)
          ∙ ap (λ (s : Story). standing (state_now s).standings (by_of event)) makes
          ∙ ap (λ (s : State). standing s.standings (by_of event)) (replay_more k.opening k.events event)
          ∙ ended_stands k.opening (state_now k) event ends is

      pub grew_is : (event : Event) → by_of event ≡ post.number → new ≡ with_event k event → GrewBy by_of e true new.events
      grew_is event own makes = (
        event,
        ap (λ (s : Story). s.events) makes ∙ ap (λ (es : List Event). es ++ event ∷ []) events_is,
        own ∙ sym (ap (λ (p : PostView F). p.number) enters),
      )

      -- the post only looked
      pub sees_is : post.has_value ≡ false → grew ≡ false → k ≡ new → Sees post l
      sees_is home still_ same_story = record {
        same = same_left home;
        went = subst (λ (es : List Event). Continues by_of post.number post.seen es) (ap (λ (s : Story). s.events) same_story ∙ sym seen_left) f.went;
        legal = legal_left (ap (λ (s : Story). s.opening) same_story) (subst (λ (s : Story). Legal s.opening s.events) same_story f.legal);
        stands = ap (λ (s : State). standing s.standings l.number) (state_left (ap (λ (s : Story). s.opening) same_story))
            ∙ ap (standing (state_now new).standings) number_left
            ∙ ap (λ (s : Story). standing (state_now s).standings post.number) (sym same_story)
            ∙ standing_is;
        counted = made_left ∙ ap (λ (b : Bool). post.made + (if b then 1 else 0)) still_ ∙ (omega arith);
      }

      -- one event was made where the answer makes one
      took_many : (took : Take F) (by : ℕ) → length (made_with (next_of took) by) ≡ (if makes_event took then 1 else 0)
      took_many (Started lease) by = refl
      took_many (Kept place) by = refl
      took_many (Skipped place need) by = refl
      took_many (Later front) by = refl
      took_many (Over front) by = refl
      took_many NoMemory by = refl

      pub answers_is : (took : Take F) → post.has_value ≡ false → grew ≡ makes_event took → AnsweredAt post.number k (next_of took) new
          → Legal new.opening new.events → Answers took post l
      answers_is took home grows answered legal = record {
        adds = adds_is (made_with (next_of took) post.number) home answered.story
            (took_many took post.number ∙ ap (λ (b : Bool). if b then 1 else 0) (sym grows)) legal;
        answer = λ next is. subst (λ (o : Opening). IsAnswer o (replay o k.events) post.number next) (sym opening_is) (answered.answer next is);
      }

      free_left : k.opening ≡ new.opening → standing (state_now new).standings post.number ≡ Some Idle → IsFreePost l
      free_left kept idle = ap (λ (s : State). standing s.standings l.number) (state_left kept) ∙ ap (standing (state_now new).standings) number_left ∙ idle

      pub lent_is : (known : F → FolderKnown) (now : HouseView F) (took : Take F) (needs : List Outcome) → k.opening ≡ new.opening → now.handed ≡ handed
          → IsLentAt known new now post.number needs took → IsLent known l needs took
      lent_is known now (Started lease) needs kept same_folders lent = (
        record {
          by = lent.0 ∙ sym number_left;
          holds = ap (λ (s : State). standing s.standings l.number) (state_left kept) ∙ ap (standing (state_now new).standings) number_left ∙ lent.1;
          own = subst (λ (b : Begun F). IsOf known b.folders lease.place lease.folder) (sym begun_left)
              (subst (λ (fs : List F). IsOf known fs lease.place lease.folder) same_folders lent.2.own);
        },
        subst (λ (es : List Event). IsCounted es lease.place (known lease.folder)) (sym seen_left) lent.2.count,
        lent.3 ∙ ap (λ (s : State). outcomes_now s.fates (needs_at new.opening lease.place)) (sym (state_left kept))
            ∙ ap (λ (o : Opening). outcomes_now (state_at l).fates (needs_at o lease.place)) (sym kept ∙ sym (ap (λ (b : Begun F). b.build) begun_left)),
      )
      lent_is known now (Kept place) needs kept same_folders lent = (lent.0, free_left kept lent.1)
      lent_is known now (Skipped place need) needs kept same_folders lent = (lent.0, free_left kept lent.1)
      lent_is known now (Later front) needs kept same_folders lent = (lent.0, free_left kept lent.1)
      lent_is known now (Over front) needs kept same_folders lent = (lent.0, free_left kept lent.1)
      lent_is known now NoMemory needs kept same_folders lent = (lent.0, free_left kept lent.1)

-- what an answer adds to the history that the post took out
pub take_grew : {F : Type 0} (took : Take F) (e : PostView F) (by : ℕ) (events new : List Event) → by ≡ e.number → events ≡ e.seen
    → new ≡ events ++ made_with (next_of took) by → GrewBy by_of e (makes_event took) new
take_grew (Started lease) e by events new own same makes = (Start lease.place by, makes ∙ ap (λ (es : List Event). es ++ Start lease.place by ∷ []) same, own)
take_grew (Kept place) e by events new own same makes = (Keep place by, makes ∙ ap (λ (es : List Event). es ++ Keep place by ∷ []) same, own)
take_grew (Skipped place need) e by events new own same makes = (Skip place need by, makes ∙ ap (λ (es : List Event). es ++ Skip place need by ∷ []) same, own)
take_grew (Later front) e by events new own same makes = makes ∙ append-nil events ∙ same
take_grew (Over front) e by events new own same makes = makes ∙ append-nil events ∙ same
take_grew NoMemory e by events new own same makes = makes ∙ append-nil events ∙ same

-- All posts at the end of a build, and the folders.
use Rattle.std.proofs.Common.{◌≡◌, ℕ, zero, suc, ◌-◌, ◌+◌, ◌<◌, ◌==◌, ◌⊎◌, inl, inr, Bool, true, false, cond, List, [], ◌∷◌, length, map, Option, Some, None, IfSome, option_map, slice_get, slice_set, refl, sym, ◌∙◌, ap, subst, arith}
use Rattle.std.specs.List.{All, sum_by}
use Rattle.std.specs.Option.{unwrap_or}
use Rattle.std.proofs.lemmas.Bool.Decides.{nat_tests}
use Rattle.std.proofs.lemmas.List.{length-map}
use Rattle.std.proofs.lemmas.List.Elements.{All-get_or, All-head, All-weaker}
use Rattle.std.proofs.lemmas.Option.{get_or_from_slice_get, slice_get-map, slice_get_within}
use Rattle.compile_model.specs.declared.outcome.Fate.{Fate}
use Rattle.tree_store.specs.declared.holding.Holding.{Holding}
use Rattle.tree_store.specs.declared.key.BuildKey.{BuildKey}
use Rattle.tree_store.specs.FolderKnown.{FolderKnown}
use Rattle.partition_core.specs.declared.event.Event.{Event}
use Rattle.partition_core.specs.declared.event.Event.TheVariants.{Keep, Start, Finish, Fail, Skip, Back}
use Rattle.partition_core.specs.declared.event.Standing.{Standing}
use Rattle.partition_core.specs.declared.event.Standing.TheVariants.{Idle, Runs, Ended}
use Rattle.partition_core.specs.State.{Opening, State, at, standing, start_of}
use Rattle.partition_core.specs.Steps.{IsLegal, after}
use Rattle.partition_core.specs.Histories.{AreLegal, Legal, after_all, replay}
use Rattle.partition_core.specs.Refusals.{by_of}
use Rattle.partition_core.specs.Story.{Story, state_now}
use Rattle.partition_core.proofs.Places.{get_replicate, get_set}
use Rattle.turn_board.specs.Histories.{Continues, made_by}
use Rattle.turn_board.specs.Seats.{HasSeat}
use Rattle.partition_board.specs.Begun.{Begun, IsOf}
use Rattle.partition_board.specs.Failures.{AreCounted, IsCounted}
use Rattle.partition_board.specs.Holds.{AreLeft, HoldsBy}
use Rattle.partition_board.specs.Homes.{AllHere, Belongs, Fits, HouseView, IsAtHome, IsHoused, RunsAt, StateView}
use Rattle.atomic_table.specs.Seated.{TableId}
use Rattle.partition_board.specs.Posts.{HasReturned, IsHistoryOf, PostView, begun_at, begun_in, nothing_begun}
use Rattle.partition_board.proofs.Calls.{Found, standing_is}
use Rattle.partition_board.proofs.Giving.{here_all}
use Rattle.partition_board.proofs.Holding.{if_weaker}

-- ---- who runs a place has made an event

-- a number whose partition does something is above 0
some_number : (standings : List Standing) (by : ℕ) (now : Standing) → standing standings by ≡ Some now → (by == 0) ≡ false
some_number standings by now is = at_zero (by == 0) (slice_get standings (by - 1)) is
  where
    at_zero : (zeroth : Bool) (found : Option Standing) → cond zeroth None found ≡ Some now → zeroth ≡ false
    at_zero true found e = cc
    at_zero false found e = refl

leaves_runs : (standings : List Standing) (b i place : ℕ) (now : Standing) → ((p : ℕ) → now ≡ Runs p → ⊥)
    → slice_get (slice_set standings b now) i ≡ Some (Runs place) → slice_get standings i ≡ Some (Runs place)
leaves_runs standings b i place now nothing runs = elim
    (get_set standings b i now (Runs place) runs) [ inl same ↦ absurd (nothing place same.1) | inr other ↦ other.1 ]

idle_not : (p : ℕ) → Idle ≡ Runs p → ⊥
idle_not p e = cc

ended_not : (p : ℕ) → Ended ≡ Runs p → ⊥
ended_not p e = cc

runs_step : (o : Opening) (s : State) (event : Event) (i place : ℕ) → IsLegal o s event → RunsAt (after o s event) i place
    → RunsAt s i place ⊎ (by_of event ≡ i + 1)
runs_step o s (Keep p by) i place legal runs = inl runs
runs_step o s (Start p by) i place legal runs = elim (get_set s.standings (by - 1) i (Runs p) (Runs place) runs) [
  | inl same ↦ inr (let some = some_number s.standings by Idle legal.0.idle in let here = same.0 in grind (arith, nat_tests))
  | inr other ↦ inl other.1
]
runs_step o s (Finish p by outcome) i place legal runs = inl (leaves_runs s.standings (by - 1) i place Idle idle_not runs)
runs_step o s (Fail p by outcome) i place legal runs = inl (leaves_runs s.standings (by - 1) i place Idle idle_not runs)
runs_step o s (Skip p need by) i place legal runs = inl runs
runs_step o s (Back p by cause) i place legal runs = inl (leaves_runs s.standings (by - 1) i place Ended ended_not runs)

made_first : (event : Event) (events : List Event) (by : ℕ) → by_of event ≡ by → 0 < made_by by_of by (event ∷ events)
made_first event events by own = by_test (by_of event == by) (grind (arith, nat_tests))
  where
    by_test : (test : Bool) → test ≡ true → 0 < cond test 1 0 + made_by by_of by events
    by_test true is = omega arith
    by_test false is = cc

made_later : (event : Event) (events : List Event) (by : ℕ) → 0 < made_by by_of by events → 0 < made_by by_of by (event ∷ events)
made_later event events by some = omega arith

runs_from : (o : Opening) (s : State) (events : List Event) (i place : ℕ) → AreLegal o s events → RunsAt (after_all o s events) i place
    → RunsAt s i place ⊎ (0 < made_by by_of (i + 1) events)
runs_from o s [] i place legal runs = inl runs
runs_from o s (event ∷ events) i place legal runs = elim (runs_from o (after o s event) events i place legal.1 runs) [
  | inl before ↦ elim (runs_step o s event i place legal.0 before) [ inl was ↦ inl was | inr own ↦ inr (made_first event events (i + 1) own) ]
  | inr some ↦ inr (made_later event events (i + 1) some)
]

runs_made : (o : Opening) (events : List Event) (i place : ℕ) → Legal o events → RunsAt (replay o events) i place → 0 < made_by by_of (i + 1) events
runs_made o events i place legal runs = elim (runs_from o (start_of o) events i place legal runs) [
  | inl first ↦ absurd (idle_not place (get_replicate o.partitions i Idle (Runs place) first))
  | inr some ↦ some
]

-- ---- the posts

-- what holds of all holds of the one at a place
pub one_of : {X : Type 0} (P : X → Type 0) (xs : List X) (i : ℕ) (x : X) → All P xs → slice_get xs i ≡ Some x → P x
one_of P xs i x all is = subst P (get_or_from_slice_get xs i x x is) (All-get_or P xs i x (slice_get_within xs i x is) all)

pub numbered_at : (standings : List Standing) (i : ℕ) → slice_get standings i ≡ standing standings (i + 1)
numbered_at standings i = by_zero (i + 1 == 0) refl
  where
    by_zero : (zeroth : Bool) → (i + 1 == 0) ≡ zeroth → slice_get standings i ≡ cond zeroth None (slice_get standings (i + 1 - 1))
    by_zero true e = absurd (grind (arith, nat_tests))
    by_zero false e = ap (slice_get standings) (omega arith)

module _ {F : Type 0} where
  post_of : (posts : List (PostView F)) (n : ℕ) → HasSeat posts n → (i : ℕ) × (p : PostView F) × (slice_get posts i ≡ Some p) × (p.number ≡ n)
  post_of [] n has = absurd has
  post_of (post ∷ posts) n (inl own) = (0, post, refl, own)
  post_of (post ∷ posts) n (inr rest) = let found = post_of posts n rest in (suc found.0, found.1, found.2, found.3)

  pub own_all : (posts : List (PostView F)) (inner board : TableId) → inner ≡ board → All (HasReturned board) posts
      → All (λ p. (p.board ≡ inner) × (p.has_value ≡ false)) posts
  own_all posts inner board same returned =
      All-weaker (HasReturned board) (λ p. (p.board ≡ inner) × (p.has_value ≡ false)) (λ p h. (h.0.0 ∙ sym same, h.0.1)) posts returned

  -- what is known of all posts and of the core at the end
  pub record Closes (posts : List (PostView F)) (k : Story) (handed : List F) : Type 0 where
    pub openings : All (λ p. p.opening ≡ Some (record { build = k.opening; folders = handed })) posts
    pub went : All (λ p. Continues by_of p.number p.seen k.events) posts
    pub counted : length k.events ≡ sum_by (λ (p : PostView F). p.made) posts
    pub makers : (n : ℕ) → 0 < made_by by_of n k.events → HasSeat posts n
    pub legal : Legal k.opening k.events

  pub closes : (posts : List (PostView F)) (k : Story) (h : HouseView F) (v : StateView F) → record { story = k; house = h } ≡ v
      → All (λ p. p.opening ≡ Some (record { build = v.story.opening; folders = v.house.handed })) posts
      → All (λ p. Continues by_of p.number p.seen v.story.events) posts → length v.story.events ≡ sum_by (λ (p : PostView F). p.made) posts
      → ((n : ℕ) → 0 < made_by by_of n v.story.events → HasSeat posts n) → Legal k.opening k.events → Closes posts k h.handed
  closes posts k h v same openings went counted makers legal = record {
    openings = subst (λ (w : StateView F). All (λ p. p.opening ≡ Some (record { build = w.story.opening; folders = w.house.handed })) posts)
        (sym same) openings;
    went = subst (λ (w : StateView F). All (λ p. Continues by_of p.number p.seen w.story.events) posts) (sym same) went;
    counted = ap (λ (w : StateView F). length w.story.events) same ∙ counted;
    makers = subst (λ (w : StateView F). (n : ℕ) → 0 < made_by by_of n w.story.events → HasSeat posts n) (sym same) makers;
    legal = legal;
  }

  module _ (posts : List (PostView F)) (k : Story) (handed : List F) (c : Closes posts k handed) (seats : ℕ)
      (all : length posts ≡ seats) (some : 0 < seats) where
    -- no lease is out, so nothing runs
    pub nothing_runs : (board : TableId) → All (HasReturned board) posts → (i place : ℕ) → RunsAt (state_now k) i place → ⊥
    nothing_runs board returned i place runs =
        let seat = post_of posts (i + 1) (c.makers (i + 1) (runs_made k.opening k.events i place c.legal runs)) in
        let post = seat.1 in
        let f : Found post k handed = record {
          opening = one_of (λ p. p.opening ≡ Some (record { build = k.opening; folders = handed })) posts seat.0 post c.openings seat.2;
          went = one_of (λ p. Continues by_of p.number p.seen k.events) posts seat.0 post c.went seat.2;
          legal = c.legal;
        } in
        (one_of (HasReturned board) posts seat.0 post returned seat.2).1 place
        (sym (standing_is post k handed f) ∙ ap (standing (state_now k).standings) seat.3 ∙ sym (numbered_at (state_now k).standings i) ∙ runs)

    begun_of : (p : PostView F) → p.opening ≡ Some (record { build = k.opening; folders = handed })
        → begun_at p ≡ record { build = k.opening; folders = handed }
    begun_of p e = ap (λ (x : Option (Begun F)). unwrap_or x nothing_begun) e

    -- what their board began with
    pub begun_all : begun_in posts ≡ record { build = k.opening; folders = handed }
    begun_all = first posts all c.openings
      where
        first : (ps : List (PostView F)) → length ps ≡ seats → All (λ p. p.opening ≡ Some (record { build = k.opening; folders = handed })) ps
            → begun_in ps ≡ record { build = k.opening; folders = handed }
        first [] none each = absurd (omega arith)
        first (p ∷ ps) long each = begun_of p (All-head (λ (q : PostView F). q.opening ≡ Some (record { build = k.opening; folders = handed })) p ps each)

    pub history_is : (history : List Event) → history ≡ k.events → IsHistoryOf posts history
    history_is history same = record {
      opening = All-weaker (λ (p : PostView F). p.opening ≡ Some (record { build = k.opening; folders = handed })) (λ p. begun_at p ≡ begun_in posts)
          (λ p e. begun_of p e ∙ sym begun_all) posts c.openings;
      seen = subst (λ (es : List Event). All (λ p. Continues by_of p.number p.seen es) posts) (sym same) c.went;
      counted = ap length same ∙ c.counted;
      legal = subst (λ (b : Begun F). Legal b.build history) (sym begun_all) (subst (λ (es : List Event). Legal k.opening es) (sym same) c.legal);
    }

-- ---- the folders

map_at : {X Y : Type 0} (f : X → Y) (xs : List X) (i : ℕ) (y : Y) → slice_get (map f xs) i ≡ Some y → (x : X) × (slice_get xs i ≡ Some x) × (f x ≡ y)
map_at f [] i y e = cc
map_at f (x ∷ xs) zero y e = (x, refl, cc)
map_at f (x ∷ xs) (suc i) y e = map_at f xs i y e

fits_holds : (o : Opening) (s : State) (place : ℕ) (fate : Option Fate) (held : Holding) → Fits o s place fate held → HoldsBy o s.fates place fate held
fits_holds o s place None held fits = tt
fits_holds o s place (Some fate) held fits = fits

module _ {F : Type 0} (known : F → FolderKnown) where
  keys_same : (folders handed : List F) → length folders ≡ length handed
      → ((place : ℕ) (folder : F) → slice_get folders place ≡ Some folder → IsOf known handed place folder)
      → map (λ (k : FolderKnown). k.key) (map known folders) ≡ map (λ (k : FolderKnown). k.key) (map known handed)
  keys_same [] [] long each = refl
  keys_same [] (h ∷ hs) long each = absurd (omega arith)
  keys_same (f ∷ fs) [] long each = absurd (omega arith)
  keys_same (f ∷ fs) (h ∷ hs) long each =
      let first = each 0 f refl in
      let here : h ≡ first.first = let e = first.here in cc in
      ap (λ (key : BuildKey). key ∷ map (λ (k : FolderKnown). k.key) (map known fs)) (first.key ∙ ap (λ (g : F). (known g).key) (sym here))
      ∙ ap (λ (keys : List BuildKey). (known h).key ∷ keys)
      (keys_same fs hs (omega arith)
      (λ place folder is. let other = each (suc place) folder is in record { first = other.first; here = other.here; key = other.key }))

  module _ (k : Story) (house : HouseView F) (housed : IsHoused known k house) (none : (i place : ℕ) → RunsAt (state_now k) i place → ⊥) where
    -- all folders are at home where nothing runs
    pub all_here : AllHere house.homes
    all_here = here_all house.homes
        (λ i within. let long = housed.home.places in let there = housed.home.home i (omega arith) (λ j runs. none j i runs) in (there.0, there.1))

    module _ (folders : List F) (same : map Some folders ≡ house.homes) where
      folder_home : (place : ℕ) (folder : F) → slice_get folders place ≡ Some folder
          → IsAtHome known (Belongs known house.handed k.events) k.opening (state_now k) place folder
      folder_home place folder is =
          let here : slice_get house.homes place ≡ Some (Some folder) = ap (λ hs. slice_get hs place) (sym same) ∙ slice_get-map Some folders place
          ∙ ap (option_map Some) is in
          let within = slice_get_within house.homes place (Some folder) here in
          let long = housed.home.places in
          let there = housed.home.home place (omega arith) (λ i runs. none i place runs) in
          let found = there.1 in
          let e : there.0 ≡ folder = cc in
          subst (IsAtHome known (Belongs known house.handed k.events) k.opening (state_now k) place) e there.2

      pub all_left : AreLeft k.opening (state_now k).fates (map known house.handed) (map known folders)
      all_left = record {
        keys = keys_same folders house.handed (sym (length-map folders Some) ∙ ap length same ∙ housed.home.places ∙ sym housed.places)
            (λ place folder is. (folder_home place folder is).is.own);
        each = λ place told is.
            let found = map_at known folders place told is in
            let home = folder_home place found.0 found.1 in
            subst (λ (kn : FolderKnown). IfSome kn.held (HoldsBy k.opening (state_now k).fates place (at (state_now k).fates place))) found.2
            (if_weaker (Fits k.opening (state_now k) place (at (state_now k).fates place))
            (HoldsBy k.opening (state_now k).fates place (at (state_now k).fates place))
            (known found.0).held (fits_holds k.opening (state_now k) place (at (state_now k).fates place)) home.fits);
      }

      pub all_counted : (history : List Event) → history ≡ k.events → AreCounted history (map known folders)
      all_counted history events = λ place told is.
          let found = map_at known folders place told is in
          subst (λ (kn : FolderKnown). IsCounted history place kn) found.2
          (subst (λ (es : List Event). IsCounted es place (known found.0)) (sym events) (folder_home place found.0 found.1).is.count)

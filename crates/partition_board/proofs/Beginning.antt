-- A board when it begins.
use Rattle.std.proofs.Common.{◌≡◌, ℕ, zero, suc, ◌+◌, ◌<◌, ◌⊎◌, inl, inr, List, [], ◌∷◌, ◌++◌, length, map, replicate, Option, Some, None, IfSome, option_map, slice_get, get_or, refl, sym, ◌∙◌, ap, subst, arith, length-append}
use Rattle.std.specs.List.{All}
use Rattle.std.proofs.lemmas.List.{length-map}
use Rattle.std.proofs.lemmas.Option.{slice_get-get_or, slice_get-map, slice_get_cases}
use Rattle.atomic_table.specs.Seated.{TableId}
use Rattle.compile_model.specs.declared.outcome.Fate.{Fate}
use Rattle.tree_store.specs.FolderKnown.{FolderKnown}
use Rattle.tree_store.proofs.MomentLemmas.{if_told, told_has}
use Rattle.partition_core.specs.declared.event.Standing.TheVariants.{Idle, Runs}
use Rattle.partition_core.specs.State.{Opening, at, start_of}
use Rattle.partition_core.specs.Story.{Story}
use Rattle.partition_core.proofs.Places.{get_replicate}
use Rattle.turn_board.specs.Seats.{fresh_seat, numbered}
use Rattle.partition_board.specs.Begun.{Begun}
use Rattle.partition_board.specs.Holds.{AreReady, HoldsKept}
use Rattle.partition_board.specs.Homes.{AreHome, Belongs, Fits, HouseView, IsHoused}
use Rattle.partition_board.specs.Posts.{IsFreePost, IsIn, PostView}
use Rattle.partition_board.proofs.Closing.{numbered_at}

at_none : (n place : ℕ) → at {X = Fate} (replicate n None) place ≡ None
at_none zero place = refl
at_none (suc n) zero = refl
at_none (suc n) (suc place) = at_none n place

module _ {F : Type 0} (known : F → FolderKnown) (o : Opening) (folders : List F) (ready : AreReady o (map known folders)) where
  places : length folders ≡ length o.plan.jobs
  places = sym (length-map folders known) ∙ ready.places

  known_at : (place : ℕ) (folder : F) → slice_get folders place ≡ Some folder → slice_get (map known folders) place ≡ Some (known folder)
  known_at place folder is = slice_get-map known folders place ∙ ap (option_map known) is

  folder_at : (place : ℕ) → place < length folders → (folder : F) × (slice_get folders place ≡ Some folder)
  folder_at place within = elim (slice_get_cases folders place).1 [ inl there ↦ (there.0, there.2) | inr past ↦ absurd (omega (arith, past.0)) ]

  belongs_first : (place : ℕ) (folder : F) → slice_get folders place ≡ Some folder → Belongs known folders [] place folder
  belongs_first place folder is = record {
    own = record { first = folder; here = is; key = refl };
    count = ((λ some. absurd (some (ready.fresh place (known folder) (known_at place folder is)))), (λ e. cc));
  }

  home_first : AreHome known (Belongs known folders []) o (start_of o) (map Some folders)
  home_first = record {
    places = length-map folders Some ∙ places;
    away = λ place i runs. absurd (idle_not place (get_replicate o.partitions i Idle (Runs place) runs));
    home = λ place within idle.
        let there = folder_at place (let long = places in omega arith) in (
          there.0,
          slice_get-map Some folders place ∙ ap (option_map Some) there.1,
          record {
            is = belongs_first place there.0 there.1;
            fits = subst (λ (fate : Option Fate). IfSome (known there.0).held (Fits o (start_of o) place fate)) (sym (at_none (length o.plan.jobs) place))
                (if_told (known there.0).held (λ held told. λ kept is.
                inl (told_has (HoldsKept kept) (known there.0).held held told (ready.kept place (known there.0) kept (known_at place there.0 there.1) is))));
          },
        );
  }
    where
      idle_not : (p : ℕ) → Idle ≡ Runs p → ⊥
      idle_not p e = cc

  pub begun_housed : (k : Story) (house : HouseView F) → k ≡ record { opening = o; events = [] } → house ≡ record { handed = folders; homes = map Some folders }
      → IsHoused known k house
  begun_housed k house is at_home =
      subst (λ (h : HouseView F). IsHoused known k h) (sym at_home)
      (subst (λ (s : Story). IsHoused known s (record { handed = folders; homes = map Some folders })) (sym is) (record { places = places; home = home_first }))

-- ---- the posts

last_or : {X : Type 0} (xs : List X) (y : X) (i : ℕ) (p : X) → slice_get (xs ++ y ∷ []) i ≡ Some p → (slice_get xs i ≡ Some p) ⊎ ((i ≡ length xs) × (y ≡ p))
last_or [] y zero p e = inr (refl, cc)
last_or [] y (suc i) p e = cc
last_or (x ∷ xs) y zero p e = inl e
last_or (x ∷ xs) y (suc i) p e = elim (last_or xs y i p e) [ inl there ↦ inl there | inr last ↦ inr (omega (arith, last.0), last.1) ]

module _ {F : Type 0} (b : TableId) (begun : Begun F) where
  abbrev fresh : ℕ → List (PostView F)
  fresh n = numbered b (Some begun) n

  fresh_length : (n : ℕ) → length (fresh n) ≡ n
  fresh_length zero = refl
  fresh_length (suc n) = omega (arith, length-append (fresh n) (fresh_seat b (Some begun) (suc n) ∷ []), fresh_length n)

  fresh_at : (n i : ℕ) (p : PostView F) → slice_get (fresh n) i ≡ Some p → (p ≡ fresh_seat b (Some begun) (i + 1)) × (i < n)
  fresh_at zero i p e = cc
  fresh_at (suc n) i p e = elim (last_or (fresh n) (fresh_seat b (Some begun) (suc n)) i p e) [
    | inl there ↦ (let rest = fresh_at n i p there in (rest.0, omega (arith, rest.1)))
    | inr last ↦ (let long : i ≡ n = last.0 ∙ fresh_length n in
        (sym last.1 ∙ ap (fresh_seat b (Some begun)) (let k : suc n ≡ i + 1 = omega arith in k), omega arith))
  ]

  all_idle : (n i : ℕ) → i < n → slice_get (replicate n Idle) i ≡ Some Idle
  all_idle zero i within = absurd (omega arith)
  all_idle (suc n) zero within = refl
  all_idle (suc n) (suc i) within = all_idle n i (omega arith)

  fresh_free : (i : ℕ) → i < begun.build.partitions → IsFreePost (fresh_seat b (Some begun) (i + 1))
  fresh_free i within = sym (numbered_at (start_of begun.build).standings i) ∙ all_idle begun.build.partitions i within

  pub fresh_each : (posts : List (PostView F)) (n : ℕ) → n ≡ begun.build.partitions → posts ≡ fresh n → All (λ p. IsIn b p × IsFreePost p) posts
  fresh_each posts n few are = λ i d within.
      let is : slice_get posts i ≡ Some (get_or posts i d) = slice_get-get_or posts i d within in
      let one = fresh_at n i (get_or posts i d) (ap (λ (ps : List (PostView F)). slice_get ps i) (sym are) ∙ is) in
      subst (λ (p : PostView F). IsIn b p × IsFreePost p) (sym one.0) ((refl, refl), fresh_free i (omega (arith, one.1)))

-- All partitions, before they serve and after.
use Rattle.std.proofs.Common.{◌≡◌, ℕ, zero, suc, ◌+◌, ◌<◌, ◌≤◌, ◌⊎◌, inl, inr, List, [], ◌∷◌, ◌++◌, length, map, Option, Some, option_map, slice_get, get_or, refl, sym, ◌∙◌, ap, subst, arith}
use Rattle.std.specs.List.{All}
use Rattle.std.specs.Option.{unwrap_or}
use Rattle.std.proofs.lemmas.List.{length-map}
use Rattle.std.proofs.lemmas.List.Elements.{All-map}
use Rattle.std.proofs.lemmas.Option.{get_or_from_slice_get, slice_get-get_or, slice_get-map, slice_get_within}
use Rattle.atomic_table.specs.Seated.{TableId}
use Rattle.compile_model.specs.declared.job.Plan.{Plan}
use Rattle.partition_core.specs.declared.event.Event.{Event}
use Rattle.partition_core.specs.Refusals.{by_of}
use Rattle.partition_face.specs.declared.counts.Counts.{Counts}
use Rattle.turn_board.specs.Histories.{Continues}
use Rattle.turn_board.specs.Seats.{BoardView, fresh_seat, fresh_seats, numbered}
use Rattle.turn_board.proofs.Fresh.{length_numbered}
use Rattle.partition_board.specs.Begun.{Begun}
use Rattle.partition_board.specs.Posts.{HasReturned, IsFreePost, IsHistoryOf, IsIn, PostView, begun_at, begun_in, nothing_begun, opening_at}
use Rattle.partition_board.proofs.Closing.{one_of}
use Rattle.partition_crew.specs.Build.{CountsOf}
use Rattle.partition_crew.specs.Station.{IsYoung}
use Rattle.partition_build.specs.declared.posting.Posting.{Posting}
use Rattle.partition_build.specs.Built.{AreCountsOf, events_of}
use Rattle.partition_build.specs.Postings.{HasServed, MayServe, PostingView, own_events, posting_by}
use Rattle.partition_build.proofs.Owning.{own_went}

-- ---- lists

pub map_at : {X Y : Type 0} (f : X → Y) (xs : List X) (i : ℕ) (y : Y) → slice_get (map f xs) i ≡ Some y → (x : X) × (slice_get xs i ≡ Some x) × (f x ≡ y)
map_at f [] i y e = cc
map_at f (x ∷ xs) zero y e = (x, refl, cc)
map_at f (x ∷ xs) (suc i) y e = map_at f xs i y e

at_map : {X Y : Type 0} (f : X → Y) (xs : List X) (ys : List Y) (i : ℕ) (x : X) → map f xs ≡ ys → slice_get xs i ≡ Some x → slice_get ys i ≡ Some (f x)
at_map f xs ys i x same is = ap (λ zs. slice_get zs i) (sym same) ∙ slice_get-map f xs i ∙ ap (option_map f) is

last_or : {X : Type 0} (xs : List X) (y : X) (i : ℕ) (p : X) → slice_get (xs ++ y ∷ []) i ≡ Some p → (slice_get xs i ≡ Some p) ⊎ ((i ≡ length xs) × (y ≡ p))
last_or [] y zero p e = inr (refl, cc)
last_or [] y (suc i) p e = cc
last_or (x ∷ xs) y zero p e = inl e
last_or (x ∷ xs) y (suc i) p e = elim (last_or xs y i p e) [ inl there ↦ inl there | inr last ↦ inr (omega (arith, last.0), last.1) ]

fresh_at : {F : Type 0} (board : TableId) (opening : Option (Begun F)) (n i : ℕ) (p : PostView F) → slice_get (numbered board opening n) i ≡ Some p
    → p ≡ fresh_seat board opening (i + 1)
fresh_at board opening zero i p e = cc
fresh_at board opening (suc n) i p e = elim (last_or (numbered board opening n) (fresh_seat board opening (suc n)) i p e) [
  | inl there ↦ fresh_at board opening n i p there
  | inr last ↦ (let long : i ≡ n = last.0 ∙ length_numbered Event board opening n in
      sym last.1 ∙ ap (fresh_seat board opening) (let k : suc n ≡ i + 1 = omega (arith, long) in k))
]

module _ {P F : Type 0} (counted : P → Counts) (lasting : Type 0) (b : BoardView) (begun : Begun F) (old new : List (Posting P F))
    (fresh : map (λ (p : Posting P F). p.post) old ≡ fresh_seats b (Some begun)) where
  abbrev view : Posting P F → PostingView F
  view p = posting_by p.post (counted p.partition)

  post_at : (i : ℕ) (p : Posting P F) → slice_get old i ≡ Some p → p.post ≡ fresh_seat b.board (Some begun) (i + 1)
  post_at i p is = fresh_at b.board (Some begun) b.seats i p.post (at_map (λ (q : Posting P F). q.post) old (fresh_seats b (Some begun)) i p fresh is)

  pub old_length : length old ≡ b.seats
  old_length = sym (length-map old (λ (p : Posting P F). p.post)) ∙ ap length fresh ∙ length_numbered Event b.board (Some begun) b.seats

  -- ---- before

  pub may_all : (plan : Plan) (posts : List (PostView F)) (partitions : List P) → map (λ (p : Posting P F). p.post) old ≡ posts
      → map (λ (p : Posting P F). p.partition) old ≡ partitions → All (λ p. IsIn b.board p × IsFreePost p) posts → plan ≡ begun.build.plan
      → begun.build.partitions ≤ 64 → All (λ p. IsYoung (counted p)) partitions → All (λ p. MayServe b.board plan (view p)) old
  may_all plan posts partitions own_posts own_partitions free asked few young = λ i d within.
      let p = get_or old i d in
      let is : slice_get old i ≡ Some p = slice_get-get_or old i d within in
      let first : p.post ≡ fresh_seat b.board (Some begun) (i + 1) = post_at i p is in
      let there = one_of (λ q. IsIn b.board q × IsFreePost q) posts i p.post free (at_map (λ (q : Posting P F). q.post) old posts i p own_posts is) in
      record {
        posted = record {
          own = there.0;
          asked = asked ∙ ap (λ (q : PostView F). (opening_at q).plan) (sym first);
          few = subst (λ (q : PostView F). (opening_at q).partitions ≤ 64) (sym first) few;
        };
        free = there.1;
        unseen = ap (λ (q : PostView F). q.seen) first;
        young = one_of (λ q. IsYoung (counted q)) partitions i p.partition young
            (at_map (λ (q : Posting P F). q.partition) old partitions i p own_partitions is);
      }

  -- ---- after

  module _ (long : length new ≡ length old)
      (each : (i : ℕ) (d : Posting P F) → i < length old → HasServed lasting (view (get_or old i d)) (view (get_or new i d))) where
    -- the partition at this index, before and after
    record WasAt (i : ℕ) (q : Posting P F) : Type 0 where
      p : Posting P F
      there : slice_get old i ≡ Some p
      served : HasServed lasting (view p) (view q)

    was_at : (i : ℕ) (q : Posting P F) → slice_get new i ≡ Some q → WasAt i q
    was_at i q is =
        let within : i < length old = omega (arith, slice_get_within new i q is, long) in
        record {
          p = get_or old i q;
          there = slice_get-get_or old i q within;
          served = subst (λ (now : Posting P F). HasServed lasting (view (get_or old i q)) (view now)) (get_or_from_slice_get new i q q is) (each i q within);
        }

    pub all_length : (posts : List (PostView F)) → posts ≡ map (λ (p : Posting P F). p.post) new → length posts ≡ b.seats
    all_length posts own = ap length own ∙ length-map new (λ (p : Posting P F). p.post) ∙ long ∙ old_length

    returned_at : (i : ℕ) (q : Posting P F) → slice_get new i ≡ Some q → HasReturned b.board q.post
    returned_at i q is =
        let was = was_at i q is in
        let first = post_at i was.p was.there in (
          (was.served.same.0 ∙ ap (λ (r : PostView F). r.board) first, was.served.same.3 ∙ ap (λ (r : PostView F). r.has_value) first),
          was.served.returned,
        )

    pub all_returned : (posts : List (PostView F)) → posts ≡ map (λ (p : Posting P F). p.post) new → All (HasReturned b.board) posts
    all_returned posts own = subst (All (HasReturned b.board)) (sym own)
        (All-map (HasReturned b.board) (λ (p : Posting P F). p.post) new (λ i d within. returned_at i (get_or new i d) (slice_get-get_or new i d within)))

    begun_of : (i : ℕ) (q : Posting P F) → slice_get new i ≡ Some q → begun_at q.post ≡ begun
    begun_of i q is =
        let was = was_at i q is in
        ap (λ (x : Option (Begun F)). unwrap_or x nothing_begun)
        (was.served.same.2 ∙ ap (λ (r : PostView F). r.opening) (post_at i was.p was.there))

    -- what the board of all posts began with
    pub all_begun : (posts : List (PostView F)) → posts ≡ map (λ (p : Posting P F). p.post) new → 0 < b.seats → begun_in posts ≡ begun
    all_begun posts own some = ap begun_in own ∙ at new refl
      where
        at : (qs : List (Posting P F)) → new ≡ qs → begun_in (map (λ (p : Posting P F). p.post) qs) ≡ begun
        at [] none = absurd (omega (arith, some, old_length, long, ap length none))
        at (q ∷ qs) is = begun_of 0 q (ap (λ (rs : List (Posting P F)). slice_get rs 0) is)

    -- each has counted what the history says of its number
    counts_at : (history : List Event) → All (λ post. Continues by_of post.number post.seen history) (map (λ (p : Posting P F). p.post) new)
        → (i : ℕ) (p q : Posting P F) → slice_get old i ≡ Some p → slice_get new i ≡ Some q
        → CountsOf lasting (events_of (i + 1) history) (counted p.partition) (counted q.partition)
    counts_at history seen i p q was_p is =
        let was = was_at i q is in
        let same : was.p ≡ p = let e : Some was.p ≡ Some p = sym was.there ∙ was_p in cc in
        let number : q.post.number ≡ i + 1 = was.served.same.1 ∙ ap (λ (r : PostView F). r.number) (post_at i was.p was.there) in
        let went = one_of (λ post. Continues by_of post.number post.seen history) (map (λ (p : Posting P F). p.post) new) i q.post seen
        (at_map (λ (r : Posting P F). r.post) new (map (λ (r : Posting P F). r.post) new) i q refl is) in
        let own : own_events q.post ≡ events_of (i + 1) history =
        sym (own_went q.post.number q.post.seen history went) ∙ ap (λ (n : ℕ). events_of n history) number in
        subst (λ (es : List Event). CountsOf lasting es (counted p.partition) (counted q.partition)) own
        (subst (λ (r : Posting P F). CountsOf lasting (own_events q.post) (counted r.partition) (counted q.partition)) same was.served.counts)

    pub all_counts : (partitions left : List P) (posts : List (PostView F)) (history : List Event) → map (λ (p : Posting P F). p.partition) old ≡ partitions
        → left ≡ map (λ (p : Posting P F). p.partition) new → posts ≡ map (λ (p : Posting P F). p.post) new → IsHistoryOf posts history
        → AreCountsOf lasting history (map counted partitions) (map counted left)
    all_counts partitions left posts history own own_left own_posts is = record {
      long = length-map left counted ∙ ap length own_left ∙ length-map new (λ (p : Posting P F). p.partition) ∙ long
          ∙ sym (length-map old (λ (p : Posting P F). p.partition)) ∙ ap length own ∙ sym (length-map partitions counted);
      each = λ i before after was has.
          let a = map_at counted partitions i before was in
          let z = map_at counted left i after has in
          let p = map_at (λ (r : Posting P F). r.partition) old i a.0 (ap (λ (ps : List P). slice_get ps i) own ∙ a.1) in
          let q = map_at (λ (r : Posting P F). r.partition) new i z.0 (ap (λ (ps : List P). slice_get ps i) (sym own_left) ∙ z.1) in
          let seen = subst (All (λ post. Continues by_of post.number post.seen history)) own_posts is.seen in
          subst (λ (c : Counts). CountsOf lasting (events_of (i + 1) history) c after) (ap counted p.2 ∙ a.2)
          (subst (λ (c : Counts). CountsOf lasting (events_of (i + 1) history) (counted p.0.partition) c) (ap counted q.2 ∙ z.2)
          (counts_at history seen i p.0 q.0 p.1 q.1));
    }

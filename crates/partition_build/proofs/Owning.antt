-- The events of one partition, in a history that goes on.
use Rattle.std.proofs.Common.{◌≡◌, ℕ, ◌+◌, ◌==◌, Bool, true, false, cond, List, [], ◌∷◌, ◌++◌, refl, ◌∙◌, ap, arith, append-nil}
use Rattle.std.proofs.lemmas.Bool.Decides.{nat_tests}
use Rattle.std.proofs.lemmas.List.Elements.{filter-append}
use Rattle.partition_core.specs.declared.event.Event.{Event}
use Rattle.partition_core.specs.Refusals.{by_of}
use Rattle.turn_board.specs.Histories.{Continues, made_by}
use Rattle.partition_board.specs.Posts.{Adds, PostView, Sees}
use Rattle.partition_build.specs.Built.{events_of}
use Rattle.partition_build.specs.Postings.{own_events}

pub own_first : (n : ℕ) (event : Event) (events : List Event) → by_of event ≡ n → events_of n (event ∷ events) ≡ event ∷ events_of n events
own_first n event events own = at (by_of event == n) (grind (arith, nat_tests))
  where
    at : (test : Bool) → test ≡ true → cond test (event ∷ events_of n events) (events_of n events) ≡ event ∷ events_of n events
    at true is = refl
    at false is = cc

own_none : (n : ℕ) (events : List Event) → made_by by_of n events ≡ 0 → events_of n events ≡ []
own_none n [] none = refl
own_none n (event ∷ events) none = at (by_of event == n) (own_none n events) none
  where
    at : (test : Bool) → (made_by by_of n events ≡ 0 → events_of n events ≡ []) → cond test 1 0 + made_by by_of n events ≡ 0
        → cond test (event ∷ events_of n events) (events_of n events) ≡ []
    at true rest e = absurd (omega (arith, e))
    at false rest e = rest (omega (arith, e))

pub own_append : (n : ℕ) (xs ys : List Event) → events_of n (xs ++ ys) ≡ events_of n xs ++ events_of n ys
own_append n xs ys = filter-append (λ (event : Event). by_of event == n) xs ys

-- others' events alone were made since
pub own_went : (n : ℕ) (old now : List Event) → Continues by_of n old now → events_of n now ≡ events_of n old
own_went n old now went =
    ap (events_of n) went.1 ∙ own_append n old went.0 ∙ ap (λ (es : List Event). events_of n old ++ es) (own_none n went.0 went.2)
    ∙ append-nil (events_of n old)

module _ {F : Type 0} (old new : PostView F) where
  pub own_adds : (events : List Event) → events_of old.number events ≡ events → Adds events old new → own_events new ≡ own_events old ++ events
  own_adds events own adds =
      ap (λ (n : ℕ). events_of n new.seen) adds.same.1 ∙ ap (events_of old.number) adds.seen ∙ own_append old.number adds.before events
      ∙ ap (λ (es : List Event). es ++ events_of old.number events) (own_went old.number old.seen adds.before adds.went)
      ∙ ap (λ (es : List Event). own_events old ++ es) own

  -- one event was made
  pub own_made : (event : Event) → by_of event ≡ old.number → Adds (event ∷ []) old new → own_events new ≡ own_events old ++ event ∷ []
  own_made event own adds = own_adds (event ∷ []) (own_first old.number event [] own) adds

  pub own_sees : Sees old new → own_events new ≡ own_events old
  own_sees sees = ap (λ (n : ℕ). events_of n new.seen) sees.same.1 ∙ own_went old.number old.seen new.seen sees.went

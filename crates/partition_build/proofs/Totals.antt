-- What all partitions have counted together.
use Rattle.std.proofs.Common.{◌≡◌, ℕ, zero, suc, ◌-◌, ◌+◌, ◌<◌, ◌≤◌, ◌==◌, ◌⊎◌, Bool, true, false, cond, inl, inr, List, [], ◌∷◌, length, replicate, count_by, Option, Some, slice_get, refl, sym, ◌∙◌, ap, subst, arith}
use Rattle.std.proofs.lemmas.Bool.Decides.{nat_tests}
use Rattle.std.proofs.lemmas.List.{length-replicate, length-set}
use Rattle.std.proofs.lemmas.Option.{slice_get_within}
use Rattle.partition_core.specs.declared.event.Event.{Event}
use Rattle.partition_core.specs.declared.event.Event.TheVariants.{Keep, Start, Finish, Fail, Skip, Back}
use Rattle.partition_core.specs.declared.event.Standing.{Standing}
use Rattle.partition_core.specs.declared.event.Standing.TheVariants.{Idle, Runs, Ended}
use Rattle.partition_core.specs.State.{Opening, State, standing, start_of}
use Rattle.partition_core.specs.Steps.{IsLegal, after}
use Rattle.partition_core.specs.Histories.{AreLegal, Legal}
use Rattle.partition_core.specs.Counts.{is_start}
use Rattle.partition_core.specs.Refusals.{by_of}
use Rattle.partition_core.proofs.Places.{standing_get}
use Rattle.partition_core.proofs.Starts.{count_first}
use Rattle.partition_face.specs.declared.counts.Counts.{Counts}
use Rattle.partition_face.specs.Counts.{deaths_of, runs_of}
use Rattle.partition_crew.specs.Build.{CountsOf, is_death, is_undone}
use Rattle.partition_build.specs.Built.{AreCountsOf, all_of, events_of}
use Rattle.partition_build.proofs.Owning.{own_first}

-- ---- the events of some partitions

own_other : (n : ℕ) (event : Event) (events : List Event) → (by_of event ≡ n → ⊥) → events_of n (event ∷ events) ≡ events_of n events
own_other n event events other = at (by_of event == n) (grind (arith, nat_tests))
  where
    at : (test : Bool) → test ≡ false → cond test (event ∷ events_of n events) (events_of n events) ≡ events_of n events
    at true is = cc
    at false is = refl

-- how many events of the partitions with these numbers, from the one behind k on, pass a test
abbrev sum_from : (Event → Bool) → List Event → ℕ → ℕ → ℕ
sum_from test events k zero = 0
sum_from test events k (suc m) = count_by test (events_of (k + 1) events) + sum_from test events (k + 1) m

sum_none : (test : Event → Bool) (k m : ℕ) → sum_from test [] k m ≡ 0
sum_none test k zero = refl
sum_none test k (suc m) = omega (arith, sum_none test (k + 1) m)

-- an event of a partition before these
sum_past : (test : Event → Bool) (event : Event) (events : List Event) (k m : ℕ) → by_of event ≤ k
    → sum_from test (event ∷ events) k m ≡ sum_from test events k m
sum_past test event events k zero past = refl
sum_past test event events k (suc m) past =
    let here = ap (count_by test) (own_other (k + 1) event events (λ same. omega (arith, same, past))) in
    omega (arith, here, sum_past test event events (k + 1) m (omega (arith, past)))

next_or : (k n : ℕ) → k < n → (n ≡ k + 1) ⊎ (k + 1 < n)
next_or zero zero above = absurd (omega (arith, above))
next_or zero (suc zero) above = inl refl
next_or zero (suc (suc n)) above = inr (omega arith)
next_or (suc k) zero above = absurd (omega (arith, above))
next_or (suc k) (suc n) above = elim (next_or k n (omega (arith, above))) [
  | inl same ↦ inl (omega (arith, same))
  | inr later ↦ inr (omega (arith, later))
]

-- an event of one of these
sum_first : (test : Event → Bool) (event : Event) (events : List Event) (k m : ℕ) → k < by_of event → by_of event ≤ k + m
    → sum_from test (event ∷ events) k m ≡ cond (test event) 1 0 + sum_from test events k m
sum_first test event events k zero above within = absurd (omega (arith, above, within))
sum_first test event events k (suc m) above within = elim (next_or k (by_of event) above) [
  | inl same ↦
      let here = ap (count_by test) (own_first (k + 1) event events same) in
      omega (arith, here, count_first test event (events_of (k + 1) events), sum_past test event events (k + 1) m (omega (arith, same)))
  | inr later ↦
      let here = ap (count_by test) (own_other (k + 1) event events (λ same. omega (arith, same, later))) in
      omega (arith, here, sum_first test event events (k + 1) m later (omega (arith, within)))
]

-- ---- each event is of a partition that is there

by_within : (standings : List Standing) (by : ℕ) (now : Standing) → standing standings by ≡ Some now → (0 < by) × (by ≤ length standings)
by_within standings zero now is = cc
by_within standings (suc k) now is =
    (omega arith, omega (arith, slice_get_within standings (suc k - 1) now (standing_get standings (suc k) now is)))

acts : (o : Opening) (s : State) (event : Event) → IsLegal o s event → (0 < by_of event) × (by_of event ≤ length s.standings)
acts o s (Keep place by) legal = by_within s.standings by Idle legal.0.idle
acts o s (Start place by) legal = by_within s.standings by Idle legal.0.idle
acts o s (Finish place by outcome) legal = by_within s.standings by (Runs place) legal.0
acts o s (Fail place by outcome) legal = by_within s.standings by (Runs place) legal.0
acts o s (Skip place need by) legal = by_within s.standings by Idle legal.0.idle
acts o s (Back place by cause) legal = by_within s.standings by (Runs place) legal

standings_after : (o : Opening) (s : State) (event : Event) → length (after o s event).standings ≡ length s.standings
standings_after o s (Keep place by) = refl
standings_after o s (Start place by) = length-set s.standings (by - 1) (Runs place)
standings_after o s (Finish place by outcome) = length-set s.standings (by - 1) Idle
standings_after o s (Fail place by outcome) = length-set s.standings (by - 1) Idle
standings_after o s (Skip place need by) = refl
standings_after o s (Back place by cause) = length-set s.standings (by - 1) Ended

sum_all : (o : Opening) (s : State) (test : Event → Bool) (events : List Event) (n : ℕ) → AreLegal o s events → length s.standings ≡ n
    → sum_from test events 0 n ≡ count_by test events
sum_all o s test [] n legal long = sum_none test 0 n
sum_all o s test (event ∷ events) n legal long =
    let by = acts o s event legal.0 in
    omega (
      arith,
      sum_first test event events 0 n by.0 (omega (arith, by.1, long)),
      count_first test event events,
      sum_all o (after o s event) test events n legal.1 (standings_after o s event ∙ long),
    )

-- ---- the sums

record AreSums (lasting : Type 0) (history : List Event) (k : ℕ) (old new : List Counts) : Type 0 where
  most : runs_of new ≤ runs_of old + sum_from is_start history k (length old)
  least : runs_of old + sum_from is_start history k (length old) ≤ runs_of new + sum_from is_undone history k (length old)
  deaths : deaths_of old + sum_from is_death history k (length old) ≤ deaths_of new
  lives : sum_from is_death history k (length old) ≡ 0 → deaths_of new ≡ deaths_of old
  lasts : lasting → deaths_of new ≡ deaths_of old

sums : (lasting : Type 0) (history : List Event) (k : ℕ) (old new : List Counts) → length new ≡ length old
    → ((i number : ℕ) (before after : Counts) → number ≡ k + i + 1 → slice_get old i ≡ Some before → slice_get new i ≡ Some after
    → CountsOf lasting (events_of number history) before after) → AreSums lasting history k old new
sums lasting history k [] [] long each = record {
  most = omega arith;
  least = omega arith;
  deaths = omega arith;
  lives = λ e. refl;
  lasts = λ l. refl;
}
sums lasting history k [] (c ∷ cs) long each = cc
sums lasting history k (b ∷ bs) [] long each = cc
sums lasting history k (b ∷ bs) (c ∷ cs) long each =
    let one = each 0 (k + 1) b c (omega arith) refl refl in
    let rest = sums lasting history (k + 1) bs cs (let e : length (c ∷ cs) ≡ length (b ∷ bs) = long in omega (arith, e))
    (λ i number before after_ is was has. each (suc i) number before after_ (omega (arith, is)) was has) in
    record {
      most = omega (arith, one.most, rest.most);
      least = omega (arith, one.least, rest.least);
      deaths = omega (arith, one.deaths, rest.deaths);
      lives = λ e. (let first = one.lives (omega (arith, e)) in let later = rest.lives (omega (arith, e)) in omega (arith, first, later));
      lasts = λ l. (let first = one.lasts l in let later = rest.lasts l in omega (arith, first, later));
    }

pub counts_add_up : (lasting : Type 0) (o : Opening) (history : List Event) (old new : List Counts) → Legal o history → length old ≡ o.partitions
    → AreCountsOf lasting history old new → CountsOf lasting history (all_of old) (all_of new)
counts_add_up lasting o history old new legal many counts =
    let all = sums lasting history 0 old new counts.long (λ i number before after_ is was has.
    subst (λ (n : ℕ). CountsOf lasting (events_of n history) before after_) (let e : i + 1 ≡ number = omega (arith, is) in e)
    (counts.each i before after_ was has)) in
    let long : length (start_of o).standings ≡ length old = length-replicate o.partitions Idle ∙ sym many in
    let starts = sum_all o (start_of o) is_start history (length old) legal long in
    let undone = sum_all o (start_of o) is_undone history (length old) legal long in
    let dead = sum_all o (start_of o) is_death history (length old) legal long in
    record {
      most = omega (arith, all.most, starts);
      least = omega (arith, all.least, starts, undone);
      deaths = omega (arith, all.deaths, dead);
      lives = λ e. all.lives (dead ∙ e);
      lasts = all.lasts;
    }

-- What a partition has counted, by its own events.
use Rattle.std.proofs.Common.{◌≡◌, ℕ, ◌+◌, ◌≤◌, Bool, true, false, cond, List, [], ◌∷◌, ◌++◌, count_by, refl, ◌∙◌, ap, arith}
use Rattle.partition_core.specs.declared.event.BackCause.TheVariants as back
use Rattle.partition_core.specs.declared.event.Event.{Event}
use Rattle.partition_core.specs.declared.event.Event.TheVariants.{Keep, Start, Finish, Fail, Skip, Back}
use Rattle.partition_core.specs.Counts.{is_back, is_start}
use Rattle.partition_face.specs.declared.counts.Counts.{Counts}
use Rattle.partition_crew.specs.declared.worked.Worked.{Worked}
use Rattle.partition_crew.specs.declared.worked.Worked.TheVariants.{Finished, Failed, Died, TreeFault, NoMemory}
use Rattle.partition_crew.specs.Build.{CountsOf, is_death, is_undone}
use Rattle.partition_crew.specs.Work.{IsCounted}
use Rattle.partition_crew.proofs.Tallying.{count_end, count_fewer}
use Rattle.partition_build.specs.Postings.{IsLive, ended_by, goes_on}

death_is_back : (event : Event) → cond (is_death event) 1 0 ≤ cond (is_back event) 1 0
death_is_back (Keep place by) = omega arith
death_is_back (Start place by) = omega arith
death_is_back (Finish place by outcome) = omega arith
death_is_back (Fail place by outcome) = omega arith
death_is_back (Skip place need by) = omega arith
death_is_back (Back place by back.Died) = omega arith
death_is_back (Back place by back.Tree) = omega arith
death_is_back (Back place by back.Memory) = omega arith

no_death : (own : List Event) (first now : Counts) → IsLive own first now → count_by is_death own ≡ 0
no_death own first now live = omega (arith, count_fewer is_death is_back own death_is_back, live.unended)

pub live_counts : (lasting : Type 0) (own : List Event) (first now : Counts) → IsLive own first now → CountsOf lasting own first now
live_counts lasting own first now live = record {
  most = omega (arith, live.runs);
  least = omega (arith, live.runs);
  deaths = omega (arith, no_death own first now live, live.deaths);
  lives = λ e. live.deaths;
  lasts = λ l. live.deaths;
}

-- an event that counts nothing
pub live_more : (own : List Event) (first now : Counts) (event : Event) → IsLive own first now → is_back event ≡ false → is_start event ≡ false
    → IsLive (own ++ event ∷ []) first now
live_more own first now event live no_back no_start = record {
  unended = count_end is_back own event ∙ ap (λ (b : Bool). count_by is_back own + cond b 1 0) no_back ∙ (omega (arith, live.unended));
  runs = omega (arith, live.runs, count_end is_start own event ∙ ap (λ (b : Bool). count_by is_start own + cond b 1 0) no_start);
  deaths = live.deaths;
}

-- ---- a start, and what came of it

module _ (lasting : Type 0) (own : List Event) (first now new : Counts) (live : IsLive own first now) (place by : ℕ) where
  abbrev started : List Event
  started = own ++ Start place by ∷ []

  starts : (event : Event) → is_start event ≡ false → count_by is_start (started ++ event ∷ []) ≡ count_by is_start own + 1
  starts event isnt =
      let more = count_end is_start started event ∙ ap (λ (b : Bool). count_by is_start started + cond b 1 0) isnt in
      omega (arith, more, count_end is_start own (Start place by))

  live_outcome : (event : Event) → is_back event ≡ false → is_start event ≡ false → new.runs ≡ now.runs + 1 → new.deaths ≡ now.deaths
      → IsLive (started ++ event ∷ []) first new
  live_outcome event no_back no_start once same =
      let backs = count_end is_back started event ∙ ap (λ (b : Bool). count_by is_back started + cond b 1 0) no_back in
      record {
        unended = omega (arith, backs, count_end is_back own (Start place by), live.unended);
        runs = omega (arith, once, live.runs, starts event no_start);
        deaths = same ∙ live.deaths;
      }

  -- where it goes on there is an outcome, and it stays live
  pub live_on : (worked : Worked) → goes_on worked ≡ true → IsCounted lasting now new worked
      → IsLive (started ++ ended_by place by worked ∷ []) first new
  live_on (Finished twin) on counts = live_outcome (Finish place by twin.event) refl refl (counts.ran refl) (counts.deaths.kept refl)
  live_on (Failed twin) on counts = live_outcome (Fail place by twin.event) refl refl (counts.ran refl) (counts.deaths.kept refl)
  live_on Died on counts = cc
  live_on TreeFault on counts = cc
  live_on NoMemory on counts = cc

  undone_counts : (event : Event) → is_start event ≡ false → is_death event ≡ false → is_undone event ≡ true → now.runs ≤ new.runs
      → new.runs ≤ now.runs + 1 → new.deaths ≡ now.deaths → CountsOf lasting (started ++ event ∷ []) first new
  undone_counts event no_start no_death_here undone later few same =
      let dead = count_end is_death started event ∙ ap (λ (b : Bool). count_by is_death started + cond b 1 0) no_death_here in
      let gone = count_end is_undone started event ∙ ap (λ (b : Bool). count_by is_undone started + cond b 1 0) undone in
      record {
        most = omega (arith, few, live.runs, starts event no_start);
        least = omega (arith, later, live.runs, starts event no_start, gone);
        deaths = omega (arith, dead, count_end is_death own (Start place by), no_death own first now live, same, live.deaths);
        lives = λ e. same ∙ live.deaths;
        lasts = λ l. same ∙ live.deaths;
      }

  -- whatever came of it, the counts are those of the events
  pub counts_on : (worked : Worked) → first.deaths ≡ 0 → IsCounted lasting now new worked
      → CountsOf lasting (started ++ ended_by place by worked ∷ []) first new
  counts_on (Finished twin) lives counts = live_counts lasting (started ++ Finish place by twin.event ∷ []) first new
      (live_on (Finished twin) refl counts)
  counts_on (Failed twin) lives counts = live_counts lasting (started ++ Fail place by twin.event ∷ []) first new (live_on (Failed twin) refl counts)
  counts_on Died lives counts =
      let dead = count_end is_death started (Back place by back.Died) in
      let up = counts.deaths.rose refl in
      record {
        most = omega (arith, counts.few, live.runs, starts (Back place by back.Died) refl);
        least = omega (arith, counts.ran refl, live.runs, starts (Back place by back.Died) refl);
        deaths = omega (arith, dead, count_end is_death own (Start place by), no_death own first now live, up, live.deaths, lives);
        lives = λ e. absurd (omega (arith, dead, e));
        lasts = λ l. counts.lasts l ∙ live.deaths;
      }
  counts_on TreeFault lives counts = undone_counts (Back place by back.Tree) refl refl refl counts.later counts.few (counts.deaths.kept refl)
  counts_on NoMemory lives counts = undone_counts (Back place by back.Memory) refl refl refl counts.later counts.few (counts.deaths.kept refl)

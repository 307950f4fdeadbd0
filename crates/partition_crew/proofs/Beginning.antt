-- The beginning of a build, and how far it may go.
use Rattle.std.proofs.Common.{◌≡◌, ℕ, zero, suc, ◌+◌, ◌*◌, ◌<◌, ◌≤◌, Bool, true, false, cond, List, [], ◌∷◌, ◌++◌, length, replicate, Option, Some, None, is_some, slice_get, Contains, refl, sym, ◌∙◌, ap, subst, arith}
use Rattle.std.specs.Option.{option_and_then}
use Rattle.std.proofs.lemmas.Bool.{and_parts}
use Rattle.std.proofs.lemmas.List.{length-append}
use Rattle.std.proofs.lemmas.List.Sums.{count_by-le-length}
use Rattle.compile_model.specs.declared.outcome.Outcome.{Outcome}
use Rattle.compile_model.specs.declared.outcome.Fate.{Fate}
use Rattle.compile_model.specs.Content.{Content}
use Rattle.compile_model.specs.Planned.{ArePlanned}
use Rattle.tree_store.specs.FolderKnown.{FolderKnown, StopsIn}
use Rattle.tree_store.proofs.MomentLemmas.{if_told, stops_still, told_has}
use Rattle.partition_core.specs.declared.event.Event.{Event}
use Rattle.partition_core.specs.declared.event.Standing.TheVariants.{Idle}
use Rattle.partition_core.specs.State.{Opening, at, standing}
use Rattle.partition_core.specs.Counts.{count_below, is_compiled, is_start}
use Rattle.partition_core.proofs.HistoryLength.{bounded}
use Rattle.partition_core.proofs.Places.{get_replicate}
use Rattle.honest_tree.specs.Given.{Given}
use Rattle.honest_tree.specs.Honest.{IsHonest}
use Rattle.honest_tree.proofs.HonestLemmas.{more_holding}
use Rattle.partition_face.specs.declared.counts.Counts.{Counts}
use Rattle.partition_face.specs.Counts.{CanRun}
use Rattle.partition_board.specs.Holds.{AreReady}
use Rattle.partition_crew.specs.Build.{StayFor, inputs_of}
use Rattle.partition_crew.specs.Station.{IsLeftNow, IsStation, IsYoung, Moves, Nature, Station, is_covered, station_by}
use Rattle.partition_crew.specs.Station.Moves.{keeps, skips, works}
use Rattle.partition_crew.proofs.Moving.{station_moves}

-- ---- nothing has happened

pub at_none : (n place : ℕ) → at {X = Fate} (replicate n None) place ≡ None
at_none n place = by (slice_get (replicate n None) place) refl
  where
    by : (found : Option (Option Fate)) → slice_get (replicate n None) place ≡ found → option_and_then (λ (x : Option Fate). x) found ≡ None
    by None is = refl
    by (Some fate) is = sym (get_replicate n place None fate is)

pub count_none : (test : ℕ → Bool) (n : ℕ) → ((p : ℕ) → test p ≡ true → ⊥) → count_below test n ≡ 0
count_none test zero never = refl
count_none test (suc n) never = by (test n) refl (count_none test n never)
  where
    by : (b : Bool) → test n ≡ b → count_below test n ≡ 0 → count_below test (suc n) ≡ 0
    by true is rest = absurd (never n is)
    by false is rest = ap (λ (b : Bool). cond b 1 0 + count_below test n) is ∙ (omega (arith, rest))

among_first : (known more : List Given) (given : Given) → Contains known given → Contains (known ++ more) given
among_first [] more given c = absurd (omega (arith, c.1))
among_first (one ∷ known) more given (zero, below, is) = (0, omega arith, is)
among_first (one ∷ known) more given (suc place, below, is) =
    let later = among_first known more given (place, omega (arith, below), is) in (suc later.0, omega (arith, later.1), later.2)

-- a folder that is left alone stays honest
pub stay_same : (compile : Content → Outcome) (more : List Given) (folders : List FolderKnown) → StayFor compile more folders folders
stay_same compile more folders = record {
  each = λ place before after was has known honest.
      let same : before ≡ after = let e : Some before ≡ Some after = sym was ∙ has in cc in
      subst (λ (f : FolderKnown). StopsIn (IsHonest compile (known ++ more)) before f) same
      (stops_still (IsHonest compile (known ++ more)) before before refl
      (if_told before.held (λ held is. more_holding compile known (known ++ more) held (among_first known more)
      (told_has (IsHonest compile known) before.held held is honest))));
}

pub first_station : (nature : Nature) (o : Opening) (folders : List FolderKnown) (counts : Counts) → o.partitions ≡ 1
    → IsStation nature o (station_by [] folders counts) (station_by [] folders counts)
first_station nature o folders counts alone = record {
  legal = tt;
  faithful = λ honest. tt;
  idle = ap (λ (n : ℕ). standing (replicate n Idle) 1) alone;
  unended = refl;
  runs = omega arith;
  deaths = refl;
  homes = record {
    long = refl;
    each = λ place old new was has.
        let same : new ≡ old = let e : Some new ≡ Some old = sym has ∙ was in cc in
        record {
          key = ap (λ (f : FolderKnown). f.key) same;
          faults = ap (λ (f : FolderKnown). f.faults) same;
          left = subst (λ (fate : Option Fate). IsLeftNow o (replicate (length o.plan.jobs) None) place fate old new)
              (sym (at_none (length o.plan.jobs) place)) same;
        };
  };
  stay = λ honest sound. stay_same nature.compile (inputs_of nature.compile o.plan.jobs) folders;
  starts = λ honest sound.
      let none = count_none (is_covered nature.compile o (replicate (length o.plan.jobs) None)) (length o.plan.jobs) (λ p e.
      let some : is_some (at {X = Fate} (replicate (length o.plan.jobs) None) p) ≡ true =
      (and_parts (is_compiled nature.compile o p) (is_some (at (replicate (length o.plan.jobs) None) p)) e).1 in
      let clash : false ≡ true = ap is_some (sym (at_none (length o.plan.jobs) p)) ∙ some in cc) in
      omega (arith, none);
}

-- ---- at a step

pub can_run : (nature : Nature) (o : Opening) (first now : Station) → ArePlanned o.plan.jobs → o.partitions ≡ 1 → IsYoung first.counts
    → IsStation nature o first now → CanRun now.counts
can_run nature o first now planned alone young station = record {
  lives = station.deaths ∙ young.lives;
  few = omega (arith, station.runs, young.few, bounded o now.events station.legal, alone, planned.few, count_by-le-length is_start now.events);
}

pub same_places : (nature : Nature) (o : Opening) (first now : Station) → AreReady o first.folders → IsStation nature o first now
    → length now.folders ≡ length o.plan.jobs
same_places nature o first now ready station = station.homes.long ∙ ready.places

-- a step that did something made an event, and a history has its bound
longer : (nature : Nature) (o : Opening) (old new : Station) → Moves nature o old new → length old.events < length new.events
longer nature o old new (keeps place legal is) =
    let more = ap (λ (n : Station). length n.events) is in omega (arith, more, length-append {A = Event})
longer nature o old new (skips place need legal is) =
    let more = ap (λ (n : Station). length n.events) is in omega (arith, more, length-append {A = Event})
longer nature o old new (works worked w told) =
    let more = ap length w.events in omega (arith, more, length-append {A = Event})

pub moves_on : (nature : Nature) (o : Opening) (first old new : Station) → ArePlanned o.plan.jobs → AreReady o first.folders → o.partitions ≡ 1
    → IsStation nature o first old → Moves nature o old new
    → (IsStation nature o first new × (length old.events < length new.events) × (length new.events ≤ 2 * (length o.plan.jobs + 1)))
moves_on nature o first old new planned ready alone station moves =
    let next : IsStation nature o first new = station_moves nature o planned first old ready station new moves in
    (next, longer nature o old new moves, omega (arith, bounded o new.events next.legal, alone))

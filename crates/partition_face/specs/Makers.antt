-- What a maker of partitions is known by, and what its calls do to that.
use Rattle.std.specs.Prelude.{◌≡◌, ℕ, ◌<◌, ◌≤◌, Bool, true, false, List, length, map, Result, Ok, Err, Vec, nat_lt}
use Rattle.std.specs.List.{All}
use Rattle.std.specs.declared.alloc.Global.{Global}
use Rattle.mx_base.specs.Causes.{Counted}
use Rattle.partition_face.specs.declared.counts.Counts.{Counts}
use Rattle.partition_face.specs.declared.maker.MakerFault.{MakerFault}
use Rattle.partition_face.specs.declared.maker.MakerFault.TheVariants.{Failed, OutOfMemory}
use Rattle.partition_face.specs.Counts.{deaths_of, fresh, raised_by, runs_of}

pub record MakerKnown : Type 0 where
  -- what the partitions that it stopped ran, and how often they died
  pub runs : ℕ
  pub deaths : ℕ
  -- how many partitions it was asked for
  pub asked : ℕ
  -- how often it failed
  pub faults : ℕ

-- by what was stopped, asked for and counted as a fault
abbrev pub maker_of : Counts → ℕ → ℕ → MakerKnown
maker_of stopped asked faults = record { runs = stopped.runs; deaths = stopped.deaths; asked = asked; faults = faults }

-- nothing counted
abbrev pub new_maker : MakerKnown
new_maker = record { runs = 0; deaths = 0; asked = 0; faults = 0 }

-- what the partitions of an answer have counted
abbrev pub counts_in : {P : Type 0} → (P → Counts) → Result (Vec P Global) MakerFault → Result (List Counts) MakerFault
counts_in counted (Ok started) = Ok (map counted started.items)
counts_in counted (Err fault) = Err fault

-- it gave fewer than it was asked for, or none
abbrev pub falls_short : ℕ → Result (List Counts) MakerFault → Bool
falls_short n (Ok started) = nat_lt (length started) n
falls_short n (Err Failed) = true
falls_short n (Err OutOfMemory) = false

-- so many partitions are started, or fewer, but then at least one
pub record AreStarted (n : ℕ) (started : List Counts) : Type 0 where
  pub each : All (λ counts. counts ≡ fresh) started
  pub enough : length started ≤ n
  pub some : length started < n → 1 ≤ length started

abbrev pub IsStart : ℕ → Result (List Counts) MakerFault → Type 0
IsStart n (Ok started) = AreStarted n started
IsStart n (Err fault) = Unit {0}

-- it was asked for so many, and a fault is counted exactly where they aren't all there
pub record Starts (n : ℕ) (old new : MakerKnown) (result : Result (List Counts) MakerFault) : Type 0 where
  pub start : IsStart n result
  pub rest : new ≡ record old { asked = raised_by n old.asked; faults = new.faults }
  pub cause : Counted old.faults new.faults (falls_short n result)

-- what these partitions counted is added, and nothing else changes
abbrev pub Stops : List Counts → MakerKnown → MakerKnown → Type 0
Stops stopped old new = new ≡ record old {
  runs = raised_by (runs_of stopped) old.runs;
  deaths = raised_by (deaths_of stopped) old.deaths;
}

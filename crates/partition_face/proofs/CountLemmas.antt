-- Counts that stand still at their last value.
use Rattle.std.proofs.Common.{◌≡◌, ℕ, ◌+◌, ◌-◌, ◌^◌, ◌≤◌, List, ◌∷◌, arith}
use Rattle.partition_face.specs.declared.counts.Counts.{Counts}
use Rattle.partition_face.specs.Counts.{both, deaths_of, raised_by, runs_of}

pub raised_twice : (a b count : ℕ) → raised_by b (raised_by a count) ≡ raised_by (a + b) count
raised_twice a b count = omega arith

pub raised_none : (count : ℕ) → count ≤ 2 ^ 64 - 1 → raised_by 0 count ≡ count
raised_none count few = omega (arith, few)

-- the first of these counts, and then the others
pub runs_more : (counts more : Counts) (rest : List Counts) → raised_by (runs_of rest) (both counts more).runs ≡ raised_by (runs_of (more ∷ rest)) counts.runs
runs_more counts more rest = raised_twice more.runs (runs_of rest) counts.runs

pub deaths_more : (counts more : Counts) (rest : List Counts) →
    raised_by (deaths_of rest) (both counts more).deaths ≡ raised_by (deaths_of (more ∷ rest)) counts.deaths
deaths_more counts more rest = raised_twice more.deaths (deaths_of rest) counts.deaths

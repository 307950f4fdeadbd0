-- The dependencies of a generated project, numbered from 1.
use Rattle.std.specs.Prelude.{ℕ, zero, suc, ◌+◌, ◌-◌, ◌%◌, ◌<◌, ◌≤◌, ◌≢◌, ◌==◌, min, not, List, [], ◌∷◌, map, filter, length, sum}
use Rattle.std.specs.List.{All, AllPairs, range_with_len}
use Rattle.unit_gen.specs.Stream.{draw_at, draws, number_at}

-- a dependency: its number, those of its direct needs, and the value that it has of its own
pub record Drawn : Type 0 where
  pub number : ℕ
  pub needs : List ℕ
  pub value : ℕ

-- numbers without repeats, each where it stands first
abbrev pub firsts : List ℕ → List ℕ
firsts [] = []
firsts (n ∷ ns) = n ∷ filter (λ other. not (other == n)) (firsts ns)

-- how many needs are drawn for the dependency of a number: the first draw tells, and there are that many before it
abbrev pub asked : ℕ → ℕ → ℕ
asked x number = min (number - 1) (draw_at x 0 % 4)

-- which dependency before that of a number a draw names
abbrev pub need_of : ℕ → ℕ → ℕ
need_of number draw = 1 + draw % (number - 1)

-- the dependency of a number whose draws begin at x: how many needs, then the needs, then the value
abbrev pub drawn : ℕ → ℕ → Drawn
drawn x number = record {
  number = number;
  needs = firsts (map (need_of number) (draws x 1 (asked x number)));
  value = draw_at x (1 + asked x number) % 1000;
}

-- the number of the stream at which the draws of a dependency begin that has so many before it: those of each follow
-- those of the one before
abbrev pub begins : ℕ → ℕ → ℕ
begins start zero = start
begins start (suc before) = number_at (begins start before) (asked (begins start before) (before + 1) + 2)

-- the dependency with so many before it
abbrev pub drawn_after : ℕ → ℕ → Drawn
drawn_after start before = drawn (begins start before) (before + 1)

-- so many dependencies, drawn from the stream that begins at the start
abbrev pub dependencies : ℕ → ℕ → List Drawn
dependencies start count = map (drawn_after start) (range_with_len 0 count)

-- how many direct needs these have together
abbrev pub needs_in : List Drawn → ℕ
needs_in all = sum (map (λ one. length one.needs) all)

-- each need is a dependency before this one, and none is named twice
pub record AreNeedsOf (number : ℕ) (needs : List ℕ) : Type 0 where
  pub some : All (λ need. 1 ≤ need) needs
  pub before : All (λ need. need < number) needs
  pub apart : AllPairs (λ need other. need ≢ other) needs

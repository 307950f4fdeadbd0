-- The stream of numbers that a project is drawn from.
use Rattle.std.specs.Prelude.{ℕ, zero, suc, ◌+◌, ◌*◌, ◌/◌, ◌%◌, ◌^◌, List, map}
use Rattle.std.specs.List.{range_with_len}

-- the number after x
abbrev pub step : ℕ → ℕ
step x = (x * 1103515245 + 12345) % 2 ^ 31

-- the number so many steps after x
abbrev pub number_at : ℕ → ℕ → ℕ
number_at x zero = x
number_at x (suc steps) = step (number_at x steps)

-- the draw at a place of the stream that begins at x, places counted from 0: one step on, without the lowest 16 bits
abbrev pub draw_at : ℕ → ℕ → ℕ
draw_at x place = step (number_at x place) / 65536

-- so many draws from a place on
abbrev pub draws : ℕ → ℕ → ℕ → List ℕ
draws x place count = map (draw_at x) (range_with_len place count)

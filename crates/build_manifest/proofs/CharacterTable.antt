-- The table of first bytes in UTF-8: how many bytes follow, and the range of the next (Unicode, table 3-7).
use Rattle.std.proofs.Common.{◌≡◌, ℕ, ◌<◌, ◌≤◌, Option, Some, None, ap, ◌∙◌, arith}
use Rattle.std.specs.Prelude.{nat_lt, if◌then◌else◌}
use Rattle.std.proofs.lemmas.Bool.{le-ltb, lt-ltb}

abbrev pub Row : Type 0
Row = ℕ × ℕ × ℕ

-- from the first of four bytes on
abbrev from_four : ℕ → Option Row
from_four b =
    if nat_lt b 0xF1 then Some (3, 0x90, 0xBF)
    else if nat_lt b 0xF4 then Some (3, 0x80, 0xBF)
    else if nat_lt b 0xF5 then Some (3, 0x80, 0x8F)
    else None

-- from the first of three bytes on
abbrev from_three : ℕ → Option Row
from_three b =
    if nat_lt b 0xE1 then Some (2, 0xA0, 0xBF)
    else if nat_lt b 0xED then Some (2, 0x80, 0xBF)
    else if nat_lt b 0xEE then Some (2, 0x80, 0x9F)
    else if nat_lt b 0xF0 then Some (2, 0x80, 0xBF)
    else from_four b

abbrev pub table : ℕ → Option Row
table b =
    if nat_lt b 0x80 then Some (0, 0x80, 0xBF)
    else if nat_lt b 0xC2 then None
    else if nat_lt b 0xE0 then Some (1, 0x80, 0xBF)
    else from_three b

three_on : (b : ℕ) → 0xE0 ≤ b → table b ≡ from_three b
three_on b l = rw (le-ltb b 0x80 (omega arith), le-ltb b 0xC2 (omega arith), le-ltb b 0xE0 l)

four_on : (b : ℕ) → 0xF0 ≤ b → table b ≡ from_four b
four_on b l =
    let past : from_three b ≡ from_four b = rw (le-ltb b 0xE1 (omega arith), le-ltb b 0xED (omega arith), le-ltb b 0xEE (omega arith), le-ltb b 0xF0 l) in
    three_on b (omega arith) ∙ past

pub row_ascii : (b : ℕ) → b < 0x80 → table b ≡ Some (0, 0x80, 0xBF)
row_ascii b h = rw (lt-ltb b 0x80 h)

pub row_inner : (b : ℕ) → 0x80 ≤ b → b < 0xC2 → table b ≡ None
row_inner b l h = rw (le-ltb b 0x80 l, lt-ltb b 0xC2 h)

pub row_two : (b : ℕ) → 0xC2 ≤ b → b < 0xE0 → table b ≡ Some (1, 0x80, 0xBF)
row_two b l h = rw (le-ltb b 0x80 (omega arith), le-ltb b 0xC2 l, lt-ltb b 0xE0 h)

pub row_three_low : (b : ℕ) → b ≡ 0xE0 → table b ≡ Some (2, 0xA0, 0xBF)
row_three_low b e = ap table e

pub row_three : (b : ℕ) → 0xE1 ≤ b → b < 0xED → table b ≡ Some (2, 0x80, 0xBF)
row_three b l h =
    let row : from_three b ≡ Some (2, 0x80, 0xBF) = rw (le-ltb b 0xE1 l, lt-ltb b 0xED h) in
    three_on b (omega arith) ∙ row

pub row_three_high : (b : ℕ) → b ≡ 0xED → table b ≡ Some (2, 0x80, 0x9F)
row_three_high b e = ap table e

pub row_three_last : (b : ℕ) → 0xEE ≤ b → b < 0xF0 → table b ≡ Some (2, 0x80, 0xBF)
row_three_last b l h =
    let row : from_three b ≡ Some (2, 0x80, 0xBF) = rw (le-ltb b 0xE1 (omega arith), le-ltb b 0xED (omega arith), le-ltb b 0xEE l, lt-ltb b 0xF0 h) in
    three_on b (omega arith) ∙ row

pub row_four_low : (b : ℕ) → b ≡ 0xF0 → table b ≡ Some (3, 0x90, 0xBF)
row_four_low b e = ap table e

pub row_four : (b : ℕ) → 0xF1 ≤ b → b < 0xF4 → table b ≡ Some (3, 0x80, 0xBF)
row_four b l h =
    let row : from_four b ≡ Some (3, 0x80, 0xBF) = rw (le-ltb b 0xF1 l, lt-ltb b 0xF4 h) in
    four_on b (omega arith) ∙ row

pub row_four_high : (b : ℕ) → b ≡ 0xF4 → table b ≡ Some (3, 0x80, 0x8F)
row_four_high b e = ap table e

pub row_above : (b : ℕ) → 0xF5 ≤ b → table b ≡ None
row_above b l =
    let row : from_four b ≡ None = rw (le-ltb b 0xF1 (omega arith), le-ltb b 0xF4 (omega arith), le-ltb b 0xF5 l) in
    four_on b (omega arith) ∙ row

-- The names of builds: of an environment for a target.
use Rattle.std.specs.Prelude.{ℕ, ◌≤◌, Bool, false, not, ◌&&◌, ◌==◌, nat_le, nat_lt, List, ◌∷◌, ◌++◌, length, Result, Ok, Err, if◌then◌else◌, codes, bytes_eq, decimal}
use Rattle.mx_base.specs.declared.name.NameError.{NameError}
use Rattle.mx_base.specs.declared.name.NameError.TheVariants.{TooLong}

-- the target of what is compiled for the machine at hand
abbrev pub host : List ℕ
host = codes "host"

-- the text begins with `t` and a digit, as the build names of other targets do
abbrev pub begins_tagged : List ℕ → Bool
begins_tagged (letter ∷ digit ∷ rest) = letter == 116 && (nat_le 48 digit && nat_le digit 57)
begins_tagged short = false

-- `t`, the length of the target in decimal, the target and the environment, with `_` between them
abbrev pub tagged : List ℕ → List ℕ → List ℕ
tagged env target = 116 ∷ decimal (length target) ++ 95 ∷ target ++ 95 ∷ env

-- for the machine at hand, in an environment that can't be taken for a tagged name
abbrev pub is_plain : List ℕ → List ℕ → Bool
is_plain env target = bytes_eq target host && not (begins_tagged env)

abbrev pub build_name : List ℕ → List ℕ → List ℕ
build_name env target = if is_plain env target then env else tagged env target

-- the build name is short enough for a name
abbrev pub HasBuildName : List ℕ → List ℕ → Type 0
HasBuildName env target = length (build_name env target) ≤ 255

abbrev pub unless_too_long : List ℕ → Result (List ℕ) NameError
unless_too_long text = if nat_lt 255 (length text) then Err TooLong else Ok text

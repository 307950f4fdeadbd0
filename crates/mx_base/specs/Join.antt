-- The path that a text names from a base.
use Rattle.std.specs.Prelude.{◌≡◌, ℕ, ◌-◌, true, ◌||◌, nat_lt, List, [], ◌∷◌, ◌++◌, length, take, position, Option, Some, None, Result, Ok, Err, if◌then◌else◌, codes, bytes_eq}
use Rattle.std.specs.List.{slice_split}
use Rattle.std.specs.Str.Lossy.{utf8_valid_len}
use Rattle.mx_base.specs.Blame.{Blame}
use Rattle.mx_base.specs.Blame.Blame.{Input, Memory}
use Rattle.mx_base.specs.Path.{is_slash, is_refused, segments_of, path_of}
use Rattle.mx_base.specs.declared.path_join.PathError.{PathError}
use Rattle.mx_base.specs.declared.path_join.PathError.TheVariants.{BadByte, AboveRoot, Empty, OutOfMemory}

abbrev pub blame_of : PathError → Blame
blame_of OutOfMemory = Memory
blame_of error = Input

abbrev pub or_past : Option ℕ → ℕ → ℕ → Option ℕ
or_past (Some at) valid size = Some at
or_past None valid size = if nat_lt valid size then Some valid else None

-- the first byte that is refused, or isn't UTF-8
abbrev pub first_refused : List ℕ → Option ℕ
first_refused text = or_past (position is_refused (take (utf8_valid_len text) text)) (utf8_valid_len text) (length text)

abbrev pub Segments : Type 0
Segments = List (List ℕ)

-- without the last
abbrev pub popped : Segments → Result Segments PathError
popped [] = Err AboveRoot
popped (s ∷ ss) = Ok (take (length (s ∷ ss) - 1) (s ∷ ss))

-- what a piece between slashes does to the segments
abbrev pub step : Segments → List ℕ → Result Segments PathError
step segments piece =
    if bytes_eq piece [] || bytes_eq piece (codes ".") then Ok segments
    else if bytes_eq piece (codes "..") then popped segments else Ok (segments ++ piece ∷ [])

abbrev pub and_then : Result Segments PathError → (Segments → Result Segments PathError) → Result Segments PathError
and_then (Ok segments) next = next segments
and_then (Err e) next = Err e

-- the segments after these pieces
abbrev pub walk : Segments → List (List ℕ) → Result Segments PathError
walk segments [] = Ok segments
walk segments (piece ∷ pieces) = and_then (step segments piece) (λ s. walk s pieces)

abbrev pub finished : Result Segments PathError → Result (List ℕ) PathError
finished (Ok []) = Err Empty
finished (Ok (s ∷ ss)) = Ok (path_of (s ∷ ss))
finished (Err e) = Err e

-- a text with a slash at its beginning leads above the root
abbrev pub from_base : List ℕ → List ℕ → Result (List ℕ) PathError
from_base base [] = finished (walk (segments_of base) (slice_split is_slash []))
from_base base (byte ∷ bytes) = if is_slash byte then Err AboveRoot else finished (walk (segments_of base) (slice_split is_slash (byte ∷ bytes)))

abbrev pub unless_refused : Option ℕ → Result (List ℕ) PathError → Result (List ℕ) PathError
unless_refused (Some at) other = Err (BadByte at)
unless_refused None other = other

abbrev pub joined : List ℕ → List ℕ → Result (List ℕ) PathError
joined base text = unless_refused (first_refused text) (from_base base text)

-- each byte may stand, and the first is a slash
abbrev pub LeadsAboveRoot : List ℕ → Type 0
LeadsAboveRoot [] = ⊥
LeadsAboveRoot (byte ∷ bytes) = (is_slash byte ≡ true) × (first_refused (byte ∷ bytes) ≡ None)

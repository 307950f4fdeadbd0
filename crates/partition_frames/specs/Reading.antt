-- What reading a frame answers.
use Rattle.std.specs.Prelude.{◌≡◌, ℕ, ◌+◌, ◌<◌, ◌≤◌, List, [], ◌∷◌, ◌++◌, length, Result, Ok, Err, Option, Some, None}
use Rattle.mx_base.specs.Blame.{Blame}
use Rattle.mx_base.specs.Blame.Blame.{Input, Memory}
use Rattle.partition_frames.specs.declared.error.FrameCause.{FrameCause}
use Rattle.partition_frames.specs.declared.error.FrameCause.TheVariants.{BadLength, BadKind, BadBody, OutOfMemory}
use Rattle.partition_frames.specs.declared.error.FrameError.{FrameError}
use Rattle.partition_frames.specs.declared.frame.Frame.{Frame}
use Rattle.partition_frames.specs.Field.{Lacks, together}
use Rattle.partition_frames.specs.Frame.{IsNumber, IsSound, Spells, Stands, fields_of, kind_of, most, number}

abbrev pub blame_of_cause : FrameCause → Blame
blame_of_cause OutOfMemory = Memory
blame_of_cause cause = Input

abbrev pub blame_of : FrameError → Blame
blame_of error = blame_of_cause error.cause

-- ---- what stands at the front

-- the length of a frame, and what stands behind it
pub record HasSize (bytes : List ℕ) (size : ℕ) (rest : List ℕ) : Type 0 where
  pub fits : IsNumber size
  pub cut : bytes ≡ number size ++ rest

pub record IsInRange (size : ℕ) : Type 0 where
  pub some : 0 < size
  pub few : size ≤ most

-- some frame has this kind
abbrev pub IsKind : ℕ → Type 0
IsKind kind = (1 ≤ kind) × (kind ≤ 4)

-- the kind is one where it stands there
abbrev pub MayHaveKind : List ℕ → Type 0
MayHaveKind [] = Unit {0}
MayHaveKind (kind ∷ body) = IsKind kind

-- a frame opens with a length in range, and with a kind as far as it stands there
pub record Opens (bytes : List ℕ) (size : ℕ) : Type 0 where
  pub rest : List ℕ
  pub stated : HasSize bytes size rest
  pub range : IsInRange size
  pub kind : MayHaveKind rest

-- ---- more bytes are needed

pub data NeedsMore (bytes : List ℕ) : Type 0 where
  -- the length doesn't stand there whole
  InLength : length bytes < 4 → NeedsMore bytes
  -- so many bytes don't stand there behind the length
  InFrame : (size : ℕ) → Opens bytes size → length bytes < 4 + size → NeedsMore bytes

-- ---- refusals

-- a frame of this kind, however many bytes it has
abbrev pub IsOfKind : ℕ → Frame → Type 0
IsOfKind kind frame = (kind_of frame ≡ kind) × IsSound frame

-- bytes are refused as a body of this kind at a place of theirs
pub data IsNoBody (kind : ℕ) (body : List ℕ) (at : ℕ) : Type 0 where
  -- the first field that doesn't fit or says what it may not
  AtField : Lacks fields_of (IsOfKind kind) body at → IsNoBody kind body at
  -- the first byte left over
  LeftOver : (frame : Frame) (byte : ℕ) (others : List ℕ) → IsOfKind kind frame → body ≡ together (fields_of frame) ++ byte ∷ others
      → length (together (fields_of frame)) ≡ at → IsNoBody kind body at

-- the length is out of range
pub record IsBadLength (bytes : List ℕ) : Type 0 where
  pub size : ℕ
  pub rest : List ℕ
  pub stated : HasSize bytes size rest
  pub outside : IsInRange size → ⊥

-- the kind stands there and is none
pub record IsBadKind (bytes : List ℕ) : Type 0 where
  pub size : ℕ
  pub kind : ℕ
  pub rest : List ℕ
  pub stated : HasSize bytes size (kind ∷ rest)
  pub range : IsInRange size
  pub unknown : IsKind kind → ⊥

-- the frame stands there whole, and at a place of it its body is refused
pub record IsBadBody (bytes : List ℕ) (at : ℕ) : Type 0 where
  pub kind : ℕ
  pub body : List ℕ
  pub behind : List ℕ
  pub stated : HasSize bytes (length (kind ∷ body)) (kind ∷ (body ++ behind))
  pub range : IsInRange (length (kind ∷ body))
  pub known : IsKind kind
  pub inside : ℕ
  pub refused : IsNoBody kind body inside
  pub place : at ≡ 5 + inside

abbrev pub IsRefused : List ℕ → FrameCause → ℕ → Type 0
IsRefused bytes BadLength at = (at ≡ 0) × IsBadLength bytes
IsRefused bytes BadKind at = (at ≡ 4) × IsBadKind bytes
IsRefused bytes BadBody at = IsBadBody bytes at
IsRefused bytes OutOfMemory at = ⊥

-- ---- the answer

-- the frame at the front, and how many bytes it has
pub record IsFront (bytes : List ℕ) (frame : Frame) (used : ℕ) : Type 0 where
  pub rest : List ℕ
  pub stands : Stands bytes frame rest
  pub used_is : used + length rest ≡ length bytes

abbrev pub IsReading : List ℕ → Result (Option (Frame × ℕ)) FrameError → Type 0
IsReading bytes (Ok None) = NeedsMore bytes
IsReading bytes (Ok (Some read)) = IsFront bytes read.0 read.1
IsReading bytes (Err error) = IsRefused bytes error.cause error.at

-- a frame stands there whole, and nothing behind it
pub record IsWhole (bytes : List ℕ) : Type 0 where
  pub size : ℕ
  pub opens : Opens bytes size
  pub all : length bytes ≡ 4 + size

-- its kind and body
pub record HasBody (bytes : List ℕ) (kind : ℕ) (body : List ℕ) : Type 0 where
  pub known : IsKind kind
  pub stated : HasSize bytes (length (kind ∷ body)) (kind ∷ body)
  pub range : IsInRange (length (kind ∷ body))

-- .. and what reading it answers
abbrev pub IsWholeReading : List ℕ → Result Frame FrameError → Type 0
IsWholeReading bytes (Ok frame) = Spells bytes frame
IsWholeReading bytes (Err error) = IsRefused bytes error.cause error.at

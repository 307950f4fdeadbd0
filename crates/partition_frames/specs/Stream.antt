-- A stream of frames, read in pieces.
use Rattle.std.specs.Prelude.{◌≡◌, ℕ, ◌<◌, List, ◌++◌, length, flat_map, Result, Ok, Err, Option, Some, None}
use Rattle.std.specs.List.{AllByRecursion}
use Rattle.partition_frames.specs.declared.error.FrameError.{FrameError}
use Rattle.partition_frames.specs.declared.frame.Frame.{Frame}
use Rattle.partition_frames.specs.Frame.{IsFrame, Stands, frame_text}
use Rattle.partition_frames.specs.Reading.{IsRefused, NeedsMore}

-- how many bytes a reader holds: those of the longest frame
abbrev pub most_held : ℕ
most_held = 16777220

-- what is answered where these bytes are held, and these are left then
abbrev pub IsNext : List ℕ → List ℕ → Result (Option Frame) FrameError → Type 0
IsNext held left (Ok None) = NeedsMore held
IsNext held left (Ok (Some frame)) = Stands held frame left
IsNext held left (Err error) = IsRefused held error.cause error.at

-- unless a frame is given out, all is left
abbrev pub LeavesAll : List ℕ → List ℕ → Result (Option Frame) FrameError → Type 0
LeavesAll held left (Ok None) = left ≡ held
LeavesAll held left (Ok (Some frame)) = Unit {0}
LeavesAll held left (Err error) = left ≡ held

-- where more bytes are needed there is room for some
abbrev pub HasRoom : List ℕ → Result (Option Frame) FrameError → Type 0
HasRoom left (Ok None) = length left < most_held
HasRoom left (Ok (Some frame)) = Unit {0}
HasRoom left (Err error) = Unit {0}

-- these frames were given out of a stream, and these bytes are left of it
pub record Gives (stream : List ℕ) (frames : List Frame) (left : List ℕ) : Type 0 where
  pub are : AllByRecursion IsFrame frames
  pub cut : stream ≡ flat_map frame_text frames ++ left

-- .. and no further frame stands there
pub record GivesAll (stream : List ℕ) (frames : List Frame) (left : List ℕ) : Type 0 where
  pub gives : Gives stream frames left
  pub none : (frame : Frame) (rest : List ℕ) → Stands left frame rest → ⊥

-- A link with the reader of the frames that come over it, and what hearing a frame does to that.
use Rattle.std.specs.Prelude.{◌≡◌, ℕ, ◌<◌, Bool, true, false, ◌||◌, List, [], ◌++◌, length, Option, option_map, Result, Ok, Err}
use Rattle.mx_base.specs.Blame.{Blame, fails}
use Rattle.mx_base.specs.Blame.Blame.{Input, Outside, Memory}
use Rattle.mx_base.specs.Causes.{Counted}
use Rattle.partition_face.specs.Links.{LinkKnown, Talk}
use Rattle.partition_frames.specs.declared.error.FrameCause.{FrameCause}
use Rattle.partition_frames.specs.declared.error.FrameCause.TheVariants as cause
use Rattle.partition_frames.specs.declared.error.FrameError.{FrameError}
use Rattle.partition_frames.specs.declared.frame.Frame.{Frame}
use Rattle.partition_frames.specs.Frame.{Stands}
use Rattle.partition_frames.specs.Reading.{IsRefused, NeedsMore}
use Rattle.partition_link.specs.declared.hearing.HearFault.{HearFault}
use Rattle.partition_link.specs.declared.hearing.HearFault.TheVariants.{Failed, Closed, Refused, OutOfMemory}

pub record Channel : Type 0 where
  pub link : LinkKnown
  -- the bytes that came and weren't given out
  pub held : List ℕ

abbrev pub channel_of : LinkKnown → List ℕ → Channel
channel_of link held = record { link = link; held = held }

-- a talk, and what was said after it
abbrev pub goes_on : Talk → Talk → Talk
goes_on more talk = record { sent = talk.sent ++ more.sent; came = talk.came ++ more.came; closed = talk.closed || more.closed }

-- these bytes came, too, and the peer then closed or not
abbrev pub hears : List ℕ → Bool → Talk → Talk
hears came closed talk = record talk { came = talk.came ++ came; closed = talk.closed || closed }

abbrev pub blame_of : HearFault → Blame
blame_of Failed = Outside
blame_of Closed = Input
blame_of (Refused error) = Input
blame_of OutOfMemory = Memory

-- the peer closed
abbrev pub has_closed : {T : Type 0} → Result T HearFault → Bool
has_closed (Ok x) = false
has_closed (Err Closed) = true
has_closed (Err fault) = false

-- a refusal of the bytes, as a reason that no frame was heard
abbrev pub of_cause : FrameError → FrameCause → HearFault
of_cause error cause.OutOfMemory = OutOfMemory
of_cause error cause = Refused error

abbrev pub of_frame : FrameError → HearFault
of_frame error = of_cause error error.cause

-- what is answered of the bytes that are held and those that came, and what is left of them
abbrev pub IsHeard : List ℕ → List ℕ → Result Frame HearFault → Type 0
IsHeard stream left (Ok frame) = Stands stream frame left
IsHeard stream left (Err Failed) = left ≡ stream
IsHeard stream left (Err Closed) = (left ≡ stream) × NeedsMore stream
IsHeard stream left (Err (Refused error)) = (left ≡ stream) × IsRefused stream error.cause error.at
IsHeard stream left (Err OutOfMemory) = left ≡ stream

-- the frame at the front of what is held and of what came is given out, and nothing was sent
pub record Hears (old new : Channel) (result : Result Frame HearFault) : Type 0 where
  pub came : List ℕ
  pub told : new.link.talk ≡ option_map (hears came (has_closed result)) old.link.talk
  pub heard : IsHeard (old.held ++ came) new.held result
  pub cause : Counted old.link.faults new.link.faults (fails blame_of result)

-- ---- on the way

-- these bytes came and are held
pub record Fills (came : List ℕ) (closed : Bool) (old new : Channel) : Type 0 where
  pub told : new.link.talk ≡ option_map (hears came closed) old.link.talk
  pub held : new.held ≡ old.held ++ came

-- nothing was heard since but bytes that begin no whole frame
pub record Waits (old new : Channel) : Type 0 where
  pub came : List ℕ
  pub fills : Fills came false old new
  pub unfailed : new.link.faults ≡ old.link.faults

-- the link failed, or the peer closed
abbrev pub IsEnd : HearFault → Type 0
IsEnd Failed = Unit {0}
IsEnd Closed = Unit {0}
IsEnd (Refused error) = ⊥
IsEnd OutOfMemory = ⊥

abbrev pub HasTaken : {T : Type 0} → List ℕ → Result T HearFault → Type 0
HasTaken came (Ok x) = 0 < length came
HasTaken came (Err fault) = (came ≡ []) × IsEnd fault

-- some bytes came and are held, or none, and then the link failed or the peer closed
pub record Takes {T : Type 0} (old new : Channel) (result : Result T HearFault) : Type 0 where
  pub came : List ℕ
  pub fills : Fills came (has_closed result) old new
  pub taken : HasTaken came result
  pub cause : Counted old.link.faults new.link.faults (fails blame_of result)

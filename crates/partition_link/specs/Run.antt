-- What running a job over a link comes to.
use Rattle.std.specs.Prelude.{◌≡◌, ◌≢◌, ℕ, ◌%◌, ◌^◌, true, false, List, [], ◌++◌, take, Option, option_map, Result, Ok, Err, ◌==◌, if◌then◌else◌}
use Rattle.mx_base.specs.Causes.{Rose}
use Rattle.compile_model.specs.declared.job.Job.{Job}
use Rattle.compile_model.specs.declared.outcome.Verdict.{Verdict}
use Rattle.partition_face.specs.declared.partition.RunFault.{RunFault}
use Rattle.partition_face.specs.declared.partition.RunFault.TheVariants.{Died, Tree, OutOfMemory}
use Rattle.partition_face.specs.Links.{Talk}
use Rattle.partition_frames.specs.declared.error.FrameError.{FrameError}
use Rattle.partition_frames.specs.declared.frame.Frame.{Frame}
use Rattle.partition_frames.specs.declared.frame.Frame.TheVariants as frames
use Rattle.partition_frames.specs.Frame.{HasFolder, IsSmall, Stands, frame_text}
use Rattle.partition_frames.specs.Reading.{IsRefused}
use Rattle.partition_link.specs.declared.hearing.HearFault.{HearFault}
use Rattle.partition_link.specs.declared.hearing.HearFault.TheVariants as faults
use Rattle.partition_link.specs.Channel.{Channel, goes_on}

-- ---- the question

-- the number of a run's job: how many runs were made, in 32 bits
abbrev pub number_of : ℕ → ℕ
number_of runs = runs % 2 ^ 32

-- what a partition is asked to compile in a run, for an environment
abbrev pub asked : ℕ → List ℕ → Job → Frame
asked runs env job = frames.Job (number_of runs) env job.app job.options job.how job.system_env job.dir job.need_apps

abbrev pub number_in : Frame → ℕ
number_in (frames.Job number env app options how system_env dir needs) = number
number_in frame = 0

-- the frame may be written: it isn't too long, and names a folder of the project
pub record MayBeWritten (frame : Frame) : Type 0 where
  pub small : IsSmall frame
  pub folder : HasFolder frame

-- what was heard, as the verdict on the job of this number
abbrev pub verdict_of_frame : ℕ → Frame → Result Verdict RunFault
verdict_of_frame number (frames.Verdict n status text) = if n == number then Ok (record { status = status; text = text }) else Err Died
verdict_of_frame number frame = Err Died

abbrev pub verdict_on : ℕ → Result Frame HearFault → Result Verdict RunFault
verdict_on number (Ok frame) = verdict_of_frame number frame
verdict_on number (Err faults.OutOfMemory) = Err OutOfMemory
verdict_on number (Err fault) = Err Died

-- ---- what was said of it

-- a question, what was said after it, and the channel before and after
pub record Exchange : Type 0 where
  pub asked : Frame
  pub said : Talk
  pub old : Channel
  pub new : Channel

-- the verdict on the job of this number
abbrev pub IsVerdictOn : ℕ → Frame → Type 0
IsVerdictOn number (frames.Verdict n status text) = n ≡ number
IsVerdictOn number frame = ⊥

-- the question was sent whole, and the verdict on it is what came first after it
pub record IsAnswered (x : Exchange) (verdict : Verdict) : Type 0 where
  pub sent : x.said.sent ≡ frame_text x.asked
  pub nothing_before : x.old.held ≡ []
  pub came : Stands x.said.came (frames.Verdict (number_in x.asked) verdict.status verdict.text) x.new.held
  pub unclosed : x.said.closed ≡ false
  pub unfailed : x.new.link.faults ≡ x.old.link.faults

-- the bytes that were held or came are no verdict on the job
pub data IsOther (x : Exchange) : Type 0 where
  -- they came before the job was sent
  Early : x.old.held ≢ [] → IsOther x
  -- they begin no frame
  NoFrame : (error : FrameError) → IsRefused x.said.came error.cause error.at → IsOther x
  -- they begin with another frame
  Another : (frame : Frame) → Stands x.said.came frame x.new.held → (IsVerdictOn (number_in x.asked) frame → ⊥) → IsOther x

-- what a partition dies of
pub data Dies (x : Exchange) : Type 0 where
  LinkFailed : Rose x.old.link.faults x.new.link.faults → Dies x
  PeerClosed : x.said.closed ≡ true → Dies x
  OtherCame : IsOther x → Dies x
  -- the job is none that can be sent, as each of a plan can
  Unsent : (MayBeWritten x.asked → ⊥) → Dies x

-- neither the link failed nor the peer closed
pub record IsUndecided (x : Exchange) : Type 0 where
  pub unclosed : x.said.closed ≡ false
  pub unfailed : x.new.link.faults ≡ x.old.link.faults

abbrev pub Ends : Exchange → Result Verdict RunFault → Type 0
Ends x (Ok verdict) = IsAnswered x verdict
Ends x (Err Died) = Dies x
Ends x (Err Tree) = ⊥
Ends x (Err OutOfMemory) = IsUndecided x

-- a job is asked for, and nothing else is sent
pub record Asks (asked : Frame) (old new : Channel) (result : Result Verdict RunFault) : Type 0 where
  pub said : Talk
  pub told : new.link.talk ≡ option_map (goes_on said) old.link.talk
  pub part : (n : ℕ) × (said.sent ≡ take n (frame_text asked))
  pub ends : Ends (record { asked = asked; said = said; old = old; new = new }) result

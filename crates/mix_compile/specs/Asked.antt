-- What a compile is asked for, and what it came to.
use Rattle.std.specs.Prelude.{ℕ, Bool, List}
use Rattle.build_plan.specs.Plan.{Build}
use Rattle.mix_answer.specs.Reply.{Reply}
use Rattle.partition_core.specs.declared.event.Event.{Event}

-- the build, how many partitions are to be started, and whether the trace is told
pub record Asked : Type 0 where
  pub build : Build
  pub partitions : ℕ
  pub trace : Bool

-- a status and a text, and what happened
pub record Came : Type 0 where
  pub reply : Reply
  pub history : List Event

abbrev pub came_to : Reply → List Event → Came
came_to reply history = record { reply = reply; history = history }

-- one partition is asked for
abbrev pub asked_of : Build → Bool → Asked
asked_of build trace = record { build = build; partitions = 1; trace = trace }

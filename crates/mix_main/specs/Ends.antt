-- How a call of the program ends.
use Rattle.std.specs.Prelude.{◌≡◌, ℕ, List, take, Ok, Err}
use Rattle.mx_base.specs.BuildName.{HasBuildName, host}
use Rattle.mx_base.specs.Causes.{Rose}
use Rattle.mx_base.specs.Sink.{Sunk, with_bytes}
use Rattle.compile_model.specs.declared.outcome.Outcome.{Outcome}
use Rattle.compile_model.specs.Content.{Content}
use Rattle.build_plan.specs.Plan.{build_of}
use Rattle.mix_main.specs.declared.command.Command.{Command}
use Rattle.mix_main.specs.declared.command.Command.TheVariants as command
use Rattle.mix_main.specs.declared.command.WordsError.TheVariants as why
use Rattle.mix_main.specs.declared.status.Status.{Status}
use Rattle.mix_main.specs.declared.status.Status.TheVariants.{BadWords, OutOfMemory, WriteFault}
use Rattle.mix_main.specs.Compile.{Compiles}
use Rattle.mix_main.specs.Help.{Helps}
use Rattle.mix_main.specs.Reply.{Reply}
use Rattle.mix_main.specs.Texts.{bad_words_line, memory_line}
use Rattle.mix_main.specs.Words.{command_of}
use Rattle.mix_main.specs.World.{Passage, World, passage_of}

-- the words are no command: the line says where, and nothing changed
pub data Misread (at : ℕ) (passage : Passage) (reply : Reply) : Type 0 where
  bad_words : passage.new ≡ passage.old → reply.status ≡ BadWords → reply.text ≡ bad_words_line at → Misread at passage reply
  no_memory : passage.new ≡ passage.old → reply.status ≡ OutOfMemory → reply.text ≡ memory_line → Misread at passage reply

-- what is compiled has a build name
abbrev pub IsNamed : Command → Type 0
IsNamed command.Help = Unit {0}
IsNamed (command.Compile env) = HasBuildName env host

-- what a command comes to where it works: a status, and a text to be written
abbrev pub Does : (Content → Outcome) → Command → Passage → Reply → Type 0
Does compile command.Help passage reply = Helps passage reply
Does compile (command.Compile env) passage reply = Compiles compile (build_of env host) passage reply

-- the same of words: they are refused, or they are a command, or there is no memory to read them
pub data Comes (compile : Content → Outcome) (words : List (List ℕ)) (passage : Passage) (reply : Reply) : Type 0 where
  refused : (at : ℕ) → command_of words ≡ Err (why.Refused at) → Misread at passage reply → Comes compile words passage reply
  asked : (asked : Command) → command_of words ≡ Ok asked → Does compile asked passage reply → Comes compile words passage reply
  unread : passage.new ≡ passage.old → reply.status ≡ OutOfMemory → reply.text ≡ memory_line → Comes compile words passage reply

-- the sink took the text, and the status stands; or it failed, and took a part of the text
pub data Says (reply : Reply) (old new : Sunk) (result : Status) : Type 0 where
  said : new.taken ≡ with_bytes old.taken reply.text → new.faults ≡ old.faults → result ≡ reply.status → Says reply old new result
  cut : (part : ℕ) → new.taken ≡ with_bytes old.taken (take part reply.text) → Rose old.faults new.faults → result ≡ WriteFault
      → Says reply old new result

-- a call comes to a status and a text, of which the sink is told
pub record Ends (Comes : Passage → Reply → Type 0) (old new : World) (result : Status) : Type 0 where
  pub reply : Reply
  pub comes : Comes (passage_of old.site new.site) reply
  pub says : Says reply old.sink new.sink result

-- What becomes of an answer where it is written.
use Rattle.std.specs.Prelude.{◌≡◌, ℕ, take}
use Rattle.mx_base.specs.Causes.{Rose}
use Rattle.mx_base.specs.Sink.{Sunk, with_bytes}
use Rattle.mix_answer.specs.declared.status.Status.{Status}
use Rattle.mix_answer.specs.declared.status.Status.TheVariants.{WriteFault}
use Rattle.mix_answer.specs.Reply.{Reply}

-- the sink took the text, and the status stands; or it failed, and took a part of the text
pub data Says (reply : Reply) (old new : Sunk) (result : Status) : Type 0 where
  said : new.taken ≡ with_bytes old.taken reply.text → new.faults ≡ old.faults → result ≡ reply.status → Says reply old new result
  cut : (part : ℕ) → new.taken ≡ with_bytes old.taken (take part reply.text) → Rose old.faults new.faults → result ≡ WriteFault
      → Says reply old new result

-- what was done comes to a reply, of which the sink is told
pub record Ends (Comes : Reply → Type 0) (old new : Sunk) (result : Status) : Type 0 where
  pub reply : Reply
  pub comes : Comes reply
  pub says : Says reply old new result

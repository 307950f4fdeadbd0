-- What a command comes to, before anything is written.
use Rattle.std.specs.Prelude.{ℕ, List}
use Rattle.mix_answer.specs.declared.status.Status.{Status}

-- the status that is meant, and the text that goes with it
pub record Reply : Type 0 where
  pub status : Status
  pub text : List ℕ

abbrev pub reply_of : Status → List ℕ → Reply
reply_of status text = record { status = status; text = text }

-- What a refusal says.
use Rattle.std.specs.Prelude.{Bool, true, false}
use Rattle.term_tokens.specs.declared.cause.TermCause.{TermCause}
use Rattle.term_tokens.specs.declared.cause.TermCause.TheVariants.{OutOfMemory}

-- want of memory, which says nothing of the text
abbrev pub is_memory : TermCause → Bool
is_memory OutOfMemory = true
is_memory cause = false

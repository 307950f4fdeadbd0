-- When a text is refused, and where.
use Rattle.std.specs.Prelude.{ℕ, List}
use Rattle.reading.specs.Refusal as reading
use Rattle.version_req.specs.declared.error.ReqError.{ReqError}
use Rattle.version_req.specs.declared.error.ReqError.TheVariants.{Refused, OutOfMemory}
use Rattle.version_req.specs.Grammar.{IsSpelled}

-- the text spells no requirement, and its first `at` bytes are the longest of its prefixes that begins one
abbrev pub IsRefusedAt : List ℕ → ℕ → Type 0
IsRefusedAt text at = reading.IsRefusedAt IsSpelled text at

-- an error is such a refusal, or want of memory
abbrev pub HasCause : List ℕ → ReqError → Type 0
HasCause text (Refused at) = IsRefusedAt text at
HasCause text OutOfMemory = Unit {0}

-- How it is said why a text is not read.
use Rattle.std.specs.Prelude.{ℕ, List, codes}
use Rattle.mx_base.specs.Said.{with_name}
use Rattle.term_tokens.specs.declared.cause.TermCause.{TermCause}
use Rattle.term_tokens.specs.declared.cause.TermCause.TheVariants.{Unsupported, BadEscape, BadUtf8, NumberTooBig, TooDeep, DuplicateKey, TrailingText, Unclosed, Unexpected, TooLong, OutOfMemory}
use Rattle.term_tokens.specs.declared.cause.Feature.{Feature}
use Rattle.term_tokens.specs.declared.cause.Feature.TheVariants.{Charlist, Sigil, Heredoc, Interpolation, Float, Alias, Bits}

abbrev pub feature_said : Feature → List ℕ
feature_said Charlist = codes "Charlist"
feature_said Sigil = codes "Sigil"
feature_said Heredoc = codes "Heredoc"
feature_said Interpolation = codes "Interpolation"
feature_said Float = codes "Float"
feature_said Alias = codes "Alias"
feature_said Bits = codes "Bits"

abbrev pub unsupported_said : Feature → List ℕ
unsupported_said feature = with_name (codes "Unsupported") (feature_said feature)

-- a cause is said by its name
abbrev pub cause_said : TermCause → List ℕ
cause_said (Unsupported feature) = unsupported_said feature
cause_said BadEscape = codes "BadEscape"
cause_said BadUtf8 = codes "BadUtf8"
cause_said NumberTooBig = codes "NumberTooBig"
cause_said TooDeep = codes "TooDeep"
cause_said DuplicateKey = codes "DuplicateKey"
cause_said TrailingText = codes "TrailingText"
cause_said Unclosed = codes "Unclosed"
cause_said Unexpected = codes "Unexpected"
cause_said TooLong = codes "TooLong"
cause_said OutOfMemory = codes "OutOfMemory"

-- How it is said why a text is no term, and where.
use Rattle.std.specs.Prelude.{ℕ, List, ◌++◌, codes, decimal}
use Rattle.term_tokens.specs.Said.{cause_said}
use Rattle.elixir_terms.specs.declared.error.TermError.{TermError}

abbrev pub term_said : TermError → List ℕ
term_said error = codes "refused at " ++ decimal error.at ++ codes ": " ++ cause_said error.cause

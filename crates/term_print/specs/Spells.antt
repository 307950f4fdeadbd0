-- What a text spells.
use Rattle.std.specs.Prelude.{ℕ, List}
use Rattle.std.specs.Str.{IsUtf8}
use Rattle.term_values.specs.declared.term.Term.{Term}
use Rattle.term_tokens.specs.declared.token.Token.{Token}
use Rattle.term_tokens.specs.Tokens.{AreTokens}
use Rattle.term_print.specs.Grammar.{IsTerm}

-- the text spells the term: it is UTF-8, and made of tokens that stand for the term
pub record Spells (text : List ℕ) (t : Term) : Type 0 where
  pub utf8 : IsUtf8 text
  pub tokens : List Token
  pub spelled : AreTokens tokens text
  pub grammar : IsTerm tokens t

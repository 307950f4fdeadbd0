-- Texts that may be gone on with.
use Rattle.std.specs.Prelude.{◌≡◌, ℕ, ◌+◌, ◌⊎◌, List, [], ◌∷◌, ◌++◌, length, pos}
use Rattle.term_values.specs.declared.term.Term.{Term}
use Rattle.term_tokens.specs.declared.token.Token.{Token}
use Rattle.term_tokens.specs.declared.token.Token.TheVariants.{Int, Key}
use Rattle.term_print.specs.Grammar.{IsTerm}
use Rattle.term_tokens.specs.Tokens.{AreTokens, Begins, Blanks}

-- the tokens are the first of a term, or all of one: each may stand after those before it. The limits don't count
abbrev pub AreOpen : List Token → Type 0
AreOpen tokens = (rest : List Token) × (t : Term) × IsTerm (tokens ++ rest) t

-- the text begins with these tokens, with blanks before and between them, and goes on with the rest, before which
-- blanks were passed over too
pub data Leads : List Token → List ℕ → List ℕ → Type 0 where
  none : {text rest : List ℕ} → Blanks text rest → Leads [] text rest
  token : {text start after rest : List ℕ} {token : Token} {tokens : List Token} → Blanks text start → Begins start token after → Leads tokens after rest → Leads (token ∷ tokens) text rest

-- an open prefix: a text of the grammar begins with it. The limits don't count
abbrev pub IsOpenText : List ℕ → Type 0
IsOpenText text = (more : List ℕ) × (tokens : List Token) × (t : Term) × AreTokens tokens (text ++ more) × IsTerm tokens t

-- at this place of the text these tokens stand before the rest
pub record StandsAt (text : List ℕ) (at : ℕ) (tokens : List Token) (rest : List ℕ) : Type 0 where
  pub leads : Leads tokens text rest
  pub place : at + length rest ≡ length text

-- the first token of a term may stand after the tokens
abbrev pub TakesTerm : List Token → Type 0
TakesTerm tokens = AreOpen (tokens ++ Int (pos 0) ∷ [])

-- a keyword's key may stand after them
abbrev pub TakesKey : List Token → Type 0
TakesKey tokens = AreOpen (tokens ++ Key [] ∷ [])

abbrev pub TakesEither : List Token → Type 0
TakesEither tokens = TakesTerm tokens ⊎ TakesKey tokens

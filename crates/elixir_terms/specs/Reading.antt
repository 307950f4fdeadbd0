-- What the reader answers of one token.
use Rattle.std.specs.Prelude.{◌≡◌, ℕ, ◌+◌, ◌⊎◌, List, [], ◌∷◌, length, get_or, Some, None, IsTrue, set}
use Rattle.term_tokens.specs.declared.cause.TermCause.{TermCause}
use Rattle.term_tokens.specs.declared.cause.TermCause.TheVariants.{TooDeep, DuplicateKey, TrailingText}
use Rattle.elixir_terms.specs.declared.state.State.{State}
use Rattle.elixir_terms.specs.declared.state.State.TheVariants.{Element, Done}
use Rattle.term_values.specs.declared.term.Term.{Term}
use Rattle.term_tokens.specs.declared.token.Token.{Token}
use Rattle.term_tokens.specs.declared.token.WordKind.TheVariants.{Strings}
use Rattle.term_tokens.specs.declared.token.Token.TheVariants.{Words}
use Rattle.term_tokens.specs.declared.fault.Fault.{Fault}
use Rattle.term_tokens.specs.Lexing.{past_blank, IsNarrow}
use Rattle.term_tokens.specs.Local.{IsFree, IsFirst, Locally, takes}
use Rattle.elixir_terms.specs.Machine.{depth, step, expected, HasLevels, NewEntry, NewKeyword}
use Rattle.term_tokens.specs.Tokens.{Begins, Blanks}

-- a token stands at the front of the text, is one that is expected in the state, and nothing holds of the text there
pub record Stands (s : State) (text : List ℕ) (token : Token) (after : List ℕ) : Type 0 where
  pub begins : Begins text token after
  pub taken : IsTrue (takes (expected s) token)
  pub narrow : IsNarrow token
  pub free : IsFree text token after
  pub whole : (place : ℕ) (why : TermCause) → Locally (expected s) text place why → ⊥

-- and leads to the next state
pub record Moves (s : State) (text : List ℕ) (next : State) (after : List ℕ) : Type 0 where
  pub token : Token
  pub stands : Stands s text token after
  pub levels : HasLevels s token
  pub stepped : step s token ≡ Some next
  pub new : NewKeyword s token

-- words that begin there are within the limit on levels, where a term may stand
abbrev pub HasRoomAt : State → List ℕ → Type 0
HasRoomAt s text = (more : List ℕ) → text ≡ 126 ∷ 119 ∷ 40 ∷ more → IsTrue (expected s).term → HasLevels s (Words Strings [])

-- words begin there where a term may stand, and are beyond the limit on levels
abbrev pub BeginsDeepWords : State → List ℕ → Type 0
BeginsDeepWords s text = (more : List ℕ) × (text ≡ 126 ∷ 119 ∷ 40 ∷ more) × IsTrue (expected s).term × (HasLevels s (Words Strings []) → ⊥)

-- the text's term isn't whole, and no words are too deep there
abbrev pub IsOpenAt : State → List ℕ → Type 0
IsOpenAt s text = ((t : Term) → s ≡ Done t → ⊥) × HasRoomAt s text

-- why the token leads to no state within the limits: too many levels, or else a key that comes again
abbrev pub IsStuck : State → Token → TermCause → Type 0
IsStuck s token why = ((why ≡ TooDeep) × (HasLevels s token → ⊥)) ⊎ ((why ≡ DuplicateKey) × HasLevels s token × (NewKeyword s token → ⊥))

-- no token leads on: where and why
pub data Stops : State → List ℕ → ℕ → TermCause → Type 0 where
  trailing : {s : State} {text : List ℕ} (t : Term) → s ≡ Done t → Stops s text 0 TrailingText
  lexed : {s : State} {text : List ℕ} {k : ℕ} {why : TermCause} → ((t : Term) → s ≡ Done t → ⊥) → HasRoomAt s text → IsFirst (expected s) text k why → Stops s text k why
  deep : {s : State} {text after : List ℕ} (token : Token) → Stands s text token after → (HasLevels s token → ⊥) → Stops s text 0 TooDeep
  deep_words : {s : State} {text : List ℕ} (more : List ℕ) → text ≡ 126 ∷ 119 ∷ 40 ∷ more → IsTrue (expected s).term → (HasLevels s (Words Strings []) → ⊥) → Stops s text 0 TooDeep
  again : {s : State} {text after : List ℕ} (token : Token) → Stands s text token after → HasLevels s token → (NewKeyword s token → ⊥) → Stops s text 0 DuplicateKey

-- the places where the last key began in each open bracket, with this one where a key may begin
abbrev pub noted : State → ℕ → List ℕ → List ℕ
noted (Element frame holes) left begun = set begun (length holes) left
noted s left begun = begun

-- one token on: the next state, and the text from the token after it on
pub record Advances (s : State) (text : List ℕ) (next : State) (end : List ℕ) : Type 0 where
  pub after : List ℕ
  pub moves : Moves s text next after
  pub new : NewEntry next
  pub blanks : Blanks after end
  pub solid : past_blank end ≡ None

-- none leads on, or to a key that comes again, which the fault tells where it began
pub data Halts (s : State) (text places : List ℕ) (fault : Fault) : Type 0 where
  stops : (k : ℕ) → fault.left + k ≡ length text → Stops s text k fault.cause → Halts s text places fault
  repeats : (next : State) (after : List ℕ) → Moves s text next after → (NewEntry next → ⊥) → fault.left ≡ get_or places (depth next) 0 → fault.cause ≡ DuplicateKey → Halts s text places fault

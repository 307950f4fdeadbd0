-- What each state of the reader still wants of the tokens that follow, said by the grammar.
use Rattle.std.proofs.Common.{◌≡◌, ℕ, List, [], ◌∷◌, ◌++◌, Option, Some, None}
use Rattle.elixir_terms.specs.declared.frame.Frame.{Frame}
use Rattle.elixir_terms.specs.declared.frame.Hole.{Hole}
use Rattle.elixir_terms.specs.declared.frame.Slot.{Slot}
use Rattle.elixir_terms.specs.declared.frame.Slot.TheVariants as slot
use Rattle.elixir_terms.specs.declared.state.State.{State}
use Rattle.elixir_terms.specs.declared.state.State.TheVariants as state
use Rattle.term_values.specs.declared.term.Term.{Term}
use Rattle.term_values.specs.declared.term.Term.TheVariants as term
use Rattle.term_tokens.specs.declared.token.Token.{Token}
use Rattle.term_tokens.specs.declared.token.Token.TheVariants.{Close, Arrow}
use Rattle.term_print.specs.Grammar.{IsTerm, Inside, Follows, enclosed, closing_of}
use Rattle.term_values.specs.Views.{Pair}

-- after a keyword no element and no entry follows
abbrev pub InOrder : List Pair → List Term → List Pair → Type 0
InOrder [] items entries = Unit {0}
InOrder (p ∷ keywords) items entries = (items ≡ []) × (entries ≡ [])

-- the tokens are a part of a bracket, its closing, and what is wanted outside of the term that it makes
pub record Continues (Part : List Token → List Term → List Pair → List Pair → Type 0) (frame : Frame) (Outside : Term → List Token → Type 0) (tokens : List Token) : Type 0 where
  pub part : List Token
  pub rest : List Token
  pub items : List Term
  pub entries : List Pair
  pub keywords : List Pair
  pub t : Term
  pub reads : Part part items entries keywords
  pub split : tokens ≡ part ++ Close (closing_of frame.bracket) ∷ rest
  pub order : InOrder frame.keywords items entries
  pub encloses : enclosed frame.bracket (frame.items ++ items) (frame.entries ++ entries) (frame.keywords ++ keywords) ≡ Some t
  pub outside : Outside t rest

-- the tokens are a term, and what is wanted outside of it
pub record Values (Outside : Term → List Token → Type 0) (tokens : List Token) : Type 0 where
  pub word : List Token
  pub rest : List Token
  pub t : Term
  pub reads : IsTerm word t
  pub split : tokens ≡ word ++ rest
  pub outside : Outside t rest

-- with one more element, keyword or entry in the frame, the tokens go on after it
abbrev pub AfterElement : Frame → (Term → List Token → Type 0) → Term → List Token → Type 0
AfterElement frame Outside t tokens = Continues Follows (record frame { items = frame.items ++ t ∷ [] }) Outside tokens

abbrev pub AfterKeyword : List ℕ → Frame → (Term → List Token → Type 0) → Term → List Token → Type 0
AfterKeyword key frame Outside t tokens = Continues Follows (record frame { keywords = frame.keywords ++ (term.Atom key, t) ∷ [] }) Outside tokens

abbrev pub AfterEntry : Term → Frame → (Term → List Token → Type 0) → Term → List Token → Type 0
AfterEntry key frame Outside t tokens = Continues Follows (record frame { entries = frame.entries ++ (key, t) ∷ [] }) Outside tokens

-- the tokens are `=>`, the value of the entry's key, and what is wanted after it
pub record Arrows (key : Term) (frame : Frame) (Outside : Term → List Token → Type 0) (tokens : List Token) : Type 0 where
  pub after : List Token
  pub begins : tokens ≡ Arrow ∷ after
  pub value : Values (AfterEntry key frame Outside) after

abbrev pub FilledIn : Slot → Frame → (Term → List Token → Type 0) → Term → List Token → Type 0
FilledIn slot.Element frame Outside t tokens = AfterElement frame Outside t tokens
FilledIn (slot.Keyword key) frame Outside t tokens = AfterKeyword key frame Outside t tokens
FilledIn slot.EntryKey frame Outside t tokens = Arrows t frame Outside tokens
FilledIn (slot.EntryValue key) frame Outside t tokens = AfterEntry key frame Outside t tokens

-- with a term in the innermost hole, the tokens make the term u of the whole text
abbrev pub Filled : Term → List Hole → Term → List Token → Type 0
Filled u [] t tokens = (tokens ≡ []) × (t ≡ u)
Filled u (hole ∷ holes) t tokens = FilledIn hole.slot hole.frame (Filled u holes) t tokens

-- in the state, the tokens make the term u of the whole text
abbrev pub Wants : Term → State → List Token → Type 0
Wants u (state.Value holes) tokens = Values (Filled u holes) tokens
Wants u (state.Element frame holes) tokens = Continues Inside frame (Filled u holes) tokens
Wants u (state.Separator frame holes) tokens = Continues Follows frame (Filled u holes) tokens
Wants u (state.Arrow key frame holes) tokens = Arrows key frame (Filled u holes) tokens
Wants u (state.Done t) tokens = (tokens ≡ []) × (t ≡ u)

-- where there is a state
abbrev pub WantsNext : Term → Option State → List Token → Type 0
WantsNext u None tokens = ⊥
WantsNext u (Some s) tokens = Wants u s tokens

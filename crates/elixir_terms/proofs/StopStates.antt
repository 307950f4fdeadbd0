-- A state in which the reading stops, and what stands near.
use Rattle.std.specs.Prelude.{IsTrue, IsFalse}
use Rattle.std.proofs.Common.{◌≡◌, ℕ, ◌+◌, ◌<◌, ◌≤◌, ◌⊎◌, inl, inr, Bool, true, false, List, [], ◌∷◌, ◌++◌, Some, None, length, take, refl, sym, ◌∙◌, subst, arith, append_assoc, ⊎_elim}
use Rattle.std.proofs.lemmas.Bool.{true≢false}
use Rattle.term_tokens.specs.declared.bracket.Bracket.TheVariants as bracket
use Rattle.term_tokens.specs.declared.cause.TermCause.{TermCause}
use Rattle.elixir_terms.specs.declared.state.State.{State}
use Rattle.elixir_terms.specs.declared.state.State.TheVariants as state
use Rattle.term_values.specs.declared.term.Term.{Term}
use Rattle.term_tokens.specs.declared.token.Token.{Token}
use Rattle.term_tokens.specs.declared.token.Token.TheVariants.{Key, Open}
use Rattle.term_tokens.specs.Lexing.{past_blank}
use Rattle.term_tokens.specs.Local.{IsOpening, takes, IsPart, rank, Locally}
use Rattle.elixir_terms.specs.Machine.{step, expected}
use Rattle.term_tokens.specs.Names.{is_from, is_name_start}
use Rattle.elixir_terms.specs.Prefixes.{AreOpen, Leads, none as no_token, token as one_token, IsOpenText, StandsAt, TakesKey, TakesEither}
use Rattle.elixir_terms.specs.Refusals.{AreTooDeep, Pairs, KeyAhead, IsOneOf, IsStarted}
use Rattle.term_tokens.specs.Tokens.{Begins, AreTokens}
use Rattle.term_tokens.proofs.BlankLemmas.{blanks_stop}
use Rattle.term_tokens.proofs.FollowLemmas.{same}
use Rattle.elixir_terms.proofs.OpenLemmas.{runs, start, runs_append, open_runs, after_some, term_expected, key_expected}
use Rattle.term_tokens.proofs.OptionLemmas.{some_same}
use Rattle.elixir_terms.proofs.PlaceLemmas.{there, behind}
use Rattle.elixir_terms.proofs.PrefixLemmas.{AllSound, step_open}
use Rattle.elixir_terms.proofs.ShutLemmas.{is_single, is_joint, joint_byte, IsPlaced, second_joint, placed_joins}
use Rattle.term_tokens.proofs.BeginLemmas.{start_not}
use Rattle.elixir_terms.proofs.TrailLemmas.{Trail}

-- what holds near a place between two tokens
pub record Near (text : List ℕ) (place : ℕ) (why : TermCause) : Type 0 where
  pub at : ℕ
  pub tokens : List Token
  pub rest : List ℕ
  pub k : ℕ
  pub stands : StandsAt text at tokens rest
  pub solid : past_blank rest ≡ None
  pub same : place ≡ at + k
  pub wants : TakesEither tokens
  pub local : (s : State) → runs tokens start ≡ Some s → AllSound s → Locally (expected s) rest k why

-- a key of a map that comes again
pub record Repeats (text : List ℕ) (at : ℕ) : Type 0 where
  pub rest : List ℕ
  pub outer : List Token
  pub inside : List Token
  pub keys : List Term
  pub key : Term
  pub stands : StandsAt text at (outer ++ Open bracket.Map ∷ inside) rest
  pub starts : AreOpen (outer ++ Open bracket.Map ∷ inside)
  pub pairs : Pairs inside keys
  pub ahead : KeyAhead (outer ++ Open bracket.Map ∷ inside) rest key
  pub again : IsOneOf key keys

-- no earlier than the place, and there no sooner in the order of causes
abbrev pub Beyond : ℕ → TermCause → ℕ → TermCause → Type 0
Beyond at why place other = (at < place) ⊎ ((at ≡ place) × (rank why ≤ rank other))

-- what a token tells that begins where the reading stops
pub data Verdict (s : State) (rest : List ℕ) (k : ℕ) (why : TermCause) (tok : Token) (after : List ℕ) : Type 0 where
  early : k ≡ 0 → Verdict s rest k why tok after
  joined : (byte : ℕ) (more : List ℕ) → is_single tok ≡ true → after ≡ byte ∷ more → past_blank after ≡ None → joint_byte byte ≡ false → ((t : Term) → step s tok ≡ Some (state.Done t) → (k + length after < length rest) ⊎ ((k + length after ≡ length rest) × (rank why ≤ 12))) → Verdict s rest k why tok after

-- the reading stops in the state, so many bytes behind the beginning of the rest
pub record Stop (text : List ℕ) (tokens : List Token) (s : State) (rest : List ℕ) (at k : ℕ) (why : TermCause) : Type 0 where
  pub trail : Trail tokens start s text rest
  pub place : at + length rest ≡ length text
  pub within_rest : k ≤ length rest
  pub part : IsPart (expected s) (take k rest)
  pub first : (j : ℕ) (other : TermCause) → Locally (expected s) rest j other → Beyond k why j other
  pub tells : (tok : Token) (after : List ℕ) → Begins rest tok after → takes (expected s) tok ≡ true → Verdict s rest k why tok after
  pub deep_here : (tok : Token) → IsStarted rest tok → AreTooDeep (tokens ++ tok ∷ []) → (k ≡ 0) × (rank why ≤ 10)
  pub done_here : (t : Term) → s ≡ state.Done t → (rest ≡ []) ⊎ ((k ≡ 0) × (rank why ≤ 12))
  pub end_rank : k ≡ length rest → rank why ≤ 13
  pub most_rank : rank why ≤ 14

-- what stands near

pub either_expected : (tokens : List Token) (s : State) → runs tokens start ≡ Some s → TakesEither tokens → IsTrue (expected s).term ⊎ IsTrue (expected s).key
either_expected tokens s ran h = ⊎_elim (λ t. inl (term_expected tokens s ran t)) (λ k. inr (key_expected tokens s ran k)) h

pub opening_solid : (opening more : List ℕ) → IsOpening opening → past_blank (opening ++ more) ≡ None
opening_solid opening more o = ⊎_elim (λ e. rw e refl) (λ e. rw e refl) o

pub start_solid : (byte : ℕ) (more : List ℕ) → is_name_start byte ≡ true → past_blank (byte ∷ more) ≡ None
start_solid byte more s = rw (start_not byte 35 s refl, start_not byte 32 s refl, start_not byte 9 s refl, start_not byte 13 s refl, start_not byte 10 s refl) refl

pub capital_start : (byte : ℕ) → is_from 65 90 byte ≡ true → is_name_start byte ≡ true
capital_start byte c = rw c refl

pub key_refused : (tokens : List Token) (s : State) → runs tokens start ≡ Some s → AllSound s → (TakesKey tokens → ⊥) → IsFalse (expected s).key
key_refused tokens s ran sound no_key = by (expected s).key refl
  where
    by : (b : Bool) → (expected s).key ≡ b → b ≡ false
    by false e = refl
    by true e = absurd (no_key (step_open tokens s (Key []) ran sound e))

-- a text that an open one begins with is open
pub open_less : (text more : List ℕ) → IsOpenText (text ++ more) → IsOpenText text
open_less text more o = (more ++ o.0, o.1, o.2, subst (λ l. AreTokens o.1 l) (append_assoc text more o.0) o.3, o.4)

-- tokens behind those that were read

pub record Went (s : State) (tok : Token) (more : List Token) (last : State) : Type 0 where
  pub next : State
  pub stepped : step s tok ≡ Some next
  pub ran : runs more next ≡ Some last

pub went : (tokens : List Token) (tok : Token) (more : List Token) (s last : State) → runs tokens start ≡ Some s → runs (tokens ++ tok ∷ more) start ≡ Some last → Went s tok more last
went tokens tok more s last ran whole =
    let a = after_some (runs tokens start) (runs (tok ∷ more)) last (sym (runs_append tokens (tok ∷ more) start) ∙ whole) in
    let same : a.0 ≡ s = some_same (sym a.1 ∙ ran) in
    let b = after_some (step s tok) (runs more) last (subst (λ x. runs (tok ∷ more) x ≡ Some last) same a.2) in
    record { next = b.0; stepped = b.1; ran = b.2 }

-- a token that may follow, in the state behind the tokens
pub record Last (tokens : List Token) (x : Token) : Type 0 where
  pub last : State
  pub ran : runs tokens start ≡ Some last
  pub next : State
  pub stepped : step last x ≡ Some next

pub last_of : (tokens : List Token) (x : Token) → AreOpen (tokens ++ x ∷ []) → Last tokens x
last_of tokens x h =
    let r = open_runs (tokens ++ x ∷ []) h in
    let a = after_some (runs tokens start) (runs (x ∷ [])) r.last (sym (runs_append tokens (x ∷ []) start) ∙ r.ran) in
    let b = after_some (step a.0 x) (runs []) r.last a.2 in
    record { last = a.0; ran = a.1; next = b.0; stepped = b.1 }

-- behind a whole term that such a byte follows stands no token
pub none_behind : {more : List Token} {after place : List ℕ} (next last : State) (byte : ℕ) (text : List ℕ) → IsPlaced next → after ≡ byte ∷ text → past_blank after ≡ None → joint_byte byte ≡ false → Leads more after place → runs more next ≡ Some last → (last ≡ next) × ((past_blank place ≡ None) → place ≡ after) × (more ≡ [])
none_behind {after = after} {place = place} next last byte text p e solid j (no_token b) ran = (sym (some_same ran), (λ here. sym (blanks_stop place solid b)), refl)
none_behind {after = after} next last byte text p e solid j (one_token {start = begin} {after = end} {token = tok} {tokens = more} b begins leads) ran =
    let same : after ≡ begin = blanks_stop begin solid b in
    let a = after_some (step next tok) (runs more) last ran in
    absurd (second_joint next a.0 byte text p e j (subst (λ l. Begins l tok end) (sym same) begins) a.1)

pub not_joint : (last next : State) (x : Token) → IsPlaced last → is_joint x ≡ false → step last x ≡ Some next → ⊥
not_joint last next x p j e = true≢false (sym (placed_joins p.0 p.1 x next (subst (λ y. step y x ≡ Some next) p.2 e)) ∙ j)

-- Tokens that may be gone on with are those that the states run through.
use Rattle.std.proofs.Common.{◌≡◌, Bool, true, false, List, [], ◌∷◌, ◌++◌, Option, Some, None, cond, refl, sym, ap, ◌∙◌, subst}
use Rattle.std.specs.Prelude.{option_and_then, option_map, pos}
use Rattle.term_tokens.specs.declared.bracket.Bracket.{Bracket}
use Rattle.term_tokens.specs.declared.bracket.Bracket.TheVariants as bracket
use Rattle.elixir_terms.specs.declared.frame.Frame.{Frame}
use Rattle.elixir_terms.specs.declared.frame.Hole.{Hole}
use Rattle.elixir_terms.specs.declared.state.State.{State}
use Rattle.elixir_terms.specs.declared.state.State.TheVariants as state
use Rattle.term_values.specs.declared.term.Term.{Term}
use Rattle.term_tokens.specs.declared.token.Closing.{Closing}
use Rattle.term_tokens.specs.declared.token.Closing.TheVariants.{Square, Curly}
use Rattle.term_tokens.specs.declared.token.Token.{Token}
use Rattle.term_tokens.specs.declared.token.Token.TheVariants.{Atom, Int, Str, Words, Key, Open, Close, Comma, Arrow}
use Rattle.term_print.specs.Grammar.{enclosed, closing_of}
use Rattle.term_tokens.specs.Local.{takes, is_closing}
use Rattle.elixir_terms.specs.Machine.{is_closed_by, takes_key, takes_part, part_slot, placed, begun, closed, at_part, at_element, step, expected}
use Rattle.elixir_terms.specs.Prefixes.{AreOpen, TakesTerm, TakesKey}
use Rattle.elixir_terms.proofs.Meaning.{Wants, WantsNext}
use Rattle.term_tokens.proofs.OptionLemmas.{some_same}
use Rattle.elixir_terms.proofs.Runs.{wants_first, first_wants}
use Rattle.elixir_terms.proofs.StepForth.{step_forth}
use Rattle.elixir_terms.proofs.StepBack.{step_back}

-- the state after the tokens
abbrev pub runs : List Token → State → Option State
runs [] s = Some s
runs (tok ∷ tokens) s = option_and_then (runs tokens) (step s tok)

abbrev pub start : State
start = state.Value []

-- the tokens lead to a state, which still wants the others
pub record Passes (u : Term) (tokens rest : List Token) (o : Option State) : Type 0 where
  pub last : State
  pub ran : o ≡ Some last
  pub wanted : Wants u last rest

passes_next : (u : Term) (tokens rest : List Token) (o : Option State) → ((s : State) → Wants u s (tokens ++ rest) → Passes u tokens rest (runs tokens s)) → WantsNext u o (tokens ++ rest) → Passes u tokens rest (option_and_then (runs tokens) o)
passes_next u tokens rest None ih w = absurd w
passes_next u tokens rest (Some s) ih w = ih s w

passes_more : (u : Term) (tok : Token) (tokens rest : List Token) (o : Option State) → Passes u tokens rest o → Passes u (tok ∷ tokens) rest o
passes_more u tok tokens rest o p = record { last = p.last; ran = p.ran; wanted = p.wanted }

-- what a state wants, the state after the first tokens of it wants the rest of
pub passes : (u : Term) (tokens rest : List Token) (s : State) → Wants u s (tokens ++ rest) → Passes u tokens rest (runs tokens s)
passes u [] rest s w = record { last = s; ran = refl; wanted = w }
passes u (tok ∷ tokens) rest s w = passes_more u tok tokens rest (runs (tok ∷ tokens) s) (passes_next u tokens rest (step s tok) (passes u tokens rest) (step_forth u s tok (tokens ++ rest) w))

back_next : (u : Term) (tokens rest : List Token) (last : State) (o : Option State) → ((s : State) → runs tokens s ≡ Some last → Wants u s (tokens ++ rest)) → option_and_then (runs tokens) o ≡ Some last → WantsNext u o (tokens ++ rest)
back_next u tokens rest last None ih e = absurd (cc)
back_next u tokens rest last (Some s) ih e = ih s e

-- and what the state after tokens wants, the state wanted after them
pub passed_back : (u : Term) (tokens rest : List Token) (s last : State) → Wants u last rest → runs tokens s ≡ Some last → Wants u s (tokens ++ rest)
passed_back u [] rest s last w e = subst (λ x. Wants u x rest) (sym (some_same e)) w
passed_back u (tok ∷ tokens) rest s last w e = step_back u s tok (tokens ++ rest) (back_next u tokens rest last (step s tok) (λ s. passed_back u tokens rest s last w) e)

runs_then : (xs ys : List Token) (o : Option State) → ((s : State) → runs (xs ++ ys) s ≡ option_and_then (runs ys) (runs xs s)) → option_and_then (runs (xs ++ ys)) o ≡ option_and_then (runs ys) (option_and_then (runs xs) o)
runs_then xs ys None ih = refl
runs_then xs ys (Some s) ih = ih s

pub runs_append : (xs ys : List Token) (s : State) → runs (xs ++ ys) s ≡ option_and_then (runs ys) (runs xs s)
runs_append [] ys s = refl
runs_append (tok ∷ xs) ys s = runs_then xs ys (step s tok) (runs_append xs ys)

-- with one more token
pub runs_push : (tokens : List Token) (tok : Token) (s last next : State) → runs tokens s ≡ Some last → step last tok ≡ Some next → runs (tokens ++ tok ∷ []) s ≡ Some next
runs_push tokens tok s last next ran stepped =
    runs_append tokens (tok ∷ []) s ∙ ap (option_and_then (runs (tok ∷ []))) ran ∙ ap (option_and_then (runs [])) stepped

-- open tokens run through
pub record Ran (tokens : List Token) : Type 0 where
  pub last : State
  pub ran : runs tokens start ≡ Some last

pub open_runs : (tokens : List Token) → AreOpen tokens → Ran tokens
open_runs tokens h =
    let p = passes h.1 tokens h.0 start (wants_first h.1 (tokens ++ h.0) h.2) in
    record { last = p.last; ran = p.ran }

-- and those that run to a state that may be ended are open
pub runs_open : (u : Term) (tokens rest : List Token) (s : State) → runs tokens start ≡ Some s → Wants u s rest → AreOpen tokens
runs_open u tokens rest s ran w = (rest, u, first_wants u (tokens ++ rest) (passed_back u tokens rest start s w ran))

pub after_some : (o : Option State) (f : State → Option State) (last : State) → option_and_then f o ≡ Some last → (s : State) × (o ≡ Some s) × (f s ≡ Some last)
after_some None f last e = absurd (cc)
after_some (Some s) f last e = (s, refl, e)

-- where a token may stand after tokens, their state takes it
pub open_next : (tokens : List Token) (tok : Token) (more : List Token) (s : State) → runs tokens start ≡ Some s → AreOpen (tokens ++ tok ∷ more) → (next : State) × (step s tok ≡ Some next) × Ran (tokens ++ tok ∷ more) × (last : State) × (runs more next ≡ Some last)
open_next tokens tok more s ran h =
    let r = open_runs (tokens ++ tok ∷ more) h in
    let a = after_some (runs tokens start) (runs (tok ∷ more)) r.last (sym (runs_append tokens (tok ∷ more) start) ∙ r.ran) in
    let same : a.0 ≡ s = some_same (sym a.1 ∙ ran) in
    let b = after_some (step s tok) (runs more) r.last (subst (λ x. runs (tok ∷ more) x ≡ Some r.last) same a.2) in
    (b.0, b.1, r, r.last, b.2)

pub cond_test : (test : Bool) (o : Option State) (next : State) → cond test o None ≡ Some next → (test ≡ true) × (o ≡ Some next)
cond_test true o next e = (refl, e)
cond_test false o next e = absurd (cc)

closing_same : (kind : Bracket) (closing : Closing) → is_closing (Some (closing_of kind)) closing ≡ is_closed_by kind closing
closing_same bracket.List Square = refl
closing_same bracket.List Curly = refl
closing_same bracket.Tuple Square = refl
closing_same bracket.Tuple Curly = refl
closing_same bracket.Map Square = refl
closing_same bracket.Map Curly = refl

close_taken : (frame : Frame) (closing : Closing) (holes : List Hole) (next : State) → closed frame closing holes ≡ Some next → is_closing (Some (closing_of frame.bracket)) closing ≡ true
close_taken frame closing holes next e =
    closing_same frame.bracket closing ∙ (cond_test (is_closed_by frame.bracket closing) (option_map (λ t. placed t holes) (enclosed frame.bracket frame.items frame.entries frame.keywords)) next e).0

part_taken : (frame : Frame) (holes : List Hole) (tok : Token) (next : State) → at_part frame holes tok ≡ Some next → takes_part frame ≡ true
part_taken frame holes tok next e = (cond_test (takes_part frame) (begun tok (record { frame = frame; slot = part_slot frame.bracket } ∷ holes)) next e).0

no_begun : (frame : Frame) (o : Option State) (next : State) → o ≡ None → cond (takes_part frame) o None ≡ Some next → ⊥
no_begun frame o next n e = let t = cond_test (takes_part frame) o next e in let e1 = t.1 in cc

element_taken : (frame : Frame) (holes : List Hole) (tok : Token) (next : State) → at_element frame holes tok ≡ Some next → takes (expected (state.Element frame holes)) tok ≡ true
element_taken frame holes (Close closing) next e = close_taken frame closing holes next e
element_taken frame holes (Key key) next e = (cond_test (takes_key frame) _ next e).0
element_taken frame holes (Atom name) next e = part_taken frame holes (Atom name) next e
element_taken frame holes (Int n) next e = part_taken frame holes (Int n) next e
element_taken frame holes (Str bytes) next e = part_taken frame holes (Str bytes) next e
element_taken frame holes (Words kind ws) next e = part_taken frame holes (Words kind ws) next e
element_taken frame holes (Open kind) next e = part_taken frame holes (Open kind) next e
element_taken frame holes Comma next e = absurd (no_begun frame None next refl e)
element_taken frame holes Arrow next e = absurd (no_begun frame None next refl e)

-- what a state takes, is expected in it
pub step_taken : (s : State) (tok : Token) (next : State) → step s tok ≡ Some next → takes (expected s) tok ≡ true
step_taken (state.Value holes) (Atom name) next e = refl
step_taken (state.Value holes) (Int n) next e = refl
step_taken (state.Value holes) (Str bytes) next e = refl
step_taken (state.Value holes) (Words kind ws) next e = refl
step_taken (state.Value holes) (Open kind) next e = refl
step_taken (state.Value holes) (Key key) next e = absurd (cc)
step_taken (state.Value holes) (Close closing) next e = absurd (cc)
step_taken (state.Value holes) Comma next e = absurd (cc)
step_taken (state.Value holes) Arrow next e = absurd (cc)
step_taken (state.Element frame holes) tok next e = element_taken frame holes tok next e
step_taken (state.Separator frame holes) Comma next e = refl
step_taken (state.Separator frame holes) (Close closing) next e = close_taken frame closing holes next e
step_taken (state.Separator frame holes) (Atom name) next e = absurd (cc)
step_taken (state.Separator frame holes) (Int n) next e = absurd (cc)
step_taken (state.Separator frame holes) (Str bytes) next e = absurd (cc)
step_taken (state.Separator frame holes) (Words kind ws) next e = absurd (cc)
step_taken (state.Separator frame holes) (Open kind) next e = absurd (cc)
step_taken (state.Separator frame holes) (Key key) next e = absurd (cc)
step_taken (state.Separator frame holes) Arrow next e = absurd (cc)
step_taken (state.Arrow key frame holes) Arrow next e = refl
step_taken (state.Arrow key frame holes) (Atom name) next e = absurd (cc)
step_taken (state.Arrow key frame holes) (Int n) next e = absurd (cc)
step_taken (state.Arrow key frame holes) (Str bytes) next e = absurd (cc)
step_taken (state.Arrow key frame holes) (Words kind ws) next e = absurd (cc)
step_taken (state.Arrow key frame holes) (Open kind) next e = absurd (cc)
step_taken (state.Arrow key frame holes) (Key name) next e = absurd (cc)
step_taken (state.Arrow key frame holes) (Close closing) next e = absurd (cc)
step_taken (state.Arrow key frame holes) Comma next e = absurd (cc)
step_taken (state.Done t) tok next e = absurd (cc)

-- a term is expected in a state where the first token of one may stand, and so with a key
pub term_expected : (tokens : List Token) (s : State) → runs tokens start ≡ Some s → TakesTerm tokens → (expected s).term ≡ true
term_expected tokens s ran h = let n = open_next tokens (Int (pos 0)) [] s ran h in step_taken s (Int (pos 0)) n.0 n.1

pub key_expected : (tokens : List Token) (s : State) → runs tokens start ≡ Some s → TakesKey tokens → (expected s).key ≡ true
key_expected tokens s ran h = let n = open_next tokens (Key []) [] s ran h in step_taken s (Key []) n.0 n.1

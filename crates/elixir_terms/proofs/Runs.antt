-- Tokens stand for one term at most: the one that the states lead to.
use Rattle.std.proofs.Common.{◌≡◌, List, [], ◌∷◌, ◌++◌, Option, Some, None, refl, sym, ap, ◌∙◌}
use Rattle.std.specs.Prelude.{option_and_then}
use Rattle.std.proofs.lemmas.List.{append-nil}
use Rattle.elixir_terms.specs.declared.state.State.{State}
use Rattle.elixir_terms.specs.declared.state.State.TheVariants.{Value, Element, Separator, Arrow, Done}
use Rattle.term_values.specs.declared.term.Term.{Term}
use Rattle.term_tokens.specs.declared.token.Token.{Token}
use Rattle.term_tokens.specs.declared.token.Token.TheVariants.{Close}
use Rattle.term_print.specs.Grammar.{IsTerm, atom, integer, string, words, brackets, closing_of}
use Rattle.elixir_terms.specs.Machine.{step}
use Rattle.elixir_terms.proofs.Meaning.{Wants, WantsNext}
use Rattle.elixir_terms.proofs.StepForth.{step_forth}

not_end : (part rest : List Token) (tok : Token) → [] ≡ part ++ tok ∷ rest → ⊥
not_end [] rest tok e = cc
not_end (t ∷ part) rest tok e = cc

not_nothing : {word : List Token} {t : Term} (rest : List Token) → IsTerm word t → [] ≡ word ++ rest → ⊥
not_nothing rest atom e = cc
not_nothing rest integer e = cc
not_nothing rest string e = cc
not_nothing rest words e = cc
not_nothing rest (brackets reads encloses) e = cc

-- at the end of the tokens the term has to be whole
pub wants_end : (u : Term) (s : State) → Wants u s [] → s ≡ Done u
wants_end u (Value holes) w = absurd (not_nothing w.rest w.reads w.split)
wants_end u (Element frame holes) w = absurd (not_end w.part w.rest (Close (closing_of frame.bracket)) w.split)
wants_end u (Separator frame holes) w = absurd (not_end w.part w.rest (Close (closing_of frame.bracket)) w.split)
wants_end u (Arrow key frame holes) w = let e = w.begins in absurd (cc)
wants_end u (Done t) w = ap Done w.1

abbrev finished : State → Option Term
finished (Value holes) = None
finished (Element frame holes) = None
finished (Separator frame holes) = None
finished (Arrow key frame holes) = None
finished (Done t) = Some t

abbrev run : List Token → State → Option Term
run [] s = finished s
run (tok ∷ tokens) s = option_and_then (run tokens) (step s tok)

run_next : (u : Term) (tokens : List Token) (o : Option State) → ((s : State) → Wants u s tokens → run tokens s ≡ Some u) → WantsNext u o tokens → option_and_then (run tokens) o ≡ Some u
run_next u tokens None ih w = absurd w
run_next u tokens (Some s) ih w = ih s w

wants_run : (u : Term) (tokens : List Token) (s : State) → Wants u s tokens → run tokens s ≡ Some u
wants_run u [] s w = ap finished (wants_end u s w)
wants_run u (tok ∷ tokens) s w = run_next u tokens (step s tok) (wants_run u tokens) (step_forth u s tok tokens w)

-- the whole text's term is wanted at first
pub wants_first : (u : Term) (tokens : List Token) → IsTerm tokens u → Wants u (Value []) tokens
wants_first u tokens h = record { word = tokens; rest = []; t = u; reads = h; split = sym (append-nil tokens); outside = (refl, refl) }

pub first_wants : (u : Term) (tokens : List Token) → Wants u (Value []) tokens → IsTerm tokens u
first_wants u tokens w =
    let e : tokens ≡ w.word = w.split ∙ ap (λ l. w.word ++ l) w.outside.0 ∙ append-nil w.word in
    rw (e, sym w.outside.1) w.reads

-- tokens stand for one term
pub term_one : (tokens : List Token) (t u : Term) → IsTerm tokens t → IsTerm tokens u → t ≡ u
term_one tokens t u a b =
    let e = sym (wants_run t tokens (Value []) (wants_first t tokens a)) ∙ wants_run u tokens (Value []) (wants_first u tokens b) in
    cc

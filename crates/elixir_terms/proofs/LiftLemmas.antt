-- The states of a term inside of open brackets are those of the term alone.
use Rattle.std.proofs.Common.{◌≡◌, ℕ, Bool, true, false, cond, List, [], ◌∷◌, ◌++◌, Option, Some, None, refl, sym, ap, ◌∙◌}
use Rattle.std.specs.Prelude.{option_map, option_and_then}
use Rattle.elixir_terms.specs.declared.frame.Frame.{Frame}
use Rattle.elixir_terms.specs.declared.frame.Hole.{Hole}
use Rattle.elixir_terms.specs.declared.frame.Slot.{Slot}
use Rattle.elixir_terms.specs.declared.frame.Slot.TheVariants as slot
use Rattle.elixir_terms.specs.declared.state.State.{State}
use Rattle.elixir_terms.specs.declared.state.State.TheVariants as state
use Rattle.term_values.specs.declared.term.Term.{Term}
use Rattle.term_values.specs.declared.term.Term.TheVariants as term
use Rattle.term_tokens.specs.declared.token.Closing.{Closing}
use Rattle.term_tokens.specs.declared.token.Token.{Token}
use Rattle.term_tokens.specs.declared.token.Token.TheVariants.{Atom, Int, Str, Words, Key, Open, Close, Comma, Arrow}
use Rattle.term_print.specs.Grammar.{IsTerm, enclosed, word_list}
use Rattle.elixir_terms.specs.Machine.{is_closed_by, takes_part, takes_key, part_slot, placed, placed_in, begun, closed, at_part, at_key, at_element, at_separator, at_arrow, step}
use Rattle.elixir_terms.proofs.OpenLemmas.{runs, start}
use Rattle.term_tokens.proofs.OptionLemmas.{some_same}
use Rattle.elixir_terms.proofs.StopLemmas.{whole_last}

-- the state with these holes outside
abbrev pub lifted : List Hole → State → State
lifted outer (state.Value holes) = state.Value (holes ++ outer)
lifted outer (state.Element frame holes) = state.Element frame (holes ++ outer)
lifted outer (state.Separator frame holes) = state.Separator frame (holes ++ outer)
lifted outer (state.Arrow key frame holes) = state.Arrow key frame (holes ++ outer)
lifted outer (state.Done t) = placed t outer

placed_lifted : (outer : List Hole) (t : Term) (holes : List Hole) → lifted outer (placed t holes) ≡ placed t (holes ++ outer)
placed_lifted outer t [] = refl
placed_lifted outer t (hole ∷ holes) = in_slot hole.slot hole.frame
  where
    in_slot : (place : Slot) (frame : Frame) → lifted outer (placed_in place frame t holes) ≡ placed_in place frame t (holes ++ outer)
    in_slot slot.Element frame = refl
    in_slot (slot.Keyword key) frame = refl
    in_slot slot.EntryKey frame = refl
    in_slot (slot.EntryValue key) frame = refl

begun_lifted : (outer : List Hole) (tok : Token) (holes : List Hole) → option_map (lifted outer) (begun tok holes) ≡ begun tok (holes ++ outer)
begun_lifted outer (Atom name) holes = ap Some (placed_lifted outer (term.Atom name) holes)
begun_lifted outer (Int n) holes = ap Some (placed_lifted outer (term.Int n) holes)
begun_lifted outer (Str bytes) holes = ap Some (placed_lifted outer (term.Str bytes) holes)
begun_lifted outer (Words kind ws) holes = ap Some (placed_lifted outer (word_list kind ws) holes)
begun_lifted outer (Open kind) holes = refl
begun_lifted outer (Key name) holes = refl
begun_lifted outer (Close closing) holes = refl
begun_lifted outer Comma holes = refl
begun_lifted outer Arrow holes = refl

closed_lifted : (outer : List Hole) (frame : Frame) (closing : Closing) (holes : List Hole) → option_map (lifted outer) (closed frame closing holes) ≡ closed frame closing (holes ++ outer)
closed_lifted outer frame closing holes = by (is_closed_by frame.bracket closing) (enclosed frame.bracket frame.items frame.entries frame.keywords)
  where
    by : (b : Bool) (o : Option Term) → option_map (lifted outer) (cond b (option_map (λ t. placed t holes) o) None) ≡ cond b (option_map (λ t. placed t (holes ++ outer)) o) None
    by false o = refl
    by true None = refl
    by true (Some t) = ap Some (placed_lifted outer t holes)

part_lifted : (outer : List Hole) (frame : Frame) (holes : List Hole) (tok : Token) → option_map (lifted outer) (at_part frame holes tok) ≡ at_part frame (holes ++ outer) tok
part_lifted outer frame holes tok = by (takes_part frame) (begun tok (record { frame = frame; slot = part_slot frame.bracket } ∷ holes)) (begun tok (record { frame = frame; slot = part_slot frame.bracket } ∷ (holes ++ outer))) (begun_lifted outer tok (record { frame = frame; slot = part_slot frame.bracket } ∷ holes))
  where
    by : (b : Bool) (o p : Option State) → option_map (lifted outer) o ≡ p → option_map (lifted outer) (cond b o None) ≡ cond b p None
    by true o p e = e
    by false o p e = refl

key_lifted : (outer : List Hole) (frame : Frame) (holes : List Hole) (key : List ℕ) → option_map (lifted outer) (at_key frame holes key) ≡ at_key frame (holes ++ outer) key
key_lifted outer frame holes key = by (takes_key frame)
  where
    by : (b : Bool) → option_map (lifted outer) (cond b (Some (state.Value (record { frame = frame; slot = slot.Keyword key } ∷ holes))) None) ≡ cond b (Some (state.Value (record { frame = frame; slot = slot.Keyword key } ∷ (holes ++ outer)))) None
    by true = refl
    by false = refl

element_lifted : (outer : List Hole) (frame : Frame) (holes : List Hole) (tok : Token) → option_map (lifted outer) (at_element frame holes tok) ≡ at_element frame (holes ++ outer) tok
element_lifted outer frame holes (Close closing) = closed_lifted outer frame closing holes
element_lifted outer frame holes (Key key) = key_lifted outer frame holes key
element_lifted outer frame holes (Atom name) = part_lifted outer frame holes (Atom name)
element_lifted outer frame holes (Int n) = part_lifted outer frame holes (Int n)
element_lifted outer frame holes (Str bytes) = part_lifted outer frame holes (Str bytes)
element_lifted outer frame holes (Words kind ws) = part_lifted outer frame holes (Words kind ws)
element_lifted outer frame holes (Open kind) = part_lifted outer frame holes (Open kind)
element_lifted outer frame holes Comma = part_lifted outer frame holes Comma
element_lifted outer frame holes Arrow = part_lifted outer frame holes Arrow

separator_lifted : (outer : List Hole) (frame : Frame) (holes : List Hole) (tok : Token) → option_map (lifted outer) (at_separator frame holes tok) ≡ at_separator frame (holes ++ outer) tok
separator_lifted outer frame holes (Close closing) = closed_lifted outer frame closing holes
separator_lifted outer frame holes Comma = refl
separator_lifted outer frame holes (Key key) = refl
separator_lifted outer frame holes (Atom name) = refl
separator_lifted outer frame holes (Int n) = refl
separator_lifted outer frame holes (Str bytes) = refl
separator_lifted outer frame holes (Words kind ws) = refl
separator_lifted outer frame holes (Open kind) = refl
separator_lifted outer frame holes Arrow = refl

arrow_lifted : (outer : List Hole) (key : Term) (frame : Frame) (holes : List Hole) (tok : Token) → option_map (lifted outer) (at_arrow key frame holes tok) ≡ at_arrow key frame (holes ++ outer) tok
arrow_lifted outer key frame holes Arrow = refl
arrow_lifted outer key frame holes Comma = refl
arrow_lifted outer key frame holes (Close closing) = refl
arrow_lifted outer key frame holes (Key name) = refl
arrow_lifted outer key frame holes (Atom name) = refl
arrow_lifted outer key frame holes (Int n) = refl
arrow_lifted outer key frame holes (Str bytes) = refl
arrow_lifted outer key frame holes (Words kind ws) = refl
arrow_lifted outer key frame holes (Open kind) = refl

-- a token is taken inside as alone
pub step_lifted : (outer : List Hole) (s : State) (tok : Token) (next : State) → step s tok ≡ Some next → step (lifted outer s) tok ≡ Some (lifted outer next)
step_lifted outer (state.Value holes) tok next e = sym (begun_lifted outer tok holes) ∙ ap (option_map (lifted outer)) e
step_lifted outer (state.Element frame holes) tok next e = sym (element_lifted outer frame holes tok) ∙ ap (option_map (lifted outer)) e
step_lifted outer (state.Separator frame holes) tok next e = sym (separator_lifted outer frame holes tok) ∙ ap (option_map (lifted outer)) e
step_lifted outer (state.Arrow key frame holes) tok next e = sym (arrow_lifted outer key frame holes tok) ∙ ap (option_map (lifted outer)) e
step_lifted outer (state.Done t) tok next e = absurd (cc)

runs_by : (outer : List Hole) (tok : Token) (tokens : List Token) (s last : State) (o : Option State) → ((n : State) → runs tokens n ≡ Some last → runs tokens (lifted outer n) ≡ Some (lifted outer last)) → step s tok ≡ o → option_and_then (runs tokens) o ≡ Some last → runs (tok ∷ tokens) (lifted outer s) ≡ Some (lifted outer last)
runs_by outer tok tokens s last None ih same e = absurd (cc)
runs_by outer tok tokens s last (Some next) ih same e = ap (option_and_then (runs tokens)) (step_lifted outer s tok next same) ∙ ih next e

pub runs_lifted : (outer : List Hole) (tokens : List Token) (s last : State) → runs tokens s ≡ Some last → runs tokens (lifted outer s) ≡ Some (lifted outer last)
runs_lifted outer [] s last e = ap (λ x. Some (lifted outer x)) (some_same e)
runs_lifted outer (tok ∷ tokens) s last e = runs_by outer tok tokens s last (step s tok) (λ n. runs_lifted outer tokens n last) refl e

-- the tokens of a term lead from where one is wanted to where it is placed
pub term_runs : (outer : List Hole) (word : List Token) (t : Term) → IsTerm word t → runs word (state.Value outer) ≡ Some (placed t outer)
term_runs outer word t h = runs_lifted outer word start (state.Done t) (whole_last word t h)

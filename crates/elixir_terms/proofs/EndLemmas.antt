-- Tokens and a text that end what is open.
use Rattle.std.specs.Prelude.{pos}
use Rattle.std.proofs.Common.{◌≡◌, ℕ, ◌+◌, Bool, true, ◌==◌, List, [], ◌∷◌, Some, refl, sym, subst, arith}
use Rattle.std.specs.Prelude.{IsTrue}
use Rattle.std.proofs.lemmas.Bool.{eqb-true}
use Rattle.elixir_terms.specs.declared.frame.Frame.{Frame}
use Rattle.elixir_terms.specs.declared.frame.Hole.{Hole}
use Rattle.elixir_terms.specs.declared.frame.Slot.{Slot}
use Rattle.elixir_terms.specs.declared.frame.Slot.TheVariants as slot
use Rattle.elixir_terms.specs.declared.state.State.{State}
use Rattle.elixir_terms.specs.declared.state.State.TheVariants as state
use Rattle.term_values.specs.declared.term.Term.{Term}
use Rattle.term_values.specs.declared.term.Term.TheVariants as term
use Rattle.term_tokens.specs.declared.token.Closing.{Closing}
use Rattle.term_tokens.specs.declared.token.Token.{Token}
use Rattle.term_tokens.specs.declared.token.Token.TheVariants.{Int, Close, Arrow}
use Rattle.term_print.specs.Grammar.{enclosed, closing_of}
use Rattle.elixir_terms.specs.Levels.{keyword_cost, cost_in, levels}
use Rattle.elixir_terms.specs.Machine.{with_item, with_entry, with_keyword}
use Rattle.term_tokens.specs.Numbers.{last, decimal, plain}
use Rattle.term_tokens.specs.Tokens.{closing, ends_integer, integer, closes, arrow, none, blank, AreTokens}
use Rattle.elixir_terms.specs.Bounded.{integer as bounded_integer}
use Rattle.elixir_terms.specs.Refusals.{IsShallow}
use Rattle.elixir_terms.proofs.Meaning.{FilledIn, Filled, Wants}
use Rattle.elixir_terms.proofs.EnclosedLemmas.{Sound, SlotSound, HolesSound, StateSound}
use Rattle.elixir_terms.proofs.StepForth.{closes_in, placed_forth}
use Rattle.elixir_terms.proofs.StepBack.{step_back}

-- nothing, or a line feed and more
abbrev pub is_apart : List ℕ → Bool
is_apart [] = true
is_apart (byte ∷ text) = byte == 10

-- tokens that end what is open, their text, and the term that they make
pub record Ending (all : ℕ) (Goal : Term → List Token → Type 0) : Type 0 where
  pub tokens : List Token
  pub text : List ℕ
  pub apart : IsTrue (is_apart text)
  pub spelled : AreTokens tokens text
  pub u : Term
  pub wanted : Goal u tokens
  pub shallow : IsShallow all u

close_spelled : (closing_byte : Closing) (tokens : List Token) (text : List ℕ) → AreTokens tokens text → AreTokens (Close closing_byte ∷ tokens) (10 ∷ closing closing_byte ∷ text)
close_spelled c tokens text h = (closing c ∷ text, text, blank refl none, closes refl, h)

arrow_spelled : (tokens : List Token) (text : List ℕ) → AreTokens tokens text → AreTokens (Arrow ∷ tokens) (10 ∷ 61 ∷ 62 ∷ text)
arrow_spelled tokens text h = (61 ∷ 62 ∷ text, text, blank refl none, arrow refl, h)

apart_ends : (text : List ℕ) → IsTrue (is_apart text) → IsTrue (ends_integer text)
apart_ends [] h = refl
apart_ends (byte ∷ text) h = let e : byte ≡ 10 = eqb-true byte 10 h in subst (λ b. IsTrue (ends_integer (b ∷ text))) (sym e) refl

zero_spelled : (tokens : List Token) (text : List ℕ) → IsTrue (is_apart text) → AreTokens tokens text → AreTokens (Int (pos 0) ∷ tokens) (10 ∷ 48 ∷ text)
zero_spelled tokens text a h = (48 ∷ text, text, blank refl none, integer {word = 48 ∷ []} (plain (decimal (last refl))) (apart_ends text a) refl, h)

-- a bracket closes
close_wants : (u t : Term) (frame : Frame) (holes : List Hole) (tokens : List Token) → enclosed frame.bracket frame.items frame.entries frame.keywords ≡ Some t → Filled u holes t tokens → Wants u (state.Separator frame holes) (Close (closing_of frame.bracket) ∷ tokens)
close_wants u t frame holes tokens e h = step_back u (state.Separator frame holes) (Close (closing_of frame.bracket)) tokens (closes_in u frame holes (Close (closing_of frame.bracket)) tokens t refl e h)

close_first : (u t : Term) (frame : Frame) (holes : List Hole) (tokens : List Token) → enclosed frame.bracket frame.items frame.entries frame.keywords ≡ Some t → Filled u holes t tokens → Wants u (state.Element frame holes) (Close (closing_of frame.bracket) ∷ tokens)
close_first u t frame holes tokens e h = step_back u (state.Element frame holes) (Close (closing_of frame.bracket)) tokens (closes_in u frame holes (Close (closing_of frame.bracket)) tokens t refl e h)

abbrev InHoles : ℕ → List Hole → Type 0
InHoles all holes = (t : Term) (left : ℕ) → HolesSound left holes → IsShallow left t → left + levels holes ≡ all → Ending all (λ u tokens. Filled u holes t tokens)

separator_ends : (all : ℕ) (frame : Frame) (holes : List Hole) (left : ℕ) → InHoles all holes → Sound left frame → HolesSound left holes → left + levels holes ≡ all → Ending all (λ u tokens. Wants u (state.Separator frame holes) tokens)
separator_ends all frame holes left outer s h e =
    let k = outer s.0 left h s.2 e in
    record {
      tokens = Close (closing_of frame.bracket) ∷ k.tokens;
      text = 10 ∷ closing (closing_of frame.bracket) ∷ k.text;
      apart = refl;
      spelled = close_spelled (closing_of frame.bracket) k.tokens k.text k.spelled;
      u = k.u;
      wanted = close_wants k.u s.0 frame holes k.tokens s.1 k.wanted;
      shallow = k.shallow;
    }

value_ends : (all : ℕ) (key : Term) (frame : Frame) (holes : List Hole) (left : ℕ) → InHoles all holes → SlotSound left (slot.EntryValue key) frame → HolesSound (1 + left) holes → 1 + left + levels holes ≡ all → Ending all (λ u tokens. Wants u (state.Value (record { frame = frame; slot = slot.EntryValue key } ∷ holes)) tokens)
value_ends all key frame holes left outer s h e =
    let k = separator_ends all (with_entry frame key (term.Int (pos 0))) holes (1 + left) outer (s (term.Int (pos 0)) (bounded_integer tt)) h e in
    record {
      tokens = Int (pos 0) ∷ k.tokens;
      text = 10 ∷ 48 ∷ k.text;
      apart = refl;
      spelled = zero_spelled k.tokens k.text k.apart k.spelled;
      u = k.u;
      wanted = step_back k.u (state.Value (record { frame = frame; slot = slot.EntryValue key } ∷ holes)) (Int (pos 0)) k.tokens k.wanted;
      shallow = k.shallow;
    }

arrow_ends : (all : ℕ) (key : Term) (frame : Frame) (holes : List Hole) (left : ℕ) → InHoles all holes → SlotSound left (slot.EntryValue key) frame → HolesSound (1 + left) holes → 1 + left + levels holes ≡ all → Ending all (λ u tokens. Wants u (state.Arrow key frame holes) tokens)
arrow_ends all key frame holes left outer s h e =
    let k = value_ends all key frame holes left outer s h e in
    record {
      tokens = Arrow ∷ k.tokens;
      text = 10 ∷ 61 ∷ 62 ∷ k.text;
      apart = refl;
      spelled = arrow_spelled k.tokens k.text k.spelled;
      u = k.u;
      wanted = step_back k.u (state.Arrow key frame holes) Arrow k.tokens k.wanted;
      shallow = k.shallow;
    }

slot_ends : (all : ℕ) (place : Slot) (frame : Frame) (holes : List Hole) (t : Term) (left : ℕ) → InHoles all holes → SlotSound left place frame → HolesSound (cost_in place frame.bracket + left) holes → IsShallow left t → left + (cost_in place frame.bracket + levels holes) ≡ all → Ending all (λ u tokens. FilledIn place frame (Filled u holes) t tokens)
slot_ends all slot.Element frame holes t left outer s h k e = separator_ends all (with_item frame t) holes (1 + left) outer (s t k) h (omega arith)
slot_ends all (slot.Keyword key) frame holes t left outer s h k e = separator_ends all (with_keyword frame key t) holes (keyword_cost frame.bracket + left) outer (s t k) h (omega arith)
slot_ends all slot.EntryKey frame holes t left outer s h k e = arrow_ends all t frame holes left outer (s t k) h (omega arith)
slot_ends all (slot.EntryValue key) frame holes t left outer s h k e = separator_ends all (with_entry frame key t) holes (1 + left) outer (s t k) h (omega arith)

-- a whole term in the innermost hole
pub holes_end : (all : ℕ) (holes : List Hole) → InHoles all holes
holes_end all [] t left h k e = let same : left ≡ all = omega arith in record { tokens = []; text = []; apart = refl; spelled = none; u = t; wanted = (refl, refl); shallow = subst (λ n. IsShallow n t) same k }
holes_end all (hole ∷ holes) t left h k e = slot_ends all hole.slot hole.frame holes t left (holes_end all holes) h.0 h.1 k e

element_ends : (all : ℕ) (frame : Frame) (holes : List Hole) (left : ℕ) → InHoles all holes → Sound left frame → HolesSound left holes → left + levels holes ≡ all → Ending all (λ u tokens. Wants u (state.Element frame holes) tokens)
element_ends all frame holes left outer s h e =
    let k = outer s.0 left h s.2 e in
    record {
      tokens = Close (closing_of frame.bracket) ∷ k.tokens;
      text = 10 ∷ closing (closing_of frame.bracket) ∷ k.text;
      apart = refl;
      spelled = close_spelled (closing_of frame.bracket) k.tokens k.text k.spelled;
      u = k.u;
      wanted = close_first k.u s.0 frame holes k.tokens s.1 k.wanted;
      shallow = k.shallow;
    }

-- each sound state can be ended
pub state_ends : (all : ℕ) (s : State) → StateSound all s → Ending all (λ u tokens. Wants u s tokens)
state_ends all (state.Value holes) h =
    let k = holes_end all holes (term.Int (pos 0)) h.0 h.2 (bounded_integer tt) h.1 in
    record {
      tokens = Int (pos 0) ∷ k.tokens;
      text = 10 ∷ 48 ∷ k.text;
      apart = refl;
      spelled = zero_spelled k.tokens k.text k.apart k.spelled;
      u = k.u;
      wanted = step_back k.u (state.Value holes) (Int (pos 0)) k.tokens (placed_forth k.u (term.Int (pos 0)) holes k.tokens k.wanted);
      shallow = k.shallow;
    }
state_ends all (state.Element frame holes) h = element_ends all frame holes h.0 (holes_end all holes) h.2 h.3 h.1
state_ends all (state.Separator frame holes) h = separator_ends all frame holes h.0 (holes_end all holes) h.2 h.3 h.1
state_ends all (state.Arrow key frame holes) h = arrow_ends all key frame holes h.0 (holes_end all holes) h.2 h.3 h.1
state_ends all (state.Done t) h = record { tokens = []; text = []; apart = refl; spelled = none; u = t; wanted = (refl, refl); shallow = h }

-- Each state that the reader comes to can be ended, within so many levels.
use Rattle.std.proofs.Common.{◌≡◌, ℕ, suc, ◌+◌, ◌-◌, ◌≤◌, Bool, true, false, cond, List, [], ◌∷◌, Option, Some, None, refl, sym, ◌∙◌, subst, arith, map}
use Rattle.std.specs.Prelude.{option_map}
use Rattle.term_tokens.specs.declared.bracket.Bracket.{Bracket}
use Rattle.term_tokens.specs.declared.bracket.Bracket.TheVariants as bracket
use Rattle.elixir_terms.specs.declared.frame.Frame.{Frame}
use Rattle.elixir_terms.specs.declared.frame.Hole.{Hole}
use Rattle.elixir_terms.specs.declared.frame.Slot.{Slot}
use Rattle.elixir_terms.specs.declared.frame.Slot.TheVariants as slot
use Rattle.elixir_terms.specs.declared.state.State.{State}
use Rattle.elixir_terms.specs.declared.state.State.TheVariants as state
use Rattle.term_values.specs.declared.term.Term.{Term}
use Rattle.term_values.specs.declared.term.Term.TheVariants as term
use Rattle.term_tokens.specs.declared.token.Closing.{Closing}
use Rattle.term_tokens.specs.declared.token.Token.{Token}
use Rattle.term_tokens.specs.declared.token.Token.TheVariants.{Atom, Int, Str, Words, Key, Open, Close, Comma, Arrow}
use Rattle.term_print.specs.Grammar.{enclosed, word_term, word_list}
use Rattle.elixir_terms.specs.Levels.{keyword_cost, cost_in, levels}
use Rattle.elixir_terms.specs.Machine.{is_closed_by, takes_key, takes_part, part_slot, empty, placed_in, placed, begun, closed, at_part, at_key, at_element, at_separator, at_arrow, step}
use Rattle.elixir_terms.proofs.StepBack.{no_keyword, no_value}
use Rattle.elixir_terms.proofs.BoundedLemmas.{words_bounded}
use Rattle.elixir_terms.proofs.BelowLemmas.{enclosed_deep}
use Rattle.elixir_terms.specs.Bounded.{AllBounded, atom, integer, string, list, tuple, mapping, none, no_pairs}
use Rattle.elixir_terms.specs.Refusals.{shallow, IsShallow}
use Rattle.elixir_terms.proofs.EnclosedLemmas.{Sound, SlotSound, HolesSound, StateSound, NextSound, element_more, entry_more, keyword_more}

-- a term that is placed

pub placed_sound : (all : ℕ) (t : Term) (holes : List Hole) (left : ℕ) → HolesSound left holes → IsShallow left t → left + levels holes ≡ all → StateSound all (placed t holes)
placed_sound all t [] left h k e = let same : left ≡ all = omega arith in subst (λ n. IsShallow n t) same k
placed_sound all t (hole ∷ holes) left h k e = in_slot hole.slot hole.frame h.0 h.1 e
  where
    in_slot : (place : Slot) (frame : Frame) → SlotSound left place frame → HolesSound (cost_in place frame.bracket + left) holes → left + (cost_in place frame.bracket + levels holes) ≡ all → StateSound all (placed_in place frame t holes)
    in_slot slot.Element frame s outer e = (1 + left, omega arith, s t k, outer)
    in_slot (slot.Keyword key) frame s outer e = (keyword_cost frame.bracket + left, omega arith, s t k, outer)
    in_slot slot.EntryKey frame s outer e = (left, omega arith, s t k, outer)
    in_slot (slot.EntryValue key) frame s outer e = (1 + left, omega arith, s t k, outer)

-- how many levels a token needs in all
abbrev pub begin_need : Token → List Hole → ℕ
begin_need (Words kind ws) holes = 1 + levels holes
begin_need (Open kind) holes = 1 + levels holes
begin_need token holes = 0

abbrev pub element_need : Frame → List Hole → Token → ℕ
element_need frame holes (Key key) = keyword_cost frame.bracket + levels holes
element_need frame holes token = begin_need token (record { frame = frame; slot = part_slot frame.bracket } ∷ holes)

abbrev pub need : State → Token → ℕ
need (state.Value holes) token = begin_need token holes
need (state.Element frame holes) token = element_need frame holes token
need s token = 0

empty_sound : (n : ℕ) (kind : Bracket) → Sound (suc n) (empty kind)
empty_sound n bracket.List = (term.List [], refl, list none)
empty_sound n bracket.Tuple = (term.Tuple [], refl, tuple none)
empty_sound n bracket.Map = (term.Map [], refl, mapping no_pairs tt)

empty_left : (left : ℕ) (kind : Bracket) → 1 ≤ left → Sound left (empty kind)
empty_left left kind h = let same : suc (left - 1) ≡ left = omega arith in subst (λ n. Sound n (empty kind)) same (empty_sound (left - 1) kind)

words_left : (left : ℕ) (terms : List Term) → 1 ≤ left → ((n : ℕ) → AllBounded shallow n terms) → IsShallow left (term.List terms)
words_left left terms h k = let same : suc (left - 1) ≡ left = omega arith in subst (λ n. IsShallow n (term.List terms)) same (list (k (left - 1)))

begun_sound : (all : ℕ) (tok : Token) (holes : List Hole) (left : ℕ) → HolesSound left holes → left + levels holes ≡ all → begin_need tok holes ≤ all → NextSound all (begun tok holes)
begun_sound all (Atom name) holes left h e n = placed_sound all (term.Atom name) holes left h atom e
begun_sound all (Int i) holes left h e n = placed_sound all (term.Int i) holes left h (integer tt) e
begun_sound all (Str bytes) holes left h e n = placed_sound all (term.Str bytes) holes left h string e
begun_sound all (Words kind ws) holes left h e n = let room : 1 ≤ left = omega arith in placed_sound all (word_list kind ws) holes left h (words_left left (map (word_term kind) ws) room (λ n. words_bounded kind ws n)) e
begun_sound all (Open kind) holes left h e n = let room : 1 ≤ left = omega arith in (left, e, empty_left left kind room, h)
begun_sound all (Key key) holes left h e n = tt
begun_sound all (Close closing) holes left h e n = tt
begun_sound all Comma holes left h e n = tt
begun_sound all Arrow holes left h e n = tt

closed_at_sound : (all left : ℕ) (holes : List Hole) (test : Bool) (o : Option Term) → ((t : Term) → o ≡ Some t → IsShallow left t) → HolesSound left holes → left + levels holes ≡ all → NextSound all (cond test (option_map (λ t. placed t holes) o) None)
closed_at_sound all left holes false o k h e = tt
closed_at_sound all left holes true None k h e = tt
closed_at_sound all left holes true (Some t) k h e = placed_sound all t holes left h (k t refl) e

closed_sound : (all left : ℕ) (frame : Frame) (closing : Closing) (holes : List Hole) → Sound left frame → HolesSound left holes → left + levels holes ≡ all → NextSound all (closed frame closing holes)
closed_sound all left frame closing holes s h e =
    closed_at_sound all left holes (is_closed_by frame.bracket closing) (enclosed frame.bracket frame.items frame.entries frame.keywords)
    (λ t same. let one : s.0 ≡ t = some_one (sym s.1 ∙ same) in subst (λ u. IsShallow left u) one s.2) h e
  where
    some_one : {a b : Term} → Some a ≡ Some b → a ≡ b
    some_one e = cc

pub part_slot_sound : (n left : ℕ) (frame : Frame) (place : Slot) → part_slot frame.bracket ≡ place → takes_part frame ≡ true → Sound left frame → left ≡ suc n → SlotSound n place frame
part_slot_sound n left frame slot.Element at free s e =
    λ x k. let r = element_more n frame.bracket frame.items frame.entries frame.keywords x s.0 at free s.1 (subst (λ m. IsShallow m s.0) e s.2) k in
    let up : suc n ≡ 1 + n = omega arith in (r.0, r.1, subst (λ m. IsShallow m r.0) up r.2)
part_slot_sound n left frame slot.EntryKey at free s e =
    λ key kk x k. let r = entry_more n frame.bracket frame.items frame.entries frame.keywords key x s.0 at free s.1 (subst (λ m. IsShallow m s.0) e s.2) kk k in
    let up : suc n ≡ 1 + n = omega arith in (r.0, r.1, subst (λ m. IsShallow m r.0) up r.2)
part_slot_sound n left frame (slot.Keyword key) at free s e = absurd (no_keyword frame.bracket key at)
part_slot_sound n left frame (slot.EntryValue key) at free s e = absurd (no_value frame.bracket key at)

part_cost : (kind : Bracket) → cost_in (part_slot kind) kind ≡ 1
part_cost bracket.List = refl
part_cost bracket.Tuple = refl
part_cost bracket.Map = refl

cond_sound : (all : ℕ) (test : Bool) (o : Option State) → (test ≡ true → NextSound all o) → NextSound all (cond test o None)
cond_sound all true o h = h refl
cond_sound all false o h = tt

part_sound : (all : ℕ) (frame : Frame) (holes : List Hole) (tok : Token) (left : ℕ) → Sound left frame → HolesSound left holes → left + levels holes ≡ all → begin_need tok (record { frame = frame; slot = part_slot frame.bracket } ∷ holes) ≤ all → NextSound all (at_part frame holes tok)
part_sound all frame holes tok left s h e n =
    cond_sound all (takes_part frame) (begun tok (record { frame = frame; slot = part_slot frame.bracket } ∷ holes))
    (λ free.
    let d = enclosed_deep frame.bracket frame.items frame.entries frame.keywords s.0 left s.1 s.2 in
    let deep = d.1 in
    let one = part_cost frame.bracket in
    let same : left ≡ cost_in (part_slot frame.bracket) frame.bracket + d.0 = omega arith in
    let total : d.0 + (cost_in (part_slot frame.bracket) frame.bracket + levels holes) ≡ all = omega arith in
    begun_sound all tok (record { frame = frame; slot = part_slot frame.bracket } ∷ holes) d.0
    (part_slot_sound d.0 left frame (part_slot frame.bracket) refl free s d.1, subst (λ m. HolesSound m holes) same h) total n)

key_sound : (all : ℕ) (frame : Frame) (holes : List Hole) (key : List ℕ) (left : ℕ) → Sound left frame → HolesSound left holes → left + levels holes ≡ all → keyword_cost frame.bracket + levels holes ≤ all → NextSound all (at_key frame holes key)
key_sound all frame holes key left s h e n =
    cond_sound all (takes_key frame) (Some (state.Value (record { frame = frame; slot = slot.Keyword key } ∷ holes)))
    (λ taken.
    let same : left ≡ keyword_cost frame.bracket + (left - keyword_cost frame.bracket) = omega arith in (
      left - keyword_cost frame.bracket,
      omega arith,
      ((λ x k. keyword_more (left - keyword_cost frame.bracket) frame.bracket frame.items frame.entries frame.keywords key x s.0 taken s.1 (subst (λ m. IsShallow m s.0) same s.2) k), subst (λ m. HolesSound m holes) same h),
    ))

element_sound : (all : ℕ) (frame : Frame) (holes : List Hole) (tok : Token) (left : ℕ) → Sound left frame → HolesSound left holes → left + levels holes ≡ all → element_need frame holes tok ≤ all → NextSound all (at_element frame holes tok)
element_sound all frame holes (Close closing) left s h e n = closed_sound all left frame closing holes s h e
element_sound all frame holes (Key key) left s h e n = key_sound all frame holes key left s h e n
element_sound all frame holes (Atom name) left s h e n = part_sound all frame holes (Atom name) left s h e n
element_sound all frame holes (Int i) left s h e n = part_sound all frame holes (Int i) left s h e n
element_sound all frame holes (Str bytes) left s h e n = part_sound all frame holes (Str bytes) left s h e n
element_sound all frame holes (Words kind ws) left s h e n = part_sound all frame holes (Words kind ws) left s h e n
element_sound all frame holes (Open kind) left s h e n = part_sound all frame holes (Open kind) left s h e n
element_sound all frame holes Comma left s h e n = part_sound all frame holes Comma left s h e n
element_sound all frame holes Arrow left s h e n = part_sound all frame holes Arrow left s h e n

separator_sound : (all : ℕ) (frame : Frame) (holes : List Hole) (tok : Token) (left : ℕ) → Sound left frame → HolesSound left holes → left + levels holes ≡ all → NextSound all (at_separator frame holes tok)
separator_sound all frame holes (Close closing) left s h e = closed_sound all left frame closing holes s h e
separator_sound all frame holes Comma left s h e = (left, e, s, h)
separator_sound all frame holes (Atom name) left s h e = tt
separator_sound all frame holes (Int i) left s h e = tt
separator_sound all frame holes (Str bytes) left s h e = tt
separator_sound all frame holes (Words kind ws) left s h e = tt
separator_sound all frame holes (Key key) left s h e = tt
separator_sound all frame holes (Open kind) left s h e = tt
separator_sound all frame holes Arrow left s h e = tt

arrow_sound : (all : ℕ) (key : Term) (frame : Frame) (holes : List Hole) (tok : Token) (left : ℕ) → SlotSound left (slot.EntryValue key) frame → HolesSound (1 + left) holes → 1 + left + levels holes ≡ all → NextSound all (at_arrow key frame holes tok)
arrow_sound all key frame holes Arrow left s h e = (left, omega arith, (s, h))
arrow_sound all key frame holes Comma left s h e = tt
arrow_sound all key frame holes (Close closing) left s h e = tt
arrow_sound all key frame holes (Atom name) left s h e = tt
arrow_sound all key frame holes (Int i) left s h e = tt
arrow_sound all key frame holes (Str bytes) left s h e = tt
arrow_sound all key frame holes (Words kind ws) left s h e = tt
arrow_sound all key frame holes (Key name) left s h e = tt
arrow_sound all key frame holes (Open kind) left s h e = tt

-- after a token that has its levels, the next state can be ended too
pub step_sound : (all : ℕ) (s : State) (tok : Token) → StateSound all s → need s tok ≤ all → NextSound all (step s tok)
step_sound all (state.Value holes) tok h n = begun_sound all tok holes h.0 h.2 h.1 n
step_sound all (state.Element frame holes) tok h n = element_sound all frame holes tok h.0 h.2 h.3 h.1 n
step_sound all (state.Separator frame holes) tok h n = separator_sound all frame holes tok h.0 h.2 h.3 h.1
step_sound all (state.Arrow key frame holes) tok h n = arrow_sound all key frame holes tok h.0 h.2 h.3 h.1
step_sound all (state.Done t) tok h n = tt

-- at the beginning
pub first_sound : (all : ℕ) → StateSound all (state.Value [])
first_sound all = (all, omega arith, tt)

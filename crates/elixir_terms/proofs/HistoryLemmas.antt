-- What the tokens were that lead to a state.
use Rattle.std.proofs.Common.{◌≡◌, ℕ, ◌<◌, arith, length, Bool, true, false, cond, List, [], ◌∷◌, ◌++◌, Option, Some, None, refl, sym, ap, ◌∙◌, subst, append_assoc}
use Rattle.std.specs.Prelude.{option_map}
use Rattle.std.proofs.lemmas.List.{append-nil}
use Rattle.term_tokens.specs.declared.bracket.Bracket.{Bracket}
use Rattle.term_tokens.specs.declared.bracket.Bracket.TheVariants as bracket
use Rattle.elixir_terms.specs.declared.frame.Frame.{Frame}
use Rattle.elixir_terms.specs.declared.frame.Hole.{Hole}
use Rattle.elixir_terms.specs.declared.frame.Slot.{Slot}
use Rattle.elixir_terms.specs.declared.frame.Slot.TheVariants as slot
use Rattle.elixir_terms.specs.declared.state.State.{State}
use Rattle.elixir_terms.specs.declared.state.State.TheVariants as state
use Rattle.term_values.specs.declared.term.Term.{Term}
use Rattle.term_values.specs.declared.term.Term.TheVariants as term
use Rattle.term_tokens.specs.declared.token.Closing.{Closing}
use Rattle.term_tokens.specs.declared.token.Token.{Token}
use Rattle.term_tokens.specs.declared.token.Token.TheVariants.{Atom, Int, Str, Words, Key, Open, Close, Comma, Arrow}
use Rattle.elixir_terms.specs.Codes.{keys_in}
use Rattle.term_print.specs.Grammar.{IsTerm, atom, integer, string, words, brackets, Inside, nothing, Follows, end, comma, enclosed, closing_of, word_list}
use Rattle.term_values.specs.Views.{Pair}
use Rattle.elixir_terms.specs.Machine.{is_closed_by, takes_key, takes_part, part_slot, empty, placed, begun, closed, at_part, at_element, at_separator, at_arrow, step}
use Rattle.elixir_terms.specs.Refusals.{Pairs, none as no_pair}
use Rattle.elixir_terms.proofs.ApartLemmas.{nil_from}
use Rattle.elixir_terms.proofs.StepBack.{same_is, no_keyword, no_value}
use Rattle.elixir_terms.proofs.StepForth.{order_nil}
use Rattle.elixir_terms.proofs.PlacedHistory.{Opens, Bracketed, BeforePart, AfterPart, AfterEntryKey, InSlot, InHoles, History, cut_part, push_outer, placed_history}

-- a bracket that opens

empty_opens : (kind : Bracket) → Opens Inside [] (empty kind)
empty_opens kind part items entries keywords t reads order encloses = brackets reads encloses

opened_history : (Outer : List Token → Type 0) (kind : Bracket) (tokens : List Token) → Outer tokens → BeforePart Outer (empty kind) (tokens ++ Open kind ∷ [])
opened_history Outer kind tokens h = record { outer = tokens; inside = []; split = refl; opens = empty_opens kind; pairs = λ m. no_pair; before = h }

-- where there is a state
abbrev NextHistory : (List Token → ℕ → Type 0) → List Token → Option State → Type 0
NextHistory At tokens None = Unit {0}
NextHistory At tokens (Some s) = History At s tokens

begun_history : (At : List Token → ℕ → Type 0) (tok : Token) (holes : List Hole) (tokens : List Token) → InHoles At holes tokens → NextHistory At (tokens ++ tok ∷ []) (begun tok holes)
begun_history At (Atom name) holes tokens h = placed_history At (term.Atom name) holes tokens (Atom name ∷ []) h atom
begun_history At (Int n) holes tokens h = placed_history At (term.Int n) holes tokens (Int n ∷ []) h integer
begun_history At (Str bytes) holes tokens h = placed_history At (term.Str bytes) holes tokens (Str bytes ∷ []) h string
begun_history At (Words kind ws) holes tokens h = placed_history At (word_list kind ws) holes tokens (Words kind ws ∷ []) h words
begun_history At (Open kind) holes tokens h = opened_history (InHoles At holes) kind tokens h
begun_history At (Key name) holes tokens h = tt
begun_history At (Close closing) holes tokens h = tt
begun_history At Comma holes tokens h = tt
begun_history At Arrow holes tokens h = tt

-- a bracket that closes
closed_history : (At : List Token → ℕ → Type 0) (Part : List Token → List Term → List Pair → List Pair → Type 0) (ends : List Token) → Part [] [] [] [] → (frame : Frame) (closing : Closing) (holes : List Hole) (tokens : List Token) → Bracketed Part ends (InHoles At holes) frame tokens → NextHistory At (tokens ++ Close closing ∷ []) (closed frame closing holes)
closed_history At Part ends nil frame closing holes tokens b = by (is_closed_by frame.bracket closing) (enclosed frame.bracket frame.items frame.entries frame.keywords) refl refl
  where
    by : (c : Bool) (o : Option Term) → is_closed_by frame.bracket closing ≡ c → enclosed frame.bracket frame.items frame.entries frame.keywords ≡ o → NextHistory At (tokens ++ Close closing ∷ []) (cond c (option_map (λ t. placed t holes) o) None)
    by false o c e = tt
    by true None c e = tt
    by true (Some t) c e =
        let same : closing ≡ closing_of frame.bracket = same_is frame.bracket closing c in
        let whole : enclosed frame.bracket (frame.items ++ []) (frame.entries ++ []) (frame.keywords ++ []) ≡ Some t = rw (append-nil frame.items, append-nil frame.entries, append-nil frame.keywords) e in
        let made = b.opens [] [] [] [] t nil (order_nil frame.keywords) whole in
        let word : List Token = Open frame.bracket ∷ (b.inside ++ Close (closing_of frame.bracket) ∷ []) in
        let reads : IsTerm word t = subst (λ l. IsTerm (Open frame.bracket ∷ (l ++ Close (closing_of frame.bracket) ∷ [])) t) (append-nil b.inside) made in
        let cut : tokens ++ Close closing ∷ [] ≡ b.outer ++ word = ap (λ l. l ++ Close closing ∷ []) b.split ∙ append_assoc b.outer (Open frame.bracket ∷ b.inside) (Close closing ∷ []) ∙ ap (λ x. b.outer ++ Open frame.bracket ∷ (b.inside ++ Close x ∷ [])) same in
        subst (History At (placed t holes)) (sym cut) (placed_history At t holes b.outer word b.before reads)

-- the tokens before a part, where it may begin
part_in : (Mark : List Token → Type 0) (Outer : List Token → Type 0) (frame : Frame) (place : Slot) (tokens : List Token) → part_slot frame.bracket ≡ place → takes_part frame ≡ true → Mark tokens → BeforePart Outer frame tokens → InSlot Mark place Outer frame tokens
part_in Mark Outer frame slot.Element tokens at free k b = (nil_from frame.keywords free, (λ m. no_map (sym at ∙ ap part_slot m)), b)
  where
    no_map : slot.Element ≡ slot.EntryKey → ⊥
    no_map e = cc
part_in Mark Outer frame slot.EntryKey tokens at free k b = (nil_from frame.keywords free, map_of frame.bracket at, k, b)
  where
    map_of : (kind : Bracket) → part_slot kind ≡ slot.EntryKey → kind ≡ bracket.Map
    map_of bracket.Map e = refl
    map_of bracket.List e = absurd (cc)
    map_of bracket.Tuple e = absurd (cc)
part_in Mark Outer frame (slot.Keyword key) tokens at free k b = absurd (no_keyword frame.bracket key at)
part_in Mark Outer frame (slot.EntryValue key) tokens at free k b = absurd (no_value frame.bracket key at)

cond_history : (At : List Token → ℕ → Type 0) (tokens : List Token) (test : Bool) (o : Option State) → (test ≡ true → NextHistory At tokens o) → NextHistory At tokens (cond test o None)
cond_history At tokens true o h = h refl
cond_history At tokens false o h = tt

part_history : (At : List Token → ℕ → Type 0) (frame : Frame) (holes : List Hole) (tok : Token) (tokens : List Token) → At tokens (length holes) → BeforePart (InHoles At holes) frame tokens → NextHistory At (tokens ++ tok ∷ []) (at_part frame holes tok)
part_history At frame holes tok tokens k b =
    cond_history At (tokens ++ tok ∷ []) (takes_part frame) (begun tok (record { frame = frame; slot = part_slot frame.bracket } ∷ holes))
    (λ free. begun_history At tok (record { frame = frame; slot = part_slot frame.bracket } ∷ holes) tokens (part_in (λ l. At l (length holes)) (InHoles At holes) frame (part_slot frame.bracket) tokens refl free k b))

element_history : (At : List Token → ℕ → Type 0) (frame : Frame) (holes : List Hole) (tok : Token) (tokens : List Token) → At tokens (length holes) → BeforePart (InHoles At holes) frame tokens → NextHistory At (tokens ++ tok ∷ []) (at_element frame holes tok)
element_history At frame holes (Close closing) tokens k b = closed_history At Inside [] nothing frame closing holes tokens b
element_history At frame holes (Key key) tokens k b = cond_history At (tokens ++ Key key ∷ []) (takes_key frame) (Some (state.Value (record { frame = frame; slot = slot.Keyword key } ∷ holes))) (λ taken. record { front = tokens; split = refl; before = b })
element_history At frame holes (Atom name) tokens k b = part_history At frame holes (Atom name) tokens k b
element_history At frame holes (Int n) tokens k b = part_history At frame holes (Int n) tokens k b
element_history At frame holes (Str bytes) tokens k b = part_history At frame holes (Str bytes) tokens k b
element_history At frame holes (Words kind ws) tokens k b = part_history At frame holes (Words kind ws) tokens k b
element_history At frame holes (Open kind) tokens k b = part_history At frame holes (Open kind) tokens k b
element_history At frame holes Comma tokens k b = part_history At frame holes Comma tokens k b
element_history At frame holes Arrow tokens k b = part_history At frame holes Arrow tokens k b

comma_history : (Outer : List Token → Type 0) (frame : Frame) (tokens : List Token) → AfterPart Outer frame tokens → BeforePart Outer frame (tokens ++ Comma ∷ [])
comma_history Outer frame tokens b = record {
  outer = b.outer;
  inside = b.inside ++ Comma ∷ [];
  split = ap (λ l. l ++ Comma ∷ []) b.split ∙ push_outer b.outer b.inside (Comma ∷ []) (Open frame.bracket);
  opens = λ part items entries keywords u reads order encloses. subst (λ l. IsTerm (Open frame.bracket ∷ l) u) (cut_part b.inside (Comma ∷ []) part (Close (closing_of frame.bracket))) (b.opens (Comma ∷ part) items entries keywords u (comma reads) order encloses);
  pairs = λ m. subst (λ l. Pairs l (keys_in frame)) (sym (append-nil (b.inside ++ Comma ∷ []))) (b.pairs m);
  before = b.before;
}

separator_history : (At : List Token → ℕ → Type 0) (frame : Frame) (holes : List Hole) (tok : Token) (tokens : List Token) → AfterPart (InHoles At holes) frame tokens → NextHistory At (tokens ++ tok ∷ []) (at_separator frame holes tok)
separator_history At frame holes (Close closing) tokens b = closed_history At Follows (Comma ∷ []) end frame closing holes tokens b
separator_history At frame holes Comma tokens b = comma_history (InHoles At holes) frame tokens b
separator_history At frame holes (Key key) tokens b = tt
separator_history At frame holes (Atom name) tokens b = tt
separator_history At frame holes (Int n) tokens b = tt
separator_history At frame holes (Str bytes) tokens b = tt
separator_history At frame holes (Words kind ws) tokens b = tt
separator_history At frame holes (Open kind) tokens b = tt
separator_history At frame holes Arrow tokens b = tt

arrow_history : (At : List Token → ℕ → Type 0) (key : Term) (frame : Frame) (holes : List Hole) (tok : Token) (tokens : List Token) → AfterEntryKey (λ l. At l (length holes)) [] (InHoles At holes) frame key tokens → NextHistory At (tokens ++ tok ∷ []) (at_arrow key frame holes tok)
arrow_history At key frame holes Arrow tokens b = record { front = b.front; word = b.word; split = ap (λ l. l ++ Arrow ∷ []) (b.split ∙ ap (λ l. b.front ++ l) (append-nil b.word)) ∙ append_assoc b.front b.word (Arrow ∷ []); reads = b.reads; free = b.free; map_ = b.map_; mark = tt; before = b.before }
arrow_history At key frame holes Comma tokens b = tt
arrow_history At key frame holes (Close closing) tokens b = tt
arrow_history At key frame holes (Key name) tokens b = tt
arrow_history At key frame holes (Atom name) tokens b = tt
arrow_history At key frame holes (Int n) tokens b = tt
arrow_history At key frame holes (Str bytes) tokens b = tt
arrow_history At key frame holes (Words kind ws) tokens b = tt
arrow_history At key frame holes (Open kind) tokens b = tt

step_history_all : (At : List Token → ℕ → Type 0) (s : State) (tok : Token) (tokens : List Token) → ((frame : Frame) (holes : List Hole) → s ≡ state.Element frame holes → At tokens (length holes)) → History At s tokens → NextHistory At (tokens ++ tok ∷ []) (step s tok)
step_history_all At (state.Value holes) tok tokens k h = begun_history At tok holes tokens h
step_history_all At (state.Element frame holes) tok tokens k h = element_history At frame holes tok tokens (k frame holes refl) h
step_history_all At (state.Separator frame holes) tok tokens k h = separator_history At frame holes tok tokens h
step_history_all At (state.Arrow key frame holes) tok tokens k h = arrow_history At key frame holes tok tokens h
step_history_all At (state.Done t) tok tokens k h = tt

pub step_history : (At : List Token → ℕ → Type 0) (s next : State) (tok : Token) (tokens : List Token) → ((frame : Frame) (holes : List Hole) → s ≡ state.Element frame holes → At tokens (length holes)) → History At s tokens → step s tok ≡ Some next → History At next (tokens ++ tok ∷ [])
step_history At s next tok tokens k h e = subst (NextHistory At (tokens ++ tok ∷ [])) e (step_history_all At s tok tokens k h)

-- what holds before the keys may change, where it still does

outer_map : (Part : List Token → List Term → List Pair → List Pair → Type 0) (ends : List Token) (Old New : List Token → Type 0) (frame : Frame) (tokens : List Token) → ((l : List Token) → Old l → New l) → Bracketed Part ends Old frame tokens → Bracketed Part ends New frame tokens
outer_map Part ends Old New frame tokens f b = record { outer = b.outer; inside = b.inside; split = b.split; opens = b.opens; pairs = b.pairs; before = f b.outer b.before }

holes_map : (Old New : List Token → ℕ → Type 0) (holes : List Hole) (tokens : List Token) → ((l : List Token) (d : ℕ) → d < length holes → Old l d → New l d) → InHoles Old holes tokens → InHoles New holes tokens
holes_map Old New [] tokens f h = h
holes_map Old New (hole ∷ holes) tokens f h = in_slot (λ l. holes_map Old New holes l (λ x d less. f x d (omega arith))) hole.slot hole.frame h
  where
    in_slot : ((l : List Token) → InHoles Old holes l → InHoles New holes l) → (place : Slot) (frame : Frame) → InSlot (λ l. Old l (length holes)) place (InHoles Old holes) frame tokens → InSlot (λ l. New l (length holes)) place (InHoles New holes) frame tokens
    in_slot g slot.Element frame h = (h.0, h.1, outer_map Inside [] (InHoles Old holes) (InHoles New holes) frame tokens g h.2)
    in_slot g (slot.Keyword key) frame h = record { front = h.front; split = h.split; before = outer_map Inside [] (InHoles Old holes) (InHoles New holes) frame h.front g h.before }
    in_slot g slot.EntryKey frame h = (h.0, h.1, f tokens (length holes) (omega arith) h.2, outer_map Inside [] (InHoles Old holes) (InHoles New holes) frame tokens g h.3)
    in_slot g (slot.EntryValue key) frame h = record { front = h.front; word = h.word; split = h.split; reads = h.reads; free = h.free; map_ = h.map_; mark = tt; before = outer_map Inside [] (InHoles Old holes) (InHoles New holes) frame h.front g h.before }

pub element_map : (Old New : List Token → ℕ → Type 0) (frame : Frame) (holes : List Hole) (tokens : List Token) → ((l : List Token) (d : ℕ) → d < length holes → Old l d → New l d) → History Old (state.Element frame holes) tokens → History New (state.Element frame holes) tokens
element_map Old New frame holes tokens f b = outer_map Inside [] (InHoles Old holes) (InHoles New holes) frame tokens (λ l. holes_map Old New holes l f) b

-- The keys of each open map differ, where each was new when it was read.
use Rattle.std.proofs.Common.{◌≡◌, ℕ, ◌+◌, ◌≤◌, Bool, true, false, cond, List, [], ◌∷◌, ◌++◌, Option, Some, None, map, refl, sym, ap, ◌∙◌, subst, arith, append_assoc, ⊎_elim}
use Rattle.std.specs.Prelude.{option_map}
use Rattle.std.proofs.lemmas.List.{append-nil, map-append}
use Rattle.term_tokens.specs.declared.bracket.Bracket.{Bracket}
use Rattle.term_tokens.specs.declared.bracket.Bracket.TheVariants as bracket
use Rattle.elixir_terms.specs.declared.frame.Frame.{Frame}
use Rattle.elixir_terms.specs.declared.frame.Hole.{Hole}
use Rattle.elixir_terms.specs.declared.frame.Slot.{Slot}
use Rattle.elixir_terms.specs.declared.frame.Slot.TheVariants as slot
use Rattle.elixir_terms.specs.declared.state.State.{State}
use Rattle.elixir_terms.specs.declared.state.State.TheVariants as state
use Rattle.term_values.specs.declared.term.Term.{Term}
use Rattle.term_values.specs.declared.term.Term.TheVariants as term
use Rattle.term_tokens.specs.declared.token.Closing.{Closing}
use Rattle.term_tokens.specs.declared.token.Token.{Token}
use Rattle.term_tokens.specs.declared.token.Token.TheVariants.{Atom, Int, Str, Words, Key, Open, Close, Comma, Arrow}
use Rattle.term_print.specs.Grammar.{enclosed, word_list}
use Rattle.term_values.specs.Views.{Pair}
use Rattle.elixir_terms.specs.Levels.{cost_in}
use Rattle.elixir_terms.specs.Codes.{keys_in}
use Rattle.elixir_terms.specs.Machine.{is_none, is_closed_by, takes_key, takes_part, part_slot, empty, placed_in, placed, begun, closed, at_part, at_key, at_element, at_separator, at_arrow, step, NewIn, IsNew, KeysDiffer, BeginsWell, PartWell, ElementWell, Allows}
use Rattle.elixir_terms.specs.Refusals.{IsOneOf}
use Rattle.elixir_terms.specs.Within.{deepest, IsNone, Differ}
use Rattle.elixir_terms.proofs.KeptLemmas.{FrameFits, HolesFit, StateFits, holes_all}
use Rattle.elixir_terms.proofs.SoundLemmas.{begin_need, element_need, need}
use Rattle.elixir_terms.proofs.StepBack.{no_keyword, no_value}

-- lists of different terms

none_right : (t : Term) (xs ys : List Term) → IsNone t xs → IsNone t ys → IsNone t (xs ++ ys)
none_right t [] ys a b = b
none_right t (x ∷ xs) ys a b = (a.0, none_right t xs ys a.1 b)

pub differ_push : (t : Term) (xs : List Term) → Differ xs → IsNone t xs → Differ (xs ++ t ∷ [])
differ_push t [] d n = (tt, tt)
differ_push t (x ∷ xs) d n = (none_right x xs (t ∷ []) d.0 ((λ e. n.0 (sym e)), tt), differ_push t xs d.1 n.1)

none_left : (t : Term) (xs ys : List Term) → IsNone t (xs ++ ys) → IsNone t xs × IsNone t ys
none_left t [] ys n = (tt, n)
none_left t (x ∷ xs) ys n = let r = none_left t xs ys n.1 in ((n.0, r.0), r.1)

-- a term among others that differ is none of them
pub differ_at : (t : Term) (xs ys : List Term) → Differ (xs ++ t ∷ ys) → IsNone t xs × IsNone t ys
differ_at t [] ys d = (tt, d.0)
differ_at t (x ∷ xs) ys d = let r = differ_at t xs ys d.1 in let n = none_left x xs (t ∷ ys) d.0 in (((λ e. n.1.0 (sym e)), r.0), r.1)

pub none_join : (t : Term) (xs ys : List Term) → IsNone t xs → IsNone t ys → IsNone t (xs ++ ys)
none_join t xs ys a b = none_right t xs ys a b

pub none_part : (t : Term) (xs ys : List Term) → IsNone t (xs ++ ys) → IsNone t xs × IsNone t ys
none_part t xs ys n = none_left t xs ys n

-- no term is none and one of them
pub not_one : (t : Term) (ts : List Term) → IsNone t ts → IsOneOf t ts → ⊥
not_one t [] n o = o
not_one t (x ∷ ts) n o = ⊎_elim n.0 (not_one t ts n.1) o

-- the keys in open brackets

abbrev pub FrameApart : Frame → Type 0
FrameApart frame = KeysDiffer frame.bracket frame.entries frame.keywords

abbrev pub SlotApart : Slot → Frame → Type 0
SlotApart slot.Element frame = FrameApart frame
SlotApart (slot.Keyword key) frame = FrameApart frame × NewIn frame.bracket (term.Atom key) (keys_in frame)
SlotApart slot.EntryKey frame = FrameApart frame × (frame.keywords ≡ [])
SlotApart (slot.EntryValue key) frame = FrameApart frame × (frame.keywords ≡ []) × NewIn frame.bracket key (keys_in frame)

abbrev pub HolesApart : List Hole → Type 0
HolesApart [] = Unit {0}
HolesApart (hole ∷ holes) = SlotApart hole.slot hole.frame × HolesApart holes

abbrev pub StateApart : State → Type 0
StateApart (state.Value holes) = HolesApart holes
StateApart (state.Element frame holes) = FrameApart frame × HolesApart holes
StateApart (state.Separator frame holes) = FrameApart frame × HolesApart holes
StateApart (state.Arrow key frame holes) = SlotApart (slot.EntryValue key) frame × HolesApart holes
StateApart (state.Done t) = Unit {0}

abbrev pub NextApart : Option State → Type 0
NextApart None = Unit {0}
NextApart (Some s) = IsNew s → StateApart s

keyword_apart : (kind : Bracket) (entries keywords : List Pair) (key t : Term) → KeysDiffer kind entries keywords → NewIn kind key (map (λ p. p.0) (entries ++ keywords)) → KeysDiffer kind entries (keywords ++ (key, t) ∷ [])
keyword_apart bracket.List entries keywords key t d n = tt
keyword_apart bracket.Tuple entries keywords key t d n = tt
keyword_apart bracket.Map entries keywords key t d n =
    let whole : entries ++ (keywords ++ (key, t) ∷ []) ≡ (entries ++ keywords) ++ (key, t) ∷ [] = sym (append_assoc entries keywords ((key, t) ∷ [])) in
    subst (λ l. Differ l) (sym (ap (map (λ (p : Pair). p.0)) whole ∙ map-append (λ (p : Pair). p.0) (entries ++ keywords) ((key, t) ∷ []))) (differ_push key (map (λ p. p.0) (entries ++ keywords)) d n)

entry_apart : (kind : Bracket) (entries keywords : List Pair) (key t : Term) → keywords ≡ [] → KeysDiffer kind entries keywords → NewIn kind key (map (λ p. p.0) (entries ++ keywords)) → KeysDiffer kind (entries ++ (key, t) ∷ []) keywords
entry_apart bracket.List entries keywords key t e d n = tt
entry_apart bracket.Tuple entries keywords key t e d n = tt
entry_apart bracket.Map entries keywords key t e d n =
    let old : entries ++ keywords ≡ entries = ap (λ l. entries ++ l) e ∙ append-nil entries in
    let new : (entries ++ (key, t) ∷ []) ++ keywords ≡ entries ++ (key, t) ∷ [] = ap (λ l. (entries ++ (key, t) ∷ []) ++ l) e ∙ append-nil (entries ++ (key, t) ∷ []) in
    let keys = ap (map (λ (p : Pair). p.0)) old in
    subst (λ l. Differ l) (sym (ap (map (λ (p : Pair). p.0)) new ∙ map-append (λ (p : Pair). p.0) entries ((key, t) ∷ []))) (differ_push key (map (λ p. p.0) entries) (subst Differ keys d) (subst (IsNone key) keys n))

placed_apart : (t : Term) (holes : List Hole) → HolesApart holes → IsNew (placed t holes) → StateApart (placed t holes)
placed_apart t [] h n = tt
placed_apart t (hole ∷ holes) h n = in_slot hole.slot hole.frame h.0 h.1 n
  where
    in_slot : (place : Slot) (frame : Frame) → SlotApart place frame → HolesApart holes → IsNew (placed_in place frame t holes) → StateApart (placed_in place frame t holes)
    in_slot slot.Element frame s h n = (s, h)
    in_slot (slot.Keyword key) frame s h n = (keyword_apart frame.bracket frame.entries frame.keywords (term.Atom key) t s.0 s.1, h)
    in_slot slot.EntryKey frame s h n = ((s.0, s.1, n), h)
    in_slot (slot.EntryValue key) frame s h n = (entry_apart frame.bracket frame.entries frame.keywords key t s.1 s.0 s.2, h)

empty_apart : (kind : Bracket) → FrameApart (empty kind)
empty_apart bracket.List = tt
empty_apart bracket.Tuple = tt
empty_apart bracket.Map = tt

begun_apart : (tok : Token) (holes : List Hole) → HolesApart holes → NextApart (begun tok holes)
begun_apart (Atom name) holes h = placed_apart (term.Atom name) holes h
begun_apart (Int i) holes h = placed_apart (term.Int i) holes h
begun_apart (Str bytes) holes h = placed_apart (term.Str bytes) holes h
begun_apart (Words kind ws) holes h = placed_apart (word_list kind ws) holes h
begun_apart (Open kind) holes h = λ n. (empty_apart kind, h)
begun_apart (Key key) holes h = tt
begun_apart (Close closing) holes h = tt
begun_apart Comma holes h = tt
begun_apart Arrow holes h = tt

closed_apart : (frame : Frame) (closing : Closing) (holes : List Hole) → HolesApart holes → NextApart (closed frame closing holes)
closed_apart frame closing holes h = by (is_closed_by frame.bracket closing) (enclosed frame.bracket frame.items frame.entries frame.keywords)
  where
    by : (b : Bool) (o : Option Term) → NextApart (cond b (option_map (λ t. placed t holes) o) None)
    by false o = tt
    by true None = tt
    by true (Some t) = placed_apart t holes h

pub nil_from : (keywords : List Pair) → is_none keywords ≡ true → keywords ≡ []
nil_from [] e = refl
nil_from (p ∷ keywords) e = absurd (cc)

part_place : (frame : Frame) (place : Slot) → part_slot frame.bracket ≡ place → takes_part frame ≡ true → FrameApart frame → SlotApart place frame
part_place frame slot.Element at free d = d
part_place frame slot.EntryKey at free d = (d, nil_from frame.keywords free)
part_place frame (slot.Keyword key) at free d = absurd (no_keyword frame.bracket key at)
part_place frame (slot.EntryValue key) at free d = absurd (no_value frame.bracket key at)

cond_apart : (test : Bool) (o : Option State) → (test ≡ true → NextApart o) → NextApart (cond test o None)
cond_apart true o h = h refl
cond_apart false o h = tt

part_apart : (frame : Frame) (holes : List Hole) (tok : Token) → FrameApart frame → HolesApart holes → NextApart (at_part frame holes tok)
part_apart frame holes tok d h =
    cond_apart (takes_part frame) (begun tok (record { frame = frame; slot = part_slot frame.bracket } ∷ holes))
    (λ free. begun_apart tok (record { frame = frame; slot = part_slot frame.bracket } ∷ holes) (part_place frame (part_slot frame.bracket) refl free d, h))

key_apart : (frame : Frame) (holes : List Hole) (key : List ℕ) → FrameApart frame → HolesApart holes → NextApart (at_key frame holes key)
key_apart frame holes key d h = cond_apart (takes_key frame) (Some (state.Value (record { frame = frame; slot = slot.Keyword key } ∷ holes))) (λ taken n. ((d, n), h))

element_apart : (frame : Frame) (holes : List Hole) (tok : Token) → FrameApart frame → HolesApart holes → NextApart (at_element frame holes tok)
element_apart frame holes (Close closing) d h = closed_apart frame closing holes h
element_apart frame holes (Key key) d h = key_apart frame holes key d h
element_apart frame holes (Atom name) d h = part_apart frame holes (Atom name) d h
element_apart frame holes (Int i) d h = part_apart frame holes (Int i) d h
element_apart frame holes (Str bytes) d h = part_apart frame holes (Str bytes) d h
element_apart frame holes (Words kind ws) d h = part_apart frame holes (Words kind ws) d h
element_apart frame holes (Open kind) d h = part_apart frame holes (Open kind) d h
element_apart frame holes Comma d h = part_apart frame holes Comma d h
element_apart frame holes Arrow d h = part_apart frame holes Arrow d h

separator_apart : (frame : Frame) (holes : List Hole) (tok : Token) → FrameApart frame → HolesApart holes → NextApart (at_separator frame holes tok)
separator_apart frame holes (Close closing) d h = closed_apart frame closing holes h
separator_apart frame holes Comma d h = λ n. (d, h)
separator_apart frame holes (Key key) d h = tt
separator_apart frame holes (Atom name) d h = tt
separator_apart frame holes (Int i) d h = tt
separator_apart frame holes (Str bytes) d h = tt
separator_apart frame holes (Words kind ws) d h = tt
separator_apart frame holes (Open kind) d h = tt
separator_apart frame holes Arrow d h = tt

arrow_apart : (key : Term) (frame : Frame) (holes : List Hole) (tok : Token) → SlotApart (slot.EntryValue key) frame → HolesApart holes → NextApart (at_arrow key frame holes tok)
arrow_apart key frame holes Arrow s h = λ n. (s, h)
arrow_apart key frame holes Comma s h = tt
arrow_apart key frame holes (Close closing) s h = tt
arrow_apart key frame holes (Key name) s h = tt
arrow_apart key frame holes (Atom name) s h = tt
arrow_apart key frame holes (Int i) s h = tt
arrow_apart key frame holes (Str bytes) s h = tt
arrow_apart key frame holes (Words kind ws) s h = tt
arrow_apart key frame holes (Open kind) s h = tt

step_apart_all : (s : State) (tok : Token) → StateApart s → NextApart (step s tok)
step_apart_all (state.Value holes) tok h = begun_apart tok holes h
step_apart_all (state.Element frame holes) tok h = element_apart frame holes tok h.0 h.1
step_apart_all (state.Separator frame holes) tok h = separator_apart frame holes tok h.0 h.1
step_apart_all (state.Arrow key frame holes) tok h = arrow_apart key frame holes tok h.0 h.1
step_apart_all (state.Done t) tok h = tt

-- they still differ after a token, where the last key is new
pub step_apart : (s next : State) (tok : Token) → StateApart s → step s tok ≡ Some next → IsNew next → StateApart next
step_apart s next tok h e n = subst NextApart e (step_apart_all s tok h) n

-- so the token is within the limits

pub begins_allow : (tok : Token) (holes : List Hole) → begin_need tok holes ≤ deepest → BeginsWell tok holes
begins_allow (Words kind ws) holes h = omega arith
begins_allow (Open kind) holes h = omega arith
begins_allow (Atom name) holes h = tt
begins_allow (Int i) holes h = tt
begins_allow (Str bytes) holes h = tt
begins_allow (Key key) holes h = tt
begins_allow (Close closing) holes h = tt
begins_allow Comma holes h = tt
begins_allow Arrow holes h = tt

one_cost : (kind : Bracket) → cost_in (part_slot kind) kind ≡ 1
one_cost bracket.List = refl
one_cost bracket.Tuple = refl
one_cost bracket.Map = refl

pub part_allow : (frame : Frame) (holes : List Hole) (tok : Token) (left : ℕ) → FrameFits left frame → HolesFit holes left → begin_need tok (record { frame = frame; slot = part_slot frame.bracket } ∷ holes) ≤ deepest → PartWell frame holes tok
part_allow frame holes tok left f h n =
    let all = holes_all holes left h in
    let level = f.level in
    let one = one_cost frame.bracket in
    (omega arith, begins_allow tok (record { frame = frame; slot = part_slot frame.bracket } ∷ holes) n)

element_allow : (frame : Frame) (holes : List Hole) (tok : Token) (left : ℕ) → FrameFits left frame → HolesFit holes left → FrameApart frame → element_need frame holes tok ≤ deepest → ElementWell frame holes tok
element_allow frame holes (Close closing) left f h d n = d
element_allow frame holes (Key key) left f h d n = n
element_allow frame holes (Atom name) left f h d n = part_allow frame holes (Atom name) left f h n
element_allow frame holes (Int i) left f h d n = part_allow frame holes (Int i) left f h n
element_allow frame holes (Str bytes) left f h d n = part_allow frame holes (Str bytes) left f h n
element_allow frame holes (Words kind ws) left f h d n = part_allow frame holes (Words kind ws) left f h n
element_allow frame holes (Open kind) left f h d n = part_allow frame holes (Open kind) left f h n
element_allow frame holes Comma left f h d n = part_allow frame holes Comma left f h n
element_allow frame holes Arrow left f h d n = part_allow frame holes Arrow left f h n

pub allows : (s : State) (tok : Token) → StateFits s → StateApart s → need s tok ≤ deepest → Allows s tok
allows (state.Value holes) tok f d n = begins_allow tok holes n
allows (state.Element frame holes) tok f d n = element_allow frame holes tok f.0 f.1 f.2 d.0 n
allows (state.Separator frame holes) (Close closing) f d n = d.0
allows (state.Separator frame holes) Comma f d n = tt
allows (state.Separator frame holes) (Key key) f d n = tt
allows (state.Separator frame holes) (Atom name) f d n = tt
allows (state.Separator frame holes) (Int i) f d n = tt
allows (state.Separator frame holes) (Str bytes) f d n = tt
allows (state.Separator frame holes) (Words kind ws) f d n = tt
allows (state.Separator frame holes) (Open kind) f d n = tt
allows (state.Separator frame holes) Arrow f d n = tt
allows (state.Arrow key frame holes) tok f d n = let all = holes_all holes (1 + f.0) f.3 in omega arith
allows (state.Done t) tok f d n = tt

-- What a state's next state wants, the state wants before the token.
use Rattle.std.proofs.Common.{◌≡◌, ℕ, Bool, true, false, List, [], ◌∷◌, ◌++◌, Option, Some, None, cond, refl, sym, ap, ◌∙◌, subst, append_assoc}
use Rattle.std.specs.Prelude.{option_map}
use Rattle.std.proofs.lemmas.List.{append-nil}
use Rattle.term_tokens.specs.declared.bracket.Bracket.{Bracket}
use Rattle.term_tokens.specs.declared.bracket.Bracket.TheVariants as bracket
use Rattle.elixir_terms.specs.declared.frame.Frame.{Frame}
use Rattle.elixir_terms.specs.declared.frame.Hole.{Hole}
use Rattle.elixir_terms.specs.declared.frame.Slot.{Slot}
use Rattle.elixir_terms.specs.declared.frame.Slot.TheVariants as slot
use Rattle.elixir_terms.specs.declared.state.State.{State}
use Rattle.elixir_terms.specs.declared.state.State.TheVariants as state
use Rattle.term_values.specs.declared.term.Term.{Term}
use Rattle.term_values.specs.declared.term.Term.TheVariants as term
use Rattle.term_tokens.specs.declared.token.Closing.{Closing}
use Rattle.term_tokens.specs.declared.token.Closing.TheVariants.{Square, Curly}
use Rattle.term_tokens.specs.declared.token.Token.{Token}
use Rattle.term_tokens.specs.declared.token.Token.TheVariants.{Atom, Int, Str, Words, Key, Open, Close, Comma, Arrow}
use Rattle.term_print.specs.Grammar.{IsTerm, atom, integer, string, words, brackets, Inside, nothing, element, entry, keyword, Follows, end, comma, enclosed, closing_of, word_list}
use Rattle.term_values.specs.Views.{Pair}
use Rattle.elixir_terms.specs.Machine.{is_closed_by, is_none, takes_key, takes_part, part_slot, placed_in, placed, begun, closed, at_part, at_element, at_separator, at_arrow, step}
use Rattle.elixir_terms.proofs.Meaning.{InOrder, Continues, Values, Arrows, FilledIn, Filled, Wants, WantsNext}
use Rattle.elixir_terms.proofs.StepForth.{order_nil}

placed_in_back : (u t : Term) (place : Slot) (frame : Frame) (holes : List Hole) (tokens : List Token) → Wants u (placed_in place frame t holes) tokens → FilledIn place frame (Filled u holes) t tokens
placed_in_back u t slot.Element frame holes tokens h = h
placed_in_back u t (slot.Keyword key) frame holes tokens h = h
placed_in_back u t slot.EntryKey frame holes tokens h = h
placed_in_back u t (slot.EntryValue key) frame holes tokens h = h

placed_back : (u t : Term) (holes : List Hole) (tokens : List Token) → Wants u (placed t holes) tokens → Filled u holes t tokens
placed_back u t [] tokens h = h
placed_back u t (hole ∷ holes) tokens h = placed_in_back u t hole.slot hole.frame holes tokens h

pub order_push : (keywords : List Pair) (items : List Term) (entries : List Pair) (p : Pair) → InOrder (keywords ++ p ∷ []) items entries → (items ≡ []) × (entries ≡ [])
order_push [] items entries p h = h
order_push (q ∷ keywords) items entries p h = h

pub order_under : (keywords : List Pair) (items : List Term) (entries : List Pair) → is_none keywords ≡ true → InOrder keywords items entries
order_under [] items entries h = tt
order_under (p ∷ keywords) items entries h = absurd (cc)

pub same_is : (kind : Bracket) (closing : Closing) → is_closed_by kind closing ≡ true → closing ≡ closing_of kind
same_is bracket.List Square h = refl
same_is bracket.Tuple Curly h = refl
same_is bracket.Map Curly h = refl
same_is bracket.List Curly h = absurd (cc)
same_is bracket.Tuple Square h = absurd (cc)
same_is bracket.Map Square h = absurd (cc)

begun_back : (u : Term) (tok : Token) (tokens : List Token) (holes : List Hole) → WantsNext u (begun tok holes) tokens → Values (Filled u holes) (tok ∷ tokens)
begun_back u (Atom name) tokens holes w = record { word = Atom name ∷ []; rest = tokens; t = term.Atom name; reads = atom; split = refl; outside = placed_back u (term.Atom name) holes tokens w }
begun_back u (Int n) tokens holes w = record { word = Int n ∷ []; rest = tokens; t = term.Int n; reads = integer; split = refl; outside = placed_back u (term.Int n) holes tokens w }
begun_back u (Str bytes) tokens holes w = record { word = Str bytes ∷ []; rest = tokens; t = term.Str bytes; reads = string; split = refl; outside = placed_back u (term.Str bytes) holes tokens w }
begun_back u (Words kind ws) tokens holes w = record { word = Words kind ws ∷ []; rest = tokens; t = word_list kind ws; reads = words; split = refl; outside = placed_back u (word_list kind ws) holes tokens w }
begun_back u (Open kind) tokens holes w =
    record {
      word = Open kind ∷ (w.part ++ Close (closing_of kind) ∷ []);
      rest = w.rest;
      t = w.t;
      reads = brackets w.reads w.encloses;
      split = ap (λ l. Open kind ∷ l) (w.split ∙ sym (append_assoc w.part (Close (closing_of kind) ∷ []) w.rest));
      outside = w.outside;
    }
begun_back u (Key key) tokens holes w = absurd w
begun_back u (Close closing) tokens holes w = absurd w
begun_back u Comma tokens holes w = absurd w
begun_back u Arrow tokens holes w = absurd w

-- a bracket that closes, and the term that it makes
record Closes (u : Term) (frame : Frame) (closing : Closing) (holes : List Hole) (tokens : List Token) : Type 0 where
  t : Term
  same : closing ≡ closing_of frame.bracket
  encloses : enclosed frame.bracket frame.items frame.entries frame.keywords ≡ Some t
  outside : Filled u holes t tokens

closed_at : (u : Term) (holes : List Hole) (tokens : List Token) (test : Bool) (o : Option Term) → WantsNext u (cond test (option_map (λ t. placed t holes) o) None) tokens → (test ≡ true) × (t : Term) × (o ≡ Some t) × Filled u holes t tokens
closed_at u holes tokens false o w = absurd w
closed_at u holes tokens true None w = absurd w
closed_at u holes tokens true (Some t) w = (refl, t, refl, placed_back u t holes tokens w)

closed_back : (u : Term) (frame : Frame) (closing : Closing) (holes : List Hole) (tokens : List Token) → WantsNext u (closed frame closing holes) tokens → Closes u frame closing holes tokens
closed_back u frame closing holes tokens w =
    let k = closed_at u holes tokens (is_closed_by frame.bracket closing) (enclosed frame.bracket frame.items frame.entries frame.keywords) w in
    record { t = k.1; same = same_is frame.bracket closing k.0; encloses = k.2; outside = k.3 }

close_back : (u : Term) (frame : Frame) (closing : Closing) (holes : List Hole) (tokens : List Token) (Part : List Token → List Term → List Pair → List Pair → Type 0) → Part [] [] [] [] → Closes u frame closing holes tokens → Continues Part frame (Filled u holes) (Close closing ∷ tokens)
close_back u frame closing holes tokens Part reads k =
    let whole : enclosed frame.bracket (frame.items ++ []) (frame.entries ++ []) (frame.keywords ++ []) ≡ Some k.t = rw (append-nil frame.items, append-nil frame.entries, append-nil frame.keywords) k.encloses in
    record { part = []; rest = tokens; items = []; entries = []; keywords = []; t = k.t; reads = reads; split = ap (λ b. Close b ∷ tokens) k.same; order = order_nil frame.keywords; encloses = whole; outside = k.outside }

cond_back : (u : Term) (tokens : List Token) (test : Bool) (o : Option State) → WantsNext u (cond test o None) tokens → (test ≡ true) × WantsNext u o tokens
cond_back u tokens true o w = (refl, w)
cond_back u tokens false o w = absurd w

key_back : (u : Term) (frame : Frame) (holes : List Hole) (key : List ℕ) (tokens : List Token) → Values (Filled u (record { frame = frame; slot = slot.Keyword key } ∷ holes)) tokens → Continues Inside frame (Filled u holes) (Key key ∷ tokens)
key_back u frame holes key tokens v =
    let k = v.outside in
    let p : Pair = (term.Atom key, v.t) in
    let none = order_push frame.keywords k.items k.entries p k.order in
    let follows : Follows k.part [] [] k.keywords = subst (λ l. Follows k.part [] l k.keywords) none.1 (subst (λ l. Follows k.part l k.entries k.keywords) none.0 k.reads) in
    let at_none : enclosed frame.bracket (frame.items ++ []) (frame.entries ++ []) ((frame.keywords ++ p ∷ []) ++ k.keywords) ≡ Some k.t =
    subst (λ l. enclosed frame.bracket (frame.items ++ []) (frame.entries ++ l) ((frame.keywords ++ p ∷ []) ++ k.keywords) ≡ Some k.t) none.1
    (subst (λ l. enclosed frame.bracket (frame.items ++ l) (frame.entries ++ k.entries) ((frame.keywords ++ p ∷ []) ++ k.keywords) ≡ Some k.t) none.0 k.encloses) in
    let whole : enclosed frame.bracket (frame.items ++ []) (frame.entries ++ []) (frame.keywords ++ p ∷ k.keywords) ≡ Some k.t = rw (append_assoc frame.keywords (p ∷ []) k.keywords) at at_none in
    record {
      part = Key key ∷ (v.word ++ k.part);
      rest = k.rest;
      items = [];
      entries = [];
      keywords = p ∷ k.keywords;
      t = k.t;
      reads = keyword v.reads follows;
      split = ap (λ l. Key key ∷ l) (v.split ∙ ap (λ l. v.word ++ l) k.split ∙ sym (append_assoc v.word k.part (Close (closing_of frame.bracket) ∷ k.rest)));
      order = order_nil frame.keywords;
      encloses = whole;
      outside = k.outside;
    }

pub no_keyword : (kind : Bracket) (key : List ℕ) → part_slot kind ≡ slot.Keyword key → ⊥
no_keyword bracket.List key e = cc
no_keyword bracket.Tuple key e = cc
no_keyword bracket.Map key e = cc

pub no_value : (kind : Bracket) (key : Term) → part_slot kind ≡ slot.EntryValue key → ⊥
no_value bracket.List key e = cc
no_value bracket.Tuple key e = cc
no_value bracket.Map key e = cc

-- a part that a term without a keyword's key begins
part_at : (u : Term) (frame : Frame) (holes : List Hole) (all word rest : List Token) (t : Term) (place : Slot) → IsTerm word t → all ≡ word ++ rest → is_none frame.keywords ≡ true → FilledIn place frame (Filled u holes) t rest → part_slot frame.bracket ≡ place → Continues Inside frame (Filled u holes) all
part_at u frame holes all word rest t slot.Element reads split free k at =
    let whole : enclosed frame.bracket (frame.items ++ t ∷ k.items) (frame.entries ++ k.entries) (frame.keywords ++ k.keywords) ≡ Some k.t = rw (append_assoc frame.items (t ∷ []) k.items) at k.encloses in
    record {
      part = word ++ k.part;
      rest = k.rest;
      items = t ∷ k.items;
      entries = k.entries;
      keywords = k.keywords;
      t = k.t;
      reads = element reads k.reads;
      split = split ∙ ap (λ l. word ++ l) k.split ∙ sym (append_assoc word k.part (Close (closing_of frame.bracket) ∷ k.rest));
      order = order_under frame.keywords (t ∷ k.items) k.entries free;
      encloses = whole;
      outside = k.outside;
    }
part_at u frame holes all word rest t slot.EntryKey reads split free a at =
    let v = a.value in
    let k = v.outside in
    let p : Pair = (t, v.t) in
    let close = Close (closing_of frame.bracket) ∷ k.rest in
    let whole : enclosed frame.bracket (frame.items ++ k.items) (frame.entries ++ p ∷ k.entries) (frame.keywords ++ k.keywords) ≡ Some k.t = rw (append_assoc frame.entries (p ∷ []) k.entries) at k.encloses in
    let tail : rest ≡ Arrow ∷ (v.word ++ (k.part ++ close)) = a.begins ∙ ap (λ l. Arrow ∷ l) (v.split ∙ ap (λ l. v.word ++ l) k.split) in
    record {
      part = (word ++ Arrow ∷ v.word) ++ k.part;
      rest = k.rest;
      items = k.items;
      entries = p ∷ k.entries;
      keywords = k.keywords;
      t = k.t;
      reads = entry reads v.reads k.reads;
      split = split ∙ ap (λ l. word ++ l) tail ∙ sym (append_assoc (word ++ Arrow ∷ v.word) k.part close ∙ append_assoc word (Arrow ∷ v.word) (k.part ++ close));
      order = order_under frame.keywords k.items (p ∷ k.entries) free;
      encloses = whole;
      outside = k.outside;
    }
part_at u frame holes all word rest t (slot.Keyword key) reads split free k at = absurd (no_keyword frame.bracket key at)
part_at u frame holes all word rest t (slot.EntryValue key) reads split free k at = absurd (no_value frame.bracket key at)

plain_back : (u : Term) (frame : Frame) (holes : List Hole) (tok : Token) (tokens : List Token) → WantsNext u (at_part frame holes tok) tokens → Continues Inside frame (Filled u holes) (tok ∷ tokens)
plain_back u frame holes tok tokens w =
    let taken = cond_back u tokens (takes_part frame) (begun tok (record { frame = frame; slot = part_slot frame.bracket } ∷ holes)) w in
    let v = begun_back u tok tokens (record { frame = frame; slot = part_slot frame.bracket } ∷ holes) taken.1 in
    part_at u frame holes (tok ∷ tokens) v.word v.rest v.t (part_slot frame.bracket) v.reads v.split taken.0 v.outside refl

element_back : (u : Term) (frame : Frame) (holes : List Hole) (tok : Token) (tokens : List Token) → WantsNext u (at_element frame holes tok) tokens → Continues Inside frame (Filled u holes) (tok ∷ tokens)
element_back u frame holes (Close closing) tokens w = close_back u frame closing holes tokens Inside nothing (closed_back u frame closing holes tokens w)
element_back u frame holes (Key key) tokens w = key_back u frame holes key tokens (cond_back u tokens (takes_key frame) (Some (state.Value (record { frame = frame; slot = slot.Keyword key } ∷ holes))) w).1
element_back u frame holes (Atom name) tokens w = plain_back u frame holes (Atom name) tokens w
element_back u frame holes (Int n) tokens w = plain_back u frame holes (Int n) tokens w
element_back u frame holes (Str bytes) tokens w = plain_back u frame holes (Str bytes) tokens w
element_back u frame holes (Words kind ws) tokens w = plain_back u frame holes (Words kind ws) tokens w
element_back u frame holes (Open kind) tokens w = plain_back u frame holes (Open kind) tokens w
element_back u frame holes Comma tokens w = plain_back u frame holes Comma tokens w
element_back u frame holes Arrow tokens w = plain_back u frame holes Arrow tokens w

separator_back : (u : Term) (frame : Frame) (holes : List Hole) (tok : Token) (tokens : List Token) → WantsNext u (at_separator frame holes tok) tokens → Continues Follows frame (Filled u holes) (tok ∷ tokens)
separator_back u frame holes (Close closing) tokens w = close_back u frame closing holes tokens Follows end (closed_back u frame closing holes tokens w)
separator_back u frame holes Comma tokens w = record { part = Comma ∷ w.part; rest = w.rest; items = w.items; entries = w.entries; keywords = w.keywords; t = w.t; reads = comma w.reads; split = ap (λ l. Comma ∷ l) w.split; order = w.order; encloses = w.encloses; outside = w.outside }
separator_back u frame holes (Atom name) tokens w = absurd w
separator_back u frame holes (Int n) tokens w = absurd w
separator_back u frame holes (Str bytes) tokens w = absurd w
separator_back u frame holes (Words kind ws) tokens w = absurd w
separator_back u frame holes (Key key) tokens w = absurd w
separator_back u frame holes (Open kind) tokens w = absurd w
separator_back u frame holes Arrow tokens w = absurd w

arrow_back : (u key : Term) (frame : Frame) (holes : List Hole) (tok : Token) (tokens : List Token) → WantsNext u (at_arrow key frame holes tok) tokens → Arrows key frame (Filled u holes) (tok ∷ tokens)
arrow_back u key frame holes Arrow tokens w = record { after = tokens; begins = refl; value = w }
arrow_back u key frame holes Comma tokens w = absurd w
arrow_back u key frame holes (Close closing) tokens w = absurd w
arrow_back u key frame holes (Atom name) tokens w = absurd w
arrow_back u key frame holes (Int n) tokens w = absurd w
arrow_back u key frame holes (Str bytes) tokens w = absurd w
arrow_back u key frame holes (Words kind ws) tokens w = absurd w
arrow_back u key frame holes (Key name) tokens w = absurd w
arrow_back u key frame holes (Open kind) tokens w = absurd w

-- what a state's next state wants, the state wants before the token
pub step_back : (u : Term) (s : State) (tok : Token) (tokens : List Token) → WantsNext u (step s tok) tokens → Wants u s (tok ∷ tokens)
step_back u (state.Value holes) tok tokens w = begun_back u tok tokens holes w
step_back u (state.Element frame holes) tok tokens w = element_back u frame holes tok tokens w
step_back u (state.Separator frame holes) tok tokens w = separator_back u frame holes tok tokens w
step_back u (state.Arrow key frame holes) tok tokens w = arrow_back u key frame holes tok tokens w
step_back u (state.Done t) tok tokens w = absurd w

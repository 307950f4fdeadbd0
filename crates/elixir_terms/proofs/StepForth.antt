-- What a state wants, its next state wants after the token.
use Rattle.std.proofs.Common.{◌≡◌, ℕ, true, List, [], ◌∷◌, ◌++◌, Some, None, cond, refl, ◌∙◌, append_assoc}
use Rattle.std.proofs.lemmas.List.{append-nil}
use Rattle.term_tokens.specs.declared.bracket.Bracket.{Bracket}
use Rattle.term_tokens.specs.declared.bracket.Bracket.TheVariants as bracket
use Rattle.elixir_terms.specs.declared.frame.Frame.{Frame}
use Rattle.elixir_terms.specs.declared.frame.Hole.{Hole}
use Rattle.elixir_terms.specs.declared.frame.Slot.{Slot}
use Rattle.elixir_terms.specs.declared.frame.Slot.TheVariants as slot
use Rattle.elixir_terms.specs.declared.state.State.{State}
use Rattle.elixir_terms.specs.declared.state.State.TheVariants as state
use Rattle.term_values.specs.declared.term.Term.{Term}
use Rattle.term_values.specs.declared.term.Term.TheVariants as term
use Rattle.term_tokens.specs.declared.token.Token.{Token}
use Rattle.term_tokens.specs.declared.token.Token.TheVariants.{Atom, Int, Str, Words, Key, Open, Close, Comma, Arrow}
use Rattle.term_print.specs.Grammar.{IsTerm, atom, integer, string, words, brackets, Inside, nothing, element, entry, keyword, Follows, end, comma, enclosed, closing_of, word_list}
use Rattle.term_values.specs.Views.{Pair}
use Rattle.elixir_terms.specs.Machine.{is_closed_by, is_none, takes_key, takes_key_in, takes_part, part_slot, placed_in, placed, begun, closed, at_element, at_separator, at_arrow, step}
use Rattle.elixir_terms.proofs.Meaning.{InOrder, Continues, Values, FilledIn, AfterEntry, AfterKeyword, Filled, Wants, WantsNext}

placed_in_forth : (u t : Term) (place : Slot) (frame : Frame) (holes : List Hole) (tokens : List Token) → FilledIn place frame (Filled u holes) t tokens → Wants u (placed_in place frame t holes) tokens
placed_in_forth u t slot.Element frame holes tokens h = h
placed_in_forth u t (slot.Keyword key) frame holes tokens h = h
placed_in_forth u t slot.EntryKey frame holes tokens h = h
placed_in_forth u t (slot.EntryValue key) frame holes tokens h = h

pub placed_forth : (u t : Term) (holes : List Hole) (tokens : List Token) → Filled u holes t tokens → Wants u (placed t holes) tokens
placed_forth u t [] tokens h = h
placed_forth u t (hole ∷ holes) tokens h = placed_in_forth u t hole.slot hole.frame holes tokens h

pub order_nil : (keywords : List Pair) → InOrder keywords [] []
order_nil [] = tt
order_nil (p ∷ keywords) = (refl, refl)

order_item : (keywords : List Pair) (items : List Term) (entries : List Pair) (t : Term) → InOrder keywords (t ∷ items) entries → (is_none keywords ≡ true) × InOrder keywords items entries
order_item [] items entries t h = (refl, tt)
order_item (p ∷ keywords) items entries t h = let e = h.0 in absurd (cc)

order_entry : (keywords : List Pair) (items : List Term) (entries : List Pair) (p : Pair) → InOrder keywords items (p ∷ entries) → (is_none keywords ≡ true) × InOrder keywords items entries
order_entry [] items entries p h = (refl, tt)
order_entry (q ∷ keywords) items entries p h = let e = h.1 in absurd (cc)

pub closed_self : (kind : Bracket) → is_closed_by kind (closing_of kind) ≡ true
closed_self bracket.List = refl
closed_self bracket.Tuple = refl
closed_self bracket.Map = refl

begun_forth : (u : Term) (tok : Token) (tokens : List Token) {word : List Token} (rest : List Token) {t : Term} (holes : List Hole) → IsTerm word t → tok ∷ tokens ≡ word ++ rest → Filled u holes t rest → WantsNext u (begun tok holes) tokens
begun_forth u tok tokens rest holes (atom {name = name}) e h =
    let e1 : tok ≡ Atom name = cc in
    let e2 : tokens ≡ rest = cc in
    rw (e1, e2) (placed_forth u (term.Atom name) holes rest h)
begun_forth u tok tokens rest holes (integer {n = n}) e h =
    let e1 : tok ≡ Int n = cc in
    let e2 : tokens ≡ rest = cc in
    rw (e1, e2) (placed_forth u (term.Int n) holes rest h)
begun_forth u tok tokens rest holes (string {bytes = bytes}) e h =
    let e1 : tok ≡ Str bytes = cc in
    let e2 : tokens ≡ rest = cc in
    rw (e1, e2) (placed_forth u (term.Str bytes) holes rest h)
begun_forth u tok tokens rest holes (words {kind = kind} {words = ws}) e h =
    let e1 : tok ≡ Words kind ws = cc in
    let e2 : tokens ≡ rest = cc in
    rw (e1, e2) (placed_forth u (word_list kind ws) holes rest h)
begun_forth u tok tokens rest holes (brackets {kind = kind} {inside = inside} {items = items} {entries = entries} {keywords = keywords} {t = t} reads encloses) e h =
    let e1 : tok ≡ Open kind = cc in
    let e2 : tokens ≡ (inside ++ Close (closing_of kind) ∷ []) ++ rest = cc in
    rw e1 (record { part = inside; rest = rest; items = items; entries = entries; keywords = keywords; t = t; reads = reads; split = e2 ∙ append_assoc inside (Close (closing_of kind) ∷ []) rest; order = tt; encloses = encloses; outside = h })

-- a term's first token is neither a key nor a closing bracket
pub plain_at : (tok : Token) (tokens : List Token) {word : List Token} (rest : List Token) {t : Term} (frame : Frame) (holes : List Hole) → IsTerm word t → tok ∷ tokens ≡ word ++ rest → at_element frame holes tok ≡ cond (takes_part frame) (begun tok (record { frame = frame; slot = part_slot frame.bracket } ∷ holes)) None
plain_at tok tokens rest frame holes (atom {name = name}) e = let e1 : tok ≡ Atom name = cc in rw e1 refl
plain_at tok tokens rest frame holes (integer {n = n}) e = let e1 : tok ≡ Int n = cc in rw e1 refl
plain_at tok tokens rest frame holes (string {bytes = bytes}) e = let e1 : tok ≡ Str bytes = cc in rw e1 refl
plain_at tok tokens rest frame holes (words {kind = kind} {words = ws}) e = let e1 : tok ≡ Words kind ws = cc in rw e1 refl
plain_at tok tokens rest frame holes (brackets {kind = kind} {inside = inside} reads encloses) e = let e1 : tok ≡ Open kind = cc in rw e1 refl

key_taken : (kind : Bracket) (items : List Term) (entries keywords : List Pair) (p : Pair) (more : List Pair) (t : Term) → enclosed kind (items ++ []) entries (keywords ++ p ∷ more) ≡ Some t → takes_key_in kind items ≡ true
key_taken bracket.List items entries keywords p more t e = refl
key_taken bracket.Map items entries keywords p more t e = refl
key_taken bracket.Tuple (item ∷ items) entries keywords p more t e = refl
key_taken bracket.Tuple [] [] [] p more t e = absurd (cc)
key_taken bracket.Tuple [] [] (q ∷ keywords) p more t e = absurd (cc)
key_taken bracket.Tuple [] (q ∷ entries) keywords p more t e = absurd (cc)

-- where elements follow, the bracket is no map's
element_slot : (kind : Bracket) (before : List Term) (v : Term) (items : List Term) (entries keywords : List Pair) (t : Term) → enclosed kind (before ++ v ∷ items) entries keywords ≡ Some t → part_slot kind ≡ slot.Element
element_slot bracket.List before v items entries keywords t e = refl
element_slot bracket.Tuple before v items entries keywords t e = refl
element_slot bracket.Map [] v items entries keywords t e = absurd (cc)
element_slot bracket.Map (b ∷ before) v items entries keywords t e = absurd (cc)

-- where entries follow, it is
entry_slot : (kind : Bracket) (items : List Term) (before : List Pair) (p : Pair) (entries keywords : List Pair) (t : Term) → enclosed kind items (before ++ p ∷ entries) keywords ≡ Some t → part_slot kind ≡ slot.EntryKey
entry_slot bracket.Map items before p entries keywords t e = refl
entry_slot bracket.List items [] p entries keywords t e = absurd (cc)
entry_slot bracket.List items (b ∷ before) p entries keywords t e = absurd (cc)
entry_slot bracket.Tuple [] [] p entries keywords t e = absurd (cc)
entry_slot bracket.Tuple [] (b ∷ before) p entries keywords t e = absurd (cc)
entry_slot bracket.Tuple (item ∷ items) [] p entries keywords t e = absurd (cc)
entry_slot bracket.Tuple (item ∷ items) (b ∷ before) p entries keywords t e = absurd (cc)

-- with a term in a slot of the bracket, the tokens make the term u of the whole text
abbrev pub PartFilled : Term → Frame → List Hole → Term → List Token → Type 0
PartFilled u frame holes t tokens = FilledIn (part_slot frame.bracket) frame (Filled u holes) t tokens

abbrev pub KeyFilled : Term → Frame → List Hole → List ℕ → Term → List Token → Type 0
KeyFilled u frame holes key t tokens = AfterKeyword key frame (Filled u holes) t tokens

-- what a token wanted after an opening bracket or a comma is: the closing, the first of a part, or a key
pub data Head : Term → Frame → List Hole → Token → List Token → Type 0 where
  closes : {u : Term} {frame : Frame} {holes : List Hole} {tok : Token} {tokens : List Token} (t : Term) → tok ≡ Close (closing_of frame.bracket) → enclosed frame.bracket frame.items frame.entries frame.keywords ≡ Some t → Filled u holes t tokens → Head u frame holes tok tokens
  by_part : {u : Term} {frame : Frame} {holes : List Hole} {tok : Token} {tokens word : List Token} (rest : List Token) {t : Term} → IsTerm word t → tok ∷ tokens ≡ word ++ rest → takes_part frame ≡ true → PartFilled u frame holes t rest → Head u frame holes tok tokens
  by_key : {u : Term} {frame : Frame} {holes : List Hole} {tok : Token} {tokens : List Token} (name : List ℕ) → tok ≡ Key name → takes_key frame ≡ true → Values (KeyFilled u frame holes name) tokens → Head u frame holes tok tokens

closes_with : (u : Term) (frame : Frame) (holes : List Hole) (tok : Token) (tokens rest : List Token) (t : Term) → tok ≡ Close (closing_of frame.bracket) → tokens ≡ rest → enclosed frame.bracket (frame.items ++ []) (frame.entries ++ []) (frame.keywords ++ []) ≡ Some t → Filled u holes t rest → Head u frame holes tok tokens
closes_with u frame holes tok tokens rest t same e encloses h =
    let whole : enclosed frame.bracket frame.items frame.entries frame.keywords ≡ Some t = rw (append-nil frame.items, append-nil frame.entries, append-nil frame.keywords) at encloses in
    closes t same whole (rw e h)

part_with : (u : Term) (frame : Frame) (holes : List Hole) (tok : Token) (tokens : List Token) {word : List Token} (rest : List Token) {t : Term} (place : Slot) → IsTerm word t → tok ∷ tokens ≡ word ++ rest → takes_part frame ≡ true → part_slot frame.bracket ≡ place → FilledIn place frame (Filled u holes) t rest → Head u frame holes tok tokens
part_with u frame holes tok tokens rest {t} place reads e free at h =
    let filled : PartFilled u frame holes t rest = rw at h in
    by_part rest reads e free filled

pub head_of : (u : Term) (frame : Frame) (holes : List Hole) (tok : Token) (tokens : List Token) {part : List Token} {items : List Term} {entries keywords : List Pair} (rest : List Token) (t : Term) → Inside part items entries keywords → tok ∷ tokens ≡ part ++ Close (closing_of frame.bracket) ∷ rest → InOrder frame.keywords items entries → enclosed frame.bracket (frame.items ++ items) (frame.entries ++ entries) (frame.keywords ++ keywords) ≡ Some t → Filled u holes t rest → Head u frame holes tok tokens
head_of u frame holes tok tokens rest t nothing e order encloses h =
    let e1 : tok ≡ Close (closing_of frame.bracket) = cc in
    let e2 : tokens ≡ rest = cc in
    closes_with u frame holes tok tokens rest t e1 e2 encloses h
head_of u frame holes tok tokens rest t (element {word = word} {more = more} {t = v} {items = items} {entries = entries} {keywords = keywords} reads follows) e order encloses h =
    let after = more ++ Close (closing_of frame.bracket) ∷ rest in
    let e1 : tok ∷ tokens ≡ word ++ after = e ∙ append_assoc word more (Close (closing_of frame.bracket) ∷ rest) in
    let free = order_item frame.keywords items entries v order in
    let at = element_slot frame.bracket frame.items v items (frame.entries ++ entries) (frame.keywords ++ keywords) t encloses in
    let whole : enclosed frame.bracket ((frame.items ++ v ∷ []) ++ items) (frame.entries ++ entries) (frame.keywords ++ keywords) ≡ Some t = rw (append_assoc frame.items (v ∷ []) items) encloses in
    part_with u frame holes tok tokens after slot.Element reads e1 free.0 at
    (record { part = more; rest = rest; items = items; entries = entries; keywords = keywords; t = t; reads = follows; split = refl; order = free.1; encloses = whole; outside = h })
head_of u frame holes tok tokens rest t (entry {first = first} {second = second} {more = more} {key = key} {value = value} {items = items} {entries = entries} {keywords = keywords} key_reads reads follows) e order encloses h =
    let close = Close (closing_of frame.bracket) ∷ rest in
    let after = Arrow ∷ (second ++ (more ++ close)) in
    let e1 : tok ∷ tokens ≡ first ++ after = e ∙ append_assoc (first ++ Arrow ∷ second) more close ∙ append_assoc first (Arrow ∷ second) (more ++ close) in
    let free = order_entry frame.keywords items entries (key, value) order in
    let at = entry_slot frame.bracket (frame.items ++ items) frame.entries (key, value) entries (frame.keywords ++ keywords) t encloses in
    let whole : enclosed frame.bracket (frame.items ++ items) ((frame.entries ++ (key, value) ∷ []) ++ entries) (frame.keywords ++ keywords) ≡ Some t = rw (append_assoc frame.entries ((key, value) ∷ []) entries) encloses in
    part_with u frame holes tok tokens after slot.EntryKey key_reads e1 free.0 at
    (record {
      after = second ++ (more ++ close);
      begins = refl;
      value = record {
        word = second;
        rest = more ++ close;
        t = value;
        reads = reads;
        split = refl;
        outside = record { part = more; rest = rest; items = items; entries = entries; keywords = keywords; t = t; reads = follows; split = refl; order = free.1; encloses = whole; outside = h };
      };
    })
head_of u frame holes tok tokens rest t (keyword {key = name} {word = word} {more = more} {t = v} {keywords = keywords} reads follows) e order encloses h =
    let e1 : tok ≡ Key name = cc in
    let e2 : tokens ≡ (word ++ more) ++ Close (closing_of frame.bracket) ∷ rest = cc in
    let taken : takes_key frame ≡ true = key_taken frame.bracket frame.items (frame.entries ++ []) frame.keywords (term.Atom name, v) keywords t encloses in
    let whole : enclosed frame.bracket (frame.items ++ []) (frame.entries ++ []) ((frame.keywords ++ (term.Atom name, v) ∷ []) ++ keywords) ≡ Some t = rw (append_assoc frame.keywords ((term.Atom name, v) ∷ []) keywords) encloses in
    by_key name e1 taken (record {
      word = word;
      rest = more ++ Close (closing_of frame.bracket) ∷ rest;
      t = v;
      reads = reads;
      split = e2 ∙ append_assoc word more (Close (closing_of frame.bracket) ∷ rest);
      outside = record { part = more; rest = rest; items = []; entries = []; keywords = keywords; t = t; reads = follows; split = refl; order = order_nil (frame.keywords ++ (term.Atom name, v) ∷ []); encloses = whole; outside = h };
    })

pub closes_in : (u : Term) (frame : Frame) (holes : List Hole) (tok : Token) (tokens : List Token) (t : Term) → tok ≡ Close (closing_of frame.bracket) → enclosed frame.bracket frame.items frame.entries frame.keywords ≡ Some t → Filled u holes t tokens → WantsNext u (closed frame (closing_of frame.bracket) holes) tokens
closes_in u frame holes tok tokens t same encloses h = rw (closed_self frame.bracket, encloses) (placed_forth u t holes tokens h)

element_in : (u : Term) (frame : Frame) (holes : List Hole) (tok : Token) (tokens : List Token) → Head u frame holes tok tokens → WantsNext u (at_element frame holes tok) tokens
element_in u frame holes tok tokens (closes t same encloses h) = rw same (closes_in u frame holes tok tokens t same encloses h)
element_in u frame holes tok tokens (by_part rest reads e free h) =
    rw (plain_at tok tokens rest frame holes reads e, free)
    (begun_forth u tok tokens rest (record { frame = frame; slot = part_slot frame.bracket } ∷ holes) reads e h)
element_in u frame holes tok tokens (by_key name same taken v) = rw (same, taken) v

-- what a token wanted after a part is: the closing or a comma
pub data Joint : Term → Frame → List Hole → Token → List Token → Type 0 where
  shut : {u : Term} {frame : Frame} {holes : List Hole} {tok : Token} {tokens : List Token} (t : Term) → tok ≡ Close (closing_of frame.bracket) → enclosed frame.bracket frame.items frame.entries frame.keywords ≡ Some t → Filled u holes t tokens → Joint u frame holes tok tokens
  goes_on : {u : Term} {frame : Frame} {holes : List Hole} {tok : Token} {tokens : List Token} → tok ≡ Comma → Continues Inside frame (Filled u holes) tokens → Joint u frame holes tok tokens

pub joint_of : (u : Term) (frame : Frame) (holes : List Hole) (tok : Token) (tokens : List Token) {part : List Token} {items : List Term} {entries keywords : List Pair} (rest : List Token) (t : Term) → Follows part items entries keywords → tok ∷ tokens ≡ part ++ Close (closing_of frame.bracket) ∷ rest → InOrder frame.keywords items entries → enclosed frame.bracket (frame.items ++ items) (frame.entries ++ entries) (frame.keywords ++ keywords) ≡ Some t → Filled u holes t rest → Joint u frame holes tok tokens
joint_of u frame holes tok tokens rest t end e order encloses h =
    let e1 : tok ≡ Close (closing_of frame.bracket) = cc in
    let e2 : tokens ≡ rest = cc in
    let whole : enclosed frame.bracket frame.items frame.entries frame.keywords ≡ Some t = rw (append-nil frame.items, append-nil frame.entries, append-nil frame.keywords) at encloses in
    shut t e1 whole (rw e2 h)
joint_of u frame holes tok tokens rest t (comma {more = more} {items = items} {entries = entries} {keywords = keywords} reads) e order encloses h =
    let e1 : tok ≡ Comma = cc in
    let e2 : tokens ≡ more ++ Close (closing_of frame.bracket) ∷ rest = cc in
    goes_on e1 (record { part = more; rest = rest; items = items; entries = entries; keywords = keywords; t = t; reads = reads; split = e2; order = order; encloses = encloses; outside = h })

separator_in : (u : Term) (frame : Frame) (holes : List Hole) (tok : Token) (tokens : List Token) → Joint u frame holes tok tokens → WantsNext u (at_separator frame holes tok) tokens
separator_in u frame holes tok tokens (shut t same encloses h) = rw same (closes_in u frame holes tok tokens t same encloses h)
separator_in u frame holes tok tokens (goes_on same k) = rw same k

arrow_in : (u key : Term) (frame : Frame) (holes : List Hole) (tok : Token) (tokens after : List Token) → tok ∷ tokens ≡ Arrow ∷ after → Values (AfterEntry key frame (Filled u holes)) after → WantsNext u (at_arrow key frame holes tok) tokens
arrow_in u key frame holes tok tokens after e v =
    let e1 : tok ≡ Arrow = cc in
    let e2 : tokens ≡ after = cc in
    rw (e1, e2) v

-- what a state wants, its next state wants after the token
pub step_forth : (u : Term) (s : State) (tok : Token) (tokens : List Token) → Wants u s (tok ∷ tokens) → WantsNext u (step s tok) tokens
step_forth u (state.Value holes) tok tokens w = begun_forth u tok tokens w.rest holes w.reads w.split w.outside
step_forth u (state.Element frame holes) tok tokens w = element_in u frame holes tok tokens (head_of u frame holes tok tokens w.rest w.t w.reads w.split w.order w.encloses w.outside)
step_forth u (state.Separator frame holes) tok tokens w = separator_in u frame holes tok tokens (joint_of u frame holes tok tokens w.rest w.t w.reads w.split w.order w.encloses w.outside)
step_forth u (state.Arrow key frame holes) tok tokens w = arrow_in u key frame holes tok tokens w.after w.begins w.value
step_forth u (state.Done t) tok tokens w = absurd (cc)

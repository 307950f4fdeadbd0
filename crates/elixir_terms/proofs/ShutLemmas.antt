-- Where no token that may stand there goes on, no text of the grammar does.
use Rattle.std.proofs.Common.{◌≡◌, ℕ, Bool, true, false, ◌&&◌, ◌||◌, ◌==◌, eqb, cond, List, [], ◌∷◌, ◌++◌, Option, Some, None, refl, sym, ap, ◌∙◌, subst, append_assoc}
use Rattle.std.proofs.lemmas.Bool.{eqb-true, and_parts, true≢false}
use Rattle.elixir_terms.specs.declared.frame.Frame.{Frame}
use Rattle.elixir_terms.specs.declared.frame.Hole.{Hole}
use Rattle.elixir_terms.specs.declared.frame.Slot.{Slot}
use Rattle.elixir_terms.specs.declared.frame.Slot.TheVariants as slot
use Rattle.elixir_terms.specs.declared.state.State.{State}
use Rattle.elixir_terms.specs.declared.state.State.TheVariants as state
use Rattle.term_values.specs.declared.term.Term.{Term}
use Rattle.term_values.specs.declared.term.Term.TheVariants as term
use Rattle.term_tokens.specs.declared.token.Closing.TheVariants.{Square, Curly}
use Rattle.term_tokens.specs.declared.token.Token.{Token}
use Rattle.term_tokens.specs.declared.token.Token.TheVariants.{Atom, Int, Str, Words, Key, Open, Close, Comma, Arrow}
use Rattle.term_print.specs.Grammar.{word_list}
use Rattle.term_tokens.specs.Lexing.{past_blank}
use Rattle.term_tokens.specs.Local.{starts_with, is_plain, IsFree, IsShut}
use Rattle.elixir_terms.specs.Machine.{takes_part, part_slot, placed, placed_in, begun, at_part, step, expected}
use Rattle.elixir_terms.specs.Prefixes.{IsOpenText}
use Rattle.term_tokens.specs.Names.{is_blank}
use Rattle.term_tokens.specs.Tokens.{Begins, bare_atom, atom, quoted_atom, integer, string, words, key, quoted_key, opens, closes, comma, arrow, line_end, AreTokens}
use Rattle.term_tokens.proofs.BlankLemmas.{blanks_stop}
use Rattle.term_tokens.proofs.FollowLemmas.{Like, same}
use Rattle.elixir_terms.proofs.Meaning.{Wants, WantsNext}
use Rattle.elixir_terms.proofs.OpenLemmas.{runs, start, passes, step_taken, cond_test}
use Rattle.term_tokens.proofs.OptionLemmas.{some_same}
use Rattle.elixir_terms.proofs.Runs.{wants_first}
use Rattle.elixir_terms.proofs.StepForth.{step_forth}
use Rattle.elixir_terms.proofs.TrailLemmas.{Fronts, behind}

-- the token is a whole term
abbrev pub is_single : Token → Bool
is_single (Atom name) = true
is_single (Int n) = true
is_single (Str bytes) = true
is_single (Words kind ws) = true
is_single token = false

-- what may follow a term in brackets
abbrev pub is_joint : Token → Bool
is_joint (Close closing) = true
is_joint Comma = true
is_joint Arrow = true
is_joint token = false

abbrev pub joint_byte : ℕ → Bool
joint_byte byte = byte == 44 || byte == 61 || byte == 93 || byte == 125

-- a term is whole in the state
abbrev pub IsPlaced : State → Type 0
IsPlaced s = (t : Term) × (holes : List Hole) × (s ≡ placed t holes)

part_placed : (frame : Frame) (holes : List Hole) (tok : Token) (t : Term) (next : State) → begun tok (record { frame = frame; slot = part_slot frame.bracket } ∷ holes) ≡ Some (placed t (record { frame = frame; slot = part_slot frame.bracket } ∷ holes)) → at_part frame holes tok ≡ Some next → IsPlaced next
part_placed frame holes tok t next b e =
    let c = cond_test (takes_part frame) (begun tok (record { frame = frame; slot = part_slot frame.bracket } ∷ holes)) next e in
    (t, record { frame = frame; slot = part_slot frame.bracket } ∷ holes, some_same (sym c.1 ∙ b))

pub single_placed : (s : State) (tok : Token) (next : State) → is_single tok ≡ true → step s tok ≡ Some next → IsPlaced next
single_placed (state.Value holes) (Atom name) next i e = (term.Atom name, holes, sym (some_same e))
single_placed (state.Value holes) (Int n) next i e = (term.Int n, holes, sym (some_same e))
single_placed (state.Value holes) (Str bytes) next i e = (term.Str bytes, holes, sym (some_same e))
single_placed (state.Value holes) (Words kind ws) next i e = (word_list kind ws, holes, sym (some_same e))
single_placed (state.Element frame holes) (Atom name) next i e = part_placed frame holes (Atom name) (term.Atom name) next refl e
single_placed (state.Element frame holes) (Int n) next i e = part_placed frame holes (Int n) (term.Int n) next refl e
single_placed (state.Element frame holes) (Str bytes) next i e = part_placed frame holes (Str bytes) (term.Str bytes) next refl e
single_placed (state.Element frame holes) (Words kind ws) next i e = part_placed frame holes (Words kind ws) (word_list kind ws) next refl e
single_placed s (Key name) next i e = absurd (cc)
single_placed s (Open kind) next i e = absurd (cc)
single_placed s (Close closing) next i e = absurd (cc)
single_placed s Comma next i e = absurd (cc)
single_placed s Arrow next i e = absurd (cc)
single_placed (state.Separator frame holes) (Atom name) next i e = absurd (cc)
single_placed (state.Separator frame holes) (Int n) next i e = absurd (cc)
single_placed (state.Separator frame holes) (Str bytes) next i e = absurd (cc)
single_placed (state.Separator frame holes) (Words kind ws) next i e = absurd (cc)
single_placed (state.Arrow entry frame holes) (Atom name) next i e = absurd (cc)
single_placed (state.Arrow entry frame holes) (Int n) next i e = absurd (cc)
single_placed (state.Arrow entry frame holes) (Str bytes) next i e = absurd (cc)
single_placed (state.Arrow entry frame holes) (Words kind ws) next i e = absurd (cc)
single_placed (state.Done t) (Atom name) next i e = absurd (cc)
single_placed (state.Done t) (Int n) next i e = absurd (cc)
single_placed (state.Done t) (Str bytes) next i e = absurd (cc)
single_placed (state.Done t) (Words kind ws) next i e = absurd (cc)

-- behind a whole term stands no first token of one, and no key

abbrev Joins : State → Token → Type 0
Joins s tok = (next : State) → step s tok ≡ Some next → is_joint tok ≡ true

separator_joins : (frame : Frame) (holes : List Hole) (tok : Token) → Joins (state.Separator frame holes) tok
separator_joins frame holes (Close closing) next e = refl
separator_joins frame holes Comma next e = refl
separator_joins frame holes (Atom name) next e = absurd (cc)
separator_joins frame holes (Int n) next e = absurd (cc)
separator_joins frame holes (Str bytes) next e = absurd (cc)
separator_joins frame holes (Words kind ws) next e = absurd (cc)
separator_joins frame holes (Key name) next e = absurd (cc)
separator_joins frame holes (Open kind) next e = absurd (cc)
separator_joins frame holes Arrow next e = absurd (cc)

arrow_joins : (entry : Term) (frame : Frame) (holes : List Hole) (tok : Token) → Joins (state.Arrow entry frame holes) tok
arrow_joins entry frame holes Arrow next e = refl
arrow_joins entry frame holes (Close closing) next e = absurd (cc)
arrow_joins entry frame holes Comma next e = absurd (cc)
arrow_joins entry frame holes (Atom name) next e = absurd (cc)
arrow_joins entry frame holes (Int n) next e = absurd (cc)
arrow_joins entry frame holes (Str bytes) next e = absurd (cc)
arrow_joins entry frame holes (Words kind ws) next e = absurd (cc)
arrow_joins entry frame holes (Key name) next e = absurd (cc)
arrow_joins entry frame holes (Open kind) next e = absurd (cc)

pub placed_joins : (t : Term) (holes : List Hole) (tok : Token) → Joins (placed t holes) tok
placed_joins t [] tok next e = absurd (cc)
placed_joins t (hole ∷ holes) tok next e = in_slot hole.slot hole.frame e
  where
    in_slot : (place : Slot) (frame : Frame) → step (placed_in place frame t holes) tok ≡ Some next → is_joint tok ≡ true
    in_slot slot.Element frame e = separator_joins _ holes tok next e
    in_slot (slot.Keyword entry) frame e = separator_joins _ holes tok next e
    in_slot slot.EntryKey frame e = arrow_joins t frame holes tok next e
    in_slot (slot.EntryValue entry) frame e = separator_joins _ holes tok next e

joint_first : {text : List ℕ} {tok : Token} {after : List ℕ} → Begins text tok after → is_joint tok ≡ true → (byte : ℕ) × (more : List ℕ) × (text ≡ byte ∷ more) × (joint_byte byte ≡ true)
joint_first (closes {rest = rest} {bracket = Square} e) i = (93, rest, e, refl)
joint_first (closes {rest = rest} {bracket = Curly} e) i = (125, rest, e, refl)
joint_first (comma {rest = rest} e) i = (44, rest, e, refl)
joint_first (arrow {rest = rest} e) i = (61, 62 ∷ rest, e, refl)
joint_first (bare_atom a b c d) i = absurd (cc)
joint_first (atom a b c) i = absurd (cc)
joint_first (quoted_atom a b c) i = absurd (cc)
joint_first (integer a b c) i = absurd (cc)
joint_first (string a b c) i = absurd (cc)
joint_first (words a b c d f) i = absurd (cc)
joint_first (key white a b c) i = absurd (cc)
joint_first (quoted_key white a b c d) i = absurd (cc)
joint_first (opens a) i = absurd (cc)

-- a token behind a whole term begins with one of their bytes
pub second_joint : {after rest : List ℕ} {tok : Token} (s next : State) (byte : ℕ) (more : List ℕ) → IsPlaced s → after ≡ byte ∷ more → joint_byte byte ≡ false → Begins after tok rest → step s tok ≡ Some next → ⊥
second_joint {tok = tok} s next byte more p e j begins stepped =
    let joint = placed_joins p.0 p.1 tok next (subst (λ x. step x tok ≡ Some next) p.2 stepped) in
    let f = joint_first begins joint in
    let same : byte ≡ f.0 = head byte f.0 more f.1 (sym e ∙ f.2) in
    true≢false (sym f.3 ∙ sym (ap joint_byte same) ∙ j)
  where
    head : (a b : ℕ) (x y : List ℕ) → a ∷ x ≡ b ∷ y → a ≡ b
    head a b x y e = cc

-- the tokens of a state, the first of which it takes
pub record Taken (u : Term) (s : State) (tok : Token) (others : List Token) : Type 0 where
  pub next : State
  pub stepped : step s tok ≡ Some next
  pub wanted : Wants u next others

pub taken : (u : Term) (s : State) (tok : Token) (others : List Token) → Wants u s (tok ∷ others) → Taken u s tok others
taken u s tok others w = by (step s tok) refl (step_forth u s tok others w)
  where
    by : (o : Option State) → step s tok ≡ o → WantsNext u o others → Taken u s tok others
    by None e w = absurd w
    by (Some next) e w = record { next = next; stepped = e; wanted = w }

-- nothing is spelled behind a whole term that such a byte follows
pub no_more : (u : Term) (s : State) (after : List ℕ) (byte : ℕ) (more : List ℕ) (others : List Token) → IsPlaced s → after ≡ byte ∷ more → past_blank after ≡ None → joint_byte byte ≡ false → AreTokens others after → Wants u s others → ⊥
no_more u s after byte more [] p e solid j h w = let none : after ≡ [] = blanks_stop [] solid h in absurd (cc)
no_more u s after byte more (tok ∷ others) p e solid j h w =
    let same : after ≡ h.0 = blanks_stop h.0 solid h.2 in
    let t = taken u s tok others w in
    second_joint s t.next byte more p e j (subst (λ l. Begins l tok h.1) (sym same) h.3) t.stepped

-- a text that begins with the same byte is as solid

past_by : (byte : ℕ) (x y : List ℕ) (sharp white : Bool) → eqb byte 35 ≡ sharp → is_blank byte ≡ white → past_blank (byte ∷ x) ≡ None → past_blank (byte ∷ y) ≡ None
past_by byte x y true white s w h = absurd (no_sharp (line_end x) (sym (ap (λ b. cond b (Some (line_end x)) (cond (is_blank byte) (Some x) None)) s) ∙ h))
  where
    no_sharp : (l : List ℕ) → Some l ≡ None → ⊥
    no_sharp l e = cc
past_by byte x y false true s w h = absurd (no_blank x (sym (ap (λ b. cond b (Some (line_end x)) (cond (is_blank byte) (Some x) None)) s ∙ ap (λ b. cond b (Some x) None) w) ∙ h))
  where
    no_blank : (l : List ℕ) → Some l ≡ None → ⊥
    no_blank l e = cc
past_by byte x y false false s w h = ap (λ b. cond b (Some (line_end y)) (cond (is_blank byte) (Some y) None)) s ∙ ap (λ b. cond b (Some y) None) w

pub solid_like : (byte : ℕ) (x y : List ℕ) → past_blank (byte ∷ x) ≡ None → past_blank (byte ∷ y) ≡ None
solid_like byte x y h = past_by byte x y (eqb byte 35) (is_blank byte) refl refl h

plain_single : (text : List ℕ) (tok : Token) → is_plain text tok ≡ true → is_single tok ≡ true
plain_single text (Atom name) h = refl
plain_single text (Str bytes) h = refl
plain_single text (Int n) h = absurd (cc)
plain_single text (Words kind ws) h = absurd (cc)
plain_single text (Key name) h = absurd (cc)
plain_single text (Open kind) h = absurd (cc)
plain_single text (Close closing) h = absurd (cc)
plain_single text Comma h = absurd (cc)
plain_single text Arrow h = absurd (cc)

pub colon_first : (text : List ℕ) → starts_with 58 text ≡ true → (more : List ℕ) × (text ≡ 58 ∷ more)
colon_first [] h = absurd (cc)
colon_first (byte ∷ text) h = (text, ap (λ b. b ∷ text) (eqb-true byte 58 h))

-- a token that a colon wrongly follows, and nothing after it
pub record Tied (start : List ℕ) (tok : Token) (after : List ℕ) : Type 0 where
  pub single : is_single tok ≡ true
  pub more : List ℕ
  pub colon : after ≡ 58 ∷ more

pub tied : (start : List ℕ) (tok : Token) (after : List ℕ) → (is_plain start tok && starts_with 58 after) ≡ true → Tied start tok after
tied start tok after h =
    let p = and_parts (is_plain start tok) (starts_with 58 after) h in
    let c = colon_first after p.1 in
    record { single = plain_single start tok p.0; more = c.0; colon = c.1 }

-- where no token goes on with the part, no text of the grammar goes on with it behind what was read
pub front_shut : {tokens : List Token} {text rest : List ℕ} (s : State) (f : Fronts tokens text rest) (byte : ℕ) (part others : List ℕ) → runs tokens start ≡ Some s → rest ≡ byte ∷ others → past_blank rest ≡ None → IsShut (expected s) (byte ∷ part) → IsOpenText (f.front ++ byte ∷ part) → ⊥
front_shut {tokens = tokens} {rest = rest} s f byte part others ran e solid shut o =
    let more = o.0 in
    let goes : List ℕ = byte ∷ (part ++ more) in
    let like : Like rest goes = subst (λ l. Like l goes) (sym e) (same byte) in
    let leads = f.moved goes like in
    let b = behind o.1 leads (subst (λ l. AreTokens o.1 l) (append_assoc f.front (byte ∷ part) more) o.3) in
    let p = passes o.2 tokens b.others start (subst (λ l. Wants o.2 start l) b.split (wants_first o.2 o.1 o.4)) in
    let here : p.last ≡ s = some_same (sym p.ran ∙ ran) in
    let stays : past_blank goes ≡ None = solid_like byte others (part ++ more) (subst (λ l. past_blank l ≡ None) e solid) in
    ends o.2 goes b.others stays refl b.spelled (subst (λ x. Wants o.2 x b.others) here p.wanted)
  where
    ends : (u : Term) (goes : List ℕ) (os : List Token) → past_blank goes ≡ None → goes ≡ byte ∷ (part ++ o.0) → AreTokens os goes → Wants u s os → ⊥
    ends u goes [] stays same_ h w = let none : goes ≡ [] = blanks_stop [] stays h in absurd (cc)
    ends u goes (tok ∷ os) stays same_ h w =
        let at : goes ≡ h.0 = blanks_stop h.0 stays h.2 in
        let begins : Begins goes tok h.1 = subst (λ l. Begins l tok h.1) (sym at) h.3 in
        let t = taken u s tok os w in
        by t (is_plain goes tok && starts_with 58 h.1) refl begins
      where
        by : Taken u s tok os → (c : Bool) → (is_plain goes tok && starts_with 58 h.1) ≡ c → Begins goes tok h.1 → ⊥
        by t false free begins = shut o.0 tok h.1 (subst (λ l. Begins l tok h.1) same_ begins) (step_taken s tok t.next t.stepped) (subst (λ l. IsFree l tok h.1) same_ free)
        by t true c begins =
            let d = tied goes tok h.1 c in
            no_more u t.next h.1 58 d.more os (single_placed s tok t.next d.single t.stepped) d.colon (subst (λ l. past_blank l ≡ None) (sym d.colon) refl) refl h.4 t.wanted

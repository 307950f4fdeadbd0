-- The longest name at the front of a text.
use Rattle.std.specs.Prelude.{IsTrue, not}
use Rattle.std.proofs.Common.{◌≡◌, ℕ, suc, Bool, true, false, ◌&&◌, List, [], ◌∷◌, ◌++◌, length, take, drop, cond, eqb, refl, sym, ap, ◌∙◌, subst, ⊎_elim}
use Rattle.std.proofs.lemmas.Bool.{not-true, and_parts, or_parts, or_from, or_left, or_right, or_cases, eqb-true, and_from, false_from_ne_true, true≢false, false≢true, and_right}
use Rattle.term_tokens.specs.Names.{is_name_start, is_name_byte, is_name_mark, is_name_rest, is_name}
use Rattle.term_tokens.specs.Tokens.{ends_name as ends_name_test}
use Rattle.term_tokens.specs.Lexing.{name_rest_len, name_len}

-- a name byte doesn't end a name
pub byte_no_mark : (byte : ℕ) → is_name_byte byte ≡ true → is_name_mark byte ≡ false
byte_no_mark byte h = false_from_ne_true (is_name_mark byte) (λ m.
    ⊎_elim (λ e. let k = subst (λ b. is_name_byte b ≡ true) (eqb-true byte 63 e) h in absurd (false≢true k))
    (λ e. let k = subst (λ b. is_name_byte b ≡ true) (eqb-true byte 33 e) h in absurd (false≢true k))
    (or_cases (eqb byte 63) (eqb byte 33) m))

-- a name that could go on with these bytes can't
abbrev pub EndsRest : List ℕ → List ℕ → Type 0
EndsRest name [] = Unit {0}
EndsRest name (byte ∷ rest) = is_name_rest (name ++ byte ∷ []) ≡ false

rest_more : (byte : ℕ) (name : List ℕ) → is_name_byte byte ≡ true → is_name_rest name ≡ true → is_name_rest (byte ∷ name) ≡ true
rest_more byte [] b h = or_left (is_name_byte byte) (is_name_mark byte) b
rest_more byte (next ∷ name) b h = and_from (is_name_byte byte) (is_name_rest (next ∷ name)) b h

rest_less : (byte : ℕ) (name : List ℕ) → is_name_byte byte ≡ true → is_name_rest (byte ∷ name) ≡ true → is_name_rest name ≡ true
rest_less byte [] b h = refl
rest_less byte (next ∷ name) b h = (and_parts (is_name_byte byte) (is_name_rest (next ∷ name)) h).1

-- a byte that goes on a name changes nothing of what may follow
same_more : (byte : ℕ) (name : List ℕ) (next : ℕ) → is_name_byte byte ≡ true → is_name_rest (byte ∷ name ++ next ∷ []) ≡ is_name_rest (name ++ next ∷ [])
same_more byte [] next b = ap (λ x. x && is_name_rest (next ∷ [])) b
same_more byte (c ∷ name) next b = ap (λ x. x && is_name_rest (c ∷ name ++ next ∷ [])) b

ends_more : (byte : ℕ) (name rest : List ℕ) → is_name_byte byte ≡ true → EndsRest name rest → EndsRest (byte ∷ name) rest
ends_more byte name [] b h = tt
ends_more byte name (next ∷ rest) b h = same_more byte name next b ∙ h

ends_less : (byte : ℕ) (name rest : List ℕ) → is_name_byte byte ≡ true → EndsRest (byte ∷ name) rest → EndsRest name rest
ends_less byte name [] b h = tt
ends_less byte name (next ∷ rest) b h = sym (same_more byte name next b) ∙ h

-- after a mark a name ends
ends_mark : (byte : ℕ) (rest : List ℕ) → is_name_byte byte ≡ false → EndsRest (byte ∷ []) rest
ends_mark byte [] b = tt
ends_mark byte (next ∷ rest) b = ap (λ x. x && is_name_rest (next ∷ [])) b

abbrev len_by : Bool → Bool → ℕ → ℕ
len_by mark more len = cond mark 1 (cond more (suc len) 0)

sound_at : (byte : ℕ) (text : List ℕ) (len : ℕ) (mark more : Bool) → is_name_mark byte ≡ mark → is_name_byte byte ≡ more → (is_name_rest (take len text) ≡ true) × EndsRest (take len text) (drop len text) → (is_name_rest (take (len_by mark more len) (byte ∷ text)) ≡ true) × EndsRest (take (len_by mark more len) (byte ∷ text)) (drop (len_by mark more len) (byte ∷ text))
sound_at byte text len true true m b ih = absurd (let e = byte_no_mark byte b in true≢false (sym m ∙ e))
sound_at byte text len true false m b ih = (or_right (is_name_byte byte) (is_name_mark byte) m, ends_mark byte text b)
sound_at byte text len false true m b ih = (rest_more byte (take len text) b ih.0, ends_more byte (take len text) (drop len text) b ih.1)
sound_at byte text len false false m b ih = (refl, or_from (is_name_byte byte) (is_name_mark byte) b m)

-- the first bytes of a text, so many as may go on a name, go on a name, and no more do
pub rest_sound : (text : List ℕ) → (is_name_rest (take (name_rest_len text) text) ≡ true) × EndsRest (take (name_rest_len text) text) (drop (name_rest_len text) text)
rest_sound [] = (refl, tt)
rest_sound (byte ∷ text) = sound_at byte text (name_rest_len text) (is_name_mark byte) (is_name_byte byte) refl refl (rest_sound text)

none_more : (rest : List ℕ) → EndsRest [] rest → name_rest_len rest ≡ 0
none_more [] h = refl
none_more (byte ∷ rest) h =
    let parts = or_parts (is_name_byte byte) (is_name_mark byte) h in
    rw (parts.1, parts.0) refl

alone : (byte : ℕ) (name : List ℕ) → is_name_byte byte ≡ false → is_name_rest (byte ∷ name) ≡ true → [] ≡ name
alone byte [] b h = refl
alone byte (next ∷ name) b h = absurd (true≢false (sym (and_parts (is_name_byte byte) (is_name_rest (next ∷ name)) h).0 ∙ b))

neither : (byte : ℕ) (name : List ℕ) → is_name_byte byte ≡ false → is_name_mark byte ≡ false → is_name_rest (byte ∷ name) ≡ true → ⊥
neither byte [] b m h = true≢false (sym h ∙ or_from (is_name_byte byte) (is_name_mark byte) b m)
neither byte (next ∷ name) b m h = true≢false (sym (and_parts (is_name_byte byte) (is_name_rest (next ∷ name)) h).0 ∙ b)

complete_at : (byte : ℕ) (name rest : List ℕ) (len : ℕ) (mark more : Bool) → is_name_mark byte ≡ mark → is_name_byte byte ≡ more → is_name_rest (byte ∷ name) ≡ true → (more ≡ true → len ≡ length name) → len_by mark more len ≡ suc (length name)
complete_at byte name rest len true true m b h ih = absurd (true≢false (sym m ∙ byte_no_mark byte b))
complete_at byte name rest len true false m b h ih = ap suc (ap length (alone byte name b h))
complete_at byte name rest len false true m b h ih = ap suc (ih refl)
complete_at byte name rest len false false m b h ih = absurd (neither byte name b m h)

-- a part that goes on a name, and can't go on with what follows, has the length that is counted
pub rest_complete : (name rest : List ℕ) → is_name_rest name ≡ true → EndsRest name rest → name_rest_len (name ++ rest) ≡ length name
rest_complete [] rest h ends = none_more rest ends
rest_complete (byte ∷ name) rest h ends = complete_at byte name rest (name_rest_len (name ++ rest)) (is_name_mark byte) (is_name_byte byte) refl refl h
    (λ b. rest_complete name rest (rest_less byte name b h) (ends_less byte name rest b ends))

-- a name with the text after it: it is as long as it can be
abbrev pub EndsName : List ℕ → List ℕ → Type 0
EndsName name [] = Unit {0}
EndsName name (byte ∷ rest) = is_name (name ++ byte ∷ []) ≡ false

pub ends_from_test : (name rest : List ℕ) → IsTrue (ends_name_test name rest) → EndsName name rest
ends_from_test name [] h = tt
ends_from_test name (byte ∷ rest) h = not-true (is_name (name ++ byte ∷ [])) h

pub test_from_ends : (name rest : List ℕ) → EndsName name rest → IsTrue (ends_name_test name rest)
test_from_ends name [] h = refl
test_from_ends name (byte ∷ rest) h = ap not h

pub record NameCut (text : List ℕ) (len : ℕ) : Type 0 where
  pub name : is_name (take len text) ≡ true
  pub ends : EndsName (take len text) (drop len text)

ends_name : (byte : ℕ) (name rest : List ℕ) → is_name_start byte ≡ true → EndsRest name rest → EndsName (byte ∷ name) rest
ends_name byte name [] s h = tt
ends_name byte name (next ∷ rest) s h = ap (λ x. x && is_name_rest (name ++ next ∷ [])) s ∙ h

name_ends : (byte : ℕ) (name rest : List ℕ) → is_name_start byte ≡ true → EndsName (byte ∷ name) rest → EndsRest name rest
name_ends byte name [] s h = tt
name_ends byte name (next ∷ rest) s h = ap (λ x. x && is_name_rest (name ++ next ∷ [])) (sym s) ∙ h

cut_at : (byte : ℕ) (text : List ℕ) (len : ℕ) (start : Bool) → is_name_start byte ≡ start → cond start (suc (name_rest_len text)) 0 ≡ suc len → NameCut (byte ∷ text) (suc len)
cut_at byte text len false s e = absurd (cc)
cut_at byte text len true s e =
    let n : name_rest_len text ≡ len = cc in
    let sound = rest_sound text in
    subst (λ k. NameCut (byte ∷ text) (suc k)) n (record {
      name = and_from (is_name_start byte) (is_name_rest (take (name_rest_len text) text)) s sound.0;
      ends = ends_name byte (take (name_rest_len text) text) (drop (name_rest_len text) text) s sound.1;
    })

-- the longest name at the front is a name
pub name_sound : (text : List ℕ) (len : ℕ) → name_len text ≡ suc len → NameCut text (suc len)
name_sound [] len e = absurd (cc)
name_sound (byte ∷ text) len e = cut_at byte text len (is_name_start byte) refl e

-- and a name that ends there has that length
pub name_complete : (name rest : List ℕ) → is_name name ≡ true → EndsName name rest → name_len (name ++ rest) ≡ length name
name_complete [] rest h ends = absurd (false≢true h)
name_complete (byte ∷ name) rest h ends =
    let parts = and_parts (is_name_start byte) (is_name_rest name) h in
    ap (λ s. cond s (suc (name_rest_len (name ++ rest))) 0) parts.0 ∙ ap suc (rest_complete name rest parts.1 (name_ends byte name rest parts.0 ends))

colon_rest : (name : List ℕ) → is_name_rest (name ++ 58 ∷ []) ≡ false
colon_rest [] = refl
colon_rest (byte ∷ []) = and_right (is_name_byte byte) false refl
colon_rest (byte ∷ next ∷ name) = and_right (is_name_byte byte) (is_name_rest (next ∷ name ++ 58 ∷ [])) (colon_rest (next ∷ name))

-- a name ends before a colon
pub colon_ends : (name rest : List ℕ) → is_name name ≡ true → EndsName name (58 ∷ rest)
colon_ends [] rest h = refl
colon_ends (byte ∷ name) rest h = and_right (is_name_start byte) (is_name_rest (name ++ 58 ∷ [])) (colon_rest name)

break_rest : (name : List ℕ) → is_name_rest (name ++ 10 ∷ []) ≡ false
break_rest [] = refl
break_rest (byte ∷ []) = and_right (is_name_byte byte) false refl
break_rest (byte ∷ next ∷ name) = and_right (is_name_byte byte) (is_name_rest (next ∷ name ++ 10 ∷ [])) (break_rest (next ∷ name))

-- no name goes on with a line feed
pub name_break : (name : List ℕ) → is_name (name ++ 10 ∷ []) ≡ false
name_break [] = refl
name_break (byte ∷ name) = and_right (is_name_start byte) (is_name_rest (name ++ 10 ∷ [])) (break_rest name)

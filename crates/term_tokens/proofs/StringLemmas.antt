-- The bytes that a string's function finds are those that the string spells.
use Rattle.std.specs.Prelude.{not}
use Rattle.std.proofs.Common.{◌≡◌, ℕ, zero, suc, ◌+◌, Bool, true, false, ◌||◌, ◌⊎◌, inl, inr, List, [], ◌∷◌, ◌++◌, Option, Some, None, length, drop, cond, eqb, refl, sym, ap, ◌∙◌, arith, subst, append_assoc}
use Rattle.std.proofs.lemmas.Bool.{not-true, not_from_false, or_parts, or_from, and_right, eqb-true}
use Rattle.std.proofs.lemmas.List.{drop_at, append-nil}
use Rattle.std.proofs.lemmas.Str.{encode_ascii, IsUtf8-append, IsUtf8-from_is_utf8}
use Rattle.std.proofs.Math.Seq.{drop-nil}
use Rattle.std.specs.Str.{IsUtf8, is_utf8}
use Rattle.term_tokens.specs.Strings.{by_byte, opens_interpolation, Quoted, end, literal, escape}
use Rattle.term_tokens.specs.Lexed.{can_become, Spelt, with_bytes, past_escape, spelt_past, spelt_at}
use Rattle.term_tokens.specs.Local.{starts_with, IsNoEscape}
use Rattle.term_tokens.proofs.Utf8Lemmas.{one_char}
use Rattle.term_tokens.proofs.OptionLemmas.{none_some, some_same}
use Rattle.term_tokens.specs.Lexing.{escape_at, before, escaped, quoted_at, after_escape, next_at}
use Rattle.term_tokens.proofs.StringParts.{escape_complete, quoted_complete, IsEscape, escape_sound, quoted_sound, with_with, spelt_drop, past_escape_next}

pub spelt_next : (text value after : List ℕ) → next_at text ≡ Some (value, after) → spelt_at text ≡ with_bytes value (spelt_at after)
spelt_next [] value after e = absurd (none_some e)
spelt_next (byte ∷ text) value after e = by (eqb byte 34) (eqb byte 92) (opens_interpolation byte text) e
  where
    by : (quote slash opens : Bool) → cond quote None (cond slash (after_escape (escape_at text) text) (cond opens None (Some (byte ∷ [], text)))) ≡ Some (value, after) → cond quote ([], byte ∷ text) (cond slash (past_escape (byte ∷ text) (escape_at text) (spelt_past text)) (cond opens ([], byte ∷ text) (with_bytes (byte ∷ []) (spelt_past text 0)))) ≡ with_bytes value (spelt_at after)
    by true slash opens e = absurd (none_some e)
    by false true opens e = past_escape_next text (byte ∷ text) (escape_at text) value after e
    by false false true e = absurd (none_some e)
    by false false false e = ap (λ f. with_bytes f.0 (spelt_at f.1)) (some_same e)

-- what is still to come, after one more
pub spelt_more : (bytes value text after : List ℕ) (whole : Spelt) → next_at text ≡ Some (value, after) → with_bytes bytes (spelt_at text) ≡ whole → with_bytes (bytes ++ value) (spelt_at after) ≡ whole
spelt_more bytes value text after whole e h = sym (with_with bytes value (spelt_at after)) ∙ ap (with_bytes bytes) (sym (spelt_next text value after e)) ∙ h

past_escape_none : (text whole : List ℕ) (word : Option (List ℕ × ℕ)) → after_escape word text ≡ None → past_escape whole word (spelt_past text) ≡ ([], whole)
past_escape_none text whole None e = refl
past_escape_none text whole (Some word) e = absurd (none_some (sym e))

pub spelt_stop : (text : List ℕ) → next_at text ≡ None → spelt_at text ≡ ([], text)
spelt_stop [] e = refl
spelt_stop (byte ∷ text) e = by (eqb byte 34) (eqb byte 92) (opens_interpolation byte text) e
  where
    by : (quote slash opens : Bool) → cond quote None (cond slash (after_escape (escape_at text) text) (cond opens None (Some (byte ∷ [], text)))) ≡ None → cond quote ([], byte ∷ text) (cond slash (past_escape (byte ∷ text) (escape_at text) (spelt_past text)) (cond opens ([], byte ∷ text) (with_bytes (byte ∷ []) (spelt_past text 0)))) ≡ ([], byte ∷ text)
    by true slash opens e = refl
    by false true opens e = past_escape_none text (byte ∷ text) (escape_at text) e
    by false false true e = refl
    by false false false e = absurd (none_some (sym e))

-- where nothing more is spelled, all is read
pub spelt_all : (bytes text : List ℕ) (whole : Spelt) → next_at text ≡ None → with_bytes bytes (spelt_at text) ≡ whole → (bytes, text) ≡ whole
spelt_all bytes text whole e h = ap (λ l. (l, text)) (sym (append-nil bytes)) ∙ ap (with_bytes bytes) (sym (spelt_stop text e)) ∙ h

pub opens_before : (byte : ℕ) (inside rest : List ℕ) → starts_with 123 rest ≡ false → opens_interpolation byte (inside ++ rest) ≡ opens_interpolation byte inside
opens_before byte [] [] h = refl
opens_before byte [] (next ∷ rest) h = and_right (eqb byte 35) (eqb next 123) h
opens_before byte (next ∷ inside) rest h = refl

spelt_literal : (byte : ℕ) (text : List ℕ) → eqb byte 34 ≡ false → eqb byte 92 ≡ false → opens_interpolation byte text ≡ false → spelt_at (byte ∷ text) ≡ with_bytes (byte ∷ []) (spelt_at text)
spelt_literal byte text a b c = rw (a, b, c) refl

-- what is spelled before such a rest, the function reads
pub spelt_complete : {inside bytes : List ℕ} → Quoted inside bytes → (rest : List ℕ) → next_at rest ≡ None → starts_with 123 rest ≡ false → spelt_at (inside ++ rest) ≡ (bytes, rest)
spelt_complete end rest n b = spelt_stop rest n
spelt_complete (literal {byte = byte} {text = text} {bytes = bytes} h q) rest n b =
    let p = or_parts (eqb byte 34 || eqb byte 92) (opens_interpolation byte text) (not-true _ h) in
    let r = or_parts (eqb byte 34) (eqb byte 92) p.0 in
    spelt_literal byte (text ++ rest) r.0 r.1 (opens_before byte text rest b ∙ p.1) ∙ ap (with_bytes (byte ∷ [])) (spelt_complete q rest n b)
spelt_complete (escape word value {text = text} {bytes = bytes} e q) rest n b =
    let more = text ++ rest in
    ap (λ t. past_escape (92 ∷ t) (escape_at t) (spelt_past t)) (append_assoc word text rest)
    ∙ ap (λ o. past_escape (92 ∷ word ++ more) o (spelt_past (word ++ more))) (escape_complete e more)
    ∙ ap (with_bytes value) (spelt_drop (word ++ more) (length word) ∙ ap (λ t. spelt_past t 0) (drop_at word more (length word) refl) ∙ spelt_complete q rest n b)

-- bytes are spelled before a rest where nothing more is spelled
pub record IsSpelt (text : List ℕ) (spelt : Spelt) : Type 0 where
  pub inside : List ℕ
  pub quoted : Quoted inside spelt.0
  pub split : text ≡ inside ++ spelt.1
  pub stops : next_at spelt.1 ≡ None

opens_less : (byte : ℕ) (inside rest : List ℕ) → opens_interpolation byte (inside ++ rest) ≡ false → opens_interpolation byte inside ≡ false
opens_less byte [] rest h = refl
opens_less byte (next ∷ inside) rest h = h

spelt_found : (text : List ℕ) (n : ℕ) → IsSpelt (drop n text) (spelt_past text n)
spelt_found [] n = record { inside = []; quoted = end; split = drop-nil n; stops = refl }
spelt_found (byte ∷ text) (suc n) = spelt_found text n
spelt_found (byte ∷ text) zero = by (spelt_found text) (eqb byte 34) (eqb byte 92) (opens_interpolation byte text) refl refl refl
  where
    here : next_at (byte ∷ text) ≡ None → IsSpelt (byte ∷ text) ([], byte ∷ text)
    here n = record { inside = []; quoted = end; split = refl; stops = n }

    literal_more : (tail : Spelt) → eqb byte 34 ≡ false → eqb byte 92 ≡ false → opens_interpolation byte text ≡ false → IsSpelt text tail → IsSpelt (byte ∷ text) (with_bytes (byte ∷ []) tail)
    literal_more tail a b c ih =
        let o : opens_interpolation byte ih.inside ≡ false = opens_less byte ih.inside tail.1 (ap (opens_interpolation byte) (sym ih.split) ∙ c) in
        record {
          inside = byte ∷ ih.inside;
          quoted = literal (not_from_false _ (or_from (eqb byte 34 || eqb byte 92) (opens_interpolation byte ih.inside) (or_from (eqb byte 34) (eqb byte 92) a b) o)) ih.quoted;
          split = ap (λ t. byte ∷ t) ih.split;
          stops = ih.stops;
        }

    escape_more : (word : List ℕ × ℕ) (tail : Spelt) → eqb byte 92 ≡ true → IsEscape text word.0 word.1 → IsSpelt (drop word.1 text) tail → IsSpelt (byte ∷ text) (with_bytes word.0 tail)
    escape_more word tail b s ih = record {
      inside = 92 ∷ s.0 ++ ih.inside;
      quoted = escape s.0 word.0 s.1 ih.quoted;
      split = ap (λ c. c ∷ text) (eqb-true byte 92 b) ∙ ap (λ t. 92 ∷ t) (s.2 ∙ ap (λ t. s.0 ++ t) ih.split ∙ sym (append_assoc s.0 ih.inside tail.1));
      stops = ih.stops;
    }

    by : ((n : ℕ) → IsSpelt (drop n text) (spelt_past text n)) → (quote slash opens : Bool) → eqb byte 34 ≡ quote → eqb byte 92 ≡ slash → opens_interpolation byte text ≡ opens → IsSpelt (byte ∷ text) (cond quote ([], byte ∷ text) (cond slash (past_escape (byte ∷ text) (escape_at text) (spelt_past text)) (cond opens ([], byte ∷ text) (with_bytes (byte ∷ []) (spelt_past text 0)))))
    by ih true slash opens a b c = here (rw a refl)
    by ih false true opens a b c = two (escape_at text) refl
      where
        two : (word : Option (List ℕ × ℕ)) → escape_at text ≡ word → IsSpelt (byte ∷ text) (past_escape (byte ∷ text) word (spelt_past text))
        two None w = here (rw (a, b, w) refl)
        two (Some word) w = escape_more word (spelt_past text word.1) b (escape_sound text word w) (ih word.1)
    by ih false false true a b c = here (rw (a, b, c) refl)
    by ih false false false a b c = literal_more (spelt_past text 0) a b c (ih 0)

pub spelt_sound : (text : List ℕ) → IsSpelt text (spelt_at text)
spelt_sound text = spelt_found text 0

pub no_escape : (text : List ℕ) → escape_at text ≡ None → IsNoEscape text
no_escape text n word value after e s = none_some (sym n ∙ ap escape_at s ∙ escape_complete e after)

none_from_no_escape : (text : List ℕ) → IsNoEscape text → escape_at text ≡ None
none_from_no_escape text h = by (escape_at text) refl
  where
    by : (o : Option (List ℕ × ℕ)) → escape_at text ≡ o → o ≡ None
    by None e = refl
    by (Some word) e = let s = escape_sound text word e in absurd (h s.0 word.0 (drop word.1 text) s.1 s.2)

-- a backslash that begins no escape stops a string
pub slash_stops : (text : List ℕ) → IsNoEscape text → next_at (92 ∷ text) ≡ None
slash_stops text h = ap (λ o. after_escape o text) (none_from_no_escape text h)

-- what stops a string but for its closing quote
pub broken_stop : (byte : ℕ) (text : List ℕ) → next_at (byte ∷ text) ≡ None → eqb byte 34 ≡ false → ((byte ≡ 92) × (escape_at text ≡ None)) ⊎ ((eqb byte 92 ≡ false) × (opens_interpolation byte text ≡ true))
broken_stop byte text n q = by (eqb byte 92) (opens_interpolation byte text) refl refl
  where
    none_word : (word : Option (List ℕ × ℕ)) → after_escape word text ≡ None → word ≡ None
    none_word None e = refl
    none_word (Some word) e = absurd (none_some (sym e))

    by : (slash opens : Bool) → eqb byte 92 ≡ slash → opens_interpolation byte text ≡ opens → ((byte ≡ 92) × (escape_at text ≡ None)) ⊎ ((eqb byte 92 ≡ false) × (opens_interpolation byte text ≡ true))
    by true opens s o = inl (eqb-true byte 92 s, none_word (escape_at text) (sym (rw (q, s) refl) ∙ n))
    by false true s o = inr (s, o)
    by false false s o = let k : next_at (byte ∷ text) ≡ Some (byte ∷ [], text) = rw (q, s, o) refl in absurd (none_some (sym n ∙ k))

-- what is between quotes is spelled up to the closing one
pub quoted_is_spelt : (text : List ℕ) (found : List ℕ × List ℕ) → quoted_at text ≡ Some found → spelt_at text ≡ (found.0, 34 ∷ found.1)
quoted_is_spelt text found e =
    let s = quoted_sound text found e in
    ap spelt_at s.2 ∙ spelt_complete s.1 (34 ∷ found.1) refl refl

pub quoted_from_spelt : (text bytes rest : List ℕ) → spelt_at text ≡ (bytes, 34 ∷ rest) → quoted_at text ≡ Some (bytes, rest)
quoted_from_spelt text bytes rest e =
    let s = spelt_sound text in
    let split : text ≡ s.inside ++ 34 ∷ rest = s.split ∙ ap (λ l. s.inside ++ l) (ap (λ x. x.1) e) in
    ap quoted_at split ∙ quoted_complete s.quoted rest ∙ ap (λ b. Some (b, rest)) (ap (λ x. x.0) e)

-- one string's inside after another's
pub quoted_append : {a x b y : List ℕ} → Quoted a x → Quoted b y → starts_with 123 b ≡ false → Quoted (a ++ b) (x ++ y)
quoted_append end q c = q
quoted_append {b = b} (literal {byte = byte} {text = text} h p) q c = literal (ap (λ o. not ((eqb byte 34 || eqb byte 92) || o)) (opens_before byte text b c) ∙ h) (quoted_append p q c)
quoted_append {b = b} {y = y} (escape word value {text = text} {bytes = bytes} e p) q c =
    subst (λ l. Quoted (92 ∷ l) ((value ++ bytes) ++ y)) (sym (append_assoc word text b)) (subst (λ l. Quoted (92 ∷ word ++ (text ++ b)) l) (sym (append_assoc value bytes y)) (escape word value e (quoted_append p q c)))

-- what makes the bytes UTF-8 stands for itself in a string
pub record Becomes (bytes : List ℕ) : Type 0 where
  pub end : List ℕ
  pub quoted : Quoted end end
  pub clear : starts_with 123 end ≡ false
  pub utf8 : IsUtf8 (bytes ++ end)
  -- the same with an escape for its first byte
  pub digits : List ℕ
  pub last : List ℕ
  pub escaped : Quoted (92 ∷ 120 ∷ digits) last
  pub last_utf8 : IsUtf8 (bytes ++ last)

pub becomes : (bytes : List ℕ) → can_become bytes ≡ true → Becomes bytes
becomes bytes h = one (is_utf8 bytes) refl h
  where
    made : (more digits : List ℕ) → Quoted more more → Quoted (92 ∷ 120 ∷ digits) more → starts_with 123 more ≡ false → is_utf8 (bytes ++ more) ≡ true → Becomes bytes
    made more digits q d c u =
        let v = IsUtf8-from_is_utf8 (bytes ++ more) u in
        record {
          end = more;
          quoted = q;
          clear = c;
          utf8 = v;
          digits = digits;
          last = more;
          escaped = d;
          last_utf8 = v;
        }

    whole : is_utf8 bytes ≡ true → Becomes bytes
    whole u =
        let v = IsUtf8-from_is_utf8 bytes u in
        record {
          end = [];
          quoted = end;
          clear = refl;
          utf8 = subst IsUtf8 (sym (append-nil bytes)) v;
          digits = 48 ∷ 48 ∷ [];
          last = 0 ∷ [];
          escaped = escape (120 ∷ 48 ∷ 48 ∷ []) (0 ∷ []) (by_byte 48 48 refl) end;
          last_utf8 = IsUtf8-append bytes (0 ∷ []) v (one_char 0 (0 ∷ []) refl (encode_ascii 0 (omega arith)));
        }

    six : is_utf8 (bytes ++ 144 ∷ 128 ∷ 128 ∷ []) ≡ true → Becomes bytes
    six u = made (144 ∷ 128 ∷ 128 ∷ []) (57 ∷ 48 ∷ 128 ∷ 128 ∷ []) (literal refl (literal refl (literal refl end))) (escape (120 ∷ 57 ∷ 48 ∷ []) (144 ∷ []) (by_byte 57 48 refl) (literal refl (literal refl end))) refl u

    five : (yes : Bool) → is_utf8 (bytes ++ 160 ∷ 128 ∷ []) ≡ yes → (yes || is_utf8 (bytes ++ 144 ∷ 128 ∷ 128 ∷ [])) ≡ true → Becomes bytes
    five true u h = made (160 ∷ 128 ∷ []) (65 ∷ 48 ∷ 128 ∷ []) (literal refl (literal refl end)) (escape (120 ∷ 65 ∷ 48 ∷ []) (160 ∷ []) (by_byte 65 48 refl) (literal refl end)) refl u
    five false u h = six h

    four : (yes : Bool) → is_utf8 (bytes ++ 128 ∷ 128 ∷ 128 ∷ []) ≡ yes → (yes || (is_utf8 (bytes ++ 160 ∷ 128 ∷ []) || is_utf8 (bytes ++ 144 ∷ 128 ∷ 128 ∷ []))) ≡ true → Becomes bytes
    four true u h = made (128 ∷ 128 ∷ 128 ∷ []) (56 ∷ 48 ∷ 128 ∷ 128 ∷ []) (literal refl (literal refl (literal refl end))) (escape (120 ∷ 56 ∷ 48 ∷ []) (128 ∷ []) (by_byte 56 48 refl) (literal refl (literal refl end))) refl u
    four false u h = five (is_utf8 (bytes ++ 160 ∷ 128 ∷ [])) refl h

    three : (yes : Bool) → is_utf8 (bytes ++ 128 ∷ 128 ∷ []) ≡ yes → (yes || (is_utf8 (bytes ++ 128 ∷ 128 ∷ 128 ∷ []) || (is_utf8 (bytes ++ 160 ∷ 128 ∷ []) || is_utf8 (bytes ++ 144 ∷ 128 ∷ 128 ∷ [])))) ≡ true → Becomes bytes
    three true u h = made (128 ∷ 128 ∷ []) (56 ∷ 48 ∷ 128 ∷ []) (literal refl (literal refl end)) (escape (120 ∷ 56 ∷ 48 ∷ []) (128 ∷ []) (by_byte 56 48 refl) (literal refl end)) refl u
    three false u h = four (is_utf8 (bytes ++ 128 ∷ 128 ∷ 128 ∷ [])) refl h

    two : (yes : Bool) → is_utf8 (bytes ++ 128 ∷ []) ≡ yes → (yes || (is_utf8 (bytes ++ 128 ∷ 128 ∷ []) || (is_utf8 (bytes ++ 128 ∷ 128 ∷ 128 ∷ []) || (is_utf8 (bytes ++ 160 ∷ 128 ∷ []) || is_utf8 (bytes ++ 144 ∷ 128 ∷ 128 ∷ []))))) ≡ true → Becomes bytes
    two true u h = made (128 ∷ []) (56 ∷ 48 ∷ []) (literal refl end) (escape (120 ∷ 56 ∷ 48 ∷ []) (128 ∷ []) (by_byte 56 48 refl) end) refl u
    two false u h = three (is_utf8 (bytes ++ 128 ∷ 128 ∷ [])) refl h

    one : (yes : Bool) → is_utf8 bytes ≡ yes → (yes || (is_utf8 (bytes ++ 128 ∷ []) || (is_utf8 (bytes ++ 128 ∷ 128 ∷ []) || (is_utf8 (bytes ++ 128 ∷ 128 ∷ 128 ∷ []) || (is_utf8 (bytes ++ 160 ∷ 128 ∷ []) || is_utf8 (bytes ++ 144 ∷ 128 ∷ 128 ∷ [])))))) ≡ true → Becomes bytes
    one true u h = whole u
    one false u h = two (is_utf8 (bytes ++ 128 ∷ [])) refl h

-- The first byte or escape of what stands between quotes.
use Rattle.std.proofs.Common.{◌≡◌, ℕ, zero, suc, ◌+◌, ◌<◌, Bool, true, false, ◌&&◌, ◌||◌, List, [], ◌∷◌, ◌++◌, Option, Some, None, length, drop, cond, eqb, refl, sym, ap, ◌∙◌, arith, subst}
use Rattle.std.proofs.lemmas.Bool.{and_right, or_from, not_from_false, eqb-true, true≢false}
use Rattle.std.proofs.lemmas.List.{drop_at, length-append}
use Rattle.std.proofs.lemmas.Str.{IsUtf8-nil, IsUtf8-append, IsUtf8-from_is_utf8}
use Rattle.std.specs.Str.{IsUtf8, is_utf8}
use Rattle.term_tokens.specs.Lexed.{can_become, spelt_at, stuck_item, kept, after_item, stuck_past}
use Rattle.term_tokens.specs.Lexing.{escape_at, after_escape, next_at, before, escaped, quoted_past, quoted_at}
use Rattle.term_tokens.specs.Local.{starts_with}
use Rattle.term_tokens.specs.Strings.{Escape, opens_interpolation, Quoted, literal, escape}
use Rattle.term_tokens.proofs.OptionLemmas.{none_some, some_same, map_some}
use Rattle.term_tokens.proofs.StringParts.{escape_sound, escape_complete, quoted_drop}
use Rattle.term_tokens.proofs.Utf8Lemmas.{front_can, utf8_after}

-- what may come after the front makes it, after the bytes, a whole inside that is UTF-8
pub record Opens (bytes text front : List ℕ) : Type 0 where
  pub more : List ℕ
  pub spelled : List ℕ
  pub quoted : Quoted (front ++ more) spelled
  pub utf8 : IsUtf8 (bytes ++ spelled)
  pub seam : starts_with 123 text ≡ false → starts_with 123 (front ++ more) ≡ false

-- nothing that begins so does
abbrev pub Never : List ℕ → List ℕ → Type 0
Never bytes part = (more : List ℕ) (found : List ℕ × List ℕ) → quoted_at (part ++ more) ≡ Some found → IsUtf8 (bytes ++ found.0) → ⊥

-- so the text may go on up to the place, and with the byte there no more
pub record Stuck (bytes text place : List ℕ) : Type 0 where
  pub front : List ℕ
  pub byte : ℕ
  pub after : List ℕ
  pub split : text ≡ front ++ byte ∷ after
  pub here : place ≡ byte ∷ after
  pub opens : Opens bytes text front
  pub shut : Never bytes (front ++ byte ∷ [])
  pub early : length (spelt_at text).1 < length place

-- so the text may go on up to where its quotes stop
pub record Free (bytes text : List ℕ) : Type 0 where
  pub front : List ℕ
  pub split : text ≡ front ++ (spelt_at text).1
  pub opens : Opens bytes text front

-- ---- the first byte or escape: the text, what it is, what it spells, and the text after it

pub data Item : List ℕ → List ℕ → List ℕ → List ℕ → Type 0 where
  plain : {byte : ℕ} {after : List ℕ} → eqb byte 34 ≡ false → eqb byte 92 ≡ false → opens_interpolation byte after ≡ false → Item (byte ∷ after) (byte ∷ []) (byte ∷ []) after
  slashed : {word value after : List ℕ} → Escape word value → Item (92 ∷ word ++ after) (92 ∷ word) value after

abbrev pub IsItem : List ℕ → List ℕ → List ℕ → Type 0
IsItem text value after = (word : List ℕ) × Item text word value after

pub item_of : (text value after : List ℕ) → next_at text ≡ Some (value, after) → IsItem text value after
item_of [] value after h = absurd (none_some h)
item_of (byte ∷ text) value after h = by (eqb byte 34) (eqb byte 92) (opens_interpolation byte text) refl refl refl h
  where
    by : (quote slash opens : Bool) → eqb byte 34 ≡ quote → eqb byte 92 ≡ slash → opens_interpolation byte text ≡ opens → cond quote None (cond slash (after_escape (escape_at text) text) (cond opens None (Some (byte ∷ [], text)))) ≡ Some (value, after) → IsItem (byte ∷ text) value after
    by true slash opens q s o h = absurd (none_some h)
    by false true opens q s o h =
        let m = map_some (λ f. (f.0, drop f.1 text)) (escape_at text) (value, after) h in
        let f = escape_sound text m.0 m.1 in
        let v : m.0.0 ≡ value = ap (λ x. x.0) m.2 in
        let a : drop m.0.1 text ≡ after = ap (λ x. x.1) m.2 in
        let whole : byte ∷ text ≡ 92 ∷ f.0 ++ after = (λ i. eqb-true byte 92 s i ∷ f.2 i) ∙ ap (λ l. 92 ∷ f.0 ++ l) a in
        subst (λ l. IsItem l value after) (sym whole) (92 ∷ f.0, slashed (subst (λ l. Escape f.0 l) v f.1))
    by false false true q s o h = absurd (none_some h)
    by false false false q s o h =
        let same : (byte ∷ [], text) ≡ (value, after) = some_same h in
        subst (λ p. IsItem (byte ∷ text) p.0 p.1) same (byte ∷ [], plain q s o)

pub item_split : {text word value after : List ℕ} → Item text word value after → text ≡ word ++ after
item_split (plain q s o) = refl
item_split (slashed e) = refl

pub item_shorter : {text word value after : List ℕ} → Item text word value after → length after < length text
item_shorter (plain q s o) = omega arith
item_shorter (slashed {word = word} {after = after} e) = omega (arith, length-append word after)

pub item_seam : {text word value after : List ℕ} → Item text word value after → (more : List ℕ) → starts_with 123 (word ++ more) ≡ starts_with 123 text
item_seam (plain q s o) more = refl
item_seam (slashed e) more = refl

pub opens_starts : (byte : ℕ) (text : List ℕ) → opens_interpolation byte text ≡ (eqb byte 35 && starts_with 123 text)
opens_starts byte [] = sym (and_right (eqb byte 35) false refl)
opens_starts byte (next ∷ text) = refl

-- what doesn't begin with a brace either
pub opens_other : (byte : ℕ) (text other : List ℕ) → opens_interpolation byte text ≡ false → (starts_with 123 text ≡ false → starts_with 123 other ≡ false) → opens_interpolation byte other ≡ false
opens_other byte text other o s = opens_starts byte other ∙ by (eqb byte 35) (starts_with 123 text) refl (sym (opens_starts byte text) ∙ o)
  where
    by : (hash brace : Bool) → starts_with 123 text ≡ brace → (hash && brace) ≡ false → (hash && starts_with 123 other) ≡ false
    by false brace p h = refl
    by true false p h = s p
    by true true p h = absurd (true≢false h)

pub item_quoted : {text word value after : List ℕ} → Item text word value after → (other spelled : List ℕ) → Quoted other spelled → (starts_with 123 after ≡ false → starts_with 123 other ≡ false) → Quoted (word ++ other) (value ++ spelled)
item_quoted (plain {byte = byte} {after = after} q s o) other spelled quoted seam =
    literal (not_from_false _ (or_from (eqb byte 34 || eqb byte 92) (opens_interpolation byte other) (or_from (eqb byte 34) (eqb byte 92) q s) (opens_other byte after other o seam))) quoted
item_quoted (slashed {word = word} {value = value} e) other spelled quoted seam = escape word value e quoted

-- what is found after an item that spells these bytes
abbrev pub IsFound : List ℕ → List ℕ → List ℕ × List ℕ → Type 0
IsFound value text found = (f : List ℕ × List ℕ) × (quoted_at text ≡ Some f) × (found.0 ≡ value ++ f.0)

pub before_found : (value text : List ℕ) (found : List ℕ × List ℕ) → before value (quoted_at text) ≡ Some found → IsFound value text found
before_found value text found h = let m = map_some (λ f. (value ++ f.0, f.1)) (quoted_at text) found h in (m.0, m.1, ap (λ x. x.0) (sym m.2))

pub literal_found : (byte : ℕ) (text : List ℕ) (found : List ℕ × List ℕ) → eqb byte 34 ≡ false → eqb byte 92 ≡ false → quoted_at (byte ∷ text) ≡ Some found → IsFound (byte ∷ []) text found
literal_found byte text found q s h = by (eqb byte 34) (eqb byte 92) (opens_interpolation byte text) q s h
  where
    by : (quote slash opens : Bool) → quote ≡ false → slash ≡ false → cond quote (Some ([], text)) (cond slash (escaped (escape_at text) (quoted_past text)) (cond opens None (before (byte ∷ []) (quoted_past text 0)))) ≡ Some found → IsFound (byte ∷ []) text found
    by true slash opens q s h = absurd (true≢false q)
    by false true opens q s h = absurd (true≢false s)
    by false false true q s h = absurd (none_some h)
    by false false false q s h = before_found (byte ∷ []) text found h

pub escape_step : {word value : List ℕ} → Escape word value → (text : List ℕ) → quoted_at (92 ∷ word ++ text) ≡ before value (quoted_at text)
escape_step {word = word} {value = value} e text =
    ap (λ o. escaped o (quoted_past (word ++ text))) (escape_complete e text)
    ∙ ap (before value) (quoted_drop (word ++ text) (length word) ∙ ap (λ t. quoted_past t 0) (drop_at word text (length word) refl))

pub escape_found : {word value : List ℕ} → Escape word value → (text : List ℕ) (found : List ℕ × List ℕ) → quoted_at (92 ∷ word ++ text) ≡ Some found → IsFound value text found
escape_found {value = value} e text found h = before_found value text found (sym (escape_step e text) ∙ h)

pub item_found : {text word value after : List ℕ} → Item text word value after → (other : List ℕ) (found : List ℕ × List ℕ) → quoted_at (word ++ other) ≡ Some found → IsFound value other found
item_found (plain {byte = byte} q s o) other found h = literal_found byte other found q s h
item_found (slashed e) other found h = escape_found e other found h

-- ---- the function, item by item

pub stuck_drop : (text : List ℕ) (n : ℕ) (bytes : List ℕ) → stuck_past text n bytes ≡ stuck_past (drop n text) 0 bytes
stuck_drop [] zero bytes = refl
stuck_drop [] (suc n) bytes = refl
stuck_drop (byte ∷ text) zero bytes = refl
stuck_drop (byte ∷ text) (suc n) bytes = stuck_drop text n bytes

-- one step
abbrev pub step : List ℕ → List ℕ → List ℕ → List ℕ → Option (List ℕ)
step bytes text value after = cond (can_become (bytes ++ value)) (stuck_past after 0 (kept (bytes ++ value))) (Some (stuck_item bytes text))

pub stuck_next : (text value after bytes : List ℕ) → next_at text ≡ Some (value, after) → stuck_past text 0 bytes ≡ step bytes text value after
stuck_next [] value after bytes h = absurd (none_some h)
stuck_next (byte ∷ text) value after bytes h = by (eqb byte 34) (eqb byte 92) (opens_interpolation byte text) h
  where
    word : (o : Option (List ℕ × ℕ)) → after_escape o text ≡ Some (value, after) → after_item bytes (byte ∷ text) o (stuck_past text) ≡ step bytes (byte ∷ text) value after
    word None h = absurd (none_some h)
    word (Some w) h =
        let same : (w.0, drop w.1 text) ≡ (value, after) = some_same h in
        ap (λ l. cond (can_become (bytes ++ w.0)) l (Some (stuck_item bytes (byte ∷ text)))) (stuck_drop text w.1 (kept (bytes ++ w.0))) ∙ ap (λ f. step bytes (byte ∷ text) f.0 f.1) same

    by : (quote slash opens : Bool) → cond quote None (cond slash (after_escape (escape_at text) text) (cond opens None (Some (byte ∷ [], text)))) ≡ Some (value, after) → after_item bytes (byte ∷ text) (cond quote None (cond slash (escape_at text) (cond opens None (Some (byte ∷ [], 0))))) (stuck_past text) ≡ step bytes (byte ∷ text) value after
    by true slash opens h = absurd (none_some h)
    by false true opens h = word (escape_at text) h
    by false false true h = absurd (none_some h)
    by false false false h = ap (λ f. step bytes (byte ∷ text) f.0 f.1) (some_same h)

pub stuck_end : (text bytes : List ℕ) → next_at text ≡ None → stuck_past text 0 bytes ≡ None
stuck_end [] bytes h = refl
stuck_end (byte ∷ text) bytes h = by (eqb byte 34) (eqb byte 92) (opens_interpolation byte text) h
  where
    word : (o : Option (List ℕ × ℕ)) → after_escape o text ≡ None → after_item bytes (byte ∷ text) o (stuck_past text) ≡ None
    word None h = refl
    word (Some w) h = absurd (none_some (sym h))

    by : (quote slash opens : Bool) → cond quote None (cond slash (after_escape (escape_at text) text) (cond opens None (Some (byte ∷ [], text)))) ≡ None → after_item bytes (byte ∷ text) (cond quote None (cond slash (escape_at text) (cond opens None (Some (byte ∷ [], 0))))) (stuck_past text) ≡ None
    by true slash opens h = refl
    by false true opens h = word (escape_at text) h
    by false false true h = refl
    by false false false h = absurd (none_some (sym h))

-- ---- bytes that are kept

pub kept_forth : (bytes more : List ℕ) → IsUtf8 (kept bytes ++ more) → IsUtf8 (bytes ++ more)
kept_forth bytes more u = by (is_utf8 bytes) refl u
  where
    by : (whole : Bool) → is_utf8 bytes ≡ whole → IsUtf8 (cond whole [] bytes ++ more) → IsUtf8 (bytes ++ more)
    by true w u = IsUtf8-append bytes more (IsUtf8-from_is_utf8 bytes w) u
    by false w u = u

pub kept_back : (bytes more : List ℕ) → IsUtf8 (bytes ++ more) → IsUtf8 (kept bytes ++ more)
kept_back bytes more u = by (is_utf8 bytes) refl
  where
    by : (whole : Bool) → is_utf8 bytes ≡ whole → IsUtf8 (cond whole [] bytes ++ more)
    by true w = utf8_after bytes more (IsUtf8-from_is_utf8 bytes w) u
    by false w = u

pub kept_can : (bytes : List ℕ) → can_become bytes ≡ true → can_become (kept bytes) ≡ true
kept_can bytes c = by (is_utf8 bytes)
  where
    by : (whole : Bool) → can_become (cond whole [] bytes) ≡ true
    by true = front_can [] [] IsUtf8-nil
    by false = c

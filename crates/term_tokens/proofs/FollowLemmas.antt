-- Tokens and blanks stay what they are where the text behind them goes on otherwise.
use Rattle.std.specs.Prelude.{codes}
use Rattle.std.proofs.Common.{◌≡◌, ℕ, ◌⊎◌, Bool, true, false, not, ◌&&◌, ◌||◌, ◌==◌, eqb, cond, List, [], ◌∷◌, ◌++◌, None, refl, sym, ap, ◌∙◌, subst, append_assoc, inl, inr, ⊎_elim}
use Rattle.std.proofs.lemmas.Bool.{eqb-true, or_cases}
use Rattle.term_tokens.specs.declared.token.Token.{Token}
use Rattle.term_tokens.specs.Lexing.{past_blank}
use Rattle.term_tokens.specs.Local.{starts_with, IsFree}
use Rattle.term_tokens.specs.Names.{is_name, is_name_byte, is_bare_atom}
use Rattle.term_tokens.specs.Tokens.{ends_name, ends_integer, ends_words, is_colon, opening, closing, Begins, bare_atom, atom, quoted_atom, integer, string, words, key, quoted_key, opens, closes, comma, arrow, Blanks, none, blank, comment, line_end}
use Rattle.term_tokens.proofs.NameLemmas.{name_break}
use Rattle.term_tokens.proofs.BeginLemmas.{bytes_same}

-- what goes on as the rest does, as far as what stands before it can see: nothing, a line feed, or the same byte
pub data Like : List ℕ → List ℕ → Type 0 where
  ended : {rest : List ℕ} → Like rest []
  broken : {rest : List ℕ} (more : List ℕ) → Like rest (10 ∷ more)
  same : (byte : ℕ) {one other : List ℕ} → Like (byte ∷ one) (byte ∷ other)

-- with the same bytes before both
pub like_after : (front rest other : List ℕ) → Like rest other → Like (front ++ rest) (front ++ other)
like_after [] rest other h = h
like_after (byte ∷ front) rest other h = same byte

-- a test that sees one byte, and takes the end and a line feed
like_test : (f : List ℕ → Bool) (g : ℕ → Bool) → f [] ≡ true → ((byte : ℕ) (text : List ℕ) → f (byte ∷ text) ≡ g byte) → g 10 ≡ true → {rest other : List ℕ} → Like rest other → f rest ≡ true → f other ≡ true
like_test f g nil one feed ended h = nil
like_test f g nil one feed (broken more) h = one 10 more ∙ feed
like_test f g nil one feed (same byte {one = x} {other = y}) h = one byte y ∙ sym (one byte x) ∙ h

no_name : (name : List ℕ) → not (is_name (name ++ 10 ∷ [])) ≡ true
no_name name = ap not (name_break name)

like_name : (name : List ℕ) {rest other : List ℕ} → Like rest other → ends_name name rest ≡ true → ends_name name other ≡ true
like_name name l h = like_test (ends_name name) (λ byte. not (is_name (name ++ byte ∷ []))) refl (λ byte text. refl) (no_name name) l h

like_integer : {rest other : List ℕ} → Like rest other → ends_integer rest ≡ true → ends_integer other ≡ true
like_integer l h = like_test ends_integer (λ byte. not (is_name_byte byte)) refl (λ byte text. refl) refl l h

like_words : (modifier : List ℕ) {rest other : List ℕ} → Like rest other → ends_words modifier rest ≡ true → ends_words modifier other ≡ true
like_words [] l h = like_test (ends_words []) (λ byte. not (byte == 115 || byte == 97)) refl (λ byte text. refl) refl l h
like_words (byte ∷ modifier) l h = refl

like_colon : {rest other : List ℕ} → Like rest other → starts_with 58 rest ≡ false → starts_with 58 other ≡ false
like_colon ended h = refl
like_colon (broken more) h = refl
like_colon (same byte) h = h

pub colon_free : (text : List ℕ) → starts_with 58 text ≡ false → is_colon text ≡ false
colon_free [] h = refl
colon_free (byte ∷ []) h = refl
colon_free (byte ∷ next ∷ text) h = rw h refl

-- the word of a token, which stays the token with other texts behind it
pub record Moves (start : List ℕ) (tok : Token) (after : List ℕ) : Type 0 where
  pub word : List ℕ
  pub split : start ≡ word ++ after
  pub moved : (other : List ℕ) → Like after other → Begins (word ++ other) tok other

pub bare_first : (name rest : List ℕ) → is_bare_atom name ≡ true → starts_with 58 (name ++ rest) ≡ false
bare_first name rest h =
    ⊎_elim (λ l. ⊎_elim (λ t. ap (λ n. starts_with 58 (n ++ rest)) (bytes_same name (codes "true") t)) (λ f. ap (λ n. starts_with 58 (n ++ rest)) (bytes_same name (codes "false") f)) (or_cases _ _ l))
    (λ n. ap (λ m. starts_with 58 (m ++ rest)) (bytes_same name (codes "nil") n))
    (or_cases _ _ h)

and_false : (a b : Bool) → a ≡ true → (a && b) ≡ false → b ≡ false
and_false true b e h = h
and_false false b e h = absurd (cc)

-- each token does, where it is free
pub moves : {start : List ℕ} {tok : Token} {after : List ℕ} → Begins start tok after → IsFree start tok after → Moves start tok after
moves (bare_atom {text = text} {name = name} {rest = rest} bare ends colon e) free =
    let plain : not (starts_with 58 text) ≡ true = ap (λ t. not (starts_with 58 t)) e ∙ ap not (bare_first name rest bare) in
    let open_ : starts_with 58 rest ≡ false = and_false (not (starts_with 58 text)) (starts_with 58 rest) plain free in
    record { word = name; split = e; moved = λ other l. bare_atom bare (like_name name l ends) (colon_free other (like_colon l open_)) refl }
moves (atom {name = name} {rest = rest} h ends e) free = record { word = 58 ∷ name; split = e; moved = λ other l. atom h (like_name name l ends) refl }
moves (quoted_atom {inside = inside} {rest = rest} q u e) free =
    record { word = 58 ∷ 34 ∷ inside ++ 34 ∷ []; split = e ∙ ap (λ l. 58 ∷ 34 ∷ l) (sym (append_assoc inside (34 ∷ []) rest)); moved = λ other l. quoted_atom q u (ap (λ l. 58 ∷ 34 ∷ l) (append_assoc inside (34 ∷ []) other)) }
moves (integer {word = word} h ends e) free = record { word = word; split = e; moved = λ other l. integer h (like_integer l ends) refl }
moves (string {inside = inside} {rest = rest} q colon e) free =
    record { word = 34 ∷ inside ++ 34 ∷ []; split = e ∙ ap (λ l. 34 ∷ l) (sym (append_assoc inside (34 ∷ []) rest)); moved = λ other l. string q (colon_free other (like_colon l free)) (ap (λ l. 34 ∷ l) (append_assoc inside (34 ∷ []) other)) }
moves (words {inside = inside} {modifier = modifier} {rest = rest} i c m ends e) free =
    record { word = 126 ∷ 119 ∷ 40 ∷ inside ++ 41 ∷ modifier; split = e; moved = λ other l. words i c m (like_words modifier l ends) refl }
moves (key {name = name} {rest = rest} white h b e) free = record { word = name ++ 58 ∷ white ∷ []; split = e ∙ sym (append_assoc name (58 ∷ white ∷ []) rest); moved = λ other l. key white h b (append_assoc name (58 ∷ white ∷ []) other) }
moves (quoted_key {inside = inside} {rest = rest} white q u b e) free =
    record { word = 34 ∷ inside ++ 34 ∷ 58 ∷ white ∷ []; split = e ∙ ap (λ l. 34 ∷ l) (sym (append_assoc inside (34 ∷ 58 ∷ white ∷ []) rest)); moved = λ other l. quoted_key white q u b (ap (λ l. 34 ∷ l) (append_assoc inside (34 ∷ 58 ∷ white ∷ []) other)) }
moves (opens {bracket = bracket} e) free = record { word = opening bracket; split = e; moved = λ other l. opens refl }
moves (closes {bracket = bracket} e) free = record { word = closing bracket ∷ []; split = e; moved = λ other l. closes refl }
moves (comma e) free = record { word = 44 ∷ []; split = e; moved = λ other l. comma refl }
moves (arrow e) free = record { word = 61 ∷ 62 ∷ []; split = e; moved = λ other l. arrow refl }

-- blanks that lead to a rest lead to others
pub record Shifts (text rest : List ℕ) : Type 0 where
  pub front : List ℕ
  pub split : text ≡ front ++ rest
  pub moved : (other : List ℕ) → Like rest other → Blanks (front ++ other) other

-- a line, its end and what it is
record LineCut (text : List ℕ) : Type 0 where
  line : List ℕ
  split : text ≡ line ++ line_end text
  cut : (other : List ℕ) → (other ≡ []) ⊎ ((more : List ℕ) × (other ≡ 10 ∷ more)) → line_end (line ++ other) ≡ other
  ends : (line_end text ≡ []) ⊎ ((more : List ℕ) × (line_end text ≡ 10 ∷ more))

at_end : (other : List ℕ) → (other ≡ []) ⊎ ((more : List ℕ) × (other ≡ 10 ∷ more)) → line_end other ≡ other
at_end other h = ⊎_elim (λ e. rw e refl) (λ m. rw m.1 refl) h

line_cut : (text : List ℕ) → LineCut text
line_cut [] = record { line = []; split = refl; cut = at_end; ends = inl refl }
line_cut (byte ∷ text) = by (line_cut text) (eqb byte 10) refl
  where
    by : LineCut text → (feed : Bool) → eqb byte 10 ≡ feed → LineCut (byte ∷ text)
    by c true f =
        let e : line_end (byte ∷ text) ≡ byte ∷ text = ap (λ b. cond b (byte ∷ text) (line_end text)) f in
        record { line = []; split = sym e; cut = at_end; ends = inr (text, e ∙ ap (λ b. b ∷ text) (eqb-true byte 10 f)) }
    by c false f =
        let e : line_end (byte ∷ text) ≡ line_end text = ap (λ b. cond b (byte ∷ text) (line_end text)) f in
        record {
          line = byte ∷ c.line;
          split = ap (λ l. byte ∷ l) (c.split ∙ ap (λ l. c.line ++ l) (sym e));
          cut = λ other h. ap (λ b. cond b (byte ∷ c.line ++ other) (line_end (c.line ++ other))) f ∙ c.cut other h;
          ends = subst (λ l. (l ≡ []) ⊎ ((more : List ℕ) × (l ≡ 10 ∷ more))) (sym e) c.ends;
        }

-- the end of a line with another text behind the front
front_ends : (end front rest other : List ℕ) → end ≡ front ++ rest → past_blank rest ≡ None → (end ≡ []) ⊎ ((more : List ℕ) × (end ≡ 10 ∷ more)) → Like rest other → (front ++ other ≡ []) ⊎ ((more : List ℕ) × (front ++ other ≡ 10 ∷ more))
front_ends end (byte ∷ front) rest other e solid h l = ⊎_elim (λ n. absurd (cc)) (λ m. inr (front ++ other, ap (λ b. b ∷ front ++ other) (first byte front rest end m.0 e m.1))) h
  where
    first : (byte : ℕ) (front rest end more : List ℕ) → end ≡ byte ∷ front ++ rest → end ≡ 10 ∷ more → byte ≡ 10
    first byte front rest end more e f = cc
front_ends end [] rest other e solid h l = ⊎_elim (λ n. nothing rest other (sym e ∙ n) l) (λ m. absurd (not_solid rest m.0 (sym e ∙ m.1) solid)) h
  where
    nothing : (rest other : List ℕ) → rest ≡ [] → Like rest other → (other ≡ []) ⊎ ((more : List ℕ) × (other ≡ 10 ∷ more))
    nothing rest other e ended = inl refl
    nothing rest other e (broken more) = inr (more, refl)
    nothing rest other e (same byte) = absurd (cc)

    not_solid : (rest more : List ℕ) → rest ≡ 10 ∷ more → past_blank rest ≡ None → ⊥
    not_solid rest more e h = let f : past_blank (10 ∷ more) ≡ None = subst (λ l. past_blank l ≡ None) e h in cc

pub shifts : {text rest : List ℕ} → Blanks text rest → past_blank rest ≡ None → Shifts text rest
shifts none solid = record { front = []; split = refl; moved = λ other l. none }
shifts (blank {byte = byte} w h) solid = let s = shifts h solid in record { front = byte ∷ s.front; split = ap (λ l. byte ∷ l) s.split; moved = λ other l. blank w (s.moved other l) }
shifts {rest = rest} (comment {text = text} h) solid =
    let s = shifts h solid in
    let c = line_cut text in
    record {
      front = 35 ∷ c.line ++ s.front;
      split = ap (λ l. 35 ∷ l) (c.split ∙ ap (λ l. c.line ++ l) s.split ∙ sym (append_assoc c.line s.front rest));
      moved = λ other l.
          let e : line_end ((c.line ++ s.front) ++ other) ≡ s.front ++ other = ap line_end (append_assoc c.line s.front other) ∙ c.cut (s.front ++ other) (front_ends (line_end text) s.front rest other s.split solid c.ends l) in
          comment (subst (λ l. Blanks l other) (sym e) (s.moved other l));
    }

-- The first token of a text is the one that the function finds, and tokens lead to one place.
use Rattle.std.proofs.Common.{◌≡◌, ℕ, zero, suc, ◌<◌, Bool, true, false, not, List, [], ◌∷◌, ◌++◌, Option, Some, None, length, take, drop, cond, eqb, refl, sym, ap, ◌∙◌, arith, subst}
use Rattle.std.specs.List.{list_all}
use Rattle.std.proofs.lemmas.Bool.{and_parts, and_from, eqb-true, ne_eqb, true≢false, false≢true, not-true}
use Rattle.std.proofs.lemmas.List.{take_at, drop_at, take-append-drop, length-append, append-nil}
use Rattle.unit_lang.specs.declared.token.Token.{Token}
use Rattle.unit_lang.specs.declared.token.Token.TheVariants.{Word, Equals, Plus, Minus, Star, Open, Close}
use Rattle.unit_lang.specs.Names.{is_blank, is_word_byte}
use Rattle.unit_lang.specs.Tokens.{is_word, ends_word, Begins, word, equals, plus, minus, star, parenthesis, closing, without_blanks, Leads, end, token, AreTokens}
use Rattle.unit_lang.specs.Lexing.{word_len, sign, word_of, sign_or_word, first_token}

not_zero : (len : ℕ) → eqb (suc len) 0 ≡ false
not_zero len = ne_eqb (suc len) 0 (λ e. omega arith)

word_of_more : (len : ℕ) (text : List ℕ) → word_of (suc len) text ≡ Some (Word (take (suc len) text), drop (suc len) text)
word_of_more len text = ap (λ z. cond z None (Some (Word (take (suc len) text), drop (suc len) text))) (not_zero len)

len_ends : (rest : List ℕ) → ends_word rest ≡ true → word_len rest ≡ 0
len_ends [] h = refl
len_ends (byte ∷ rest) h = ap (λ b. cond b (suc (word_len rest)) 0) (not-true (is_word_byte byte) h)

pub len_word : (bytes rest : List ℕ) → list_all is_word_byte bytes ≡ true → ends_word rest ≡ true → word_len (bytes ++ rest) ≡ length bytes
len_word [] rest h ends = len_ends rest ends
len_word (byte ∷ bytes) rest h ends =
    let parts = and_parts (is_word_byte byte) (list_all is_word_byte bytes) h in
    ap (λ b. cond b (suc (word_len (bytes ++ rest))) 0) parts.0 ∙ ap suc (len_word bytes rest parts.1 ends)

-- a word begins with none of the other tokens' bytes
no_sign : (byte : ℕ) → is_word_byte byte ≡ true → sign byte ≡ None
no_sign byte h =
    let other = λ (b : ℕ) (n : is_word_byte b ≡ false). ne_eqb byte b (λ e. true≢false (sym (subst (λ x. is_word_byte x ≡ true) e h) ∙ n)) in
    let a = other 61 refl in
    let b = other 43 refl in
    let c = other 45 refl in
    let d = other 42 refl in
    let f = other 40 refl in
    let g = other 41 refl in
    rw (a, b, c, d, f, g) refl

word_first : (bytes rest : List ℕ) → is_word bytes ≡ true → ends_word rest ≡ true → first_token (bytes ++ rest) ≡ Some (Word bytes, rest)
word_first [] rest h ends = absurd (false≢true h)
word_first (byte ∷ bytes) rest h ends =
    let parts = and_parts (is_word_byte byte) (list_all is_word_byte bytes) h in
    ap (λ o. sign_or_word o (byte ∷ bytes ++ rest) (bytes ++ rest)) (no_sign byte parts.0)
    ∙ ap (λ n. word_of n (byte ∷ bytes ++ rest)) (len_word (byte ∷ bytes) rest h ends)
    ∙ word_of_more (length bytes) (byte ∷ bytes ++ rest)
    ∙ ap (λ l. Some (Word (byte ∷ l), drop (length bytes) (bytes ++ rest))) (take_at bytes rest (length bytes) refl)
    ∙ ap (λ l. Some (Word (byte ∷ bytes), l)) (drop_at bytes rest (length bytes) refl)

-- what a text begins with, the function finds
pub begins_first : {text : List ℕ} {tok : Token} {rest : List ℕ} → Begins text tok rest → first_token text ≡ Some (tok, rest)
begins_first (word {rest = rest} {bytes = bytes} w ends split) = ap first_token split ∙ word_first bytes rest w ends
begins_first equals = refl
begins_first plus = refl
begins_first minus = refl
begins_first star = refl
begins_first parenthesis = refl
begins_first closing = refl

abbrev Found : List ℕ → Option (Token × List ℕ) → Type 0
Found text None = Unit {0}
Found text (Some found) = Begins text found.0 found.1

abbrev pub WordCut : List ℕ → Type 0
WordCut text = (list_all is_word_byte (take (word_len text) text) ≡ true) × (ends_word (drop (word_len text) text) ≡ true)

cut_at : (byte : ℕ) (text : List ℕ) (t : Bool) → is_word_byte byte ≡ t → WordCut text → (list_all is_word_byte (take (cond t (suc (word_len text)) 0) (byte ∷ text)) ≡ true) × (ends_word (drop (cond t (suc (word_len text)) 0) (byte ∷ text)) ≡ true)
cut_at byte text true t h = (and_from (is_word_byte byte) (list_all is_word_byte (take (word_len text) text)) t h.0, h.1)
cut_at byte text false t h = (refl, ap not t)

pub word_cut : (text : List ℕ) → WordCut text
word_cut [] = (refl, refl)
word_cut (byte ∷ text) = cut_at byte text (is_word_byte byte) refl (word_cut text)

not_empty : (text : List ℕ) (len : ℕ) → word_len text ≡ suc len → list_all is_word_byte (take (suc len) text) ≡ true → is_word (take (suc len) text) ≡ true
not_empty [] len e h = absurd (cc)
not_empty (byte ∷ text) len e h = h

word_found : (text : List ℕ) (len : ℕ) → word_len text ≡ len → Found text (word_of len text)
word_found text zero e = tt
word_found text (suc len) e =
    let cut = word_cut text in
    let all : list_all is_word_byte (take (suc len) text) ≡ true = subst (λ n. list_all is_word_byte (take n text) ≡ true) e cut.0 in
    let ends : ends_word (drop (suc len) text) ≡ true = subst (λ n. ends_word (drop n text) ≡ true) e cut.1 in
    subst (λ o. Found text o) (sym (word_of_more len text)) (word (not_empty text len e all) ends (sym (take-append-drop (suc len) text)))

sign_found : (byte : ℕ) (text : List ℕ) (a b c d e f : Bool) → eqb byte 61 ≡ a → eqb byte 43 ≡ b → eqb byte 45 ≡ c → eqb byte 42 ≡ d → eqb byte 40 ≡ e → eqb byte 41 ≡ f → Found (byte ∷ text) (sign_or_word (cond a (Some Equals) (cond b (Some Plus) (cond c (Some Minus) (cond d (Some Star) (cond e (Some Open) (cond f (Some Close) None)))))) (byte ∷ text) text)
sign_found byte text true b c d e f p q r s t v = subst (λ x. Begins (x ∷ text) Equals text) (sym (eqb-true byte 61 p)) equals
sign_found byte text false true c d e f p q r s t v = subst (λ x. Begins (x ∷ text) Plus text) (sym (eqb-true byte 43 q)) plus
sign_found byte text false false true d e f p q r s t v = subst (λ x. Begins (x ∷ text) Minus text) (sym (eqb-true byte 45 r)) minus
sign_found byte text false false false true e f p q r s t v = subst (λ x. Begins (x ∷ text) Star text) (sym (eqb-true byte 42 s)) star
sign_found byte text false false false false true f p q r s t v = subst (λ x. Begins (x ∷ text) Open text) (sym (eqb-true byte 40 t)) parenthesis
sign_found byte text false false false false false true p q r s t v = subst (λ x. Begins (x ∷ text) Close text) (sym (eqb-true byte 41 v)) closing
sign_found byte text false false false false false false p q r s t v = word_found (byte ∷ text) (word_len (byte ∷ text)) refl

found_first : (text : List ℕ) → Found text (first_token text)
found_first [] = tt
found_first (byte ∷ text) = sign_found byte text (eqb byte 61) (eqb byte 43) (eqb byte 45) (eqb byte 42) (eqb byte 40) (eqb byte 41) refl refl refl refl refl refl

-- what the function finds, the text begins with
pub first_begins : (text : List ℕ) (tok : Token) (rest : List ℕ) → first_token text ≡ Some (tok, rest) → Begins text tok rest
first_begins text tok rest e = subst (λ o. Found text o) e (found_first text)

begins_shorter : {text : List ℕ} {tok : Token} {rest : List ℕ} → Begins text tok rest → length rest < length text
begins_shorter (word {rest = rest} {bytes = []} w ends split) = absurd (false≢true w)
begins_shorter (word {rest = rest} {bytes = byte ∷ bytes} w ends split) = omega (arith, ap length split, length-append bytes rest)
begins_shorter equals = omega arith
begins_shorter plus = omega arith
begins_shorter minus = omega arith
begins_shorter star = omega arith
begins_shorter parenthesis = omega arith
begins_shorter closing = omega arith

-- a token takes at least one byte
pub first_shorter : (text : List ℕ) (tok : Token) (rest : List ℕ) → first_token text ≡ Some (tok, rest) → length rest < length text
first_shorter text tok rest e = begins_shorter (first_begins text tok rest e)

-- two finds are the same
pub some_pair : {A B : Type 0} (p q : A × B) → Some p ≡ Some q → (p.0 ≡ q.0) × (p.1 ≡ q.1)
some_pair {A} {B} p q e =
    let same : p ≡ q = cc in
    (ap (λ (x : A × B). x.0) same, ap (λ (x : A × B). x.1) same)

blanks_twice_at : (byte : ℕ) (text : List ℕ) (t : Bool) → is_blank byte ≡ t → without_blanks (without_blanks text) ≡ without_blanks text → without_blanks (cond t (without_blanks text) (byte ∷ text)) ≡ cond t (without_blanks text) (byte ∷ text)
blanks_twice_at byte text true t h = h
blanks_twice_at byte text false t h = ap (λ b. cond b (without_blanks text) (byte ∷ text)) t

-- blanks are gone at once
pub blanks_twice : (text : List ℕ) → without_blanks (without_blanks text) ≡ without_blanks text
blanks_twice [] = refl
blanks_twice (byte ∷ text) = blanks_twice_at byte text (is_blank byte) refl (blanks_twice text)

-- the first of the tokens that a text leads with
pub record Next (text : List ℕ) (tok : Token) (tokens : List Token) (rest : List ℕ) : Type 0 where
  pub after : List ℕ
  pub is : first_token (without_blanks text) ≡ Some (tok, after)
  pub leads : Leads after tokens rest

leads_next_by : {text rest : List ℕ} {all : List Token} (tok : Token) (tokens : List Token) → Leads text all rest → all ≡ tok ∷ tokens → Next text tok tokens rest
leads_next_by tok tokens (end e) split = absurd (cc)
leads_next_by {text} {rest} tok tokens (token {after = after} {t = t} {tokens = more} b l) split =
    let e1 : t ≡ tok = cc in
    let e2 : more ≡ tokens = cc in
    record { after = after; is = begins_first b ∙ ap (λ x. Some (x, after)) e1; leads = subst (λ k. Leads after k rest) e2 l }

pub leads_next : (text rest : List ℕ) (tok : Token) (tokens : List Token) → Leads text (tok ∷ tokens) rest → Next text tok tokens rest
leads_next text rest tok tokens h = leads_next_by tok tokens h refl

leads_none_by : {text rest : List ℕ} {all : List Token} → Leads text all rest → all ≡ [] → without_blanks text ≡ rest
leads_none_by (end e) split = e
leads_none_by (token b l) split = absurd (cc)

pub leads_none : (text rest : List ℕ) → Leads text [] rest → without_blanks text ≡ rest
leads_none text rest h = leads_none_by h refl

pub next_leads : (text rest : List ℕ) (tok : Token) (tokens : List Token) (after : List ℕ) → first_token (without_blanks text) ≡ Some (tok, after) → Leads after tokens rest → Leads text (tok ∷ tokens) rest
next_leads text rest tok tokens after e l = token (first_begins (without_blanks text) tok after e) l

-- tokens are followed by more
pub leads_push : (text rest after : List ℕ) (tokens : List Token) (tok : Token) → Leads text tokens rest → first_token rest ≡ Some (tok, after) → Leads text (tokens ++ tok ∷ []) (without_blanks after)
leads_push text rest after [] tok h e = next_leads text (without_blanks after) tok [] after (ap first_token (leads_none text rest h) ∙ e) (end refl)
leads_push text rest after (t ∷ tokens) tok h e =
    let k = leads_next text rest t tokens h in
    next_leads text (without_blanks after) t (tokens ++ tok ∷ []) k.after k.is (leads_push k.after rest after tokens tok k.leads e)

-- the rest after tokens begins with no blank
pub leads_solid : (text rest : List ℕ) (tokens : List Token) → Leads text tokens rest → without_blanks rest ≡ rest
leads_solid text rest [] h = let e = leads_none text rest h in ap without_blanks (sym e) ∙ blanks_twice text ∙ e
leads_solid text rest (t ∷ tokens) h = let k = leads_next text rest t tokens h in leads_solid k.after rest tokens k.leads

-- of two fronts of a text, one goes on the other: either it ends first, or a token follows it
pub data Meets : List Token → List ℕ → List Token → List ℕ → Type 0 where
  within : {front other more : List Token} {rest end : List ℕ} → front ≡ other ++ more → Leads end more rest → Meets front rest other end
  beyond : {front other more : List Token} {rest end after : List ℕ} (tok : Token) → other ≡ front ++ tok ∷ more → first_token rest ≡ Some (tok, after) → Leads after more end → Meets front rest other end

meets_push : (tok : Token) {front other : List Token} {rest end : List ℕ} → Meets front rest other end → Meets (tok ∷ front) rest (tok ∷ other) end
meets_push tok (within e l) = within (ap (λ k. tok ∷ k) e) l
meets_push tok (beyond t e n l) = beyond t (ap (λ k. tok ∷ k) e) n l

pub leads_meet : (text rest end : List ℕ) (front other : List Token) → Leads text front rest → Leads text other end → Meets front rest other end
leads_meet text rest last front [] a b =
    let e = leads_none text last b in
    within refl (leads_from text last rest front e a)
  where
    leads_from : (text last rest : List ℕ) (front : List Token) → without_blanks text ≡ last → Leads text front rest → Leads last front rest
    leads_from text last rest [] e a = end (ap without_blanks (sym e) ∙ blanks_twice text ∙ leads_none text rest a)
    leads_from text last rest (t ∷ front) e a = let k = leads_next text rest t front a in next_leads last rest t front k.after (ap first_token (ap without_blanks (sym e) ∙ blanks_twice text) ∙ k.is) k.leads
leads_meet text rest last [] (t ∷ other) a b =
    let k = leads_next text last t other b in
    let e = leads_none text rest a in
    beyond t refl (ap first_token (sym e) ∙ k.is) k.leads
leads_meet text rest last (s ∷ front) (t ∷ other) a b =
    let p = leads_next text rest s front a in
    let q = leads_next text last t other b in
    let same = some_pair (s, p.after) (t, q.after) (sym p.is ∙ q.is) in
    let m = leads_meet q.after rest last front other (subst (λ l. Leads l front rest) same.1 p.leads) q.leads in
    subst (λ k. Meets (k ∷ front) rest (t ∷ other) last) (sym same.0) (meets_push t m)

-- tokens of the whole text go on each front
pub record GoesOn (front tokens : List Token) (rest : List ℕ) : Type 0 where
  pub more : List Token
  pub split : tokens ≡ front ++ more
  pub leads : Leads rest more []

pub tokens_go_on : (text rest : List ℕ) (front tokens : List Token) → Leads text front rest → AreTokens text tokens → GoesOn front tokens rest
tokens_go_on text rest [] tokens a b = record { more = tokens; split = refl; leads = leads_rest text rest tokens (leads_none text rest a) b }
  where
    leads_rest : (text rest : List ℕ) (tokens : List Token) → without_blanks text ≡ rest → AreTokens text tokens → AreTokens rest tokens
    leads_rest text rest [] e b = end (ap without_blanks (sym e) ∙ blanks_twice text ∙ leads_none text [] b)
    leads_rest text rest (t ∷ tokens) e b = let k = leads_next text [] t tokens b in next_leads rest [] t tokens k.after (ap first_token (ap without_blanks (sym e) ∙ blanks_twice text) ∙ k.is) k.leads
tokens_go_on text rest (s ∷ front) [] a b =
    let p = leads_next text rest s front a in
    let e = ap first_token (sym (leads_none text [] b)) ∙ p.is in
    absurd (cc)
tokens_go_on text rest (s ∷ front) (t ∷ tokens) a b =
    let p = leads_next text rest s front a in
    let q = leads_next text [] t tokens b in
    let same = some_pair (s, p.after) (t, q.after) (sym p.is ∙ q.is) in
    let k = tokens_go_on q.after rest front tokens (subst (λ l. Leads l front rest) same.1 p.leads) q.leads in
    record { more = k.more; split = ap (λ l. t ∷ l) k.split ∙ ap (λ x. x ∷ front ++ k.more) (sym same.0); leads = k.leads }

-- a text is one list of tokens
pub tokens_one : (text : List ℕ) (xs ys : List Token) → AreTokens text xs → AreTokens text ys → xs ≡ ys
tokens_one text xs ys a b =
    let k = tokens_go_on text [] xs ys a b in
    nothing_more k.more k.leads k.split
  where
    nothing_more : (more : List Token) → Leads [] more [] → ys ≡ xs ++ more → xs ≡ ys
    nothing_more [] l e = sym (e ∙ append-nil xs)
    nothing_more (t ∷ more) l e = let n = leads_next [] [] t more l in let is = n.is in absurd (cc)

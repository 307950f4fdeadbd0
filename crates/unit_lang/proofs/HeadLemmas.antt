-- The name in a `unit` line.
use Rattle.std.proofs.Common.{◌≡◌, ℕ, ◌<◌, ◌&&◌, ◌++◌, Bool, true, false, List, [], ◌∷◌, Option, Some, None, cond, eqb, take, drop, length, codes, bytes_eq, refl, sym, ap, ◌∙◌, subst, inl, inr, arith, lit<}
use Rattle.std.specs.Prelude.{◌⊎◌, ◌↔◌, MatchOption, is_some, option_map}
use Rattle.std.specs.List.{list_all}
use Rattle.std.proofs.lemmas.Bool.{and_parts, eqb-true, false≢true}
use Rattle.std.proofs.lemmas.List.{take_at, drop_at, take-append-drop, nil_from_length}
use Rattle.std.proofs.lemmas.Slice.Eq.{bytes_eq-Decides}
use Rattle.unit_lang.specs.declared.token.Token.{Token}
use Rattle.unit_lang.specs.declared.token.Token.TheVariants.{Word}
use Rattle.unit_lang.specs.Lexing.{first_token, word_len, front_word, after_word, name_alone, title_of}
use Rattle.unit_lang.specs.Lines.{IsUnitLine, IsWarnLine, Names}
use Rattle.unit_lang.specs.Names.{is_name, is_word_byte}
use Rattle.unit_lang.specs.Tokens.{is_word, Begins, word, equals, plus, minus, star, parenthesis, closing, Leads, end, token, without_blanks, without_comment}
use Rattle.unit_lang.proofs.TokenLemmas.{first_begins, leads_none, leads_next, len_word, word_cut}
use Rattle.unit_lang.proofs.WarnLemmas.{warn_solid}

-- a word that the function finds, the text begins with
front_begins : (text bytes : List ℕ) → front_word text ≡ bytes → is_word bytes ≡ true → Begins text (Word bytes) (after_word text)
front_begins text bytes e w =
    word w (word_cut text).1 (sym (take-append-drop (word_len text) text) ∙ ap (λ b. b ++ drop (word_len text) text) e)

word_all : (bytes : List ℕ) → is_word bytes ≡ true → list_all is_word_byte bytes ≡ true
word_all [] h = absurd (false≢true h)
word_all (byte ∷ bytes) h = h

name_is_word : (name : List ℕ) → is_name name ≡ true → list_all is_word_byte name ≡ true → is_word name ≡ true
name_is_word [] n h = absurd (false≢true n)
name_is_word (byte ∷ name) n h = h

-- and a word that a text begins with, it finds
abbrev FrontIs : List ℕ → Token → List ℕ → Type 0
FrontIs text (Word bytes) rest = (front_word text ≡ bytes) × (after_word text ≡ rest)
FrontIs text tok rest = Unit {0}

begins_front : {text : List ℕ} {tok : Token} {rest : List ℕ} → Begins text tok rest → FrontIs text tok rest
begins_front (word {rest = rest} {bytes = bytes} w ends split) =
    let n = len_word bytes rest (word_all bytes w) ends in (
      ap front_word split ∙ ap (λ k. take k (bytes ++ rest)) n ∙ take_at bytes rest (length bytes) refl,
      ap after_word split ∙ ap (λ k. drop k (bytes ++ rest)) n ∙ drop_at bytes rest (length bytes) refl,
    )
begins_front equals = tt
begins_front plus = tt
begins_front minus = tt
begins_front star = tt
begins_front parenthesis = tt
begins_front closing = tt

first_front : (text bytes rest : List ℕ) → first_token text ≡ Some (Word bytes, rest) → (front_word text ≡ bytes) × (after_word text ≡ rest)
first_front text bytes rest e = begins_front (first_begins text (Word bytes) rest e)

-- a name alone
record Titled (text : List ℕ) (title : List ℕ) : Type 0 where
  leads : Leads text (Word title ∷ []) []
  is : is_name title ≡ true

alone_at : (text title : List ℕ) (t : Bool) → (is_name (front_word (without_blanks text)) && eqb (length (without_blanks (after_word (without_blanks text)))) 0) ≡ t → cond t (Some (front_word (without_blanks text))) None ≡ Some title → Titled text title
alone_at text title false t h = absurd (cc)
alone_at text title true t h =
    let rest = without_blanks text in
    let parts = and_parts (is_name (front_word rest)) (eqb (length (without_blanks (after_word rest))) 0) t in
    let same : front_word rest ≡ title = cc in
    let named = ap is_name (sym same) ∙ parts.0 in
    let w = name_is_word title named (ap (list_all is_word_byte) (sym same) ∙ (word_cut rest).0) in
    record {
      leads = token (front_begins rest title same w) (end (nil_from_length (without_blanks (after_word rest)) (eqb-true (length (without_blanks (after_word rest))) 0 parts.1)));
      is = named;
    }

alone_titled : (text title : List ℕ) → name_alone (without_blanks text) ≡ Some title → Titled text title
alone_titled text title h = alone_at text title (is_name (front_word (without_blanks text)) && eqb (length (without_blanks (after_word (without_blanks text)))) 0) refl h

first_differs : (a b : ℕ) (x y : List ℕ) → b < a → a ∷ x ≡ b ∷ y → ⊥
first_differs a b x y less e = let same : a ≡ b = cc in omega arith

-- a line that begins with `unit` is no `warn` line
unit_no_warn : (line : List ℕ) → front_word (without_blanks (without_comment line)) ≡ codes "unit" → IsWarnLine line → ⊥
unit_no_warn line e w =
    let s = warn_solid line w.0 w.1 in
    first_differs 119 117 (take (word_len s.0) s.0) (codes "nit") (lit< tt) (ap front_word (sym s.1) ∙ e)

keyword_at : (line title : List ℕ) (t : Bool) → bytes_eq (front_word (without_blanks (without_comment line))) (codes "unit") ≡ t → cond t (name_alone (without_blanks (after_word (without_blanks (without_comment line))))) None ≡ Some title → Names line title
keyword_at line title false k h = absurd (cc)
keyword_at line title true k h =
    let rest = without_blanks (without_comment line) in
    let e = (bytes_eq-Decides (front_word rest) (codes "unit")).0 k in
    let n = alone_titled (after_word rest) title h in
    (Word (codes "unit") ∷ Word title ∷ [], record { plain = unit_no_warn line e; cut = token (front_begins rest (codes "unit") e refl) n.leads }, (n.is, refl))

-- the name that is found is the line's
pub title_names : (line title : List ℕ) → title_of (without_comment line) ≡ Some title → Names line title
title_names line title h = keyword_at line title (bytes_eq (front_word (without_blanks (without_comment line))) (codes "unit")) refl h

-- and a line's name is found
pub names_title : (line title : List ℕ) → Names line title → title_of (without_comment line) ≡ Some title
names_title line title p =
    let text = without_comment line in
    let l : Leads text (Word (codes "unit") ∷ Word title ∷ []) [] = subst (λ k. Leads text k []) p.2.1 p.1.cut in
    let n = leads_next text [] (Word (codes "unit")) (Word title ∷ []) l in
    let m = leads_next n.after [] (Word title) [] n.leads in
    let first = first_front (without_blanks text) (codes "unit") n.after n.is in
    let second = first_front (without_blanks n.after) title m.after m.is in
    let rest = without_blanks n.after in
    ap (λ w. cond (bytes_eq w (codes "unit")) (name_alone (without_blanks (after_word (without_blanks text)))) None) first.0
    ∙ ap (λ r. name_alone (without_blanks r)) first.1
    ∙ ap (λ w. cond (is_name w && eqb (length (without_blanks (after_word rest))) 0) (Some w) None) second.0
    ∙ ap (λ r. cond (is_name title && eqb (length (without_blanks r)) 0) (Some title) None) second.1
    ∙ ap (λ r. cond (is_name title && eqb (length r) 0) (Some title) None) (leads_none m.after [] m.leads)
    ∙ ap (λ b. cond (b && true) (Some title) None) p.2.0

pub no_title : (line : List ℕ) → title_of (without_comment line) ≡ None → IsUnitLine line → ⊥
no_title line h p = let e = names_title line p.0 p.1 in cc

-- a line is a `unit` line, or isn't
pub unit_line_or : (line : List ℕ) → IsUnitLine line ⊎ (IsUnitLine line → ⊥)
unit_line_or line = at (title_of (without_comment line)) refl
  where
    at : (o : Option (List ℕ)) → title_of (without_comment line) ≡ o → IsUnitLine line ⊎ (IsUnitLine line → ⊥)
    at None e = inr (no_title line e)
    at (Some title) e = inl (title, title_names line title e)

pub heading_found : {X : Type 0} (line : List ℕ) (found : Option X) (view : X → List ℕ) → option_map view found ≡ title_of (without_comment line) → MatchOption found (IsUnitLine line → ⊥) (λ x. Names line (view x))
heading_found line None view e = no_title line (sym e)
heading_found line (Some x) view e = title_names line (view x) (sym e)

pub unit_line_test : {X : Type 0} (line : List ℕ) (found : Option X) (view : X → List ℕ) (some : Bool) → MatchOption found (IsUnitLine line → ⊥) (λ x. Names line (view x)) → some ≡ is_some found → (some ≡ true) ↔ IsUnitLine line
unit_line_test line None view some none e = (λ h. absurd (false≢true (sym e ∙ h)), λ n. absurd (none n))
unit_line_test line (Some x) view some named e = (λ h. (view x, named), λ n. e)

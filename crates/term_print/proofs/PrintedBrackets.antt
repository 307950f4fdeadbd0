-- Terms as they are shown, and brackets round them.
use Rattle.std.proofs.Common.{◌≡◌, ℕ, true, false, List, [], ◌∷◌, ◌++◌, Some, None, is_some, refl, sym, ◌∙◌, ap, subst, append_assoc, arith}
use Rattle.std.specs.Prelude.{ℤ}
use Rattle.std.specs.Fmt.{signed_decimal}
use Rattle.std.specs.Str.{IsUtf8}
use Rattle.std.proofs.lemmas.Bool.{true≢false}
use Rattle.std.proofs.lemmas.Str.{IsUtf8-append}
use Rattle.term_tokens.specs.declared.bracket.Bracket.{Bracket}
use Rattle.term_tokens.specs.declared.bracket.Bracket.TheVariants as bracket
use Rattle.term_values.specs.declared.term.Term.{Term}
use Rattle.term_values.specs.declared.term.Term.TheOpen.{Term-F}
use Rattle.term_values.specs.declared.term.Term.TheVariants.{Atom, Int, Str, Tuple, Map, rolls-Atom, rolls-Int, rolls-Str}
use Rattle.term_values.specs.declared.term.Term.TheFolds.{fold-roll-Term}
use Rattle.term_tokens.specs.declared.token.Token.{Token}
use Rattle.term_tokens.specs.declared.token.Token.TheVariants as token
use Rattle.term_tokens.specs.Tokens.{Begins, Blanks, opening, closing}
use Rattle.term_print.specs.Grammar.{pair_tuple, closing_of, enclosed, IsTerm}
use Rattle.term_values.specs.Views.{Pair}
use Rattle.term_print.specs.Printable.{AreBytes}
use Rattle.term_print.specs.Printed.{Shown, quoted, atom_text, key_text, joined, plain, show_step, shown, printed, printed_keyword}
use Rattle.term_print.proofs.PrintedBytes.{utf8_low}
use Rattle.term_print.proofs.PrintedTokens.{Leads, leads-append, is_stop, atom_begins, utf8_atom_text}
use Rattle.term_print.proofs.PrintedParts.{Word, one_word, Between}

-- an atom, as a key
pub record AsKey (t : Term) : Type 0 where
  pub name : List ℕ
  pub is : t ≡ Atom name
  pub utf8 : IsUtf8 name
  pub fit : AreBytes name
  pub key : (shown t).key ≡ Some (key_text name)

-- a tuple of two with an atom first, as a keyword
pub record AsKeyword (t : Term) : Type 0 where
  pub name : List ℕ
  pub value : Term
  pub is : t ≡ pair_tuple (Atom name, value)
  pub tokens : List Token
  pub grammar : IsTerm tokens value
  pub word : Word (token.Key name ∷ tokens) (printed_keyword t)

pub record Spelled (t : Term) : Type 0 where
  pub tokens : List Token
  pub grammar : IsTerm tokens t
  pub word : Word tokens (printed t)
  pub key : is_some (shown t).key ≡ true → AsKey t
  pub keyword : is_some (shown t).keyword ≡ true → AsKeyword t

pub shown-atom : (name : List ℕ) → shown (Atom name) ≡ record { text = atom_text name; key = Some (key_text name); keyword = None }
shown-atom name = ap shown (sym (rolls-Atom name)) ∙ fold-roll-Term Shown show_step (Term-F.Atom name)

pub shown-int : (n : ℤ) → shown (Int n) ≡ plain (signed_decimal n)
shown-int n = ap shown (sym (rolls-Int n)) ∙ fold-roll-Term Shown show_step (Term-F.Int n)

pub shown-string : (bytes : List ℕ) → shown (Str bytes) ≡ plain (quoted bytes)
shown-string bytes = ap shown (sym (rolls-Str bytes)) ∙ fold-roll-Term Shown show_step (Term-F.Str bytes)

-- a term that is shown as it says, and is no key and no keyword
pub plain_spelled : (t : Term) (text : List ℕ) (tokens : List Token) → shown t ≡ plain text → IsTerm tokens t → Word tokens text → Spelled t
plain_spelled t text tokens is grammar word = record {
  tokens = tokens;
  grammar = grammar;
  word = subst (Word tokens) (sym (ap (λ (s : Shown). s.text) is)) word;
  key = λ e. absurd (true≢false (sym e ∙ ap (λ (s : Shown). is_some s.key) is));
  keyword = λ e. absurd (true≢false (sym e ∙ ap (λ (s : Shown). is_some s.keyword) is));
}

pub atom_spelled : (name : List ℕ) → IsUtf8 name → AreBytes name → Spelled (Atom name)
atom_spelled name utf8 fit = record {
  tokens = token.Atom name ∷ [];
  grammar = IsTerm.atom;
  word = subst (Word (token.Atom name ∷ [])) (sym (ap (λ (s : Shown). s.text) (shown-atom name))) (one_word (token.Atom name) (atom_text name) (λ rest stops. atom_begins name rest utf8 fit stops) (utf8_atom_text name utf8 fit));
  key = λ e. record { name = name; is = refl; utf8 = utf8; fit = fit; key = ap (λ (s : Shown). s.key) (shown-atom name) };
  keyword = λ e. absurd (true≢false (sym e ∙ ap (λ (s : Shown). is_some s.keyword) (shown-atom name)));
}

pub closes_part : (kind : Bracket) → is_stop (closing (closing_of kind)) ≡ true
closes_part bracket.List = refl
closes_part bracket.Tuple = refl
closes_part bracket.Map = refl

pub utf8_opening : (kind : Bracket) → IsUtf8 (opening kind)
utf8_opening bracket.List = utf8_low (91 ∷ []) (omega arith, tt)
utf8_opening bracket.Tuple = utf8_low (123 ∷ []) (omega arith, tt)
utf8_opening bracket.Map = utf8_low (37 ∷ 123 ∷ []) (omega arith, (omega arith, tt))

pub utf8_closing : (kind : Bracket) → IsUtf8 (closing (closing_of kind) ∷ [])
utf8_closing bracket.List = utf8_low (93 ∷ []) (omega arith, tt)
utf8_closing bracket.Tuple = utf8_low (125 ∷ []) (omega arith, tt)
utf8_closing bracket.Map = utf8_low (125 ∷ []) (omega arith, tt)

-- brackets round what stands between them
module _ (kind : Bracket) (items : List Term) (entries keywords : List Pair) (texts : List (List ℕ)) (inside : Between items entries keywords texts) where
  abbrev pub bracket_tokens : List Token
  bracket_tokens = token.Open kind ∷ (inside.tokens ++ token.Close (closing_of kind) ∷ [])

  abbrev pub bracket_text : List ℕ
  bracket_text = opening kind ++ (joined texts ++ closing (closing_of kind) ∷ [])

  pub opens : (rest : List ℕ) → bracket_text ++ rest ≡ opening kind ++ (joined texts ++ closing (closing_of kind) ∷ rest)
  opens rest = append_assoc (opening kind) (joined texts ++ closing (closing_of kind) ∷ []) rest ∙ ap (λ (w : List ℕ). opening kind ++ w) (append_assoc (joined texts) (closing (closing_of kind) ∷ []) rest)

  pub after_opening : (rest : List ℕ) → Leads (inside.tokens ++ token.Close (closing_of kind) ∷ []) (joined texts ++ closing (closing_of kind) ∷ rest) rest
  after_opening rest = leads-append (inside.leads (closing (closing_of kind) ∷ rest) (closes_part kind)) (Leads.next Blanks.none (Begins.closes refl) Leads.done)

  pub bracket_word : Word bracket_tokens bracket_text
  bracket_word = record {
    leads = λ rest stops. Leads.next Blanks.none (Begins.opens (opens rest)) (after_opening rest);
    spaced = λ rest stops. Leads.next (Blanks.blank refl Blanks.none) (Begins.opens (opens rest)) (after_opening rest);
    utf8 = IsUtf8-append (opening kind) (joined texts ++ closing (closing_of kind) ∷ []) (utf8_opening kind) (IsUtf8-append (joined texts) (closing (closing_of kind) ∷ []) inside.utf8 (utf8_closing kind));
  }

  pub bracket_grammar : (t : Term) → enclosed kind items entries keywords ≡ Some t → IsTerm bracket_tokens t
  bracket_grammar t is = IsTerm.brackets inside.grammar is

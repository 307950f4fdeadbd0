-- Parts of printed texts, with commas between them.
use Rattle.std.proofs.Common.{◌≡◌, ℕ, List, [], ◌∷◌, ◌++◌, codes, refl, sym, ◌∙◌, subst, append_assoc, arith}
use Rattle.std.specs.Str.{IsUtf8}
use Rattle.std.proofs.lemmas.Str.{IsUtf8-nil, IsUtf8-append}
use Rattle.term_values.specs.declared.term.Term.{Term}
use Rattle.term_tokens.specs.declared.token.Token.{Token}
use Rattle.term_tokens.specs.declared.token.Token.TheVariants as token
use Rattle.term_tokens.specs.Tokens.{Begins, Blanks}
use Rattle.term_print.specs.Grammar.{Inside, Follows}
use Rattle.term_values.specs.Views.{Pair}
use Rattle.term_print.specs.Printable.{AreBytes}
use Rattle.term_print.specs.Printed.{key_text, separated, joined}
use Rattle.term_print.proofs.PrintedBytes.{utf8_low}
use Rattle.term_print.proofs.PrintedTokens.{Leads, leads-append, Stops, key_begins, utf8_key_text}

-- a comma and a space
abbrev pub comma : List ℕ
comma = 44 ∷ 32 ∷ []

-- tokens that a text has wherever a term may end after it, also after a space
pub record Word (tokens : List Token) (text : List ℕ) : Type 0 where
  pub leads : (rest : List ℕ) → Stops rest → Leads tokens (text ++ rest) rest
  pub spaced : (rest : List ℕ) → Stops rest → Leads tokens (32 ∷ (text ++ rest)) rest
  pub utf8 : IsUtf8 text

-- one token
pub one_word : (t : Token) (text : List ℕ) → ((rest : List ℕ) → Stops rest → Begins (text ++ rest) t rest) → IsUtf8 text → Word (t ∷ []) text
one_word t text begins utf8 = record {
  leads = λ rest stops. Leads.next Blanks.none (begins rest stops) Leads.done;
  spaced = λ rest stops. Leads.next (Blanks.blank refl Blanks.none) (begins rest stops) Leads.done;
  utf8 = utf8;
}

-- a keyword's key and what follows it
pub key_word : (name : List ℕ) (tokens : List Token) (text : List ℕ) → IsUtf8 name → AreBytes name → Word tokens text → Word (token.Key name ∷ tokens) (key_text name ++ text)
key_word name tokens text utf8 fit value =
    let begins : (rest : List ℕ) → Begins ((key_text name ++ text) ++ rest) (token.Key name) (text ++ rest) =
    λ rest. subst (λ (w : List ℕ). Begins w (token.Key name) (text ++ rest)) (sym (append_assoc (key_text name) text rest)) (key_begins name (text ++ rest) utf8 fit) in
    record {
      leads = λ rest stops. Leads.next Blanks.none (begins rest) (value.leads rest stops);
      spaced = λ rest stops. Leads.next (Blanks.blank refl Blanks.none) (begins rest) (value.leads rest stops);
      utf8 = IsUtf8-append (key_text name) text (utf8_key_text name utf8 fit) value.utf8;
    }

-- ` => `
abbrev pub arrow : List ℕ
arrow = codes " => "

pub arrow_word : (first second : List Token) (key value : List ℕ) → Word first key → Word second value → Word (first ++ (token.Arrow ∷ second)) (key ++ arrow ++ value)
arrow_word first second key value k v =
    let after : (rest : List ℕ) → Stops rest → Leads (token.Arrow ∷ second) (arrow ++ (value ++ rest)) rest =
    λ rest stops. Leads.next (Blanks.blank refl Blanks.none) (Begins.arrow refl) (v.spaced rest stops) in
    let split : (rest : List ℕ) → (key ++ arrow ++ value) ++ rest ≡ key ++ (arrow ++ (value ++ rest)) =
    λ rest. append_assoc (key ++ arrow) value rest ∙ append_assoc key arrow (value ++ rest) in
    record {
      leads = λ rest stops. subst (λ (w : List ℕ). Leads (first ++ (token.Arrow ∷ second)) w rest) (sym (split rest)) (leads-append (k.leads (arrow ++ (value ++ rest)) refl) (after rest stops));
      spaced = λ rest stops. subst (λ (w : List ℕ). Leads (first ++ (token.Arrow ∷ second)) (32 ∷ w) rest) (sym (split rest)) (leads-append (k.spaced (arrow ++ (value ++ rest)) refl) (after rest stops));
      utf8 = IsUtf8-append (key ++ arrow) value (IsUtf8-append key arrow k.utf8 (utf8_low arrow (omega arith, (omega arith, (omega arith, (omega arith, tt)))))) v.utf8;
    }

-- what follows a part: the texts of other parts, each after a comma and a space
pub record After (items : List Term) (entries keywords : List Pair) (texts : List (List ℕ)) : Type 0 where
  pub tokens : List Token
  pub grammar : Follows tokens items entries keywords
  pub leads : (rest : List ℕ) → Stops rest → Leads tokens (separated comma texts ++ rest) rest
  pub utf8 : IsUtf8 (separated comma texts)

-- what stands between brackets
pub record Between (items : List Term) (entries keywords : List Pair) (texts : List (List ℕ)) : Type 0 where
  pub tokens : List Token
  pub grammar : Inside tokens items entries keywords
  pub leads : (rest : List ℕ) → Stops rest → Leads tokens (joined texts ++ rest) rest
  pub utf8 : IsUtf8 (joined texts)

pub stops_after : (texts : List (List ℕ)) (rest : List ℕ) → Stops rest → Stops (separated comma texts ++ rest)
stops_after [] rest stops = stops
stops_after (text ∷ texts) rest stops = refl

pub first_leads : (word more : List Token) (text : List ℕ) (texts : List (List ℕ)) (rest : List ℕ) → Word word text → Leads more (separated comma texts ++ rest) rest → Stops rest → Leads (word ++ more) (joined (text ∷ texts) ++ rest) rest
first_leads word more text texts rest w others stops =
    subst (λ (x : List ℕ). Leads (word ++ more) x rest) (sym (append_assoc text (separated comma texts) rest))
    (leads-append (w.leads (separated comma texts ++ rest) (stops_after texts rest stops)) others)

pub next_leads : (word more : List Token) (text : List ℕ) (texts : List (List ℕ)) (rest : List ℕ) → Word word text → Leads more (separated comma texts ++ rest) rest → Stops rest → Leads (token.Comma ∷ (word ++ more)) (separated comma (text ∷ texts) ++ rest) rest
next_leads word more text texts rest w others stops =
    Leads.next Blanks.none (Begins.comma refl)
    (subst (λ (x : List ℕ). Leads (word ++ more) (32 ∷ x) rest) (sym (append_assoc text (separated comma texts) rest))
    (leads-append (w.spaced (separated comma texts ++ rest) (stops_after texts rest stops)) others))

pub utf8_next : (text : List ℕ) (texts : List (List ℕ)) → IsUtf8 text → IsUtf8 (separated comma texts) → IsUtf8 (separated comma (text ∷ texts))
utf8_next text texts one others = IsUtf8-append comma (text ++ separated comma texts) (utf8_low comma (omega arith, (omega arith, tt))) (IsUtf8-append text (separated comma texts) one others)

pub no_more : After [] [] [] []
no_more = record { tokens = []; grammar = Follows.end; leads = λ rest stops. Leads.done; utf8 = IsUtf8-nil }

pub nothing_between : Between [] [] [] []
nothing_between = record { tokens = []; grammar = Inside.nothing; leads = λ rest stops. Leads.done; utf8 = IsUtf8-nil }

-- parts as they stand after a comma and between brackets
pub record Parts (items : List Term) (entries keywords : List Pair) (texts : List (List ℕ)) : Type 0 where
  pub after : After items entries keywords texts
  pub between : Between items entries keywords texts

pub no_parts : Parts [] [] [] []
no_parts = record { after = no_more; between = nothing_between }

-- a part and those that follow it
module _ (word : List Token) (items more : List Term) (entries old keywords early : List Pair) (text : List ℕ) (texts : List (List ℕ)) (w : Word word text) (others : After more old early texts) (inside : Inside (word ++ others.tokens) items entries keywords) where
  pub first_part : Parts items entries keywords (text ∷ texts)
  first_part = record {
    after = record {
      tokens = token.Comma ∷ (word ++ others.tokens);
      grammar = Follows.comma inside;
      leads = λ rest stops. next_leads word others.tokens text texts rest w (others.leads rest stops) stops;
      utf8 = utf8_next text texts w.utf8 others.utf8;
    };
    between = record {
      tokens = word ++ others.tokens;
      grammar = inside;
      leads = λ rest stops. first_leads word others.tokens text texts rest w (others.leads rest stops) stops;
      utf8 = IsUtf8-append text (separated comma texts) w.utf8 others.utf8;
    };
  }

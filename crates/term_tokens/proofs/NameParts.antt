-- Names, and the words that they begin with.
use Rattle.std.specs.Prelude.{IsTrue, IsFalse, not, codes, Ok, Err}
use Rattle.std.proofs.Common.{◌≡◌, ℕ, ◌<◌, Bool, true, false, ◌&&◌, ◌||◌, ◌⊎◌, inl, inr, List, [], ◌∷◌, ◌++◌, Option, Some, None, length, take, cond, eqb, refl, sym, ap, ◌∙◌, arith, subst, append_assoc, ⊎_elim}
use Rattle.std.proofs.lemmas.Bool.{and_parts, and_from, and_right, or_cases, eqb-true, true≢false, false≢true}
use Rattle.std.proofs.lemmas.List.{take_at}
use Rattle.std.specs.Str.{bytes_eq}
use Rattle.term_tokens.specs.declared.cause.Feature.TheVariants.{Alias}
use Rattle.term_tokens.specs.declared.cause.TermCause.{TermCause}
use Rattle.term_tokens.specs.declared.cause.TermCause.TheVariants.{Unsupported}
use Rattle.term_tokens.specs.declared.expected.Expected.{Expected}
use Rattle.term_tokens.specs.declared.token.Token.{Token}
use Rattle.term_tokens.specs.declared.token.Token.TheVariants.{Atom, Key}
use Rattle.term_tokens.specs.Lexed.{cut_off, is_capital, bare_word, after_common, no_key, key_lexed}
use Rattle.term_tokens.specs.Lexing.{after_colon, key_or_atom, name_len}
use Rattle.term_tokens.specs.Local.{starts_with, is_plain, IsFree, takes, IsPart, IsShut, alias}
use Rattle.term_tokens.specs.Names.{is_name_start, is_name_rest, is_name, is_bare_atom, is_blank}
use Rattle.term_tokens.specs.Tokens.{Begins, key}
use Rattle.term_tokens.proofs.FaultLemmas.{Right, Late, start_lead, first_by, cut_right}
use Rattle.term_tokens.proofs.FaultForms.{Least, IsNone, lead, NameMark, Marked, name_alone, name_alias, name_colon}
use Rattle.term_tokens.proofs.NameLemmas.{EndsName, ends_from_test, test_from_ends, name_complete, colon_ends}
use Rattle.term_tokens.proofs.OptionLemmas.{none_some, some_same, cond_some}
use Rattle.term_tokens.proofs.BeginLemmas.{begins_first, start_not, name_first, bytes_same, none_colon, colon_none}
use Rattle.term_tokens.proofs.TokenLemmas.{first_begins}

-- what begins with a name

abbrev pub IsLongest : List ℕ → List ℕ → Type 0
IsLongest name rest = (is_name name ≡ true) × EndsName name rest

pub name_start : (name rest : List ℕ) → is_name name ≡ true → starts_with 58 (name ++ rest) ≡ false
name_start [] rest h = absurd (false≢true h)
name_start (byte ∷ name) rest h = start_not byte 58 (and_parts (is_name_start byte) (is_name_rest name) h).0 refl

pub name_plain : (name rest : List ℕ) → is_name name ≡ true → is_plain (name ++ rest) (Atom name) ≡ true
name_plain name rest h = ap not (name_start name rest h)

pub name_some : (name : List ℕ) → is_name name ≡ true → name ≡ [] → ⊥
name_some [] h e = false≢true h
name_some (byte ∷ name) h e = cc

pub bare_some : (name : List ℕ) → is_bare_atom name ≡ true → 0 < length name
bare_some [] h = absurd (false≢true h)
bare_some (byte ∷ name) h = omega arith

pub longest_one : (a r b s : List ℕ) → IsLongest a r → IsLongest b s → a ++ r ≡ b ++ s → a ≡ b
longest_one a r b s l m e =
    let n : length a ≡ length b = sym (name_complete a r l.0 l.1) ∙ ap name_len e ∙ name_complete b s m.0 m.1 in
    sym (take_at a r (length b) n) ∙ ap (take (length b)) e ∙ take_at b s (length b) refl

pub front_same : (a b c : List ℕ) → a ++ b ≡ a ++ c → b ≡ c
front_same [] b c e = e
front_same (x ∷ a) b c e = front_same a b c (cc)

-- the token is the key or the atom
pub key_or_bare : (e : Expected) (name rest : List ℕ) (o : Option (List ℕ)) (found : Token × List ℕ) → key_or_atom name rest o ≡ Some found → ((found.0 ≡ Key name) × (o ≡ Some found.1)) ⊎ ((found ≡ (Atom name, rest)) × (o ≡ None) × (is_bare_atom name ≡ true))
key_or_bare e name rest (Some after) found h = let s = some_same h in inl (ap (λ f. f.0) (sym s), ap (λ f. Some f.1) s)
key_or_bare e name rest None found h = let a = cond_some (is_bare_atom name) (Some (Atom name, rest)) found h in inr (sym (some_same a.1), refl, a.0)

pub name_begins : (name rest : List ℕ) (found : Token × List ℕ) → IsLongest name rest → Begins (name ++ rest) found.0 found.1 → key_or_atom name rest (after_colon rest) ≡ Some found
name_begins name rest found l b = sym (name_first name rest l.0 l.1) ∙ begins_first b

pub key_part : (e : Expected) (name : List ℕ) → e.key ≡ true → is_name name ≡ true → IsPart e name
key_part e name k h = inr (Key name, 58 ∷ 32 ∷ [], key 32 h refl refl, k)

pub colon_part : (e : Expected) (name : List ℕ) → e.key ≡ true → is_name name ≡ true → IsPart e (name ++ 58 ∷ [])
colon_part e name k h = inr (Key name, 32 ∷ [], key 32 h refl (append_assoc name (58 ∷ []) (32 ∷ [])), k)

-- before a colon and no blank no token that may stand there ends
pub colon_bad : (e : Expected) (name rest : List ℕ) → is_name name ≡ true → (e.key ≡ false) ⊎ (after_colon (58 ∷ rest) ≡ None) → IsNone e (name ++ 58 ∷ rest)
colon_bad e name rest h bad tok after b t f =
    ⊎_elim (λ k. ⊎_elim (λ n. true≢false (sym t ∙ ap (takes e) k.0 ∙ n)) (λ n. none_some (sym n ∙ k.1)) bad)
    (λ a. true≢false (sym (ap (λ x. x && true) (name_plain name (58 ∷ rest) h)) ∙ sym (ap (λ g. is_plain (name ++ 58 ∷ rest) g.0 && starts_with 58 g.1) a.0) ∙ f))
    (key_or_bare e name (58 ∷ rest) (after_colon (58 ∷ rest)) (tok, after) (name_begins name (58 ∷ rest) (tok, after) (h, colon_ends name rest h) b))

-- no key may stand there or none is there, and no atom
pub none_bad : (e : Expected) (name rest : List ℕ) → IsLongest name rest → (e.key ≡ false) ⊎ (after_colon rest ≡ None) → (e.term && is_bare_atom name) ≡ false → IsNone e (name ++ rest)
none_bad e name rest l bad lacks tok after b t f =
    ⊎_elim (λ k. ⊎_elim (λ n. true≢false (sym t ∙ ap (takes e) k.0 ∙ n)) (λ n. none_some (sym n ∙ k.1)) bad)
    (λ a. true≢false (sym (and_from e.term (is_bare_atom name) (sym (ap (λ g. takes e g.0) a.0) ∙ t) a.2) ∙ lacks))
    (key_or_bare e name rest (after_colon rest) (tok, after) (name_begins name rest (tok, after) l b))

-- marks

pub name_marks : (e : Expected) (name rest : List ℕ) (place : ℕ) (why : TermCause) → is_name name ≡ true → Marked (lead (name ++ rest)) e (name ++ rest) place why → NameMark e (name ++ rest) place why
name_marks e [] rest place why h m = absurd (false≢true h)
name_marks e (byte ∷ name) rest place why h m = subst (λ l. Marked l e (byte ∷ name ++ rest) place why) (start_lead byte (name ++ rest) (and_parts (is_name_start byte) (is_name_rest name) h).0) m

pub alias_first : (e : Expected) (text : List ℕ) {place : ℕ} {why : TermCause} → NameMark e text place why → Least 0 (Unsupported Alias) place why
alias_first e text (name_alone t k c) = inr (refl, omega arith)
alias_first e text (name_alias name more t c n ends colon s) = inr (refl, omega arith)
alias_first e text (name_colon word more o b s p) = inl (omega (arith, p, bare_some word b))

-- where a key may begin, and the name begins with lacks capital
pub no_mark : (e : Expected) (text : List ℕ) {place : ℕ} {why : TermCause} → (IsTrue e.outermost → IsFalse e.key) → e.key ≡ true → is_capital text ≡ false → NameMark e text place why → ⊥
no_mark e text outer k c (name_alone t n a) = true≢false (sym k ∙ n)
no_mark e text outer k c (name_alias name more t a n ends colon s) = true≢false (sym a ∙ c)
no_mark e text outer k c (name_colon word more o b s p) = true≢false (sym k ∙ outer o)

-- where a key may begin

pub cut_after : (e : Expected) (name rest : List ℕ) → IsLongest name rest → e.key ≡ true → after_colon rest ≡ None → (e.term && is_bare_atom name) ≡ false → starts_with 58 rest ≡ false → Late e (name ++ rest) (length name) → Right e (name ++ rest) (cut_off rest)
cut_after e name rest l k o lacks c late = cut_right e (name ++ rest) name rest refl (key_part e name k l.0) (λ _. none_bad e name rest l (inr o) lacks) shut late
  where
    shut : (byte : ℕ) (more : List ℕ) → rest ≡ byte ∷ more → IsShut e (name ++ byte ∷ [])
    shut byte more s more2 tok after b t f =
        let split : (name ++ byte ∷ []) ++ more2 ≡ name ++ byte ∷ more2 = append_assoc name (byte ∷ []) more2 in
        let ends : EndsName name (byte ∷ more2) = subst (λ r. EndsName name r) s l.1 in
        let first : eqb byte 58 ≡ false = sym (ap (starts_with 58) s) ∙ c in
        none_bad e name (byte ∷ more2) (l.0, ends) (inr (no_colon byte more2 first)) lacks tok after (subst (λ x. Begins x tok after) split b) t (subst (λ x. IsFree x tok after) split f)
      where
        no_colon : (byte : ℕ) (more : List ℕ) → eqb byte 58 ≡ false → after_colon (byte ∷ more) ≡ None
        no_colon byte [] q = refl
        no_colon byte (next ∷ more) q = ap (λ x. cond (x && is_blank next) (Some more) None) q

pub atom_taken : (e : Expected) (name rest : List ℕ) → IsLongest name rest → after_colon rest ≡ None → is_bare_atom name ≡ true → e.term ≡ true → starts_with 58 rest ≡ false → ((place : ℕ) (why : TermCause) → Marked (lead (name ++ rest)) e (name ++ rest) place why → ⊥) → Right e (name ++ rest) (Ok (Atom name, rest))
atom_taken e name rest l o b t c clean = (first_begins (name ++ rest) (Atom name, rest) (name_first name rest l.0 l.1 ∙ ap (key_or_atom name rest) o ∙ ap (λ x. cond x (Some (Atom name, rest)) None) b), t, tt, and_right (is_plain (name ++ rest) (Atom name)) (starts_with 58 rest) c, clean)

pub no_key_right : (e : Expected) (name rest : List ℕ) → IsLongest name rest → e.key ≡ true → after_colon rest ≡ None → ((place : ℕ) (why : TermCause) → Marked (lead (name ++ rest)) e (name ++ rest) place why → ⊥) → Right e (name ++ rest) (no_key e name rest)
no_key_right e name [] l k o clean = by (e.term && is_bare_atom name) refl
  where
    by : (atom : Bool) → (e.term && is_bare_atom name) ≡ atom → Right e (name ++ []) (cond atom (Ok (Atom name, [])) (cut_off []))
    by true a = let parts = and_parts e.term (is_bare_atom name) a in atom_taken e name [] l o parts.1 parts.0 refl clean
    by false a = cut_after e name [] l k o a refl (λ place other m. absurd (clean place other m))
no_key_right e name (byte ∷ rest) l k o clean = colon (eqb byte 58) refl
  where
    by : eqb byte 58 ≡ false → (atom : Bool) → (e.term && is_bare_atom name) ≡ atom → Right e (name ++ byte ∷ rest) (cond atom (Ok (Atom name, byte ∷ rest)) (cut_off (byte ∷ rest)))
    by c true a = let parts = and_parts e.term (is_bare_atom name) a in atom_taken e name (byte ∷ rest) l o parts.1 parts.0 c clean
    by c false a = cut_after e name (byte ∷ rest) l k o a c (λ place other m. absurd (clean place other m))

    shut : byte ≡ 58 → (next : ℕ) (more : List ℕ) → rest ≡ next ∷ more → IsShut e ((name ++ 58 ∷ []) ++ next ∷ [])
    shut c next more s more2 tok after b t f =
        let split : ((name ++ 58 ∷ []) ++ next ∷ []) ++ more2 ≡ name ++ 58 ∷ next ∷ more2 = append_assoc (name ++ 58 ∷ []) (next ∷ []) more2 ∙ append_assoc name (58 ∷ []) (next ∷ more2) in
        let blank : after_colon (58 ∷ next ∷ more) ≡ None = ap (λ x. after_colon (58 ∷ x)) (sym s) ∙ ap (λ x. after_colon (x ∷ rest)) (sym c) ∙ o in
        colon_bad e name (next ∷ more2) l.0 (inr (same_blank next more more2 blank)) tok after (subst (λ x. Begins x tok after) split b) t (subst (λ x. IsFree x tok after) split f)
      where
        same_blank : (next : ℕ) (more more2 : List ℕ) → after_colon (58 ∷ next ∷ more) ≡ None → after_colon (58 ∷ next ∷ more2) ≡ None
        same_blank next more more2 h = at (is_blank next) h
          where
            at : (blank : Bool) → cond blank (Some more) None ≡ None → cond blank (Some more2) None ≡ None
            at true h = absurd (none_some (sym h))
            at false h = refl

    colon : (yes : Bool) → eqb byte 58 ≡ yes → Right e (name ++ byte ∷ rest) (cond yes (cut_off rest) (cond (e.term && is_bare_atom name) (Ok (Atom name, byte ∷ rest)) (cut_off (byte ∷ rest))))
    colon true c =
        let b = eqb-true byte 58 c in
        let split : name ++ byte ∷ rest ≡ (name ++ 58 ∷ []) ++ rest = ap (λ x. name ++ x ∷ rest) b ∙ sym (append_assoc name (58 ∷ []) rest) in
        cut_right e (name ++ byte ∷ rest) (name ++ 58 ∷ []) rest split (colon_part e name k l.0)
        (λ none. subst (λ x. IsNone e (name ++ x)) (sym (ap (λ x. x ∷ rest) b ∙ ap (λ x. 58 ∷ x) none)) (colon_bad e name [] l.0 (inr refl)))
        (shut b) (λ place other m. absurd (clean place other m))
    colon false c = by c (e.term && is_bare_atom name) refl

pub capital_right : (e : Expected) (byte : ℕ) (name rest : List ℕ) → IsLongest (byte ∷ name) rest → e.term ≡ true ⊎ e.key ≡ true → after_colon rest ≡ None → is_capital (byte ∷ name ++ rest) ≡ true → Right e (byte ∷ name ++ rest) (Err (byte ∷ name ++ rest, Unsupported Alias))
capital_right e byte name rest l t o c = first_by e (byte ∷ name ++ rest) [] (byte ∷ name ++ rest) (Unsupported Alias) refl (inl refl) (omega arith) (λ h. cc) (alias byte name rest t c l.0 (test_from_ends (byte ∷ name) rest l.1) (none_colon rest o) refl) (λ place other m. alias_first e (byte ∷ name ++ rest) (name_marks e (byte ∷ name) rest place other l.0 m))

pub key_right : (e : Expected) (byte : ℕ) (name rest : List ℕ) (o : Option (List ℕ)) → IsLongest (byte ∷ name) rest → (IsTrue e.outermost → IsFalse e.key) → e.key ≡ true → after_colon rest ≡ o → Right e (byte ∷ name ++ rest) (key_lexed e (byte ∷ name ++ rest) (byte ∷ name) rest o)
key_right e byte name rest (Some after) l outer k o = (first_begins (byte ∷ name ++ rest) (Key (byte ∷ name), after) (name_first (byte ∷ name) rest l.0 l.1 ∙ ap (key_or_atom (byte ∷ name) rest) o), k, tt, refl, λ place why m. at (name_marks e (byte ∷ name) rest place why l.0 m))
  where
    at : {place : ℕ} {why : TermCause} → NameMark e (byte ∷ name ++ rest) place why → ⊥
    at (name_alone t n a) = true≢false (sym k ∙ n)
    at (name_alias other more t a n ends colon s) =
        let same : other ≡ byte ∷ name = longest_one other more (byte ∷ name) rest (n, ends_from_test other more ends) l (sym s) in
        let tail : rest ≡ more = front_same (byte ∷ name) rest more (s ∙ ap (λ x. x ++ more) same) in
        none_some (sym (ap after_colon tail ∙ colon_none more colon) ∙ o)
    at (name_colon word more p b s q) = true≢false (sym k ∙ outer p)
key_right e byte name rest None l outer k o = by (is_capital (byte ∷ name ++ rest)) refl
  where
    by : (capital : Bool) → is_capital (byte ∷ name ++ rest) ≡ capital → Right e (byte ∷ name ++ rest) (cond capital (Err (byte ∷ name ++ rest, Unsupported Alias)) (no_key e (byte ∷ name) rest))
    by true c = capital_right e byte name rest l (inr k) o c
    by false c = no_key_right e (byte ∷ name) rest l k o (λ place other m. (no_mark e (byte ∷ name ++ rest) outer k c (name_marks e (byte ∷ name) rest place other l.0 m)))

-- where no key may begin

-- the word that begins as the other
abbrev pub head_word : List ℕ → List ℕ
head_word [] = []
head_word (byte ∷ name) = bare_word byte

pub bare_head : (name : List ℕ) → is_bare_atom name ≡ true → head_word name ≡ name
bare_head name h =
    ⊎_elim (λ l. ⊎_elim (λ t. let e = bytes_same name (codes "true") t in ap head_word e ∙ sym e) (λ f. let e = bytes_same name (codes "false") f in ap head_word e ∙ sym e) (or_cases (bytes_eq name (codes "true")) (bytes_eq name (codes "false")) l))
    (λ n. let e = bytes_same name (codes "nil") n in ap head_word e ∙ sym e)
    (or_cases (bytes_eq name (codes "true") || bytes_eq name (codes "false")) (bytes_eq name (codes "nil")) h)

-- the word of a byte begins with it and is one of the three, or there is none
pub word_cases : (byte : ℕ) → (bare_word byte ≡ []) ⊎ ((is_bare_atom (bare_word byte) ≡ true) × ((more : List ℕ) × (bare_word byte ≡ byte ∷ more)))
word_cases byte = by (eqb byte 116) (eqb byte 102) (eqb byte 110) refl refl refl
  where
    by : (t f n : Bool) → eqb byte 116 ≡ t → eqb byte 102 ≡ f → eqb byte 110 ≡ n → let word : List ℕ = cond t (codes "true") (cond f (codes "false") (cond n (codes "nil") [])) in (word ≡ []) ⊎ ((is_bare_atom word ≡ true) × ((more : List ℕ) × (word ≡ byte ∷ more)))
    by true f n p q r = inr (refl, (114 ∷ 117 ∷ 101 ∷ [], ap (λ b. b ∷ 114 ∷ 117 ∷ 101 ∷ []) (sym (eqb-true byte 116 p))))
    by false true n p q r = inr (refl, (97 ∷ 108 ∷ 115 ∷ 101 ∷ [], ap (λ b. b ∷ 97 ∷ 108 ∷ 115 ∷ 101 ∷ []) (sym (eqb-true byte 102 q))))
    by false false true p q r = inr (refl, (105 ∷ 108 ∷ [], ap (λ b. b ∷ 105 ∷ 108 ∷ []) (sym (eqb-true byte 110 r))))
    by false false false p q r = inl refl

-- both don't go on alike
abbrev pub Parts : List ℕ → List ℕ → Type 0
Parts [] rest = Unit {0}
Parts (letter ∷ word) [] = Unit {0}
Parts (letter ∷ word) (byte ∷ rest) = eqb byte letter ≡ false

pub record Common (word text : List ℕ) : Type 0 where
  pub front : List ℕ
  pub more : List ℕ
  pub in_word : word ≡ front ++ more
  pub in_text : text ≡ front ++ after_common word text
  pub parts : Parts more (after_common word text)

pub common : (word text : List ℕ) → Common word text
common [] text = record { front = []; more = []; in_word = refl; in_text = refl; parts = tt }
common (letter ∷ word) [] = record { front = []; more = letter ∷ word; in_word = refl; in_text = refl; parts = tt }
common (letter ∷ word) (byte ∷ text) = by (eqb byte letter) refl (common word text)
  where
    goes_on : eqb byte letter ≡ true → Common word text → Common (letter ∷ word) (byte ∷ text)
    goes_on q c =
        let step : after_common (letter ∷ word) (byte ∷ text) ≡ after_common word text = ap (λ x. cond x (after_common word text) (byte ∷ text)) q in
        record {
          front = letter ∷ c.front;
          more = c.more;
          in_word = ap (λ l. letter ∷ l) c.in_word;
          in_text = ap (λ l. l ∷ text) (eqb-true byte letter q) ∙ ap (λ l. letter ∷ l) c.in_text ∙ ap (λ l. letter ∷ c.front ++ l) (sym step);
          parts = subst (λ l. Parts c.more l) (sym step) c.parts;
        }

    by : (same : Bool) → eqb byte letter ≡ same → Common word text → Common (letter ∷ word) (byte ∷ text)
    by true q c = goes_on q c
    by false q c =
        let stop : after_common (letter ∷ word) (byte ∷ text) ≡ byte ∷ text = ap (λ x. cond x (after_common word text) (byte ∷ text)) q in
        record {
          front = [];
          more = letter ∷ word;
          in_word = refl;
          in_text = sym stop;
          parts = subst (λ l. Parts (letter ∷ word) l) (sym stop) q;
        }

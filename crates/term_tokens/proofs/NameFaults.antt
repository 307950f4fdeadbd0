-- Names, and their first faults.
use Rattle.std.specs.Prelude.{IsTrue, IsFalse, not, Ok, Err}
use Rattle.std.proofs.Common.{◌≡◌, ℕ, suc, ◌<◌, Bool, true, false, ◌&&◌, ◌⊎◌, inl, inr, List, [], ◌∷◌, ◌++◌, Some, None, length, take, drop, cond, eqb, refl, sym, ap, ◌∙◌, arith, subst, append_assoc, eq-eqb, ⊎_elim}
use Rattle.std.proofs.lemmas.Bool.{and_parts, and_right, eqb-true, true≢false, false≢true}
use Rattle.std.proofs.lemmas.List.{take-append-drop, append-nil}
use Rattle.term_tokens.specs.declared.cause.Feature.TheVariants.{Alias}
use Rattle.term_tokens.specs.declared.cause.TermCause.{TermCause}
use Rattle.term_tokens.specs.declared.cause.TermCause.TheVariants.{Unsupported, TrailingText, Unexpected}
use Rattle.term_tokens.specs.declared.expected.Expected.{Expected}
use Rattle.term_tokens.specs.declared.token.Token.{Token}
use Rattle.term_tokens.specs.declared.token.Token.TheVariants.{Atom}
use Rattle.term_tokens.specs.Lexed.{cut_off, stray_colon, is_capital, bare_word, after_bare, key_lexed, bare_lexed, named, name_lexed}
use Rattle.term_tokens.specs.Lexing.{first_token, after_colon, name_len, name_rest_len}
use Rattle.term_tokens.specs.Local.{rank, starts_with, IsFree, takes, IsPart, IsShut, alias_alone, colon_after}
use Rattle.term_tokens.specs.Names.{is_name_start, is_name_rest, is_name, is_bare_atom, is_blank}
use Rattle.term_tokens.specs.Tokens.{Begins, bare_atom, key}
use Rattle.term_tokens.proofs.FaultLemmas.{Right, first_by, unexpected_at, cut_right, at_once, shut_taken}
use Rattle.term_tokens.proofs.FaultForms.{lead, NameMark, Marked, name_alone, name_alias, name_colon}
use Rattle.term_tokens.proofs.NameLemmas.{EndsName, name_sound, colon_ends}
use Rattle.term_tokens.proofs.BeginLemmas.{name_first, bare_named}
use Rattle.term_tokens.proofs.NameParts.{IsLongest, name_plain, name_some, bare_some, longest_one, front_same, key_or_bare, name_begins, colon_bad, none_bad, name_marks, alias_first, atom_taken, key_right, bare_head, word_cases, Parts, common}

-- the longest name at the front
abbrev Longest : List ℕ → Type 0
Longest text = IsLongest (take (name_len text) text) (drop (name_len text) text)

start_longest : (byte : ℕ) (text : List ℕ) → is_name_start byte ≡ true → Longest (byte ∷ text)
start_longest byte text s =
    let n : name_len (byte ∷ text) ≡ suc (name_rest_len text) = ap (λ x. cond x (suc (name_rest_len text)) 0) s in
    let cut = name_sound (byte ∷ text) (name_rest_len text) n in
    subst (λ k. IsLongest (take k (byte ∷ text)) (drop k (byte ∷ text))) (sym n) (cut.name, cut.ends)

-- a taken token is one of the three, where no key may stand
abbrev IsBare : List ℕ → List ℕ → Type 0
IsBare text after = (name : List ℕ) × (is_bare_atom name ≡ true) × (text ≡ name ++ after) × EndsName name after

bare_inside : (e : Expected) (byte : ℕ) (text : List ℕ) (tok : Token) (after : List ℕ) → is_name_start byte ≡ true → e.key ≡ false → Begins (byte ∷ text) tok after → IsTrue (takes e tok) → IsBare (byte ∷ text) after
bare_inside e byte text tok after s k b t =
    let name = take (name_len (byte ∷ text)) (byte ∷ text) in
    let rest = drop (name_len (byte ∷ text)) (byte ∷ text) in
    let split : name ++ rest ≡ byte ∷ text = take-append-drop (name_len (byte ∷ text)) (byte ∷ text) in
    let l = start_longest byte text s in
    ⊎_elim (λ x. absurd (true≢false (sym t ∙ ap (takes e) x.0 ∙ k)))
    (λ x. let same : rest ≡ after = sym (ap (λ f. f.1) x.0) in (name, x.2, sym split ∙ ap (λ r. name ++ r) same, subst (λ r. EndsName name r) same l.1))
    (key_or_bare e name rest (after_colon rest) (tok, after) (name_begins name rest (tok, after) l (subst (λ x. Begins x tok after) (sym split) b)))

bare_is_word : (byte : ℕ) (text name after : List ℕ) → is_bare_atom name ≡ true → byte ∷ text ≡ name ++ after → name ≡ bare_word byte
bare_is_word byte text [] after h e = absurd (false≢true h)
bare_is_word byte text (first ∷ name) after h e =
    let same : byte ≡ first = cc in
    sym (bare_head (first ∷ name) h) ∙ ap bare_word (sym same)

-- no word begins with the byte
no_word_shut : (e : Expected) (byte : ℕ) → is_name_start byte ≡ true → e.key ≡ false → bare_word byte ≡ [] → IsShut e (byte ∷ [])
no_word_shut e byte s k w more tok after b t f =
    let i = bare_inside e byte more tok after s k b t in
    name_some i.0 (bare_named i.0 i.1) (bare_is_word byte more i.0 after i.1 i.2 ∙ w)

-- a text that begins as the word does, and then not, begins with no such atom
common_shut : (e : Expected) (byte : ℕ) (front rest more : List ℕ) (next : ℕ) → is_name_start byte ≡ true → e.key ≡ false → bare_word byte ≡ byte ∷ front ++ more → Parts more (next ∷ rest) → (more ≡ [] → is_name (byte ∷ front ++ next ∷ []) ≡ true) → IsShut e (byte ∷ front ++ next ∷ [])
common_shut e byte front rest more next s k w parts longer more2 tok after b t f =
    let i = bare_inside e byte ((front ++ next ∷ []) ++ more2) tok after s k b t in
    let word : i.0 ≡ byte ∷ front ++ more = bare_is_word byte ((front ++ next ∷ []) ++ more2) i.0 after i.1 i.2 ∙ w in
    let whole : byte ∷ (front ++ next ∷ []) ++ more2 ≡ byte ∷ (front ++ more) ++ after = i.2 ∙ ap (λ l. l ++ after) word in
    let tail : (front ++ next ∷ []) ++ more2 ≡ (front ++ more) ++ after = cc in
    let joined : front ++ (next ∷ more2) ≡ front ++ (more ++ after) = sym (append_assoc front (next ∷ []) more2) ∙ tail ∙ append_assoc front more after in
    at more w parts longer word (front_same front (next ∷ more2) (more ++ after) joined) i.3
  where
    at : (more : List ℕ) → bare_word byte ≡ byte ∷ front ++ more → Parts more (next ∷ rest) → (more ≡ [] → is_name (byte ∷ front ++ next ∷ []) ≡ true) → {name : List ℕ} → name ≡ byte ∷ front ++ more → next ∷ more2 ≡ more ++ after → EndsName name after → ⊥
    at [] w parts longer {name = name} word e ends =
        let n : name ≡ byte ∷ front = word ∙ ap (λ l. byte ∷ l) (append-nil front) in
        let stops : is_name (byte ∷ front ++ next ∷ []) ≡ false = subst (λ l. EndsName (byte ∷ front) l) (sym e) (subst (λ l. EndsName l after) n ends) in
        true≢false (sym (longer refl) ∙ stops)
    at (letter ∷ more) w parts longer word e ends =
        let same : next ≡ letter = cc in
        true≢false (sym (eq-eqb next letter same) ∙ parts)

empty_front : (front more : List ℕ) → front ++ more ≡ [] → front ≡ []
empty_front [] more e = refl
empty_front (x ∷ front) more e = cc

shut_after : (e : Expected) (byte : ℕ) (text front more rest : List ℕ) (next : ℕ) → is_name_start byte ≡ true → e.key ≡ false → bare_word byte ≡ front ++ more → byte ∷ text ≡ front ++ next ∷ rest → Parts more (next ∷ rest) → (bare_word byte ≡ front → is_bare_atom front ≡ true → is_name (front ++ next ∷ []) ≡ true) → IsShut e (front ++ next ∷ [])
shut_after e byte text [] more rest next s k w i parts longer =
    let same : byte ≡ next = cc in
    ⊎_elim (λ none. subst (λ b. IsShut e (b ∷ [])) same (no_word_shut e byte s k none))
    (λ some. absurd (letter more (sym w ∙ some.1.1) parts)) (word_cases byte)
  where
    letter : (more : List ℕ) {tail : List ℕ} → more ≡ byte ∷ tail → Parts more (next ∷ rest) → ⊥
    letter [] m p = cc
    letter (first ∷ more) m p =
        let same : next ≡ first = cc in
        true≢false (sym (eq-eqb next first same) ∙ p)
shut_after e byte text (first ∷ front) more rest next s k w i parts longer =
    let same : first ≡ byte = cc in
    let word : bare_word byte ≡ byte ∷ front ++ more = w ∙ ap (λ b. b ∷ front ++ more) same in
    ⊎_elim (λ none. let clash : byte ∷ front ++ more ≡ [] = sym word ∙ none in absurd (cc))
    (λ some. subst (λ b. IsShut e (b ∷ front ++ next ∷ [])) (sym same) (common_shut e byte front rest more next s k word parts (λ m. let all : bare_word byte ≡ byte ∷ front = word ∙ ap (λ l. byte ∷ front ++ l) m ∙ ap (λ l. byte ∷ l) (append-nil front) in subst (λ b. is_name (b ∷ front ++ next ∷ []) ≡ true) same (longer (all ∙ ap (λ b. b ∷ front) (sym same)) (ap is_bare_atom (ap (λ b. b ∷ front) same ∙ sym all) ∙ some.0)))))
    (word_cases byte)

word_part : (e : Expected) (byte : ℕ) (front more : List ℕ) → e.term ≡ true → bare_word byte ≡ front ++ more → IsPart e front
word_part e byte front more t w =
    ⊎_elim (λ none. inl (empty_front front more (sym w ∙ none)))
    (λ some. inr (Atom (bare_word byte), more, bare_atom some.0 refl refl (sym w ∙ sym (append-nil (bare_word byte))), t))
    (word_cases byte)

-- marks where no key may begin
module _ (e : Expected) (byte : ℕ) (name rest : List ℕ) (l : IsLongest (byte ∷ name) rest) (t : e.term ≡ true) (k : e.key ≡ false) where
  marked : {place : ℕ} {why : TermCause} → Marked (lead (byte ∷ name ++ rest)) e (byte ∷ name ++ rest) place why → NameMark e (byte ∷ name ++ rest) place why
  marked {place = place} {why = why} m = name_marks e (byte ∷ name) rest place why l.0 m

  alone_right : is_capital (byte ∷ name ++ rest) ≡ true → Right e (byte ∷ name ++ rest) (Err (byte ∷ name ++ rest, Unsupported Alias))
  alone_right c = first_by e (byte ∷ name ++ rest) [] (byte ∷ name ++ rest) (Unsupported Alias) refl (inl refl) (omega arith) (λ h. cc) (alias_alone t k c) (λ place other m. alias_first e (byte ∷ name ++ rest) (marked m))

  -- where it begins with no capital, a bare atom and a colon are all that tells of a cause
  only_colon : is_capital (byte ∷ name ++ rest) ≡ false → {place : ℕ} {why : TermCause} → NameMark e (byte ∷ name ++ rest) place why → (is_bare_atom (byte ∷ name) ≡ true) × IsTrue e.outermost × (place ≡ length (byte ∷ name)) × (why ≡ TrailingText)
  only_colon c (name_alone u n a) = absurd (true≢false (sym a ∙ c))
  only_colon c (name_alias other more u a n ends colon s) = absurd (true≢false (sym a ∙ c))
  only_colon c (name_colon word more o b s p) =
      let same : byte ∷ name ≡ word = longest_one (byte ∷ name) rest word (58 ∷ more) l (bare_named word b, colon_ends word more (bare_named word b)) s in
      (ap is_bare_atom same ∙ b, o, p ∙ ap length (sym same), refl)

  atom_part : is_bare_atom (byte ∷ name) ≡ true → IsPart e (byte ∷ name)
  atom_part b = inr (Atom (byte ∷ name), [], bare_atom b refl refl refl, t)

  no_colon_mark : is_capital (byte ∷ name ++ rest) ≡ false → starts_with 58 rest ≡ false → (place : ℕ) (why : TermCause) → Marked (lead (byte ∷ name ++ rest)) e (byte ∷ name ++ rest) place why → ⊥
  no_colon_mark c n place why m = at (marked m)
    where
      at : {place : ℕ} {why : TermCause} → NameMark e (byte ∷ name ++ rest) place why → ⊥
      at (name_alone u v a) = true≢false (sym a ∙ c)
      at (name_alias other more u a v ends colon s) = true≢false (sym a ∙ c)
      at (name_colon word more o b s p) =
          let same : byte ∷ name ≡ word = longest_one (byte ∷ name) rest word (58 ∷ more) l (bare_named word b, colon_ends word more (bare_named word b)) s in
          let tail : rest ≡ 58 ∷ more = front_same (byte ∷ name) rest (58 ∷ more) (s ∙ ap (λ x. x ++ 58 ∷ more) (sym same)) in
          true≢false (sym (ap (starts_with 58) tail) ∙ n)

  colon_right : is_capital (byte ∷ name ++ rest) ≡ false → is_bare_atom (byte ∷ name) ≡ true → (more : List ℕ) → rest ≡ 58 ∷ more → (outer : Bool) → e.outermost ≡ outer → Right e (byte ∷ name ++ rest) (Err (rest, cond outer TrailingText Unexpected))
  colon_right c b more r true o = first_by e (byte ∷ name ++ rest) (byte ∷ name) rest TrailingText refl (atom_part b) (omega arith) (λ h. let clash : 58 ∷ more ≡ [] = sym r ∙ h in absurd (cc)) (colon_after more o (bare_atom {name = byte ∷ name} b refl refl (sym (append-nil (byte ∷ name)))) (name_plain (byte ∷ name) [] l.0) (ap (λ x. byte ∷ name ++ x) r)) (λ place other m. let x = only_colon c (marked m) in inr (sym x.2, omega (arith, ap rank x.3)))
  colon_right c b more r false o = subst (λ x. Right e (byte ∷ name ++ rest) (Err (x, Unexpected))) (sym r) (unexpected_at e (byte ∷ name ++ rest) (byte ∷ name) more 58 (ap (λ x. byte ∷ name ++ x) r) (atom_part b)
      (λ more2 tok after begins u f. let split : (byte ∷ name ++ 58 ∷ []) ++ more2 ≡ byte ∷ name ++ 58 ∷ more2 = append_assoc (byte ∷ name) (58 ∷ []) more2 in colon_bad e (byte ∷ name) more2 l.0 (inl k) tok after (subst (λ x. Begins x tok after) split begins) u (subst (λ x. IsFree x tok after) split f))
      (λ place other m. let x = only_colon c (marked m) in absurd (true≢false (sym x.1 ∙ o))))

  bare_atom_right : is_capital (byte ∷ name ++ rest) ≡ false → is_bare_atom (byte ∷ name) ≡ true → Right e (byte ∷ name ++ rest) (cond (starts_with 58 rest) (stray_colon e rest) (Ok (Atom (byte ∷ name), rest)))
  bare_atom_right c b = at rest refl
    where
      no_colon : (first : ℕ) (more : List ℕ) → eqb first 58 ≡ false → after_colon (first ∷ more) ≡ None
      no_colon first [] q = refl
      no_colon first (next ∷ more) q = ap (λ x. cond (x && is_blank next) (Some more) None) q

      at : (r : List ℕ) → rest ≡ r → Right e (byte ∷ name ++ rest) (cond (starts_with 58 r) (stray_colon e r) (Ok (Atom (byte ∷ name), r)))
      at [] r = subst (λ x. Right e (byte ∷ name ++ rest) (Ok (Atom (byte ∷ name), x))) r (atom_taken e (byte ∷ name) rest l (ap after_colon r) b t (ap (starts_with 58) r) (no_colon_mark c (ap (starts_with 58) r)))
      at (first ∷ more) r = by (eqb first 58) refl
        where
          by : (colon : Bool) → eqb first 58 ≡ colon → Right e (byte ∷ name ++ rest) (cond colon (stray_colon e (first ∷ more)) (Ok (Atom (byte ∷ name), first ∷ more)))
          by true q = subst (λ x. Right e (byte ∷ name ++ rest) (stray_colon e x)) r (colon_right c b more (r ∙ ap (λ x. x ∷ more) (eqb-true first 58 q)) e.outermost refl)
          by false q = subst (λ x. Right e (byte ∷ name ++ rest) (Ok (Atom (byte ∷ name), x))) r (atom_taken e (byte ∷ name) rest l (ap after_colon r ∙ no_colon first more q) b t (ap (starts_with 58) r ∙ q) (no_colon_mark c (ap (starts_with 58) r ∙ q)))

  no_atom_right : is_capital (byte ∷ name ++ rest) ≡ false → is_bare_atom (byte ∷ name) ≡ false → Right e (byte ∷ name ++ rest) (cut_off (after_bare (byte ∷ name ++ rest)))
  no_atom_right c b =
      let s : is_name_start byte ≡ true = (and_parts (is_name_start byte) (is_name_rest name) l.0).0 in
      let d = common (bare_word byte) (byte ∷ name ++ rest) in
      cut_right e (byte ∷ name ++ rest) d.front (after_bare (byte ∷ name ++ rest)) d.in_text (word_part e byte d.front d.more t d.in_word)
      (λ none. none_bad e (byte ∷ name) rest l (inl k) (and_right e.term (is_bare_atom (byte ∷ name)) b))
      (λ next more r. shut_after e byte (name ++ rest) d.front d.more more next s k d.in_word (d.in_text ∙ ap (λ x. d.front ++ x) r) (subst (λ x. Parts d.more x) r d.parts)
      (λ w bare. longer d.front next more (d.in_text ∙ ap (λ x. d.front ++ x) r) bare))
      (λ place other m. let x = only_colon c (marked m) in absurd (true≢false (sym x.0 ∙ b)))
    where
      longer : (front : List ℕ) (next : ℕ) (more : List ℕ) → byte ∷ name ++ rest ≡ front ++ next ∷ more → is_bare_atom front ≡ true → is_name (front ++ next ∷ []) ≡ true
      longer front next more i bare = by (is_name (front ++ next ∷ [])) refl
        where
          by : (goes : Bool) → is_name (front ++ next ∷ []) ≡ goes → goes ≡ true
          by true q = refl
          by false q = absurd (true≢false (sym bare ∙ ap is_bare_atom (longest_one front (next ∷ more) (byte ∷ name) rest (bare_named front bare, q) l (sym i)) ∙ b))

  bare_right : Right e (byte ∷ name ++ rest) (bare_lexed e (byte ∷ name ++ rest) (byte ∷ name) rest)
  bare_right = by (is_capital (byte ∷ name ++ rest)) (is_bare_atom (byte ∷ name)) refl refl
    where
      by : (capital bare : Bool) → is_capital (byte ∷ name ++ rest) ≡ capital → is_bare_atom (byte ∷ name) ≡ bare → Right e (byte ∷ name ++ rest) (cond capital (Err (byte ∷ name ++ rest, Unsupported Alias)) (cond bare (cond (starts_with 58 rest) (stray_colon e rest) (Ok (Atom (byte ∷ name), rest))) (cut_off (after_bare (byte ∷ name ++ rest)))))
      by true bare c b = alone_right c
      by false true c b = bare_atom_right c b
      by false false c b = no_atom_right c b

-- neither a key nor a term may begin
neither_right : (e : Expected) (byte : ℕ) (name rest : List ℕ) → IsLongest (byte ∷ name) rest → e.term ≡ false → e.key ≡ false → Right e (byte ∷ name ++ rest) (Err (byte ∷ name ++ rest, Unexpected))
neither_right e byte name rest l t k =
    let s : is_name_start byte ≡ true = (and_parts (is_name_start byte) (is_name_rest name) l.0).0 in
    at_once e byte (name ++ rest) (shut_taken e (byte ∷ []) (λ more found h. taken more found (start_longest byte more s) h))
    (λ place other m. late (name_marks e (byte ∷ name) rest place other l.0 m))
  where
    taken : (more : List ℕ) (found : Token × List ℕ) → Longest (byte ∷ more) → first_token (byte ∷ more) ≡ Some found → takes e found.0 ≡ false
    taken more found m h =
        let name = take (name_len (byte ∷ more)) (byte ∷ more) in
        let rest = drop (name_len (byte ∷ more)) (byte ∷ more) in
        let split : name ++ rest ≡ byte ∷ more = take-append-drop (name_len (byte ∷ more)) (byte ∷ more) in
        ⊎_elim (λ x. ap (takes e) x.0 ∙ k) (λ x. ap (λ f. takes e f.0) x.0 ∙ t)
        (key_or_bare e name rest (after_colon rest) found (sym (name_first name rest m.0 m.1) ∙ ap first_token split ∙ h))

    late : {place : ℕ} {why : TermCause} → NameMark e (byte ∷ name ++ rest) place why → 0 < place
    late (name_alone u n a) = absurd (true≢false (sym u ∙ t))
    late (name_alias other more u a n ends colon s) = absurd (⊎_elim (λ x. true≢false (sym x ∙ t)) (λ x. true≢false (sym x ∙ k)) u)
    late (name_colon word more o b s p) = omega (arith, p, bare_some word b)

named_right : (e : Expected) (byte : ℕ) (name rest : List ℕ) → IsLongest (byte ∷ name) rest → (IsTrue e.outermost → IsFalse e.key) → Right e (byte ∷ name ++ rest) (named e (byte ∷ name ++ rest) (byte ∷ name) rest)
named_right e byte name rest l outer = by e.key e.term refl refl
  where
    by : (key term : Bool) → e.key ≡ key → e.term ≡ term → Right e (byte ∷ name ++ rest) (cond key (key_lexed e (byte ∷ name ++ rest) (byte ∷ name) rest (after_colon rest)) (cond term (bare_lexed e (byte ∷ name ++ rest) (byte ∷ name) rest) (Err (byte ∷ name ++ rest, Unexpected))))
    by true term k t = key_right e byte name rest (after_colon rest) l outer k refl
    by false true k t = bare_right e byte name rest l t k
    by false false k t = neither_right e byte name rest l t k

-- a name is read or refused as it is to be
pub name_right : (e : Expected) (byte : ℕ) (text : List ℕ) → is_name_start byte ≡ true → (IsTrue e.outermost → IsFalse e.key) → Right e (byte ∷ text) (name_lexed e (byte ∷ text))
name_right e byte text s outer =
    let n : name_len (byte ∷ text) ≡ suc (name_rest_len text) = ap (λ x. cond x (suc (name_rest_len text)) 0) s in
    let l : IsLongest (byte ∷ take (name_rest_len text) text) (drop (name_rest_len text) text) = subst (λ k. IsLongest (take k (byte ∷ text)) (drop k (byte ∷ text))) n (start_longest byte text s) in
    let split : byte ∷ take (name_rest_len text) text ++ drop (name_rest_len text) text ≡ byte ∷ text = ap (λ x. byte ∷ x) (take-append-drop (name_rest_len text) text) in
    subst (λ k. Right e (byte ∷ text) (named e (byte ∷ text) (take k (byte ∷ text)) (drop k (byte ∷ text)))) (sym n)
    (subst (λ x. Right e x (named e x (byte ∷ take (name_rest_len text) text) (drop (name_rest_len text) text))) split (named_right e byte (take (name_rest_len text) text) (drop (name_rest_len text) text) l outer))

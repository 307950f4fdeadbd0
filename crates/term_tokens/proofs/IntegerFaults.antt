-- Integers, and their first faults.
use Rattle.std.specs.Prelude.{not, Ok, Err}
use Rattle.std.proofs.Common.{◌≡◌, ℕ, ◌+◌, Bool, true, false, ◌&&◌, ◌||◌, ◌⊎◌, inl, inr, List, [], ◌∷◌, ◌++◌, Some, length, cond, eqb, refl, sym, ap, ◌∙◌, arith, subst, append_assoc, ⊎_elim}
use Rattle.std.proofs.lemmas.Bool.{and_parts, and_from, or_cases, eqb-true, true≢false, false≢true}
use Rattle.std.proofs.lemmas.List.{append-nil, length-append}
use Rattle.std.specs.Char.{is_digit, is_ascii_digit}
use Rattle.std.specs.Str.Parse.{digits_value}
use Rattle.term_tokens.specs.declared.cause.Feature.TheVariants.{Float}
use Rattle.term_tokens.specs.declared.cause.TermCause.{TermCause}
use Rattle.term_tokens.specs.declared.cause.TermCause.TheVariants.{Unsupported, NumberTooBig, Unexpected}
use Rattle.term_tokens.specs.declared.expected.Expected.{Expected}
use Rattle.term_tokens.specs.declared.token.Token.{Token}
use Rattle.term_tokens.specs.declared.token.Token.TheVariants.{Int}
use Rattle.term_tokens.specs.Lexed.{cut_off, scanned, opens_fraction, is_narrow, integer_end, integer_stop, numeral_lexed, signed_lexed, integer_lexed}
use Rattle.term_tokens.specs.Lexing.{first_token, signed, minus, IsNarrow}
use Rattle.term_tokens.specs.Local.{IsFree, takes, IsPart, IsShut, IsDecimal, float, number}
use Rattle.term_tokens.specs.Numbers.{Grouped, Numeral, Integer, plain, negative}
use Rattle.term_tokens.specs.Tokens.{ends_integer, Begins, integer}
use Rattle.term_tokens.proofs.FaultLemmas.{Right, first_by, cut_right, at_once, shut_taken}
use Rattle.term_tokens.proofs.FaultForms.{Least, IsNone, lead, Marked, NumberMark, at_number, number_float, number_wide}
use Rattle.term_tokens.proofs.IntegerLemmas.{integer_sound}
use Rattle.term_tokens.proofs.ScanLemmas.{scan_start, narrow_true, wide_false}
use Rattle.term_tokens.proofs.IntegerMarks.{Scans, scan_of, Starts, first_int, begun, prefixed, Says, says, marks}
use Rattle.term_tokens.proofs.IntegerMarks.Says.{says_float, says_wide}

-- where the scan stops

record Cut (numeral : List ℕ) (scan : Scans) : Type 0 where
  word : List ℕ
  split : numeral ≡ word ++ scan.1.2
  whole : scan.1.0 ≡ true → Numeral word (digits_value scan.0 scan.1.1)
  part : scan.1.0 ≡ false → (n : ℕ) × Numeral (word ++ 48 ∷ []) n
  again : (b : ℕ) (rest more : List ℕ) → scan.1.2 ≡ b ∷ rest → ◌≡◌ {A = Scans} (scan_of (word ++ b ∷ more)) (scan.0, (scan.1.0, scan.1.1, b ∷ more))
  starts : (b : ℕ) (rest more : List ℕ) → scan.1.2 ≡ b ∷ rest → Starts false numeral → Starts false (word ++ b ∷ more)
  ten : scan.0 ≡ 10 → scan.1.0 ≡ true → Grouped 10 word scan.1.1

cut_of : (numeral : List ℕ) → Cut numeral (scan_of numeral)
cut_of numeral =
    let p = prefixed numeral in
    let s = scan_start p.base p.digits in
    let found = scanned p.base false p.digits in
    let link : ◌≡◌ {A = Scans} (scan_of numeral) (p.base, found) = ap (λ x. (x.0, scanned x.0 false x.1)) p.says in
    subst (λ x. Cut numeral x) (sym link) (record {
      word = p.prefix ++ s.word;
      split = p.split ∙ ap (λ l. p.prefix ++ l) s.split ∙ sym (append_assoc p.prefix s.word found.2);
      whole = λ a. p.make (s.whole a);
      part = λ a. (digits_value p.base (found.1 ++ 48 ∷ []), subst (λ l. Numeral l (digits_value p.base (found.1 ++ 48 ∷ []))) (sym (append_assoc p.prefix s.word (48 ∷ []))) (p.make (s.part a 48 p.zero)));
      again = λ b rest more e.
          let there : p.digits ≡ s.word ++ b ∷ rest = s.split ∙ ap (λ l. s.word ++ l) e in
          ap scan_of (append_assoc p.prefix s.word (b ∷ more)) ∙ ap (λ x. (x.0, scanned x.0 false x.1)) (p.again s.word b rest more there (s.stops b rest e)) ∙ ap (λ x. (p.base, x)) (s.again b rest more e);
      starts = λ b rest more e st. subst (λ l. Starts false l) (sym (append_assoc p.prefix s.word (b ∷ more))) (p.starts s.word b rest more (s.split ∙ ap (λ l. s.word ++ l) e) (s.stops b rest e) st);
      ten = λ e a. subst (λ l. Grouped 10 l found.1) (ap (λ l. l ++ s.word) (sym (p.ten e))) (subst (λ k. Grouped k s.word found.1) e (s.whole a));
    })

-- no integer ends there
bad : (e : Expected) (sign : Bool) (numeral : List ℕ) (scan : Scans) → ◌≡◌ {A = Scans} (scan_of numeral) scan → (scan.1.0 && ends_integer scan.1.2) ≡ false → Starts sign numeral → IsNone e (minus sign ++ numeral)
bad e sign numeral scan s h st tok after b t f =
    let g = begun sign numeral tok after st b in
    let same : ◌≡◌ {A = Scans} scan (g.base, (true, g.digits, after)) = sym s ∙ g.scan in
    true≢false (sym (and_from scan.1.0 (ends_integer scan.1.2) (ap (λ x. x.1.0) same) (ap (λ x. ends_integer x.1.2) same ∙ g.ends)) ∙ h)

starts_again : (sign : Bool) (numeral other : List ℕ) → Starts sign numeral → (Starts false numeral → Starts false other) → Starts sign other
starts_again sign numeral other (inl h) f = inl h
starts_again sign numeral other (inr x) f = ⊎_elim (λ k. absurd (false≢true k)) (λ y. inr y) (f (inr x))

int_word : (sign : Bool) (word : List ℕ) (n : ℕ) → Numeral word n → Integer (minus sign ++ word) (signed sign n)
int_word true word n h = negative h
int_word false word n h = plain h

text_some : (sign : Bool) (numeral : List ℕ) → Starts sign numeral → minus sign ++ numeral ≡ [] → ⊥
text_some true numeral st e = cc
text_some false numeral (inl st) e = false≢true st
text_some false numeral (inr st) e = let h : st.0 ∷ st.1 ≡ [] = sym st.2 ∙ e in cc

fraction_found : (rest : List ℕ) → opens_fraction rest ≡ true → (digit : ℕ) × (more : List ℕ) × (rest ≡ 46 ∷ digit ∷ more) × (is_ascii_digit digit ≡ true)
fraction_found [] h = absurd (false≢true h)
fraction_found (byte ∷ []) h = absurd (false≢true h)
fraction_found (byte ∷ digit ∷ more) h = let p = and_parts (eqb byte 46) (is_ascii_digit digit) h in (digit, more, ap (λ b. b ∷ digit ∷ more) (eqb-true byte 46 p.0), p.1)

module _ (e : Expected) (sign : Bool) (numeral : List ℕ) (scan : Scans) (s : ◌≡◌ {A = Scans} (scan_of numeral) scan) (c : Cut numeral scan) (st : Starts sign numeral) (t : e.term ≡ true) where
  cut_split : minus sign ++ numeral ≡ (minus sign ++ c.word) ++ scan.1.2
  cut_split = ap (λ l. minus sign ++ l) c.split ∙ sym (append_assoc (minus sign) c.word scan.1.2)

  stop_part : IsPart e (minus sign ++ c.word)
  stop_part = by scan.1.0 refl
    where
      by : (after : Bool) → scan.1.0 ≡ after → IsPart e (minus sign ++ c.word)
      by true a = inr (Int (signed sign (digits_value scan.0 scan.1.1)), [], integer (int_word sign c.word (digits_value scan.0 scan.1.1) (c.whole a)) refl refl, t)
      by false a = let p = c.part a in inr (Int (signed sign p.0), 48 ∷ [], integer (int_word sign (c.word ++ 48 ∷ []) p.0 p.1) refl (append_assoc (minus sign) c.word (48 ∷ []) ∙ sym (append-nil (minus sign ++ (c.word ++ 48 ∷ [])))), t)

  says_ends : {place : ℕ} {why : TermCause} → Says e sign numeral place why → (scan.1.0 && ends_integer scan.1.2) ≡ true
  says_ends (says_float digits more u o f l p) =
      let same : ◌≡◌ {A = Scans} scan (10, (true, digits, 46 ∷ more)) = sym s ∙ f in
      and_from scan.1.0 (ends_integer scan.1.2) (ap (λ x. x.1.0) same) (ap (λ x. ends_integer x.1.2) same)
  says_ends (says_wide base digits after u f ends w) =
      let same : ◌≡◌ {A = Scans} scan (base, (true, digits, after)) = sym s ∙ f in
      and_from scan.1.0 (ends_integer scan.1.2) (ap (λ x. x.1.0) same) (ap (λ x. ends_integer x.1.2) same ∙ ends)

  cut_shut : (scan.1.0 && ends_integer scan.1.2) ≡ false → (b : ℕ) (more : List ℕ) → scan.1.2 ≡ b ∷ more → IsShut e ((minus sign ++ c.word) ++ b ∷ [])
  cut_shut h b more r more2 tok after begins u f =
      let joined : ((minus sign ++ c.word) ++ b ∷ []) ++ more2 ≡ minus sign ++ (c.word ++ b ∷ more2) = append_assoc (minus sign ++ c.word) (b ∷ []) more2 ∙ append_assoc (minus sign) c.word (b ∷ more2) in
      let h2 : (scan.1.0 && ends_integer (b ∷ more2)) ≡ false = ap (λ l. scan.1.0 && ends_integer l) (sym r) ∙ h in
      bad e sign (c.word ++ b ∷ more2) (scan.0, (scan.1.0, scan.1.1, b ∷ more2)) (c.again b more more2 r) h2 (starts_again sign numeral (c.word ++ b ∷ more2) st (c.starts b more more2 r)) tok after
      (subst (λ l. Begins l tok after) joined begins) u (subst (λ l. IsFree l tok after) joined f)

  stops_right : (scan.1.0 && ends_integer scan.1.2) ≡ false → Right e (minus sign ++ numeral) (cut_off scan.1.2)
  stops_right h = cut_right e (minus sign ++ numeral) (minus sign ++ c.word) scan.1.2 cut_split stop_part (λ none. bad e sign numeral scan s h st) (cut_shut h)
      (λ place other m. absurd (true≢false (sym (says_ends (marks e sign numeral st m)) ∙ h)))

  begins_whole : scan.1.0 ≡ true → ends_integer scan.1.2 ≡ true → Begins (minus sign ++ numeral) (Int (signed sign (digits_value scan.0 scan.1.1))) scan.1.2
  begins_whole a ends = integer (int_word sign c.word (digits_value scan.0 scan.1.1) (c.whole a)) ends cut_split

  big_right : scan.1.0 ≡ true → ends_integer scan.1.2 ≡ true → is_narrow (signed sign (digits_value scan.0 scan.1.1)) ≡ false → Right e (minus sign ++ numeral) (Err (minus sign ++ numeral, NumberTooBig))
  big_right a ends w = first_by e (minus sign ++ numeral) [] (minus sign ++ numeral) NumberTooBig refl (inl refl) (omega arith) (λ h. absurd (text_some sign numeral st h))
      (number t (begins_whole a ends) (wide_false (signed sign (digits_value scan.0 scan.1.1)) w)) (λ place other m. at (marks e sign numeral st m))
    where
      at : {place : ℕ} {other : TermCause} → Says e sign numeral place other → Least 0 NumberTooBig place other
      at (says_float digits more u o f l p) = inl l
      at (says_wide base digits after u f en v) = inr (refl, omega arith)

  is_decimal : scan.0 ≡ 10 → scan.1.0 ≡ true → IsDecimal (minus sign ++ c.word)
  is_decimal b a = by sign
    where
      by : (minus2 : Bool) → IsDecimal (minus minus2 ++ c.word)
      by true = (scan.1.1, inr (c.word, c.ten b a, refl))
      by false = (scan.1.1, inl (c.ten b a))

  float_right : scan.1.0 ≡ true → ends_integer scan.1.2 ≡ true → is_narrow (signed sign (digits_value scan.0 scan.1.1)) ≡ true → (eqb scan.0 10 && opens_fraction scan.1.2) ≡ true → Right e (minus sign ++ numeral) (Err (scan.1.2, Unsupported Float))
  float_right a ends w h =
      let x = and_parts (eqb scan.0 10) (opens_fraction scan.1.2) h in
      let f = fraction_found scan.1.2 x.1 in
      first_by e (minus sign ++ numeral) (minus sign ++ c.word) scan.1.2 (Unsupported Float) cut_split stop_part (omega arith) (λ none. let k : 46 ∷ f.0 ∷ f.1 ≡ [] = sym f.2 ∙ none in absurd (cc))
      (float f.0 f.1 t (is_decimal (eqb-true scan.0 10 x.0) a) f.3 (cut_split ∙ ap (λ l. (minus sign ++ c.word) ++ l) f.2)) (λ place other m. at (marks e sign numeral st m))
    where
      at : {place : ℕ} {other : TermCause} → Says e sign numeral place other → Least (length (minus sign ++ c.word)) (Unsupported Float) place other
      at (says_float digits more u o f l p) =
          let same : ◌≡◌ {A = Scans} scan (10, (true, digits, 46 ∷ more)) = sym s ∙ f in
          let rest : scan.1.2 ≡ 46 ∷ more = ap (λ x. x.1.2) same in
          inr (omega (arith, p, ap length cut_split, length-append (minus sign ++ c.word) scan.1.2, ap length rest), omega arith)
      at (says_wide base digits after u f en v) =
          let same : ◌≡◌ {A = Scans} scan (base, (true, digits, after)) = sym s ∙ f in
          absurd (v (subst (λ n. IsNarrow (Int n)) (ap (λ x. signed sign (digits_value x.0 x.1.1)) same) (narrow_true (signed sign (digits_value scan.0 scan.1.1)) w)))

  end_right : scan.1.0 ≡ true → ends_integer scan.1.2 ≡ true → Right e (minus sign ++ numeral) (integer_end (minus sign ++ numeral) scan.0 (signed sign (digits_value scan.0 scan.1.1)) scan.1.2)
  end_right a ends = by (is_narrow (signed sign (digits_value scan.0 scan.1.1))) (eqb scan.0 10 && opens_fraction scan.1.2) refl refl
    where
      clean : is_narrow (signed sign (digits_value scan.0 scan.1.1)) ≡ true → (eqb scan.0 10 && opens_fraction scan.1.2) ≡ false → {place : ℕ} {other : TermCause} → Says e sign numeral place other → ⊥
      clean w h (says_float digits more u o f l p) =
          let same : ◌≡◌ {A = Scans} scan (10, (true, digits, 46 ∷ more)) = sym s ∙ f in
          true≢false (sym (ap (λ x. eqb x.0 10 && opens_fraction x.1.2) same ∙ o) ∙ h)
      clean w h (says_wide base digits after u f en v) =
          let same : ◌≡◌ {A = Scans} scan (base, (true, digits, after)) = sym s ∙ f in
          v (subst (λ n. IsNarrow (Int n)) (ap (λ x. signed sign (digits_value x.0 x.1.1)) same) (narrow_true (signed sign (digits_value scan.0 scan.1.1)) w))

      by : (narrow fraction : Bool) → is_narrow (signed sign (digits_value scan.0 scan.1.1)) ≡ narrow → (eqb scan.0 10 && opens_fraction scan.1.2) ≡ fraction → Right e (minus sign ++ numeral) (cond (not narrow) (Err (minus sign ++ numeral, NumberTooBig)) (cond fraction (Err (scan.1.2, Unsupported Float)) (Ok (Int (signed sign (digits_value scan.0 scan.1.1)), scan.1.2))))
      by false fraction w h = big_right a ends w
      by true true w h = float_right a ends w h
      by true false w h = (begins_whole a ends, t, narrow_true (signed sign (digits_value scan.0 scan.1.1)) w, refl, λ place why m. clean w h (marks e sign numeral st m))

  stop_right : Right e (minus sign ++ numeral) (integer_stop (minus sign ++ numeral) scan.0 sign scan.1)
  stop_right = by (scan.1.0 && ends_integer scan.1.2) refl
    where
      by : (ended : Bool) → (scan.1.0 && ends_integer scan.1.2) ≡ ended → Right e (minus sign ++ numeral) (cond ended (integer_end (minus sign ++ numeral) scan.0 (signed sign (digits_value scan.0 scan.1.1)) scan.1.2) (cut_off scan.1.2))
      by true h = let x = and_parts scan.1.0 (ends_integer scan.1.2) h in end_right x.0 x.1
      by false h = stops_right h

numeral_right : (e : Expected) (sign : Bool) (numeral : List ℕ) → Starts sign numeral → e.term ≡ true → Right e (minus sign ++ numeral) (numeral_lexed (minus sign ++ numeral) sign numeral)
numeral_right e sign numeral st t = stop_right e sign numeral (scan_of numeral) refl (cut_of numeral) st t

int_taken : (e : Expected) (sign : Bool) (numeral : List ℕ) (found : Token × List ℕ) → Starts sign numeral → e.term ≡ false → first_token (minus sign ++ numeral) ≡ Some found → takes e found.0 ≡ false
int_taken e sign numeral found st t h =
    let cut = integer_sound sign numeral found (sym (first_int sign numeral st) ∙ h) in
    ap (λ f. takes e f.0) (sym cut.token) ∙ t

no_term : (e : Expected) (text : List ℕ) {place : ℕ} {why : TermCause} → e.term ≡ false → NumberMark e text place why → ⊥
no_term e text n (number_float word digit more t d h s p) = true≢false (sym t ∙ n)
no_term e text n (number_wide m after t b w) = true≢false (sym t ∙ n)

-- an integer is read or refused as it is to be
pub integer_right : (e : Expected) (byte : ℕ) (text : List ℕ) → eqb byte 58 ≡ false → eqb byte 34 ≡ false → eqb byte 126 ≡ false → (eqb byte 45 || is_digit byte 10) ≡ true → Right e (byte ∷ text) (integer_lexed e (byte ∷ text))
integer_right e byte text c q t n = by e.term refl
  where
    digit : eqb byte 45 ≡ false → is_digit byte 10 ≡ true
    digit m = ⊎_elim (λ x. absurd (true≢false (sym x ∙ m))) (λ x. x) (or_cases (eqb byte 45) (is_digit byte 10) n)

    signs : e.term ≡ true → (minus2 : Bool) → eqb byte 45 ≡ minus2 → Right e (byte ∷ text) (cond minus2 (numeral_lexed (byte ∷ text) true text) (numeral_lexed (byte ∷ text) false (byte ∷ text)))
    signs u true m = subst (λ b. Right e (b ∷ text) (numeral_lexed (b ∷ text) true text)) (sym (eqb-true byte 45 m)) (numeral_right e true text (inl refl) u)
    signs u false m = numeral_right e false (byte ∷ text) (inr (byte, text, refl, digit m)) u

    taken : e.term ≡ false → (minus2 : Bool) → eqb byte 45 ≡ minus2 → (more : List ℕ) (found : Token × List ℕ) → first_token (byte ∷ more) ≡ Some found → takes e found.0 ≡ false
    taken u true m more found h = int_taken e true more found (inl refl) u (ap (λ b. first_token (b ∷ more)) (sym (eqb-true byte 45 m)) ∙ h)
    taken u false m more found h = int_taken e false (byte ∷ more) found (inr (byte, more, refl, digit m)) u h

    by : (term : Bool) → e.term ≡ term → Right e (byte ∷ text) (cond term (signed_lexed (byte ∷ text)) (Err (byte ∷ text, Unexpected)))
    by true u = signs u (eqb byte 45) refl
    by false u =
        let l : lead (byte ∷ text) ≡ at_number = rw (c, q, t, n) refl in
        at_once e byte text (shut_taken e (byte ∷ []) (taken u (eqb byte 45) refl)) (λ place other m. absurd (no_term e (byte ∷ text) u (subst (λ k. Marked k e (byte ∷ text) place other) l m)))

-- Integers, and the causes that they have.
use Rattle.std.specs.Prelude.{IsTrue, ℤ}
use Rattle.std.proofs.Common.{◌≡◌, ℕ, ◌+◌, ◌<◌, Bool, true, false, ◌&&◌, ◌⊎◌, inl, inr, List, [], ◌∷◌, ◌++◌, length, cond, eqb, refl, sym, ap, ◌∙◌, arith, subst}
use Rattle.std.proofs.lemmas.Bool.{and_parts, eqb-true, ne_eqb, true≢false, false≢true}
use Rattle.std.proofs.lemmas.List.{length-append}
use Rattle.std.specs.Char.{is_digit}
use Rattle.std.specs.Str.Parse.{digits_value}
use Rattle.term_tokens.specs.declared.cause.Feature.TheVariants.{Float}
use Rattle.term_tokens.specs.declared.cause.TermCause.{TermCause}
use Rattle.term_tokens.specs.declared.cause.TermCause.TheVariants.{Unsupported, NumberTooBig}
use Rattle.term_tokens.specs.declared.expected.Expected.{Expected}
use Rattle.term_tokens.specs.declared.token.Token.{Token}
use Rattle.term_tokens.specs.declared.token.Token.TheVariants.{Int}
use Rattle.term_tokens.specs.Lexed.{Scanned, scanned, opens_fraction}
use Rattle.term_tokens.specs.Lexing.{first_token, base_of, signed, minus, integer_of, IsNarrow}
use Rattle.term_tokens.specs.Local.{IsDecimal}
use Rattle.term_tokens.specs.Numbers.{Grouped, last, next, mark, Numeral, decimal, hexadecimal, octal, binary}
use Rattle.term_tokens.specs.Tokens.{ends_integer, Begins}
use Rattle.term_tokens.proofs.FaultLemmas.{digit_lead}
use Rattle.term_tokens.proofs.FaultForms.{lead, Marked, NumberMark, number_float, number_wide}
use Rattle.term_tokens.proofs.IntegerLemmas.{integer_sound}
use Rattle.term_tokens.proofs.ScanLemmas.{numeral_scan, base_ends, scan_complete}
use Rattle.term_tokens.proofs.BeginLemmas.{begins_first, digit_first}

-- the base and the digits of a numeral, and the text after them
abbrev pub Scans : Type 0
Scans = ℕ × Scanned

abbrev pub scan_of : List ℕ → Scans
scan_of numeral = ((base_of numeral).0, scanned (base_of numeral).0 false (base_of numeral).1)

abbrev pub Starts : Bool → List ℕ → Type 0
Starts minus numeral = (minus ≡ true) ⊎ ((d : ℕ) × (l : List ℕ) × (numeral ≡ d ∷ l) × (is_digit d 10 ≡ true))

pub first_int : (sign : Bool) (numeral : List ℕ) → Starts sign numeral → first_token (minus sign ++ numeral) ≡ integer_of sign numeral
first_int true numeral s = refl
first_int false numeral (inl s) = absurd (false≢true s)
first_int false numeral (inr s) = ap first_token s.2 ∙ digit_first s.0 s.1 s.3 ∙ ap (integer_of false) (sym s.2)

pub word_scan : {word : List ℕ} {n : ℕ} → Numeral word n → (numeral rest : List ℕ) → numeral ≡ word ++ rest → ends_integer rest ≡ true → (base : ℕ) × (digits : List ℕ) × (◌≡◌ {A = Scans} (scan_of numeral) (base, (true, digits, rest))) × (digits_value base digits ≡ n)
word_scan h numeral rest s ends =
    let v = numeral_scan h rest ends in
    (v.base, v.digits, ap scan_of s ∙ ap (λ p. (p.0, scanned p.0 false p.1)) v.says ∙ ap (λ x. (v.base, x)) v.scan, v.value)

-- what a token at the front says of the scan
pub record Begun (sign : Bool) (numeral : List ℕ) (tok : Token) (after : List ℕ) : Type 0 where
  pub base : ℕ
  pub digits : List ℕ
  pub scan : ◌≡◌ {A = Scans} (scan_of numeral) (base, (true, digits, after))
  pub token : tok ≡ Int (signed sign (digits_value base digits))
  pub ends : ends_integer after ≡ true

pub begun : (sign : Bool) (numeral : List ℕ) (tok : Token) (after : List ℕ) → Starts sign numeral → Begins (minus sign ++ numeral) tok after → Begun sign numeral tok after
begun sign numeral tok after s b =
    let cut = integer_sound sign numeral (tok, after) (sym (first_int sign numeral s) ∙ begins_first b) in
    let w = word_scan cut.numeral numeral after cut.split cut.ends in
    record { base = w.0; digits = w.1; scan = w.2; token = sym (ap (λ f. f.0) cut.token) ∙ ap (λ n. Int (signed sign n)) (sym w.3); ends = cut.ends }

-- where the digits begin

pub record Prefixed (numeral : List ℕ) : Type 0 where
  pub base : ℕ
  pub prefix : List ℕ
  pub digits : List ℕ
  pub says : ◌≡◌ {A = ℕ × List ℕ} (base_of numeral) (base, digits)
  pub split : numeral ≡ prefix ++ digits
  pub make : {word ds : List ℕ} → Grouped base word ds → Numeral (prefix ++ word) (digits_value base ds)
  pub zero : is_digit 48 base ≡ true
  pub ten : base ≡ 10 → prefix ≡ []
  pub again : (word : List ℕ) (b : ℕ) (rest more : List ℕ) → digits ≡ word ++ b ∷ rest → is_digit b base ≡ false → base_of (prefix ++ (word ++ b ∷ more)) ≡ (base, word ++ b ∷ more)
  pub starts : (word : List ℕ) (b : ℕ) (rest more : List ℕ) → digits ≡ word ++ b ∷ rest → is_digit b base ≡ false → Starts false numeral → Starts false (prefix ++ (word ++ b ∷ more))

pub base_two_same : (x y : ℕ) (l m : List ℕ) → base_of (x ∷ y ∷ l) ≡ (10, x ∷ y ∷ l) → base_of (x ∷ y ∷ m) ≡ (10, x ∷ y ∷ m)
base_two_same x y l m h = by (eqb x 48 && eqb y 120) (eqb x 48 && eqb y 111) (eqb x 48 && eqb y 98) h
  where
    by : (a b c : Bool) → ◌≡◌ {A = ℕ × List ℕ} (cond a (16, l) (cond b (8, l) (cond c (2, l) (10, x ∷ y ∷ l)))) (10, x ∷ y ∷ l) → ◌≡◌ {A = ℕ × List ℕ} (cond a (16, m) (cond b (8, m) (cond c (2, m) (10, x ∷ y ∷ m)))) (10, x ∷ y ∷ m)
    by true b c h = let n : ◌≡◌ {A = ℕ} 16 10 = ap (λ p. p.0) h in absurd (omega (arith, n))
    by false true c h = let n : ◌≡◌ {A = ℕ} 8 10 = ap (λ p. p.0) h in absurd (omega (arith, n))
    by false false true h = let n : ◌≡◌ {A = ℕ} 2 10 = ap (λ p. p.0) h in absurd (omega (arith, n))
    by false false false h = refl

pub base_no_digit : (b : ℕ) (more : List ℕ) → is_digit b 10 ≡ false → base_of (b ∷ more) ≡ (10, b ∷ more)
base_no_digit b [] d = refl
base_no_digit b (m ∷ more) d =
    let z : eqb b 48 ≡ false = ne_eqb b 48 (λ e. false≢true (sym d ∙ ap (λ x. is_digit x 10) e)) in
    rw z refl

pub ten_again : (digits : List ℕ) → base_of digits ≡ (10, digits) → (word : List ℕ) (b : ℕ) (rest more : List ℕ) → digits ≡ word ++ b ∷ rest → is_digit b 10 ≡ false → base_of (word ++ b ∷ more) ≡ (10, word ++ b ∷ more)
ten_again digits h [] b rest more s d = base_no_digit b more d
ten_again digits h (w ∷ []) b rest more s d = base_two_same w b rest more (subst (λ l. base_of l ≡ (10, l)) s h)
ten_again digits h (w ∷ v ∷ word) b rest more s d = base_two_same w v (word ++ b ∷ rest) (word ++ b ∷ more) (subst (λ l. base_of l ≡ (10, l)) s h)

pub ten_starts : (digits word : List ℕ) (b : ℕ) (rest more : List ℕ) → digits ≡ word ++ b ∷ rest → is_digit b 10 ≡ false → Starts false digits → Starts false (word ++ b ∷ more)
ten_starts digits word b rest more s d (inl h) = inl h
ten_starts digits [] b rest more s d (inr h) = let same : h.0 ≡ b = cc (h.2, s) in absurd (true≢false (sym h.3 ∙ ap (λ x. is_digit x 10) same ∙ d))
ten_starts digits (w ∷ word) b rest more s d (inr h) = let same : h.0 ≡ w = cc (h.2, s) in inr (w, word ++ b ∷ more, refl, ap (λ x. is_digit x 10) (sym same) ∙ h.3)

pub ten_prefixed : (digits : List ℕ) → base_of digits ≡ (10, digits) → Prefixed digits
ten_prefixed digits h = record {
  base = 10;
  prefix = [];
  digits = digits;
  says = h;
  split = refl;
  make = λ g. decimal g;
  zero = refl;
  ten = λ _. refl;
  again = ten_again digits h;
  starts = ten_starts digits;
}

pub prefixed_two : (first second : ℕ) (text : List ℕ) (a b c : Bool) → (eqb first 48 && eqb second 120) ≡ a → (eqb first 48 && eqb second 111) ≡ b → (eqb first 48 && eqb second 98) ≡ c → base_of (first ∷ second ∷ text) ≡ cond a (16, text) (cond b (8, text) (cond c (2, text) (10, first ∷ second ∷ text))) → Prefixed (first ∷ second ∷ text)
prefixed_two first second text true b c p q r h =
    let x = and_parts (eqb first 48) (eqb second 120) p in
    let s : first ∷ second ∷ text ≡ 48 ∷ 120 ∷ text = ap (λ l. l ∷ second ∷ text) (eqb-true first 48 x.0) ∙ ap (λ l. 48 ∷ l ∷ text) (eqb-true second 120 x.1) in
    record { base = 16; prefix = 48 ∷ 120 ∷ []; digits = text; says = h; split = s; make = λ g. hexadecimal g; zero = refl; ten = λ e. absurd (omega (arith, e)); again = λ word b rest more s d. refl; starts = λ word b rest more s d st. inr (48, 120 ∷ word ++ b ∷ more, refl, refl) }
prefixed_two first second text false true c p q r h =
    let x = and_parts (eqb first 48) (eqb second 111) q in
    let s : first ∷ second ∷ text ≡ 48 ∷ 111 ∷ text = ap (λ l. l ∷ second ∷ text) (eqb-true first 48 x.0) ∙ ap (λ l. 48 ∷ l ∷ text) (eqb-true second 111 x.1) in
    record { base = 8; prefix = 48 ∷ 111 ∷ []; digits = text; says = h; split = s; make = λ g. octal g; zero = refl; ten = λ e. absurd (omega (arith, e)); again = λ word b rest more s d. refl; starts = λ word b rest more s d st. inr (48, 111 ∷ word ++ b ∷ more, refl, refl) }
prefixed_two first second text false false true p q r h =
    let x = and_parts (eqb first 48) (eqb second 98) r in
    let s : first ∷ second ∷ text ≡ 48 ∷ 98 ∷ text = ap (λ l. l ∷ second ∷ text) (eqb-true first 48 x.0) ∙ ap (λ l. 48 ∷ l ∷ text) (eqb-true second 98 x.1) in
    record { base = 2; prefix = 48 ∷ 98 ∷ []; digits = text; says = h; split = s; make = λ g. binary g; zero = refl; ten = λ e. absurd (omega (arith, e)); again = λ word b rest more s d. refl; starts = λ word b rest more s d st. inr (48, 98 ∷ word ++ b ∷ more, refl, refl) }
prefixed_two first second text false false false p q r h = ten_prefixed (first ∷ second ∷ text) h

pub prefixed : (numeral : List ℕ) → Prefixed numeral
prefixed [] = ten_prefixed [] refl
prefixed (first ∷ []) = ten_prefixed (first ∷ []) refl
prefixed (first ∷ second ∷ text) = prefixed_two first second text _ _ _ refl refl refl refl

-- marks

pub data Says (e : Expected) (sign : Bool) (numeral : List ℕ) : ℕ → TermCause → Type 0 where
  says_float : {place : ℕ} (digits more : List ℕ) → IsTrue e.term → opens_fraction (46 ∷ more) ≡ true → ◌≡◌ {A = Scans} (scan_of numeral) (10, (true, digits, 46 ∷ more)) → 0 < place → place + length (46 ∷ more) ≡ length (minus sign ++ numeral) → Says e sign numeral place (Unsupported Float)
  says_wide : (base : ℕ) (digits after : List ℕ) → IsTrue e.term → ◌≡◌ {A = Scans} (scan_of numeral) (base, (true, digits, after)) → ends_integer after ≡ true → (IsNarrow (Int (signed sign (digits_value base digits))) → ⊥) → Says e sign numeral 0 NumberTooBig

pub decimal_scan : {word digits : List ℕ} → Grouped 10 word digits → (numeral rest : List ℕ) → numeral ≡ word ++ rest → ends_integer rest ≡ true → (ds : List ℕ) × ◌≡◌ {A = Scans} (scan_of numeral) (10, (true, ds, rest))
decimal_scan {digits = digits} g numeral rest s ends =
    (digits, ap scan_of s ∙ ap (λ p. (p.0, scanned p.0 false p.1)) (base_ends g rest ends) ∙ ap (λ x. (10, x)) (scan_complete (omega arith) refl g false rest ends))

pub grouped_first : {base : ℕ} {word digits : List ℕ} → Grouped base word digits → (d : ℕ) × (l : List ℕ) × (word ≡ d ∷ l) × (is_digit d base ≡ true)
grouped_first (last {digit = digit} d) = (digit, [], refl, d)
grouped_first (next {digit = digit} {text = text} d g) = (digit, text, refl, d)
grouped_first (mark {digit = digit} {text = text} d g) = (digit, 95 ∷ text, refl, d)

pub float_says : (e : Expected) (sign : Bool) (numeral word : List ℕ) (more : List ℕ) → IsTrue e.term → opens_fraction (46 ∷ more) ≡ true → Starts sign numeral → IsDecimal word → minus sign ++ numeral ≡ word ++ 46 ∷ more → Says e sign numeral (length word) (Unsupported Float)
float_says e sign numeral word more t o st (ds, inl g) s = at sign st s
  where
    f : (d : ℕ) × (l : List ℕ) × (word ≡ d ∷ l) × (is_digit d 10 ≡ true)
    f = grouped_first g

    at : (sign : Bool) → Starts sign numeral → minus sign ++ numeral ≡ word ++ 46 ∷ more → Says e sign numeral (length word) (Unsupported Float)
    at true st s =
        let all : 45 ∷ numeral ≡ f.0 ∷ f.1 ++ 46 ∷ more = s ∙ ap (λ l. l ++ 46 ∷ more) f.2 in
        let same : f.0 ≡ 45 = cc in
        absurd (true≢false (sym f.3 ∙ ap (λ x. is_digit x 10) same))
    at false st s = let v = decimal_scan g numeral (46 ∷ more) s refl in says_float v.0 more t o v.1 (omega (arith, ap length f.2)) (omega (arith, ap length s, length-append word (46 ∷ more)))
float_says e sign numeral word more t o st (ds, inr w) s = at sign st s
  where
    at : (sign : Bool) → Starts sign numeral → minus sign ++ numeral ≡ word ++ 46 ∷ more → Says e sign numeral (length word) (Unsupported Float)
    at true st s =
        let tail : 45 ∷ numeral ≡ 45 ∷ w.0 ++ 46 ∷ more = s ∙ ap (λ l. l ++ 46 ∷ more) w.2 in
        let v = decimal_scan w.1 numeral (46 ∷ more) (cc) refl in
        says_float v.0 more t o v.1 (omega (arith, ap length w.2)) (omega (arith, ap length s, length-append word (46 ∷ more)))
    at false (inl h) s = absurd (false≢true h)
    at false (inr h) s =
        let all : h.0 ∷ h.1 ≡ 45 ∷ w.0 ++ 46 ∷ more = sym h.2 ∙ s ∙ ap (λ l. l ++ 46 ∷ more) w.2 in
        let same : h.0 ≡ 45 = cc in
        absurd (true≢false (sym h.3 ∙ ap (λ x. is_digit x 10) same))

pub int_same : (n m : ℤ) → ◌≡◌ {A = Token} (Int n) (Int m) → n ≡ m
int_same n m e = cc

pub says : (e : Expected) (sign : Bool) (numeral : List ℕ) {place : ℕ} {why : TermCause} → Starts sign numeral → NumberMark e (minus sign ++ numeral) place why → Says e sign numeral place why
says e sign numeral st (number_float word digit more t d h s p) = subst (λ k. Says e sign numeral k (Unsupported Float)) (sym p) (float_says e sign numeral word (digit ∷ more) t h st d s)
says e sign numeral st (number_wide n after t b w) =
    let g = begun sign numeral (Int n) after st b in
    says_wide g.base g.digits after t g.scan g.ends (subst (λ m. IsNarrow (Int m) → ⊥) (int_same n (signed sign (digits_value g.base g.digits)) g.token) w)

pub marks : (e : Expected) (sign : Bool) (numeral : List ℕ) {place : ℕ} {why : TermCause} → Starts sign numeral → Marked (lead (minus sign ++ numeral)) e (minus sign ++ numeral) place why → Says e sign numeral place why
marks e true numeral st m = says e true numeral st m
marks e false numeral (inl st) m = absurd (false≢true st)
marks e false numeral {place = place} {why = why} (inr st) m =
    let begun : Marked (lead (st.0 ∷ st.1)) e (st.0 ∷ st.1) place why = subst (λ l. Marked (lead l) e l place why) st.2 m in
    let mark : NumberMark e (st.0 ∷ st.1) place why = subst (λ k. Marked k e (st.0 ∷ st.1) place why) (digit_lead st.0 st.1 st.3) begun in
    says e false numeral (inr st) (subst (λ l. NumberMark e l place why) (sym st.2) mark)

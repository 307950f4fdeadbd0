-- The digits of a numeral, with single `_` between some of them, up to where they stop.
use Rattle.std.specs.Prelude.{not, ℤ, pos, negsuc, Ok, Err}
use Rattle.std.proofs.Common.{◌≡◌, ℕ, ◌^◌, ◌≤◌, Bool, true, false, ◌&&◌, List, [], ◌∷◌, ◌++◌, cond, eqb, refl, sym, ap, ◌∙◌, arith, subst}
use Rattle.std.proofs.lemmas.Bool.{not-true, and_right, eqb-true, ne_eqb, true≢false, false≢true, false_from_ne_true, ltb-true, lt-ltb}
use Rattle.std.proofs.lemmas.Int.{ints, to_z-of_z}
use Rattle.std.specs.Int.{w128, cast_signed as to_z, cast_unsigned as of_z}
use Rattle.std.specs.Char.{is_digit}
use Rattle.std.specs.Str.Parse.{digits_value}
use Rattle.term_tokens.specs.declared.cause.Feature.TheVariants.{Float}
use Rattle.term_tokens.specs.declared.cause.TermCause.TheVariants.{Unsupported, NumberTooBig}
use Rattle.term_tokens.specs.declared.token.Token.TheVariants.{Int}
use Rattle.term_tokens.specs.Lexed.{Scanned, with_digits, scanned, is_narrow, cut_off, opens_fraction, integer_end, integer_stop, numeral_lexed}
use Rattle.term_tokens.specs.Lexing.{base_of, signed, minus, are_signed_digits, signed_value, IsNarrow}
use Rattle.term_tokens.specs.Names.{is_name_byte}
use Rattle.term_tokens.specs.Numbers.{Grouped, last, next, mark, Numeral, decimal, hexadecimal, octal, binary}
use Rattle.term_tokens.specs.Tokens.{ends_integer}
use Rattle.term_tokens.proofs.NumberLemmas.{fits_from_narrow}
use Rattle.term_tokens.proofs.IntegerLemmas.{digit_named, grouped_digits, decimal_second, signed_digits}

-- an integer of 128 bits

pub narrow_true : (n : ℤ) → is_narrow n ≡ true → IsNarrow (Int n)
narrow_true (pos n) h = (omega (arith, ints, ltb-true n (2 ^ 127) h), omega (arith, ints, ltb-true n (2 ^ 127) h))
narrow_true (negsuc n) h = (omega (arith, ints, ltb-true n (2 ^ 127) h), omega (arith, ints, ltb-true n (2 ^ 127) h))

pub true_narrow : (n : ℤ) → IsNarrow (Int n) → is_narrow n ≡ true
true_narrow (pos n) h = lt-ltb n (2 ^ 127) (omega (arith, ints, h.1))
true_narrow (negsuc n) h = lt-ltb n (2 ^ 127) (omega (arith, ints, h.0))

pub narrow_false : (n : ℤ) → (IsNarrow (Int n) → ⊥) → is_narrow n ≡ false
narrow_false n h = false_from_ne_true (is_narrow n) (λ t. h (narrow_true n t))

pub wide_false : (n : ℤ) → is_narrow n ≡ false → IsNarrow (Int n) → ⊥
wide_false n h w = true≢false (sym (true_narrow n w) ∙ h)

-- what is scanned from the beginning, and what after a digit

pub record Scan (base : ℕ) (text : List ℕ) (s : Scanned) : Type 0 where
  pub word : List ℕ
  pub split : text ≡ word ++ s.2
  pub whole : s.0 ≡ true → Grouped base word s.1
  pub part : s.0 ≡ false → (d : ℕ) → is_digit d base ≡ true → Grouped base (word ++ d ∷ []) (s.1 ++ d ∷ [])
  pub again : (b : ℕ) (rest more : List ℕ) → s.2 ≡ b ∷ rest → scanned base false (word ++ b ∷ more) ≡ (s.0, s.1, b ∷ more)
  pub stops : (b : ℕ) (rest : List ℕ) → s.2 ≡ b ∷ rest → is_digit b base ≡ false

record ScanAfter (base : ℕ) (text : List ℕ) (s : Scanned) : Type 0 where
  word : List ℕ
  split : text ≡ word ++ s.2
  whole : (p : ℕ) → is_digit p base ≡ true → s.0 ≡ true → Grouped base (p ∷ word) (p ∷ s.1)
  part : (p : ℕ) → is_digit p base ≡ true → s.0 ≡ false → (d : ℕ) → is_digit d base ≡ true → Grouped base (p ∷ word ++ d ∷ []) (p ∷ s.1 ++ d ∷ [])
  again : (b : ℕ) (rest more : List ℕ) → s.2 ≡ b ∷ rest → scanned base true (word ++ b ∷ more) ≡ (s.0, s.1, b ∷ more)
  stops : (b : ℕ) (rest : List ℕ) → s.2 ≡ b ∷ rest → is_digit b base ≡ false

scan_both : (base : ℕ) (text : List ℕ) → Scan base text (scanned base false text) × ScanAfter base text (scanned base true text)
scan_both base [] = (
  record { word = []; split = refl; whole = λ e. absurd (false≢true e); part = λ e d h. last h; again = λ b rest more e. cc; stops = λ b rest e. cc },
  record { word = []; split = refl; whole = λ p h e. last h; part = λ p h e d k. absurd (true≢false e); again = λ b rest more e. cc; stops = λ b rest e. cc },
)
scan_both base (byte ∷ text) = (start (is_digit byte base) refl (scan_both base text), after (is_digit byte base) (eqb byte 95) refl refl (scan_both base text))
  where
    Both : Type 0
    Both = Scan base text (scanned base false text) × ScanAfter base text (scanned base true text)

    step : (after : Bool) (l : List ℕ) → is_digit byte base ≡ true → scanned base after (byte ∷ l) ≡ with_digits (byte ∷ []) (scanned base true l)
    step after l t = ap (λ x. cond x (with_digits (byte ∷ []) (scanned base true l)) (cond (eqb byte 95 && after) (scanned base false l) (after, [], byte ∷ l))) t

    halt : (after : Bool) (l : List ℕ) → is_digit byte base ≡ false → (eqb byte 95 && after) ≡ false → scanned base after (byte ∷ l) ≡ (after, [], byte ∷ l)
    halt after l t u = ap (λ x. cond x (with_digits (byte ∷ []) (scanned base true l)) (cond (eqb byte 95 && after) (scanned base false l) (after, [], byte ∷ l))) t ∙ ap (λ x. cond x (scanned base false l) (after, [], byte ∷ l)) u

    start : (digit : Bool) → is_digit byte base ≡ digit → Scan base text (scanned base false text) × ScanAfter base text (scanned base true text) → Scan base (byte ∷ text) (scanned base false (byte ∷ text))
    start true t ih = subst (λ s. Scan base (byte ∷ text) s) (sym (step false text t)) (record {
      word = byte ∷ ih.1.word;
      split = ap (λ l. byte ∷ l) ih.1.split;
      whole = λ e. ih.1.whole byte t e;
      part = λ e d h. ih.1.part byte t e d h;
      again = λ b rest more e. step false (ih.1.word ++ b ∷ more) t ∙ ap (with_digits (byte ∷ [])) (ih.1.again b rest more e);
      stops = ih.1.stops;
    })
    start false t ih =
        let u : (eqb byte 95 && false) ≡ false = and_right (eqb byte 95) false refl in
        subst (λ s. Scan base (byte ∷ text) s) (sym (halt false text t u)) (record {
          word = [];
          split = refl;
          whole = λ e. absurd (false≢true e);
          part = λ e d h. last h;
          again = λ b rest more e. let same : byte ≡ b = cc in ap (λ x. scanned base false (x ∷ more)) (sym same) ∙ halt false more t u ∙ ap (λ x. (false, [], x ∷ more)) same;
          stops = λ b rest e. let same : byte ≡ b = cc in ap (λ x. is_digit x base) (sym same) ∙ t;
        })

    after : (digit bar : Bool) → is_digit byte base ≡ digit → eqb byte 95 ≡ bar → Scan base text (scanned base false text) × ScanAfter base text (scanned base true text) → ScanAfter base (byte ∷ text) (scanned base true (byte ∷ text))
    after true bar t u ih = subst (λ s. ScanAfter base (byte ∷ text) s) (sym (step true text t)) (record {
      word = byte ∷ ih.1.word;
      split = ap (λ l. byte ∷ l) ih.1.split;
      whole = λ p h e. next h (ih.1.whole byte t e);
      part = λ p h e d k. next h (ih.1.part byte t e d k);
      again = λ b rest more e. step true (ih.1.word ++ b ∷ more) t ∙ ap (with_digits (byte ∷ [])) (ih.1.again b rest more e);
      stops = ih.1.stops;
    })
    after false true t u ih =
        let bar = eqb-true byte 95 u in
        let go : (l : List ℕ) → scanned base true (byte ∷ l) ≡ scanned base false l = λ l. ap (λ x. cond x (with_digits (byte ∷ []) (scanned base true l)) (cond (eqb byte 95 && true) (scanned base false l) (true, [], byte ∷ l))) t ∙ ap (λ x. cond (x && true) (scanned base false l) (true, [], byte ∷ l)) u in
        subst (λ s. ScanAfter base (byte ∷ text) s) (sym (go text)) (record {
          word = byte ∷ ih.0.word;
          split = ap (λ l. byte ∷ l) ih.0.split;
          whole = λ p h e. subst (λ x. Grouped base (p ∷ x ∷ ih.0.word) (p ∷ (scanned base false text).1)) (sym bar) (mark h (ih.0.whole e));
          part = λ p h e d k. subst (λ x. Grouped base (p ∷ x ∷ ih.0.word ++ d ∷ []) (p ∷ (scanned base false text).1 ++ d ∷ [])) (sym bar) (mark h (ih.0.part e d k));
          again = λ b rest more e. go (ih.0.word ++ b ∷ more) ∙ ih.0.again b rest more e;
          stops = ih.0.stops;
        })
    after false false t u ih =
        let v : (eqb byte 95 && true) ≡ false = ap (λ x. x && true) u in
        subst (λ s. ScanAfter base (byte ∷ text) s) (sym (halt true text t v)) (record {
          word = [];
          split = refl;
          whole = λ p h e. last h;
          part = λ p h e d k. absurd (true≢false e);
          again = λ b rest more e. let same : byte ≡ b = cc in ap (λ x. scanned base true (x ∷ more)) (sym same) ∙ halt true more t v ∙ ap (λ x. (true, [], x ∷ more)) same;
          stops = λ b rest e. let same : byte ≡ b = cc in ap (λ x. is_digit x base) (sym same) ∙ t;
        })

pub scan_start : (base : ℕ) (text : List ℕ) → Scan base text (scanned base false text)
scan_start base text = (scan_both base text).0

-- a numeral that ends there is scanned

scan_ends : (base : ℕ) (rest : List ℕ) → base ≤ 16 → ends_integer rest ≡ true → scanned base true rest ≡ (true, [], rest)
scan_ends base [] l h = refl
scan_ends base (byte ∷ rest) l h =
    let named : is_name_byte byte ≡ false = not-true (is_name_byte byte) h in
    let d : is_digit byte base ≡ false = false_from_ne_true (is_digit byte base) (λ t. true≢false (sym (digit_named byte base l t) ∙ named)) in
    let u : (eqb byte 95 && true) ≡ false = ap (λ x. x && true) (ne_eqb byte 95 (λ e. true≢false (sym (ap is_name_byte e) ∙ named))) in
    ap (λ x. cond x (with_digits (byte ∷ []) (scanned base true rest)) (cond (eqb byte 95 && true) (scanned base false rest) (true, [], byte ∷ rest))) d
    ∙ ap (λ x. cond x (scanned base false rest) (true, [], byte ∷ rest)) u

scan_digit : (base : ℕ) (after : Bool) (digit : ℕ) (text : List ℕ) → is_digit digit base ≡ true → scanned base after (digit ∷ text) ≡ with_digits (digit ∷ []) (scanned base true text)
scan_digit base after digit text d = ap (λ x. cond x (with_digits (digit ∷ []) (scanned base true text)) (cond (eqb digit 95 && after) (scanned base false text) (after, [], digit ∷ text))) d

pub scan_complete : {base : ℕ} {word digits : List ℕ} → base ≤ 16 → is_digit 95 base ≡ false → Grouped base word digits → (after : Bool) (rest : List ℕ) → ends_integer rest ≡ true → scanned base after (word ++ rest) ≡ (true, digits, rest)
scan_complete l m (last {base = base} {digit = digit} d) after rest h = scan_digit base after digit rest d ∙ ap (with_digits (digit ∷ [])) (scan_ends base rest l h)
scan_complete l m (next {base = base} {digit = digit} {text = text} d g) after rest h = scan_digit base after digit (text ++ rest) d ∙ ap (with_digits (digit ∷ [])) (scan_complete l m g true rest h)
scan_complete l m (mark {base = base} {digit = digit} {text = text} d g) after rest h =
    scan_digit base after digit (95 ∷ text ++ rest) d
    ∙ ap (with_digits (digit ∷ [])) (ap (λ x. cond x (with_digits (95 ∷ []) (scanned base true (text ++ rest))) (scanned base false (text ++ rest))) m ∙ scan_complete l m g false rest h)

no_mark : (second other : ℕ) (rest : List ℕ) → ends_integer (second ∷ rest) ≡ true → is_name_byte other ≡ true → eqb second other ≡ false
no_mark second other rest h o = ne_eqb second other (λ e. true≢false (sym (ap is_name_byte e ∙ o) ∙ not-true (is_name_byte second) h))

base_two : (first second : ℕ) {text digits : List ℕ} (rest : List ℕ) → Grouped 10 (first ∷ second ∷ text) digits → base_of (first ∷ second ∷ rest) ≡ (10, first ∷ second ∷ rest)
base_two first second rest g =
    let a = and_right (eqb first 48) (eqb second 120) (decimal_second 120 refl refl g) in
    let b = and_right (eqb first 48) (eqb second 111) (decimal_second 111 refl refl g) in
    let c = and_right (eqb first 48) (eqb second 98) (decimal_second 98 refl refl g) in
    rw (a, b, c) refl

pub base_ends : {word digits : List ℕ} → Grouped 10 word digits → (rest : List ℕ) → ends_integer rest ≡ true → base_of (word ++ rest) ≡ (10, word ++ rest)
base_ends (last {digit = digit} d) [] h = refl
base_ends (last {digit = digit} d) (second ∷ rest) h =
    let a = and_right (eqb digit 48) (eqb second 120) (no_mark second 120 rest h refl) in
    let b = and_right (eqb digit 48) (eqb second 111) (no_mark second 111 rest h refl) in
    let c = and_right (eqb digit 48) (eqb second 98) (no_mark second 98 rest h refl) in
    rw (a, b, c) refl
base_ends (next {digit = digit} d (last {digit = second} e)) rest h = base_two digit second rest (next d (last e))
base_ends (next {digit = digit} d (next {digit = second} {text = text} e g)) rest h = base_two digit second (text ++ rest) (next d (next e g))
base_ends (next {digit = digit} d (mark {digit = second} {text = text} e g)) rest h = base_two digit second (95 ∷ text ++ rest) (next d (mark e g))
base_ends (mark {digit = digit} {text = text} d g) rest h = base_two digit 95 (text ++ rest) (mark d g)

-- what is scanned of a numeral that ends there
pub record NumeralScan (word : List ℕ) (n : ℕ) (rest : List ℕ) : Type 0 where
  pub base : ℕ
  pub digits : List ℕ
  pub start : List ℕ
  pub says : base_of (word ++ rest) ≡ (base, start)
  pub scan : scanned base false start ≡ (true, digits, rest)
  pub value : digits_value base digits ≡ n

pub numeral_scan : {word : List ℕ} {n : ℕ} → Numeral word n → (rest : List ℕ) → ends_integer rest ≡ true → NumeralScan word n rest
numeral_scan (decimal {text = text} {digits = digits} g) rest h = record { base = 10; digits = digits; start = text ++ rest; says = base_ends g rest h; scan = scan_complete (omega arith) refl g false rest h; value = refl }
numeral_scan (hexadecimal {text = text} {digits = digits} g) rest h = record { base = 16; digits = digits; start = text ++ rest; says = refl; scan = scan_complete (omega arith) refl g false rest h; value = refl }
numeral_scan (octal {text = text} {digits = digits} g) rest h = record { base = 8; digits = digits; start = text ++ rest; says = refl; scan = scan_complete (omega arith) refl g false rest h; value = refl }
numeral_scan (binary {text = text} {digits = digits} g) rest h = record { base = 2; digits = digits; start = text ++ rest; says = refl; scan = scan_complete (omega arith) refl g false rest h; value = refl }

-- the digits that are written, perhaps after the sign
pub written_digits : (negative : Bool) (base : ℕ) (text old items digits rest : List ℕ) (after : Bool) → base ≤ 16 → (after, digits, rest) ≡ scanned base false text → after ≡ true → old ≡ minus negative → items ≡ old ++ digits → (are_signed_digits base items ≡ true) × (signed negative (digits_value base digits) ≡ signed_value base items)
written_digits negative base text old items digits rest after l s a o i =
    let scan = scan_start base text in
    let same : (scanned base false text).1 ≡ digits = ap (λ x. x.1) (sym s) in
    let g : Grouped base scan.word digits = subst (λ d. Grouped base scan.word d) same (scan.whole (ap (λ x. x.0) (sym s) ∙ a)) in
    let r = signed_digits negative base digits (omega (arith, l)) (grouped_digits g) in
    let all : items ≡ minus negative ++ digits = i ∙ ap (λ l. l ++ digits) o in
    (ap (are_signed_digits base) all ∙ r.0, r.1 ∙ ap (signed_value base) (sym all))

-- what is said where a numeral ends

pub lexed_at_end : (text numeral start : List ℕ) (negative : Bool) (base : ℕ) (after : Bool) (digits rest : List ℕ) → (base, start) ≡ base_of numeral → (after, digits, rest) ≡ scanned base false start → after ≡ true → ends_integer rest ≡ true → numeral_lexed text negative numeral ≡ integer_end text base (signed negative (digits_value base digits)) rest
lexed_at_end text numeral start negative base after digits rest b s a h =
    ap (λ p. integer_stop text p.0 negative (scanned p.0 false p.1)) (sym b)
    ∙ ap (integer_stop text base negative) (sym s)
    ∙ ap (λ x. cond (x && ends_integer rest) (integer_end text base (signed negative (digits_value base digits)) rest) (cut_off rest)) a
    ∙ ap (λ x. cond x (integer_end text base (signed negative (digits_value base digits)) rest) (cut_off rest)) h

pub end_big : (text rest : List ℕ) (base : ℕ) (n : ℤ) → is_narrow n ≡ false → integer_end text base n rest ≡ Err (text, NumberTooBig)
end_big text rest base n w = ap (λ x. cond (not x) (Err (text, NumberTooBig)) (cond (eqb base 10 && opens_fraction rest) (Err (rest, Unsupported Float)) (Ok (Int n, rest)))) w

pub end_float : (text rest : List ℕ) (base : ℕ) (n : ℤ) → is_narrow n ≡ true → (eqb base 10 && opens_fraction rest) ≡ true → integer_end text base n rest ≡ Err (rest, Unsupported Float)
end_float text rest base n w f = ap (λ x. cond (not x) (Err (text, NumberTooBig)) (cond (eqb base 10 && opens_fraction rest) (Err (rest, Unsupported Float)) (Ok (Int n, rest)))) w ∙ ap (λ x. cond x (Err (rest, Unsupported Float)) (Ok (Int n, rest))) f

pub end_ok : (text rest : List ℕ) (base : ℕ) (n : ℤ) → is_narrow n ≡ true → (eqb base 10 && opens_fraction rest) ≡ false → integer_end text base n rest ≡ Ok (Int n, rest)
end_ok text rest base n w f = ap (λ x. cond (not x) (Err (text, NumberTooBig)) (cond (eqb base 10 && opens_fraction rest) (Err (rest, Unsupported Float)) (Ok (Int n, rest)))) w ∙ ap (λ x. cond x (Err (rest, Unsupported Float)) (Ok (Int n, rest))) f

pub said_at_end : (text numeral start : List ℕ) (negative : Bool) (base : ℕ) (after : Bool) (digits rest old items written : List ℕ) → base ≤ 16 → (base, start) ≡ base_of numeral → (after, digits, rest) ≡ scanned base false start → after ≡ true → ends_integer rest ≡ true → old ≡ minus negative → items ≡ old ++ digits → written ≡ items → numeral_lexed text negative numeral ≡ integer_end text base (signed_value base written) rest
said_at_end text numeral start negative base after digits rest old items written l b s a h o i w =
    let r = written_digits negative base start old items digits rest after l s a o i in
    lexed_at_end text numeral start negative base after digits rest b s a h ∙ ap (λ n. integer_end text base n rest) (r.1 ∙ ap (signed_value base) (sym w))

-- as the reader of 128 bits gives it
pub kept_value : (n m : ℤ) → IsNarrow (Int m) × (n ≡ m) → m ≡ to_z w128 (of_z w128 n)
kept_value n m h = sym h.1 ∙ sym (to_z-of_z w128 n (fits_from_narrow n (subst (λ z. IsNarrow (Int z)) (sym h.1) h.0)))

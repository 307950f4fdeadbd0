-- The integer that a text begins with.
use Rattle.std.specs.Prelude.{option_map, nat_lt, nat_le, pos, neg_ℤ}
use Rattle.std.proofs.Common.{◌≡◌, ℕ, suc, ◌-◌, ◌<◌, ◌≤◌, Bool, true, false, ◌&&◌, List, [], ◌∷◌, ◌++◌, Some, None, length, take, drop, cond, eqb, refl, sym, ap, ◌∙◌, arith, subst}
use Rattle.std.proofs.lemmas.Bool.{not-true, not_from_false, and_parts, and_from, and_right, or_left, or_right, eqb-true, ne_eqb, true≢false, false≢true, ltb-false, ltb-true, le-leb}
use Rattle.std.proofs.lemmas.List.{take_at, drop_at, take-append-drop}
use Rattle.std.specs.Char.{is_digit, digit_value}
use Rattle.std.specs.List.{list_all}
use Rattle.std.specs.Str.Parse.{digits_value}
use Rattle.term_tokens.specs.declared.token.Token.{Token}
use Rattle.term_tokens.specs.declared.token.Token.TheVariants.{Int}
use Rattle.term_tokens.specs.Names.{is_name_byte}
use Rattle.term_tokens.specs.Numbers.{Grouped, last, next, mark, Numeral, decimal, hexadecimal, octal, binary}
use Rattle.term_tokens.specs.Tokens.{ends_integer}
use Rattle.term_tokens.specs.Lexing.{run_len, base_of, digits_from, numeral_of, signed, minus, are_digits, are_signed_digits, signed_value, integer_of}
use Rattle.term_tokens.proofs.NumberLemmas.{digit_not}
use Rattle.term_tokens.proofs.OptionLemmas.{none_some, some_same, cond_some, map_some}

-- digits with single `_` between some of them

pub grouped_complete : {base : ℕ} {text digits : List ℕ} → is_digit 95 base ≡ false → Grouped base text digits → (after : Bool) → digits_from base after text ≡ Some digits
grouped_complete m (last {base = base} {digit = digit} d) after = ap (λ t. cond t (Some (digit ∷ [])) (cond (eqb digit 95 && after) None None)) d
grouped_complete m (next {base = base} {digit = digit} {text = text} d g) after =
    ap (λ t. cond t (option_map (λ ds. digit ∷ ds) (digits_from base true text)) (cond (eqb digit 95 && after) (digits_from base false text) None)) d
    ∙ ap (option_map (λ ds. digit ∷ ds)) (grouped_complete m g true)
grouped_complete m (mark {base = base} {digit = digit} {text = text} d g) after =
    ap (λ t. cond t (option_map (λ ds. digit ∷ ds) (digits_from base true (95 ∷ text))) (cond (eqb digit 95 && after) (digits_from base false (95 ∷ text)) None)) d
    ∙ ap (λ t. option_map (λ ds. digit ∷ ds) (cond t (option_map (λ ds. 95 ∷ ds) (digits_from base true text)) (digits_from base false text))) m
    ∙ ap (option_map (λ ds. digit ∷ ds)) (grouped_complete m g false)

-- what is found at the beginning, and after a digit
abbrev IsFrom : ℕ → List ℕ → Type 0
IsFrom base text = ((digits : List ℕ) → digits_from base false text ≡ Some digits → Grouped base text digits) × ((digit : ℕ) (digits : List ℕ) → is_digit digit base ≡ true → digits_from base true text ≡ Some digits → Grouped base (digit ∷ text) (digit ∷ digits))

digits_sound : (base : ℕ) (text : List ℕ) → IsFrom base text
digits_sound base [] = ((λ digits e. absurd (none_some e)), λ digit digits d e. subst (λ ds. Grouped base (digit ∷ []) (digit ∷ ds)) (some_same e) (last d))
digits_sound base (byte ∷ text) = (start (is_digit byte base) refl (digits_sound base text), after (is_digit byte base) (eqb byte 95) refl refl (digits_sound base text))
  where
    start : (test : Bool) → is_digit byte base ≡ test → IsFrom base text → (digits : List ℕ) → cond test (option_map (λ ds. byte ∷ ds) (digits_from base true text)) (cond (eqb byte 95 && false) (digits_from base false text) None) ≡ Some digits → Grouped base (byte ∷ text) digits
    start true t ih digits e =
        let m = map_some (λ ds. byte ∷ ds) (digits_from base true text) digits e in
        subst (λ ds. Grouped base (byte ∷ text) ds) m.2 (ih.1 byte m.0 t m.1)
    start false t ih digits e = let a = cond_some (eqb byte 95 && false) (digits_from base false text) digits e in absurd (true≢false (sym (and_parts (eqb byte 95) false a.0).1))

    after : (test bar : Bool) → is_digit byte base ≡ test → eqb byte 95 ≡ bar → IsFrom base text → (digit : ℕ) (digits : List ℕ) → is_digit digit base ≡ true → cond test (option_map (λ ds. byte ∷ ds) (digits_from base true text)) (cond (bar && true) (digits_from base false text) None) ≡ Some digits → Grouped base (digit ∷ byte ∷ text) (digit ∷ digits)
    after true bar t b ih digit digits d e =
        let m = map_some (λ ds. byte ∷ ds) (digits_from base true text) digits e in
        next d (subst (λ ds. Grouped base (byte ∷ text) ds) m.2 (ih.1 byte m.0 t m.1))
    after false true t b ih digit digits d e = subst (λ c. Grouped base (digit ∷ c ∷ text) (digit ∷ digits)) (sym (eqb-true byte 95 b)) (mark d (ih.0 digits e))
    after false false t b ih digit digits d e = absurd (none_some e)

pub grouped_sound : (base : ℕ) (text digits : List ℕ) → digits_from base false text ≡ Some digits → Grouped base text digits
grouped_sound base text digits e = (digits_sound base text).0 digits e

all_more : (base digit : ℕ) (digits : List ℕ) → is_digit digit base ≡ true → are_digits base digits ≡ true → are_digits base (digit ∷ digits) ≡ true
all_more base digit [] d h = absurd (false≢true h)
all_more base digit (other ∷ digits) d h = and_from (is_digit digit base) (list_all (λ x. is_digit x base) (other ∷ digits)) d h

pub grouped_digits : {base : ℕ} {text digits : List ℕ} → Grouped base text digits → are_digits base digits ≡ true
grouped_digits (last {base = base} {digit = digit} d) = and_from (is_digit digit base) true d refl
grouped_digits (next {base = base} {digit = digit} {digits = digits} d g) = all_more base digit digits d (grouped_digits g)
grouped_digits (mark {base = base} {digit = digit} {digits = digits} d g) = all_more base digit digits d (grouped_digits g)

-- the code's buffer

pub signed_digits : (negative : Bool) (base : ℕ) (digits : List ℕ) → base ≤ 36 → are_digits base digits ≡ true → (are_signed_digits base (minus negative ++ digits) ≡ true) × (signed negative (digits_value base digits) ≡ signed_value base (minus negative ++ digits))
signed_digits true base digits b h = (h, refl)
signed_digits false base [] b h = absurd (false≢true h)
signed_digits false base (digit ∷ digits) b h =
    let m = digit_not digit base 45 b refl (and_parts (is_digit digit base) (list_all (λ d. is_digit d base) digits) h).0 in (
      ap (λ t. cond t (are_digits base digits) (are_digits base (digit ∷ digits))) m ∙ h,
      sym (ap (λ t. cond t (neg_ℤ (pos (digits_value base digits))) (pos (digits_value base (digit ∷ digits)))) m),
    )

-- numerals

-- the second byte of decimal digits marks no base
pub decimal_second : {first second : ℕ} {text digits : List ℕ} (other : ℕ) → is_digit other 10 ≡ false → eqb other 95 ≡ false → Grouped 10 (first ∷ second ∷ text) digits → eqb second other ≡ false
decimal_second {second = second} other o b (next d g) = ne_eqb second other (λ e. true≢false (sym (first_digit g) ∙ ap (λ c. is_digit c 10) e ∙ o))
  where
    first_digit : {first : ℕ} {text digits : List ℕ} → Grouped 10 (first ∷ text) digits → is_digit first 10 ≡ true
    first_digit (last d) = d
    first_digit (next d g) = d
    first_digit (mark d g) = d
decimal_second other o b (mark d g) = ne_eqb 95 other (λ e. true≢false (ap (λ c. eqb c 95) e ∙ b))

pub base_decimal : (text digits : List ℕ) → Grouped 10 text digits → base_of text ≡ (10, text)
base_decimal [] digits g = refl
base_decimal (first ∷ []) digits g = refl
base_decimal (first ∷ second ∷ text) digits g =
    let a = and_right (eqb first 48) (eqb second 120) (decimal_second 120 refl refl g) in
    let b = and_right (eqb first 48) (eqb second 111) (decimal_second 111 refl refl g) in
    let c = and_right (eqb first 48) (eqb second 98) (decimal_second 98 refl refl g) in
    rw (a, b, c) refl

numeral_complete : {word : List ℕ} {n : ℕ} → Numeral word n → numeral_of word ≡ Some n
numeral_complete (decimal {text = text} {digits = digits} g) =
    ap (λ p. option_map (digits_value p.0) (digits_from p.0 false p.1)) (base_decimal text digits g) ∙ ap (option_map (digits_value 10)) (grouped_complete refl g false)
numeral_complete (hexadecimal g) = ap (option_map (digits_value 16)) (grouped_complete refl g false)
numeral_complete (octal g) = ap (option_map (digits_value 8)) (grouped_complete refl g false)
numeral_complete (binary g) = ap (option_map (digits_value 2)) (grouped_complete refl g false)

decimal_sound : (word : List ℕ) (n : ℕ) → option_map (digits_value 10) (digits_from 10 false word) ≡ Some n → Numeral word n
decimal_sound word n e =
    let m = map_some (digits_value 10) (digits_from 10 false word) n e in
    subst (λ k. Numeral word k) m.2 (decimal (grouped_sound 10 word m.0 m.1))

based_sound : (first second : ℕ) (text : List ℕ) (n : ℕ) (a b c : Bool) → (eqb first 48 && eqb second 120) ≡ a → (eqb first 48 && eqb second 111) ≡ b → (eqb first 48 && eqb second 98) ≡ c → let p : ℕ × List ℕ = cond a (16, text) (cond b (8, text) (cond c (2, text) (10, first ∷ second ∷ text))) in option_map (digits_value p.0) (digits_from p.0 false p.1) ≡ Some n → Numeral (first ∷ second ∷ text) n
based_sound first second text n true b c x y z e =
    let parts = and_parts (eqb first 48) (eqb second 120) x in
    let m = map_some (digits_value 16) (digits_from 16 false text) n e in
    subst (λ s. Numeral (s ∷ second ∷ text) n) (sym (eqb-true first 48 parts.0)) (subst (λ s. Numeral (48 ∷ s ∷ text) n) (sym (eqb-true second 120 parts.1)) (subst (λ k. Numeral (48 ∷ 120 ∷ text) k) m.2 (hexadecimal (grouped_sound 16 text m.0 m.1))))
based_sound first second text n false true c x y z e =
    let parts = and_parts (eqb first 48) (eqb second 111) y in
    let m = map_some (digits_value 8) (digits_from 8 false text) n e in
    subst (λ s. Numeral (s ∷ second ∷ text) n) (sym (eqb-true first 48 parts.0)) (subst (λ s. Numeral (48 ∷ s ∷ text) n) (sym (eqb-true second 111 parts.1)) (subst (λ k. Numeral (48 ∷ 111 ∷ text) k) m.2 (octal (grouped_sound 8 text m.0 m.1))))
based_sound first second text n false false true x y z e =
    let parts = and_parts (eqb first 48) (eqb second 98) z in
    let m = map_some (digits_value 2) (digits_from 2 false text) n e in
    subst (λ s. Numeral (s ∷ second ∷ text) n) (sym (eqb-true first 48 parts.0)) (subst (λ s. Numeral (48 ∷ s ∷ text) n) (sym (eqb-true second 98 parts.1)) (subst (λ k. Numeral (48 ∷ 98 ∷ text) k) m.2 (binary (grouped_sound 2 text m.0 m.1))))
based_sound first second text n false false false x y z e = decimal_sound (first ∷ second ∷ text) n e

numeral_sound : (word : List ℕ) (n : ℕ) → numeral_of word ≡ Some n → Numeral word n
numeral_sound [] n e = decimal_sound [] n e
numeral_sound (first ∷ []) n e = decimal_sound (first ∷ []) n e
numeral_sound (first ∷ second ∷ text) n e = based_sound first second text n _ _ _ refl refl refl e

-- the bytes of numerals are bytes of names

named_by : (d base : ℕ) (a b c e f g : Bool) → base ≤ 16 → nat_lt d 48 ≡ a → nat_lt d 58 ≡ b → nat_lt d 65 ≡ c → nat_lt d 91 ≡ e → nat_lt d 97 ≡ f → nat_lt d 123 ≡ g → cond a 36 (cond b (d - 48) (cond c 36 (cond e (d - 55) (cond f 36 (cond g (d - 87) 36))))) < base → is_name_byte d ≡ true
named_by d base true b c e f g l p q r s t u h = absurd (omega (arith, l, h))
named_by d base false true c e f g l p q r s t u h = or_left _ _ (or_right _ _ (and_from (nat_le 48 d) (nat_le d 57) (le-leb 48 d (ltb-false d 48 p)) (le-leb d 57 (omega (arith, ltb-true d 58 q)))))
named_by d base false false true e f g l p q r s t u h = absurd (omega (arith, l, h))
named_by d base false false false true f g l p q r s t u h = or_left _ _ (or_left _ _ (or_left _ _ (or_left _ _ (and_from (nat_le 65 d) (nat_le d 90) (le-leb 65 d (ltb-false d 65 r)) (le-leb d 90 (omega (arith, ltb-true d 91 s)))))))
named_by d base false false false false true g l p q r s t u h = absurd (omega (arith, l, h))
named_by d base false false false false false true l p q r s t u h = or_left _ _ (or_left _ _ (or_left _ _ (or_right _ _ (and_from (nat_le 97 d) (nat_le d 122) (le-leb 97 d (ltb-false d 97 t)) (le-leb d 122 (omega (arith, ltb-true d 123 u)))))))
named_by d base false false false false false false l p q r s t u h = absurd (omega (arith, l, h))

pub digit_named : (d base : ℕ) → base ≤ 16 → is_digit d base ≡ true → is_name_byte d ≡ true
digit_named d base l h = named_by d base _ _ _ _ _ _ l refl refl refl refl refl refl (ltb-true (digit_value d) base h)

abbrev AreNamed : List ℕ → Type 0
AreNamed text = list_all is_name_byte text ≡ true

named_more : (byte : ℕ) (text : List ℕ) → is_name_byte byte ≡ true → AreNamed text → AreNamed (byte ∷ text)
named_more byte text b h = and_from (is_name_byte byte) (list_all is_name_byte text) b h

grouped_named : {base : ℕ} {text digits : List ℕ} → base ≤ 16 → Grouped base text digits → AreNamed text
grouped_named l (last {base = base} {digit = digit} d) = named_more digit [] (digit_named digit base l d) refl
grouped_named l (next {base = base} {digit = digit} {text = text} d g) = named_more digit text (digit_named digit base l d) (grouped_named l g)
grouped_named l (mark {base = base} {digit = digit} {text = text} d g) = named_more digit (95 ∷ text) (digit_named digit base l d) (named_more 95 text refl (grouped_named l g))

numeral_named : {word : List ℕ} {n : ℕ} → Numeral word n → AreNamed word
numeral_named (decimal g) = grouped_named (omega arith) g
numeral_named (hexadecimal {text = text} g) = named_more 48 (120 ∷ text) refl (named_more 120 text refl (grouped_named (omega arith) g))
numeral_named (octal {text = text} g) = named_more 48 (111 ∷ text) refl (named_more 111 text refl (grouped_named (omega arith) g))
numeral_named (binary {text = text} g) = named_more 48 (98 ∷ text) refl (named_more 98 text refl (grouped_named (omega arith) g))

run_stop : (rest : List ℕ) → ends_integer rest ≡ true → run_len rest ≡ 0
run_stop [] h = refl
run_stop (byte ∷ rest) h = ap (λ t. cond t (suc (run_len rest)) 0) (not-true (is_name_byte byte) h)

run_complete : (word rest : List ℕ) → AreNamed word → ends_integer rest ≡ true → run_len (word ++ rest) ≡ length word
run_complete [] rest h ends = run_stop rest ends
run_complete (byte ∷ word) rest h ends =
    let parts = and_parts (is_name_byte byte) (list_all is_name_byte word) h in
    ap (λ t. cond t (suc (run_len (word ++ rest))) 0) parts.0 ∙ ap suc (run_complete word rest parts.1 ends)

run_ends : (text : List ℕ) → ends_integer (drop (run_len text) text) ≡ true
run_ends [] = refl
run_ends (byte ∷ text) = by (is_name_byte byte) refl (run_ends text)
  where
    by : (test : Bool) → is_name_byte byte ≡ test → ends_integer (drop (run_len text) text) ≡ true → ends_integer (drop (cond test (suc (run_len text)) 0) (byte ∷ text)) ≡ true
    by true t ih = ih
    by false t ih = not_from_false (is_name_byte byte) t

-- a numeral that ends there is read
pub integer_complete : (negative : Bool) {word : List ℕ} {n : ℕ} (rest : List ℕ) → Numeral word n → ends_integer rest ≡ true → integer_of negative (word ++ rest) ≡ Some (Int (signed negative n), rest)
integer_complete negative {word = word} {n = n} rest h ends =
    let text = word ++ rest in
    ap (λ k. option_map (λ m. (Int (signed negative m), drop k text)) (numeral_of (take k text))) (run_complete word rest (numeral_named h) ends)
    ∙ ap (λ x. option_map (λ m. (Int (signed negative m), drop (length word) text)) (numeral_of x)) (take_at word rest (length word) refl)
    ∙ ap (λ x. option_map (λ m. (Int (signed negative m), x)) (numeral_of word)) (drop_at word rest (length word) refl)
    ∙ ap (option_map (λ m. (Int (signed negative m), rest))) (numeral_complete h)

pub record IntegerCut (negative : Bool) (text : List ℕ) (found : Token × List ℕ) : Type 0 where
  pub word : List ℕ
  pub n : ℕ
  pub numeral : Numeral word n
  pub token : (Int (signed negative n), found.1) ≡ found
  pub ends : ends_integer found.1 ≡ true
  pub split : text ≡ word ++ found.1

-- what is read is a numeral that ends there
pub integer_sound : (negative : Bool) (text : List ℕ) (found : Token × List ℕ) → integer_of negative text ≡ Some found → IntegerCut negative text found
integer_sound negative text found e =
    let rest = drop (run_len text) text in
    let m = map_some (λ k. (Int (signed negative k), rest)) (numeral_of (take (run_len text) text)) found e in
    let same : rest ≡ found.1 = ap (λ f. f.1) m.2 in
    record {
      word = take (run_len text) text;
      n = m.0;
      numeral = numeral_sound (take (run_len text) text) m.0 m.1;
      token = ap (λ r. (Int (signed negative m.0), r)) (sym same) ∙ m.2;
      ends = subst (λ r. ends_integer r ≡ true) same (run_ends text);
      split = sym (take-append-drop (run_len text) text) ∙ ap (λ r. take (run_len text) text ++ r) same;
    }

-- a numeral's first byte is a digit
pub numeral_first : {word : List ℕ} {n : ℕ} → Numeral word n → (first : ℕ) × (more : List ℕ) × (word ≡ first ∷ more) × (is_digit first 10 ≡ true)
numeral_first (decimal (last {digit = digit} d)) = (digit, [], refl, d)
numeral_first (decimal (next {digit = digit} {text = text} d g)) = (digit, text, refl, d)
numeral_first (decimal (mark {digit = digit} {text = text} d g)) = (digit, 95 ∷ text, refl, d)
numeral_first (hexadecimal {text = text} g) = (48, 120 ∷ text, refl, refl)
numeral_first (octal {text = text} g) = (48, 111 ∷ text, refl, refl)
numeral_first (binary {text = text} g) = (48, 98 ∷ text, refl, refl)

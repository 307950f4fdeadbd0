-- Words: their parts around a dot, and what they are in an expression.
use Rattle.std.proofs.Common.{◌≡◌, ℕ, zero, suc, ◌+◌, ◌*◌, ◌-◌, ◌<◌, ◌≤◌, ◌&&◌, ◌==◌, not, nat_le, Bool, true, false, List, [], ◌∷◌, ◌++◌, Option, Some, None, length, cond, eqb, refl, sym, ap, ◌∙◌, arith, subst, slice_index, unwrap_or, pos, ℤ}
use Rattle.std.specs.Char.{is_ascii_digit, digit_value}
use Rattle.std.specs.List.{list_all}
use Rattle.std.specs.Str.Parse.{digits_value, digits_value_after}
use Rattle.std.proofs.lemmas.Bool.{and_parts, and_left, and_right, and_from, eqb-true, false≢true, leb-true, leb-false, le-leb, not-true}
use Rattle.std.proofs.lemmas.Bool.Decides.{nat_tests}
use Rattle.mx_base.specs.AppName.{IsAppName, is_app_name, fits_at}
use Rattle.unit_lang.specs.declared.unit.Expression.{Expression}
use Rattle.unit_lang.specs.declared.unit.Expression.TheVariants.{Number, Name, Reference}
use Rattle.unit_lang.specs.Lines.{greatest}
use Rattle.unit_lang.specs.Lexing.{dotted, with_first, number_after, number_of, operand, reference_of}
use Rattle.unit_lang.specs.Names.{is_name, is_name_byte, is_small_letter, are_digits}

-- bytes before the first part of a word
abbrev pub put_before : List ℕ → Option (List ℕ × List ℕ) → Option (List ℕ × List ℕ)
put_before bytes None = None
put_before bytes (Some parts) = Some (bytes ++ parts.0, parts.1)

abbrev no_dot : ℕ → Bool
no_dot byte = not (byte == 46)

abbrev are_no_dots : List ℕ → Bool
are_no_dots bytes = list_all no_dot bytes

dotted_split : (first second : List ℕ) → are_no_dots first ≡ true → dotted (first ++ 46 ∷ second) ≡ Some (first, second)
dotted_split [] second h = refl
dotted_split (byte ∷ first) second h =
    let parts = and_parts (no_dot byte) (are_no_dots first) h in
    ap (λ b. cond b (Some ([], first ++ 46 ∷ second)) (with_first byte (dotted (first ++ 46 ∷ second)))) (not-true (byte == 46) parts.0)
    ∙ ap (with_first byte) (dotted_split first second parts.1)

abbrev Joins : List ℕ → Option (List ℕ × List ℕ) → Type 0
Joins word None = Unit {0}
Joins word (Some parts) = word ≡ parts.0 ++ 46 ∷ parts.1

joins_with : (byte : ℕ) (word : List ℕ) (o : Option (List ℕ × List ℕ)) → Joins word o → Joins (byte ∷ word) (with_first byte o)
joins_with byte word None h = tt
joins_with byte word (Some parts) h = ap (λ l. byte ∷ l) h

joins_at : (byte : ℕ) (word : List ℕ) (dot : Bool) → eqb byte 46 ≡ dot → Joins word (dotted word) → Joins (byte ∷ word) (cond dot (Some ([], word)) (with_first byte (dotted word)))
joins_at byte word true d h = ap (λ b. b ∷ word) (eqb-true byte 46 d)
joins_at byte word false d h = joins_with byte word (dotted word) h

dotted_joins : (word : List ℕ) → Joins word (dotted word)
dotted_joins [] = tt
dotted_joins (byte ∷ word) = joins_at byte word (eqb byte 46) refl (dotted_joins word)

-- the parts around the first dot make the word
pub dotted_back : (word : List ℕ) (parts : List ℕ × List ℕ) → dotted word ≡ Some parts → word ≡ parts.0 ++ 46 ∷ parts.1
dotted_back word parts e = subst (λ o. Joins word o) e (dotted_joins word)

name_byte_no_dot : (byte : ℕ) → is_name_byte byte ≡ true → no_dot byte ≡ true
name_byte_no_dot byte h = grind (arith, nat_tests)

small_no_dot : (byte : ℕ) → is_small_letter byte ≡ true → no_dot byte ≡ true
small_no_dot byte h = grind (arith, nat_tests)

small_no_digit : (byte : ℕ) → is_small_letter byte ≡ true → is_ascii_digit byte ≡ false
small_no_digit byte h = grind (arith, nat_tests)

name_bytes_no_dots : (bytes : List ℕ) → list_all is_name_byte bytes ≡ true → are_no_dots bytes ≡ true
name_bytes_no_dots [] h = refl
name_bytes_no_dots (byte ∷ bytes) h =
    let parts = and_parts (is_name_byte byte) (list_all is_name_byte bytes) h in
    and_from (no_dot byte) (are_no_dots bytes) (name_byte_no_dot byte parts.0) (name_bytes_no_dots bytes parts.1)

-- the parts of a name's test
name_parts : (byte : ℕ) (bytes : List ℕ) → is_name (byte ∷ bytes) ≡ true → (is_small_letter byte ≡ true) × (list_all is_name_byte bytes ≡ true)
name_parts byte bytes h =
    let outer = and_parts (is_small_letter byte && list_all is_name_byte bytes) (nat_le (length (byte ∷ bytes)) 64) h in
    and_parts (is_small_letter byte) (list_all is_name_byte bytes) outer.0

name_no_dots : (bytes : List ℕ) → is_name bytes ≡ true → are_no_dots bytes ≡ true
name_no_dots [] h = refl
name_no_dots (byte ∷ bytes) h =
    let parts = name_parts byte bytes h in
    and_from (no_dot byte) (are_no_dots bytes) (small_no_dot byte parts.0) (name_bytes_no_dots bytes parts.1)

name_then_no_digits : (bytes rest : List ℕ) → is_name bytes ≡ true → are_digits (bytes ++ rest) ≡ false
name_then_no_digits [] rest h = absurd (false≢true h)
name_then_no_digits (byte ∷ bytes) rest h = and_left (is_ascii_digit byte) (list_all is_ascii_digit (bytes ++ rest)) (small_no_digit byte (name_parts byte bytes h).0)

pub name_no_digits : (bytes : List ℕ) → is_name bytes ≡ true → are_digits bytes ≡ false
name_no_digits [] h = absurd (false≢true h)
name_no_digits (byte ∷ bytes) h = and_left (is_ascii_digit byte) (list_all is_ascii_digit bytes) (small_no_digit byte (name_parts byte bytes h).0)

dot_no_name_bytes : (bytes rest : List ℕ) → list_all is_name_byte (bytes ++ 46 ∷ rest) ≡ false
dot_no_name_bytes [] rest = refl
dot_no_name_bytes (byte ∷ bytes) rest = and_right (is_name_byte byte) (list_all is_name_byte (bytes ++ 46 ∷ rest)) (dot_no_name_bytes bytes rest)

dot_no_name : (bytes rest : List ℕ) → is_name bytes ≡ true → is_name (bytes ++ 46 ∷ rest) ≡ false
dot_no_name [] rest h = absurd (false≢true h)
dot_no_name (byte ∷ bytes) rest h =
    and_left (is_small_letter byte && list_all is_name_byte (bytes ++ 46 ∷ rest)) (nat_le (length (byte ∷ bytes ++ 46 ∷ rest)) 64)
    (and_right (is_small_letter byte) (list_all is_name_byte (bytes ++ 46 ∷ rest)) (dot_no_name_bytes bytes rest))

-- what words are in an expression
pub operand_number : (digits : List ℕ) → are_digits digits ≡ true → operand digits ≡ Some (Number (pos (unwrap_or (number_of digits) 0)))
operand_number digits h = ap (λ b. cond b (Some (Number (pos (unwrap_or (number_of digits) 0)))) (cond (is_name digits) (Some (Name digits)) (reference_of (dotted digits)))) h

pub operand_name : (bytes : List ℕ) → is_name bytes ≡ true → operand bytes ≡ Some (Name bytes)
operand_name bytes h =
    ap (λ b. cond b (Some (Number (pos (unwrap_or (number_of bytes) 0)))) (cond (is_name bytes) (Some (Name bytes)) (reference_of (dotted bytes)))) (name_no_digits bytes h)
    ∙ ap (λ b. cond b (Some (Name bytes)) (reference_of (dotted bytes))) h

reference_is : (unit bytes : List ℕ) → is_name unit ≡ true → is_name bytes ≡ true → reference_of (Some (unit, bytes)) ≡ Some (Reference unit bytes)
reference_is unit bytes u b = ap (λ t. cond t (Some (Reference unit bytes)) None) (and_from (is_name unit) (is_name bytes) u b)

pub operand_reference : (unit bytes : List ℕ) → is_name unit ≡ true → is_name bytes ≡ true → operand (unit ++ 46 ∷ bytes) ≡ Some (Reference unit bytes)
operand_reference unit bytes u b =
    let word = unit ++ 46 ∷ bytes in
    ap (λ t. cond t (Some (Number (pos (unwrap_or (number_of word) 0)))) (cond (is_name word) (Some (Name word)) (reference_of (dotted word)))) (name_then_no_digits unit (46 ∷ bytes) u)
    ∙ ap (λ t. cond t (Some (Name word)) (reference_of (dotted word))) (dot_no_name unit bytes u)
    ∙ ap reference_of (dotted_split unit bytes (name_no_dots unit u))
    ∙ reference_is unit bytes u b

-- the three kinds of a word in an expression
pub data Operand : List ℕ → Expression → Type 0 where
  number : {digits : List ℕ} → are_digits digits ≡ true → Operand digits (Number (pos (unwrap_or (number_of digits) 0)))
  name : {bytes : List ℕ} → is_name bytes ≡ true → Operand bytes (Name bytes)
  reference : {unit bytes : List ℕ} → is_name unit ≡ true → is_name bytes ≡ true → Operand (unit ++ 46 ∷ bytes) (Reference unit bytes)

abbrev IsOperand : List ℕ → Option Expression → Type 0
IsOperand word None = Unit {0}
IsOperand word (Some f) = Operand word f

reference_cut : (word : List ℕ) (parts : List ℕ × List ℕ) (t : Bool) → (is_name parts.0 && is_name parts.1) ≡ t → word ≡ parts.0 ++ 46 ∷ parts.1 → IsOperand word (cond t (Some (Reference parts.0 parts.1)) None)
reference_cut word parts false t e = tt
reference_cut word parts true t e =
    let names = and_parts (is_name parts.0) (is_name parts.1) t in
    subst (λ w. Operand w (Reference parts.0 parts.1)) (sym e) (reference names.0 names.1)

reference_at : (word : List ℕ) (o : Option (List ℕ × List ℕ)) → dotted word ≡ o → IsOperand word (reference_of o)
reference_at word None e = tt
reference_at word (Some parts) e = reference_cut word parts (is_name parts.0 && is_name parts.1) refl (dotted_back word parts e)

operand_at : (word : List ℕ) (digits named : Bool) → are_digits word ≡ digits → is_name word ≡ named → IsOperand word (cond digits (Some (Number (pos (unwrap_or (number_of word) 0)))) (cond named (Some (Name word)) (reference_of (dotted word))))
operand_at word true named d n = number d
operand_at word false true d n = name n
operand_at word false false d n = reference_at word (dotted word) refl

pub operand_back : (word : List ℕ) (f : Expression) → operand word ≡ Some f → Operand word f
operand_back word f e = subst (λ o. IsOperand word o) e (operand_at word (are_digits word) (is_name word) refl refl)

-- numbers

digit_is : (digit : ℕ) → is_ascii_digit digit ≡ true → digit_value digit ≡ digit - 48
digit_is digit h = let low : 48 ≤ digit = grind (arith, nat_tests) in let high : digit ≤ 57 = grind (arith, nat_tests) in grind (arith, nat_tests)

grows : (value : ℕ) (digits : List ℕ) → value ≤ digits_value_after 10 value digits
grows value [] = omega arith
grows value (digit ∷ digits) = omega (arith, grows (value * 10 + digit_value digit) digits)

-- the number that digits go on, or none where it is too great
abbrev pub NumberIs : ℕ → Option ℕ → Type 0
NumberIs total None = greatest < total
NumberIs total (Some value) = (value ≡ total) × (value ≤ greatest)

number_at : (value digit : ℕ) (digits : List ℕ) (small : Bool) → nat_le (value * 10 + (digit - 48)) greatest ≡ small → is_ascii_digit digit ≡ true → (small ≡ true → NumberIs (digits_value_after 10 (value * 10 + (digit - 48)) digits) (number_after (value * 10 + (digit - 48)) digits)) → NumberIs (digits_value_after 10 value (digit ∷ digits)) (cond small (number_after (value * 10 + (digit - 48)) digits) None)
number_at value digit digits true s d ih = rw (digit_is digit d) (ih refl)
number_at value digit digits false s d ih =
    rw (digit_is digit d)
    (let big : greatest < value * 10 + (digit - 48) = leb-false (value * 10 + (digit - 48)) greatest s in
    omega (arith, grows (value * 10 + (digit - 48)) digits))

number_is : (value : ℕ) (digits : List ℕ) → value ≤ greatest → list_all is_ascii_digit digits ≡ true → NumberIs (digits_value_after 10 value digits) (number_after value digits)
number_is value [] small h = (refl, small)
number_is value (digit ∷ digits) small h =
    let parts = and_parts (is_ascii_digit digit) (list_all is_ascii_digit digits) h in
    let next = value * 10 + (digit - 48) in
    rw parts.0 (number_at value digit digits (nat_le next greatest) refl parts.0 (λ s. number_is next digits (leb-true next greatest s) parts.1))

pub number_of_is : (digits : List ℕ) → are_digits digits ≡ true → NumberIs (digits_value 10 digits) (number_of digits)
number_of_is [] h = absurd (false≢true h)
number_of_is (digit ∷ digits) h = number_is 0 (digit ∷ digits) (omega arith) h

kept_is : (total : ℕ) (o : Option ℕ) → NumberIs total o → total ≤ greatest → unwrap_or o 0 ≡ total
kept_is total None h small = absurd (omega arith)
kept_is total (Some value) h small = h.0

-- a number that isn't too great is kept
pub number_kept : (digits : List ℕ) → are_digits digits ≡ true → digits_value 10 digits ≤ greatest → unwrap_or (number_of digits) 0 ≡ digits_value 10 digits
number_kept digits d small = kept_is (digits_value 10 digits) (number_of digits) (number_of_is digits d) small

-- application names

fits_no_dot : (k byte : ℕ) → fits_at k byte ≡ true → no_dot byte ≡ true
fits_no_dot k byte h = grind (arith, nat_tests)

fits_no_dots : (bytes : List ℕ) → list_all (fits_at 1) bytes ≡ true → are_no_dots bytes ≡ true
fits_no_dots [] h = refl
fits_no_dots (byte ∷ bytes) h =
    let parts = and_parts (fits_at 1 byte) (list_all (fits_at 1) bytes) h in
    and_from (no_dot byte) (are_no_dots bytes) (fits_no_dot 1 byte parts.0) (fits_no_dots bytes parts.1)

later_place : (k byte : ℕ) → fits_at (suc k) byte ≡ fits_at 1 byte
later_place k byte = grind (arith, nat_tests)

later_all : (bytes : List ℕ) → ((k : ℕ) → k < length bytes → fits_at 1 (slice_index bytes k) ≡ true) → list_all (fits_at 1) bytes ≡ true
later_all [] h = refl
later_all (byte ∷ bytes) h = and_from (fits_at 1 byte) (list_all (fits_at 1) bytes) (h 0 (omega arith)) (later_all bytes (λ k within. h (suc k) (omega arith)))

-- the test of an application's name, both ways
pub app_test : (app : List ℕ) → IsAppName app → is_app_name app ≡ true
app_test [] h = absurd (omega (arith, h.not_empty))
app_test (byte ∷ bytes) h =
    and_from (fits_at 0 byte && list_all (fits_at 1) bytes) (nat_le (length (byte ∷ bytes)) 255)
    (and_from (fits_at 0 byte) (list_all (fits_at 1) bytes) (h.bytes 0 h.not_empty) (later_all bytes (λ k within. sym (later_place k (slice_index bytes k)) ∙ h.bytes (suc k) (omega arith))))
    (le-leb (length (byte ∷ bytes)) 255 h.not_long)

later_at : (bytes : List ℕ) (k : ℕ) → k < length bytes → list_all (fits_at 1) bytes ≡ true → fits_at 1 (slice_index bytes k) ≡ true
later_at [] k within h = absurd (omega arith)
later_at (byte ∷ bytes) zero within h = (and_parts (fits_at 1 byte) (list_all (fits_at 1) bytes) h).0
later_at (byte ∷ bytes) (suc k) within h = later_at bytes k (omega arith) (and_parts (fits_at 1 byte) (list_all (fits_at 1) bytes) h).1

fits_in : (byte : ℕ) (bytes : List ℕ) → fits_at 0 byte ≡ true → list_all (fits_at 1) bytes ≡ true → (k : ℕ) → k < length (byte ∷ bytes) → fits_at k (slice_index (byte ∷ bytes) k) ≡ true
fits_in byte bytes first later zero within = first
fits_in byte bytes first later (suc k) within = later_place k (slice_index bytes k) ∙ later_at bytes k (omega arith) later

pub app_from_test : (app : List ℕ) → is_app_name app ≡ true → IsAppName app
app_from_test [] h = absurd (false≢true h)
app_from_test (byte ∷ bytes) h =
    let outer = and_parts (fits_at 0 byte && list_all (fits_at 1) bytes) (nat_le (length (byte ∷ bytes)) 255) h in
    let both = and_parts (fits_at 0 byte) (list_all (fits_at 1) bytes) outer.0 in
    record { not_empty = omega arith; not_long = leb-true (length (byte ∷ bytes)) 255 outer.1; bytes = fits_in byte bytes both.0 both.1 }

app_no_dots : (app : List ℕ) → is_app_name app ≡ true → are_no_dots app ≡ true
app_no_dots [] h = refl
app_no_dots (byte ∷ bytes) h =
    let outer = and_parts (fits_at 0 byte && list_all (fits_at 1) bytes) (nat_le (length (byte ∷ bytes)) 255) h in
    let both = and_parts (fits_at 0 byte) (list_all (fits_at 1) bytes) outer.0 in
    and_from (no_dot byte) (are_no_dots bytes) (fits_no_dot 0 byte both.0) (fits_no_dots bytes both.1)

-- an application's name and a unit's, with a dot between them
pub app_dotted : (app unit : List ℕ) → IsAppName app → dotted (app ++ 46 ∷ unit) ≡ Some (app, unit)
app_dotted app unit h = dotted_split app unit (app_no_dots app (app_test app h))

-- the operand by its tests
pub operand_digits : (bytes : List ℕ) (kept : ℤ) → are_digits bytes ≡ true → kept ≡ pos (unwrap_or (number_of bytes) 0) → operand bytes ≡ Some (Number kept)
operand_digits bytes kept d e = operand_number bytes d ∙ ap (λ n. Some (Number n)) (sym e)

pub operand_else : (bytes : List ℕ) → are_digits bytes ≡ false → is_name bytes ≡ false → operand bytes ≡ reference_of (dotted bytes)
operand_else bytes d n =
    ap (λ b. cond b (Some (Number (pos (unwrap_or (number_of bytes) 0)))) (cond (is_name bytes) (Some (Name bytes)) (reference_of (dotted bytes)))) d
    ∙ ap (λ b. cond b (Some (Name bytes)) (reference_of (dotted bytes))) n

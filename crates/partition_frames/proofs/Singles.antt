-- Fields of one value: numbers, texts, single bytes.
use Rattle.std.proofs.Common.{◌≡◌, ℕ, ◌<◌, List, [], ◌∷◌, ◌++◌, length, refl, sym, ap, ◌∙◌, arith, subst, append_assoc, append-nil, length-append}
use Rattle.std.proofs.lemmas.Nat.{from_be_bytes-to_be_bytes_4}
use Rattle.std.specs.Prelude.{IsFalse, IsTrue, slice_index}
use Rattle.std.specs.Int.{w32, from_be_bytes}
use Rattle.reading.specs.Field.{TellsItsEnd}
use Rattle.reading.proofs.Fields.{same_rest, tells_narrower}
use Rattle.reading.proofs.Numbers.{same_front}
use Rattle.mx_base.specs.AppName.{IsAppName, fits_at, is_app_name}
use Rattle.mx_base.proofs.NameLemmas.{is_name_of_fits}
use Rattle.partition_frames.specs.Field.{Lacks, together}
use Rattle.partition_frames.specs.Frame.{IsFolder, IsNumber, IsText, number, number_field, text_field}
use Rattle.partition_frames.specs.Pieces.{IsHowByte, LacksBefore, byte_field}
use Rattle.partition_frames.proofs.Lacking.{Tells, nothing_stands, one_tells}

-- ---- numbers

pub number_long : (n : ℕ) → length (number n) ≡ 4
number_long n = refl

pub one_number : (a b : ℕ) → IsNumber a → IsNumber b → number a ≡ number b → a ≡ b
one_number a b fa fb e = sym (from_be_bytes-to_be_bytes_4 a fa) ∙ ap (from_be_bytes w32) e ∙ from_be_bytes-to_be_bytes_4 b fb

pub number_tells : TellsItsEnd number IsNumber
number_tells a b x y fa fb e = one_number a b fa fb (same_front (number a) (number b) x y refl e)

pub number_field_tells : Tells number_field IsNumber
number_field_tells = one_tells number IsNumber number_tells

-- ---- texts

abbrev pub text_bytes : List ℕ → List ℕ
text_bytes text = number (length text) ++ text

pub text_tells : TellsItsEnd text_bytes IsText
text_tells a b x y fa fb e =
    let cut = sym (append_assoc (number (length a)) a x) ∙ e ∙ append_assoc (number (length b)) b y in
    let both = same_rest number IsNumber number_tells (length a) (length b) (a ++ x) (b ++ y) fa fb cut in
    same_front a b x y both.0 both.1

pub text_field_tells : Tells text_field IsText
text_field_tells = one_tells text_bytes IsText text_tells

pub names_are_texts : (name : List ℕ) → IsAppName name → IsText name
names_are_texts name is = omega (arith, is.not_long)

pub name_field_tells : Tells text_field IsAppName
name_field_tells = one_tells text_bytes IsAppName (tells_narrower text_bytes IsText IsAppName names_are_texts text_tells)

pub folder_field_tells : Tells text_field IsFolder
folder_field_tells = one_tells text_bytes IsFolder (tells_narrower text_bytes IsText IsFolder (λ dir is. is.text) text_tells)

-- ---- a byte

pub byte_field_tells : Tells byte_field IsHowByte
byte_field_tells a b x y fa fb e = cc e

-- ---- where one is lacking

-- .. it is lacking before all that is left
pub all_left : {A : Type 0} (fields : A → List (List ℕ)) (Fits : A → Type 0) (text : List ℕ) → Lacks fields Fits text 0
    → LacksBefore fields Fits text (length text)
all_left fields Fits text l = record { at = 0; sum = omega arith; lacks = l }

too_short : (n : ℕ) (text others : List ℕ) → length text < 4 → text ≡ number n ++ others → ⊥
too_short n text others short e = omega (arith, short, ap length e, length-append (number n) others, number_long n)

pub number_lacks : (text : List ℕ) → length text < 4 → LacksBefore number_field IsNumber text (length text)
number_lacks text short =
    all_left number_field IsNumber text (nothing_stands number IsNumber text 0 (omega arith) (λ n others _ e. too_short n text others short e))

pub no_number_lacks : (text : List ℕ) → length text < 4 → LacksBefore text_field IsText text (length text)
no_number_lacks text short =
    all_left text_field IsText text (nothing_stands text_bytes IsText text [] (omega arith)
    (λ t others _ e. too_short (length t) text (t ++ others) short (e ∙ append_assoc (number (length t)) t others)))

-- where no number stands, no text does
pub no_number : (text : List ℕ) (left : ℕ) → LacksBefore number_field IsNumber text left → LacksBefore text_field IsText text (length text)
no_number text left l =
    all_left text_field IsText text (nothing_stands text_bytes IsText text [] (omega arith)
    (λ t others fits e. l.lacks.nothing (length t) (t ++ others) fits
    (e ∙ append_assoc (number (length t)) t others ∙ ap (λ x. x ++ (t ++ others)) (sym (append-nil (number (length t)))))))

-- fewer bytes are left than a text has
pub text_lacks : (text rest : List ℕ) (count : ℕ) → IsNumber count → text ≡ together (number_field count) ++ rest → length rest < count
    → LacksBefore text_field IsText text (length text)
text_lacks text rest count is cut short =
    all_left text_field IsText text (nothing_stands text_bytes IsText text [] (omega arith)
    (λ t others fits e.
    let both = same_rest number IsNumber number_tells count (length t) rest (t ++ others) is fits
    (ap (λ x. x ++ rest) (sym (append-nil (number count))) ∙ sym cut ∙ e ∙ append_assoc (number (length t)) t others) in
    omega (arith, both.0, ap length both.1, length-append t others, short)))

pub text_read : (text rest bytes after : List ℕ) (count : ℕ) → text ≡ number count ++ rest → count ≡ length bytes → rest ≡ bytes ++ after
    → text ≡ together (text_field bytes) ++ after
text_read text rest bytes after count cut long more =
    cut ∙ ap (λ n. number n ++ rest) long ∙ ap (λ t. number (length bytes) ++ t) more ∙ sym (append_assoc (number (length bytes)) bytes after)
    ∙ ap (λ t. t ++ after) (sym (append-nil (text_bytes bytes)))

-- a text stands there, and isn't what it has to be
pub other_text : (Fits : List ℕ → Type 0) → ((t : List ℕ) → Fits t → IsText t) → (some : List ℕ) → Fits some
    → (text bytes after : List ℕ) → IsText bytes → text ≡ together (text_field bytes) ++ after → (Fits bytes → ⊥)
    → LacksBefore text_field Fits text (length text)
other_text Fits wider some some_fits text bytes after is cut none =
    all_left text_field Fits text (nothing_stands text_bytes Fits text some some_fits
    (λ t others fits e.
    let same : bytes ≡ t = text_tells bytes t after others is (wider t fits)
    (ap (λ x. x ++ after) (sym (append-nil (text_bytes bytes))) ∙ sym cut ∙ e) in
    none (subst Fits (sym same) fits)))

-- where no text stands, none of a narrower kind does
pub no_text : (Fits : List ℕ → Type 0) → ((t : List ℕ) → Fits t → IsText t) → (some : List ℕ) → Fits some → (text : List ℕ) (left : ℕ)
    → LacksBefore text_field IsText text left → LacksBefore text_field Fits text (length text)
no_text Fits wider some some_fits text left l =
    all_left text_field Fits text (nothing_stands text_bytes Fits text some some_fits
    (λ t others fits e. l.lacks.nothing t others (wider t fits) (e ∙ ap (λ x. x ++ others) (sym (append-nil (text_bytes t))))))

pub byte_lacks : (text : List ℕ) → ((byte : ℕ) (others : List ℕ) → IsHowByte byte → text ≡ byte ∷ others → ⊥)
    → LacksBefore byte_field IsHowByte text (length text)
byte_lacks text none =
    all_left byte_field IsHowByte text (nothing_stands (λ b. b ∷ []) IsHowByte text 0 (omega arith) none)

-- ---- some of each

pub some_name : IsAppName (97 ∷ [])
some_name = record { not_empty = omega arith; not_long = omega arith; bytes = at }
  where
    at : (k : ℕ) → k < 1 → IsTrue (fits_at k (slice_index (97 ∷ []) k))
    at k below =
        let first : k ≡ 0 = omega arith in
        subst (λ i. IsTrue (fits_at i (slice_index (97 ∷ []) i))) (sym first) refl

-- ---- no name

pub no_app_name : (text : List ℕ) → IsFalse (is_app_name text) → IsAppName text → ⊥
no_app_name text no_name is =
    let named = is_name_of_fits text (λ e. absurd (omega (arith, ap length e, is.not_empty))) is.not_long is.bytes in
    absurd (cc (named, no_name))

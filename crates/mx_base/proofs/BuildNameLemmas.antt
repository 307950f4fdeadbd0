-- Build names.
use Rattle.std.proofs.Common.{◌≡◌, ℕ, zero, suc, ◌<◌, ◌≤◌, ◌↔◌, Bool, true, false, not, ◌&&◌, List, [], ◌∷◌, ◌++◌, length, slice_index, append_assoc, cond, refl, sym, ◌∙◌, ap, subst, arith, bytes_eq, nat_le, nat_lt, Result, Ok, Err, IsTrue}
use Rattle.std.specs.Prelude.{◌^◌, decimal, IfOk, IsErrOf}
use Rattle.std.specs.List.{list_all}
use Rattle.std.specs.Str.Parse.{AllDigits}
use Rattle.std.proofs.lemmas.Bool.{le-leb, le-ltb, lt-ltb}
use Rattle.std.proofs.lemmas.Bool.Decides.{nat_tests}
use Rattle.std.proofs.lemmas.Fmt.{decimal_is_IsNumeral, decimal_injective}
use Rattle.std.proofs.lemmas.List.Folds.{list_all-append, list_all_at}
use Rattle.std.proofs.lemmas.Slice.Eq.{bytes_eq-Decides}
use Rattle.std.proofs.lemmas.Str.Parse.{tells_digits}
use Rattle.mx_base.specs.AppName.{IsAppName, IsFirstBadByte, fits_at}
use Rattle.mx_base.specs.Blame.{Computes}
use Rattle.mx_base.specs.BuildName.{begins_tagged, build_name, host, is_plain, tagged, unless_too_long}
use Rattle.mx_base.specs.NameFaults.{blame_of}
use Rattle.mx_base.specs.declared.name.NameError.{NameError}
use Rattle.mx_base.specs.declared.name.NameError.TheVariants.{Empty, TooLong, BadByte, OutOfMemory}
use Rattle.mx_base.proofs.NameLemmas.{later_place}
use Rattle.mx_base.proofs.OneListing.{IsFree, split_free, split_long}

small_length : (name : List ℕ) → IsAppName name → length name < 2 ^ 64
small_length name is = omega (arith, is.not_long)

no_mark : (digits : List ℕ) → AllDigits 10 digits → IsFree 95 digits
no_mark [] all = tt
no_mark (d ∷ ds) all = let parts = tells_digits.parts d ds all in (λ is. absurd (omega (arith, parts.0.1, is)), no_mark ds parts.1)

-- what begins with `t` and digits is tagged
digits_tag : (digits rest : List ℕ) → 0 < length digits → AllDigits 10 digits → begins_tagged (116 ∷ digits ++ rest) ≡ true
digits_tag [] rest some all = absurd (omega (arith, some))
digits_tag (d ∷ ds) rest some all =
    let parts = tells_digits.parts d ds all in
    ap (λ (t : Bool). t && nat_le d 57) (le-leb 48 d parts.0.0) ∙ le-leb d 57 parts.0.1

nested : (env target : List ℕ) → tagged env target ≡ 116 ∷ (decimal (length target) ++ 95 ∷ (target ++ 95 ∷ env))
nested env target = append_assoc (116 ∷ decimal (length target)) (95 ∷ target) (95 ∷ env)

tagged_is_tagged : (env target : List ℕ) → IsAppName target → begins_tagged (tagged env target) ≡ true
tagged_is_tagged env target is =
    let numeral = (decimal_is_IsNumeral (length target) (small_length target is)).0 in
    ap begins_tagged (nested env target) ∙ digits_tag (decimal (length target)) (95 ∷ (target ++ 95 ∷ env)) numeral.0 numeral.1

-- a tagged name tells its target and its environment
one_tagged : (e t f u : List ℕ) → IsAppName t → IsAppName u → tagged e t ≡ tagged f u → (e ≡ f) × (t ≡ u)
one_tagged e t f u p q same =
    let tail : decimal (length t) ++ 95 ∷ (t ++ 95 ∷ e) ≡ decimal (length u) ++ 95 ∷ (u ++ 95 ∷ f) = cc (sym (nested e t) ∙ (same ∙ nested f u)) in
    let digits = split_free 95 (decimal (length t)) (decimal (length u)) _ _
    (no_mark _ (decimal_is_IsNumeral (length t) (small_length t p)).0.1) (no_mark _ (decimal_is_IsNumeral (length u) (small_length u q)).0.1) tail in
    let lengths = decimal_injective (length t) (length u) (small_length t p) (small_length u q) digits.0 in
    let names = split_long t u (95 ∷ e) (95 ∷ f) lengths digits.1 in (cc (names.1), names.0)

plain_parts : (a b : Bool) → (a && not b) ≡ true → (a ≡ true) × (b ≡ false)
plain_parts true true e = cc
plain_parts true false e = (refl, refl)
plain_parts false b e = cc

plain_host : (env target : List ℕ) → is_plain env target ≡ true → target ≡ host
plain_host env target plain = (bytes_eq-Decides target host).0 (plain_parts (bytes_eq target host) (begins_tagged env) plain).0

plain_untagged : (e t f u : List ℕ) → IsAppName u → is_plain e t ≡ true → e ≡ tagged f u → ⊥
plain_untagged e t f u q plain same =
    let untagged = (plain_parts (bytes_eq t host) (begins_tagged e) plain).1 in
    let is : false ≡ true = sym untagged ∙ (ap begins_tagged same ∙ tagged_is_tagged f u q) in cc

-- a build name tells its environment and its target
pub one_build : (e t f u : List ℕ) → IsAppName e → IsAppName t → IsAppName f → IsAppName u → build_name e t ≡ build_name f u → (e ≡ f) × (t ≡ u)
one_build e t f u p q r s same = at (is_plain e t) (is_plain f u) refl refl same
  where
    at : (x y : Bool) → is_plain e t ≡ x → is_plain f u ≡ y → cond x e (tagged e t) ≡ cond y f (tagged f u) → (e ≡ f) × (t ≡ u)
    at true true a b is = (is, plain_host e t a ∙ sym (plain_host f u b))
    at true false a b is = absurd (plain_untagged e t f u s a is)
    at false true a b is = absurd (plain_untagged f u e t q b (sym is))
    at false false a b is = one_tagged e t f u q s is

first_fits : (byte : ℕ) → IsTrue (fits_at 0 byte) → IsTrue (fits_at 1 byte)
first_fits byte fits = grind (arith, nat_tests)

anywhere : (k byte : ℕ) → IsTrue (fits_at k byte) → fits_at 1 byte ≡ true
anywhere zero byte fits = first_fits byte fits
anywhere (suc k) byte fits = sym (later_place k byte) ∙ fits

all_fit : (name : List ℕ) → ((k : ℕ) → k < length name → fits_at 1 (slice_index name k) ≡ true) → list_all (fits_at 1) name ≡ true
all_fit [] fits = refl
all_fit (b ∷ bs) fits =
    ap (λ (t : Bool). t && list_all (fits_at 1) bs) (fits 0 (omega arith)) ∙ all_fit bs (λ k within. fits (suc k) (omega arith))

name_fits : (name : List ℕ) → IsAppName name → list_all (fits_at 1) name ≡ true
name_fits name is = all_fit name (λ k within. anywhere k (slice_index name k) (is.bytes k within))

digit_fits : (d : ℕ) → 48 ≤ d → d ≤ 57 → fits_at 1 d ≡ true
digit_fits d low high = grind (arith, nat_tests)

digits_fit : (digits : List ℕ) → AllDigits 10 digits → list_all (fits_at 1) digits ≡ true
digits_fit [] all = refl
digits_fit (d ∷ ds) all =
    let parts = tells_digits.parts d ds all in
    ap (λ (t : Bool). t && list_all (fits_at 1) ds) (digit_fits d parts.0.0 parts.0.1) ∙ digits_fit ds parts.1

-- past its first byte each byte of a tagged name may stand in a name
rest_fits : (env target : List ℕ) → IsAppName env → IsAppName target → list_all (fits_at 1) (decimal (length target) ++ 95 ∷ (target ++ 95 ∷ env)) ≡ true
rest_fits env target e t =
    let numeral = (decimal_is_IsNumeral (length target) (small_length target t)).0 in
    let behind : list_all (fits_at 1) (target ++ 95 ∷ env) ≡ true =
    list_all-append (fits_at 1) target (95 ∷ env) ∙ (ap (λ (x : Bool). x && list_all (fits_at 1) env) (name_fits target t) ∙ name_fits env e) in
    list_all-append (fits_at 1) (decimal (length target)) (95 ∷ (target ++ 95 ∷ env))
    ∙ (ap (λ (x : Bool). x && list_all (fits_at 1) (target ++ 95 ∷ env)) (digits_fit _ numeral.1) ∙ behind)

no_bad_byte : (text rest : List ℕ) (at : ℕ) → text ≡ 116 ∷ rest → list_all (fits_at 1) rest ≡ true → IsFirstBadByte text at → ⊥
no_bad_byte [] rest at is fit bad = cc
no_bad_byte (b ∷ bs) rest zero is fit bad = let wrong : fits_at 0 116 ≡ false = cc (is, bad.bad) in cc
no_bad_byte (b ∷ bs) rest (suc k) is fit bad =
    let same : bs ≡ rest = cc in
    let wrong : list_all (fits_at 1) bs ≡ false =
    list_all_at (fits_at 1) bs k 0 (omega (arith, bad.within)) (sym (later_place k (slice_index bs k)) ∙ bad.bad) in
    let both : true ≡ false = sym fit ∙ (ap (list_all (fits_at 1)) (sym same) ∙ wrong) in cc

tagged_fits : (env target : List ℕ) (at : ℕ) → IsAppName env → IsAppName target → IsFirstBadByte (tagged env target) at → ⊥
tagged_fits env target at e t bad = no_bad_byte (tagged env target) _ at (nested env target) (rest_fits env target e t) bad

-- a tagged text is a name unless it is too long
pub named : (env target text : List ℕ) (result : Result (List ℕ) NameError) → text ≡ tagged env target → IsAppName env → IsAppName target
    → IfOk result (λ name. name ≡ text) → (IsErrOf result Empty ↔ (text ≡ [])) → (IsErrOf result TooLong ↔ (255 < length text))
    → ((place : ℕ) → IsErrOf result (BadByte place) ↔ ((length text ≤ 255) × IsFirstBadByte text place))
    → Computes blame_of result (λ answer. answer ≡ unless_too_long (tagged env target))
named env target text result is e t ok empty long bad = at result refl ok
  where
    short : (name : List ℕ) → result ≡ Ok name → (255 < length text → ⊥)
    short name had over = let wrong = sym had ∙ long.1 over in cc

    no_bad : (place : ℕ) → IsFirstBadByte text place → ⊥
    no_bad place first = tagged_fits env target place e t (subst (λ (said : List ℕ). IsFirstBadByte said place) is first)

    at : (r : Result (List ℕ) NameError) → result ≡ r → IfOk r (λ name. name ≡ text) → Computes blame_of r (λ answer. answer ≡ unless_too_long (tagged env target))
    at (Ok name) had own =
        let within : nat_lt 255 (length text) ≡ false = le-ltb 255 (length text) (omega (arith, short name had)) in
        let answer : Ok name ≡ unless_too_long text = ap Ok own ∙ ap (λ (b : Bool). cond b (Err TooLong) (Ok text)) (sym within) in
        record { answer = answer ∙ ap unless_too_long is; alone = refl }
    at (Err Empty) had own = let none : [] ≡ tagged env target = sym (empty.0 had) ∙ is in let wrong = none ∙ nested env target in cc
    at (Err TooLong) had own =
        let over : nat_lt 255 (length text) ≡ true = lt-ltb 255 (length text) (long.0 had) in
        let answer : Err TooLong ≡ unless_too_long text = ap (λ (b : Bool). cond b (Err TooLong) (Ok text)) (sym over) in
        record { answer = λ input. answer ∙ ap unless_too_long is; alone = refl }
    at (Err (BadByte place)) had own = absurd (no_bad place ((bad place).0 had).1)
    at (Err OutOfMemory) had own = record { answer = λ input. cc; alone = refl }

-- a name is short enough
pub short_name : (name : List ℕ) → IsAppName name → Ok name ≡ unless_too_long name
short_name name is = ap (λ (b : Bool). cond b (Err TooLong) (Ok name)) (sym (le-ltb 255 (length name) is.not_long))

-- what was taken as a name is short enough
pub taken_is_short : (env target text : List ℕ) (result : Result (List ℕ) NameError) → text ≡ tagged env target
    → (IsErrOf result TooLong ↔ (255 < length text)) → IfOk result (λ _. length (tagged env target) ≤ 255)
taken_is_short env target text (Ok name) is long =
    let short : 255 < length text → ⊥ = λ over. let wrong = long.1 over in cc in
    omega (arith, short, ap (λ (t : List ℕ). length t) is)
taken_is_short env target text (Err e) is long = tt

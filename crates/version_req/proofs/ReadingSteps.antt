-- What the readers of specs/Reading.antt give, by the first byte of a text.
use Rattle.std.proofs.Common.{◌≡◌, ℕ, ◌-◌, ◌==◌, ◌++◌, List, [], ◌∷◌, true, false, Ok, Some, None, refl}
use Rattle.std.specs.Char.{is_ascii_digit}
use Rattle.semver.specs.Grammar.{is_identifier_byte}
use Rattle.version_req.specs.declared.identifiers.Kind.{Kind}
use Rattle.version_req.specs.declared.identifiers.Kind.TheVariants.{PreRelease, Build}
use Rattle.version_req.specs.Reading.{◌>>=◌, after_byte, comparison_of, condition, digits_of, head_of, identifiers_from, is_identifier, joint_of, marked_of, number_of, operator_of, patch_of, stuck, with_digit, without_spaces, word_of}

-- ---- numbers

-- the digits of a number, after its first
pub digits_nil : (value : ℕ) → digits_of value [] ≡ Ok (value, [])
unfolding digits_of
digits_nil value = refl

pub digits_take : (value more b : ℕ) (rest : List ℕ) → is_ascii_digit b ≡ true → with_digit value (b - 48) ≡ Some more
    → digits_of value (b ∷ rest) ≡ digits_of more rest
unfolding digits_of
digits_take value more b rest d h = rw (d, h) refl

pub digits_refuse : (value b : ℕ) (rest : List ℕ) → is_ascii_digit b ≡ true → with_digit value (b - 48) ≡ None
    → digits_of value (b ∷ rest) ≡ stuck (b ∷ rest)
unfolding digits_of
digits_refuse value b rest d h = rw (d, h) refl

pub digits_over : (value b : ℕ) (rest : List ℕ) → is_ascii_digit b ≡ false → digits_of value (b ∷ rest) ≡ Ok (value, b ∷ rest)
unfolding digits_of
digits_over value b rest d = rw d refl

pub number_nil : number_of [] ≡ stuck []
unfolding number_of
number_nil = refl

pub number_digit : (b : ℕ) (rest : List ℕ) → is_ascii_digit b ≡ true → number_of (b ∷ rest) ≡ digits_of (b - 48) rest
unfolding number_of
number_digit b rest h = rw h refl

pub number_other : (b : ℕ) (rest : List ℕ) → is_ascii_digit b ≡ false → number_of (b ∷ rest) ≡ stuck (b ∷ rest)
unfolding number_of
number_other b rest h = rw h refl

-- ---- the operator and the numbers

pub head_is : (text : List ℕ) → head_of text
    ≡ (operator_of (without_spaces text) >>= λ o. number_of (without_spaces o.1) >>= λ a. after_byte 46 a.1 >>= λ t. number_of t >>= λ m. patch_of o.0
    a.0 m.0 m.1)
unfolding head_of
head_is text = refl

-- ---- identifiers

pub ids_nil_good : (k : Kind) (text last : List ℕ) → is_identifier k last ≡ true → identifiers_from k text last [] ≡ Ok (text, [])
unfolding identifiers_from
ids_nil_good k text last g = rw g refl

pub ids_nil_bad : (k : Kind) (text last : List ℕ) → is_identifier k last ≡ false → identifiers_from k text last [] ≡ stuck []
unfolding identifiers_from
ids_nil_bad k text last g = rw g refl

pub ids_byte : (k : Kind) (text last : List ℕ) (b : ℕ) (rest : List ℕ) → is_identifier_byte b ≡ true
    → identifiers_from k text last (b ∷ rest) ≡ identifiers_from k (text ++ b ∷ []) (last ++ b ∷ []) rest
unfolding identifiers_from
ids_byte k text last b rest h = rw h refl

pub ids_dot : (k : Kind) (text last : List ℕ) (b : ℕ) (rest : List ℕ) → is_identifier_byte b ≡ false → is_identifier k last ≡ true → (b == 46) ≡ true
    → identifiers_from k text last (b ∷ rest) ≡ identifiers_from k (text ++ b ∷ []) [] rest
unfolding identifiers_from
ids_dot k text last b rest h g d = rw (h, g, d) refl

pub ids_stop : (k : Kind) (text last : List ℕ) (b : ℕ) (rest : List ℕ) → is_identifier_byte b ≡ false → is_identifier k last ≡ true
    → (b == 46) ≡ false
    → identifiers_from k text last (b ∷ rest) ≡ Ok (text, b ∷ rest)
unfolding identifiers_from
ids_stop k text last b rest h g d = rw (h, g, d) refl

pub ids_bad : (k : Kind) (text last : List ℕ) (b : ℕ) (rest : List ℕ) → is_identifier_byte b ≡ false → is_identifier k last ≡ false
    → identifiers_from k text last (b ∷ rest) ≡ stuck (b ∷ rest)
unfolding identifiers_from
ids_bad k text last b rest h g = rw (h, g) refl

-- ---- a comparison

pub comparison_is : (text : List ℕ) → comparison_of
    text ≡ (head_of text >>= λ h. marked_of PreRelease h.1 >>= λ pre. marked_of Build pre.1 >>= λ build. Ok (condition h.0 pre.0 build.0, build.1))
unfolding comparison_of
comparison_is text = refl

-- ---- what follows a comparison

pub joint_nil : joint_of [] ≡ Ok (None, [])
unfolding joint_of
joint_nil = refl

pub joint_space : (b : ℕ) (rest : List ℕ) → (b == 32) ≡ true → joint_of (b ∷ rest) ≡ word_of (without_spaces rest)
unfolding joint_of
joint_space b rest h = rw h refl

pub joint_other : (b : ℕ) (rest : List ℕ) → (b == 32) ≡ false → joint_of (b ∷ rest) ≡ stuck (b ∷ rest)
unfolding joint_of
joint_other b rest h = rw h refl

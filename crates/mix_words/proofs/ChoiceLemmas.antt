-- Environments and targets that have the name of a build.
use Rattle.std.proofs.Common.{◌≡◌, ◌⊎◌, ℕ, zero, suc, ◌+◌, ◌/◌, ◌%◌, ◌<◌, ◌≤◌, ◌^◌, Bool, true, false, cond, ◌&&◌, not, List, [], ◌∷◌, ◌++◌, length, Option, Some, None, refl, sym, ap, ◌∙◌, subst, arith, inl, inr, ⊎_elim, length-append, lit≤, lit<}
use Rattle.std.specs.Prelude.{if◌then◌else◌, codes, bytes_eq, IsTrue, IsFalse, ◌↔◌, decimal, IfSome, slice_index}
use Rattle.std.proofs.lemmas.Fmt.{decimal_digit, decimal_nonempty, decimal_step}
use Rattle.std.proofs.lemmas.Bool.{and_parts, both_ways, true_from_ne_false}
use Rattle.std.proofs.lemmas.Slice.Eq.{bytes_eq-Decides}
use Rattle.mx_base.specs.AppName.{IsAppName, fits_at, is_app_name}
use Rattle.mx_base.proofs.NameLemmas.{is_name_of_fits}
use Rattle.mx_base.specs.BuildName.{HasBuildName, begins_tagged, build_name, host, is_plain, tagged}
use Rattle.mix_words.specs.Choice.{dev}
use Rattle.mix_words.specs.Live.{HasEnv, HasTarget}

-- how long the name of a build is
abbrev tagged_length : List ℕ → List ℕ → ℕ
tagged_length env target = 3 + length (decimal (length target)) + length target + length env

tagged_long : (env target : List ℕ) → length (tagged env target) ≡ tagged_length env target
tagged_long env target =
    omega (arith, length-append ((116 ∷ decimal (length target)) ++ 95 ∷ target) (95 ∷ env), length-append (116 ∷ decimal (length target)) (95 ∷ target))

abbrev by_length : Bool → List ℕ → List ℕ → Type 0
by_length plain env target = length (if plain then env else tagged env target) ≤ 255

plain_case : (plain : Bool) (env target : List ℕ) → length env ≤ 255 → plain ≡ true → by_length plain env target
plain_case true env target h e = h
plain_case false env target h e = cc

long_case : (plain : Bool) (env target : List ℕ) → plain ≡ false → by_length plain env target → tagged_length env target ≤ 255
long_case true env target e h = cc
long_case false env target e h = omega (arith, tagged_long env target)

short_case : (plain : Bool) (env target : List ℕ) → length env ≤ 255 → tagged_length env target ≤ 255 → by_length plain env target
short_case true env target h t = h
short_case false env target h t = omega (arith, tagged_long env target)

pub plain_has : (env target : List ℕ) → length env ≤ 255 → is_plain env target ≡ true → HasBuildName env target
plain_has env target h e = plain_case (is_plain env target) env target h e

pub short_has : (env target : List ℕ) → length env ≤ 255 → tagged_length env target ≤ 255 → HasBuildName env target
short_has env target h t = short_case (is_plain env target) env target h t

pub tagged_has : (env target : List ℕ) → is_plain env target ≡ false → HasBuildName env target → tagged_length env target ≤ 255
tagged_has env target e h = long_case (is_plain env target) env target e h

plain_target : (env target : List ℕ) → is_plain env target ≡ true → target ≡ host
plain_target env target e = (bytes_eq-Decides target host).0 (and_parts (bytes_eq target host) (not (begins_tagged env)) e).0

-- the test by lengths
pub has_by_length : (env target : List ℕ) (fits : Bool) → is_plain env target ≡ false → length env ≤ 255 → (fits ≡ true → tagged_length env target ≤ 255)
    → (fits ≡ false → 255 < tagged_length env target) → IsTrue fits ↔ HasBuildName env target
has_by_length env target true plain small fitting never = (λ _. short_has env target small (fitting refl), λ _. refl)
has_by_length env target false plain small fitting never = (
  λ (h : false ≡ true). cc,
  λ (h : HasBuildName env target). absurd (omega
      (arith, tagged_has env target plain h, never refl)),
)

-- ---- how many digits a number has

pub one_digit : (n : ℕ) → n < 10 → 1 ≡ length (decimal n)
one_digit n small = sym (ap length (decimal_digit n small))

one_digit_more : (n : ℕ) → 10 ≤ n → n < 2 ^ 64 → length (decimal n) ≡ length (decimal (n / 10)) + 1
one_digit_more n large small = ap length (decimal_step n large small) ∙ length-append (decimal (n / 10)) ((48 + n % 10) ∷ [])

pub two_digits : (n : ℕ) → 10 ≤ n → n < 100 → 2 ≡ length (decimal n)
two_digits n large small = omega (arith, one_digit_more n large (omega arith), one_digit (n / 10) (omega arith))

pub three_digits : (n : ℕ) → 100 ≤ n → n < 256 → 3 ≡ length (decimal n)
three_digits n large small = omega (arith, one_digit_more n (omega arith) (omega arith), two_digits (n / 10) (omega arith) (omega arith))

-- ---- names that are known

host_bytes : (k : ℕ) → k < 4 → IsTrue (fits_at k (slice_index host k))
host_bytes zero h = refl
host_bytes (suc zero) h = refl
host_bytes (suc (suc zero)) h = refl
host_bytes (suc (suc (suc zero))) h = refl
host_bytes (suc (suc (suc (suc k)))) h = absurd (omega arith)

pub host_name : IsAppName host
host_name = record { not_empty = lit< tt; not_long = lit≤ tt; bytes = host_bytes }

dev_bytes : (k : ℕ) → k < 3 → IsTrue (fits_at k (slice_index dev k))
dev_bytes zero h = refl
dev_bytes (suc zero) h = refl
dev_bytes (suc (suc zero)) h = refl
dev_bytes (suc (suc (suc k))) h = absurd (omega arith)

pub dev_name : IsAppName dev
dev_name = record { not_empty = lit< tt; not_long = lit≤ tt; bytes = dev_bytes }

-- as short as a name can be
abbrev pub shortest : List ℕ
shortest = codes "a"

shortest_bytes : (k : ℕ) → k < 1 → IsTrue (fits_at k (slice_index shortest k))
shortest_bytes zero h = refl
shortest_bytes (suc k) h = absurd (omega arith)

pub shortest_name : IsAppName shortest
shortest_name = record { not_empty = lit< tt; not_long = lit≤ tt; bytes = shortest_bytes }

pub dev_for_host : HasBuildName dev host
dev_for_host = lit≤ tt

-- ---- whether some target, or some environment, does

digit_count : (n : ℕ) → n ≤ 255 → 0 < length (decimal n)
digit_count n h = decimal_nonempty n (omega arith)

-- where a target has one, the machine at hand does, or a target of one byte
pub no_target : (env : List ℕ) → IsAppName env → (HasBuildName env host → ⊥) → (HasBuildName env shortest → ⊥) → HasTarget env None → ⊥
no_target env name no_host no_short has = at (is_plain env has.0) refl
  where
    at : (plain : Bool) → is_plain env has.0 ≡ plain → ⊥
    at true e = no_host (subst (HasBuildName env) (plain_target env has.0 e) has.3)
    at false e =
        let long = tagged_has env has.0 e has.3 in
        let one = decimal_digit 1 (lit< tt) in
        no_short (short_has env shortest name.not_long (omega (arith, long, digit_count (length has.0) has.2.not_long, has.2.not_empty, ap length one)))

pub no_env : (target : List ℕ) → IsAppName target → (HasBuildName shortest target → ⊥) → HasEnv None target → ⊥
no_env target name no_short has = at (is_plain has.0 target) refl
  where
    at : (plain : Bool) → is_plain has.0 target ≡ plain → ⊥
    at true e = no_short (subst (HasBuildName shortest) (sym (plain_target has.0 target e)) (lit≤ tt))
    at false e =
        let long = tagged_has has.0 target e has.3 in
        no_short (short_has shortest target (lit≤ tt) (omega (arith, long, has.2.not_empty)))

-- ---- no name

pub no_app_name : (text : List ℕ) → IsFalse (is_app_name text) → IsAppName text → ⊥
no_app_name text no_name is =
    let named = is_name_of_fits text (λ e. absurd (omega (arith, ap length e, is.not_empty))) is.not_long is.bytes in
    absurd (cc (named, no_name))

-- ---- the tests, case by case

pub target_given : (env target : List ℕ) (b : Bool) → IsAppName target → (IsTrue b ↔ HasBuildName env target) → IsTrue b ↔ HasTarget env (Some target)
target_given env target b name iff = (
  λ h. (target, refl, name, iff.0 h),
  λ (has : HasTarget env (Some target)). iff.1 (subst (HasBuildName env) (sym has.1) has.3),
)

pub target_by_host : (env : List ℕ) → HasBuildName env host → IsTrue true ↔ HasTarget env None
target_by_host env has = (λ _. (host, tt, host_name, has), λ _. refl)

pub target_by_short : (env : List ℕ) (b : Bool) → IsAppName env → (HasBuildName env host → ⊥) → (IsTrue b ↔ HasBuildName env shortest)
    → IsTrue b ↔ HasTarget env None
target_by_short env b name other iff = (
  λ h. (shortest, tt, shortest_name, iff.0 h),
  λ (has : HasTarget env None). true_from_ne_false b (λ f. no_target env name other (λ s. both_ways b f (iff.1 s)) has),
)

pub env_given : (env target : List ℕ) (b : Bool) → IsAppName env → (IsTrue b ↔ HasBuildName env target) → IsTrue b ↔ HasEnv (Some env) target
env_given env target b name iff = (
  λ h. (env, refl, name, iff.0 h),
  λ (has : HasEnv (Some env) target). iff.1 (subst (λ (e : List ℕ). HasBuildName e target) (sym has.1) has.3),
)

pub env_by_short : (target : List ℕ) (b : Bool) → IsAppName target → (IsTrue b ↔ HasBuildName shortest target) → IsTrue b ↔ HasEnv None target
env_by_short target b name iff = (
  λ h. (shortest, tt, shortest_name, iff.0 h),
  λ (has : HasEnv None target). true_from_ne_false b (λ f. no_env target name (λ s. both_ways b f (iff.1 s)) has),
)

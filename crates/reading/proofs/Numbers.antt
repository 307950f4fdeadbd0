-- Fields that are numbers, and fields of so many bytes.
use Rattle.std.proofs.Common.{◌≡◌, ◌⊎◌, ℕ, suc, ◌+◌, ◌-◌, ◌*◌, ◌/◌, ◌%◌, ◌^◌, ◌<◌, ◌≤◌, List, [], ◌∷◌, ◌++◌, length, refl, sym, ap, ◌∙◌, arith, inl, inr, ⊎_elim, append_assoc, append-nil, length-append, decimal}
use Rattle.std.specs.Prelude.{replicate}
use Rattle.std.proofs.lemmas.Fmt.{decimal_by_steps, decimal_digit, decimal_injective, decimal_nonempty, decimal_step}
use Rattle.std.proofs.lemmas.List.{length-replicate}
use Rattle.reading.specs.Field.{Stops, TellsItsEnd}
use Rattle.reading.specs.Plain.{AreSoMany, IsBelow, IsNoDigit, bytes_text, number_text}
use Rattle.reading.proofs.Lists.{GoesFurther, one_goes_further, same_head}

-- what may follow the digits of a number in those of another
record GoesOnBy (v byte w : ℕ) : Type 0 where
  pub low : 48 ≤ byte
  pub high : byte ≤ 57
  pub not_zero : 0 < v
  pub fits : v * 10 + (byte - 48) ≤ w

abbrev Extends : ℕ → List ℕ → Type 0
Extends w digits = w < 2 ^ 64 → (digits ≡ decimal w) × ((v byte : ℕ) (more : List ℕ) → v < 2 ^ 64 → digits ≡ decimal v ++ byte ∷ more → GoesOnBy v byte w)

extends_digit : (n : ℕ) → n < 10 → Extends n ((48 + n) ∷ [])
extends_digit n low _ = (
  sym (decimal_digit n low),
  λ v byte more fits e.
      absurd (omega (arith, ap length e, length-append (decimal v) (byte ∷ more), decimal_nonempty v fits)),
)

pub last_split : (ds front more : List ℕ) (last byte : ℕ) → ds ++ last ∷ [] ≡ front ++ byte ∷ more
    → ((ds ≡ front) × (last ≡ byte)) ⊎ ((rest : List ℕ) × (ds ≡ front ++ byte ∷ rest))
last_split [] [] more last byte e = inl (refl, same_head last byte [] more e)
last_split [] (f ∷ front) more last byte e =
    absurd (omega (arith, ap length e, length-append front (byte ∷ more)))
last_split (d ∷ ds) [] more last byte e = inr (ds, cc e)
last_split (d ∷ ds) (f ∷ front) more last byte e =
    ⊎_elim (λ one. inl (cc (e, one.0), one.1)) (λ rest. inr (rest.0, cc (e, rest.1)))
    (last_split ds front more last byte (cc e))

step_case : (k v byte : ℕ) (ds more : List ℕ) → 10 ≤ k → k < 2 ^ 64 → v < 2 ^ 64 → (ds ≡ decimal (k / 10))
    → ((u b : ℕ) (m : List ℕ) → u < 2 ^ 64 → ds ≡ decimal u ++ b ∷ m → GoesOnBy u b (k / 10))
    → ((ds ≡ decimal v) × (48 + k % 10 ≡ byte)) ⊎ ((rest : List ℕ) × (ds ≡ decimal v ++ byte ∷ rest)) → GoesOnBy v byte k
step_case k v byte ds more big fits v_fits same ih (inl (front, last)) =
    let e : v ≡ k / 10 = decimal_injective v (k / 10) v_fits (omega arith) (sym front ∙ same) in
    record { low = omega arith; high = omega arith; not_zero = omega arith; fits = omega arith }
step_case k v byte ds more big fits v_fits same ih (inr (rest, front)) =
    let on = ih v byte rest v_fits front in
    record { low = on.low; high = on.high; not_zero = on.not_zero; fits = omega (arith, on.fits) }

extends_step : (k : ℕ) (ds : List ℕ) → 10 ≤ k → Extends (k / 10) ds → Extends k (ds ++ (48 + k % 10) ∷ [])
extends_step k ds big ih fits =
    let below = ih (omega arith) in (
      ap (λ t. t ++ (48 + k % 10) ∷ []) below.0 ∙ sym (decimal_step k big fits),
      λ v byte more v_fits e. step_case k v byte ds more big fits v_fits below.0 below.1 (last_split ds (decimal v) more (48 + k % 10) byte e),
    )

-- the digits of a number go on in those of another only so
goes_on : (w v byte : ℕ) (more : List ℕ) → w < 2 ^ 64 → v < 2 ^ 64 → decimal w ≡ decimal v ++ byte ∷ more → GoesOnBy v byte w
goes_on w v byte more fits v_fits e = (decimal_by_steps Extends extends_digit extends_step w fits fits).1 v byte more v_fits e

-- the first byte of a number
abbrev StartsLow : ℕ → List ℕ → Type 0
StartsLow n ds = (b : ℕ) × (rest : List ℕ) × (ds ≡ b ∷ rest) × (48 ≤ b) × (b ≤ 57)

starts_low : (n : ℕ) → n < 2 ^ 64 → StartsLow n (decimal n)
starts_low n fits = decimal_by_steps StartsLow (λ k low. (48 + k, [], refl, omega arith, omega arith))
    (λ k ds big ih. (ih.0, ih.1 ++ (48 + k % 10) ∷ [], ap (λ t. t ++ (48 + k % 10) ∷ []) ih.2, ih.3, ih.4)) n fits

not_digit : (byte : ℕ) → IsNoDigit byte → 48 ≤ byte → byte ≤ 57 → ⊥
not_digit byte none low high = ⊎_elim (λ (h : byte < 48). omega arith) (λ (h : 57 < byte). omega arith) none.holds

number_further : (end limit a b : ℕ) (x y between : List ℕ) → IsNoDigit end → limit ≤ 2 ^ 64 → a < limit → b < limit
    → decimal a ≡ decimal b ++ between → end ∷ y ≡ between ++ end ∷ x → a ≡ b
number_further end limit a b x y [] none small fa fb front back =
    decimal_injective a b (omega arith) (omega arith) (front ∙ append-nil (decimal b))
number_further end limit a b x y (c ∷ between) none small fa fb front back =
    let on = goes_on a b c between (omega arith) (omega arith) front in
    let same : end ≡ c = same_head end c y (between ++ end ∷ x) back in
    absurd (not_digit end none (omega (arith, on.low)) (omega (arith, on.high)))

pub number_tells : (end limit : ℕ) → IsNoDigit end → limit ≤ 2 ^ 64 → TellsItsEnd (number_text end) (IsBelow limit)
number_tells end limit none small a b x y fa fb e =
    let cut = sym (append_assoc (decimal a) (end ∷ []) x) ∙ e ∙ append_assoc (decimal b) (end ∷ []) y in
    ⊎_elim
    (λ (h : GoesFurther (decimal a) (end ∷ x) (decimal b) (end ∷ y)). number_further end limit a b x y h.0 none small fa fb h.1 h.2)
    (λ (h : GoesFurther (decimal b) (end ∷ y) (decimal a) (end ∷ x)). sym (number_further end limit b a y x h.0 none small fb fa h.1 h.2))
    (one_goes_further (decimal a) (end ∷ x) (decimal b) (end ∷ y) cut)

-- no number begins with this byte
pub number_stops_first : (end limit : ℕ) → 0 < limit → limit ≤ 2 ^ 64 → (from : List ℕ)
    → ((next : ℕ) (others : List ℕ) → from ≡ next ∷ others → IsNoDigit next) → Stops (number_text end) (IsBelow limit) from (length from)
number_stops_first end limit some small from none = record {
  taken = [];
  rest = from;
  bytes = refl;
  size = refl;
  sticks = record {
    value = 0;
    fits = some;
    byte = 48;
    more = end ∷ [];
    begins = ap (λ t. t ++ end ∷ []) (decimal_digit 0 (omega arith));
    refuses = λ next others further w e fits whole.
        let first = starts_low w (omega arith) in
        let same : first.0 ≡ next = same_head first.0 next (first.1 ++ end ∷ []) further (ap (λ t. t ++ end ∷ []) (sym first.2) ∙ whole) in
        absurd (not_digit next (none next others e) (omega (arith, first.3)) (omega (arith, first.4)));
  };
}

-- the digits so far make this number, and what follows goes on with none and doesn't end it
pub number_stops : (end limit v : ℕ) → limit ≤ 2 ^ 64 → v < limit → (rest : List ℕ)
    → ((next : ℕ) (others : List ℕ) → rest ≡ next ∷ others → (next ≡ end → ⊥) × (IsNoDigit next ⊎ ((v ≡ 0) ⊎ (limit ≤ v * 10 + (next - 48)))))
    → Stops (number_text end) (IsBelow limit) (decimal v ++ rest) (length rest)
number_stops end limit v small fits rest none = record {
  taken = decimal v;
  rest = rest;
  bytes = refl;
  size = refl;
  sticks = record {
    value = v;
    fits = fits;
    byte = end;
    more = [];
    begins = refl;
    refuses = λ next others further w e w_fits whole.
        let no = none next others e in
        ⊎_elim
        (λ (one : (decimal w ≡ decimal v) × (end ≡ next)). no.0 (sym one.1))
        (λ (on : (more : List ℕ) × (decimal w ≡ decimal v ++ next ∷ more)).
        let by = goes_on w v next on.0 (omega arith) (omega arith) on.1 in
        ⊎_elim (λ none. not_digit next none by.low by.high)
        (λ h. ⊎_elim (λ (z : v ≡ 0). absurd (omega (arith, by.not_zero))) (λ (big : limit ≤ v * 10 + (next - 48)). absurd (omega (arith, by.fits))) h) no.1)
        (last_split (decimal w) (decimal v) further end next whole);
  };
}

-- ---- so many bytes

pub same_front : (a b x y : List ℕ) → length a ≡ length b → a ++ x ≡ b ++ y → a ≡ b
same_front [] [] x y long e = refl
same_front [] (d ∷ b) x y long e = absurd (omega (arith, long))
same_front (c ∷ a) [] x y long e = absurd (omega (arith, long))
same_front (c ∷ a) (d ∷ b) x y long e = cc (e, same_front a b x y (omega (arith, long)) (cc e))

pub bytes_tell : (count : ℕ) → TellsItsEnd bytes_text (AreSoMany count)
bytes_tell count a b x y fa fb e = same_front a b x y (fa ∙ sym fb) e

pub bytes_stop : (count : ℕ) (from : List ℕ) → length from < count → Stops bytes_text (AreSoMany count) from 0
bytes_stop count from short =
    let n = count - suc (length from) in
    record {
      taken = from;
      rest = [];
      bytes = sym (append-nil from);
      size = refl;
      sticks = record {
        value = from ++ 0 ∷ replicate n 0;
        fits = omega (arith, length-append from (0 ∷ replicate n 0), length-replicate {A = ℕ} n 0);
        byte = 0;
        more = replicate n 0;
        begins = refl;
        refuses = λ next others further other e. absurd (cc e);
      };
    }

-- Varints: their numbers, and that a text begins with one at most.
use Rattle.std.proofs.Common.{◌≡◌, ℕ, suc, zero, ◌+◌, ◌-◌, ◌*◌, ◌/◌, ◌%◌, ◌^◌, ◌<◌, ◌≤◌, true, ◌&&◌, List, [], ◌∷◌, ◌++◌, length, take, drop, get_or, refl, sym, ap, ◌∙◌, subst, ⊎_elim, arith}
use Rattle.std.proofs.lemmas.Bool.{cases_lt}
use Rattle.std.specs.List.{list_all}
use Rattle.std.proofs.Math.Nat.{pow-suc, pow-le-pow_right, mul-le-mul_left}
use Rattle.std.proofs.lemmas.Grind.{pow_more}
use Rattle.std.proofs.lemmas.List.{take_more, take_all, take_rest, length_push, append-nil, append_assoc, length-take-le, take-append-drop}
use Rattle.std.proofs.lemmas.List.Folds.{list_all-append, list_all_more}
use Rattle.std.proofs.lemmas.Bool.Decides.{nat_tests}
use Rattle.hex_messages.specs.Varint.{goes_on, is_whole, digit, number_of, IsVarint}
use Rattle.hex_messages.specs.declared.error.WireCause.TheVariants.{BadVarint, Truncated}
use Rattle.hex_messages.specs.Faults.{VarintFault, long, great, cut}
use Rattle.hex_messages.specs.Reading.{BeginsVarint}
use Rattle.hex_messages.specs.Writing.{AppendsVarint}
use Rattle.hex_messages.specs.Canonical.{AreBytes}

pub number_push : (xs : List ℕ) (b : ℕ) → number_of (xs ++ b ∷ []) ≡ number_of xs + 128 ^ length xs * digit b
number_push [] b = omega arith
number_push (x ∷ xs) b =
    let e = number_push xs b in
    let p : 128 ^ suc (length xs) ≡ 128 ^ length xs * 128 = pow-suc 128 (length xs) in
    rw p (grind (arith, e))

pub whole_push : (xs : List ℕ) (b : ℕ) → list_all goes_on xs ≡ true → b < 128 → is_whole (xs ++ b ∷ []) ≡ true
whole_push [] b on h = grind (arith, nat_tests)
whole_push (x ∷ []) b on h = grind (arith, nat_tests)
whole_push (x ∷ y ∷ xs) b on h =
    let e = whole_push (y ∷ xs) b in
    grind (arith, nat_tests, e)

pub whole_split : (f g r s : List ℕ) → is_whole f ≡ true → is_whole g ≡ true → f ++ r ≡ g ++ s → (f ≡ g) × (r ≡ s)
whole_split [] g r s a b e = absurd cc
whole_split (x ∷ f) [] r s a b e = absurd cc
whole_split (x ∷ []) (y ∷ []) r s a b e = (cc, cc)
whole_split (x ∷ []) (y ∷ z ∷ g) r s a b e = let same : x ≡ y = cc in absurd (grind (arith, nat_tests))
whole_split (x ∷ z ∷ f) (y ∷ []) r s a b e = let same : x ≡ y = cc in absurd (grind (arith, nat_tests))
whole_split (x ∷ z ∷ f) (y ∷ w ∷ g) r s a b e =
    let same : x ≡ y = cc in
    let a1 : is_whole (z ∷ f) ≡ true = grind (arith, nat_tests) in
    let b1 : is_whole (w ∷ g) ≡ true = grind (arith, nat_tests) in
    let e1 : z ∷ f ++ r ≡ w ∷ g ++ s = cc in
    let more = whole_split (z ∷ f) (w ∷ g) r s a1 b1 e1 in
    (let m : z ∷ f ≡ w ∷ g = more.0 in cc, more.1)

pub whole_stops : (f r : List ℕ) (n : ℕ) → is_whole f ≡ true → length f ≤ n → list_all goes_on (take n (f ++ r)) ≡ true → ⊥
whole_stops [] r n a l on = cc
whole_stops (x ∷ f) r zero a l on = omega arith
whole_stops (x ∷ []) r (suc n) a l on = grind (arith, nat_tests)
whole_stops (x ∷ y ∷ f) r (suc n) a l on =
    whole_stops (y ∷ f) r n (grind (arith, nat_tests)) (omega arith) (grind (arith, nat_tests))

pub number_small : (xs : List ℕ) → AreBytes xs → number_of xs < 128 ^ length xs
number_small [] h = omega arith
number_small (x ∷ xs) h =
    let e = number_small xs h.1 in
    let d : digit x < 128 = grind (arith, nat_tests, h.0) in
    let p : 128 ^ suc (length xs) ≡ 128 ^ length xs * 128 = pow-suc 128 (length xs) in
    rw p (omega (arith, e, d))

pub power_le : (k m : ℕ) → k ≤ m → 128 ^ k ≤ 128 ^ m
power_le k m h = pow-le-pow_right (omega arith) h

-- a text begins with one varint at most
pub one_varint : (f g r s : List ℕ) (n m : ℕ) → IsVarint f n → IsVarint g m → f ++ r ≡ g ++ s → (f ≡ g) × (n ≡ m) × (r ≡ s)
one_varint f g r s n m a b e =
    let w = whole_split f g r s a.whole b.whole e in
    (w.0, sym a.value ∙ (ap number_of w.0 ∙ b.value), w.1)

-- the digits of a number that were appended, and what is left of it
pub record Digits (old new : List ℕ) (n rest : ℕ) : Type 0 where
  pub front : List ℕ
  pub on : list_all goes_on front ≡ true
  pub each : AreBytes front
  pub value : n ≡ number_of front + 128 ^ length front * rest
  pub more : 1 ≤ length front → 1 ≤ rest
  pub appended : new ≡ old ++ front

pub number_more : (text : List ℕ) (i number unit d : ℕ) → i < length text → number ≡ number_of (take i text) → unit ≡ 128 ^ i
    → d ≡ digit (get_or text i 0) → number + unit * d ≡ number_of (take (i + 1) text)
number_more text i number unit d h v u e =
    let n = number_push (take i text) (get_or text i 0) in
    let l : length (take i text) ≡ i = length-take-le i text (omega arith) in
    rw (take_more text i 0 h, n, l, e, v, u) refl

pub on_more : (text : List ℕ) (i : ℕ) → i < length text → list_all goes_on (take i text) ≡ true → 128 ≤ get_or text i 0
    → list_all goes_on (take (i + 1) text) ≡ true
on_more text i h on big = let e = list_all_more goes_on text i 0 h in grind (arith, nat_tests, e)

whole_at : (text : List ℕ) (i : ℕ) → i < length text → list_all goes_on (take i text) ≡ true → get_or text i 0 < 128
    → is_whole (take (i + 1) text) ≡ true
whole_at text i h on l = rw (take_more text i 0 h) (whole_push (take i text) (get_or text i 0) on l)

split_at : (text : List ℕ) (i : ℕ) → text ≡ take (i + 1) text ++ take (length text - (i + 1)) (drop (i + 1) text)
split_at text i = rw (take_rest text (i + 1)) (sym (take-append-drop (i + 1) text))

pub begins_at : (text : List ℕ) (i n : ℕ) → i < length text → i < 10 → list_all goes_on (take i text) ≡ true → get_or text i 0 < 128
    → n ≡ number_of (take (i + 1) text) → n < 2 ^ 64 → BeginsVarint text n (take (length text - (i + 1)) (drop (i + 1) text))
begins_at text i n h few on l e s =
    let len : length (take (i + 1) text) ≡ i + 1 = length-take-le (i + 1) text (omega arith) in
    record {
      front = take (i + 1) text;
      varint = record { whole = whole_at text i h on l; short = omega (arith, len); value = sym e; small = s };
      split = split_at text i;
    }

pub great_at : (text : List ℕ) (i : ℕ) → i < length text → i < 10 → list_all goes_on (take i text) ≡ true → get_or text i 0 < 128
    → 2 ^ 64 ≤ number_of (take (i + 1) text) → VarintFault text BadVarint
great_at text i h few on l s =
    let len : length (take (i + 1) text) ≡ i + 1 = length-take-le (i + 1) text (omega arith) in
    great (take (i + 1) text) (take (length text - (i + 1)) (drop (i + 1) text)) (whole_at text i h on l) (omega (arith, len)) s (split_at text i)

pub cut_at : (text : List ℕ) (i : ℕ) → length text ≤ i → length text < 10 → list_all goes_on (take i text) ≡ true → VarintFault text Truncated
cut_at text i h few on = cut few (rw (← take_all i text h) on)

-- numbers of ten digits fit 128 bits
pub unit_fits : (i unit : ℕ) → i < 10 → unit ≡ 128 ^ i → unit * 128 < 2 ^ 128
unit_fits i unit h e = let p = power_le i 9 (omega arith) in omega (arith, p)

pub digits_start : (old : List ℕ) (n : ℕ) → Digits old old n n
digits_start old n = record {
  front = [];
  on = refl;
  each = tt;
  value = omega arith;
  more = λ h. absurd (omega arith);
  appended = sym (append-nil old);
}

bytes_push : (xs : List ℕ) (b : ℕ) → AreBytes xs → b < 256 → AreBytes (xs ++ b ∷ [])
bytes_push [] b h l = (l, tt)
bytes_push (x ∷ xs) b h l = (h.0, bytes_push xs b h.1 l)

byte_big : (byte rest : ℕ) → byte ≡ rest % 128 + 128 → 128 ≤ byte
byte_big byte rest e = omega arith

byte_small : (byte rest : ℕ) → byte ≡ rest % 128 + 128 → byte < 256
byte_small byte rest e = let m : rest % 128 < 128 = omega arith in omega arith

digits_value : (a u rest : ℕ) → a + u * rest ≡ a + u * (rest % 128) + u * 128 * (rest / 128)
digits_value a u rest =
    let q : rest ≡ 128 * (rest / 128) + rest % 128 = omega arith in
    let m : u * rest ≡ u * (128 * (rest / 128) + rest % 128) = ap (λ x. u * x) q in
    grind (arith, m)

pub digits_more : (old new next : List ℕ) (n rest byte : ℕ) → Digits old new n rest → 128 ≤ rest → byte ≡ rest % 128 + 128 → next ≡ new ++ byte ∷ []
    → Digits old next n (rest / 128)
digits_more old new next n rest byte d h e a =
    let f = d.front in
    let dig : digit byte ≡ rest % 128 = grind (arith, nat_tests) in
    let p : number_of (f ++ byte ∷ []) ≡ number_of f + 128 ^ length f * digit byte = number_push f byte in
    let len : length (f ++ byte ∷ []) ≡ length f + 1 = length_push f byte in
    let pow : 128 ^ (length f + 1) ≡ 128 ^ length f * 128 = pow_more 128 (length f) in
    let big : 128 ≤ byte = byte_big byte rest e in
    let on : goes_on byte ≡ true = grind (arith, nat_tests) in
    let all : list_all goes_on (f ++ byte ∷ []) ≡ (list_all goes_on f && list_all goes_on (byte ∷ [])) = list_all-append goes_on f (byte ∷ []) in
    let q : rest ≡ 128 * (rest / 128) + rest % 128 = omega arith in
    record {
      front = f ++ byte ∷ [];
      on = grind (arith, nat_tests, all, on, d.on);
      each = bytes_push f byte d.each (byte_small byte rest e);
      value = rw (p, len, pow, dig) (d.value ∙ digits_value (number_of f) (128 ^ length f) rest);
      more = λ g. omega arith;
      appended = a ∙ (ap (λ l. l ++ byte ∷ []) d.appended ∙ append_assoc old f (byte ∷ []));
    }

less_powers : (f n : ℕ) → 128 ^ f ≤ n → n < 2 ^ 64 → f ≤ 9
less_powers f n h l = ⊎_elim (λ b. omega arith) (λ b. let p = power_le 10 f b in absurd (omega (arith, p))) (cases_lt f 10)

-- each digit counts, so a front before a digit that isn't 0 is small
least : (f n rest a : ℕ) → n ≡ a + 128 ^ f * rest → (1 ≤ f → 1 ≤ rest) → 1 ≤ f → 128 ^ f ≤ n
least f n rest a e more h = let m = mul-le-mul_left (128 ^ f) (more h) in omega (arith, m)

few_digits : (f n rest a : ℕ) → n < 2 ^ 64 → n ≡ a + 128 ^ f * rest → (1 ≤ f → 1 ≤ rest) → f + 1 ≤ 10
few_digits zero n rest a s e more = omega arith
few_digits (suc f) n rest a s e more = let l = less_powers (suc f) n (least (suc f) n rest a e more (omega arith)) s in omega arith

no_shorter : (other : List ℕ) (f n rest a : ℕ) → n ≡ a + 128 ^ f * rest → (1 ≤ f → 1 ≤ rest) → AreBytes other → IsVarint other n
    → f + 1 ≤ length other
no_shorter [] f n rest a e more bytes o = let w = o.whole in absurd cc
no_shorter (x ∷ xs) zero n rest a e more bytes o = omega arith
no_shorter (x ∷ xs) (suc f) n rest a e more bytes o =
    let l = least (suc f) n rest a e more (omega arith) in
    let s = number_small (x ∷ xs) bytes in
    let v = o.value in
    ⊎_elim (λ (b : suc f < length (x ∷ xs)). omega arith)
    (λ (b : length (x ∷ xs) ≤ suc f). let p = power_le (length (x ∷ xs)) (suc f) b in absurd (omega (arith, p, s, l, v)))
    (cases_lt (suc f) (length (x ∷ xs)))

pub digit_fits : (number unit d : ℕ) → number < unit → d < 128 → number + unit * d < unit * 128
digit_fits number unit d h l = let m : unit * d ≤ unit * 127 = mul-le-mul_left unit (omega arith) in omega (arith, m)

pub digits_done : (old new next : List ℕ) (n rest : ℕ) → n < 2 ^ 64 → Digits old new n rest → rest < 128 → next ≡ new ++ rest ∷ []
    → AppendsVarint old next n
digits_done old new next n rest s d h a =
    let f = d.front in
    let text = f ++ rest ∷ [] in
    let dig : digit rest ≡ rest = grind (arith, nat_tests) in
    let p : number_of text ≡ number_of f + 128 ^ length f * digit rest = number_push f rest in
    let v : number_of text ≡ n = rw (p, dig) (sym d.value) in
    let len : length text ≡ length f + 1 = length_push f rest in
    record {
      text = text;
      shortest = record {
        varint = record {
          whole = whole_push f rest d.on h;
          short = rw len (few_digits (length f) n rest (number_of f) s d.value d.more);
          value = v;
          small = s;
        };
        each = bytes_push f rest d.each (omega arith);
        shortest = λ other bytes o. rw len (no_shorter other (length f) n rest (number_of f) d.value d.more bytes o);
      };
      appended = a ∙ (ap (λ l. l ++ rest ∷ []) d.appended ∙ append_assoc old f (rest ∷ []));
    }

pub long_at : (text : List ℕ) (i : ℕ) → i ≡ 10 → 10 ≤ length text → list_all goes_on (take i text) ≡ true → VarintFault text BadVarint
long_at text i e h on = long h (subst (λ k. list_all goes_on (take k text) ≡ true) e on)

pub no_number : (n m : ℕ) → n ≡ m → (n < 2 ^ 64 → ⊥) → 2 ^ 64 ≤ m
no_number n m e h = ⊎_elim (λ (l : n < 2 ^ 64). absurd (h l)) (λ (l : 2 ^ 64 ≤ n). omega arith) (cases_lt n (2 ^ 64))

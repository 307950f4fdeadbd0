-- The order of the names of dependencies.
use Rattle.std.proofs.Common.{◌≡◌, ◌⊎◌, inl, inr, ℕ, zero, suc, ◌+◌, ◌*◌, ◌/◌, ◌%◌, ◌^◌, ◌<◌, ◌≤◌, List, [], ◌∷◌, ◌++◌, length, codes, refl, sym, ◌∙◌, ap, subst, lit<, arith}
use Rattle.std.specs.declared.cmp.Ordering.{Ordering}
use Rattle.std.specs.declared.cmp.Ordering.TheVariants.{Less, Equal, Greater}
use Rattle.std.specs.Cmp.{nat_cmp_is}
use Rattle.std.specs.Ordering.{nat_cmp, ordering_then}
use Rattle.std.proofs.lemmas.List.{length-append}
use Rattle.std.proofs.lemmas.Bool.{cases_lt}
use Rattle.std.proofs.Math.Nat.{mod-lt, pow-suc}
use Rattle.std.proofs.lemmas.Nat.{div-add-mod'}
use Rattle.mx_base.specs.Order.{text_cmp}
use Rattle.mx_base.proofs.OrderLemmas.{same_front}
use Rattle.unit_gen.specs.Texts.{digits, path_in}

-- what follows two texts of one length changes nothing where the first comes before
less_front : (a b more other : List ℕ) → length a ≡ length b → text_cmp a b ≡ Less → text_cmp (a ++ more) (b ++ other) ≡ Less
less_front [] [] more other long less = absurd (cc)
less_front [] (y ∷ ys) more other long less = absurd (omega (arith, long))
less_front (x ∷ xs) [] more other long less = absurd (omega (arith, long))
less_front (x ∷ xs) (y ∷ ys) more other long less = at (less_front xs ys more other (omega (arith, long))) (nat_cmp x y) less
  where
    at : (text_cmp xs ys ≡ Less → text_cmp (xs ++ more) (ys ++ other) ≡ Less) → (o : Ordering) → ordering_then o (text_cmp xs ys) ≡ Less →
        ordering_then o (text_cmp (xs ++ more) (ys ++ other)) ≡ Less
    at rest Less e = refl
    at rest Equal e = rest e
    at rest Greater e = e

pub digits_long : (count number : ℕ) → length (digits count number) ≡ count
digits_long zero number = refl
digits_long (suc count) number =
    let pushed = length-append (digits count (number / 10)) ((48 + number % 10) ∷ []) in
    let front = digits_long count (number / 10) in
    omega (arith, pushed, front)

last_less : (a b : ℕ) → a < b → text_cmp (a ∷ []) (b ∷ []) ≡ Less
last_less a b less = ap (λ (o : Ordering). ordering_then o Equal) (sym (nat_cmp_is a b Less less))

-- digits of a lesser number come before
pub digits_less : (count a b : ℕ) → a < b → b < 10 ^ count → text_cmp (digits count a) (digits count b) ≡ Less
digits_less zero a b less small = absurd (omega (arith, less, small))
digits_less (suc count) a b less small = at (digits_less count (a / 10) (b / 10)) (cases_lt (a / 10) (b / 10))
  where
    first : a / 10 * 10 + a % 10 ≡ a
    first = div-add-mod' a 10

    second : b / 10 * 10 + b % 10 ≡ b
    second = div-add-mod' b 10

    first_last : a % 10 < 10
    first_last = mod-lt a (lit< tt)

    second_last : b % 10 < 10
    second_last = mod-lt b (lit< tt)

    few : b < 10 ^ count * 10
    few = subst (λ (n : ℕ). b < n) (pow-suc 10 count) small

    at : (a / 10 < b / 10 → b / 10 < 10 ^ count → text_cmp (digits count (a / 10)) (digits count (b / 10)) ≡ Less) →
        (a / 10 < b / 10) ⊎ (b / 10 ≤ a / 10) → text_cmp (digits (suc count) a) (digits (suc count) b) ≡ Less
    at fronts (inl front) =
        less_front (digits count (a / 10)) (digits count (b / 10)) ((48 + a % 10) ∷ []) ((48 + b % 10) ∷ [])
        (digits_long count (a / 10) ∙ sym (digits_long count (b / 10)))
        (fronts front (omega (arith, second, second_last, few)))
    at fronts (inr back) =
        let same : a / 10 ≡ b / 10 = omega (arith, first, second, first_last, second_last, less, back) in
        ap (λ (n : ℕ). text_cmp (digits count n ++ (48 + a % 10) ∷ []) (digits count (b / 10) ++ (48 + b % 10) ∷ [])) same
        ∙ same_front (digits count (b / 10)) ((48 + a % 10) ∷ []) ((48 + b % 10) ∷ [])
        ∙ last_less (48 + a % 10) (48 + b % 10) (omega (arith, first, second, same, less))

-- the files of a dependency come before those of later ones
pub paths_less : (a b : ℕ) (name other : List ℕ) → a < b → b < 10000 → text_cmp (path_in a name) (path_in b other) ≡ Less
paths_less a b name other less small =
    same_front (codes "libs/d") (digits 4 a ++ 47 ∷ name) (digits 4 b ++ 47 ∷ other)
    ∙ less_front (digits 4 a) (digits 4 b) (47 ∷ name) (47 ∷ other) (digits_long 4 a ∙ sym (digits_long 4 b)) (digits_less 4 a b less small)

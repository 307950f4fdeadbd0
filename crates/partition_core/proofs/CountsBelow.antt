-- How many places below a number pass a test.
use Rattle.std.proofs.Common.{◌≡◌, ℕ, zero, suc, ◌+◌, ◌<◌, ◌≤◌, ◌⊎◌, inl, inr, Bool, true, false, cond, refl, ◌∙◌, ap, arith}
use Rattle.std.proofs.lemmas.Bool.{cases_eq, cases_lt}
use Rattle.partition_core.specs.Counts.{count_below}

-- one more at the end
count_more : (f : ℕ → Bool) (n : ℕ) (b : Bool) → f n ≡ b → count_below f (suc n) ≡ cond b 1 0 + count_below f n
count_more f n b e = ap (λ (c : Bool). cond c 1 0 + count_below f n) e

pub count_le : (f g : ℕ → Bool) (n : ℕ) → ((p : ℕ) → p < n → f p ≡ true → g p ≡ true) → count_below f n ≤ count_below g n
count_le f g zero h = omega arith
count_le f g (suc n) h = by_test (f n) (g n) refl refl (count_le f g n (λ p below. h p (omega arith)))
  where
    by_test : (a b : Bool) → f n ≡ a → g n ≡ b → count_below f n ≤ count_below g n → count_below f (suc n) ≤ count_below g (suc n)
    by_test false false fa gb rest = omega (arith, count_more f n false fa, count_more g n false gb)
    by_test false true fa gb rest = omega (arith, count_more f n false fa, count_more g n true gb)
    by_test true false fa gb rest = let passes = h n (omega arith) fa in cc
    by_test true true fa gb rest = omega (arith, count_more f n true fa, count_more g n true gb)

-- one place more
pub count_lt : (f g : ℕ → Bool) (n q : ℕ) → ((p : ℕ) → p < n → f p ≡ true → g p ≡ true) → q < n → f q ≡ false → g q ≡ true →
    count_below f n + 1 ≤ count_below g n
count_lt f g zero q h below fq gq = absurd (omega arith)
count_lt f g (suc n) q h below fq gq = by_place (λ lower. count_lt f g n q (λ p inside. h p (omega arith)) lower fq gq) (cases_lt q n)
  where
    fewer : count_below f n ≤ count_below g n
    fewer = count_le f g n (λ p lower. h p (omega arith))

    same_end : (a b : Bool) → f n ≡ a → g n ≡ b → count_below f n + 1 ≤ count_below g n → count_below f (suc n) + 1 ≤ count_below g (suc n)
    same_end false false fa gb rest = omega (arith, count_more f n false fa, count_more g n false gb)
    same_end false true fa gb rest = omega (arith, count_more f n false fa, count_more g n true gb)
    same_end true false fa gb rest = let passes = h n (omega arith) fa in cc
    same_end true true fa gb rest = omega (arith, count_more f n true fa, count_more g n true gb)

    by_place : (q < n → count_below f n + 1 ≤ count_below g n) → ((q < n) ⊎ (n ≤ q)) → count_below f (suc n) + 1 ≤ count_below g (suc n)
    by_place rest (inl lower) = same_end (f n) (g n) refl refl (rest lower)
    by_place rest (inr up) =
        let e : n ≡ q = omega arith in
        omega (arith, fewer, count_more f n false (ap f e ∙ fq), count_more g n true (ap g e ∙ gq))

-- one place less at most
pub count_less : (f g : ℕ → Bool) (n q : ℕ) → ((p : ℕ) → p < n → (p ≡ q → ⊥) → f p ≡ true → g p ≡ true) → count_below f n ≤ count_below g n + 1
count_less f g zero q h = omega arith
count_less f g (suc n) q h = by_place (count_less f g n q (λ p inside. h p (omega arith))) (cases_eq n q)
  where
    at_end : (a b : Bool) → f n ≡ a → g n ≡ b → count_below f n ≤ count_below g n → count_below f (suc n) ≤ count_below g (suc n) + 1
    at_end false false fa gb rest = omega (arith, count_more f n false fa, count_more g n false gb)
    at_end false true fa gb rest = omega (arith, count_more f n false fa, count_more g n true gb)
    at_end true false fa gb rest = omega (arith, count_more f n true fa, count_more g n false gb)
    at_end true true fa gb rest = omega (arith, count_more f n true fa, count_more g n true gb)

    before_end : (n ≡ q → ⊥) → (a b : Bool) → f n ≡ a → g n ≡ b → count_below f n ≤ count_below g n + 1 → count_below f (suc n) ≤ count_below g (suc n) + 1
    before_end other false false fa gb rest = omega (arith, count_more f n false fa, count_more g n false gb)
    before_end other false true fa gb rest = omega (arith, count_more f n false fa, count_more g n true gb)
    before_end other true false fa gb rest = let passes = h n (omega arith) other fa in cc
    before_end other true true fa gb rest = omega (arith, count_more f n true fa, count_more g n true gb)

    by_place : count_below f n ≤ count_below g n + 1 → ((n ≡ q) ⊎ (n ≡ q → ⊥)) → count_below f (suc n) ≤ count_below g (suc n) + 1
    by_place rest (inl same) = at_end (f n) (g n) refl refl (count_le f g n (λ p lower. h p (omega arith) (λ e. omega arith)))
    by_place rest (inr other) = before_end other (f n) (g n) refl refl rest

-- Numbers of a stream, from another place of it.
use Rattle.std.proofs.Common.{◌≡◌, ℕ, zero, suc, ◌+◌, ◌/◌, List, ◌∷◌, ap, ap₂, refl, ◌∙◌, add-one, arith}
use Rattle.unit_gen.specs.Stream.{draw_at, draws, number_at, step}

pub number_next : (x n : ℕ) → number_at x (n + 1) ≡ step (number_at x n)
number_next x n = ap (number_at x) (add-one n)

pub number_more : (x a b : ℕ) → number_at (number_at x a) b ≡ number_at x (a + b)
number_more x a zero = let same : a ≡ a + 0 = omega arith in ap (number_at x) same
number_more x a (suc b) = let same : suc (a + b) ≡ a + suc b = omega arith in ap step (number_more x a b) ∙ ap (number_at x) same

draw_more : (x a place : ℕ) → draw_at (number_at x a) place ≡ draw_at x (a + place)
draw_more x a place = ap (λ (n : ℕ). step n / 65536) (number_more x a place)

pub draws_more : (x a b count : ℕ) → draws (number_at x a) b count ≡ draws x (a + b) count
draws_more x a b zero = refl
draws_more x a b (suc count) =
    let same : a + (b + 1) ≡ a + b + 1 = omega arith in
    ap₂ (λ (d : ℕ) (ds : List ℕ). d ∷ ds) (draw_more x a b) (draws_more x a (b + 1) count ∙ ap (λ (n : ℕ). draws x n count) same)

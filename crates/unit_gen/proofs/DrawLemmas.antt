-- What is drawn for a dependency.
use Rattle.std.proofs.Common.{◌≡◌, ℕ, ◌+◌, ◌-◌, ◌<◌, ◌≤◌, Bool, List, [], ◌∷◌, ◌++◌, map, cond, refl, sym, ◌∙◌, ap, slice_index_or, arith}
use Rattle.std.specs.List.{All, range_with_len}
use Rattle.std.proofs.lemmas.List.{length-map, map-append}
use Rattle.std.proofs.lemmas.List.Elements.{All-map}
use Rattle.std.proofs.lemmas.List.FromFn.{length-range_with_len, map-range_with_len_more}
use Rattle.std.proofs.Math.Nat.{mod-lt}
use Rattle.unit_gen.specs.Dependency.{AreNeedsOf, asked, dependencies, drawn, drawn_after, firsts, need_of}
use Rattle.unit_gen.specs.Stream.{draw_at, draws, number_at}
use Rattle.unit_gen.proofs.StreamLemmas.{draws_more, number_more}
use Rattle.unit_gen.proofs.FirstLemmas.{All-firsts, firsts_apart, firsts_push, has, has-firsts}

pub draws_push : (x count : ℕ) → draws x 0 (count + 1) ≡ draws x 0 count ++ draw_at x count ∷ []
draws_push x count = map-range_with_len_more (draw_at x) 0 count count (omega arith)

-- one need more is drawn
pub needs_push : (number x count : ℕ) →
    firsts (map (need_of number) (draws x 0 (count + 1))) ≡
    cond (has (need_of number (draw_at x count)) (map (need_of number) (draws x 0 count)))
    (firsts (map (need_of number) (draws x 0 count)))
    (firsts (map (need_of number) (draws x 0 count)) ++ need_of number (draw_at x count) ∷ [])
needs_push number x count =
    ap firsts (ap (map (need_of number)) (draws_push x count) ∙ map-append (need_of number) (draws x 0 count) (draw_at x count ∷ []))
    ∙ firsts_push (map (need_of number) (draws x 0 count)) (need_of number (draw_at x count))

-- .. which is added unless it is there
pub needs_more : (number x place : ℕ) (old new : List ℕ) (drawn : ℕ) (there : Bool) → old ≡ firsts (map (need_of number) (draws x 0 place)) →
    drawn ≡ draw_at x place → there ≡ has (need_of number drawn) old → new ≡ cond there old (old ++ need_of number drawn ∷ []) →
    new ≡ firsts (map (need_of number) (draws x 0 (place + 1)))
needs_more number x place old new drawn there so_far is found made =
    let all : List ℕ = map (need_of number) (draws x 0 place) in
    let among : there ≡ has (need_of number (draw_at x place)) all =
    found ∙ (λ i. has (need_of number (is i)) (so_far i)) ∙ has-firsts all (need_of number (draw_at x place)) in
    made ∙ (λ i. cond (among i) (so_far i) (so_far i ++ need_of number (is i) ∷ [])) ∙ sym (needs_push number x place)

-- the draws behind the first one
pub later_draws : (x count : ℕ) → draws (number_at x 1) 0 count ≡ draws x 1 count
later_draws x count = draws_more x 1 0 count

pub later_number : (x count : ℕ) → number_at (number_at x 1) count ≡ number_at x (1 + count)
later_number x count = number_more x 1 count

-- one dependency more
pub dependencies_push : (start count : ℕ) → dependencies start (count + 1) ≡ dependencies start count ++ drawn_after start count ∷ []
dependencies_push start count = map-range_with_len_more (drawn_after start) 0 count count (omega arith)

-- what is drawn for a dependency is before it
need_before : (number draw : ℕ) → 2 ≤ number → need_of number draw < number
need_before number draw two =
    let positive : 0 < number - 1 = omega (arith, two) in
    omega (arith, two, mod-lt draw positive)

-- where a need is drawn there is a dependency before
pub needs_before : (number count x : ℕ) → count ≡ asked x number → All (λ need. need < number) (map (need_of number) (draws x 1 count))
needs_before number count x is =
    All-map (λ need. need < number) (need_of number) (draws x 1 count) (λ k d within.
    let long = length-map (range_with_len 1 count) (draw_at x) ∙ length-range_with_len 1 count in
    need_before number (slice_index_or (draws x 1 count) k d) (omega (arith, within, long, is)))

pub are_needs : (x number : ℕ) → AreNeedsOf number (drawn x number).needs
are_needs x number = record {
  some = All-firsts (λ need. 1 ≤ need) (map (need_of number) (draws x 1 (asked x number)))
      (All-map (λ need. 1 ≤ need) (need_of number) (draws x 1 (asked x number)) (λ k d within. omega arith));
  before = All-firsts (λ need. need < number) (map (need_of number) (draws x 1 (asked x number))) (needs_before number (asked x number) x refl);
  apart = firsts_apart (map (need_of number) (draws x 1 (asked x number)));
}

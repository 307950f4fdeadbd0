-- The candidates of a package have one order.
use Rattle.std.proofs.Common.{◌≡◌, ℕ, zero, suc, ◌+◌, ◌<◌, Bool, true, false, List, [], ◌∷◌, length, get_or, slice_get, Option, Some, None, IsTrue, ◌⊎◌, inl, inr, refl, sym, ap, subst, ◌∙◌, arith, ◌↔◌, eqb, Less, Equal, Greater, Ordering}
use Rattle.std.specs.List.{AllPairs, Contains}
use Rattle.std.specs.Ordering.{ordering_reverse}
use Rattle.std.proofs.lemmas.Bool.{eqb-true, eq-eqb}
use Rattle.std.proofs.lemmas.Option.{get_or_from_slice_get, slice_get_within}
use Rattle.hex_registry.specs.Candidates.{AreCandidates, AreCandidatesOf, ComesBefore, IsCandidate, Ranked, candidate_cmp, is_place, is_usable_at, is_usable_in, locked_place}
use Rattle.hex_registry.specs.Offers.{is_usable}
use Rattle.hex_registry.specs.declared.offer.Offer.{Offer}
use Rattle.hex_registry.specs.declared.shelf.Stock.{Stock}
use Rattle.hex_registry.proofs.CandidateLemmas.{candidate_total}
use Rattle.hex_registry.proofs.Lists.{contains_cases, contains_none, here, there}
use Rattle.hex_registry.proofs.UsableLemmas.{is_place_decides}

-- a usable release, ranked
pub record IsRanked (stock : Stock) (locked : Option ℕ) (place : ℕ) : Type 0 where
  pub ranked : Ranked
  pub is : IsCandidate stock locked ranked
  pub at : ranked.place ≡ place

pub rank_of : (stock : Stock) (locked : Option ℕ) (place : ℕ) → IsTrue (is_usable_at stock place) → IsRanked stock locked place
rank_of stock locked place usable = at (slice_get stock.offers place) refl usable
  where
    at : (o : Option Offer) → slice_get stock.offers place ≡ o → IsTrue (is_usable_in o) → IsRanked stock locked place
    at None e h = absurd (cc)
    at (Some offer) e h =
        record {
          ranked = record { place = place; locked = is_place locked place; offer = offer };
          is = record { at = e; usable = h; is_locked = is_place_decides locked place };
          at = refl;
        }

one_way : (one other : Ranked) → candidate_cmp one other ≡ Less → candidate_cmp other one ≡ Less → ⊥
one_way one other e f = let k : Less ≡ Greater = sym e ∙ (candidate_total.antisymm one other ∙ ap ordering_reverse f) in cc

-- no two usable places stand before one another
pub comes_one_way : (stock : Stock) (locked : Option ℕ) (place other : ℕ) → IsTrue (is_usable_at stock place) → IsTrue (is_usable_at stock other)
    → ComesBefore stock locked place other → ComesBefore stock locked other place → ⊥
comes_one_way stock locked place other u v before after =
    let r = rank_of stock locked place u in
    let s = rank_of stock locked other v in
    one_way r.ranked s.ranked (before r.ranked s.ranked r.is s.is r.at s.at) (after s.ranked r.ranked s.is r.is s.at r.at)

pairs_head : (R : ℕ → ℕ → Type 0) (x : ℕ) (xs : List ℕ) (y : ℕ) → AllPairs R (x ∷ xs) → Contains xs y → R x y
pairs_head R x xs y all c = subst (λ (z : ℕ). R x z) c.2 (all 0 (suc c.0) y (omega arith) (let below = c.1 in omega (arith, below)))

pairs_tail : (R : ℕ → ℕ → Type 0) (x : ℕ) (xs : List ℕ) → AllPairs R (x ∷ xs) → AllPairs R xs
pairs_tail R x xs all i j d less below = all (suc i) (suc j) d (omega (arith, less)) (omega (arith, below))

-- each place stands once
pub once : (R : ℕ → ℕ → Type 0) (xs : List ℕ) (i j place : ℕ) → AllPairs R xs → (R place place → ⊥) → slice_get xs i ≡ Some place
    → slice_get xs j ≡ Some place → i ≡ j
once R [] i j place all never e f = absurd (cc)
once R (x ∷ xs) zero zero place all never e f = refl
once R (x ∷ xs) zero (suc j) place all never e f =
    let same : x ≡ place = cc in
    absurd (never (subst (λ (z : ℕ). R z place) same (pairs_head R x xs place all
    (j, slice_get_within xs j place f, get_or_from_slice_get xs j place place f))))
once R (x ∷ xs) (suc i) zero place all never e f =
    let same : x ≡ place = cc in
    absurd (never (subst (λ (z : ℕ). R z place) same (pairs_head R x xs place all
    (i, slice_get_within xs i place e, get_or_from_slice_get xs i place place e))))
once R (x ∷ xs) (suc i) (suc j) place all never e f = ap suc (once R xs i j place (pairs_tail R x xs all) never e f)

tail_of : (R : ℕ → ℕ → Type 0) (x y : ℕ) (xs ys : List ℕ) → x ≡ y → AllPairs R (x ∷ xs) → (R x x → ⊥) → ((z : ℕ) → Contains (x ∷ xs) z → Contains (y ∷ ys) z)
    → (z : ℕ) → Contains xs z → Contains ys z
tail_of R x y xs ys same all never kept z has =
    elim (contains_cases y z ys (kept z (there x z xs has))) [
      | inl first ↦ absurd (never (subst (λ (w : ℕ). R x w) (sym (same ∙ first)) (pairs_head R x xs z all has)))
      | inr rest ↦ rest
    ]

-- two lists in one order with the same elements are one
same_order : (R : ℕ → ℕ → Type 0) (xs ys : List ℕ) → AllPairs R xs → AllPairs R ys → ((x y : ℕ) → Contains xs x → Contains xs y → R x y → R y x → ⊥)
    → ((z : ℕ) → Contains xs z → Contains ys z) → ((z : ℕ) → Contains ys z → Contains xs z) → xs ≡ ys
same_order R [] [] o p way to from = refl
same_order R [] (y ∷ ys) o p way to from = absurd (contains_none y (from y (here y ys)))
same_order R (x ∷ xs) [] o p way to from = absurd (contains_none x (to x (here x xs)))
same_order R (x ∷ xs) (y ∷ ys) o p way to from =
    let same : x ≡ y =
    elim (contains_cases y x ys (to x (here x xs))) [
      | inl e ↦ sym e
      | inr c ↦ elim (contains_cases x y xs (from y (here y ys))) [
        | inl e ↦ e
        | inr d ↦ absurd (way x y (here x xs) (there x y xs d) (pairs_head R x xs y o d) (pairs_head R y ys x p c))
      ]
    ] in
    let never : R x x → ⊥ = λ (r : R x x). way x x (here x xs) (here x xs) r r in
    let never_other : R y y → ⊥ = λ (r : R y y). never (subst (λ (w : ℕ). R w w) (sym same) r) in
    let rest = same_order R xs ys (pairs_tail R x xs o) (pairs_tail R y ys p) (λ a b c d. way a b (there x a xs c) (there x b xs d))
    (tail_of R x y xs ys same o never to) (tail_of R y x ys xs (sym same) p never_other from) in
    ap (λ (z : ℕ). z ∷ xs) same ∙ ap (λ (zs : List ℕ). y ∷ zs) rest

pub one_order : (stock : Stock) (locked : Option (List ℕ)) (places others : List ℕ) → AreCandidates stock locked places → AreCandidates stock locked others
    → places ≡ others
one_order stock locked places others a b =
    same_order (ComesBefore stock (locked_place stock locked)) places others a.in_order b.in_order
    (λ x y c d. comes_one_way stock (locked_place stock locked) x y ((a.each x).0 c) ((a.each y).0 d))
    (λ z c. (b.each z).1 ((a.each z).0 c))
    (λ z c. (a.each z).1 ((b.each z).0 c))

pub one_order_of : (stock : Option Stock) (locked : Option (List ℕ)) (places others : List ℕ) → AreCandidatesOf stock locked places
    → AreCandidatesOf stock locked others → places ≡ others
one_order_of None locked places others a b = a ∙ sym b
one_order_of (Some stock) locked places others a b = one_order stock locked places others a b

-- and each place stands there once
pub once_of : (stock : Option Stock) (locked : Option (List ℕ)) (places : List ℕ) (i j place : ℕ) → AreCandidatesOf stock locked places
    → slice_get places i ≡ Some place → slice_get places j ≡ Some place → i ≡ j
once_of None locked places i j place a e f = absurd (let k : slice_get [] i ≡ Some place = subst (λ (ps : List ℕ). slice_get ps i ≡ Some place) a e in cc)
once_of (Some stock) locked places i j place a e f =
    let u : IsTrue (is_usable_at stock place) = (a.each place).0 (i, slice_get_within places i place e, get_or_from_slice_get places i place place e) in
    once (ComesBefore stock (locked_place stock locked)) places i j place a.in_order
    (λ r. comes_one_way stock (locked_place stock locked) place place u u r r) e f

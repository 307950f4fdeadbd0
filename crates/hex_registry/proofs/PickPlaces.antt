-- Whether neighbours are in order.
use Rattle.std.proofs.Common.{◌≡◌, ℕ, zero, suc, ◌+◌, ◌<◌, ◌≤◌, ◌↔◌, Bool, true, false, not, cond, List, [], ◌∷◌, map, get_or, length, position, nat_lt, Option, Some, None, IsTrue, refl, sym, ap, ◌∙◌, arith, Less, Equal, Greater, Ordering}
use native.Mathlib.Numerals.{unary_clauses}
use Rattle.std.specs.List.{IsAllAdjacentAnswer}
use Rattle.std.specs.Ordering.{is_lt}
use Rattle.mx_base.specs.Order.{text_cmp}
use Rattle.hex_registry.specs.Picks.{Picked, ArePicks}
use Rattle.hex_registry.proofs.PickLists.{before_later}

-- neighbours in order make picks in order
abbrev RisesAt : List Picked → ℕ → Picked → Type 0
RisesAt pick k d = text_cmp (get_or pick k d).0 (get_or pick (k + 1) d).0 ≡ Less

in_order_steps : (pick : List Picked) → ((k : ℕ) (d : Picked) → k + 1 < length pick → RisesAt pick k d) → ArePicks pick
in_order_steps [] steps = tt
in_order_steps (first ∷ []) steps = (tt, tt)
in_order_steps (first ∷ (next ∷ rest)) steps =
    let less : text_cmp first.0 next.0 ≡ Less = steps 0 first (omega arith) in
    let more = in_order_steps (next ∷ rest) (λ k d below. simp unary_clauses (simp unary_clauses at (steps (suc k) d (omega (arith, below))))) in
    ((less, before_later first.0 next.0 (map (λ (q : Picked). q.0) rest) less more.0), more)

steps_in_order : (pick : List Picked) (k : ℕ) (d : Picked) → ArePicks pick → k + 1 < length pick → RisesAt pick k d
steps_in_order [] k d o below = absurd (omega (arith, below))
steps_in_order (first ∷ []) k d o below = absurd (omega (arith, below))
steps_in_order (first ∷ (next ∷ rest)) zero d o below = o.0.0
steps_in_order (first ∷ (next ∷ rest)) (suc k) d o below =
    simp unary_clauses (simp unary_clauses at (steps_in_order (next ∷ rest) k d o.1 (omega (arith, below))))

less_from_test : (o : Ordering) → true ≡ is_lt o → o ≡ Less
less_from_test Less e = refl
less_from_test Equal e = absurd (cc)
less_from_test Greater e = absurd (cc)

not_less : (o : Ordering) → o ≡ Less → false ≡ is_lt o → ⊥
not_less o e f = let k : true ≡ false = sym (ap is_lt e) ∙ sym f in cc

-- what a test of neighbours says of the order
pub order_of_answer : (pick : List Picked) (answer : Bool)
    → IsAllAdjacentAnswer (λ (one next : Picked) (b : Bool). b ≡ is_lt (text_cmp one.0 next.0)) pick answer → IsTrue answer ↔ ArePicks pick
order_of_answer pick true all = (
  (λ _. in_order_steps pick (λ k d below. less_from_test (text_cmp (get_or pick k d).0 (get_or pick (k + 1) d).0) (all k d below))),
  (λ _. refl),
)
order_of_answer [] false some = ((λ h. absurd (cc)), (λ o. absurd (omega (arith, some.1))))
order_of_answer (first ∷ rest) false some = (
  (λ h. absurd (cc)),
  (λ o. absurd (not_less (text_cmp (get_or (first ∷ rest) some.0 first).0 (get_or (first ∷ rest) (some.0 + 1) first).0)
      (steps_in_order (first ∷ rest) some.0 first o some.1) (some.2 first))),
)

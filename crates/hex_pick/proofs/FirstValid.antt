-- The first valid pick among the nodes is the best.
use Rattle.std.proofs.Common.{◌≡◌, ℕ, zero, suc, ◌+◌, ◌<◌, ◌≤◌, Bool, true, false, not, cond, List, [], ◌∷◌, ◌++◌, map, filter, drop, slice_get, Option, Some, None, ◌⊎◌, inl, inr, refl, sym, ap, subst, ◌∙◌, arith, append-nil}
use Rattle.std.specs.List.{Contains}
use Rattle.std.proofs.lemmas.List.Elements.{Contains-append_left, Contains-append_right, Contains-append_cases}
use Rattle.hex_registry.specs.Picks.{Picked, with_picked}
use Rattle.hex_registry.proofs.Lists.{contains_cases, contains_none, here, there}
use Rattle.hex_pick.specs.Problem.{AreTried, Problem, agrees, children, children_at, decided_by, next_needed}
use Rattle.hex_pick.specs.Tree.{AreNodes, IsBest, IsPreferred, IsValidFor, Leads}
use Rattle.hex_pick.specs.Tree.AreNodes.{none, next}
use Rattle.hex_pick.specs.Tree.Leads.{stays, goes}
use Rattle.hex_pick.specs.Outcome.{AreAllNodes}
use Rattle.hex_pick.proofs.Universe.{contains_get}
use Rattle.hex_pick.proofs.Ways.{child_in, leads_to_valid, led_complete, then_leads, valid_complete}
use Rattle.hex_pick.proofs.Nodes.{in_led, led_in}
use Rattle.hex_pick.specs.Standing.{decided_from}
use Rattle.hex_pick.proofs.Standing.{parts_preferred, preferred_on, sibling_preferred}

-- each of them is reached, and preferred to each later one
data InOrder (problem : Problem) : List (List Picked) → Type 0 where
  last : InOrder problem []
  first : {root : List Picked} {roots : List (List Picked)} → Leads problem [] root → ((other : List Picked) → Contains roots other
      → IsPreferred problem root other) → InOrder problem roots → InOrder problem (root ∷ roots)

dropped : {A : Type 0} (x : A) (xs ys : List A) (n : ℕ) → drop n ys ≡ x ∷ xs → (slice_get ys n ≡ Some x) × (drop (suc n) ys ≡ xs)
dropped x xs [] zero e = absurd (cc)
dropped x xs [] (suc n) e = absurd (cc)
dropped x xs (y ∷ ys) zero e = let head : y ≡ x = cc in let tail : ys ≡ xs = cc in (ap Some head, tail)
dropped x xs (y ∷ ys) (suc n) e = dropped x xs ys n e

-- the decisions by what is left of the candidates
decided_in_order : (problem : Problem) (pick : List Picked) (name : List ℕ) (places : List ℕ) (n : ℕ) → Leads problem [] pick
    → next_needed problem pick ≡ Some name → drop n (problem.candidates name) ≡ places → InOrder problem (decided_by problem pick name places)
decided_in_order problem pick name [] n way is e = last
decided_in_order problem pick name (place ∷ places) n way is e =
    let d = dropped place places (problem.candidates name) n e in
    let more = decided_in_order problem pick name places (suc n) way is d.1 in
    (elim (agrees problem (with_picked pick (name, place))) as (λ b. agrees problem (with_picked pick (name, place)) ≡ b
    → InOrder problem (cond b (with_picked pick (name, place) ∷ decided_by problem pick name places) (decided_by problem pick name places))) [
      | true ↦ (λ agreed.
          let child : Contains (children problem pick) (with_picked pick (name, place)) = child_in problem pick name place is
          (contains_get (problem.candidates name) n place d.0) agreed in
          first (then_leads [] pick (with_picked pick (name, place)) way (goes child stays))
          (λ other c. sibling_preferred problem pick name n place (suc n) other way is d.0 agreed (omega arith)
          (subst (λ (ps : List ℕ). Contains (decided_by problem pick name ps) other) (sym d.1) c))
          more)
      | false ↦ (λ agreed. more)
    ]) refl

all_in_order : (problem : Problem) (pick : List Picked) → Leads problem [] pick → InOrder problem (children problem pick)
all_in_order problem pick way = at (next_needed problem pick) refl
  where
    at : (o : Option (List ℕ)) → next_needed problem pick ≡ o → InOrder problem (children_at problem pick o)
    at None e = last
    at (Some name) e = decided_in_order problem pick name (problem.candidates name) 0 way e refl

-- a place in two lists together
record InFirst (xs ys before : List (List Picked)) (x : List Picked) (after : List (List Picked)) : Type 0 where
  rest : List (List Picked)
  is : xs ≡ before ++ x ∷ rest
  after_is : after ≡ rest ++ ys

record InSecond (xs ys before : List (List Picked)) (x : List Picked) (after : List (List Picked)) : Type 0 where
  skipped : List (List Picked)
  is : ys ≡ skipped ++ x ∷ after

place_in : (xs ys before : List (List Picked)) (x : List Picked) (after : List (List Picked)) → xs ++ ys ≡ before ++ x ∷ after
    → InFirst xs ys before x after ⊎ InSecond xs ys before x after
place_in [] ys before x after e = inr (record { skipped = before; is = e })
place_in (y ∷ xs) ys [] x after e =
    let head : y ≡ x = cc in
    let tail : after ≡ xs ++ ys = cc in
    inl (record { rest = xs; is = ap (λ (z : List Picked). z ∷ xs) head; after_is = tail })
place_in (y ∷ xs) ys (z ∷ before) x after e =
    let head : y ≡ z = cc in
    let tail : xs ++ ys ≡ before ++ x ∷ after = cc in
    elim (place_in xs ys before x after tail) [
      | inl k ↦ inl (record {
        rest = k.rest;
        is = ap (λ (w : List Picked). w ∷ xs) head ∙ ap
            (λ (ws : List (List Picked)). z ∷ ws) k.is;
        after_is = k.after_is;
      })
      | inr k ↦ inr (record { skipped = k.skipped; is = k.is })
    ]

-- a later node lies below an earlier one, or the earlier one is preferred to it
later_node : {problem : Problem} (roots nodes before after : List (List Picked)) (one other : List Picked) → InOrder problem roots
    → AreNodes problem roots nodes → nodes ≡ before ++ one ∷ after → Contains after other → Leads problem one other ⊎ IsPreferred problem one other
later_node _ _ [] after one other order none e c = absurd (cc)
later_node _ _ (x ∷ before) after one other order none e c = absurd (cc)
later_node {problem} _ _ [] after one other (first way parts order) (next {node = node} {roots = roots} {below = below} {more = more} down rest) e c =
    let head : node ≡ one = cc in
    let tail : after ≡ below ++ more = cc in
    elim (Contains-append_cases below more other (subst (λ (ns : List (List Picked)). Contains ns other) tail c)) [
      | inl h ↦ (let k = in_led (children problem node) below other down h in inl (subst (λ (p : List Picked). Leads problem p other) head (goes k.1 k.2)))
      | inr h ↦ (let k = in_led roots more other rest h in
          inr (subst (λ (p : List Picked). IsPreferred problem p other) head (parts_preferred node k.0 other (parts k.0 k.1) k.2)))
    ]
later_node {problem} _ _ (x ∷ before) after one other (first way parts order) (next {node = node} {roots = roots} {below = below} {more = more} down rest) e c =
    let tail : below ++ more ≡ before ++ one ∷ after = cc in
    elim (place_in below more before one after tail) [
      | inl k ↦ elim (Contains-append_cases k.rest more other (subst (λ (ns : List (List Picked)). Contains ns other) k.after_is c)) [
        | inl h ↦ later_node (children problem node) below before k.rest one other (all_in_order problem node way) down k.is h
        | inr h ↦ (let l = in_led roots more other rest h in
            let stands : Contains below one = subst (λ (ns : List (List Picked)). Contains ns one) (sym k.is)
            (Contains-append_right before (one ∷ k.rest) one (here one k.rest)) in
            let m = in_led (children problem node) below one down stands in
            inr (parts_preferred one l.0 other (preferred_on node l.0 one (parts l.0 l.1) (goes m.1 m.2)) l.2))
      ]
      | inr k ↦ later_node roots more k.skipped after one other order rest k.is c
    ]

pub first_best : (problem : Problem) (nodes before after : List (List Picked)) (pick : List Picked)
    → AreTried problem.shelves problem.wants problem.candidates → AreAllNodes problem nodes → [] ∷ nodes ≡ before ++ pick ∷ after
    → ((other : List Picked) → Contains before other → IsValidFor problem other → ⊥) → IsValidFor problem pick → IsBest problem pick
first_best problem nodes before after pick tried all is none_before valid =
    let whole : AreNodes problem ([] ∷ []) ([] ∷ (nodes ++ [])) = next all none in
    let same : [] ∷ (nodes ++ []) ≡ before ++ pick ∷ after = ap (λ (ns : List (List Picked)). [] ∷ ns) (append-nil nodes) ∙ is in
    let order : InOrder problem ([] ∷ []) = first stays (λ other c. absurd (contains_none other c)) last in
    let at_node : (other : List Picked) → IsValidFor problem other → Contains ([] ∷ nodes) other → (other ≡ pick) ⊎ IsPreferred problem pick other =
    λ other v c. elim (Contains-append_cases before (pick ∷ after) other (subst (λ (ns : List (List Picked)). Contains ns other) is c)) [
      | inl h ↦ absurd (none_before other h v)
      | inr h ↦ elim (contains_cases pick other after h) [
        | inl e ↦ inl (sym e)
        | inr l ↦ elim (later_node ([] ∷ []) ([] ∷ (nodes ++ [])) before after pick other order whole same l) [
          | inl way ↦ inl (sym (led_complete pick other (valid_complete problem pick valid) way))
          | inr k ↦ inr k
        ]
      ]
    ] in
    record {
      valid = valid;
      preferred = λ other v. elim (led_in [] other nodes (leads_to_valid problem other tried v) all) [
        | inl e ↦ at_node other v (subst (λ (p : List Picked). Contains ([] ∷ nodes) p) e (here [] nodes))
        | inr c ↦ at_node other v (there [] other nodes c)
      ];
    }

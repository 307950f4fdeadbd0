-- What the search knows where it ends.
use Rattle.std.proofs.Common.{◌≡◌, ℕ, suc, ◌+◌, ◌<◌, ◌≤◌, List, [], ◌∷◌, ◌++◌, length, Option, Some, None, ◌⊎◌, inl, inr, refl, sym, ap, subst, ◌∙◌, arith, append_assoc, append-nil, IfSome, IfNone}
use Rattle.std.specs.List.{Contains}
use Rattle.std.proofs.lemmas.List.{length_push}
use Rattle.std.proofs.lemmas.List.Elements.{Contains-append_cases, Contains-push_cases}
use Rattle.hex_registry.specs.Picks.{Picked}
use Rattle.hex_pick.specs.Problem.{AreTried, Problem, next_needed}
use Rattle.hex_pick.specs.Tree.{AreNodes, IsBest, IsPreferred, IsValidFor}
use Rattle.hex_pick.specs.Tree.AreNodes.{none}
use Rattle.hex_pick.specs.Outcome.{AreAllNodes, ComesWithin, HasNoPick, PassesLimit}
use Rattle.hex_registry.proofs.Lists.{here, there}
use Rattle.hex_pick.proofs.Nodes.{all_nodes, in_led, led_in}
use Rattle.hex_pick.proofs.Ways.{ends_valid, leads_to_valid, valid_complete}
use Rattle.hex_pick.specs.Standing.{Phase, Position, Stacked, StandsAt, decided_from, left}
use Rattle.hex_pick.proofs.Standing.{later_parts, parts_preferred, stacked_way}
use Rattle.hex_pick.specs.Standing.Stacked.{start, on}
use Rattle.hex_pick.specs.Standing.Phase.{fresh, again}
use Rattle.hex_pick.proofs.Moves.{all_unfinished, dead_at_pop, left_none, left_some}

-- a valid pick is none of those with something to decide
not_valid : (problem : Problem) (pick : List Picked) (name : List ℕ) → next_needed problem pick ≡ Some name → IsValidFor problem pick → ⊥
not_valid problem pick name is v = let clash : Some name ≡ None = sym is ∙ valid_complete problem pick v in cc

pub passes : (problem : Problem) (p : Position) (limit : ℕ) (name : List ℕ) → StandsAt problem p → next_needed problem p.pick ≡ Some name → limit < p.count
    → PassesLimit problem limit
passes problem p limit name s is many =
    let rest = all_nodes problem (left problem p.pick p.from ++ s.later) in
    record {
      before = s.seen;
      after = rest.0;
      all = s.nodes rest.0 rest.1;
      many = omega (arith, many, s.counted);
      first = λ other c v. (let k = all_unfinished problem p.pick
          ([] ∷ s.seen) s.earlier p.from name p.dead s.phase is s.unfinished other c in not_valid problem other k.0 k.1 v);
    }

bottom : {problem : Problem} (pick : List Picked) (later : List (List Picked)) → Stacked problem pick [] later → later ≡ []
bottom _ _ start = refl

pub has_none : (problem : Problem) (p : Position) (limit : ℕ) (name first : List ℕ) → AreTried problem.shelves problem.wants problem.candidates
    → StandsAt problem p → next_needed problem p.pick ≡ Some name → decided_from problem p.pick name p.from ≡ [] → p.frames ≡ [] → p.count ≤ limit
    → IfSome p.dead (λ d. first ≡ d) → IfNone p.dead (first ≡ name) → HasNoPick problem limit first
has_none problem p limit name first tried s is has none_left few found new =
    let at_bottom : s.later ≡ [] = bottom p.pick s.later (subst (λ fs. Stacked problem p.pick fs s.later) none_left s.stacked) in
    let empty : left problem p.pick p.from ++ s.later ≡ [] = ap (λ (cs : List (List Picked)). cs ++ s.later) (left_some problem p.pick p.from name is ∙ has)
    ∙ at_bottom in
    let all : AreAllNodes problem s.seen = subst (λ (ns : List (List Picked)). AreAllNodes problem ns) (append-nil s.seen)
    (s.nodes [] (subst (λ (roots : List (List Picked)). AreNodes problem roots []) (sym empty) none)) in
    let unfinished = all_unfinished problem p.pick ([] ∷ s.seen) s.earlier p.from name p.dead s.phase is s.unfinished in
    record {
      none_valid = λ valid v. elim (led_in [] valid s.seen (leads_to_valid problem valid tried v) all) [
        | inl e ↦ (let k = unfinished valid (subst (λ (n : List Picked). Contains ([] ∷ s.seen) n) e (here [] s.seen)) in not_valid problem valid k.0 k.1 v)
        | inr c ↦ (let k = unfinished valid (there [] valid s.seen c) in not_valid problem valid k.0 k.1 v)
      ];
      nodes = s.seen;
      all = all;
      few = omega (arith, few, s.counted);
      dead_end = dead_at_pop problem p.pick ([] ∷ s.seen) s.earlier p.from name first p.dead s.phase is has found new s.dead_end;
    }

-- where nothing is left to decide, the picks were just come to
record Arrived (pick : List Picked) (seen earlier : List (List Picked)) : Type 0 where
  is : seen ≡ earlier ++ pick ∷ []

arrived : (problem : Problem) (pick : List Picked) (seen earlier : List (List Picked)) (from : ℕ) (dead : Option (List ℕ))
    → Phase problem pick seen earlier from dead → next_needed problem pick ≡ None → Arrived pick seen earlier
arrived problem pick seen _ _ _ (fresh e) h = record { is = e }
arrived problem pick seen _ _ _ (again name is) h = absurd (let clash : Some name ≡ None = sym is ∙ h in cc)

pub is_best : (problem : Problem) (p : Position) → AreTried problem.shelves problem.wants problem.candidates → StandsAt problem p
    → next_needed problem p.pick ≡ None → IsBest problem p.pick
is_best problem p tried s h =
    let pick = p.pick in
    let here_is = arrived problem p.pick ([] ∷ s.seen) s.earlier p.from p.dead s.phase h in
    let rest = all_nodes problem (left problem p.pick p.from ++ s.later) in
    let below : AreNodes problem s.later rest.0 = subst (λ (cs : List (List Picked)). AreNodes problem (cs ++ s.later) rest.0)
    (left_none problem p.pick p.from h) rest.1 in
    let seen_one : (other : List Picked) → IsValidFor problem other → Contains ([] ∷ s.seen) other → (other ≡ p.pick) ⊎ IsPreferred problem p.pick other =
    λ other v c. elim (Contains-push_cases s.earlier p.pick other (subst (λ (ns : List (List Picked)). Contains ns other) here_is.is c)) [
      | inl e ↦ absurd (let k = s.unfinished other e in not_valid problem other k.0 k.1 v)
      | inr same ↦ inl (sym same)
    ] in
    record {
      valid = ends_valid problem p.pick tried (stacked_way p.pick p.frames s.later s.stacked) h;
      preferred = λ other v. elim (led_in [] other (s.seen ++ rest.0) (leads_to_valid problem other tried v) (s.nodes rest.0 rest.1)) [
        | inl e ↦ seen_one other v (subst (λ (n : List Picked). Contains ([] ∷ s.seen) n) e (here [] s.seen))
        | inr c ↦ elim (Contains-append_cases s.seen rest.0 other c) [
          | inl i ↦ seen_one other v (there [] other s.seen i)
          | inr i ↦ (let k = in_led s.later rest.0 other below i in
              inr (parts_preferred p.pick k.0 other (later_parts p.pick p.frames s.later k.0 s.stacked k.1) k.2))
        ]
      ];
    }

pub comes_within : (problem : Problem) (p : Position) (limit : ℕ) → StandsAt problem p → next_needed problem p.pick ≡ None → p.count ≤ limit + 1
    → ComesWithin problem limit p.pick
comes_within problem p limit s h few =
    let here_is = arrived problem p.pick ([] ∷ s.seen) s.earlier p.from p.dead s.phase h in
    let rest = all_nodes problem (left problem p.pick p.from ++ s.later) in
    let long : suc (length s.seen) ≡ length s.earlier + 1 = ap length here_is.is ∙ length_push s.earlier p.pick in
    record {
      nodes = s.seen ++ rest.0;
      all = s.nodes rest.0 rest.1;
      before = s.earlier;
      after = rest.0;
      is = ap (λ (ns : List (List Picked)). ns ++ rest.0) here_is.is ∙ append_assoc s.earlier (p.pick ∷ []) rest.0;
      few = omega (arith, few, s.counted, long);
      first = λ other c v. (let k = s.unfinished other c in not_valid problem other k.0 k.1 v);
    }

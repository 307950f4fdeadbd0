-- Where the search stands in the tree.
use Rattle.std.proofs.Common.{◌≡◌, ℕ, zero, suc, true, ◌+◌, ◌<◌, ◌≤◌, List, [], ◌∷◌, ◌++◌, length, drop, Option, Some, None, slice_get, ◌⊎◌, inl, inr, refl, sym, ap, subst, ◌∙◌, arith}
use Rattle.std.specs.List.{Contains}
use Rattle.std.proofs.lemmas.List.Elements.{Contains-append_cases}
use Rattle.hex_registry.specs.Picks.{Picked, with_picked}
use Rattle.hex_pick.specs.Problem.{Problem, agrees, children, decided_by, next_needed}
use Rattle.hex_pick.specs.Tree.{AreNodes, IsPreferred, Leads}
use Rattle.hex_pick.specs.Tree.Leads.{stays, goes}
use Rattle.hex_pick.specs.Standing.{Frame, Stacked, decided_from}
use Rattle.hex_pick.specs.Standing.Stacked.{start, on}
use Rattle.hex_registry.proofs.Lists.{contains_none}
use Rattle.hex_registry.proofs.PickLists.{decided_here}
use Rattle.hex_pick.proofs.Universe.{contains_get}
use Rattle.hex_pick.proofs.Ways.{Takes, child_in, led_within, takes_of, then_leads}

-- a way leads to picks with decisions
pub stacked_way : {problem : Problem} (pick : List Picked) (frames : List Frame) (later : List (List Picked)) → Stacked problem pick frames later
    → Leads problem [] pick
stacked_way _ _ _ start = stays
stacked_way {problem} _ _ _ (on {pick = pick} {frames = frames} {later = later} name at place next is agreed rest) =
    then_leads [] pick (with_picked pick (name, place)) (stacked_way pick frames later rest)
    (goes (child_in problem pick name place next (contains_get (problem.candidates name) at place is) agreed) stays)

-- an element past the first ones
pub get_dropped : {A : Type 0} (n i at : ℕ) (xs : List A) → at ≡ n + i → slice_get (drop n xs) i ≡ slice_get xs at
get_dropped zero i at xs e = let same : i ≡ at = omega (arith, e) in ap (slice_get xs) same
get_dropped (suc n) i at [] e = refl
get_dropped (suc n) i zero (x ∷ xs) e = absurd (omega (arith, e))
get_dropped (suc n) i (suc at) (x ∷ xs) e = get_dropped n i at xs (omega (arith, e))

-- what is preferred stays so on the ways that lead on from both
pub preferred_past : {problem : Problem} (one other end other_end : List Picked) → IsPreferred problem one other → Leads problem one end
    → Leads problem other other_end → IsPreferred problem end other_end
preferred_past one other end other_end k way other_way =
    record {
      parting = k.parting;
      name = k.name;
      place = k.place;
      other_place = k.other_place;
      early = k.early;
      late = k.late;
      reached = k.reached;
      next = k.next;
      to_one = then_leads k.parting one end k.to_one way;
      to_other = then_leads k.parting other other_end k.to_other other_way;
      takes = led_within one end way (k.name, k.place) k.takes;
      other_takes = led_within other other_end other_way (k.name, k.other_place) k.other_takes;
      tried = k.tried;
      other_tried = k.other_tried;
      earlier = k.earlier;
    }

pub parts_preferred : {problem : Problem} (pick other end : List Picked) → IsPreferred problem pick other → Leads problem other end
    → IsPreferred problem pick end
parts_preferred pick other end k way = preferred_past pick other pick end k stays way

pub preferred_on : {problem : Problem} (one other end : List Picked) → IsPreferred problem one other → Leads problem one end → IsPreferred problem end other
preferred_on one other end k way = preferred_past one other end other k way stays

-- of two decisions of one package the one by an earlier candidate is preferred
pub sibling_preferred : (problem : Problem) (pick : List Picked) (name : List ℕ) (at place from : ℕ) (other : List Picked) → Leads problem [] pick
    → next_needed problem pick ≡ Some name → slice_get (problem.candidates name) at ≡ Some place → agrees problem (with_picked pick (name, place)) ≡ true
    → at < from → Contains (decided_from problem pick name from) other → IsPreferred problem (with_picked pick (name, place)) other
sibling_preferred problem pick name at place from other way next is agreed before c =
    let k = takes_of problem pick name (drop from (problem.candidates name)) other c in
    let late : slice_get (problem.candidates name) (from + k.index) ≡ Some k.place = sym (get_dropped from k.index (from + k.index)
    (problem.candidates name) refl) ∙ k.at in
    record {
      parting = pick;
      name = name;
      place = place;
      other_place = k.place;
      early = at;
      late = from + k.index;
      reached = way;
      next = next;
      to_one = goes (child_in problem pick name place next (contains_get (problem.candidates name) at place is) agreed) stays;
      to_other = goes (subst (λ (p : List Picked). Contains (children problem pick) p) (sym k.is)
          (child_in problem pick name k.place next (contains_get (problem.candidates name) (from + k.index) k.place late) k.agreed)) stays;
      takes = decided_here pick (name, place);
      other_takes = subst (λ (p : List Picked). Contains p (name, k.place)) (sym k.is) (decided_here pick (name, k.place));
      tried = is;
      other_tried = late;
      earlier = omega (arith, before);
    }

-- what is left beside the way comes later
pub later_parts : {problem : Problem} (pick : List Picked) (frames : List Frame) (later : List (List Picked)) (other : List Picked)
    → Stacked problem pick frames later → Contains later other → IsPreferred problem pick other
later_parts _ _ _ other start c = absurd (contains_none other c)
later_parts {problem} _ _ _ other (on {pick = pick} {frames = frames} {later = later} name at place next is agreed rest) c =
    elim (Contains-append_cases (decided_from problem pick name (suc at)) later other c) [
      | inl h ↦ sibling_preferred problem pick name at place (suc at) other (stacked_way pick frames later rest) next is agreed (omega arith) h
      | inr h ↦ preferred_on pick other (with_picked pick (name, place)) (later_parts pick frames later other rest h)
          (goes (child_in problem pick name place next (contains_get (problem.candidates name) at place is) agreed) stays)
    ]

-- The ways down the tree lead to the valid picks.
use Rattle.std.proofs.Common.{◌≡◌, ℕ, zero, suc, ◌+◌, ◌<◌, ◌≤◌, Bool, true, false, List, [], ◌∷◌, ◌++◌, map, drop, filter, length, Option, Some, None, slice_get, IsTrue, ◌⊎◌, inl, inr, refl, sym, ap, subst, ◌∙◌, arith}
use Rattle.std.specs.List.{Contains}
use Rattle.hex_registry.specs.Picks.{Picked, ArePicks, IsAsked, IsReached, demands_at, has_package, with_picked}
use Rattle.hex_registry.specs.Picks.IsAsked.{wanted as asked_wanted, demanded as asked_demanded}
use Rattle.hex_registry.specs.Picks.IsReached.{wanted, demanded}
use Rattle.hex_registry.specs.Valid.{IsValid}
use Rattle.hex_pick.specs.Problem.{AreTried, Problem, agrees, children, children_at, decided_by, next_needed}
use Rattle.hex_pick.specs.Tree.{IsValidFor, Leads}
use Rattle.hex_pick.specs.Tree.Leads.{stays, goes}
use Rattle.hex_registry.proofs.Lists.{contains_none, filtered_of, in_filtered, in_mapped, mapped_of}
use Rattle.hex_registry.proofs.PickLists.{decided_cases, decided_here, decided_in_order, decided_more, has_found, same_picks}
use Rattle.hex_registry.proofs.NameOrder.{one_place}
use Rattle.hex_pick.proofs.Needed.{Within, asked_more, next_open, none_open, open_none}
use Rattle.hex_pick.proofs.Universe.{asked_within, contains_get, gaps, gaps_fewer, get_contains, universe}
use Rattle.hex_pick.proofs.Agreement.{Agrees, agrees_from, agrees_met, candidate_of, in_candidates}

-- a decision, by the candidate that it takes
pub record Takes (problem : Problem) (pick : List Picked) (name places : List ℕ) (child : List Picked) : Type 0 where
  pub index : ℕ
  pub place : ℕ
  pub at : slice_get places index ≡ Some place
  pub agreed : agrees problem (with_picked pick (name, place)) ≡ true
  pub is : child ≡ with_picked pick (name, place)

pub takes_of : (problem : Problem) (pick : List Picked) (name places : List ℕ) (child : List Picked) → Contains (decided_by problem pick name places) child
    → Takes problem pick name places child
takes_of problem pick name places child c =
    let f = filtered_of (agrees problem) (map (λ (place : ℕ). with_picked pick (name, place)) places) child c in
    let m = mapped_of (λ (place : ℕ). with_picked pick (name, place)) places child f.0 in
    record { index = m.stands.0; place = m.x; at = get_contains places m.x m.stands; agreed = ap (agrees problem) m.is ∙ f.1; is = sym m.is }

pub taken_in : (problem : Problem) (pick : List Picked) (name places : List ℕ) (place : ℕ) → Contains places place
    → agrees problem (with_picked pick (name, place)) ≡ true → Contains (decided_by problem pick name places) (with_picked pick (name, place))
taken_in problem pick name places place c agreed =
    in_filtered (agrees problem) (map (λ (p : ℕ). with_picked pick (name, p)) places) (with_picked pick (name, place))
    (in_mapped (λ (p : ℕ). with_picked pick (name, p)) places place c) agreed

-- a child of picks
pub record IsChild (problem : Problem) (pick child : List Picked) : Type 0 where
  pub name : List ℕ
  pub index : ℕ
  pub place : ℕ
  pub next : next_needed problem pick ≡ Some name
  pub at : slice_get (problem.candidates name) index ≡ Some place
  pub agreed : agrees problem (with_picked pick (name, place)) ≡ true
  pub is : child ≡ with_picked pick (name, place)

pub children_some : (problem : Problem) (pick : List Picked) (name : List ℕ) → next_needed problem pick ≡ Some name
    → children problem pick ≡ decided_by problem pick name (problem.candidates name)
children_some problem pick name h = ap (children_at problem pick) h

pub children_none : (problem : Problem) (pick : List Picked) → next_needed problem pick ≡ None → children problem pick ≡ []
children_none problem pick h = ap (children_at problem pick) h

pub child_of : (problem : Problem) (pick child : List Picked) → Contains (children problem pick) child → IsChild problem pick child
child_of problem pick child c = at (next_needed problem pick) refl c
  where
    at : (o : Option (List ℕ)) → next_needed problem pick ≡ o → Contains (children_at problem pick o) child → IsChild problem pick child
    at None e h = absurd (contains_none child h)
    at (Some name) e h =
        let k = takes_of problem pick name (problem.candidates name) child h in
        record { name = name; index = k.index; place = k.place; next = e; at = k.at; agreed = k.agreed; is = k.is }

pub child_in : (problem : Problem) (pick : List Picked) (name : List ℕ) (place : ℕ) → next_needed problem pick ≡ Some name
    → Contains (problem.candidates name) place → agrees problem (with_picked pick (name, place)) ≡ true
    → Contains (children problem pick) (with_picked pick (name, place))
child_in problem pick name place next c agreed =
    subst (λ (cs : List (List Picked)). Contains cs (with_picked pick (name, place))) (sym (children_some problem pick name next))
    (taken_in problem pick name (problem.candidates name) place c agreed)

pub then_leads : {problem : Problem} (pick middle end : List Picked) → Leads problem pick middle → Leads problem middle end → Leads problem pick end
then_leads pick _ end stays h = h
then_leads pick middle end (goes {child = child} c rest) h = goes c (then_leads child middle end rest h)

pub led_within : {problem : Problem} (pick end : List Picked) → Leads problem pick end → Within pick end
led_within pick _ stays q h = h
led_within {problem} pick end (goes {child = child} c rest) q h =
    let k = child_of problem pick child c in
    led_within child end rest q (subst (λ (ps : List Picked). Contains ps q) (sym k.is) (decided_more pick (k.name, k.place) q h))

-- what a way on from a decision has
pub led_decided : {problem : Problem} (pick child end : List Picked) → (k : IsChild problem pick child) → Leads problem child end
    → Contains end (k.name, k.place)
led_decided pick child end k h =
    led_within child end h (k.name, k.place) (subst (λ (ps : List Picked). Contains ps (k.name, k.place)) (sym k.is) (decided_here pick (k.name, k.place)))

-- from picks with nothing to decide a way leads nowhere else
pub led_complete : {problem : Problem} (pick end : List Picked) → next_needed problem pick ≡ None → Leads problem pick end → pick ≡ end
led_complete pick _ h stays = refl
led_complete {problem} pick end h (goes {child = child} c rest) =
    absurd (let k = child_of problem pick child c in let clash : Some k.name ≡ None = sym k.next ∙ h in cc)

-- partial picks on a way
pub record IsOnWay (problem : Problem) (pick : List Picked) : Type 0 where
  pub in_order : ArePicks pick
  pub candidate : (q : Picked) → Contains pick q → Contains (problem.candidates q.0) q.1
  pub agreed : agrees problem pick ≡ true
  pub reached : (q : Picked) → Contains pick q → IsReached problem.shelves problem.wants pick q.0

pub reached_more : (problem : Problem) (pick others : List Picked) {name : List ℕ} → Within pick others → IsReached problem.shelves problem.wants pick name
    → IsReached problem.shelves problem.wants others name
reached_more problem pick others within (wanted want c required) = wanted want c required
reached_more problem pick others within (demanded by demand c r d required) = demanded by demand (within by c)
    (reached_more problem pick others within r) d required

pub begins : (problem : Problem) → IsOnWay problem []
begins problem = record { in_order = tt; candidate = λ q c. absurd (contains_none q c); agreed = refl; reached = λ q c. absurd (contains_none q c) }

-- a package that is asked for by picks that are all reached is reached
pub reached_by : (problem : Problem) (pick : List Picked) {name : List ℕ} → ((q : Picked) → Contains pick q
    → IsReached problem.shelves problem.wants pick q.0) → IsAsked problem.shelves problem.wants pick name → IsReached problem.shelves problem.wants pick name
reached_by problem pick all (asked_wanted want c required) = wanted want c required
reached_by problem pick all (asked_demanded by demand c d required) = demanded by demand c (all by c) d required

pub goes_on : (problem : Problem) (pick child : List Picked) → IsOnWay problem pick → IsChild problem pick child → IsOnWay problem child
goes_on problem pick child way k =
    let p : Picked = (k.name, k.place) in
    let o = next_open problem pick k.name k.next in
    let more : Within pick (with_picked pick (k.name, k.place)) = decided_more pick (k.name, k.place) in
    subst (λ (ps : List Picked). IsOnWay problem ps) (sym k.is)
    (record {
      in_order = decided_in_order pick (k.name, k.place) way.in_order o.undecided;
      candidate = λ q c. elim (decided_cases pick (k.name, k.place) q c) [
        | inl e ↦ subst (λ (r : Picked). Contains (problem.candidates r.0) r.1) e (contains_get (problem.candidates k.name) k.index k.place k.at)
        | inr h ↦ way.candidate q h
      ];
      agreed = k.agreed;
      reached = λ q c. elim (decided_cases pick (k.name, k.place) q c) [
        | inl e ↦ subst (λ (r : Picked). IsReached problem.shelves problem.wants (with_picked pick (k.name, k.place)) r.0) e
            (reached_more problem pick (with_picked pick (k.name, k.place)) more (reached_by problem pick way.reached o.asked))
        | inr h ↦ reached_more problem pick (with_picked pick (k.name, k.place)) more (way.reached q h)
      ];
    })

pub way_on : {problem : Problem} (pick end : List Picked) → IsOnWay problem pick → Leads problem pick end → IsOnWay problem end
way_on pick _ way stays = way
way_on {problem} pick end way (goes {child = child} c rest) = way_on child end (goes_on problem pick child way (child_of problem pick child c)) rest

-- a way that ends with nothing to decide ends at a valid pick
pub ends_valid : (problem : Problem) (pick : List Picked) → AreTried problem.shelves problem.wants problem.candidates → Leads problem [] pick
    → next_needed problem pick ≡ None → IsValidFor problem pick
ends_valid problem pick tried way h =
    let on = way_on [] pick (begins problem) way in
    let agreed = agrees_met problem pick on.agreed in
    record {
      in_order = on.in_order;
      whole = λ name a. none_open problem pick name h a;
      candidates = λ q c. candidate_of problem q tried (on.candidate q c);
      wants_met = agreed.wants;
      demands_met = agreed.demands;
      reached = on.reached;
    }

-- what a valid pick reaches, picks within it hold where nothing is left to decide
all_reached : (problem : Problem) (pick valid : List Picked) {name : List ℕ} → ArePicks valid → Within pick valid → next_needed problem pick ≡ None
    → IsReached problem.shelves problem.wants valid name → has_package pick name ≡ true
all_reached problem pick valid o within h (wanted want c required) = none_open problem pick want.«package» h (asked_wanted want c required)
all_reached problem pick valid o within h (demanded by demand c r d required) =
    let k = has_found pick by.0 (all_reached problem pick valid o within h r) in
    let same : k.0 ≡ by.1 = one_place valid by.0 k.0 by.1 o (within (by.0, k.0) k.1) c in
    none_open problem pick demand.«package» h (asked_demanded by demand (subst (λ (place : ℕ). Contains pick (by.0, place)) same k.1) d required)

done_within : (problem : Problem) (pick valid : List Picked) → ArePicks pick → IsValidFor problem valid → Within pick valid → next_needed problem pick ≡ None
    → pick ≡ valid
done_within problem pick valid o v within h =
    same_picks pick valid o v.in_order within (λ q c.
    (let k = has_found pick q.0 (all_reached problem pick valid v.in_order within h (v.reached q c)) in
    let same : k.0 ≡ q.1 = one_place valid q.0 k.0 q.1 v.in_order (within (q.0, k.0) k.1) c in
    subst (λ (place : ℕ). Contains pick (q.0, place)) same k.1))

within_child : (pick valid : List Picked) (p : Picked) → Within pick valid → Contains valid p → Within (with_picked pick p) valid
within_child pick valid p within has q c =
    elim (decided_cases pick p q c) [ inl e ↦ subst (λ (r : Picked). Contains valid r) e has | inr h ↦ within q h ]

agrees_within : (problem : Problem) (pick valid : List Picked) → IsValidFor problem valid → Within pick valid → agrees problem pick ≡ true
agrees_within problem pick valid v within =
    agrees_from problem pick (record {
      wants = λ want q offer w c same e. v.wants_met want q offer w (within q c) same e;
      demands = λ by q demand offer b d c same e. v.demands_met by q demand offer (within by b) d (within q c) same e;
    })

-- a way leads to each valid pick from the picks within it
leads_on : (problem : Problem) (count : ℕ) (pick valid : List Picked) → gaps (universe problem) pick < count
    → AreTried problem.shelves problem.wants problem.candidates → ArePicks pick → IsValidFor problem valid → Within pick valid → Leads problem pick valid
leads_on problem zero pick valid few tried o v within = absurd (omega (arith, few))
leads_on problem (suc count) pick valid few tried o v within = at (next_needed problem pick) refl (leads_on problem count)
  where
    at : (next : Option (List ℕ)) → next_needed problem pick ≡ next → ((p w : List Picked) → gaps (universe problem) p < count
        → AreTried problem.shelves problem.wants problem.candidates → ArePicks p → IsValidFor problem w → Within p w → Leads problem p w)
        → Leads problem pick valid
    at None e rest = subst (λ (ps : List Picked). Leads problem pick ps) (done_within problem pick valid o v within e) stays
    at (Some name) e rest =
        let k = next_open problem pick name e in
        let has = has_found valid name (v.whole name (asked_more problem pick valid within k.asked)) in
        let inside = within_child pick valid (name, has.0) within has.1 in
        let fewer = gaps_fewer (universe problem) pick (name, has.0) (asked_within problem pick name k.asked) k.undecided in
        goes (child_in problem pick name has.0 e (in_candidates problem (name, has.0) tried (v.candidates (name, has.0) has.1))
        (agrees_within problem (with_picked pick (name, has.0)) valid v inside))
        (rest (with_picked pick (name, has.0)) valid (omega (arith, few, fewer)) tried (decided_in_order pick (name, has.0) o k.undecided) v inside)

pub leads_to_valid : (problem : Problem) (valid : List Picked) → AreTried problem.shelves problem.wants problem.candidates → IsValidFor problem valid
    → Leads problem [] valid
leads_to_valid problem valid tried v = leads_on problem (suc (gaps (universe problem) [])) [] valid (omega arith) tried tt v (λ q c. absurd (contains_none q c))

-- a valid pick has nothing to decide
pub valid_complete : (problem : Problem) (valid : List Picked) → IsValidFor problem valid → next_needed problem valid ≡ None
valid_complete problem valid v = open_none problem valid v.whole

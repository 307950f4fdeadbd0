-- One pick is the best, and a search has one outcome.
use Rattle.std.proofs.Common.{◌≡◌, ℕ, suc, ◌+◌, ◌<◌, ◌≤◌, List, [], ◌∷◌, ◌++◌, length, get_or, slice_get, Option, Some, None, ◌⊎◌, inl, inr, refl, sym, ap, subst, ◌∙◌, arith, length-append}
use Rattle.std.specs.List.{Contains}
use Rattle.std.proofs.lemmas.List.{get_or_at, get_or_append_left}
use Rattle.hex_registry.specs.Picks.{Picked, ArePicks, with_picked}
use Rattle.hex_registry.proofs.Lists.{contains_cases, here, there}
use Rattle.hex_registry.proofs.NameOrder.{one_place}
use Rattle.hex_registry.specs.Shelves.{stock_of}
use Rattle.hex_registry.proofs.OneOrder.{once_of}
use Rattle.hex_pick.specs.Problem.{AreTried, Problem, children, locked_of, next_needed}
use Rattle.hex_pick.specs.Tree.{AreNodes, IsBest, IsPreferred, IsValidFor, Leads}
use Rattle.hex_pick.specs.Tree.Leads.{stays, goes}
use Rattle.hex_pick.specs.Outcome.{AreAllNodes, ComesWithin, HasNoPick, PassesLimit}
use Rattle.hex_pick.proofs.Nodes.{in_led, led_in, one_tree}
use Rattle.hex_pick.proofs.Ways.{IsChild, begins, child_of, ends_valid, leads_to_valid, led_decided, then_leads, valid_complete, way_on}

pub limit_or_none : (problem : Problem) (limit : ℕ) (name : List ℕ) → PassesLimit problem limit → HasNoPick problem limit name → ⊥
limit_or_none problem limit name k l =
    let same = one_tree _ (k.before ++ k.after) l.nodes k.all l.all in
    let long = length-append k.before k.after in
    let same_long : length (k.before ++ k.after) ≡ length l.nodes = ap length same in
    omega (arith, k.many, l.few, long, same_long)

pub limit_or_pick : (problem : Problem) (limit : ℕ) (pick : List Picked) → PassesLimit problem limit → IsValidFor problem pick
    → ComesWithin problem limit pick → ⊥
limit_or_pick problem limit pick k valid l =
    let same = one_tree _ (k.before ++ k.after) l.nodes k.all l.all in
    let lists : ([] ∷ k.before) ++ k.after ≡ l.before ++ pick ∷ l.after = ap (λ (ns : List (List Picked)). [] ∷ ns) same ∙ l.is in
    let place = length l.before in
    let lt : place < length ([] ∷ k.before) = omega (arith, l.few, k.many) in
    let there_is : get_or ([] ∷ k.before) place pick ≡ pick =
    sym (get_or_append_left ([] ∷ k.before) k.after pick place lt) ∙ ap (λ (ns : List (List Picked)). get_or ns place pick) lists
    ∙ get_or_at l.before pick l.after pick place refl in
    k.first pick (place, lt, there_is) valid

-- the valid picks are the empty pick or nodes, those with nothing to decide
pub valid_node : (problem : Problem) (nodes : List (List Picked)) (pick : List Picked) → AreTried problem.shelves problem.wants problem.candidates
    → AreAllNodes problem nodes → IsValidFor problem pick → Contains ([] ∷ nodes) pick × (next_needed problem pick ≡ None)
valid_node problem nodes pick tried all v = (
  elim (led_in [] pick nodes (leads_to_valid problem pick tried v) all) [
    | inl e ↦ subst (λ (p : List Picked). Contains ([] ∷ nodes) p) e (here [] nodes)
    | inr c ↦ there [] pick nodes c
  ],
  valid_complete problem pick v,
)

pub node_valid : (problem : Problem) (nodes : List (List Picked)) (pick : List Picked) → AreTried problem.shelves problem.wants problem.candidates
    → AreAllNodes problem nodes → Contains ([] ∷ nodes) pick → next_needed problem pick ≡ None → IsValidFor problem pick
node_valid problem nodes pick tried all c h =
    elim (contains_cases [] pick nodes c) [
      | inl e ↦ ends_valid problem pick tried (subst (λ (p : List Picked). Leads problem [] p) e stays) h
      | inr i ↦ (let k = in_led (children problem []) nodes pick all i in ends_valid problem pick tried (goes k.1 k.2) h)
    ]

-- which candidate a pick has tells the child
same_child : {problem : Problem} (pick one other end : List Picked) → ArePicks end → (k : IsChild problem pick one) → (l : IsChild problem pick other)
    → Leads problem one end → Leads problem other end → one ≡ other
same_child {problem} pick one other end o k l to_one to_other =
    let names : k.name ≡ l.name = let e : Some k.name ≡ Some l.name = sym k.next ∙ l.next in cc in
    let places : k.place ≡ l.place = one_place end k.name k.place l.place o (led_decided pick one end k to_one)
    (subst (λ (n : List ℕ). Contains end (n, l.place)) (sym names) (led_decided pick other end l to_other)) in
    k.is ∙ ap (λ (n : List ℕ). with_picked pick (n, k.place)) names ∙ ap (λ (p : ℕ). with_picked pick (l.name, p)) places ∙ sym l.is

-- each place stands once among the candidates
abbrev pub IsOnce : Problem → Type 0
IsOnce problem = (name : List ℕ) (i j place : ℕ) → slice_get (problem.candidates name) i ≡ Some place → slice_get (problem.candidates name) j ≡ Some place
    → i ≡ j

same_some : {A : Type 0} (o : Option A) (x y : A) → o ≡ Some x → o ≡ Some y → x ≡ y
same_some o x y e f = let k : Some x ≡ Some y = sym e ∙ f in cc

-- ways part here, and the first takes the earlier candidate
record PartsAt (problem : Problem) (parting one other : List Picked) : Type 0 where
  name : List ℕ
  place : ℕ
  other_place : ℕ
  early : ℕ
  late : ℕ
  next : next_needed problem parting ≡ Some name
  to_one : Leads problem parting one
  to_other : Leads problem parting other
  takes : Contains one (name, place)
  other_takes : Contains other (name, other_place)
  tried : slice_get (problem.candidates name) early ≡ Some place
  other_tried : slice_get (problem.candidates name) late ≡ Some other_place
  earlier : early < late

-- two picks that a way leads to over one child have one place there
over_child : {problem : Problem} (parting child one other : List Picked) (k : PartsAt problem parting one other) → IsOnce problem → ArePicks one
    → ArePicks other → (c : IsChild problem parting child) → Leads problem child one → Leads problem child other → ⊥
over_child {problem} parting child one other k once o p c to_one to_other =
    let names : c.name ≡ k.name = same_some (next_needed problem parting) c.name k.name c.next k.next in
    let one_has : Contains one (k.name, c.place) = subst (λ (n : List ℕ). Contains one (n, c.place)) names (led_decided parting child one c to_one) in
    let other_has : Contains other (k.name, c.place) = subst (λ (n : List ℕ). Contains other (n, c.place)) names (led_decided parting child other c to_other) in
    let first : k.place ≡ c.place = one_place one k.name k.place c.place o k.takes one_has in
    let second : k.other_place ≡ c.place = one_place other k.name k.other_place c.place p k.other_takes other_has in
    let same : k.early ≡ k.late = once k.name k.early k.late c.place (k.tried ∙ ap Some first) (k.other_tried ∙ ap Some second) in
    omega (arith, same, k.earlier)

asymmetric : {problem : Problem} (start one_parting other_parting one other : List Picked) → IsOnce problem → ArePicks one → ArePicks other
    → Leads problem start one_parting → PartsAt problem one_parting one other → Leads problem start other_parting → PartsAt problem other_parting other one → ⊥
asymmetric {problem} start _ _ one other once o p stays k stays l =
    let names : l.name ≡ k.name = same_some (next_needed problem start) l.name k.name l.next k.next in
    let one_has : Contains one (k.name, l.other_place) = subst (λ (n : List ℕ). Contains one (n, l.other_place)) names l.other_takes in
    let other_has : Contains other (k.name, l.place) = subst (λ (n : List ℕ). Contains other (n, l.place)) names l.takes in
    let first : l.other_place ≡ k.place = one_place one k.name l.other_place k.place o one_has k.takes in
    let second : l.place ≡ k.other_place = one_place other k.name l.place k.other_place p other_has k.other_takes in
    let late : l.late ≡ k.early = once k.name l.late k.early k.place (subst (λ (n : List ℕ). slice_get
    (problem.candidates n) l.late ≡ Some l.other_place) names l.other_tried ∙ ap Some first) k.tried in
    let early : l.early ≡ k.late = once k.name l.early k.late k.other_place (subst (λ (n : List ℕ). slice_get
    (problem.candidates n) l.early ≡ Some l.place) names l.tried ∙ ap Some second) k.other_tried in
    omega (arith, late, early, k.earlier, l.earlier)
asymmetric {problem} start _ below one other once o p stays k (goes {child = child} c rest) l =
    over_child start child one other k once o p (child_of problem start child c) (then_leads child below one rest l.to_other)
    (then_leads child below other rest l.to_one)
asymmetric {problem} start below _ one other once o p (goes {child = child} c rest) k stays l =
    over_child start child other one l once p o (child_of problem start child c) (then_leads child below other rest k.to_other)
    (then_leads child below one rest k.to_one)
asymmetric {problem} start below other_below one other once o p (goes {child = child} c rest) k (goes {child = other_child} d other_rest) l =
    let same : child ≡ other_child = same_child start child other_child one o (child_of problem start child c) (child_of problem start other_child d)
    (then_leads child below one rest k.to_one) (then_leads other_child other_below one other_rest l.to_other) in
    asymmetric child below other_below one other once o p rest k (subst (λ (q : List Picked). Leads problem q other_below) (sym same) other_rest) l

at_parting : {problem : Problem} (one other : List Picked) → (k : IsPreferred problem one other) → PartsAt problem k.parting one other
at_parting one other k =
    record {
      name = k.name;
      place = k.place;
      other_place = k.other_place;
      early = k.early;
      late = k.late;
      next = k.next;
      to_one = k.to_one;
      to_other = k.to_other;
      takes = k.takes;
      other_takes = k.other_takes;
      tried = k.tried;
      other_tried = k.other_tried;
      earlier = k.earlier;
    }

pub one_way_only : (problem : Problem) (one other : List Picked) → IsOnce problem → IsPreferred problem one other → IsPreferred problem other one → ⊥
one_way_only problem one other once k l =
    let one_way = way_on [] one (begins problem) (then_leads [] k.parting one k.reached k.to_one) in
    let other_way = way_on [] other (begins problem) (then_leads [] k.parting other k.reached k.to_other) in
    asymmetric [] k.parting l.parting one other once one_way.in_order other_way.in_order k.reached (at_parting one other k) l.reached (at_parting other one l)

pub one_best : (problem : Problem) (one other : List Picked) → IsOnce problem → IsBest problem one → IsBest problem other → one ≡ other
one_best problem one other once k l =
    elim (k.preferred other l.valid) [
      | inl e ↦ sym e
      | inr first ↦ elim (l.preferred one k.valid) [ inl e ↦ e | inr second ↦ absurd (one_way_only problem one other once first second) ]
    ]

pub once_there : (problem : Problem) → AreTried problem.shelves problem.wants problem.candidates → IsOnce problem
once_there problem tried name i j place e f = once_of (stock_of problem.shelves name) (locked_of problem.wants.locked name)
    (problem.candidates name) i j place (tried name) e f

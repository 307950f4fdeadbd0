-- What is reached among picks, by their places and by their packages.
use Rattle.std.proofs.Common.{◌≡◌, ℕ, zero, suc, ◌+◌, ◌<◌, ◌≤◌, Bool, true, false, not, cond, List, [], ◌∷◌, map, filter, filter_map, length, position, get_or, slice_get, slice_index_or, Option, Some, None, bytes_eq, IsTrue, is_le, ◌⊎◌, inl, inr, refl, sym, ap, subst, ◌∙◌, arith, ◌↔◌}
use Rattle.std.specs.List.{All, Contains, cons_option}
use Rattle.std.proofs.lemmas.Bool.{cases_lt, not-true}
use Rattle.std.proofs.lemmas.List.{get_or_past, length-map}
use Rattle.std.proofs.lemmas.List.Elements.{All-map, Contains-get_or}
use Rattle.std.proofs.lemmas.List.Quantifiers.{position-Some}
use Rattle.std.proofs.lemmas.Option.{get_or_from_slice_get, slice_get-get_or, slice_get_within}
use Rattle.mx_base.specs.Order.{text_cmp}
use Rattle.dep_order.specs.Graph.{NeedsAreWithin, needs_of}
use Rattle.dep_order.specs.Reach.{IsReachedFrom}
use Rattle.dep_order.specs.Reach.IsReachedFrom.{Direct, Further}
use Rattle.hex_registry.specs.declared.shelf.Shelf.{Shelf}
use Rattle.hex_registry.specs.declared.wants.Want.{Want}
use Rattle.hex_registry.specs.declared.wants.Wants.{Wants}
use Rattle.hex_registry.specs.Picks.{Picked, ArePicks, IsReached, demands_at}
use Rattle.hex_registry.specs.Picks.IsReached.{wanted, demanded}
use Rattle.hex_registry.specs.Reach.{graph_of, index_of, links_of, starts_of}
use Rattle.hex_registry.specs.declared.offer.Demand.{Demand}
use Rattle.hex_registry.proofs.Lists.{contains_cases, contains_none, filtered_of, here, in_filtered, position_one, there}
use Rattle.hex_registry.proofs.NameOrder.{one_place}
use Rattle.hex_registry.proofs.ValidLemmas.{bytes_itself, same_bytes}

-- what stands at the place of a package
record StandsAt (pick : List Picked) (name : List ℕ) (place : ℕ) : Type 0 where
  picked : Picked
  within : place < length pick
  at : slice_get pick place ≡ Some picked
  same : picked.0 ≡ name

at_place : (pick : List Picked) (name : List ℕ) (place : ℕ) → index_of pick name ≡ Some place → StandsAt pick name place
at_place [] name place e = absurd (cc)
at_place (p ∷ pick) name place e =
    let k = position-Some (λ (q : Picked). bytes_eq name q.0) (p ∷ pick) place p e in
    record {
      picked = get_or (p ∷ pick) place p;
      within = k.0;
      at = slice_get-get_or (p ∷ pick) place p k.0;
      same = sym
          (same_bytes name (get_or (p ∷ pick) place p).0 k.1);
    }

pub same_some : {A : Type 0} (o : Option A) (x y : A) → o ≡ Some x → o ≡ Some y → x ≡ y
same_some o x y e f = let k : Some x ≡ Some y = sym e ∙ f in cc

-- what a filter of options keeps
record Kept {A B : Type 0} (h : A → Option B) (xs : List A) (y : B) : Type 0 where
  x : A
  stands : Contains xs x
  is : h x ≡ Some y

kept_of : {A B : Type 0} (h : A → Option B) (xs : List A) (y : B) → Contains (filter_map h xs) y → Kept h xs y
kept_of h [] y c = absurd (contains_none y c)
kept_of {A} {B} h (x ∷ xs) y c = at (h x) refl c (λ d. further (kept_of h xs y d))
  where
    further : Kept h xs y → Kept h (x ∷ xs) y
    further k = record { x = k.x; stands = there x k.x xs k.stands; is = k.is }

    at : (o : Option B) → h x ≡ o → Contains (cons_option o (filter_map h xs)) y → (Contains (filter_map h xs) y → Kept h (x ∷ xs) y) → Kept h (x ∷ xs) y
    at None e d more = more d
    at (Some z) e d more = elim (contains_cases z y (filter_map h xs) d) [
      | inl same ↦ record { x = x; stands = here x xs; is = e ∙ ap Some same }
      | inr rest ↦ more rest
    ]

in_kept : {A B : Type 0} (h : A → Option B) (xs : List A) (x : A) (y : B) → Contains xs x → h x ≡ Some y → Contains (filter_map h xs) y
in_kept h [] x y c e = absurd (contains_none x c)
in_kept {A} {B} h (z ∷ xs) x y c e = elim (contains_cases z x xs c) [
  | inl same ↦ at (h z) (ap h same ∙ e)
  | inr more ↦ past (h z) (in_kept h xs x y more e)
]
  where
    at : (o : Option B) → o ≡ Some y → Contains (cons_option o (filter_map h xs)) y
    at None f = absurd (cc)
    at (Some w) f = let same : w ≡ y = cc in subst (λ (v : B). Contains (w ∷ filter_map h xs) v) same (here w (filter_map h xs))

    past : (o : Option B) → Contains (filter_map h xs) y → Contains (cons_option o (filter_map h xs)) y
    past None d = d
    past (Some w) d = there w y (filter_map h xs) d

-- a want requires the package at this place
record IsStart (wants : List Want) (pick : List Picked) (place : ℕ) : Type 0 where
  want : Want
  stands : Contains wants want
  required : want.optional ≡ false
  at : index_of pick want.«package» ≡ Some place

start_of : (wants : List Want) (pick : List Picked) (place : ℕ) → Contains (starts_of pick wants) place → IsStart wants pick place
start_of wants pick place c =
    let k = kept_of (λ (want : Want). index_of pick want.«package») (filter (λ (want : Want). not want.optional) wants) place c in
    let f = filtered_of (λ (want : Want). not want.optional) wants k.x k.stands in
    record { want = k.x; stands = f.0; required = not-true k.x.optional f.1; at = k.is }

in_starts : (wants : List Want) (pick : List Picked) (want : Want) (place : ℕ) → Contains wants want → want.optional ≡ false
    → index_of pick want.«package» ≡ Some place → Contains (starts_of pick wants) place
in_starts wants pick want place c required at =
    in_kept (λ (w : Want). index_of pick w.«package») (filter (λ (w : Want). not w.optional) wants) want place
    (in_filtered (λ (w : Want). not w.optional) wants want c (ap not required)) at

-- one of these demands requires the package at this place
record IsLink (pick : List Picked) (demands : List Demand) (place : ℕ) : Type 0 where
  demand : Demand
  stands : Contains demands demand
  required : demand.optional ≡ false
  at : index_of pick demand.«package» ≡ Some place

link_of : (pick : List Picked) (demands : List Demand) (place : ℕ) → Contains (links_of pick demands) place → IsLink pick demands place
link_of pick demands place c =
    let k = kept_of (λ (demand : Demand). index_of pick demand.«package») (filter (λ (demand : Demand). not demand.optional) demands) place c in
    let f = filtered_of (λ (demand : Demand). not demand.optional) demands k.x k.stands in
    record { demand = k.x; stands = f.0; required = not-true k.x.optional f.1; at = k.is }

in_links : (pick : List Picked) (demands : List Demand) (demand : Demand) (place : ℕ) → Contains demands demand → demand.optional ≡ false
    → index_of pick demand.«package» ≡ Some place → Contains (links_of pick demands) place
in_links pick demands demand place c required at =
    in_kept (λ (w : Demand). index_of pick w.«package») (filter (λ (w : Demand). not w.optional) demands) demand place
    (in_filtered (λ (w : Demand). not w.optional) demands demand c (ap not required)) at

-- the places are within the pick
pub starts_within : (wants : List Want) (pick : List Picked) → All (λ start. start < length pick) (starts_of pick wants)
starts_within wants pick k d below =
    let s = start_of wants pick (get_or (starts_of pick wants) k d) (Contains-get_or (starts_of pick wants) k d below) in
    let stands = at_place pick s.want.«package» (get_or (starts_of pick wants) k d) s.at in stands.within

links_within : (pick : List Picked) (demands : List Demand) → All (λ need. need < length pick) (links_of pick demands)
links_within pick demands k d below =
    let l = link_of pick demands (get_or (links_of pick demands) k d) (Contains-get_or (links_of pick demands) k d below) in
    let stands = at_place pick l.demand.«package» (get_or (links_of pick demands) k d) l.at in stands.within

pub graph_long : (shelves : List Shelf) (wants : Wants) (pick : List Picked) → length (graph_of shelves wants pick) ≡ length pick
graph_long shelves wants pick = length-map pick (λ (by : Picked). links_of pick (demands_at shelves wants by))

pub needs_within : (shelves : List Shelf) (wants : Wants) (pick : List Picked) → NeedsAreWithin (graph_of shelves wants pick)
needs_within shelves wants pick =
    All-map (λ (needs : List ℕ). All (λ need. need < length (graph_of shelves wants pick)) needs)
    (λ (by : Picked). links_of pick (demands_at shelves wants by)) pick
    (λ k d below. subst (λ (n : ℕ). All (λ need. need < n) (links_of pick (demands_at shelves wants (get_or pick k d)))) (sym (graph_long shelves wants pick))
    (links_within pick (demands_at shelves wants (get_or pick k d))))

-- what a picked package leads to
needs_at : (f : Picked → List ℕ) (pick : List Picked) (place : ℕ) (by : Picked) → slice_get pick place ≡ Some by → needs_of (map f pick) place ≡ f by
needs_at f [] place by e = absurd (cc)
needs_at f (p ∷ pick) zero by e = let same : p ≡ by = cc in ap f same
needs_at f (p ∷ pick) (suc place) by e = needs_at f pick place by e

pub through_within : (links : List (List ℕ)) (through need : ℕ) → Contains (needs_of links through) need → through < length links
through_within links through need c =
    elim (cases_lt through (length links)) [
      | inl less ↦ less
      | inr past ↦ absurd (contains_none need (subst (λ (ns : List ℕ). Contains ns need) (get_or_past links through [] past) c))
    ]

-- a place that is reached has a package that is
pub reached_place : (shelves : List Shelf) (wants : Wants) (pick : List Picked) (place : ℕ) (picked : Picked)
    → IsReachedFrom (graph_of shelves wants pick) (starts_of pick wants.wants) place → slice_get pick place ≡ Some picked
    → IsReached shelves wants pick picked.0
reached_place shelves wants pick _ picked (Direct place c) at =
    let s = start_of wants.wants pick place c in
    let k = at_place pick s.want.«package» place s.at in
    let same : k.picked ≡ picked = same_some (slice_get pick place) k.picked picked k.at at in
    subst (λ (n : List ℕ). IsReached shelves wants pick n) (sym k.same ∙ ap (λ (q : Picked). q.0) same) (wanted s.want s.stands s.required)
reached_place shelves wants pick _ picked (Further through need r c) at =
    let below = through_within (graph_of shelves wants pick) through need c in
    let long = graph_long shelves wants pick in
    let stands : slice_get pick through ≡ Some (get_or pick through picked) = slice_get-get_or pick through picked (omega (arith, below, long)) in
    let here_is = subst (λ (ns : List ℕ). Contains ns need) (needs_at (λ (by : Picked). links_of pick (demands_at shelves wants by)) pick through
    (get_or pick through picked) stands) c in
    let l = link_of pick (demands_at shelves wants (get_or pick through picked)) need here_is in
    let k = at_place pick l.demand.«package» need l.at in
    let same : k.picked ≡ picked = same_some (slice_get pick need) k.picked picked k.at at in
    subst (λ (n : List ℕ). IsReached shelves wants pick n) (sym k.same ∙ ap (λ (q : Picked). q.0) same)
    (demanded (get_or pick through picked) l.demand (Contains-get_or pick through picked (omega (arith, below, long)))
    (reached_place shelves wants pick through (get_or pick through picked) r stands) l.stands l.required)

-- the place of a package that is reached is reached
pub place_reached : (shelves : List Shelf) (wants : Wants) (pick : List Picked) (place : ℕ) {name : List ℕ} → ArePicks pick
    → IsReached shelves wants pick name → index_of pick name ≡ Some place → IsReachedFrom (graph_of shelves wants pick) (starts_of pick wants.wants) place
place_reached shelves wants pick place o (wanted want c required) at = Direct place (in_starts wants.wants pick want place c required at)
place_reached shelves wants pick place o (demanded by demand c r d required) at =
    let t = position_one (λ (q : Picked). bytes_eq by.0 q.0) pick by c (bytes_itself by.0) in
    let k = at_place pick by.0 t.0 t.1 in
    let stands : Contains pick (by.0, k.picked.1) = subst (λ (n : List ℕ). Contains pick (n, k.picked.1)) k.same
    (t.0, k.within, get_or_from_slice_get pick t.0 k.picked k.picked k.at) in
    let own : by.1 ≡ k.picked.1 = one_place pick by.0 by.1 k.picked.1 o c stands in
    let is : k.picked ≡ by = ap (λ (n : List ℕ). (n, k.picked.1)) k.same ∙ ap (λ (m : ℕ). (by.0, m)) (sym own) in
    Further t.0 place (place_reached shelves wants pick t.0 o r t.1)
    (subst (λ (ns : List ℕ). Contains ns place) (sym (needs_at (λ (q : Picked). links_of pick (demands_at shelves wants q)) pick t.0 by (k.at ∙ ap Some is)))
    (in_links pick (demands_at shelves wants by) demand place d required at))

pub starts_fit : (shelves : List Shelf) (wants : Wants) (pick : List Picked) (graph : List (List ℕ)) (starts : List ℕ) → graph ≡ graph_of shelves wants pick
    → starts ≡ starts_of pick wants.wants → All (λ start. start < length graph) starts
starts_fit shelves wants pick graph starts g s =
    subst (λ (ns : List ℕ). All (λ start. start < length graph) ns) (sym s)
    (subst (λ (n : ℕ). All (λ start. start < n) (starts_of pick wants.wants)) (sym (ap length g ∙ graph_long shelves wants pick))
    (starts_within wants.wants pick))

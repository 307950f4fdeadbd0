-- Rows, and the graph of what their winners need.
use Rattle.std.proofs.Common.{◌≡◌, ℕ, zero, suc, ◌+◌, ◌<◌, ◌≤◌, Bool, true, false, ◌&&◌, cond, eqb, List, [], ◌∷◌, ◌++◌, length, get_or, take, map, filter, filter_map, All, refl, sym, ◌∙◌, ap, ap₂, arith, Option, Some, None, append-nil}
use Rattle.std.specs.List.{position, slice_get, cons_option}
use Rattle.std.specs.Option.{option_map, option_and_then}
use Rattle.std.specs.Prelude.{nat_eq}
use Rattle.std.proofs.lemmas.List.{take_more, take_all, length-map, get_or_default}
use Rattle.std.proofs.lemmas.List.Elements.{filter-append, filter_map-append}
use Rattle.std.proofs.lemmas.List.Quantifiers.{position-Some}
use Rattle.std.proofs.Math.Bool.{and-false}
use Rattle.dep_order.specs.Graph.{needs_of, NeedsAreWithin}
use Rattle.converger.specs.Reach.{admits}
use Rattle.dep_rows.specs.declared.row.Row.{Row}
use Rattle.dep_rows.specs.Rows.{winner_of}
use Rattle.build_plan.specs.Needs.{app_of, is_child_at, is_needed_by, node_of, needs_from, direct_needs, graph_of, apps_of}

-- ---- the needs that rows say

pub needs_from_more : (rows : List Row) (target places : List ℕ) (all : List Row) (i : ℕ) (row : Row) (place : ℕ) → i < length all → row ≡ get_or all i row → needs_from rows target places (take (i + 1) all) place ≡ needs_from rows target places (take i all) place ++ needs_from rows target places (row ∷ []) place
needs_from_more rows target places all i row place within is =
    let child : Row → Bool = is_needed_by target place in
    let node : Row → Option ℕ = λ r. node_of rows places r.app in
    ap (λ (part : List Row). needs_from rows target places part place) (take_more all i row within ∙ ap (λ (r : Row). take i all ++ r ∷ []) (sym is))
    ∙ ap (filter_map node) (filter-append child (take i all) (row ∷ []))
    ∙ filter_map-append node (filter child (take i all)) (filter child (row ∷ []))

no_need : (rows : List Row) (places : List ℕ) (row : Row) (b : Bool) → b ≡ false
    → filter_map (λ (r : Row). node_of rows places r.app) (cond b (row ∷ []) []) ≡ []
no_need rows places row b h = ap (λ (c : Bool). filter_map (λ (r : Row). node_of rows places r.app) (cond c (row ∷ []) [])) h

-- a row that isn't for the target, that none of these declares, or whose app has no winner among these, says no need
pub not_meant : (rows : List Row) (target places : List ℕ) (row : Row) (place : ℕ) → admits row.decl.targets target ≡ false
    → needs_from rows target places (row ∷ []) place ≡ []
not_meant rows target places row place h =
    no_need rows places row (is_needed_by target place row) (ap (λ (b : Bool). b && is_child_at place row.by) h)

pub no_child : (rows : List Row) (target places : List ℕ) (row : Row) (place : ℕ) → is_child_at place row.by ≡ false → needs_from rows target places (row ∷ []) place ≡ []
no_child rows target places row place h =
    no_need rows places row (is_needed_by target place row) (ap (λ (b : Bool). admits row.decl.targets target && b) h ∙ and-false (admits row.decl.targets target))

no_node_at : (rows : List Row) (places : List ℕ) (row : Row) (b : Bool) → node_of rows places row.app ≡ None → filter_map (λ (r : Row). node_of rows places r.app) (cond b (row ∷ []) []) ≡ []
no_node_at rows places row true h = ap (λ (o : Option ℕ). cons_option o []) h
no_node_at rows places row false h = refl

pub no_node : (rows : List Row) (target places : List ℕ) (row : Row) (place : ℕ) → node_of rows places row.app ≡ None → needs_from rows target places (row ∷ []) place ≡ []
no_node rows target places row place h = no_node_at rows places row (is_needed_by target place row) h

one_need_at : (rows : List Row) (places : List ℕ) (row : Row) (need : ℕ) (b : Bool) → node_of rows places row.app ≡ Some need → filter_map (λ (r : Row). node_of rows places r.app) (cond b (row ∷ []) []) ≡ cond b (need ∷ []) []
one_need_at rows places row need true h = ap (λ (o : Option ℕ). cons_option o []) h
one_need_at rows places row need false h = refl

pub one_need : (rows : List Row) (target places : List ℕ) (row : Row) (place need node at : ℕ) → admits row.decl.targets target ≡ true → is_child_at place row.by ≡ eqb node at → node_of rows places row.app ≡ Some need → needs_from rows target places (row ∷ []) place ≡ cond (eqb node at) (need ∷ []) []
one_need rows target places row place need node at meant child h =
    one_need_at rows places row need (is_needed_by target place row) h
    ∙ ap (λ (b : Bool). cond b (need ∷ []) []) (ap (λ (b : Bool). b && is_child_at place row.by) meant ∙ child)

-- ---- the graph

same_lists : (xs ys : List (List ℕ)) → length xs ≡ length ys → ((k : ℕ) → k < length ys → get_or xs k [] ≡ get_or ys k []) → xs ≡ ys
same_lists [] [] long each = refl
same_lists [] (y ∷ ys) long each = absurd (omega arith)
same_lists (x ∷ xs) [] long each = absurd (omega arith)
same_lists (x ∷ xs) (y ∷ ys) long each =
    ap₂ (λ (z : List ℕ) (zs : List (List ℕ)). z ∷ zs) (each 0 (omega arith)) (same_lists xs ys (omega arith) (λ k within. each (suc k) (omega arith)))

get_or_map : (f : ℕ → List ℕ) (xs : List ℕ) (k : ℕ) → k < length xs → get_or (map f xs) k [] ≡ f (get_or xs k 0)
get_or_map f [] k within = absurd (omega arith)
get_or_map f (x ∷ xs) zero within = refl
get_or_map f (x ∷ xs) (suc k) within = get_or_map f xs k (omega arith)

pub is_whole_graph : (rows : List Row) (target places : List ℕ) (needs : List (List ℕ)) → length needs ≡ length places → ((node : ℕ) → node < length places → needs_of needs node ≡ needs_from rows target places rows (get_or places node 0)) → needs ≡ graph_of rows target places
is_whole_graph rows target places needs long each =
    same_lists needs (graph_of rows target places) (long ∙ sym (length-map places (direct_needs rows target places)))
    (λ k within. let inside : k < length places = omega (arith, within, length-map places (direct_needs rows target places)) in
    each k inside ∙ sym (get_or_map (direct_needs rows target places) places k inside))

first_within : (n node : ℕ) (nodes : List ℕ) → node < n → All (λ x. x < n) nodes → All (λ x. x < n) (node ∷ nodes)
first_within n node nodes inside rest zero d within = inside
first_within n node nodes inside rest (suc k) d within = rest k d (omega arith)

-- a node is one of these
node_within : (rows : List Row) (places : List ℕ) (app : List ℕ) (node : ℕ) (winner : Option ℕ) → option_and_then (λ w. position (nat_eq w) places) winner ≡ Some node → node < length places
node_within rows places app node None is = cc
node_within rows places app node (Some winner) is = (position-Some (nat_eq winner) places node 0 is).0

nodes_within : (rows : List Row) (places : List ℕ) (part : List Row) → All (λ node. node < length places) (filter_map (λ (r : Row). node_of rows places r.app) part)
nodes_within rows places [] = λ k d within. absurd (omega arith)
nodes_within rows places (row ∷ part) = at (node_of rows places row.app) refl (nodes_within rows places part)
  where
    at : (o : Option ℕ) → node_of rows places row.app ≡ o → All (λ node. node < length places) (filter_map (λ (r : Row). node_of rows places r.app) part) → All (λ node. node < length places) (cons_option o (filter_map (λ (r : Row). node_of rows places r.app) part))
    at None e rest = rest
    at (Some node) e rest = first_within (length places) node _ (node_within rows places row.app node (winner_of rows row.app) e) rest

pub graph_within : (rows : List Row) (target places : List ℕ) → NeedsAreWithin (graph_of rows target places)
graph_within rows target places k d within =
    let inside : k < length places = omega (arith, within, length-map places (direct_needs rows target places)) in
    let is : get_or (graph_of rows target places) k d ≡ direct_needs rows target places (get_or places k 0) =
    get_or_default (graph_of rows target places) k d [] within ∙ get_or_map (direct_needs rows target places) places k inside in
    let long : length (graph_of rows target places) ≡ length places = length-map places (direct_needs rows target places) in
    rw is (rw long (nodes_within rows places (filter (is_needed_by target (get_or places k 0)) rows)))

-- ---- the loops

pub nothing_added : (needs more : List ℕ) → more ≡ [] → needs ≡ needs ++ more
nothing_added needs more none = sym (ap (λ (l : List ℕ). needs ++ l) none ∙ append-nil needs)

pub row_added : (rows : List Row) (target places : List ℕ) (all : List Row) (i : ℕ) (row : Row) (old new : List (List ℕ)) → i < length all → row ≡ get_or all i row → ((node : ℕ) → node < length places → needs_of old node ≡ needs_from rows target places (take i all) (get_or places node 0)) → ((node : ℕ) → node < length places → needs_of new node ≡ needs_of old node ++ needs_from rows target places (row ∷ []) (get_or places node 0)) → (node : ℕ) → node < length places → needs_of new node ≡ needs_from rows target places (take (i + 1) all) (get_or places node 0)
row_added rows target places all i row old new within is so_far added node inside =
    added node inside
    ∙ ap (λ (l : List ℕ). l ++ needs_from rows target places (row ∷ []) (get_or places node 0)) (so_far node inside)
    ∙ sym (needs_from_more rows target places all i row (get_or places node 0) within is)

pub graph_done : (rows : List Row) (target places : List ℕ) (all : List Row) (i : ℕ) (needs : List (List ℕ)) → all ≡ rows → length all ≤ i → length needs ≡ length places → ((node : ℕ) → node < length places → needs_of needs node ≡ needs_from rows target places (take i all) (get_or places node 0)) → needs ≡ graph_of rows target places
graph_done rows target places all i needs same past long each =
    is_whole_graph rows target places needs long (λ node inside. each node inside ∙ ap (λ (part : List Row). needs_from rows target places part (get_or places node 0)) (take_all i all past ∙ same))

-- ---- the apps of nodes

pub no_place : (rows : List Row) (places : List ℕ) (node : ℕ) (apps : List (List ℕ)) → None ≡ slice_get places node → apps ≡ apps ++ apps_of rows places (node ∷ [])
no_place rows places node apps none =
    sym (ap (λ (o : Option ℕ). apps ++ cons_option (option_and_then (app_of rows) o) []) (sym none) ∙ append-nil apps)

pub no_row : (rows : List Row) (places : List ℕ) (node place : ℕ) (apps : List (List ℕ)) → Some place ≡ slice_get places node → None ≡ slice_get rows place → apps ≡ apps ++ apps_of rows places (node ∷ [])
no_row rows places node place apps some none =
    sym (ap (λ (o : Option ℕ). apps ++ cons_option (option_and_then (app_of rows) o) []) (sym some)
    ∙ ap (λ (o : Option Row). apps ++ cons_option (option_map (λ (r : Row). r.app) o) []) (sym none)
    ∙ append-nil apps)

pub one_app : (rows : List Row) (places : List ℕ) (node place : ℕ) (row : Row) (apps new : List (List ℕ)) (app : List ℕ) → Some place ≡ slice_get places node → Some row ≡ slice_get rows place → app ≡ row.app → new ≡ apps ++ app ∷ [] → new ≡ apps ++ apps_of rows places (node ∷ [])
one_app rows places node place row apps new app some there same pushed =
    pushed
    ∙ ap (λ (a : List ℕ). apps ++ a ∷ []) same
    ∙ sym (ap (λ (o : Option ℕ). apps ++ cons_option (option_and_then (app_of rows) o) []) (sym some)
    ∙ ap (λ (o : Option Row). apps ++ cons_option (option_map (λ (r : Row). r.app) o) []) (sym there))

pub apps_more : (rows : List Row) (places nodes : List ℕ) (i : ℕ) (old new : List (List ℕ)) → i < length nodes → old ≡ apps_of rows places (take i nodes) → new ≡ old ++ apps_of rows places (get_or nodes i 0 ∷ []) → new ≡ apps_of rows places (take (i + 1) nodes)
apps_more rows places nodes i old new within so_far added =
    added
    ∙ ap (λ (l : List (List ℕ)). l ++ apps_of rows places (get_or nodes i 0 ∷ [])) so_far
    ∙ sym (filter_map-append (λ (node : ℕ). option_and_then (app_of rows) (slice_get places node)) (take i nodes) (get_or nodes i 0 ∷ []))
    ∙ ap (apps_of rows places) (sym (take_more nodes i 0 within))

-- The nodes of the tree, and the ways to them.
use Rattle.std.proofs.Common.{◌≡◌, ℕ, zero, suc, ◌+◌, ◌<◌, ◌≤◌, List, [], ◌∷◌, ◌++◌, length, Option, Some, None, ◌⊎◌, inl, inr, refl, sym, ap, subst, ◌∙◌, arith, append_assoc}
use Rattle.std.specs.List.{Contains}
use Rattle.std.proofs.lemmas.List.Elements.{Contains-append_left, Contains-append_right, Contains-append_cases}
use Rattle.hex_registry.specs.Picks.{Picked, with_picked}
use Rattle.hex_pick.specs.Problem.{Problem, children, next_needed}
use Rattle.hex_pick.specs.Tree.{AreNodes, Leads}
use Rattle.hex_pick.specs.Tree.AreNodes.{none, next}
use Rattle.hex_pick.specs.Tree.Leads.{stays, goes}
use Rattle.hex_registry.proofs.Lists.{here, there, contains_cases, contains_none}
use Rattle.hex_pick.proofs.Needed.{next_open}
use Rattle.hex_pick.proofs.Universe.{asked_within, gaps, gaps_fewer, universe}
use Rattle.hex_pick.proofs.Ways.{child_of, then_leads}

-- a child has fewer undecided packages
child_fewer : (problem : Problem) (pick child : List Picked) → Contains (children problem pick) child
    → gaps (universe problem) child < gaps (universe problem) pick
child_fewer problem pick child c =
    let k = child_of problem pick child c in
    let o = next_open problem pick k.name k.next in
    subst (λ (p : List Picked). gaps (universe problem) p < gaps (universe problem) pick) (sym k.is)
    (gaps_fewer (universe problem) pick (k.name, k.place) (asked_within problem pick k.name o.asked) o.undecided)

pub record Splits (problem : Problem) (xs ys nodes : List (List Picked)) : Type 0 where
  pub front : List (List Picked)
  pub back : List (List Picked)
  pub first : AreNodes problem xs front
  pub second : AreNodes problem ys back
  pub is : nodes ≡ front ++ back

-- nodes of two lists of trees
pub split : {problem : Problem} (xs ys nodes : List (List Picked)) → AreNodes problem (xs ++ ys) nodes → Splits problem xs ys nodes
split [] ys nodes h = record { front = []; back = nodes; first = none; second = h; is = refl }
split (x ∷ xs) ys _ (next {below = below} {more = more} down rest) =
    let k = split xs ys more rest in
    record {
      front = x ∷ (below ++ k.front);
      back = k.back;
      first = next down k.first;
      second = k.second;
      is = ap (λ ns. x ∷ ns)
          (ap (λ ns. below ++ ns) k.is ∙ sym (append_assoc below k.front k.back));
    }

all_of : (problem : Problem) (count : ℕ) → ((roots : List (List Picked)) → ((root : List Picked) → Contains roots root
    → gaps (universe problem) root < count) → (nodes : List (List Picked)) × AreNodes problem roots nodes) → (roots : List (List Picked))
    → ((root : List Picked) → Contains roots root → gaps (universe problem) root < suc count) → (nodes : List (List Picked)) × AreNodes problem roots nodes
all_of problem count fewer [] f = ([], none)
all_of problem count fewer (root ∷ roots) f =
    let few = f root (here root roots) in
    let down = fewer (children problem root) (λ child c. (let g = child_fewer problem root child c in omega (arith, few, g))) in
    let rest = all_of problem count fewer roots (λ other c. f other (there root other roots c)) in
    (root ∷ (down.0 ++ rest.0), next down.1 rest.1)

total : (problem : Problem) (count : ℕ) (roots : List (List Picked)) → ((root : List Picked) → Contains roots root → gaps (universe problem) root < count)
    → (nodes : List (List Picked)) × AreNodes problem roots nodes
total problem zero [] f = ([], none)
total problem zero (root ∷ roots) f = absurd (let k = f root (here root roots) in omega (arith, k))
total problem (suc count) roots f = all_of problem count (total problem count) roots f

gaps_in : (problem : Problem) → List (List Picked) → ℕ
gaps_in problem [] = 0
gaps_in problem (root ∷ roots) = gaps (universe problem) root + gaps_in problem roots

gaps_below : (problem : Problem) (roots : List (List Picked)) (root : List Picked) → Contains roots root → gaps (universe problem) root ≤ gaps_in problem roots
unfolding gaps_in
gaps_below problem [] root c = absurd (contains_none root c)
gaps_below problem (other ∷ roots) root c =
    elim (contains_cases other root roots c) [
      | inl e ↦ (let k : gaps (universe problem) other ≡ gaps (universe problem) root = ap (gaps (universe problem)) e in omega (arith, k))
      | inr h ↦ (let k = gaps_below problem roots root h in omega (arith, k))
    ]

-- each list of trees has its nodes
pub all_nodes : (problem : Problem) (roots : List (List Picked)) → (nodes : List (List Picked)) × AreNodes problem roots nodes
all_nodes problem roots = total problem (suc (gaps_in problem roots)) roots (λ root c. (let k = gaps_below problem roots root c in omega (arith, k)))

-- the nodes under one of the trees
record Under (problem : Problem) (root : List Picked) (nodes : List (List Picked)) : Type 0 where
  below : List (List Picked)
  nodes_below : AreNodes problem (children problem root) below
  stands : Contains nodes root
  among : (other : List Picked) → Contains below other → Contains nodes other

under : {problem : Problem} (roots nodes : List (List Picked)) (root : List Picked) → Contains roots root → AreNodes problem roots nodes
    → Under problem root nodes
under _ _ root c none = absurd (contains_none root c)
under {problem} _ _ root c (next {node = node} {roots = roots} {below = below} {more = more} down rest) =
    elim (contains_cases node root roots c) [
      | inl e ↦ record {
        below = below;
        nodes_below = subst (λ (n : List Picked). AreNodes problem (children problem n) below) e down;
        stands = subst (λ (n : List Picked). Contains (node ∷ (below ++ more)) n) e (here node (below ++ more));
        among = λ other h. there node other (below ++ more) (Contains-append_left below more other h);
      }
      | inr h ↦ (let k = under roots more root h rest in
          record {
            below = k.below;
            nodes_below = k.nodes_below;
            stands = there node root (below ++ more) (Contains-append_right below more root k.stands);
            among = λ other o. there node other (below ++ more) (Contains-append_right below more other (k.among other o));
          })
    ]

-- what a way leads to is where it begins or a node below
pub led_in : {problem : Problem} (pick end : List Picked) (nodes : List (List Picked)) → Leads problem pick end
    → AreNodes problem (children problem pick) nodes → (pick ≡ end) ⊎ Contains nodes end
led_in pick _ nodes stays h = inl refl
led_in {problem} pick end nodes (goes {child = child} c rest) h =
    let u = under (children problem pick) nodes child c h in
    elim (led_in child end u.below rest u.nodes_below) [
      | inl e ↦ inr (subst (λ (n : List Picked). Contains nodes n) e u.stands)
      | inr k ↦ inr (u.among end k)
    ]

-- a way leads to each node from one of the roots
pub in_led : {problem : Problem} (roots nodes : List (List Picked)) (end : List Picked) → AreNodes problem roots nodes → Contains nodes end
    → (root : List Picked) × Contains roots root × Leads problem root end
in_led _ _ end none c = absurd (contains_none end c)
in_led {problem} _ _ end (next {node = node} {roots = roots} {below = below} {more = more} down rest) c =
    elim (contains_cases node end (below ++ more) c) [
      | inl e ↦ (node, here node roots, subst (λ (n : List Picked). Leads problem node n) e stays)
      | inr h ↦ elim (Contains-append_cases below more end h) [
        | inl i ↦ (let k = in_led (children problem node) below end down i in (node, here node roots, goes k.1 k.2))
        | inr i ↦ (let k = in_led roots more end rest i in (k.0, there node k.0 roots k.1, k.2))
      ]
    ]

-- the nodes make one list
pub one_tree : {problem : Problem} (roots nodes others : List (List Picked)) → AreNodes problem roots nodes → AreNodes problem roots others → nodes ≡ others
one_tree _ _ _ none none = refl
one_tree {problem} _ _ _ (next {node = node} {roots = roots} {below = below} {more = more} down rest)
    (next {below = other_below} {more = other_more} other_down other_rest) =
    let a = one_tree (children problem node) below other_below down other_down in
    let b = one_tree roots more other_more rest other_rest in
    ap (λ (ns : List (List Picked)). node ∷ (ns ++ more)) a ∙ ap (λ (ns : List (List Picked)). node ∷ (other_below ++ ns)) b

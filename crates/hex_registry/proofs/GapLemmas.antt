-- The first number that isn't among places that increase, and what it says of a pick.
use Rattle.std.proofs.Common.{◌≡◌, ℕ, zero, suc, ◌+◌, ◌<◌, ◌≤◌, Bool, true, false, List, [], ◌∷◌, map, length, position, get_or, slice_get, Option, Some, None, bytes_eq, ◌⊎◌, inl, inr, refl, sym, ap, subst, ◌∙◌, arith, Less}
use Rattle.std.specs.List.{All, AllPairs, Contains}
use Rattle.std.proofs.lemmas.Bool.{cases_order}
use Rattle.std.proofs.lemmas.List.Elements.{All-contains, All-get_or, Contains-get_or}
use Rattle.std.proofs.lemmas.List.Quantifiers.{position-Some}
use Rattle.std.proofs.lemmas.Option.{get_or_from_slice_get, slice_get-get_or, slice_get_within}
use Rattle.mx_base.specs.Order.{text_cmp, IsBefore}
use Rattle.dep_order.specs.Graph.{needs_of}
use Rattle.dep_order.specs.Reach.{AreReachedFrom, IsReachedFrom}
use Rattle.dep_order.specs.Reach.IsReachedFrom.{Direct, Further}
use Rattle.hex_registry.specs.declared.breach.Breach.TheVariants.{Unreached}
use Rattle.hex_registry.specs.declared.shelf.Shelf.{Shelf}
use Rattle.hex_registry.specs.declared.wants.Wants.{Wants}
use Rattle.hex_registry.specs.Breaches.{IsBreach, IsFirst, IsOfKind}
use Rattle.hex_registry.specs.Picks.{Picked, ArePicks, IsReached}
use Rattle.hex_registry.specs.Reach.{graph_of, index_of, starts_of}
use Rattle.hex_registry.proofs.FirstLemmas.{unreached_first, unreached_none}
use Rattle.hex_registry.proofs.Lists.{contains_none, position_one}
use Rattle.hex_registry.proofs.NameOrder.{before_each, not_before_itself}
use Rattle.hex_registry.proofs.ReachLemmas.{graph_long, needs_within, place_reached, reached_place, same_some, starts_within, through_within}
use Rattle.hex_registry.proofs.ValidLemmas.{bytes_itself, same_bytes}

-- of places that increase each is at least its number
least_at : (places : List ℕ) (i d : ℕ) → AllPairs (λ earlier later. earlier < later) places → ((k : ℕ) → k < i → slice_get places k ≡ Some k)
    → i < length places → i ≤ get_or places i d
least_at places zero d up own below = omega arith
least_at places (suc i) d up own below =
    let e = get_or_from_slice_get places i i d (own i (omega arith)) in
    let step = up i (suc i) d (omega arith) below in
    omega (arith, e, step)

-- places that increase and stand at their own numbers don't have the first number that doesn't
pub gap_at : (places : List ℕ) (i : ℕ) → AllPairs (λ earlier later. earlier < later) places → ((k : ℕ) → k < i → slice_get places k ≡ Some k)
    → (slice_get places i ≡ Some i → ⊥) → Contains places i → ⊥
gap_at places i up own gap c =
    elim (cases_order c.0 i) [
      | inl same ↦ gap (subst (λ (n : ℕ). slice_get places n ≡ Some i) same (get_at places c))
      | inr apart ↦ elim apart [
        | inl less ↦ (let e : c.0 ≡ i = same_some (slice_get places c.0) c.0 i (own c.0 less) (get_at places c) in omega (arith, e, less))
        | inr more ↦ (let below = c.1 in let first = up i c.0 i more below in let at_c = c.2 in
            let low = least_at places i i up own (omega (arith, more, below)) in omega (arith, first, at_c, low))
      ]
    ]
  where
    get_at : (xs : List ℕ) → (d : Contains xs i) → slice_get xs d.0 ≡ Some i
    get_at xs d = slice_get-get_or xs d.0 i d.1 ∙ ap Some d.2

pub all_there : (places : List ℕ) (count : ℕ) → ((k : ℕ) → k < count → slice_get places k ≡ Some k) → (place : ℕ) → place < count → Contains places place
all_there places count own place below =
    (place, slice_get_within places place place (own place below), get_or_from_slice_get places place place place (own place below))

pub first_gap_is : (places : List ℕ) (count i : ℕ) → AllPairs (λ earlier later. earlier < later) places → ((k : ℕ) → k < i → slice_get places k ≡ Some k)
    → (slice_get places i ≡ Some i → ⊥) → i < count → (i < count) × (Contains places i → ⊥) × ((earlier : ℕ) → earlier < i → Contains places earlier)
first_gap_is places count i up own gap below = (below, gap_at places i up own gap, all_there places i own)

-- of two places in a pick the lesser has the lesser package
less_at : (pick : List Picked) (i j : ℕ) (one other : Picked) → ArePicks pick → i < j → slice_get pick i ≡ Some one → slice_get pick j ≡ Some other
    → text_cmp one.0 other.0 ≡ Less
less_at [] i j one other o l e f = absurd (cc)
less_at (p ∷ pick) i zero one other o l e f = absurd (omega (arith, l))
less_at (p ∷ pick) zero (suc j) one other o l e f =
    let same : p ≡ one = cc in
    subst (λ (q : Picked). text_cmp q.0 other.0 ≡ Less) same (before_each p.0 pick other o.0
    (j, slice_get_within pick j other f, get_or_from_slice_get pick j other other f))
less_at (p ∷ pick) (suc i) (suc j) one other o l e f = less_at pick i j one other o.1 (omega (arith, l)) e f

-- where a package stands
index_is : (pick : List Picked) (place : ℕ) (picked : Picked) → ArePicks pick → slice_get pick place ≡ Some picked → index_of pick picked.0 ≡ Some place
index_is pick place picked o e =
    let below = slice_get_within pick place picked e in
    let own = get_or_from_slice_get pick place picked picked e in
    let t = position_one (λ (q : Picked). bytes_eq picked.0 q.0) pick picked (place, below, own) (bytes_itself picked.0) in
    let k = position-Some (λ (q : Picked). bytes_eq picked.0 q.0) pick t.0 picked t.1 in
    let at : slice_get pick t.0 ≡ Some (get_or pick t.0 picked) = slice_get-get_or pick t.0 picked k.0 in
    elim (cases_order t.0 place) [
      | inl same ↦ t.1 ∙ ap Some same
      | inr apart ↦ absurd (elim apart [
        | inl less ↦ not_before_itself picked.0 (subst (λ (n : List ℕ). text_cmp n picked.0 ≡ Less) (sym (same_bytes picked.0 (get_or pick t.0 picked).0 k.1))
            (less_at pick t.0 place (get_or pick t.0 picked) picked o less at e))
        | inr more ↦ (let miss : bytes_eq picked.0 (get_or pick place picked).0 ≡ false = k.2 place more in
            let hit : bytes_eq picked.0 (get_or pick place picked).0 ≡ true = ap (λ (q : Picked). bytes_eq picked.0 q.0) own ∙ bytes_itself picked.0 in
            let clash : true ≡ false = sym hit ∙ miss in cc)
      ])
    ]

-- what is reached is within the pick
place_within : (shelves : List Shelf) (wants : Wants) (pick : List Picked) (place : ℕ)
    → IsReachedFrom (graph_of shelves wants pick) (starts_of pick wants.wants) place → place < length pick
place_within shelves wants pick _ (Direct place c) =
    All-contains (λ (start : ℕ). start < length pick) (starts_of pick wants.wants) place (starts_within wants.wants pick) c
place_within shelves wants pick _ (Further through need r c) =
    let below = through_within (graph_of shelves wants pick) through need c in
    let long = graph_long shelves wants pick in
    let needs = All-get_or (λ (ns : List ℕ). All (λ n. n < length (graph_of shelves wants pick)) ns) (graph_of shelves wants pick) through [] below
    (needs_within shelves wants pick) in
    let within = All-contains (λ (n : ℕ). n < length (graph_of shelves wants pick)) (needs_of (graph_of shelves wants pick) through) need needs c in
    omega (arith, within, long)

pub reached_within : (shelves : List Shelf) (wants : Wants) (pick : List Picked) (places : List ℕ)
    → AreReachedFrom (graph_of shelves wants pick) (starts_of pick wants.wants) places → All (λ place. place < length pick) places
reached_within shelves wants pick places are k d below =
    place_within shelves wants pick (get_or places k d) ((are.each (get_or places k d)).0 (Contains-get_or places k d below))

-- a first gap is the first that isn't reached
pub gap_is_first : (shelves : List Shelf) (wants : Wants) (pick : List Picked) (places : List ℕ) (place : ℕ) (picked : Picked) → ArePicks pick
    → AreReachedFrom (graph_of shelves wants pick) (starts_of pick wants.wants) places → place < length pick → get_or pick place picked ≡ picked
    → (Contains places place → ⊥) → ((earlier : ℕ) → earlier < place → Contains places earlier)
    → IsFirst (IsOfKind (IsBreach shelves wants pick) 3) (Some (Unreached picked.0))
gap_is_first shelves wants pick places place picked o are below own gap before =
    let at : slice_get pick place ≡ Some picked = slice_get-get_or pick place picked below ∙ ap Some own in
    unreached_first shelves wants pick place picked o below own
    (λ k q less e. reached_place shelves wants pick k q ((are.each k).0 (before k less)) e)
    (λ r. gap ((are.each place).1 (place_reached shelves wants pick place o r (index_is pick place picked o at))))

pub all_reached : (shelves : List Shelf) (wants : Wants) (pick : List Picked) (places : List ℕ)
    → AreReachedFrom (graph_of shelves wants pick) (starts_of pick wants.wants) places → ((place : ℕ) → place < length pick → Contains places place)
    → All (λ picked. IsReached shelves wants pick picked.0) pick
all_reached shelves wants pick places are whole k d below =
    reached_place shelves wants pick k (get_or pick k d) ((are.each k).0 (whole k below)) (slice_get-get_or pick k d below)

pub no_gap : (shelves : List Shelf) (wants : Wants) (pick : List Picked) (places : List ℕ)
    → AreReachedFrom (graph_of shelves wants pick) (starts_of pick wants.wants) places → ((place : ℕ) → place < length pick → Contains places place)
    → IsFirst (IsOfKind (IsBreach shelves wants pick) 3) None
no_gap shelves wants pick places are whole =
    unreached_none shelves wants pick (λ q c. All-contains (λ (p : Picked). IsReached shelves wants pick p.0) pick q
    (all_reached shelves wants pick places are whole) c)

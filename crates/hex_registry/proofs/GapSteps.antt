-- What a gap among places says of a pick, where places and picks are seen through slices.
use Rattle.std.proofs.Common.{◌≡◌, ℕ, ◌<◌, List, length, get_or, Some, None, sym, subst}
use Rattle.std.specs.List.{All, Contains}
use Rattle.dep_order.specs.Reach.{AreReachedFrom}
use Rattle.hex_registry.specs.declared.breach.Breach.TheVariants.{Unreached}
use Rattle.hex_registry.specs.declared.shelf.Shelf.{Shelf}
use Rattle.hex_registry.specs.declared.wants.Wants.{Wants}
use Rattle.hex_registry.specs.Breaches.{IsBreach, IsFirst, IsOfKind}
use Rattle.hex_registry.specs.Picks.{Picked, ArePicks, IsReached}
use Rattle.hex_registry.specs.Reach.{graph_of, starts_of}
use Rattle.hex_registry.proofs.GapLemmas.{all_reached, gap_is_first, no_gap, reached_within}

pub reached_fit : (shelves : List Shelf) (wants : Wants) (pick : List Picked) (places seen : List ℕ) (picks : List Picked)
    → AreReachedFrom (graph_of shelves wants pick) (starts_of pick wants.wants) places → seen ≡ places → picks ≡ pick
    → All (λ place. place < length picks) seen
reached_fit shelves wants pick places seen picks are s p =
    subst (λ (ps : List Picked). All (λ place. place < length ps) seen) (sym p)
    (subst (λ (ns : List ℕ). All (λ place. place < length pick) ns) (sym s) (reached_within shelves wants pick places are))

pub gap_answers : (shelves : List Shelf) (wants : Wants) (pick : List Picked) (places seen : List ℕ) (picks others : List Picked) (place : ℕ)
    (picked : Picked) → ArePicks pick → AreReachedFrom (graph_of shelves wants pick) (starts_of pick wants.wants) places → seen ≡ places → picks ≡ pick
    → others ≡ pick → get_or others place picked ≡ picked
    → (place < length picks) × (Contains seen place → ⊥) × ((earlier : ℕ) → earlier < place → Contains seen earlier)
    → IsFirst (IsOfKind (IsBreach shelves wants pick) 3) (Some (Unreached picked.0))
gap_answers shelves wants pick places seen picks others place picked o are s p q own gap =
    gap_is_first shelves wants pick places place picked o are
    (subst (λ (ps : List Picked). place < length ps) p gap.0)
    (subst (λ (ps : List Picked). get_or ps place picked ≡ picked) q own)
    (λ c. gap.1 (subst (λ (ns : List ℕ). Contains ns place) (sym s) c))
    (λ earlier less. subst (λ (ns : List ℕ). Contains ns earlier) s (gap.2 earlier less))

whole_of : (pick picks : List Picked) (places seen : List ℕ) → seen ≡ places → picks ≡ pick → ((place : ℕ) → place < length picks → Contains seen place)
    → (place : ℕ) → place < length pick → Contains places place
whole_of pick picks places seen s p whole place below =
    subst (λ (ns : List ℕ). Contains ns place) s (whole place (subst (λ (ps : List Picked). place < length ps) (sym p) below))

pub none_answers : (shelves : List Shelf) (wants : Wants) (pick : List Picked) (places seen : List ℕ) (picks : List Picked)
    → AreReachedFrom (graph_of shelves wants pick) (starts_of pick wants.wants) places → seen ≡ places → picks ≡ pick
    → ((place : ℕ) → place < length picks → Contains seen place) → IsFirst (IsOfKind (IsBreach shelves wants pick) 3) None
none_answers shelves wants pick places seen picks are s p whole = no_gap shelves wants pick places are (whole_of pick picks places seen s p whole)

pub all_answered : (shelves : List Shelf) (wants : Wants) (pick : List Picked) (places seen : List ℕ) (picks : List Picked)
    → AreReachedFrom (graph_of shelves wants pick) (starts_of pick wants.wants) places → seen ≡ places → picks ≡ pick
    → ((place : ℕ) → place < length picks → Contains seen place) → All (λ picked. IsReached shelves wants pick picked.0) pick
all_answered shelves wants pick places seen picks are s p whole = all_reached shelves wants pick places are (whole_of pick picks places seen s p whole)

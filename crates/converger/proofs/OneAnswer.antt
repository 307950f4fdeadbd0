-- What is reached, and what diverges, is one list.
use Rattle.std.proofs.Common.{◌≡◌, ℕ, ◌<◌, ◌⊎◌, inl, inr, List, Option, Contains, arith}
use Rattle.std.proofs.lemmas.List.Elements.{All-contains}
use Rattle.semver.specs.Parse.{Parts}
use Rattle.dep_rows.specs.declared.row.Row.{Row}
use Rattle.dep_rows.specs.Rows.{IsWinner}
use Rattle.converger.specs.declared.divergence.Divergence.{Divergence}
use Rattle.converger.specs.Divergence.{AreDivergences, Diverges, rank}
use Rattle.converger.specs.Reach.{AreReached, IsReached}
use Rattle.converger.proofs.OneLemmas.{one_list}

also_reached : (rows : List Row) (env target : List ℕ) (places other : List ℕ) → AreReached rows env target places → AreReached rows env target other
    → (place : ℕ)
    → Contains places place → Contains other place
also_reached rows env target places other are others place has =
    let wins = All-contains (λ (p : ℕ). (row : Row) × IsWinner rows p row × IsReached rows env target row.app) places place are.only has in
    others.all place wins.0 wins.1 wins.2

pub one_reach : (rows : List Row) (env target : List ℕ) (places other : List ℕ) → AreReached rows env target places → AreReached rows env target other
    → places ≡ other
one_reach rows env target places other are others =
    one_list (λ (x y : ℕ). x < y) (λ x y before after. omega (arith, before, after)) places other are.in_order others.in_order
    (also_reached rows env target places other are others) (also_reached rows env target other places others are)

-- a divergence comes before another one
IsBefore : Divergence → Divergence → Type 0
IsBefore x y = (x.other < y.other) ⊎ ((x.other ≡ y.other) × (rank x.rule < rank y.rule))

one_way : (x y : Divergence) → IsBefore x y → IsBefore y x → ⊥
unfolding IsBefore
one_way x y (inl less) (inl more) = omega (arith, less, more)
one_way x y (inl less) (inr (same, lower)) = omega (arith, less, same)
one_way x y (inr (same, lower)) (inl more) = omega (arith, same, more)
one_way x y (inr (same, lower)) (inr (also, higher)) = omega (arith, lower, higher)

also_diverges : (rows : List Row) (winners : List ℕ) (versions : List (Option Parts)) (list other : List Divergence)
    → AreDivergences rows winners versions list → AreDivergences rows winners versions other → (d : Divergence) → Contains list d → Contains other d
also_diverges rows winners versions list other are others d has =
    others.all d.rule d.winner d.other (All-contains (λ (e : Divergence). Diverges rows winners versions e.rule e.winner e.other) list d are.only has)

pub one_divergence_list : (rows : List Row) (winners : List ℕ) (versions : List (Option Parts)) (list other : List Divergence)
    → AreDivergences rows winners versions list → AreDivergences rows winners versions other → list ≡ other
unfolding IsBefore
one_divergence_list rows winners versions list other are others =
    one_list IsBefore one_way list other are.in_order others.in_order
    (also_diverges rows winners versions list other are others) (also_diverges rows winners versions other list others are)

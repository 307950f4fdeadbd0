-- What an environment reaches for a target, by the graph of links.
use Rattle.std.proofs.Common.{◌≡◌, ℕ, ◌<◌, inl, inr, List, [], length, get_or, Contains, Some, sym, ◌∙◌, subst, refl, arith}
use Rattle.std.proofs.lemmas.Bool.{cases_lt}
use Rattle.std.proofs.lemmas.List.{get_or_past}
use Rattle.std.proofs.lemmas.List.Elements.{Contains-get_or}
use Rattle.dep_order.specs.Graph.{needs_of}
use Rattle.dep_order.specs.Reach.{IsReachedFrom, Direct, Further, AreReachedFrom}
use Rattle.dep_order.proofs.ReachedLists.{reach_exists}
use Rattle.dep_rows.specs.declared.row.Row.{Row}
use Rattle.dep_rows.specs.Rows.{IsWinner, winner_of}
use Rattle.dep_rows.proofs.WinnerOf.{winner_is, is_winner}
use Rattle.converger.specs.Reach.{AreReached, IsReached, is_asked_by, is_wanted, links_of, starts_of}
use Rattle.converger.proofs.Links.{Brings, who_brings, length-links_of, links_at, links_within, starts_within}
use Rattle.converger.proofs.WebLemmas.{one_value}

pub starts_brought : (rows : List Row) (env target : List ℕ) (place : ℕ) → Contains (starts_of rows env target) place
    → Brings rows (is_wanted env target) rows place
unfolding starts_of
starts_brought rows env target place has = who_brings rows (is_wanted env target) rows place has

pub links_brought : (rows : List Row) (target : List ℕ) (through place : ℕ) → Contains (needs_of (links_of rows target) through) place
    → Brings rows (is_asked_by target through) rows place × (through < length rows)
links_brought rows target through place has = elim (cases_lt through (length rows)) [
  | inl within ↦
      (who_brings rows (is_asked_by target through) rows place (subst (λ (l : List ℕ). Contains l place) (links_at rows target through [] within) has), within)
  | inr past ↦
      let long = length-links_of rows target in
      let none : Contains [] place = subst (λ (l : List ℕ). Contains l place) (get_or_past (links_of rows target) through []
      (omega (arith, past, long))) has in
      absurd (omega (arith, none.1))
]

module _ (rows : List Row) (env target : List ℕ) where
  -- what is reached is an app's winner
  names_app : (place : ℕ) → IsReachedFrom (links_of rows target) (starts_of rows env target) place → (app : List ℕ) × (winner_of rows app ≡ Some place)
  names_app place (Direct _ has) = let b = starts_brought rows env target place has in (b.row.app, b.wins)
  names_app place (Further through _ reached has) = let b = (links_brought rows target through place has).0 in (b.row.app, b.wins)

  pub reached_at : (place : ℕ) (row : Row) → IsWinner rows place row → IsReachedFrom (links_of rows target) (starts_of rows env target) place
      → IsReached rows env target row.app
  reached_at place row wins reached = record { winner = place; wins = is_winner rows row.app place row wins refl; reached = reached }

  pub at_reached : (place : ℕ) (row : Row) → IsWinner rows place row → IsReached rows env target row.app
      → IsReachedFrom (links_of rows target) (starts_of rows env target) place
  at_reached place row wins r =
      let same : r.winner ≡ place = one_value (sym r.wins ∙ is_winner rows row.app place row wins refl) in
      subst (IsReachedFrom (links_of rows target) (starts_of rows env target)) same r.reached

  pub are_reached : (places : List ℕ) → AreReachedFrom (links_of rows target) (starts_of rows env target) places → AreReached rows env target places
  are_reached places are = record {
    in_order = are.in_order;
    only = λ k d within.
        let place = get_or places k d in
        let reached = (are.each place).0 (Contains-get_or places k d within) in
        let named = names_app place reached in
        let w = winner_is rows named.0 place named.1 in
        (w.row, w.wins, reached_at place w.row w.wins reached);
    all = λ place row wins reached. (are.each place).1 (at_reached place row wins reached);
  }

  pub some_reach : (places : List ℕ) × AreReached rows env target places
  some_reach =
      let found = reach_exists (links_of rows target) (starts_of rows env target) (links_within rows target) (starts_within rows env target) in
      (found.0, are_reached found.0 found.1)

  pub some_places : (places : List ℕ) × AreReachedFrom (links_of rows target) (starts_of rows env target) places
  some_places = reach_exists (links_of rows target) (starts_of rows env target) (links_within rows target) (starts_within rows env target)

-- Picks that are made for wants, one decision after another. Nothing here speaks of a search.
use Rattle.std.specs.Prelude.{◌≡◌, ℕ, Bool, true, not, ◌&&◌, List, [], map, find, filter, Option, Some, None, option_map, bytes_eq}
use Rattle.std.specs.List.{list_any, list_all}
use Rattle.hex_registry.specs.Candidates.{AreCandidatesOf}
use Rattle.hex_registry.specs.Missing.{least_with, missing_names}
use Rattle.hex_registry.specs.Picks.{Picked, demand_refuses, demands_at, want_refuses, with_picked}
use Rattle.hex_registry.specs.Shelves.{offer_at, stock_of}
use Rattle.hex_registry.specs.declared.offer.Demand.{Demand}
use Rattle.hex_registry.specs.declared.offer.Offer.{Offer}
use Rattle.hex_registry.specs.declared.shelf.Shelf.{Shelf}
use Rattle.hex_registry.specs.declared.wants.Want.{Want}
use Rattle.hex_registry.specs.declared.wants.Wants.{Wants}

-- the text of the version that is locked of a package: the first one of its name
abbrev pub locked_of : List (List ℕ × List ℕ) → List ℕ → Option (List ℕ)
locked_of locked name = option_map (λ entry. entry.1) (find (λ entry. bytes_eq name entry.0) locked)

-- these are each package's candidates, by the places of their releases, in the order in which they are tried
abbrev pub AreTried : List Shelf → Wants → (List ℕ → List ℕ) → Type 0
AreTried shelves wants candidates = (name : List ℕ) → AreCandidatesOf (stock_of shelves name) (locked_of wants.locked name) (candidates name)

-- what is wanted, of which packages, and what is tried
pub record Problem : Type 0 where
  pub shelves : List Shelf
  pub wants : Wants
  pub candidates : List ℕ → List ℕ

abbrev pub problem_of : List Shelf → Wants → (List ℕ → List ℕ) → Problem
problem_of shelves wants candidates = record { shelves = shelves; wants = wants; candidates = candidates }

-- the candidates are those of its registry
abbrev pub IsProblem : Problem → Type 0
IsProblem problem = AreTried problem.shelves problem.wants problem.candidates

-- the package that is decided next: the least that is required and undecided
abbrev pub next_needed : Problem → List Picked → Option (List ℕ)
next_needed problem pick = least_with None (missing_names problem.shelves problem.wants pick)

abbrev pub wants_take_offer : List Want → List ℕ → Option Offer → Bool
wants_take_offer wants name None = true
wants_take_offer wants name (Some offer) = not (list_any (want_refuses name offer) wants)

abbrev pub demands_take_offer : List (List ℕ) → List Demand → List ℕ → Option Offer → Bool
demands_take_offer overridden demands name None = true
demands_take_offer overridden demands name (Some offer) = not (list_any (demand_refuses overridden name offer) demands)

-- each want of the package takes the release
abbrev pub wants_take : Problem → Picked → Bool
wants_take problem picked = wants_take_offer problem.wants.wants picked.0 (offer_at problem.shelves picked)

-- what a release demands of the package in force, the other release meets
abbrev pub takes : Problem → Picked → Picked → Bool
takes problem by picked = demands_take_offer problem.wants.overridden (demands_at problem.shelves problem.wants by) picked.0 (offer_at problem.shelves picked)

-- no requirement in force on a decided package is broken
abbrev pub agrees : Problem → List Picked → Bool
agrees problem pick = list_all (λ picked. wants_take problem picked && list_all (λ by. takes problem by picked) pick) pick

-- the picks that decide the package by one of these releases and break no requirement
abbrev pub decided_by : Problem → List Picked → List ℕ → List ℕ → List (List Picked)
decided_by problem pick name places = filter (agrees problem) (map (λ place. with_picked pick (name, place)) places)

abbrev pub children_at : Problem → List Picked → Option (List ℕ) → List (List Picked)
children_at problem pick None = []
children_at problem pick (Some name) = decided_by problem pick name (problem.candidates name)

-- the partial picks that decide one package more
abbrev pub children : Problem → List Picked → List (List Picked)
children problem pick = children_at problem pick (next_needed problem pick)

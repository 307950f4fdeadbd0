-- What a further release and those that are picked say of one another, by what is asked of its package.
use Rattle.std.proofs.Common.{append_assoc, ◌≡◌, ℕ, Bool, true, false, not, ◌&&◌, ◌||◌, cond, List, [], ◌∷◌, ◌++◌, map, flat_map, filter, Option, Some, None, option_map, bytes_eq, refl, sym, ap, subst, ◌∙◌, Bor}
use Rattle.std.specs.List.{list_any, list_all, Contains}
use Rattle.std.proofs.lemmas.List.Folds.{list_any-append}
use Rattle.hex_registry.specs.Picks.{Picked, ArePicks, demand_refuses, demand_takes, demands_at, picked_of}
use Rattle.hex_registry.specs.Shelves.{offer_at}
use Rattle.hex_registry.specs.declared.offer.Demand.{Demand}
use Rattle.hex_registry.specs.declared.offer.Offer.{Offer}
use Rattle.hex_registry.specs.declared.shelf.Shelf.{Shelf}
use Rattle.hex_registry.specs.declared.wants.Wants.{Wants}
use Rattle.hex_registry.proofs.Lists.{all_each, all_from, and_both, any_found, any_from, find_some, found_one}
use Rattle.hex_registry.proofs.NameOrder.{one_place}
use Rattle.hex_registry.proofs.ValidLemmas.{bytes_itself, same_bytes}
use Rattle.hex_pick.specs.Fitting.{demands_on, fits_offer, in_force, offer_of, on_package, takes_offer, takes_picked}
use Rattle.hex_pick.specs.Problem.{demands_take_offer}
use Rattle.hex_pick.proofs.FitLemmas.{all_both}

-- what is asked of a package is all that matters to it
any_on : (overridden : List (List ℕ)) (name : List ℕ) (offer : Offer) (demands : List Demand)
    → list_any (demand_refuses overridden name offer) (on_package name demands) ≡ list_any (demand_refuses overridden name offer) demands
any_on overridden name offer [] = refl
any_on overridden name offer (d ∷ ds) =
    (elim (bytes_eq name d.«package») as (λ b. bytes_eq name d.«package» ≡ b
    → list_any (demand_refuses overridden name offer) (cond b (d ∷ on_package name ds) (on_package name ds)) ≡
    (demand_refuses overridden name offer d || list_any (demand_refuses overridden name offer) ds)) [
      | true ↦ (λ e. ap (λ b. demand_refuses overridden name offer d || b) (any_on overridden name offer ds))
      | false ↦ (λ e. any_on overridden name offer ds
          ∙ sym (ap (λ b. (b && not (demand_takes overridden offer d)) || list_any (demand_refuses overridden name offer) ds) e))
    ]) refl

not_or : (a b : Bool) → (not a && not b) ≡ not (a || b)
not_or true b = refl
not_or false b = refl

none_asked : (overridden : List (List ℕ)) (name : List ℕ) (offer : Offer) (f : Picked → List Demand) (pick : List Picked)
    → list_all (λ by. not (list_any (demand_refuses overridden name offer) (f by))) pick ≡
    not (list_any (demand_refuses overridden name offer) (flat_map (λ by. on_package name (f by)) pick))
none_asked overridden name offer f [] = refl
none_asked overridden name offer f (by ∷ rest) =
    let refuses = demand_refuses overridden name offer in
    ap (λ b. not (list_any (demand_refuses overridden name offer) (f by)) && b) (none_asked overridden name offer f rest)
    ∙ not_or (list_any (demand_refuses overridden name offer) (f by))
    (list_any (demand_refuses overridden name offer) (flat_map (λ q. on_package name (f q)) rest))
    ∙ ap (λ b. not (b || list_any (demand_refuses overridden name offer) (flat_map (λ q. on_package name (f q)) rest)))
    (sym (any_on overridden name offer (f by)))
    ∙ ap not (sym (list_any-append (demand_refuses overridden name offer) (on_package name (f by)) (flat_map (λ q. on_package name (f q)) rest)))

pub any_mapped : {A B : Type 0} (t : B → Bool) (f : A → B) (xs : List A) → list_any (λ x. t (f x)) xs ≡ list_any t (map f xs)
any_mapped t f [] = refl
any_mapped t f (x ∷ xs) = ap (λ b. t (f x) || b) (any_mapped t f xs)

-- a package that is picked is found
picked_is : (pick : List Picked) (q : Picked) → ArePicks pick → Contains pick q → picked_of pick q.0 ≡ Some q
picked_is pick q o c =
    let k = found_one (λ (p : Picked). bytes_eq q.0 p.0) pick q c (bytes_itself q.0) in
    let has = find_some (λ (p : Picked). bytes_eq q.0 p.0) pick k.0 k.1 in
    let name : q.0 ≡ k.0.0 = same_bytes q.0 k.0.0 has.1 in
    let place : k.0.1 ≡ q.1 = one_place pick q.0 k.0.1 q.1 o (subst (λ (n : List ℕ). Contains pick (n, k.0.1)) (sym name) has.0) c in
    k.1 ∙ ap (λ (n : List ℕ). Some (n, k.0.1)) (sym name) ∙ ap (λ (n : ℕ). Some (q.0, n)) place

same_truth : (a b : Bool) → (a ≡ true → b ≡ true) → (b ≡ true → a ≡ true) → a ≡ b
same_truth true b f g = sym (f refl)
same_truth false true f g = g refl
same_truth false false f g = refl

not_true : (b : Bool) → not b ≡ true → b ≡ true → ⊥
not_true true h e = absurd (cc)
not_true false h e = absurd (cc)

-- where all demands take an offer, each does
take_one : (overridden : List (List ℕ)) (own : List Demand) (d : Demand) (o : Option Offer) → Contains own d
    → demands_take_offer overridden own d.«package» o ≡ true → takes_offer overridden d o ≡ true
take_one overridden own d None c h = refl
take_one overridden own d (Some offer) c h = at (demand_refuses overridden d.«package» offer d) refl
  where
    at : (b : Bool) → demand_refuses overridden d.«package» offer d ≡ b → not b ≡ true
    at true e = absurd (not_true (list_any (demand_refuses overridden d.«package» offer) own) h
        (any_from (demand_refuses overridden d.«package» offer) own d c e))
    at false e = refl

module _ (shelves : List Shelf) (wants : Wants) (pick : List Picked) (own : List Demand) (o : ArePicks pick) where
  met_each : list_all (λ (q : Picked). demands_take_offer wants.overridden own q.0 (offer_at shelves q)) pick ≡ true
      → list_all (takes_picked shelves wants pick) own ≡ true
  met_each all = all_from (takes_picked shelves wants pick) own (λ d c. at d c (picked_of pick d.«package») refl)
    where
      at : (d : Demand) → Contains own d → (found : Option Picked) → picked_of pick d.«package» ≡ found
          → takes_offer wants.overridden d (offer_of shelves d.«package» (option_map (λ (p : Picked). p.1) found)) ≡ true
      at d c None e = refl
      at d c (Some q) e =
          let k = find_some (λ (p : Picked). bytes_eq d.«package» p.0) pick q e in
          take_one wants.overridden own d (offer_at shelves (d.«package», q.1)) c
          (subst (λ (n : List ℕ). demands_take_offer wants.overridden own n (offer_at shelves (n, q.1)) ≡ true) (sym (same_bytes d.«package» q.0 k.1))
          (all_each (λ (p : Picked). demands_take_offer wants.overridden own p.0 (offer_at shelves p)) pick q all k.0))

  met_all : list_all (takes_picked shelves wants pick) own ≡ true
      → list_all (λ (q : Picked). demands_take_offer wants.overridden own q.0 (offer_at shelves q)) pick ≡ true
  met_all all = all_from (λ (q : Picked). demands_take_offer wants.overridden own q.0 (offer_at shelves q)) pick
      (λ q c. give q c (offer_at shelves q) refl)
    where
      clash : (q : Picked) → Contains pick q → (offer : Offer) → offer_at shelves q ≡ Some offer → (d : Demand) → Contains own d
          → demand_refuses wants.overridden q.0 offer d ≡ true → ⊥
      clash q c offer e d has refuses =
          let name : q.0 ≡ d.«package» =
          same_bytes q.0 d.«package» (and_both (bytes_eq q.0 d.«package») (not (demand_takes wants.overridden offer d)) refuses).0 in
          let found : picked_of pick d.«package» ≡ Some q = subst (λ (n : List ℕ). picked_of pick n ≡ Some q) name (picked_is pick q o c) in
          let offered : offer_at shelves (d.«package», q.1) ≡ Some offer = subst (λ (n : List ℕ). offer_at shelves (n, q.1) ≡ Some offer) name e in
          let taken : takes_offer wants.overridden d (Some offer) ≡ true =
          sym (ap (λ (f : Option Picked). takes_offer wants.overridden d (offer_of shelves d.«package» (option_map (λ (p : Picked). p.1) f))) found
          ∙ ap (takes_offer wants.overridden d) offered) ∙ all_each (takes_picked shelves wants pick) own d all has in
          not_true (demand_refuses wants.overridden d.«package» offer d) taken
          (subst (λ (n : List ℕ). demand_refuses wants.overridden n offer d ≡ true) name refuses)

      give : (q : Picked) → Contains pick q → (offer : Option Offer) → offer_at shelves q ≡ offer
          → demands_take_offer wants.overridden own q.0 offer ≡ true
      give q c None e = refl
      give q c (Some offer) e = at (list_any (demand_refuses wants.overridden q.0 offer) own) refl
        where
          at : (b : Bool) → list_any (demand_refuses wants.overridden q.0 offer) own ≡ b → not b ≡ true
          at true h = (let k = any_found (demand_refuses wants.overridden q.0 offer) own h in absurd (clash q c offer e k.0 k.1 k.2))
          at false h = refl

-- the two ways in which releases may refuse one another, by what is asked of the package and by what the release asks
pub beside_is : (shelves : List Shelf) (wants : Wants) (pick : List Picked) (name : List ℕ) (offer : Offer) → ArePicks pick
    → list_all (fits_offer shelves wants name offer) pick ≡
    (not (list_any (demand_refuses wants.overridden name offer) (demands_on shelves wants pick name))
    && list_all (takes_picked shelves wants pick) (in_force wants offer))
beside_is shelves wants pick name offer o =
    all_both (λ (by : Picked). not (list_any (demand_refuses wants.overridden name offer) (demands_at shelves wants by)))
    (λ (q : Picked). demands_take_offer wants.overridden (in_force wants offer) q.0 (offer_at shelves q)) pick
    ∙ ap (λ b. b && list_all (λ (q : Picked). demands_take_offer wants.overridden (in_force wants offer) q.0 (offer_at shelves q)) pick)
    (none_asked wants.overridden name offer (demands_at shelves wants) pick)
    ∙ ap (λ b. not (list_any (demand_refuses wants.overridden name offer) (demands_on shelves wants pick name)) && b)
    (same_truth (list_all (λ (q : Picked). demands_take_offer wants.overridden (in_force wants offer) q.0 (offer_at shelves q)) pick)
    (list_all (takes_picked shelves wants pick) (in_force wants offer))
    (met_each shelves wants pick (in_force wants offer) o) (met_all shelves wants pick (in_force wants offer) o))

-- one refusal, and none
pub refused_beside : (shelves : List Shelf) (wants : Wants) (pick : List Picked) (name : List ℕ) (offer : Offer) (asked : List Demand) → ArePicks pick
    → asked ≡ demands_on shelves wants pick name → list_any (demand_refuses wants.overridden name offer) asked ≡ true
    → false ≡ list_all (fits_offer shelves wants name offer) pick
refused_beside shelves wants pick name offer asked o is refused =
    sym (beside_is shelves wants pick name offer o
    ∙ ap (λ b. not b && list_all (takes_picked shelves wants pick) (in_force wants offer))
    (ap (list_any (demand_refuses wants.overridden name offer)) (sym is) ∙ refused))

pub taken_beside : (shelves : List Shelf) (wants : Wants) (pick : List Picked) (name : List ℕ) (offer : Offer) (asked : List Demand) → ArePicks pick
    → asked ≡ demands_on shelves wants pick name → list_any (demand_refuses wants.overridden name offer) asked ≡ false
    → list_all (takes_picked shelves wants pick) (in_force wants offer) ≡ list_all (fits_offer shelves wants name offer) pick
taken_beside shelves wants pick name offer asked o is unrefused =
    sym (beside_is shelves wants pick name offer o
    ∙ ap (λ b. not b && list_all (takes_picked shelves wants pick) (in_force wants offer))
    (ap (list_any (demand_refuses wants.overridden name offer)) (sym is) ∙ unrefused))

-- what is asked of a package, one picked release more
pub asked_next : (shelves : List Shelf) (wants : Wants) (pick : List Picked) (name : List ℕ) (asked : List Demand) (by : Picked)
    → (asked ++ on_package name (demands_at shelves wants by)) ++ flat_map (λ q. on_package name (demands_at shelves wants q)) pick ≡
    asked ++ flat_map (λ q. on_package name (demands_at shelves wants q)) (by ∷ pick)
asked_next shelves wants pick name asked by =
    append_assoc asked (on_package name (demands_at shelves wants by)) (flat_map (λ q. on_package name (demands_at shelves wants q)) pick)

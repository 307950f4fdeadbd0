-- The first package that is missing, and the first whose release is no candidate.
use Rattle.std.proofs.Common.{◌≡◌, ℕ, Bool, true, false, not, ◌&&◌, cond, List, [], ◌∷◌, ◌++◌, map, filter, flat_map, find, fold, Option, Some, None, option_map, IsTrue, IsFalse, is_le, ◌⊎◌, inl, inr, refl, sym, ap, subst, ◌∙◌, append_assoc, append-nil, arith}
use Rattle.std.specs.List.{Contains}
use Rattle.std.proofs.lemmas.Bool.{and_from, and_parts, not-true}
use Rattle.std.proofs.lemmas.List.Elements.{Contains-append_cases, Contains-append_left, Contains-append_right}
use Rattle.mx_base.specs.Order.{text_cmp}
use Rattle.hex_registry.specs.declared.breach.Breach.{Breach}
use Rattle.hex_registry.specs.declared.breach.Breach.TheVariants.{NotPicked, NotCandidate, Unmet, Unreached}
use Rattle.hex_registry.specs.declared.offer.Demand.{Demand}
use Rattle.hex_registry.specs.declared.shelf.Shelf.{Shelf}
use Rattle.hex_registry.specs.declared.wants.Want.{Want}
use Rattle.hex_registry.specs.declared.wants.Wants.{Wants}
use Rattle.hex_registry.specs.Breaches.{IsBreach, IsFirst, IsOfKind, lesser_of, breach_cmp, kind_of}
use Rattle.hex_registry.specs.Breaches.IsBreach.{not_picked, not_candidate, unmet, unreached}
use Rattle.hex_registry.specs.Breaches.IsFirst.{none, first}
use Rattle.hex_registry.specs.Missing.{least_with, misses_demand, misses_want, missing_demands, missing_names, missing_wants}
use Rattle.hex_registry.specs.Picks.{Picked, ArePicks, IsAsked, demands_at, has_package, is_candidate}
use Rattle.hex_registry.specs.Picks.IsAsked.{wanted, demanded}
use Rattle.hex_registry.proofs.Lists.{Joined, Mapped, contains_cases, contains_none, filtered_of, find_none, find_some, here, in_filtered, in_joined, in_mapped, joined_of, mapped_of, there}
use Rattle.hex_registry.proofs.NameOrder.{first_of, le_itself, le_other, le_then}

-- the least of names, or none where there are none
pub data IsLow (names : List (List ℕ)) : Option (List ℕ) → Type 0 where
  nothing : names ≡ [] → IsLow names None
  lowest : {name : List ℕ} → Contains names name → ((other : List ℕ) → Contains names other → is_le (text_cmp name other) ≡ true) → IsLow names (Some name)

low_more : (names : List (List ℕ)) (low : Option (List ℕ)) (name : List ℕ) → IsLow names low → IsLow (names ++ name ∷ []) (Some (lesser_of low name))
low_more names _ name (nothing empty) =
    subst (λ (ns : List (List ℕ)). IsLow (ns ++ name ∷ []) (Some name)) (sym empty)
    (lowest (here name []) (λ other c. elim (contains_cases name other [] c) [
      | inl e ↦ subst (λ (n : List ℕ). is_le (text_cmp name n) ≡ true) e (le_itself name)
      | inr more ↦ absurd (contains_none other more)
    ]))
low_more names _ name (lowest {name = low} stands least) =
    (elim (is_le (text_cmp low name)) as (λ b. is_le (text_cmp low name) ≡ b → IsLow (names ++ name ∷ []) (Some (cond b low name))) [
      | true ↦ (λ e. lowest (Contains-append_left names (name ∷ []) low stands) (λ other c. elim (Contains-append_cases names (name ∷ []) other c) [
        | inl h ↦ least other h
        | inr h ↦ elim (contains_cases name other [] h) [
          | inl same ↦ subst (λ (n : List ℕ). is_le (text_cmp low n) ≡ true) same e
          | inr more ↦ absurd (contains_none other more)
        ]
      ]))
      | false ↦ (λ e. lowest (Contains-append_right names (name ∷ []) name (here name []))
          (λ other c. elim (Contains-append_cases names (name ∷ []) other c) [
            | inl h ↦ le_then name low other (le_other low name e) (least other h)
            | inr h ↦ elim (contains_cases name other [] h) [
              | inl same ↦ subst (λ (n : List ℕ). is_le (text_cmp name n) ≡ true) same (le_itself name)
              | inr more ↦ absurd (contains_none other more)
            ]
          ]))
    ]) refl

low_all : (before names : List (List ℕ)) (low : Option (List ℕ)) → IsLow before low → IsLow (before ++ names) (least_with low names)
low_all before [] low is = subst (λ (ns : List (List ℕ)). IsLow ns low) (sym (append-nil before)) is
low_all before (name ∷ names) low is =
    subst (λ (ns : List (List ℕ)). IsLow ns (least_with (Some (lesser_of low name)) names)) (append_assoc before (name ∷ []) names)
    (low_all (before ++ name ∷ []) names (Some (lesser_of low name)) (low_more before low name is))

pub low_of : (names : List (List ℕ)) → IsLow names (least_with None names)
low_of names = low_all [] names None (nothing refl)

-- what is missing is what is asked and not picked
pub record IsMissing (shelves : List Shelf) (wants : Wants) (pick : List Picked) (name : List ℕ) : Type 0 where
  pub asked : IsAsked shelves wants pick name
  pub lacks : has_package pick name ≡ false

pub missing_of : (shelves : List Shelf) (wants : Wants) (pick : List Picked) (name : List ℕ) → Contains (missing_names shelves wants pick) name
    → IsMissing shelves wants pick name
missing_of shelves wants pick name c =
    elim (Contains-append_cases (missing_wants pick wants.wants) (flat_map (λ (by : Picked). missing_demands pick (demands_at shelves wants by)) pick) name c) [
      | inl h ↦ (let k = mapped_of (λ (want : Want). want.«package») (filter (misses_want pick) wants.wants) name h in
          let f = filtered_of (misses_want pick) wants.wants k.x k.stands in
          let both = and_parts (not k.x.optional) (not (has_package pick k.x.«package»)) f.1 in
          subst (λ (n : List ℕ). IsMissing shelves wants pick n) k.is
          (record { asked = wanted k.x f.0 (not-true k.x.optional both.0); lacks = not-true (has_package pick k.x.«package») both.1 }))
      | inr h ↦ (let j = joined_of (λ (by : Picked). missing_demands pick (demands_at shelves wants by)) pick name h in
          let k = mapped_of (λ (demand : Demand). demand.«package») (filter (misses_demand pick) (demands_at shelves wants j.x)) name j.within in
          let f = filtered_of (misses_demand pick) (demands_at shelves wants j.x) k.x k.stands in
          let both = and_parts (not k.x.optional) (not (has_package pick k.x.«package»)) f.1 in
          subst (λ (n : List ℕ). IsMissing shelves wants pick n) k.is
          (record { asked = demanded j.x k.x j.stands f.0 (not-true k.x.optional both.0); lacks = not-true (has_package pick k.x.«package») both.1 }))
    ]

pub in_missing : (shelves : List Shelf) (wants : Wants) (pick : List Picked) (name : List ℕ) → IsAsked shelves wants pick name → has_package pick name ≡ false
    → Contains (missing_names shelves wants pick) name
in_missing shelves wants pick _ (wanted want c required) lacking =
    Contains-append_left (missing_wants pick wants.wants) (flat_map (λ (by : Picked). missing_demands pick (demands_at shelves wants by)) pick) want.«package»
    (in_mapped (λ (w : Want). w.«package») (filter (misses_want pick) wants.wants) want
    (in_filtered (misses_want pick) wants.wants want c (and_from (not want.optional) (not (has_package pick want.«package»)) (ap not required)
    (ap not lacking))))
in_missing shelves wants pick _ (demanded by demand c d required) lacking =
    Contains-append_right (missing_wants pick wants.wants) (flat_map (λ (q : Picked). missing_demands pick (demands_at shelves wants q)) pick)
    demand.«package»
    (in_joined (λ (q : Picked). missing_demands pick (demands_at shelves wants q)) pick by demand.«package» c
    (in_mapped (λ (w : Demand). w.«package») (filter (misses_demand pick) (demands_at shelves wants by)) demand
    (in_filtered (misses_demand pick) (demands_at shelves wants by) demand d (and_from (not demand.optional) (not (has_package pick demand.«package»))
    (ap not required) (ap not lacking)))))

first_low : (shelves : List Shelf) (wants : Wants) (pick : List Picked) (low : Option (List ℕ)) → IsLow (missing_names shelves wants pick) low
    → IsFirst (IsOfKind (IsBreach shelves wants pick) 0) (option_map NotPicked low)
first_low shelves wants pick _ (nothing empty) = none never
  where
    never : (breach : Breach) → IsOfKind (IsBreach shelves wants pick) 0 breach → ⊥
    never (NotPicked name) (kind, not_picked asked lacking) = contains_none name
        (subst (λ (ns : List (List ℕ)). Contains ns name) empty (in_missing shelves wants pick name asked lacking))
    never (NotCandidate name) (kind, is) = omega (arith, kind)
    never (Unmet name by) (kind, is) = omega (arith, kind)
    never (Unreached name) (kind, is) = omega (arith, kind)
first_low shelves wants pick _ (lowest {name = low} stands least) =
    (let m = missing_of shelves wants pick low stands in first (refl, not_picked m.asked m.lacks) after)
  where
    after : (other : Breach) → IsOfKind (IsBreach shelves wants pick) 0 other → IsTrue (is_le (breach_cmp (NotPicked low) other))
    after (NotPicked name) (kind, not_picked asked lacking) = least name (in_missing shelves wants pick name asked lacking)
    after (NotCandidate name) (kind, is) = absurd (omega (arith, kind))
    after (Unmet name by) (kind, is) = absurd (omega (arith, kind))
    after (Unreached name) (kind, is) = absurd (omega (arith, kind))

pub first_missing : (shelves : List Shelf) (wants : Wants) (pick : List Picked) (low : Option (List ℕ))
    → low ≡ least_with None (missing_names shelves wants pick) → IsFirst (IsOfKind (IsBreach shelves wants pick) 0) (option_map NotPicked low)
first_missing shelves wants pick low is =
    first_low shelves wants pick low (subst (λ (o : Option (List ℕ)). IsLow (missing_names shelves wants pick) o) (sym is)
    (low_of (missing_names shelves wants pick)))

pub first_not_candidate : (shelves : List Shelf) (wants : Wants) (pick : List Picked) (picked : Picked) → ArePicks pick
    → find (λ (q : Picked). not (is_candidate shelves q)) pick ≡ Some picked
    → IsFirst (IsOfKind (IsBreach shelves wants pick) 1) (Some (NotCandidate picked.0))
first_not_candidate shelves wants pick picked in_order found =
    (let f = find_some (λ (q : Picked). not (is_candidate shelves q)) pick picked found in
    first (refl, not_candidate picked f.0 (not-true (is_candidate shelves picked) f.1)) after)
  where
    after : (other : Breach) → IsOfKind (IsBreach shelves wants pick) 1 other → IsTrue (is_le (breach_cmp (NotCandidate picked.0) other))
    after (NotCandidate name) (kind, not_candidate other c lacking) = first_of (λ (q : Picked). not (is_candidate shelves q)) pick picked other in_order found
        c (ap not lacking)
    after (NotPicked name) (kind, is) = absurd (omega (arith, kind))
    after (Unmet name by) (kind, is) = absurd (omega (arith, kind))
    after (Unreached name) (kind, is) = absurd (omega (arith, kind))

pub no_not_candidate : (shelves : List Shelf) (wants : Wants) (pick : List Picked) → find (λ (q : Picked). not (is_candidate shelves q)) pick ≡ None
    → IsFirst (IsOfKind (IsBreach shelves wants pick) 1) None
no_not_candidate shelves wants pick found = none never
  where
    never : (breach : Breach) → IsOfKind (IsBreach shelves wants pick) 1 breach → ⊥
    never (NotCandidate name) (kind, not_candidate other c lacking) = let k : not (is_candidate shelves other) ≡ false = find_none
        (λ (q : Picked). not (is_candidate shelves q)) pick other found c in let clash : true ≡ false = sym (ap not lacking) ∙ k in cc
    never (NotPicked name) (kind, is) = omega (arith, kind)
    never (Unmet name by) (kind, is) = omega (arith, kind)
    never (Unreached name) (kind, is) = omega (arith, kind)

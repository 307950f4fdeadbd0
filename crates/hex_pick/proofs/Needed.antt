-- What is decided next, and picks that hold others.
use Rattle.std.proofs.Common.{◌≡◌, ℕ, Bool, true, false, List, [], Option, Some, None, is_le, ◌⊎◌, inl, inr, refl, sym, ap, subst, ◌∙◌}
use Rattle.std.specs.List.{Contains}
use Rattle.std.proofs.lemmas.Bool.{cases_Bool}
use Rattle.mx_base.specs.Order.{text_cmp}
use Rattle.hex_registry.specs.Missing.{least_with, missing_names}
use Rattle.hex_registry.specs.Picks.{Picked, IsAsked, has_package}
use Rattle.hex_registry.specs.Picks.IsAsked.{wanted, demanded}
use Rattle.hex_registry.proofs.Lists.{contains_none}
use Rattle.hex_registry.proofs.MissingLemmas.{IsLow, in_missing, low_of, missing_of}
use Rattle.hex_registry.proofs.MissingLemmas.IsLow.{nothing, lowest}
use Rattle.hex_pick.specs.Problem.{Problem, next_needed}

-- the least of names
low_some : (names : List (List ℕ)) (name : List ℕ) → least_with None names ≡ Some name → Contains names name ×
    ((other : List ℕ) → Contains names other → is_le (text_cmp name other) ≡ true)
low_some names name e = at (subst (λ (o : Option (List ℕ)). IsLow names o) e (low_of names))
  where
    at : IsLow names (Some name) → Contains names name × ((other : List ℕ) → Contains names other → is_le (text_cmp name other) ≡ true)
    at (lowest stands least) = (stands, least)

low_none : (names : List (List ℕ)) → least_with None names ≡ None → names ≡ []
low_none names e = at (subst (λ (o : Option (List ℕ)). IsLow names o) e (low_of names))
  where
    at : IsLow names None → names ≡ []
    at (nothing empty) = empty

-- the package that is decided next
pub record Open (problem : Problem) (pick : List Picked) (name : List ℕ) : Type 0 where
  pub asked : IsAsked problem.shelves problem.wants pick name
  pub undecided : has_package pick name ≡ false
  pub lowest : (other : List ℕ) → IsAsked problem.shelves problem.wants pick other → has_package pick other ≡ false → is_le (text_cmp name other) ≡ true

pub next_open : (problem : Problem) (pick : List Picked) (name : List ℕ) → next_needed problem pick ≡ Some name → Open problem pick name
next_open problem pick name e =
    let k = low_some (missing_names problem.shelves problem.wants pick) name e in
    let m = missing_of problem.shelves problem.wants pick name k.0 in
    record {
      asked = m.asked;
      undecided = m.lacks;
      lowest = λ other a u. k.1 other (in_missing problem.shelves problem.wants pick other a u);
    }

pub none_open : (problem : Problem) (pick : List Picked) (name : List ℕ) → next_needed problem pick ≡ None → IsAsked problem.shelves problem.wants pick name
    → has_package pick name ≡ true
none_open problem pick name e a =
    elim (cases_Bool (has_package pick name)) [
      | inl having ↦ having
      | inr lacking ↦ absurd (contains_none name (subst (λ (ns : List (List ℕ)). Contains ns name)
          (low_none (missing_names problem.shelves problem.wants pick) e) (in_missing problem.shelves problem.wants pick name a lacking)))
    ]

pub open_none : (problem : Problem) (pick : List Picked) → ((name : List ℕ) → IsAsked problem.shelves problem.wants pick name → has_package pick name ≡ true)
    → next_needed problem pick ≡ None
open_none problem pick all = at (next_needed problem pick) refl
  where
    at : (o : Option (List ℕ)) → next_needed problem pick ≡ o → o ≡ None
    at None e = refl
    at (Some name) e = let k = next_open problem pick name e in absurd (let clash : true ≡ false = sym (all name k.asked) ∙ k.undecided in cc)

-- what the first picks, the others pick too
abbrev pub Within : List Picked → List Picked → Type 0
Within pick others = (q : Picked) → Contains pick q → Contains others q

pub asked_more : (problem : Problem) (pick others : List Picked) {name : List ℕ} → Within pick others → IsAsked problem.shelves problem.wants pick name
    → IsAsked problem.shelves problem.wants others name
asked_more problem pick others within (wanted want c required) = wanted want c required
asked_more problem pick others within (demanded by demand c d required) = demanded by demand (within by c) d required

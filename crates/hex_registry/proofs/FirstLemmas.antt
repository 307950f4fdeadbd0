-- The first package that isn't met, and the first that isn't reached.
use Rattle.std.proofs.Common.{◌≡◌, ℕ, ◌<◌, ◌≤◌, true, List, length, get_or, slice_get, Option, Some, None, IsTrue, is_le, ◌⊎◌, inl, inr, refl, sym, ap, subst, ◌∙◌, arith}
use Rattle.std.specs.List.{Contains}
use Rattle.std.proofs.lemmas.Bool.{cases_lt}
use Rattle.std.proofs.lemmas.Option.{slice_get-get_or}
use Rattle.hex_registry.specs.declared.breach.Breach.{Breach}
use Rattle.hex_registry.specs.declared.breach.Breach.TheVariants.{NotPicked, NotCandidate, Unmet, Unreached}
use Rattle.hex_registry.specs.declared.shelf.Shelf.{Shelf}
use Rattle.hex_registry.specs.declared.unmet.By.{By}
use Rattle.hex_registry.specs.declared.wants.Wants.{Wants}
use Rattle.hex_registry.specs.Breaches.{IsAgainst, IsBreach, IsFirst, IsOfKind, breach_cmp}
use Rattle.hex_registry.specs.Breaches.IsBreach.{not_picked, not_candidate, unmet, unreached}
use Rattle.hex_registry.specs.Breaches.IsFirst.{none, first}
use Rattle.hex_registry.specs.Picks.{Picked, ArePicks, IsReached}
use Rattle.hex_registry.proofs.NameOrder.{in_order_at}

-- the first that isn't met
pub unmet_first : (shelves : List Shelf) (wants : Wants) (pick : List Picked) (i : ℕ) (picked : Picked) (by : By) → ArePicks pick → i < length pick
    → get_or pick i picked ≡ picked → ((k : ℕ) (d : Picked) → k < i → (b : By) → IsAgainst shelves wants pick (get_or pick k d) b → ⊥)
    → IsAgainst shelves wants pick picked by → IsFirst (IsOfKind (IsBreach shelves wants pick) 2) (Some (Unmet picked.0 by))
unmet_first shelves wants pick i picked by o l at before against = first (refl, unmet picked (i, l, at) against) after
  where
    after : (other : Breach) → IsOfKind (IsBreach shelves wants pick) 2 other → IsTrue (is_le (breach_cmp (Unmet picked.0 by) other))
    after (NotPicked name) (kind, is) = absurd (omega (arith, kind))
    after (NotCandidate name) (kind, is) = absurd (omega (arith, kind))
    after (Unmet name b) (kind, unmet other c a) = elim (cases_lt c.0 i) [
      | inl less ↦ absurd (before c.0 other less b (subst (λ (q : Picked). IsAgainst shelves wants pick q b) (sym c.2) a))
      | inr later ↦ in_order_at pick i picked other o l at c later
    ]
    after (Unreached name) (kind, is) = absurd (omega (arith, kind))

pub unmet_none : (shelves : List Shelf) (wants : Wants) (pick : List Picked)
    → ((k : ℕ) (d : Picked) → k < length pick → (b : By) → IsAgainst shelves wants pick (get_or pick k d) b → ⊥)
    → IsFirst (IsOfKind (IsBreach shelves wants pick) 2) None
unmet_none shelves wants pick before = none never
  where
    never : (other : Breach) → IsOfKind (IsBreach shelves wants pick) 2 other → ⊥
    never (NotPicked name) (kind, is) = omega (arith, kind)
    never (NotCandidate name) (kind, is) = omega (arith, kind)
    never (Unmet name b) (kind, unmet other c a) = before c.0 other c.1 b (subst (λ (q : Picked). IsAgainst shelves wants pick q b) (sym c.2) a)
    never (Unreached name) (kind, is) = omega (arith, kind)

-- the first that isn't reached
pub unreached_first : (shelves : List Shelf) (wants : Wants) (pick : List Picked) (i : ℕ) (picked : Picked) → ArePicks pick → i < length pick
    → get_or pick i picked ≡ picked → ((k : ℕ) (q : Picked) → k < i → slice_get pick k ≡ Some q → IsReached shelves wants pick q.0)
    → (IsReached shelves wants pick picked.0 → ⊥) → IsFirst (IsOfKind (IsBreach shelves wants pick) 3) (Some (Unreached picked.0))
unreached_first shelves wants pick i picked o l at before never = first (refl, unreached picked (i, l, at) never) after
  where
    after : (other : Breach) → IsOfKind (IsBreach shelves wants pick) 3 other → IsTrue (is_le (breach_cmp (Unreached picked.0) other))
    after (NotPicked name) (kind, is) = absurd (omega (arith, kind))
    after (NotCandidate name) (kind, is) = absurd (omega (arith, kind))
    after (Unmet name b) (kind, is) = absurd (omega (arith, kind))
    after (Unreached name) (kind, unreached other c lacking) = elim (cases_lt c.0 i) [
      | inl less ↦ absurd (lacking (before c.0 other less (slice_get-get_or pick c.0 other c.1 ∙ ap Some c.2)))
      | inr later ↦ in_order_at pick i picked other o l at c later
    ]

pub unreached_none : (shelves : List Shelf) (wants : Wants) (pick : List Picked) → ((q : Picked) → Contains pick q → IsReached shelves wants pick q.0)
    → IsFirst (IsOfKind (IsBreach shelves wants pick) 3) None
unreached_none shelves wants pick all = none never
  where
    never : (other : Breach) → IsOfKind (IsBreach shelves wants pick) 3 other → ⊥
    never (NotPicked name) (kind, is) = omega (arith, kind)
    never (NotCandidate name) (kind, is) = omega (arith, kind)
    never (Unmet name b) (kind, is) = omega (arith, kind)
    never (Unreached name) (kind, unreached other c lacking) = lacking (all other c)

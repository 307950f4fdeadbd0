-- An environment that the root doesn't name is like any other of these, and so is a target that no row names.
use Rattle.std.proofs.Common.{◌≡◌, ℕ, ◌<◌, Bool, true, false, cond, ◌&&◌, List, [], length, get_or, Contains, sym, ◌∙◌, ap, subst, refl, IsTrue, Option, Some, None, is_none}
use Rattle.std.specs.List.{slice_get}
use Rattle.std.proofs.Math.Bool.{and-false}
use Rattle.std.proofs.lemmas.Bool.{false≢true, both_ways, and_parts, and_from}
use Rattle.dep_order.specs.Graph.{needs_of}
use Rattle.dep_order.specs.Reach.{IsReachedFrom, Direct, Further}
use Rattle.dep_rows.specs.declared.row.Row.{Row}
use Rattle.converger.specs.Reach.{admits, is_asked_by, is_declarer, is_for, is_wanted, links_of, starts_of}
use Rattle.converger.specs.Strays.{IsStray, AreNamed, IsUnnamed, is_named, only_of, targets_of}
use Rattle.converger.proofs.Links.{brought, links_at}
use Rattle.converger.proofs.Reached.{starts_brought, links_brought}

also_admits : (list : Option (List (List ℕ))) (name fresh : List ℕ) → admits list name ≡ true → (is_named list name ≡ true → ⊥) → admits list fresh ≡ true
also_admits None name fresh h not_named = refl
also_admits (Some names) name fresh h not_named = absurd (not_named h)

no_value : (o : Option ℕ) → is_none o ≡ true → o ≡ None
no_value None h = refl
no_value (Some x) h = absurd (false≢true h)

only_in_root : (row : Row) → row.by ≡ None → only_of row ≡ row.decl.only
only_in_root row root = ap (λ (o : Option ℕ). cond (is_none o) row.decl.only None) root

module _ (rows : List Row) (has : List ℕ → Bool) (named : AreNamed only_of rows has) (env fresh target : List ℕ) (none : has env ≡ false)
    (unnamed : IsUnnamed only_of rows fresh) where
  env_starts : (place : ℕ) → Contains (starts_of rows env target) place → Contains (starts_of rows fresh target) place
  unfolding starts_of
  env_starts place among =
      let b = starts_brought rows env target place among in
      let parts = and_parts _ (is_for env target b.row.decl) b.passes in
      let both = and_parts (admits b.row.decl.only env) (admits b.row.decl.targets target) parts.1 in
      let only = only_in_root b.row (no_value b.row.by parts.0) in
      let not_named : is_named b.row.decl.only env ≡ true → ⊥ = λ h.
      both_ways (has env) none (named b.place b.row env b.stands (ap (λ (l : Option (List (List ℕ))). is_named l env) only ∙ h)) in
      brought rows (is_wanted fresh target) rows place b.place b.row b.stands
      (and_from _ _ parts.0 (and_from _ _ (also_admits b.row.decl.only env fresh both.0 not_named) both.1)) b.wins

  env_reached : (place : ℕ) → IsReachedFrom (links_of rows target) (starts_of rows env target) place
      → IsReachedFrom (links_of rows target) (starts_of rows fresh target) place
  env_reached place (Direct _ among) = Direct place (env_starts place among)
  env_reached place (Further through _ reached among) = Further through place (env_reached through reached) among

  env_barred : (only targets : Option (List (List ℕ))) → (admits only env && admits targets target) ≡ false → is_named only fresh ≡ false
      → (admits only fresh && admits targets target) ≡ false
  env_barred None targets h not_named = h
  env_barred (Some names) targets h not_named = ap (λ (b : Bool). b && admits targets target) not_named

  pub env_stray : (other : ℕ) → IsStray rows env target other → IsStray rows fresh target other
  env_stray other s = record {
    place = s.place;
    by = s.by;
    winner = s.winner;
    row = s.row;
    parent = s.parent;
    under = s.under;
    root = s.root;
    barred = env_barred s.winner.decl.only s.winner.decl.targets s.barred
        (ap (λ (l : Option (List (List ℕ))). is_named l fresh) (sym (only_in_root s.winner s.root)) ∙ unnamed s.place s.winner s.under.wins.stands);
    required = s.required;
    meant = s.meant;
    declared = s.declared;
    stands = s.stands;
    reached = record { winner = s.reached.winner; wins = s.reached.wins; reached = env_reached s.reached.winner s.reached.reached };
  }

  pub env_place : (other : ℕ) (s : IsStray rows env target other) → (env_stray other s).place ≡ s.place
  unfolding env_stray
  env_place other s = refl

module _ (rows : List Row) (has : List ℕ → Bool) (named : AreNamed targets_of rows has) (env target fresh : List ℕ) (none : has target ≡ false)
    (unnamed : IsUnnamed targets_of rows fresh) where
  still_meant : (place : ℕ) (row : Row) → slice_get rows place ≡ Some row → admits row.decl.targets target ≡ true → admits row.decl.targets fresh ≡ true
  still_meant place row stands meant =
      also_admits row.decl.targets target fresh meant (λ h. both_ways (has target) none (named place row target stands h))

  target_starts : (place : ℕ) → Contains (starts_of rows env target) place → Contains (starts_of rows env fresh) place
  unfolding starts_of
  target_starts place among =
      let b = starts_brought rows env target place among in
      let parts = and_parts _ (is_for env target b.row.decl) b.passes in
      let both = and_parts (admits b.row.decl.only env) (admits b.row.decl.targets target) parts.1 in
      brought rows (is_wanted env fresh) rows place b.place b.row b.stands
      (and_from _ _ parts.0 (and_from _ _ both.0 (still_meant b.place b.row b.stands both.1))) b.wins

  target_links : (through place : ℕ) → Contains (needs_of (links_of rows target) through) place → Contains (needs_of (links_of rows fresh) through) place
  target_links through place among =
      let at = links_brought rows target through place among in
      let b = at.0 in
      let parts = and_parts b.row.required (admits b.row.decl.targets target && is_declarer through b.row.by) b.passes in
      let both = and_parts (admits b.row.decl.targets target) (is_declarer through b.row.by) parts.1 in
      subst (λ (l : List ℕ). Contains l place) (sym (links_at rows fresh through [] at.1))
      (brought rows (is_asked_by fresh through) rows place b.place b.row b.stands
      (and_from _ _ parts.0 (and_from _ _ (still_meant b.place b.row b.stands both.0) both.1)) b.wins)

  target_reached : (place : ℕ) → IsReachedFrom (links_of rows target) (starts_of rows env target) place
      → IsReachedFrom (links_of rows fresh) (starts_of rows env fresh) place
  target_reached place (Direct _ among) = Direct place (target_starts place among)
  target_reached place (Further through _ reached among) = Further through place (target_reached through reached) (target_links through place among)

  target_barred : (only targets : Option (List (List ℕ))) → (admits only env && admits targets target) ≡ false → is_named targets fresh ≡ false
      → (admits only env && admits targets fresh) ≡ false
  target_barred only None h not_named = h
  target_barred only (Some names) h not_named = ap (λ (b : Bool). admits only env && b) not_named ∙ and-false (admits only env)

  pub target_stray : (other : ℕ) → IsStray rows env target other → IsStray rows env fresh other
  target_stray other s = record {
    place = s.place;
    by = s.by;
    winner = s.winner;
    row = s.row;
    parent = s.parent;
    under = s.under;
    root = s.root;
    barred = target_barred s.winner.decl.only s.winner.decl.targets s.barred (unnamed s.place s.winner s.under.wins.stands);
    required = s.required;
    meant = still_meant other s.row s.under.stands s.meant;
    declared = s.declared;
    stands = s.stands;
    reached = record { winner = s.reached.winner; wins = s.reached.wins; reached = target_reached s.reached.winner s.reached.reached };
  }

  pub target_place : (other : ℕ) (s : IsStray rows env target other) → (target_stray other s).place ≡ s.place
  unfolding target_stray
  target_place other s = refl

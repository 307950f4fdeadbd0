-- Whether there are an environment and a target for which a row is a stray.
use Rattle.std.proofs.Common.{◌≡◌, ℕ, Bool, inl, inr, List, sym, ◌∙◌, ap, subst, refl, Option, Some, None, IsTrue, IsFalse}
use Rattle.std.specs.List.{slice_get}
use Rattle.std.proofs.lemmas.Bool.{cases_Bool}
use Rattle.std.proofs.lemmas.Option.{none-some}
use Rattle.semver.specs.Parse.{Parts}
use Rattle.dep_rows.specs.declared.row.Row.{Row}
use Rattle.dep_rows.specs.Rows.{winner_of}
use Rattle.dep_order.specs.Reach.{IsReachedFrom}
use Rattle.converger.specs.declared.divergence.Rule.TheVariants.{V4}
use Rattle.converger.specs.Divergence.{Diverges, IsUnder}
use Rattle.converger.specs.Divergence.Diverges.{build}
use Rattle.converger.specs.Reach.{IsReached, admits, is_for, links_of, starts_of}
use Rattle.converger.specs.Strays.{IsStray, only_of, targets_of}
use Rattle.converger.proofs.Another.{are_named, has_name, other_name, other_unnamed, tried_named, tried_names, tried_other}
use Rattle.converger.proofs.Decided.{IsDecided, dec_map, dec_and, dec_is, dec_isnt, dec_none, dec_contains, dec_some, Some_of}
use Rattle.converger.proofs.Reached.{some_places}
use Rattle.converger.proofs.UnnamedLemmas.{env_stray, env_place, target_stray, target_place}
use Rattle.converger.proofs.WebLemmas.{one_value}

module _ (rows : List Row) where
  -- ---- reach

  dec_reached : (env target app : List ℕ) → IsDecided (IsReached rows env target app)
  dec_reached env target app = at (winner_of rows app) refl
    where
      at : (o : Option ℕ) → winner_of rows app ≡ o → IsDecided (IsReached rows env target app)
      at None none = inr (λ r. none-some r.winner (sym none ∙ r.wins))
      at (Some place) wins =
          let all = some_places rows env target in
          dec_map
          (λ has. record { winner = place; wins = wins; reached = (all.1.each place).0 has })
          (λ r.
          let same : r.winner ≡ place = one_value (sym r.wins ∙ wins) in
          (all.1.each place).1 (subst (IsReachedFrom (links_of rows target) (starts_of rows env target)) same r.reached))
          (dec_contains all.0 place)

  module _ (place other : ℕ) (winner row : Row) (under : IsUnder rows place winner other row) where
    -- what is the same in all environments and for all targets
    record Beside (by : ℕ) (parent : Row) : Type 0 where
      root : winner.by ≡ None
      required : IsTrue row.required
      declared : row.by ≡ Some by
      stands : slice_get rows by ≡ Some parent

    abbrev Barred : List ℕ → List ℕ → Row → Type 0
    Barred env target parent =
        IsFalse (is_for env target winner.decl) × (IsTrue (admits row.decl.targets target) × IsReached rows env target parent.app)

    abbrev stray_beside : (by : ℕ) (parent : Row) → Beside by parent → (env target : List ℕ) → Barred env target parent → IsStray rows env target other
    stray_beside by parent b env target h = record {
      place = place;
      by = by;
      winner = winner;
      row = row;
      parent = parent;
      under = under;
      root = b.root;
      barred = h.0;
      required = b.required;
      meant = h.1.0;
      declared = b.declared;
      stands = b.stands;
      reached = h.1.1;
    }

    beside_stray : (by : ℕ) (parent : Row) → Beside by parent → (env target : List ℕ) → (s : IsStray rows env target other) → s.place ≡ place
        → Barred env target parent
    beside_stray by parent b env target s same =
        let same_row : s.row ≡ row = one_value (sym s.under.stands ∙ under.stands) in
        let there : slice_get rows place ≡ Some s.winner = rw same at s.under.wins.stands in
        let same_winner : s.winner ≡ winner = one_value (sym there ∙ under.wins.stands) in
        let declared : row.by ≡ Some s.by = rw same_row at s.declared in
        let same_by : s.by ≡ by = one_value (sym declared ∙ b.declared) in
        let stands : slice_get rows by ≡ Some s.parent = rw same_by at s.stands in
        let same_parent : s.parent ≡ parent = one_value (sym stands ∙ b.stands) in
        let app = ap (λ (r : Row). r.app) same_parent in
        (rw same_winner at s.barred, (rw same_row at s.meant, rw app at s.reached))

    abbrev At : List ℕ → List ℕ → Type 0
    At env target = (s : IsStray rows env target other) × (s.place ≡ place)

    -- in some environment
    abbrev AtTarget : List ℕ → Type 0
    AtTarget target = (env : List ℕ) × At env target

    dec_at : (by : ℕ) (parent : Row) → Beside by parent → (target env : List ℕ) → IsDecided (At env target)
    dec_at by parent b target env =
        dec_map (λ h. (stray_beside by parent b env target h, refl)) (λ s. beside_stray by parent b env target s.0 s.1)
        (dec_and (dec_isnt (is_for env target winner.decl)) (dec_and (dec_is (admits row.decl.targets target)) (dec_reached env target parent.app)))

    one_of_envs : (target env : List ℕ) → At env target → Some_of (tried_names only_of rows) (λ e. At e target)
    one_of_envs target env s = elim (cases_Bool (has_name only_of rows env)) [
      | inl named ↦ (env, tried_named only_of rows env named, s)
      | inr not ↦
          let has = has_name only_of rows in
          let are = are_named only_of rows in
          let fresh = other_name only_of rows in
          let unnamed = other_unnamed only_of rows in
          let same = env_place rows has are env fresh target not unnamed other s.0 in
          (fresh, tried_other only_of rows, (env_stray rows has are env fresh target not unnamed other s.0, same ∙ s.1))
    ]

    one_of_targets : (target : List ℕ) → AtTarget target → Some_of (tried_names targets_of rows) AtTarget
    one_of_targets target (env, s) = elim (cases_Bool (has_name targets_of rows target)) [
      | inl named ↦ (target, tried_named targets_of rows target named, (env, s))
      | inr not ↦
          let has = has_name targets_of rows in
          let are = are_named targets_of rows in
          let fresh = other_name targets_of rows in
          let unnamed = other_unnamed targets_of rows in
          let same = target_place rows has are env target fresh not unnamed other s.0 in
          (fresh, tried_other targets_of rows, (env, (target_stray rows has are env target fresh not unnamed other s.0, same ∙ s.1)))
    ]

    dec_target : (by : ℕ) (parent : Row) → Beside by parent → (target : List ℕ) → IsDecided (AtTarget target)
    dec_target by parent b target =
        dec_map (λ h. (h.0, h.2)) (λ s. one_of_envs target s.0 s.1)
        (dec_some (λ e. At e target) (dec_at by parent b target) (tried_names only_of rows))

    module _ (winners : List ℕ) (versions : List (Option Parts)) where
      abbrev D : Type 0
      D = Diverges rows winners versions V4 place other

      stray_of : D → (target : List ℕ) × AtTarget target
      stray_of (build by w r parent env target also root barred required meant declared stands reached) =
          let stray : IsStray rows env target other = record {
            place = place;
            by = by;
            winner = w;
            row = r;
            parent = parent;
            under = also;
            root = root;
            barred = barred;
            required = required;
            meant = meant;
            declared = declared;
            stands = stands;
            reached = reached;
          } in
          (target, (env, (stray, refl)))

      of_stray : (env target : List ℕ) → At env target → D
      of_stray env target (s, same) =
          subst (λ (p : ℕ). Diverges rows winners versions V4 p other) same
          (build s.by s.winner s.row s.parent env target s.under s.root s.barred s.required s.meant s.declared s.stands s.reached)

      facts_of : D → (by : ℕ) × (parent : Row) × Beside by parent
      facts_of (build by w r parent env target also root barred required meant declared stands reached) =
          let same_row : r ≡ row = one_value (sym also.stands ∙ under.stands) in
          let same_winner : w ≡ winner = one_value (sym also.wins.stands ∙ under.wins.stands) in
          (by, parent, record { root = rw same_winner at root; required = rw same_row at required; declared = rw same_row at declared; stands = stands })

      dec_beside : (o : Option ℕ) → row.by ≡ o → IsDecided ((by : ℕ) × (parent : Row) × Beside by parent)
      dec_beside None none = inr (λ h. none-some h.0 (sym none ∙ h.2.declared))
      dec_beside (Some by) is = at (slice_get rows by) refl
        where
          at : (o : Option Row) → slice_get rows by ≡ o → IsDecided ((by : ℕ) × (parent : Row) × Beside by parent)
          at None none = inr (λ h. none-some h.1 (sym none ∙ ap (slice_get rows) (one_value (sym is ∙ h.2.declared)) ∙ h.2.stands))
          at (Some parent) stands =
              dec_map (λ h. (by, parent, record { root = h.0; required = h.1; declared = is; stands = stands })) (λ h. (h.2.root, h.2.required))
              (dec_and (dec_none winner.by) (dec_is row.required))

      decided : IsDecided ((by : ℕ) × (parent : Row) × Beside by parent) → IsDecided D
      decided (inr not) = inr (λ d. not (facts_of d))
      decided (inl facts) =
          dec_map (λ h. of_stray h.2.0 h.0 h.2.1) (λ d. let s = stray_of d in one_of_targets s.0 s.1)
          (dec_some AtTarget (dec_target facts.0 facts.1 facts.2) (tried_names targets_of rows))

      pub dec_v4 : IsDecided D
      dec_v4 = decided (dec_beside row.by refl)

pub dec_stray : (rows : List Row) (winners : List ℕ) (versions : List (Option Parts)) (place other : ℕ) (winner row : Row)
    (under : IsUnder rows place winner other row) → IsDecided (Diverges rows winners versions V4 place other)
dec_stray rows winners versions place other winner row under = dec_v4 rows place other winner row under winners versions

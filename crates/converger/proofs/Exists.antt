-- Rows and versions have a list of all divergences.
use Rattle.std.proofs.Common.{◌≡◌, ◌≢◌, ℕ, zero, suc, ◌+◌, Bool, ◌⊎◌, inl, inr, List, [], ◌∷◌, ◌++◌, length, zero-add, sym, ◌∙◌, ap, subst, refl, arith, Option, Some, None, IsFalse}
use Rattle.std.specs.List.{slice_get, range_with_len}
use Rattle.std.proofs.lemmas.List.FromFn.{get_or-range_with_len, length-range_with_len}
use Rattle.std.proofs.lemmas.Option.{none-some, slice_get_within}
use Rattle.semver.specs.Parse.{Parts}
use Rattle.version_req.specs.Condition.{Alternatives}
use Rattle.version_req.specs.Meaning.{sat}
use Rattle.dep_rows.specs.declared.row.Row.{Row}
use Rattle.dep_rows.specs.Listed.{Listed}
use Rattle.dep_rows.specs.Rows.{winner_of}
use Rattle.converger.specs.declared.divergence.Divergence.{Divergence}
use Rattle.converger.specs.declared.divergence.Rule.{Rule}
use Rattle.converger.specs.declared.divergence.Rule.TheVariants.{V1, V2, V3, V4}
use Rattle.converger.specs.Cases.{AreBefore, turn_of}
use Rattle.converger.specs.Divergence.{AreDivergences, Diverges, IsUnder, is_ignored, is_path}
use Rattle.converger.specs.Divergence.Diverges.{source, compiled, version}
use Rattle.converger.proofs.CaseLemmas.{under_at, none_diverges, not_diverging, stands_under}
use Rattle.converger.proofs.Decided.{IsDecided, dec_map, dec_not, dec_or, dec_and, dec_isnt, dec_bool, dec_number, dec_text, dec_source, dec_compiler, dec_some}
use Rattle.converger.proofs.SomeStray.{dec_stray}
use Rattle.converger.proofs.Turns.{before_found, before_none, before_first, before_same, before_all}
use Rattle.converger.proofs.WebLemmas.{one_value}

module _ (rows : List Row) (winners : List ℕ) (versions : List (Option Parts)) where
  -- a version of the winner that isn't asked for
  record IsMissed (requirement : Alternatives) (pre : Bool) (place k : ℕ) : Type 0 where
    known : Parts
    wins : slice_get winners k ≡ Some place
    has : slice_get versions k ≡ Some (Some known)
    fails : IsFalse (sat requirement known pre)

  dec_missed : (requirement : Alternatives) (pre : Bool) (place k : ℕ) → IsDecided (IsMissed requirement pre place k)
  dec_missed requirement pre place k = at (slice_get winners k) refl (slice_get versions k) refl
    where
      with_version : slice_get winners k ≡ Some place → (o : Option (Option Parts)) → slice_get versions k ≡ o → IsDecided (IsMissed requirement pre place k)
      with_version wins None is = inr (λ m. none-some (Some m.known) (sym is ∙ m.has))
      with_version wins (Some None) is = inr (λ m. none-some m.known (one_value (sym is ∙ m.has)))
      with_version wins (Some (Some known)) is =
          dec_map (λ fails. record { known = known; wins = wins; has = is; fails = fails })
          (λ m.
          let same : known ≡ m.known = one_value (one_value (sym is ∙ m.has)) in
          ap (λ (v : Parts). sat requirement v pre) same ∙ m.fails)
          (dec_isnt (sat requirement known pre))

      at : (w : Option ℕ) → slice_get winners k ≡ w → (o : Option (Option Parts)) → slice_get versions k ≡ o → IsDecided (IsMissed requirement pre place k)
      at None none o is = inr (λ m. none-some place (sym none ∙ m.wins))
      at (Some other) there o is = elim (dec_number other place) [
        | inl same ↦ with_version (there ∙ ap (λ (n : ℕ). Some n) same) o is
        | inr apart ↦ inr (λ m. apart (one_value (sym there ∙ m.wins)))
      ]

  -- ---- a row under its winner

  module _ (place other : ℕ) (winner row : Row) (under : IsUnder rows place winner other row) where
    abbrev D : Rule → Type 0
    D rule = Diverges rows winners versions rule place other

    one_winner : (w r : Row) → IsUnder rows place w other r → w ≡ winner
    one_winner w r also = one_value (sym also.wins.stands ∙ under.wins.stands)

    one_row : (w r : Row) → IsUnder rows place w other r → r ≡ row
    one_row w r also = one_value (sym also.stands ∙ under.stands)

    abbrev SourceDiffers : Row → Row → Type 0
    SourceDiffers w r = (other ≢ place) × (IsFalse (is_ignored w r) × (r.decl.source ≢ w.decl.source))

    source_of : D V1 → SourceDiffers winner row
    source_of (source w r also apart kept differs) =
        subst (λ (x : Row). SourceDiffers winner x) (one_row w r also) (subst (λ (x : Row). SourceDiffers x r) (one_winner w r also) (apart, (kept, differs)))

    dec_first : IsDecided (D V1)
    dec_first = dec_map (λ h. source winner row under h.0 h.1.0 h.1.1) source_of
        (dec_and (dec_not (dec_number other place)) (dec_and (dec_isnt (is_ignored winner row)) (dec_not (dec_source row.decl.source winner.decl.source))))

    abbrev CompiledDiffers : Row → Row → Type 0
    CompiledDiffers w r = (other ≢ place) × (IsFalse (is_ignored w r) ×
        ((r.decl.app_file ≢ w.decl.app_file) ⊎ ((r.decl.env ≢ w.decl.env) ⊎ (r.decl.compile ≢ w.decl.compile))))

    compiled_of : D V2 → CompiledDiffers winner row
    compiled_of (compiled w r also apart kept differs) =
        subst (λ (x : Row). CompiledDiffers winner x) (one_row w r also)
        (subst (λ (x : Row). CompiledDiffers x r) (one_winner w r also) (apart, (kept, differs)))

    dec_second : IsDecided (D V2)
    dec_second = dec_map (λ h. compiled winner row under h.0 h.1.0 h.1.1) compiled_of
        (dec_and (dec_not (dec_number other place)) (dec_and (dec_isnt (is_ignored winner row))
        (dec_or (dec_not (dec_bool row.decl.app_file winner.decl.app_file))
        (dec_or (dec_not (dec_text row.decl.env winner.decl.env)) (dec_not (dec_compiler row.decl.compile winner.decl.compile))))))

    record Asks (w r : Row) : Type 0 where
      kept : IsFalse (is_ignored w r)
      requirement : Alternatives
      asks : r.decl.requirement ≡ Some requirement
      k : ℕ
      missed : IsMissed requirement (is_path w.decl.source) place k

    asks_of : D V3 → Asks winner row
    asks_of (version w r known requirement also kept (k, wins, has) asks fails) =
        let a : Asks w r = record {
          kept = kept;
          requirement = requirement;
          asks = asks;
          k = k;
          missed =
              record { known = known; wins = wins; has = has; fails = fails };
        } in
        subst (λ (x : Row). Asks winner x) (one_row w r also) (subst (λ (x : Row). Asks x r) (one_winner w r also) a)

    dec_asks : (o : Option Alternatives) → row.decl.requirement ≡ o → IsDecided (Asks winner row)
    dec_asks None none = inr (λ a. none-some a.requirement (sym none ∙ a.asks))
    dec_asks (Some requirement) is =
        dec_map
        (λ h. record { kept = h.0; requirement = requirement; asks = is; k = h.1.0; missed = h.1.2 })
        (λ a.
        let same : a.requirement ≡ requirement = one_value (sym a.asks ∙ is) in
        let missed = subst (λ (r : Alternatives). IsMissed r (is_path winner.decl.source) place a.k) same a.missed in
        let within = slice_get_within versions a.k (Some missed.known) missed.has in
        let long = length-range_with_len 0 (length versions) in
        (a.kept, (a.k, (a.k, omega (arith, within, long), get_or-range_with_len 0 (length versions) a.k a.k within ∙ zero-add a.k), missed)))
        (dec_and (dec_isnt (is_ignored winner row)) (dec_some (IsMissed requirement (is_path winner.decl.source) place)
        (dec_missed requirement (is_path winner.decl.source) place) (range_with_len 0 (length versions))))

    dec_third : IsDecided (D V3)
    dec_third = dec_map
        (λ a. version winner row a.missed.known a.requirement under a.kept (a.k, a.missed.wins, a.missed.has) a.asks a.missed.fails)
        asks_of (dec_asks row.decl.requirement refl)

    dec_rule : (rule : Rule) → IsDecided (D rule)
    dec_rule V1 = dec_first
    dec_rule V2 = dec_second
    dec_rule V3 = dec_third
    dec_rule V4 = dec_stray rows winners versions place other winner row under

  -- ---- any row

  abbrev Found : Rule → ℕ → Type 0
  Found rule other = ((place : ℕ) × Diverges rows winners versions rule place other) ⊎ ((place : ℕ) → Diverges rows winners versions rule place other → ⊥)

  at_winner : (rule : Rule) (other : ℕ) (row : Row) → slice_get rows other ≡ Some row → (o : Option ℕ) → winner_of rows row.app ≡ o → Found rule other
  at_winner rule other row stands None none = inr (λ p d. none-some p ((none_diverges rows winners versions rule other row stands none p).1 d))
  at_winner rule other row stands (Some place) wins =
      let u = under_at rows place other row stands wins in
      elim (dec_rule place other u.winner u.row u.under rule) [
        | inl d ↦ inl (place, d)
        | inr not ↦ inr (λ p d. none-some p ((not_diverging rows winners versions rule place other row stands wins not p).1 d))
      ]

  at_row : (rule : Rule) (other : ℕ) → (o : Option Row) → slice_get rows other ≡ o → Found rule other
  at_row rule other None none = inr (λ p d. let s = stands_under rows winners versions rule p other d in none-some s.row (sym none ∙ s.under.stands))
  at_row rule other (Some row) stands = at_winner rule other row stands (winner_of rows row.app) refl

  abbrev listed : Listed
  listed = record { rows = rows; winners = winners }

  abbrev Before : ℕ → Type 0
  Before turn = (list : List Divergence) × AreBefore listed versions turn list

  one_turn : (rule : Rule) (other : ℕ) → Before (turn_of other rule) → Before (turn_of other rule + 1)
  one_turn rule other before = elim (at_row rule other (slice_get rows other) refl) [
    | inl found ↦
        let d : Divergence = record { rule = rule; winner = found.0; other = other } in
        (before.0 ++ d ∷ [], before_found listed versions d before.0 before.1 found.1)
    | inr none ↦ (before.0, before_none listed versions rule other before.0 before.1 none)
  ]

  same_turn : (m n : ℕ) → m ≡ n → Before m → Before n
  same_turn m n same before = (before.0, before_same listed versions m n before.0 same before.1)

  turns : (n : ℕ) → Before (turn_of n V1)
  turns zero = ([], before_first listed versions)
  turns (suc n) =
      let first = same_turn (turn_of n V1 + 1) (turn_of n V2) (omega arith) (one_turn V1 n (turns n)) in
      let second = same_turn (turn_of n V2 + 1) (turn_of n V3) (omega arith) (one_turn V2 n first) in
      let third = same_turn (turn_of n V3 + 1) (turn_of n V4) (omega arith) (one_turn V3 n second) in
      same_turn (turn_of n V4 + 1) (turn_of (suc n) V1) (omega arith) (one_turn V4 n third)

  pub some_divergence_list : (list : List Divergence) × AreDivergences rows winners versions list
  some_divergence_list =
      let all = turns (length rows) in
      (all.0, before_all listed versions (length rows) all.0 (omega arith) all.1)

-- A row beside the winner of its app.
use Rattle.std.proofs.Common.{◌≡◌, ◌≢◌, ◌↔◌, ℕ, Bool, true, false, eqb, eqb-true, eq-eqb, List, sym, ◌∙◌, ap, subst, refl, IsTrue, Option, Some, None}
use Rattle.std.specs.Prelude.{option_map}
use Rattle.std.specs.List.{slice_get}
use Rattle.std.proofs.lemmas.Bool.{both_ways}
use Rattle.std.proofs.lemmas.Option.{none-some, slice_get-map}
use Rattle.semver.specs.Identifiers.{parts_of}
use Rattle.semver.specs.Parse.{Parts}
use Rattle.semver.specs.declared.Version.{Version}
use Rattle.version_req.specs.Meaning.{sat}
use Rattle.dep_rows.specs.declared.row.Row.{Row}
use Rattle.dep_rows.proofs.WinnerOf.{is_winner, winner_is}
use Rattle.dep_rows.specs.Listed.{Listed}
use Rattle.dep_rows.specs.Rows.{winner_of}
use Rattle.converger.specs.declared.divergence.Rule.{Rule}
use Rattle.converger.specs.declared.divergence.Rule.TheVariants.{V1, V2, V3, V4}
use Rattle.converger.specs.Divergence.{Diverges, source, compiled, version, build, HasVersion, IsUnder, is_path, parts_in}
use Rattle.converger.specs.Cases.{IsScene, IsUnderAt, Meets}
use Rattle.converger.specs.Strays.{is_marked, IsStray, IsStraySomewhere}
use Rattle.converger.proofs.WebLemmas.{one_value}

-- a version whose parts are known
version_behind : (found : Option Version) (parts : Parts) → option_map parts_of found ≡ Some parts → (v : Version) × (found ≡ Some v) × (parts_of v ≡ parts)
version_behind None parts is = cc
version_behind (Some v) parts is = (v, refl, one_value is)

-- where a version is known, its parts are
by_parts : (winners : List ℕ) (versions : List (Option Version)) (place : ℕ) (found : Option Version)
    → ((v : Version) → (found ≡ Some v) ↔ HasVersion winners versions place (Some v)) → (parts : Parts)
    → (option_map parts_of found ≡ Some parts) ↔ HasVersion winners (parts_in versions) place (Some parts)
by_parts winners versions place found known parts = (to, from)
  where
    to : option_map parts_of found ≡ Some parts → HasVersion winners (parts_in versions) place (Some parts)
    to is =
        let behind = version_behind found parts is in
        let has = (known behind.0).0 behind.1 in (
          has.0,
          has.1,
          slice_get-map (option_map parts_of) versions has.0 ∙ ap (option_map (option_map parts_of)) has.2
              ∙ ap (λ (p : Parts). Some (Some p)) behind.2,
        )

    there : (k : ℕ) → slice_get winners k ≡ Some place → (o : Option (Option Version)) → slice_get versions k ≡ o
        → option_map (option_map parts_of) o ≡ Some (Some parts) → option_map parts_of found ≡ Some parts
    there k wins None stands is = cc
    there k wins (Some None) stands is = cc
    there k wins (Some (Some v)) stands is = ap (option_map parts_of) ((known v).1 (k, wins, stands)) ∙ one_value is

    from : HasVersion winners (parts_in versions) place (Some parts) → option_map parts_of found ≡ Some parts
    from (k, wins, has) = there k wins (slice_get versions k) refl (sym (slice_get-map (option_map parts_of) versions k) ∙ has)

pub under_at : (rows : List Row) (place other : ℕ) (row : Row) → slice_get rows other ≡ Some row → winner_of rows row.app ≡ Some place
    → IsUnderAt rows place other
under_at rows place other row stands wins =
    let w = winner_is rows row.app place wins in
    record { winner = w.row; row = row; under = record { wins = w.wins; stands = stands; app = w.named } }

module _ (rows : List Row) (winners : List ℕ) (versions : List (Option Parts)) where
  pub stands_under : (rule : Rule) (place other : ℕ) → Diverges rows winners versions rule place other → IsUnderAt rows place other
  stands_under _ place other (source winner row under apart kept differs) = record { winner = winner; row = row; under = under }
  stands_under _ place other (compiled winner row under apart kept differs) = record { winner = winner; row = row; under = under }
  stands_under _ place other (version winner row v requirement under kept has asks fails) = record { winner = winner; row = row; under = under }
  stands_under _ place other (build by winner row parent env target under root barred required meant declared stands reached) =
      record { winner = winner; row = row; under = under }

  pub diverges_at_winner : (rule : Rule) (place other : ℕ) (row : Row) → slice_get rows other ≡ Some row → Diverges rows winners versions rule place other
      → winner_of rows row.app ≡ Some place
  diverges_at_winner rule place other row stands d =
      let s = stands_under rule place other d in
      is_winner rows row.app place s.winner s.under.wins (s.under.app ∙ ap (λ (r : Row). r.app) (one_value (sym s.under.stands ∙ stands)))

  -- one winner stands against a row
  pub one_place : (rule other_rule : Rule) (place also other : ℕ) → Diverges rows winners versions rule place other
      → Diverges rows winners versions other_rule also other → place ≡ also
  one_place rule other_rule place also other d e =
      let s = stands_under rule place other d in
      let t = stands_under other_rule also other e in
      one_value (sym (diverges_at_winner rule place other s.row s.under.stands d) ∙ diverges_at_winner other_rule also other s.row s.under.stands e)

  pub none_diverges : (rule : Rule) (other : ℕ) (row : Row) → slice_get rows other ≡ Some row → winner_of rows row.app ≡ None → (p : ℕ)
      → (None ≡ Some p) ↔ Diverges rows winners versions rule p other
  none_diverges rule other row stands none p =
      (λ h. absurd (none-some p h), λ d. absurd (none-some p (sym none ∙ diverges_at_winner rule p other row stands d)))

  pub one_diverges : (rule : Rule) (place other : ℕ) → Diverges rows winners versions rule place other → (p : ℕ)
      → (Some place ≡ Some p) ↔ Diverges rows winners versions rule p other
  one_diverges rule place other d p = (
    λ h. subst (λ (n : ℕ). Diverges rows winners versions rule n other) (one_value h) d,
    λ e. ap (λ (n : ℕ). Some n) (one_place rule rule place p other d e),
  )

  pub not_diverging : (rule : Rule) (place other : ℕ) (row : Row) → slice_get rows other ≡ Some row → winner_of rows row.app ≡ Some place
      → (Diverges rows winners versions rule place other → ⊥) → (p : ℕ) → (None ≡ Some p) ↔ Diverges rows winners versions rule p other
  not_diverging rule place other row stands wins not p = (
    λ h. absurd (none-some p h),
    λ d. absurd (not (subst (λ (n : ℕ). Diverges rows winners versions rule n other)
        (one_value (sym (diverges_at_winner rule p other row stands d) ∙ wins)) d)),
  )

  -- a row and the winner of its app, with what is known of their places
  pub record IsCase (place other : ℕ) (winner row : Row) : Type 0 where
    pub same : Bool
    pub found : Option Version
    pub stray : Bool
    pub under : IsUnder rows place winner other row
    pub is_same : IsTrue same ↔ (other ≡ place)
    pub version : (version : Parts) → (option_map parts_of found ≡ Some version) ↔ HasVersion winners versions place (Some version)
    pub is_stray : IsTrue stray ↔ IsStraySomewhere rows other

  module _ (place other : ℕ) (winner row : Row) (case : IsCase place other winner row) where
    apart_from : case.same ≡ false → other ≢ place
    apart_from apart is = both_ways case.same apart (case.is_same.1 is)

    not_same : other ≢ place → case.same ≡ false
    not_same apart = at case.same refl
      where
        at : (b : Bool) → case.same ≡ b → b ≡ false
        at true h = absurd (apart (case.is_same.0 h))
        at false h = refl

    one_winner : (w r : Row) → IsUnder rows place w other r → w ≡ winner
    one_winner w r under = one_value (sym under.wins.stands ∙ case.under.wins.stands)

    one_row : (w r : Row) → IsUnder rows place w other r → r ≡ row
    one_row w r under = one_value (sym under.stands ∙ case.under.stands)

    pub meets_diverges : (rule : Rule) → Meets rule winner row case.same case.found case.stray → Diverges rows winners versions rule place other
    meets_diverges V1 m = source winner row case.under (apart_from m.0) m.1.0 m.1.1
    meets_diverges V2 m = compiled winner row case.under (apart_from m.0) m.1.0 m.1.1
    meets_diverges V3 m = version winner row (parts_of m.version) m.requirement case.under m.kept
        ((case.version (parts_of m.version)).0 (ap (option_map parts_of) m.has)) m.asks m.fails
    meets_diverges V4 m =
        let at = case.is_stray.0 m in
        let s = at.1.1 in
        let here : s.row ≡ row = one_value (sym s.under.stands ∙ case.under.stands) in
        let same_place : s.place ≡ place = one_value (sym (is_winner rows row.app s.place s.winner s.under.wins (s.under.app ∙ ap (λ (r : Row). r.app) here))
        ∙ is_winner rows row.app place winner case.under.wins case.under.app) in
        subst (λ (p : ℕ). Diverges rows winners versions V4 p other) same_place
        (build s.by s.winner s.row s.parent at.1.0 at.0 s.under s.root s.barred s.required s.meant s.declared s.stands s.reached)

    pub diverges_meets : (rule : Rule) → Diverges rows winners versions rule place other → Meets rule winner row case.same case.found case.stray
    diverges_meets V1 (source w r under apart kept differs) =
        let m : Meets V1 w r case.same case.found case.stray = (not_same apart, (kept, differs)) in
        rw (one_winner w r under, one_row w r under) at m
    diverges_meets V2 (compiled w r under apart kept differs) =
        let m : Meets V2 w r case.same case.found case.stray = (not_same apart, (kept, differs)) in
        rw (one_winner w r under, one_row w r under) at m
    diverges_meets V3 (version w r v requirement under kept has asks fails) =
        let is_w = one_winner w r under in
        let is_r = one_row w r under in
        let behind = version_behind case.found v ((case.version v).1 has) in
        record {
          kept = rw (is_w, is_r) at kept;
          version = behind.0;
          has = behind.1;
          requirement = requirement;
          asks = rw is_r at asks;
          fails = ap (λ (parts : Parts). sat requirement parts (is_path winner.decl.source)) behind.2 ∙ rw is_w at fails;
        }
    diverges_meets V4 (build by w r parent env target under root barred required meant declared stands reached) =
        let stray : IsStray rows env target other = record {
          place = place;
          by = by;
          winner = w;
          row = r;
          parent = parent;
          under = under;
          root = root;
          barred = barred;
          required = required;
          meant = meant;
          declared = declared;
          stands = stands;
          reached = reached;
        } in
        case.is_stray.1 (target, (env, stray))

    pub case_iff : (rule : Rule) → Meets rule winner row case.same case.found case.stray ↔ Diverges rows winners versions rule place other
    case_iff rule = (meets_diverges rule, diverges_meets rule)

pub case_in_scene : (listed : Listed) (versions : List (Option Version)) (strays : List Bool) → IsScene listed versions strays
    → (place other : ℕ) (winner row : Row) → IsUnder listed.rows place winner other row → (found : Option Version)
    → ((v : Version) → (found ≡ Some v) ↔ HasVersion listed.winners versions place (Some v)) → (rule : Rule)
    → Meets rule winner row (eqb place other) found (is_marked strays other) ↔ Diverges listed.rows listed.winners (parts_in versions) rule place other
case_in_scene listed versions strays scene place other winner row under found known rule =
    case_iff listed.rows listed.winners (parts_in versions) place other winner row (record {
      same = eqb place other;
      found = found;
      stray = is_marked strays other;
      under = under;
      is_same = (λ h. sym (eqb-true place other h), λ e. eq-eqb place other (sym e));
      version = by_parts listed.winners versions place found known;
      is_stray = scene.are_strays other;
    }) rule

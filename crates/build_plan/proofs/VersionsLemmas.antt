-- Versions of winners, and the rows of divergences.
use Rattle.std.proofs.Common.{◌≡◌, ℕ, ◌<◌, Bool, true, false, eqb, List, [], ◌∷◌, length, get_or, All, sym, ◌∙◌, ap, subst, arith, Option, Some, None, Ok, IsSome}
use Rattle.std.proofs.lemmas.Option.{slice_get_within, get_or_from_slice_get}
use Rattle.std.proofs.lemmas.Bool.{eqb-true, eqb-false}
use Rattle.semver.specs.Parse.{Parts}
use Rattle.semver.specs.declared.Version.{Version}
use Rattle.dep_rows.specs.declared.row.Row.{Row}
use Rattle.dep_rows.specs.Listed.{Listed}
use Rattle.converger.specs.declared.divergence.Divergence.{Divergence}
use Rattle.converger.specs.declared.divergence.Rule.{Rule}
use Rattle.converger.specs.Converged.{NoneDiverges}
use Rattle.converger.specs.Divergence.{AreDivergences, Diverges, IsUnder, IsWithoutVersion}
use Rattle.converger.specs.Divergence.Diverges.{source, compiled, version, build}
use Rattle.build_plan.specs.Stages.{LiveWith}
use Rattle.build_plan.specs.Stages.LiveWith.{lives}

-- where no divergence is listed there is none
pub none_diverges : (rows : List Row) (winners : List ℕ) (versions : List (Option Parts)) (list : List Divergence) → length list ≡ 0 → AreDivergences rows winners versions list → NoneDiverges rows winners versions
none_diverges rows winners versions list none are rule place other diverging =
    let has = are.all rule place other diverging in
    omega (arith, none, has.1)

under_within : (rows : List Row) (place other : ℕ) (winner row : Row) → IsUnder rows place winner other row → (place < length rows) × (other < length rows)
under_within rows place other winner row under =
    (slice_get_within rows place winner under.wins.stands, slice_get_within rows other row under.stands)

diverges_within : (rows : List Row) (winners : List ℕ) (versions : List (Option Parts)) (rule : Rule) (place other : ℕ) → Diverges rows winners versions rule place other → (place < length rows) × (other < length rows)
diverges_within rows winners versions _ place other (source winner row under _ _ _) = under_within rows place other winner row under
diverges_within rows winners versions _ place other (compiled winner row under _ _ _) = under_within rows place other winner row under
diverges_within rows winners versions _ place other (version winner row _ _ under _ _ _ _) = under_within rows place other winner row under
diverges_within rows winners versions _ place other (build _ winner row _ _ _ under _ _ _ _ _ _ _) = under_within rows place other winner row under

pub within_rows : (rows copies : List Row) (winners : List ℕ) (versions : List (Option Parts)) (list : List Divergence) → copies ≡ rows → AreDivergences rows winners versions list → All (λ d. (d.winner < length copies) × (d.other < length copies)) list
within_rows rows copies winners versions list same are =
    subst (λ (rs : List Row). All (λ d. (d.winner < length rs) × (d.other < length rs)) list) (sym same)
    (λ k d within. let it = get_or list k d in diverges_within rows winners versions it.rule it.winner it.other (are.only k d within))

pub none_missing : (rows : List Row) (winners : List ℕ) (versions : List (Option Version)) (app : List ℕ) → All (λ version. IsSome version) versions → IsWithoutVersion rows winners versions app → ⊥
none_missing rows winners versions app known without =
    let within = slice_get_within versions without.k None without.without in
    let some : IsSome (get_or versions without.k None) = known without.k None within in
    let none : get_or versions without.k None ≡ None = get_or_from_slice_get versions without.k None None without.without in
    is_none (get_or versions without.k None) none some
  where
    is_none : (o : Option Version) → o ≡ None → IsSome o → ⊥
    is_none None e some = cc
    is_none (Some v) e some = cc

-- the test whether there are any
pub none_left : (list shown : List Divergence) (empty : Bool) → shown ≡ list → empty ≡ eqb (length shown) 0 → empty ≡ true → length list ≡ 0
none_left list shown empty same is nothing = ap length (sym same) ∙ eqb-true (length shown) 0 (sym is ∙ nothing)

pub some_left : (list shown : List Divergence) (empty : Bool) → shown ≡ list → empty ≡ eqb (length shown) 0 → empty ≡ false → 0 < length list
some_left list shown empty same is some =
    let differ : length shown ≡ 0 → ⊥ = eqb-false (length shown) 0 (sym is ∙ some) in
    let long : length shown ≡ length list = ap length same in
    omega (arith, differ, long)

-- so nothing stands against the rows but want of memory
pub some_diverges : (rows : List Row) (winners : List ℕ) (versions : List (Option Parts)) (list : List Divergence) → NoneDiverges rows winners versions → AreDivergences rows winners versions list → 0 < length list → ⊥
some_diverges rows winners versions [] none are some = omega (arith, some)
some_diverges rows winners versions (d ∷ list) none are some = none d.rule d.winner d.other (are.only 0 d (omega arith))

pub live_none : (listed : Listed) (versions : List (Option Parts)) {live : Listed} → LiveWith listed versions (Ok live) → NoneDiverges listed.rows listed.winners versions
live_none listed versions (lives none) = none

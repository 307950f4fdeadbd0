-- A build that has a name is refused none.
use Rattle.std.proofs.Common.{◌≡◌, ℕ, Bool, List, length, cond, ◌∙◌, ap, Ok, Err}
use Rattle.std.proofs.lemmas.Bool.{le-ltb}
use Rattle.mx_base.specs.Blame.Blame.{Input}
use Rattle.mx_base.specs.BuildName.{HasBuildName, build_name, unless_too_long}
use Rattle.mx_base.specs.NameFaults.{blame_of}
use Rattle.mx_base.specs.declared.name.NameError.{NameError}
use Rattle.mx_base.specs.declared.name.NameError.TheVariants.{TooLong}

pub not_refused : (env target : List ℕ) (error : NameError) → HasBuildName env target → blame_of error ≡ Input
    → (blame_of error ≡ Input → Err error ≡ unless_too_long (build_name env target)) → ⊥
not_refused env target error short input why =
    let name = build_name env target in
    let taken : unless_too_long name ≡ Ok name =
    ap (λ (b : Bool). cond b (Err TooLong) (Ok name)) (le-ltb 255 (length name) short) in
    let both : Err error ≡ Ok name = why input ∙ taken in
    cc

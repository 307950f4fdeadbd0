-- Names that are spelled here.
use Rattle.std.proofs.Common.{ℕ, List, IsTrue, sym, ◌∙◌, true≢false}
use Rattle.std.specs.Prelude.{IsFalse}
use Rattle.mx_base.specs.declared.name.NameError.{NameError}
use Rattle.mx_base.specs.AppName.{is_app_name}
use Rattle.mx_base.specs.NameFaults.{is_memory}

-- a name is refused for want of memory alone
pub not_refused : (text : List ℕ) → IsTrue (is_app_name text) → (e : NameError) → IsFalse (is_memory e) → (IsFalse (is_memory e) → IsFalse (is_app_name text)) → ⊥
not_refused text is e other exact = true≢false (sym is ∙ exact other)

-- Where messages lie.
use Rattle.std.proofs.Common.{◌≡◌, ℕ, true, false, IsTrue, IsFalse, List, [], ◌++◌, refl, sym, ◌∙◌, ap}
use Rattle.std.proofs.lemmas.List.{append-nil}
use Rattle.mx_base.specs.AppName.{IsAppName}
use Rattle.mx_base.specs.Layout.{is_in_build}
use Rattle.mx_base.specs.Path.{is_segment}
use Rattle.mx_base.proofs.NameLemmas.{name_with_ending}
use Rattle.hex_registry.specs.Loaded.{package_path}

-- a name is one segment
pub name_is_segment : (name : List ℕ) → IsAppName name → is_segment name ≡ true
name_is_segment name is = ap is_segment (sym (append-nil name)) ∙ name_with_ending name [] is refl

-- messages don't lie among builds
pub message_outside : (name : List ℕ) → is_in_build (package_path name) ≡ false
message_outside name = refl

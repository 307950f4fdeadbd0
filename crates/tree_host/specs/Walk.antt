-- The paths that a walk through folders finds.
use Rattle.std.specs.Prelude.{ℕ, Bool, true, not, List, IsTrue}
use Rattle.mx_base.specs.Path.{child_of, is_below}
use Rattle.mx_base.specs.Layout.{is_in_build}
use Rattle.tree_host.specs.declared.walk.Scope.{Scope}
use Rattle.tree_host.specs.declared.walk.Scope.TheVariants.{Everything, Sources}

-- the folder that a walk goes through, and what it leaves out
pub record Area : Type 0 where
  pub dir : List ℕ
  pub scope : Scope

abbrev pub shows : Scope → List ℕ → Bool
shows Everything path = true
shows Sources path = not (is_in_build path)

-- the path is below the folder, and not left out
pub record IsIn (area : Area) (path : List ℕ) : Type 0 where
  pub below : IsTrue (is_below area.dir path)
  pub shown : IsTrue (shows area.scope path)

-- each name in the folder gives a path below the walk's
abbrev pub LeadsBelow : Area → List ℕ → Type 0
LeadsBelow area folder = (name : List ℕ) → IsTrue (is_below area.dir (child_of folder name))

use Rattle.std.proofs.Common.{ℕ, ◌++◌, ◌∷◌, [], ◌-◌, ◌<◌, length, IsTrue}
use Rattle.mx_base.specs.AppName.{fits_at}
use Rattle.build_manifest.specs.Names.{BeginsFree}
use Rattle.build_manifest.proofs.needs.Needs.+begins_free.Given as goal

abbrev pub decreases-begins_free : goal.decreases-begins_free
decreases-begins_free l = 255 - length l.name.now

-- no byte before this one leads on
abbrev pub invariant-bytes : goal.invariant-bytes
invariant-bytes l = (byte : ℕ) → byte < l.byte → IsTrue (fits_at (length l.name) byte) → BeginsFree l.self.listed.items (l.name ++ byte ∷ []) → ⊥

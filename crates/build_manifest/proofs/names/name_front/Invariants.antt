use Rattle.std.proofs.Common.{ℕ, ◌<◌, ◌≤◌, slice_index, IsTrue}
use Rattle.mx_base.specs.AppName.{fits_at}
use Rattle.build_manifest.proofs.names.name_front.Given as goal

abbrev pub invariant-bytes : goal.invariant-bytes
invariant-bytes l = (l.i ≤ 255) × ((k : ℕ) → k < l.i → IsTrue (fits_at k (slice_index l.text k)))

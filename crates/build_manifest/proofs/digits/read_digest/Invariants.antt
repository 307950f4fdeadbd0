use Rattle.std.proofs.Common.{◌≡◌, [], ◌++◌, length, take}
use Rattle.std.specs.Prelude.{flat_map}
use Rattle.reading.specs.Field.{FitInTurn}
use Rattle.build_manifest.specs.Fields.{byte_text}
use Rattle.build_manifest.proofs.DigestLemmas.{ByteFits}
use Rattle.build_manifest.proofs.digits.read_digest.Given as goal

abbrev pub invariant-bytes : goal.invariant-bytes
invariant-bytes l = (length l.bytes ≡ 32) × FitInTurn ByteFits [] (take l.i l.bytes) × (l.text ≡ flat_map byte_text (take l.i l.bytes) ++ l.rest)

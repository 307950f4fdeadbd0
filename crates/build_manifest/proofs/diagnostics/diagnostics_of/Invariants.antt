use Rattle.std.proofs.Common.{◌≡◌, ◌++◌, drop}
use Rattle.std.specs.List.{All}
use Rattle.mx_base.specs.Digest.{IsDigest}
use Rattle.build_manifest.specs.Diagnostics.{diagnostics_of}
use Rattle.build_manifest.proofs.diagnostics.diagnostics_of.Given as goal

abbrev pub invariant-loop-source : goal.invariant-loop-source
invariant-loop-source l = record {
  made : l.digests ++ diagnostics_of (drop l.source-index l.sources) l.text ≡ diagnostics_of l.sources l.text;
  each : All IsDigest l.digests;
}

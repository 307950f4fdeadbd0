use Rattle.std.proofs.Common.{◌≡◌, ◌≤◌, [], true}
use Rattle.std.specs.List.{list_all}
use Rattle.semver.specs.Grammar.{is_identifier_byte}
use Rattle.version_req.specs.Reading.{identifiers_from}
use Rattle.version_req.proofs.ScanSteps.{ids_at, part}
use Rattle.version_req.proofs.identifiers.read_identifiers.Given as goal

abbrev pub invariant-bytes : goal.invariant-bytes
invariant-bytes l = record {
  within : l.start ≤ l.i;
  bytes : list_all is_identifier_byte (part l.text l.start l.i) ≡ true;
  same : identifiers_from l.kind [] [] l.text ≡ ids_at l.kind l.text l.start l.i;
}

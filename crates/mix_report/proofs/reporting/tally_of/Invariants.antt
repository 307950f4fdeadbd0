use Rattle.std.proofs.Common.{◌≡◌, ◌≤◌, ◌+◌, drop, count_by}
use Rattle.mix_report.specs.Report.{is_built, is_failed, is_skipped}
use Rattle.mix_report.proofs.reporting.tally_of.Given as goal

abbrev pub invariant-loop-fate : goal.invariant-loop-fate
invariant-loop-fate l = record {
  built : l.built + count_by is_built (drop l.fate-index l.fates) ≡ count_by is_built l.fates;
  failed : l.failed + count_by is_failed (drop l.fate-index l.fates) ≡ count_by is_failed l.fates;
  skipped : l.skipped + count_by is_skipped (drop l.fate-index l.fates) ≡ count_by is_skipped l.fates;
  within : l.built + l.failed + l.skipped ≤ l.fate-index;
}

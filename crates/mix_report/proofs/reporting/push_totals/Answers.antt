use Rattle.std.proofs.Common.{codes, length}
use Rattle.mix_report.specs.Report.{count_text}
use Rattle.mix_report.proofs.ReportLemmas.{four_pieces}
use Rattle.mix_report.proofs.reporting.push_totals.Goals as goal

pub returns : goal.returns
returns c =
    let counts = c.tally_of-counts.result in
    rw (← c.tally_of-counts.ensures.built, ← c.tally_of-counts.ensures.failed, ← c.tally_of-counts.ensures.skipped)
    (four_pieces c.args.text.now.items (count_text (length c.args.jobs.now) (codes " dependencies: ")) (count_text counts.built (codes " built, ")) (count_text counts.failed (codes " failed, ")) (count_text counts.skipped (codes " skipped\n")) _ _ _ _
    c.in_ok-push_count.ensures c.in_ok-push_count-2.ensures c.in_ok-push_count-3.ensures c.in_ok-push_count-4.ensures)

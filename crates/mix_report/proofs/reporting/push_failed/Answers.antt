use Rattle.std.proofs.Common.{codes}
use Rattle.std.specs.Fmt.{decimal}
use Rattle.mix_report.specs.Report.{shown_text}
use Rattle.mix_report.proofs.ReportLemmas.{four_pieces}
use Rattle.mix_report.proofs.reporting.push_failed.Goals as goal

pub returns : goal.returns
returns c =
    four_pieces c.args.text.now.items (codes " failed with status ") (decimal c.args.outcome.now.status) (codes "\n") (shown_text c.args.outcome.now.text) _ _ _ _
    c.in_ok-extend_from_slice.ensures.items c.in_ok-push_decimal.ensures c.in_ok-extend_from_slice-2.ensures.items c.in_ok-push_shown.ensures

use Rattle.std.proofs.Common.{codes, ◌∙◌, ap, ◌++◌, List, ℕ}
use Rattle.mix_report.specs.App.{app_at}
use Rattle.mix_report.proofs.ReportLemmas.{three_pieces}
use Rattle.mix_report.proofs.reporting.push_skipped.Goals as goal

pub returns : goal.returns
returns c =
    three_pieces c.args.text.now.items (codes " skipped, needs ") (app_at c.args.jobs.now c.args.need) (codes "\n") _ _ _
    c.in_ok-extend_from_slice.ensures.items
    (c.in_ok-extend_from_slice-2.ensures.items ∙ ap (λ (app : List ℕ). c.extend_from_slice.new.self.items ++ app) c.app_at.ensures)
    c.in_ok-extend_from_slice-3.ensures.items

use Rattle.unit_lang.proofs.FileOutcomes.{first_cut}
use Rattle.unit_lang.proofs.parse.first_line.Goals as goal

pub returns-clause-lines : goal.returns-clause-lines
returns-clause-lines c = first_cut c.args.text.now c.split_at.result.0.now c.split_at.result.1.now c.line_len.result _ c.line_len.ensures.value c.split_at.ensures.front c.split_at.ensures.back c.after_feed.ensures.value

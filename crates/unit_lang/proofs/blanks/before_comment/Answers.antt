use Rattle.std.proofs.Common.{take, sym, ◌∙◌, ap}
use Rattle.unit_lang.proofs.WarnLemmas.{comment_len}
use Rattle.unit_lang.proofs.blanks.before_comment.Goals as goal

pub returns : goal.returns
returns c = c.split_at.ensures.front ∙ ap (λ n. take n c.args.line.now) c.plain_len.ensures.value ∙ sym (comment_len c.args.line.now)

use Rattle.std.proofs.Common.{◌∙◌, ap}
use Rattle.unit_lang.specs.Tokens.{without_blanks}
use Rattle.unit_lang.proofs.Outcomes.{blank_test}
use Rattle.unit_lang.proofs.line.is_blank_line.Goals as goal

pub returns : goal.returns
returns c = blank_test c.args.line.now c.skip_blanks.result.now c.is_empty.result (c.skip_blanks.ensures.value ∙ ap without_blanks c.before_comment.ensures) c.is_empty.ensures

use Rattle.std.proofs.Common.{◌∙◌, ap}
use Rattle.unit_lang.specs.Lexing.{title_of}
use Rattle.unit_lang.proofs.HeadLemmas.{heading_found}
use Rattle.unit_lang.proofs.line.heading.Goals as goal

pub returns : goal.returns
returns c = heading_found c.args.line.now c.title.result (λ name. name.now) (c.title.ensures ∙ ap title_of c.before_comment.ensures)

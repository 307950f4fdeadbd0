use Rattle.unit_lang.proofs.Answered.{text_answered}
use Rattle.unit_lang.proofs.parse.some_answer.Goals as goal

pub returns : goal.returns
returns c = text_answered

use Rattle.mix_answer.specs.Answer.{reply_in}
use Rattle.mix_compile.proofs.compiling.compile.Goals as goal

pub returns-clause-ends : goal.returns-clause-ends
returns-clause-ends g c = record {
  reply = reply_in c.build_tree-ended.result.answer;
  comes = c.build_tree-ended.ensures.ends;
  says = c.say-status.ensures;
}

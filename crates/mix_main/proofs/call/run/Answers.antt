use Rattle.mix_main.specs.Answer.{reply_in}
use Rattle.mix_main.proofs.CallLemmas.{comes_stand, comes_elsewhere}
use Rattle.mix_main.proofs.call.run.Goals as goal

pub returns : goal.returns
returns g c = record {
  ends = record {
    reply = reply_in c.answer-answer.result;
    comes = c.answer-answer.ensures.comes;
    says = c.say.ensures;
  };
  stands = comes_stand _ _ _ _ c.answer-answer.ensures.comes;
  elsewhere = comes_elsewhere _ _ _ _ c.answer-answer.ensures.comes;
  keeps = c.answer-answer.ensures.keeps;
}

use Rattle.mix_main.specs.Answer.{reply_in}
use Rattle.mix_main.proofs.CallLemmas.{compiles_stand, compiles_elsewhere}
use Rattle.mix_main.proofs.call.plain_compile.Goals as goal

pub returns : goal.returns
returns g c = record {
  ends = record {
    reply = reply_in c.compile-built.result;
    comes = c.compile-built.ensures.ends;
    says = c.say.ensures;
  };
  stands = compiles_stand _ _ _ _ c.compile-built.ensures.ends;
  elsewhere = compiles_elsewhere _ _ _ _ c.compile-built.ensures.ends;
  keeps = c.compile-built.ensures.keeps;
}

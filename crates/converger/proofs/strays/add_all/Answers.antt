use Rattle.std.proofs.Common.{◌<◌, length, arith}
use Rattle.converger.proofs.EnvLemmas.{names_more, not_empty_more}
use Rattle.converger.proofs.strays.add_all.Goals as goal

pub loop-name-preserved : goal.loop-name-preserved
loop-name-preserved c =
    let only = c.args.list.now in
    let i = c.loop-name.name-index in
    let within : i < length only = omega arith in
    record {
      names = names_more only i c.name-item.result within c.name-item.is c.args.names.now c.loop-name.names c.insert.new.self c.as_str.result.now
          c.as_str.ensures.value c.in_ok-insert.ensures.updates c.loop-name.invariant.names;
      not_empty = not_empty_more only i c.name-item.result within c.name-item.is c.as_str.ensures.name c.loop-name.invariant.not_empty;
    }

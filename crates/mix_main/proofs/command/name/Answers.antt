use Rattle.std.proofs.Common.{ap}
use Rattle.mx_base.specs.NameFaults.{is_memory}
use Rattle.mix_main.proofs.NameLemmas.{not_refused}
use Rattle.mix_main.proofs.command.name.Goals as goal

pub unreachable-requires : goal.unreachable-requires
unreachable-requires c =
    not_refused c.args.text.now c.requires c.in-Err-Empty.field-0 (ap is_memory c.in-Err-Empty.field-0-is) c.in-Err-Empty.ensures.exact

pub unreachable-requires-in-Err-TooLong : goal.unreachable-requires-in-Err-TooLong
unreachable-requires-in-Err-TooLong c =
    not_refused c.args.text.now c.requires c.in-Err-TooLong.field-0 (ap is_memory c.in-Err-TooLong.field-0-is) c.in-Err-TooLong.ensures.exact

pub unreachable-requires-in-Err-BadByte : goal.unreachable-requires-in-Err-BadByte
unreachable-requires-in-Err-BadByte c =
    not_refused c.args.text.now c.requires c.in-Err-BadByte.field-0 (ap is_memory c.in-Err-BadByte.field-0-is) c.in-Err-BadByte.ensures.exact

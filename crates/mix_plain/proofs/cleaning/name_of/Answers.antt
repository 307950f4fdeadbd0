use Rattle.std.proofs.Common.{ap}
use Rattle.mx_base.specs.NameFaults.{blame_of}
use Rattle.build_plan.proofs.NameLemmas.{not_refused}
use Rattle.mix_plain.proofs.cleaning.name_of.Goals as goal

pub unreachable-requires : goal.unreachable-requires
unreachable-requires c =
    not_refused c.args.env.now c.args.target.now c.in-Err-Empty.field-0 c.requires
    (ap blame_of c.in-Err-Empty.field-0-is) c.in-Err-Empty.ensures.answer.answer

pub unreachable-requires-in-Err-TooLong : goal.unreachable-requires-in-Err-TooLong
unreachable-requires-in-Err-TooLong c =
    not_refused c.args.env.now c.args.target.now c.in-Err-TooLong.field-0 c.requires
    (ap blame_of c.in-Err-TooLong.field-0-is) c.in-Err-TooLong.ensures.answer.answer

pub unreachable-requires-in-Err-BadByte : goal.unreachable-requires-in-Err-BadByte
unreachable-requires-in-Err-BadByte c =
    not_refused c.args.env.now c.args.target.now c.in-Err-BadByte.field-0 c.requires
    (ap blame_of c.in-Err-BadByte.field-0-is) c.in-Err-BadByte.ensures.answer.answer

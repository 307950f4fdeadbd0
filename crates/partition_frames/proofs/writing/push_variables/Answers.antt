use Rattle.std.proofs.Common.{length, arith}
use Rattle.partition_frames.specs.Frame.{IsVariable, number_field, variable_fields}
use Rattle.partition_frames.proofs.Pushes.{all_pushed, one_at, one_pushed}
use Rattle.partition_frames.proofs.writing.push_variables.Goals as goal

pub push_variable-requires : goal.push_variable-requires
push_variable-requires c =
    one_at IsVariable c.args.variables.now c.loop-i.i c.index-variables-i.result c.requires.1 c.loop-i-test.true c.index-variables-i.is

pub loop-i-preserved : goal.loop-i-preserved
loop-i-preserved c =
    one_pushed variable_fields (number_field (length c.args.variables.now)) c.args.variables.now c.loop-i.i c.index-variables-i.result c.args.out.now.items
    c.loop-i.out.items _ c.loop-i-test.true c.index-variables-i.is c.loop-i.invariant c.in_ok-push_variable.ensures

pub returns : goal.returns
returns c =
    all_pushed variable_fields (number_field (length c.args.variables.now)) c.args.variables.now c.loop-i.i c.args.out.now.items _ (omega arith)
    c.loop-i.invariant

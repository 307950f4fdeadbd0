use Rattle.std.proofs.Common.{◌^◌, arith}
use Rattle.std.specs.Prelude.{flat_map}
use Rattle.std.proofs.lemmas.Result.{err_from_is_err_and}
use Rattle.partition_frames.specs.Frame.{IsList, IsVariable, list_fields, variable_fields}
use Rattle.partition_frames.specs.Pieces.{SoMany}
use Rattle.partition_frames.proofs.Before.{by_fault}
use Rattle.partition_frames.proofs.Counted.{count_lacks, list_read, some_variable, some_variable_is, values_lack}
use Rattle.partition_frames.proofs.lists.read_variables.Goals as goal

pub returns-in_err-count : goal.returns-in_err-count
returns-in_err-count c =
    let p = err_from_is_err_and c.from_residual.result c.from_residual.ensures.1 in
    rw (p.1, p.2) (count_lacks variable_fields IsVariable some_variable some_variable_is c.args.text.now c.in_err-count.field-0.0.left c.in_err-count.ensures)

pub returns-in_err-pairs : goal.returns-in_err-pairs
returns-in_err-pairs c =
    let n = c.in_ok-count.count in
    let read = c.in_ok-count.ensures in
    let p = err_from_is_err_and c.from_residual-in_err-pairs.result c.from_residual-in_err-pairs.ensures.1 in
    rw (p.1, p.2)
    (by_fault (flat_map variable_fields) (SoMany IsVariable n) c.in_ok-count.rest.now (list_fields variable_fields) (IsList IsVariable) c.args.text.now
    (λ left l. values_lack variable_fields IsVariable (2 ^ 32) (omega arith) c.args.text.now c.in_ok-count.rest.now n left read.0 read.1 l)
    c.in_err-pairs.field-0.0 c.in_err-pairs.ensures)

pub returns : goal.returns
returns c =
    let count = c.in_ok-count.ensures in
    let read = c.in_ok-pairs.ensures in
    rw c.from_vec.ensures (
      (omega (arith, count.0, read.0.0), read.0.1),
      list_read variable_fields c.in_ok-pairs.pairs.items c.args.text.now c.in_ok-count.rest.now
          c.in_ok-pairs.rest.now c.in_ok-count.count read.0.0 count.1 read.1,
    )

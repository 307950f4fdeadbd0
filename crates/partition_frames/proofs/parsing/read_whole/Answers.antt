use Rattle.std.proofs.Common.{◌==◌, ap}
use Rattle.partition_frames.specs.Frame.{fields_of}
use Rattle.partition_frames.specs.Pieces.{LacksBefore}
use Rattle.partition_frames.specs.Reading.{IsOfKind}
use Rattle.partition_frames.proofs.Wholes.{refused_answer, refused_at_field, refused_left_over, some_left}
use Rattle.partition_frames.proofs.parsing.read_whole.Goals as goal

pub returns-then-not-is_empty : goal.returns-then-not-is_empty
returns-then-not-is_empty c =
    let bytes = c.args.bytes.now in
    let kind = c.kind_and_body-kind.result.0 in
    let body = c.kind_and_body-kind.result.1.now in
    let rest = c.in-Ok.rest.now in
    let e = c.refused_before.result in
    let some = some_left rest (λ none. absurd (cc (ap (λ n. n == 0) none, c.is_empty.ensures, c.if-not-is_empty.true))) in
    refused_answer bytes e c.refused_before.ensures.cause
    (refused_left_over bytes body rest kind e.at c.in-Ok.frame c.kind_and_body-kind.ensures c.in-Ok.ensures.0 c.in-Ok.ensures.1 some
    c.refused_before.ensures.at)

pub returns-in-Err-Stuck : goal.returns-in-Err-Stuck
returns-in-Err-Stuck c =
    let bytes = c.args.bytes.now in
    let kind = c.kind_and_body-kind.result.0 in
    let body = c.kind_and_body-kind.result.1.now in
    let left = c.in-Err-Stuck.stuck.left in
    let e = c.refused_before-in-Err-Stuck.result in
    let lacks : LacksBefore fields_of (IsOfKind kind) body left = rw c.in-Err-Stuck.field-0-is at c.in-Err-Stuck.ensures in
    refused_answer bytes e c.refused_before-in-Err-Stuck.ensures.cause
    (refused_at_field bytes body kind left e.at c.kind_and_body-kind.ensures lacks c.refused_before-in-Err-Stuck.ensures.at)

use Rattle.std.proofs.Common.{◌+◌, refl}
use Rattle.std.proofs.lemmas.Result.{err_from_is_err_and}
use Rattle.partition_frames.specs.Reading.NeedsMore.{InFrame}
use Rattle.partition_frames.proofs.Wholes.{front_read, front_refused, front_whole}
use Rattle.partition_frames.proofs.parsing.read_frame.Goals as goal

pub returns-then-bytes-used : goal.returns-then-bytes-used
returns-then-bytes-used c =
    let o = rw c.in-Some.is at c.in_ok-size.ensures in
    record { answer = InFrame c.in-Some.size o c.if-bytes-used.true; alone = refl }

pub read_whole-requires : goal.read_whole-requires
read_whole-requires c =
    let o = rw c.in-Some.is at c.in_ok-size.ensures in
    front_whole c.args.bytes.now c.in-Some.size (4 + c.in-Some.size) o refl c.if-bytes-used.false

pub returns-in_err-frame : goal.returns-in_err-frame
returns-in_err-frame c =
    let e = c.in_err-frame.field-0.0 in
    let p = err_from_is_err_and c.from_residual-in_err-frame.result c.from_residual-in_err-frame.ensures.1 in
    rw (p.1, p.2) (record {
      answer = λ input. front_refused c.args.bytes.now (4 + c.in-Some.size) e.cause e.at (c.in_err-frame.ensures.answer input);
      alone = c.in_err-frame.ensures.alone;
    })

pub returns : goal.returns
returns c = record {
  answer = front_read c.args.bytes.now (4 + c.in-Some.size) c.in_ok-frame.frame c.if-bytes-used.false c.in_ok-frame.ensures.answer;
  alone = refl;
}

use Rattle.std.proofs.lemmas.Result.{err_from_is_err_and}
use Rattle.partition_link.specs.Channel.{channel_of}
use Rattle.partition_link.proofs.Waiting.{hears_no_more}
use Rattle.partition_link.proofs.hearing.receive_frame.Goals as goal

pub returns-in_err-receive_some-in-None : goal.returns-in_err-receive_some-in-None
returns-in_err-receive_some-in-None g c =
    let more = rw c.in-None.is at c.in_ok-frame.ensures.answer.answer in
    let left = rw c.in-None.is at c.in_ok-frame.ensures.left in
    let p = err_from_is_err_and c.from_residual-in_err-receive_some-in-None.result c.from_residual-in_err-receive_some-in-None.ensures.1 in
    rw (p.1, p.2) (hears_no_more c.in_err-receive_some-in-None.field-0.0 (channel_of (g.L.Link.known c.args.link.now) c.args.reader.now)
    (channel_of (g.L.Link.known c.receive_some.new.link) c.receive_some.new.reader) (g.L.Link.known c.frames.link) c.frames.reader
    c.next.new.self c.frames.invariant more left c.in_err-receive_some-in-None.ensures)

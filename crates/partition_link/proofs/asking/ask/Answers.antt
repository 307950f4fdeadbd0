use Rattle.std.proofs.Common.{◌≡◌, length, sym, ap, ◌∙◌, subst, arith}
use Rattle.std.proofs.lemmas.Bool.{true≢false}
use Rattle.std.proofs.lemmas.List.{nil_from_length}
use Rattle.std.proofs.lemmas.Result.{err_from_is_err_and}
use Rattle.partition_frames.specs.Frame.{Spells}
use Rattle.partition_link.specs.Channel.{channel_of}
use Rattle.partition_link.specs.Run.{Asks, verdict_on}
use Rattle.partition_link.proofs.Questions.{asks_early, asks_failed, asks_heard, asks_memory, asks_unsent, sent_whole}
use Rattle.partition_link.proofs.asking.ask.Goals.{then-not-may_be_written-via-then-not-may_be_written, then-not-may_be_written-via-else-not-may_be_written+then-len-gt0}
use Rattle.partition_link.proofs.asking.ask.Goals as goal

pub returns-then-not-may_be_written : goal.returns-then-not-may_be_written
returns-then-not-may_be_written g c =
    let question = c.args.question.now in
    let still = channel_of (g.L.Link.known c.args.link.now) c.args.reader.now in
    elim c.then-not-may_be_written.branch [
      | then-not-may_be_written-via-then-not-may_be_written w ↦
          asks_unsent question still (λ written.
          true≢false (sym (c.may_be_written.ensures.1 (written.small, written.folder)) ∙ w.if-not-may_be_written.true))
      | then-not-may_be_written-via-else-not-may_be_written+then-len-gt0 w ↦
          asks_early question still (λ nothing. absurd (omega (arith, w.if-len-gt0.true, w.len.ensures.count, ap length nothing)))
    ]

pub returns-in_err-bytes : goal.returns-in_err-bytes
returns-in_err-bytes g c =
    let p = err_from_is_err_and c.from_residual.result c.from_residual.ensures.1 in
    rw (p.1, p.2) (asks_memory c.args.question.now (channel_of (g.L.Link.known c.args.link.now) c.args.reader.now))

pub returns-then-is_err : goal.returns-then-is_err
returns-then-is_err g c =
    let question = c.args.question.now in
    let spelled = subst (λ bytes. Spells bytes question) (sym c.as_slice.ensures) c.in_ok-bytes.ensures in
    asks_failed question c.as_slice.result.now c.args.reader.now (g.L.Link.known c.args.link.now) (g.L.Link.known c.send.new.self) c.send.result
    c.send.ensures (sym c.is_err.ensures.value ∙ c.if-is_err.true) spelled

pub returns : goal.returns
returns g c =
    let question = c.args.question.now in
    let reader = c.args.reader.now in
    let old = g.L.Link.known c.args.link.now in
    let mid = g.L.Link.known c.send.new.self in
    let new = g.L.Link.known c.receive_frame.new.link in
    let left = c.receive_frame.new.reader in
    let piece = c.as_slice.result.now in
    let heard = c.receive_frame.result in
    let spelled = subst (λ bytes. Spells bytes question) (sym c.as_slice.ensures) c.in_ok-bytes.ensures in
    let nothing = nil_from_length reader (omega (arith, c.len.ensures.count, c.if-len-gt0.false)) in
    let sent = sent_whole piece old mid c.send.result c.send.ensures (sym c.is_err.ensures.value ∙ c.if-is_err.false) in
    subst (λ result. Asks question (channel_of old reader) (channel_of new left) result)
    (sym (c.verdict_on.ensures ∙ ap (λ number. verdict_on number heard) c.number_in.ensures))
    (asks_heard question piece reader left old mid new nothing spelled sent heard c.receive_frame.ensures)

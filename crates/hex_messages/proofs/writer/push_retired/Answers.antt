use Rattle.std.proofs.Common.{None, Some}
use Rattle.hex_messages.proofs.WriteLemmas.{appends_none}
use Rattle.hex_messages.proofs.writer.push_retired.Goals as goal

pub returns-in_ok-push_bytes-in-Some : goal.returns-in_ok-push_bytes-in-Some
returns-in_ok-push_bytes-in-Some c = rw c.in-Some.is
    (record {
      text = Some c.in_ok-bytes-in-Some.bytes.items;
      written = c.in_ok-bytes-in-Some.ensures;
      appended = rw c.as_slice.ensures.value at c.in_ok-push_bytes-in-Some.ensures;
    })

pub returns-in-None : goal.returns-in-None
returns-in-None c = rw c.in-None.is (record { text = None; written = tt; appended = appends_none c.args.out.now.items })

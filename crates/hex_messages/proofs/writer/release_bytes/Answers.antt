use Rattle.hex_messages.proofs.WriteLemmas.{release_written}
use Rattle.hex_messages.proofs.writer.release_bytes.Goals as goal

pub returns : goal.returns
returns c = release_written c.args.release.now c.new-out.result.items c.push_bytes.new.out.items c.push_bytes-2.new.out.items
    c.push_dependencies.new.out.items c.push_retired.new.out.items c.push_checksum.new.out.items c.new-out.ensures.items
    (rw c.as_slice.ensures at c.in_ok-push_bytes.ensures) (rw c.as_slice-2.ensures at c.in_ok-push_bytes-2.ensures)
    (rw c.as_slice-3.ensures at c.in_ok-push_dependencies.ensures) c.in_ok-push_retired.ensures c.in_ok-push_checksum.ensures

use Rattle.hex_messages.proofs.WriteLemmas.{dependency_written}
use Rattle.hex_messages.proofs.writer.dependency_bytes.Goals as goal

pub returns : goal.returns
returns c = dependency_written c.args.dependency.now c.new-out.result.items c.push_bytes.new.out.items c.push_bytes-2.new.out.items
    c.push_truth.new.out.items c.push_text.new.out.items c.push_text-2.new.out.items c.new-out.ensures.items
    (rw c.as_slice.ensures at c.in_ok-push_bytes.ensures) (rw c.as_slice-2.ensures at c.in_ok-push_bytes-2.ensures) c.in_ok-push_truth.ensures
    c.in_ok-push_text.ensures c.in_ok-push_text-2.ensures

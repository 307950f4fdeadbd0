use Rattle.hex_messages.proofs.WriteLemmas.{package_written}
use Rattle.hex_messages.proofs.writer.write_package.Goals as goal

pub returns : goal.returns
returns c = record {
  written = rw c.from_vec.ensures (package_written c.args.«package».now c.new-out.result.items c.push_releases.new.out.items
      c.push_bytes.new.out.items c.push_bytes-2.new.out.items c.new-out.ensures.items
      (rw c.as_slice.ensures at c.in_ok-push_releases.ensures) (rw c.as_slice-2.ensures at c.in_ok-push_bytes.ensures)
      (rw c.as_slice-3.ensures at c.in_ok-push_bytes-2.ensures));
}

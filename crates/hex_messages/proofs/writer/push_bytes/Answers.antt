use Rattle.hex_messages.proofs.WriteLemmas.{appends_bytes}
use Rattle.hex_messages.proofs.writer.push_bytes.Goals as goal

pub returns : goal.returns
returns c = appends_bytes c.args.out.now.items c.push.new.self.items c.push_varint.new.out.items c.extend_from_slice.new.self.items c.args.number
    c.args.bytes.now c.requires.most c.in_ok-push.ensures.items c.in_ok-push_varint.ensures c.in_ok-extend_from_slice.ensures.items

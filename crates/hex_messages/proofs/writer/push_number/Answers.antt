use Rattle.hex_messages.proofs.WriteLemmas.{appends_number}
use Rattle.hex_messages.proofs.writer.push_number.Goals as goal

pub returns : goal.returns
returns c = appends_number c.args.out.now.items c.push.new.self.items c.push_varint.new.out.items c.args.number c.args.value c.requires.most
    c.in_ok-push.ensures.items c.in_ok-push_varint.ensures

use Rattle.hex_messages.proofs.WriteLemmas.{retired_written}
use Rattle.hex_messages.proofs.writer.retired_bytes.Goals as goal

pub returns : goal.returns
returns c = retired_written c.new-out.result.items c.push_number.new.out.items c.push_text.new.out.items c.args.retired.now c.number_of.result
    c.new-out.ensures.items c.number_of.ensures c.in_ok-push_number.ensures c.in_ok-push_text.ensures

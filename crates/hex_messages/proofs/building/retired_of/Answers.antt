use Rattle.std.proofs.Common.{◌∙◌}
use Rattle.hex_messages.specs.Reading.{payload_of}
use Rattle.hex_messages.proofs.StandLemmas.{retired_none, retired_some}
use Rattle.hex_messages.proofs.building.retired_of.Goals as goal

pub returns-in_default : goal.returns-in_default
returns-in_default c = retired_none c.args.text.now c.requires c.in_default.ensures

pub returns : goal.returns
returns c =
    retired_some c.args.text.now (payload_of c.in-Some.reason) c.varint.result
    (record { reason = c.reason_of.result; message = c.in_ok-text_of.field-0 }) c.in-Some.ensures c.varint.ensures c.reason_of.ensures
    (λ fields merged s g h. c.in_ok-text_of.ensures ∙ c.given_merged.ensures fields merged s g h)

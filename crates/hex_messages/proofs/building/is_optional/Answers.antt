use Rattle.std.proofs.Common.{refl}
use Rattle.std.specs.Prelude.{not, nat_eq}
use Rattle.hex_messages.specs.Reading.{payload_of}
use Rattle.hex_messages.proofs.BuildLemmas.{truth_some, truth_none}
use Rattle.hex_messages.proofs.building.is_optional.Goals as goal

pub returns-in-Some : goal.returns-in-Some
returns-in-Some c = truth_some c.args.text.now c.varint.result (payload_of c.in-Some.value) (not (nat_eq c.varint.result 0)) c.in-Some.ensures
    c.varint.ensures refl

pub returns-in-None : goal.returns-in-None
returns-in-None c = truth_none c.args.text.now c.in-None.ensures

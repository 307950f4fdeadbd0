use Rattle.std.proofs.Common.{[], sym}
use Rattle.hex_messages.specs.Reading.{payload_of}
use Rattle.hex_messages.proofs.BuildLemmas.{given_some, required_none}
use Rattle.hex_messages.proofs.building.required.Goals as goal

pub returns-in-Some : goal.returns-in-Some
returns-in-Some c = λ fields s g there. sym
    (given_some c.args.message c.args.number c.args.text.now c.bytes.result.now (payload_of c.in-Some.value) c.requires c.in-Some.ensures
    c.bytes.ensures fields s g)

pub returns-in-None : goal.returns-in-None
returns-in-None c = required_none c.args.message c.args.number c.args.text.now [] c.in-None.ensures

use Rattle.hex_messages.specs.Reading.{payload_of}
use Rattle.hex_messages.proofs.BuildLemmas.{given_some, given_none}
use Rattle.hex_messages.proofs.building.given.Goals as goal

pub returns-in-Some : goal.returns-in-Some
returns-in-Some c = given_some c.args.message c.args.number c.args.text.now c.bytes.result.now (payload_of c.in-Some.value) c.requires
    c.in-Some.ensures c.bytes.ensures

pub returns-in-None : goal.returns-in-None
returns-in-None c = given_none c.args.message c.args.number c.args.text.now c.requires c.in-None.ensures

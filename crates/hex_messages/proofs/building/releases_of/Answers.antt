use Rattle.std.proofs.Common.{refl}
use Rattle.hex_messages.specs.declared.error.FieldName.TheVariants as name
use Rattle.hex_messages.specs.declared.message.Message.TheVariants as message
use Rattle.hex_messages.specs.declared.schema.Kind.TheVariants.{Inner}
use Rattle.hex_messages.specs.Reading.{payload_of}
use Rattle.hex_messages.specs.Stands.{StandsRelease}
use Rattle.hex_messages.proofs.BuildLemmas.{made_start, made_whole, made_more, made_end}
use Rattle.hex_messages.proofs.FindLemmas.{found_shorter}
use Rattle.hex_messages.proofs.building.releases_of.Goals as goal

pub loop-value-init : goal.loop-value-init
loop-value-init c = rw c.new-releases.ensures (made_start StandsRelease 1 c.args.text.now)

pub release_of-requires : goal.release_of-requires
release_of-requires c = (made_whole StandsRelease message.Package message.Release 1 (record { name = name.Releases; kind = Inner message.Release })
    c.args.text.now c.loop-value.rest.now c.in-Some.after.now c.bytes.result.now c.loop-value.releases (payload_of c.in-Some.value) c.requires refl
    refl c.loop-value.invariant c.in-Some.ensures c.bytes.ensures).1

pub loop-value-smaller : goal.loop-value-smaller
loop-value-smaller c = found_shorter 1 c.loop-value.rest.now c.in-Some.after.now (payload_of c.in-Some.value) c.in-Some.ensures

pub loop-value-preserved : goal.loop-value-preserved
loop-value-preserved c =
    let w = made_whole StandsRelease message.Package message.Release 1 (record { name = name.Releases; kind = Inner message.Release }) c.args.text.now
    c.loop-value.rest.now c.in-Some.after.now c.bytes.result.now c.loop-value.releases (payload_of c.in-Some.value) c.requires refl refl
    c.loop-value.invariant c.in-Some.ensures c.bytes.ensures in
    made_more StandsRelease 1 c.args.text.now c.loop-value.rest.now c.in-Some.after.now c.bytes.result.now c.loop-value.releases c.push.new.self
    (payload_of c.in-Some.value) c.in_ok-release_of.field-0 c.loop-value.invariant c.in-Some.ensures w.0 c.in_ok-release_of.ensures
    c.in_ok-push.ensures.ok

pub returns : goal.returns
returns c = made_end StandsRelease message.Package 1 c.args.text.now c.loop-value.rest.now c.loop-value.releases c.loop-value.invariant
    c.in_default.ensures

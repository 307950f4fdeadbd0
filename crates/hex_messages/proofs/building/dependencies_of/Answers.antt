use Rattle.std.proofs.Common.{refl}
use Rattle.hex_messages.specs.declared.error.FieldName.TheVariants as name
use Rattle.hex_messages.specs.declared.message.Message.TheVariants as message
use Rattle.hex_messages.specs.declared.schema.Kind.TheVariants.{Inner}
use Rattle.hex_messages.specs.Reading.{payload_of}
use Rattle.hex_messages.specs.Stands.{StandsDependency}
use Rattle.hex_messages.proofs.BuildLemmas.{made_start, made_whole, made_more, made_end}
use Rattle.hex_messages.proofs.FindLemmas.{found_shorter}
use Rattle.hex_messages.proofs.building.dependencies_of.Goals as goal

pub loop-value-init : goal.loop-value-init
loop-value-init c = rw c.new-dependencies.ensures (made_start StandsDependency 3 c.args.text.now)

pub dependency_of-requires : goal.dependency_of-requires
dependency_of-requires c = (made_whole StandsDependency message.Release message.Dependency 3
    (record { name = name.Dependencies; kind = Inner message.Dependency }) c.args.text.now c.loop-value.rest.now c.in-Some.after.now
    c.bytes.result.now c.loop-value.dependencies (payload_of c.in-Some.value) c.requires refl refl c.loop-value.invariant c.in-Some.ensures
    c.bytes.ensures).1

pub loop-value-smaller : goal.loop-value-smaller
loop-value-smaller c = found_shorter 3 c.loop-value.rest.now c.in-Some.after.now (payload_of c.in-Some.value) c.in-Some.ensures

pub loop-value-preserved : goal.loop-value-preserved
loop-value-preserved c =
    let w = made_whole StandsDependency message.Release message.Dependency 3 (record { name = name.Dependencies; kind = Inner message.Dependency })
    c.args.text.now c.loop-value.rest.now c.in-Some.after.now c.bytes.result.now c.loop-value.dependencies (payload_of c.in-Some.value) c.requires
    refl refl c.loop-value.invariant c.in-Some.ensures c.bytes.ensures in
    made_more StandsDependency 3 c.args.text.now c.loop-value.rest.now c.in-Some.after.now c.bytes.result.now c.loop-value.dependencies
    c.push.new.self (payload_of c.in-Some.value) c.in_ok-dependency_of.field-0 c.loop-value.invariant c.in-Some.ensures w.0
    c.in_ok-dependency_of.ensures c.in_ok-push.ensures.ok

pub returns : goal.returns
returns c = made_end StandsDependency message.Release 3 c.args.text.now c.loop-value.rest.now c.loop-value.dependencies c.loop-value.invariant
    c.in_default.ensures

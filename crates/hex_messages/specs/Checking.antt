-- What the steps of the check promise.
use Rattle.std.specs.Prelude.{◌≡◌, ℕ, ◌+◌, List, ◌++◌, length}
use Rattle.hex_messages.specs.declared.error.WireError.{WireError}
use Rattle.hex_messages.specs.declared.message.Message.{Message}
use Rattle.hex_messages.specs.declared.wire.Wire.{Wire}
use Rattle.hex_messages.specs.Fields.{SpellsField}
use Rattle.hex_messages.specs.Faults.{FieldFault, Fault}
use Rattle.hex_messages.specs.Reading.{field_of}

-- the field is spelled between its place and its end
pub record IsPlaced (wire : Wire) : Type 0 where
  pub front : List ℕ
  pub spelled : SpellsField front (field_of wire)
  pub ends : wire.at + length front ≡ wire.end

-- the field is faulty, however it is spelled there and whatever follows
pub record BlamesField (m : Message) (wire : Wire) (error : WireError) : Type 0 where
  pub at : ℕ
  pub place : error.at ≡ wire.at + at
  pub fault : (front rest : List ℕ) → SpellsField front (field_of wire) → wire.at + length front ≡ wire.end
      → FieldFault m (front ++ rest) at error.cause

-- the error is the first fault of a message that begins at a place of the whole input
pub record FaultFrom (m : Message) (start : ℕ) (text : List ℕ) (error : WireError) : Type 0 where
  pub at : ℕ
  pub place : error.at ≡ start + at
  pub fault : Fault m text at error.cause

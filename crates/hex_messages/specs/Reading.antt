-- What the steps of the reader promise.
use Rattle.std.specs.Prelude.{◌≡◌, ℕ, ◌+◌, ◌*◌, List, ◌++◌}
use Rattle.hex_messages.specs.declared.message.Message.{Message}
use Rattle.hex_messages.specs.declared.schema.WireType.{WireType}
use Rattle.hex_messages.specs.declared.schema.WireType.TheVariants as wire
use Rattle.hex_messages.specs.declared.wire.Value.{Value}
use Rattle.hex_messages.specs.declared.wire.Value.TheVariants as value
use Rattle.hex_messages.specs.declared.wire.Wire.{Wire}
use Rattle.hex_messages.specs.Varint.{IsVarint}
use Rattle.hex_messages.specs.Fields.{Payload, Varint, Fixed64, Length, Fixed32, Field, SpellsField, SpellsPayload, wire_type}
use Rattle.hex_messages.specs.Schema.{field_at}
use Rattle.hex_messages.specs.Faults.{IsKey, IsOwnWire}

-- the text begins with a varint of the number, and the rest follows it
pub record BeginsVarint (text : List ℕ) (n : ℕ) (rest : List ℕ) : Type 0 where
  pub front : List ℕ
  pub varint : IsVarint front n
  pub split : text ≡ front ++ rest

-- the number of a wire type
abbrev pub wire_code : WireType → ℕ
wire_code wire.Varint = 0
wire_code wire.Fixed64 = 1
wire_code wire.Length = 2
wire_code wire.Fixed32 = 5

abbrev pub payload_of : Value → Payload
payload_of (value.Varint n) = Varint n
payload_of (value.Fixed64 bytes) = Fixed64 bytes.now
payload_of (value.Length bytes) = Length bytes.now
payload_of (value.Fixed32 bytes) = Fixed32 bytes.now

abbrev pub field_of : Wire → Field
field_of wire = record { number = wire.number; payload = payload_of wire.value }

-- the text begins with a key that may stand
pub record BeginsKey (text : List ℕ) (number wire : ℕ) (rest : List ℕ) : Type 0 where
  pub front : List ℕ
  pub varint : IsVarint front (number * 8 + wire)
  pub key : IsKey number wire
  pub split : text ≡ front ++ rest

-- the text begins with a value of the wire type
pub record BeginsValue (text : List ℕ) (wire : ℕ) (payload : Payload) (rest : List ℕ) : Type 0 where
  pub front : List ℕ
  pub typed : wire_type payload ≡ wire
  pub spelled : SpellsPayload front payload
  pub split : text ≡ front ++ rest

-- the text begins with a field, and a known field has its own wire type
pub record BeginsField (m : Message) (text : List ℕ) (field : Field) (rest : List ℕ) : Type 0 where
  pub front : List ℕ
  pub spelled : SpellsField front field
  pub own : IsOwnWire (field_at m field.number) (wire_type field.payload)
  pub split : text ≡ front ++ rest

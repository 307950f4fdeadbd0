-- The fields that a message is made of, by the encoding of Protocol Buffers.
use Rattle.std.specs.Prelude.{◌≡◌, ℕ, ◌+◌, ◌*◌, ◌≤◌, List, [], ◌∷◌, ◌++◌, length}
use Rattle.hex_messages.specs.Varint.{IsVarint}

-- the value of a field, as its wire type has it
pub data Payload : Type 0 where
  Varint : (n : ℕ) → Payload
  Fixed64 : (bytes : List ℕ) → Payload
  Length : (bytes : List ℕ) → Payload
  Fixed32 : (bytes : List ℕ) → Payload

pub record Field : Type 0 where
  pub number : ℕ
  pub payload : Payload

abbrev pub wire_type : Payload → ℕ
wire_type (Varint n) = 0
wire_type (Fixed64 bytes) = 1
wire_type (Length bytes) = 2
wire_type (Fixed32 bytes) = 5

-- the greatest number of a field
abbrev pub greatest_number : ℕ
greatest_number = 536870911

-- the bytes of a value; a length stands before bytes of wire type 2
abbrev pub SpellsPayload : List ℕ → Payload → Type 0
SpellsPayload text (Varint n) = IsVarint text n
SpellsPayload text (Fixed64 bytes) = (text ≡ bytes) × (length bytes ≡ 8)
SpellsPayload text (Length bytes) = (size : List ℕ) × IsVarint size (length bytes) × (text ≡ size ++ bytes)
SpellsPayload text (Fixed32 bytes) = (text ≡ bytes) × (length bytes ≡ 4)

-- the bytes of a field: its key, which is its number times 8 and its wire type, and its value
pub record SpellsField (text : List ℕ) (field : Field) : Type 0 where
  pub key : List ℕ
  pub value : List ℕ
  pub least : 1 ≤ field.number
  pub most : field.number ≤ greatest_number
  pub keyed : IsVarint key (field.number * 8 + wire_type field.payload)
  pub valued : SpellsPayload value field.payload
  pub split : text ≡ key ++ value

-- the bytes are these fields, one after another
pub data Fields : List ℕ → List Field → Type 0 where
  none : Fields [] []
  more : {text front rest : List ℕ} {field : Field} {fields : List Field} → SpellsField front field → Fields rest fields → text ≡ front ++ rest
      → Fields text (field ∷ fields)

-- What is said of the fields of a message, and where one is found.
use Rattle.std.specs.Prelude.{◌≡◌, ℕ, false, List, [], ◌∷◌, ◌++◌, Option, Some, option_map}
use Rattle.hex_messages.specs.declared.message.Message.{Message}
use Rattle.hex_messages.specs.declared.message.Message.TheVariants as message
use Rattle.hex_messages.specs.Fields.{Payload, Field, Fields}
use Rattle.hex_messages.specs.declared.schema.Known.{Known}
use Rattle.hex_messages.specs.Schema.{field_at, wire_of}
use Rattle.hex_messages.specs.Good.{AllGood, Merged, has}
use Rattle.hex_messages.specs.Stands.{last_of}

-- what holds of the fields of a message, where they may stand in it
abbrev pub InFields : Message → List ℕ → (List Field → Type 0) → Type 0
InFields m text P = (fields : List Field) → Fields text fields → AllGood m fields → P fields

-- what holds of the fields of a release, and of those of its merged retirement
abbrev pub InMerged : List ℕ → (List Field → List Field → Type 0) → Type 0
InMerged text P = (fields merged : List Field) → Fields text fields → AllGood message.Release fields → Merged fields merged → P fields merged

-- the value of the last field with this number
abbrev pub last_value : ℕ → List Field → Option Payload
last_value = last_of (λ payload. Some payload)

-- the field with this number is known, and its values are of this wire type
abbrev pub HasWire : Message → ℕ → ℕ → Type 0
HasWire m number wire = option_map (λ (k : Known). wire_of k.kind) (field_at m number) ≡ Some wire

-- the text begins with fields of other numbers and then one of this number with this value, and the rest follows
pub record Finds (number : ℕ) (text : List ℕ) (payload : Payload) (rest : List ℕ) : Type 0 where
  pub front : List ℕ
  pub others : List Field
  pub apart : has number others ≡ false
  pub spelled : Fields front (others ++ record { number = number; payload = payload } ∷ [])
  pub split : text ≡ front ++ rest

-- Which fields may stand in a message, and which must.
use Rattle.std.specs.Prelude.{◌≡◌, ◌≢◌, ℕ, ◌≤◌, Bool, ◌==◌, ◌&&◌, not, List, [], ◌∷◌, ◌++◌, Option, Some, None, if◌then◌else◌}
use Rattle.std.specs.List.{list_any}
use Rattle.std.specs.Str.{IsUtf8}
use Rattle.hex_messages.specs.declared.error.FieldName.{FieldName}
use Rattle.hex_messages.specs.declared.error.FieldName.TheVariants as name
use Rattle.hex_messages.specs.declared.message.Message.{Message}
use Rattle.hex_messages.specs.declared.message.Message.TheVariants as message
use Rattle.hex_messages.specs.Fields.{Payload, Varint, Length, Field, Fields}
use Rattle.hex_messages.specs.declared.schema.Kind.{Kind}
use Rattle.hex_messages.specs.declared.schema.Kind.TheVariants.{Text, Bytes, Truth, Reason, Inner}
use Rattle.hex_messages.specs.declared.schema.Known.{Known}
use Rattle.hex_messages.specs.Schema.{field_at, Required, required, retired_number}

-- a field with this number stands there
abbrev pub has : ℕ → List Field → Bool
has number fields = list_any (λ field. field.number == number) fields

-- the first required field that is absent
abbrev pub first_absent : List Required → List Field → Option FieldName
first_absent [] fields = None
first_absent (r ∷ rs) fields = if has r.number fields then first_absent rs fields else Some r.name

-- the fields of all `retired` of a release, one after another: they are merged into one message
pub data Merged : List Field → List Field → Type 0 where
  none : Merged [] []
  retired : {bytes : List ℕ} {inner more fields : List Field} → Fields bytes inner → Merged fields more
      → Merged (record { number = retired_number; payload = Length bytes } ∷ fields) (inner ++ more)
  other : {field : Field} {more fields : List Field} → field.number ≢ retired_number → Merged fields more → Merged (field ∷ fields) more

-- the first field that is missing at the end of a message. A release misses the reason of its merged
-- retirement before its own fields. The end of a `retired` by itself misses nothing
abbrev pub absent_in : Message → List Field → List Field → Option FieldName
absent_in message.Release merged fields = if has retired_number fields && not (has 1 merged) then Some name.Reason else first_absent
    (required message.Release) fields
absent_in message.Retired merged fields = None
absent_in m merged fields = first_absent (required m) fields

pub record Misses (m : Message) (fields : List Field) (answer : Option FieldName) : Type 0 where
  pub merged : List Field
  pub merges : m ≡ message.Release → Merged fields merged
  pub answers : absent_in m merged fields ≡ answer

mutual
  -- a value of the kind
  pub data IsOf : Kind → Payload → Type 0 where
    text : {bytes : List ℕ} → IsUtf8 bytes → IsOf Text (Length bytes)
    bytes : {bytes : List ℕ} → IsOf Bytes (Length bytes)
    truth : {n : ℕ} → IsOf Truth (Varint n)
    reason : {n : ℕ} → n ≤ 4 → IsOf Reason (Varint n)
    inner : {m : Message} {bytes : List ℕ} → IsWhole m bytes → IsOf (Inner m) (Length bytes)

  -- the fields may stand in the message: each that is known there is of its kind
  pub data AllGood : Message → List Field → Type 0 where
    none : {m : Message} → AllGood m []
    known : {m : Message} {field : Field} {fields : List Field} {k : Known} → field_at m field.number ≡ Some k → IsOf k.kind field.payload
        → AllGood m fields → AllGood m (field ∷ fields)
    unknown : {m : Message} {field : Field} {fields : List Field} → field_at m field.number ≡ None → AllGood m fields → AllGood m (field ∷ fields)

  -- the bytes are fields that may stand in the message, and none is missing
  pub data IsWhole : Message → List ℕ → Type 0 where
    whole : {m : Message} {bytes : List ℕ} {fields : List Field} → Fields bytes fields → AllGood m fields → Misses m fields None → IsWhole m bytes

-- The first fault of a message, from the left.
use Rattle.std.specs.Prelude.{◌≡◌, ◌≢◌, ℕ, ◌+◌, ◌*◌, ◌^◌, ◌<◌, ◌≤◌, ◌⊎◌, List, [], ◌++◌, length, take, Option, Some, None, IsTrue}
use Rattle.std.specs.List.{list_all}
use Rattle.std.specs.Str.{IsUtf8}
use Rattle.hex_messages.specs.declared.error.FieldName.{FieldName}
use Rattle.hex_messages.specs.declared.error.WireCause.{WireCause}
use Rattle.hex_messages.specs.declared.error.WireCause.TheVariants.{BadKey, BadVarint, Truncated, WrongWire, BadUtf8, BadEnum, Missing, OutOfMemory}
use Rattle.hex_messages.specs.declared.error.WireError.{WireError}
use Rattle.hex_messages.specs.declared.message.Message.{Message}
use Rattle.hex_messages.specs.declared.message.Message.TheVariants as message
use Rattle.hex_messages.specs.Varint.{goes_on, is_whole, number_of, IsVarint}
use Rattle.hex_messages.specs.Fields.{Varint, Length, Field, Fields, SpellsField, greatest_number}
use Rattle.hex_messages.specs.Good.{AllGood, Misses}
use Rattle.hex_messages.specs.declared.schema.Kind.TheVariants.{Text, Reason, Inner}
use Rattle.hex_messages.specs.declared.schema.Known.{Known}
use Rattle.hex_messages.specs.Schema.{field_at, wire_of}

-- no varint begins here, and why: ten bytes all go on, or the number is too great, or the end comes first
pub data VarintFault : List ℕ → WireCause → Type 0 where
  long : {text : List ℕ} → 10 ≤ length text → IsTrue (list_all goes_on (take 10 text)) → VarintFault text BadVarint
  great : {text : List ℕ} (front rest : List ℕ) → IsTrue (is_whole front) → length front ≤ 10 → 2 ^ 64 ≤ number_of front → text ≡ front ++ rest
      → VarintFault text BadVarint
  cut : {text : List ℕ} → length text < 10 → IsTrue (list_all goes_on text) → VarintFault text Truncated

-- no value of the wire type begins here, and why
pub data ValueFault : ℕ → List ℕ → WireCause → Type 0 where
  varint : {text : List ℕ} {cause : WireCause} → VarintFault text cause → ValueFault 0 text cause
  eight : {text : List ℕ} → length text < 8 → ValueFault 1 text Truncated
  size : {text : List ℕ} {cause : WireCause} → VarintFault text cause → ValueFault 2 text cause
  bytes : {text size : List ℕ} (rest : List ℕ) {n : ℕ} → IsVarint size n → text ≡ size ++ rest → length rest < n → ValueFault 2 text Truncated
  four : {text : List ℕ} → length text < 4 → ValueFault 5 text Truncated

-- the wire types that there are
abbrev pub IsWire : ℕ → Type 0
IsWire wire = (wire ≡ 0) ⊎ (wire ≡ 1) ⊎ (wire ≡ 2) ⊎ (wire ≡ 5)

-- a key's number and wire type may stand
pub record IsKey (number : ℕ) (wire : ℕ) : Type 0 where
  pub least : 1 ≤ number
  pub most : number ≤ greatest_number
  pub typed : IsWire wire

-- the wire type is not another one than the field's own
abbrev pub IsOwnWire : Option Known → ℕ → Type 0
IsOwnWire None wire = Unit {0}
IsOwnWire (Some k) wire = wire ≡ wire_of k.kind

mutual
  -- the field that begins here is faulty. The place is counted from the field's first byte: it is 0, unless the
  -- fault is in a message within
  pub data FieldFault : Message → List ℕ → ℕ → WireCause → Type 0 where
    key : {m : Message} {text : List ℕ} {cause : WireCause} → text ≢ [] → VarintFault text cause → FieldFault m text 0 cause
    bad_key : {m : Message} {text bytes : List ℕ} (rest : List ℕ) (number wire : ℕ) → IsVarint bytes (number * 8 + wire) → wire < 8
        → (IsKey number wire → ⊥) → text ≡ bytes ++ rest → FieldFault m text 0 BadKey
    wrong_wire : {m : Message} {text bytes : List ℕ} (rest : List ℕ) {number wire : ℕ} {k : Known} → IsVarint bytes (number * 8 + wire)
        → IsKey number wire → field_at m number ≡ Some k → wire ≢ wire_of k.kind → text ≡ bytes ++ rest → FieldFault m text 0 (WrongWire k.name)
    value : {m : Message} {text bytes rest : List ℕ} {number wire : ℕ} {cause : WireCause} → IsVarint bytes (number * 8 + wire) → IsKey number wire
        → IsOwnWire (field_at m number) wire → ValueFault wire rest cause → text ≡ bytes ++ rest → FieldFault m text 0 cause
    utf8 : {m : Message} {text front bytes : List ℕ} (rest : List ℕ) {number : ℕ} {k : Known}
        → SpellsField front (record { number = number; payload = Length bytes }) → field_at m number ≡ Some k → k.kind ≡ Text → (IsUtf8 bytes → ⊥)
        → text ≡ front ++ rest → FieldFault m text 0 (BadUtf8 k.name)
    reason : {m : Message} {text front : List ℕ} (rest : List ℕ) {number n : ℕ} {k : Known}
        → SpellsField front (record { number = number; payload = Varint n }) → field_at m number ≡ Some k → k.kind ≡ Reason → 4 < n
        → text ≡ front ++ rest → FieldFault m text 0 BadEnum
    inner : {m inside : Message} {text bytes : List ℕ} (front rest : List ℕ) {number at : ℕ} {k : Known} {cause : WireCause}
        → SpellsField (front ++ bytes) (record { number = number; payload = Length bytes }) → field_at m number ≡ Some k → k.kind ≡ Inner inside
        → Fault inside bytes at cause → text ≡ front ++ bytes ++ rest → FieldFault m text (length front + at) cause

  -- the first fault of a message, its place counted from the message's first byte: all fields before it may
  -- stand, and a field is faulty, or the end comes and a field is missing
  pub data Fault : Message → List ℕ → ℕ → WireCause → Type 0 where
    field : {m : Message} {text front rest : List ℕ} {fields : List Field} {at : ℕ} {cause : WireCause} → Fields front fields → AllGood m fields
        → FieldFault m rest at cause → text ≡ front ++ rest → Fault m text (length front + at) cause
    missing : {m : Message} {text : List ℕ} {fields : List Field} {name : FieldName} → Fields text fields → AllGood m fields
        → Misses m fields (Some name) → Fault m text (length text) (Missing name)

-- the error is the first fault of the bytes, or want of memory
abbrev pub IsFirstFault : List ℕ → WireError → Type 0
IsFirstFault input error = (error.cause ≡ OutOfMemory) ⊎ Fault message.Package input error.at error.cause

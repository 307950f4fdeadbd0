-- The known fields of each message, as the Hex registry, version 2, has them.
use Rattle.std.specs.Prelude.{ℕ, ◌==◌, List, [], ◌∷◌, Option, Some, None, if◌then◌else◌}
use Rattle.hex_messages.specs.declared.error.FieldName.{FieldName}
use Rattle.hex_messages.specs.declared.error.FieldName.TheVariants as name
use Rattle.hex_messages.specs.declared.message.Message.{Message}
use Rattle.hex_messages.specs.declared.message.Message.TheVariants as message
use Rattle.hex_messages.specs.declared.schema.Kind.{Kind}
use Rattle.hex_messages.specs.declared.schema.Kind.TheVariants.{Text, Bytes, Truth, Reason, Inner}
use Rattle.hex_messages.specs.declared.schema.Known.{Known}

abbrev pub known : FieldName → Kind → Option Known
known name kind = Some (record { name = name; kind = kind })

-- the known field with this number
abbrev pub field_at : Message → ℕ → Option Known
field_at message.Package n =
    if n == 1 then known name.Releases (Inner message.Release)
    else if n == 2 then known name.Name Text
    else if n == 3 then known name.Repository Text
    else None
field_at message.Release n =
    if n == 1 then known name.Version Text
    else if n == 2 then known name.InnerChecksum Bytes
    else if n == 3 then known name.Dependencies (Inner message.Dependency)
    else if n == 4 then known name.Retired (Inner message.Retired)
    else if n == 5 then known name.OuterChecksum Bytes
    else None
field_at message.Dependency n =
    if n == 1 then known name.Package Text
    else if n == 2 then known name.Requirement Text
    else if n == 3 then known name.Optional Truth
    else if n == 4 then known name.App Text
    else if n == 5 then known name.Repository Text
    else None
field_at message.Retired n =
    if n == 1 then known name.Reason Reason
    else if n == 2 then known name.Message Text
    else None

-- the wire type of each kind
abbrev pub wire_of : Kind → ℕ
wire_of Text = 2
wire_of Bytes = 2
wire_of Truth = 0
wire_of Reason = 0
wire_of (Inner inner) = 2

-- a required field: its number and its name
pub record Required : Type 0 where
  pub number : ℕ
  pub name : FieldName

-- the required fields, by number
abbrev pub required : Message → List Required
required message.Package = record { number = 2; name = name.Name } ∷ record { number = 3; name = name.Repository } ∷ []
required message.Release = record { number = 1; name = name.Version } ∷ record { number = 2; name = name.InnerChecksum } ∷ []
required message.Dependency = record { number = 1; name = name.Package } ∷ record { number = 2; name = name.Requirement } ∷ []
required message.Retired = record { number = 1; name = name.Reason } ∷ []

-- the number of the field `retired` in a release
abbrev pub retired_number : ℕ
retired_number = 4

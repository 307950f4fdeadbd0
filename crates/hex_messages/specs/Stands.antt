-- The package that bytes stand for.
use Rattle.std.specs.Prelude.{◌≡◌, ℕ, Bool, true, false, ◌==◌, not, List, [], ◌∷◌, Option, Some, None, if◌then◌else◌}
use Rattle.hex_messages.specs.declared.message.Message.TheVariants as message
use Rattle.hex_messages.specs.declared.package.Package.{Package}
use Rattle.hex_messages.specs.declared.package.Release.{Release}
use Rattle.hex_messages.specs.declared.package.Dependency.{Dependency}
use Rattle.hex_messages.specs.declared.package.Retired.{Retired}
use Rattle.hex_messages.specs.declared.package.Reason.{Reason}
use Rattle.hex_messages.specs.declared.package.Reason.TheVariants as reason
use Rattle.hex_messages.specs.Fields.{Payload, Varint, Length, Field, Fields}
use Rattle.hex_messages.specs.Good.{AllGood, Merged, has}
use Rattle.hex_messages.specs.Schema.{retired_number}

-- the last of two answers
abbrev pub later : {A : Type 0} → Option A → Option A → Option A
later first None = first
later first (Some a) = Some a

-- the bytes of a value, where it has some; the number of one that is a varint
abbrev pub bytes_in : Payload → Option (List ℕ)
bytes_in (Length bytes) = Some bytes
bytes_in payload = None

abbrev pub number_in : Payload → Option ℕ
number_in (Varint n) = Some n
number_in payload = None

-- what the last field with this number holds: the last value of a singular field counts
abbrev pub last_of : {A : Type 0} → (Payload → Option A) → ℕ → List Field → Option A
last_of value number [] = None
last_of value number (field ∷ fields) = later (if field.number == number then value field.payload else None) (last_of value number fields)

abbrev pub last_bytes : ℕ → List Field → Option (List ℕ)
last_bytes = last_of bytes_in

abbrev pub last_number : ℕ → List Field → Option ℕ
last_number = last_of number_in

-- what all fields with this number hold, in their order: repeated fields
abbrev pub holding : Bool → Option (List ℕ) → List (List ℕ) → List (List ℕ)
holding true (Some bytes) more = bytes ∷ more
holding counted value more = more

abbrev pub all_bytes : ℕ → List Field → List (List ℕ)
all_bytes number [] = []
all_bytes number (field ∷ fields) = holding (field.number == number) (bytes_in field.payload) (all_bytes number fields)

abbrev pub reason_number : Reason → ℕ
reason_number reason.Other = 0
reason_number reason.Invalid = 1
reason_number reason.Security = 2
reason_number reason.Deprecated = 3
reason_number reason.Renamed = 4

-- a truth value is false where it is absent or 0
abbrev pub is_set : Option ℕ → Bool
is_set None = false
is_set (Some n) = not (n == 0)

-- the fields of one or more merged retirements stand for this one
pub record StandsRetired (fields : List Field) (r : Retired) : Type 0 where
  pub reason : last_number 1 fields ≡ Some (reason_number r.reason)
  pub message : last_bytes 2 fields ≡ r.message

-- none stands where there is no retirement
abbrev pub StandsRetirement : Bool → List Field → Option Retired → Type 0
StandsRetirement false merged retired = retired ≡ None
StandsRetirement true merged None = ⊥
StandsRetirement true merged (Some r) = StandsRetired merged r

pub record StandsDependency (bytes : List ℕ) (d : Dependency) : Type 0 where
  pub fields : List Field
  pub spelled : Fields bytes fields
  pub good : AllGood message.Dependency fields
  pub names : last_bytes 1 fields ≡ Some d.«package»
  pub requirement : last_bytes 2 fields ≡ Some d.requirement
  pub optional : is_set (last_number 3 fields) ≡ d.optional
  pub app : last_bytes 4 fields ≡ d.app
  pub repository : last_bytes 5 fields ≡ d.repository

-- one for one
abbrev pub Each : {A B : Type 0} → (A → B → Type 0) → List A → List B → Type 0
Each R [] [] = Unit {0}
Each R (a ∷ more) (b ∷ others) = R a b × Each R more others
Each R more others = ⊥

pub record StandsRelease (bytes : List ℕ) (r : Release) : Type 0 where
  pub fields : List Field
  pub merged : List Field
  pub spelled : Fields bytes fields
  pub good : AllGood message.Release fields
  pub merges : Merged fields merged
  pub version : last_bytes 1 fields ≡ Some r.version
  pub inner_checksum : last_bytes 2 fields ≡ Some r.inner_checksum
  pub dependencies : Each StandsDependency (all_bytes 3 fields) r.dependencies
  pub retired : StandsRetirement (has retired_number fields) merged r.retired
  pub outer_checksum : last_bytes 5 fields ≡ r.outer_checksum

-- the bytes stand for the package
pub record Stands (bytes : List ℕ) (p : Package) : Type 0 where
  pub fields : List Field
  pub spelled : Fields bytes fields
  pub good : AllGood message.Package fields
  pub releases : Each StandsRelease (all_bytes 1 fields) p.releases
  pub name : last_bytes 2 fields ≡ Some p.name
  pub repository : last_bytes 3 fields ≡ Some p.repository

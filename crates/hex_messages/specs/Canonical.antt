-- The canonical spelling: fields by number, shortest varints, nothing that may be left out.
use Rattle.std.specs.Prelude.{◌≡◌, ℕ, ◌+◌, ◌*◌, ◌^◌, ◌<◌, ◌≤◌, Bool, true, false, List, [], ◌∷◌, ◌++◌, length, map, Option, Some, None}
use Rattle.std.specs.List.{AllByRecursion}
use Rattle.std.specs.Str.{IsUtf8}
use Rattle.hex_messages.specs.declared.package.Package.{Package}
use Rattle.hex_messages.specs.declared.package.Release.{Release}
use Rattle.hex_messages.specs.declared.package.Dependency.{Dependency}
use Rattle.hex_messages.specs.declared.package.Retired.{Retired}
use Rattle.hex_messages.specs.Fields.{Payload, Varint, Length, Field, wire_type}
use Rattle.hex_messages.specs.Stands.{reason_number, Each}
use Rattle.hex_messages.specs.Varint.{IsVarint}

abbrev pub AreBytes : List ℕ → Type 0
AreBytes text = AllByRecursion (λ byte. byte < 256) text

-- no spelling of the number by bytes is shorter
pub record IsShortest (bytes : List ℕ) (n : ℕ) : Type 0 where
  pub varint : IsVarint bytes n
  pub each : AreBytes bytes
  pub shortest : (other : List ℕ) → AreBytes other → IsVarint other n → length bytes ≤ length other

abbrev pub WritesPayload : List ℕ → Payload → Type 0
WritesPayload text (Varint n) = IsShortest text n
WritesPayload text (Length bytes) = (size : List ℕ) × IsShortest size (length bytes) × (text ≡ size ++ bytes)
WritesPayload text payload = ⊥

-- the shortest spelling of a field
pub record WritesField (text : List ℕ) (field : Field) : Type 0 where
  pub key : List ℕ
  pub value : List ℕ
  pub keyed : IsShortest key (field.number * 8 + wire_type field.payload)
  pub valued : WritesPayload value field.payload
  pub split : text ≡ key ++ value

-- the shortest spelling of fields, one after another
pub data WritesFields : List ℕ → List Field → Type 0 where
  none : WritesFields [] []
  more : {text front rest : List ℕ} {field : Field} {fields : List Field} → WritesField front field → WritesFields rest fields → text ≡ front ++ rest
      → WritesFields text (field ∷ fields)

-- a field of bytes, and one that may be absent
abbrev pub bytes_field : ℕ → List ℕ → Field
bytes_field number bytes = record { number = number; payload = Length bytes }

abbrev pub perhaps : ℕ → Option (List ℕ) → List Field
perhaps number None = []
perhaps number (Some bytes) = bytes_field number bytes ∷ []

-- a truth value is written only where it is true
abbrev pub truth_field : ℕ → Bool → List Field
truth_field number false = []
truth_field number true = record { number = number; payload = Varint 1 } ∷ []

abbrev pub retired_fields : Retired → List Field
retired_fields r = record { number = 1; payload = Varint (reason_number r.reason) } ∷ perhaps 2 r.message

abbrev pub dependency_fields : Dependency → List Field
dependency_fields d = bytes_field 1 d.«package» ∷ bytes_field 2 d.requirement ∷ truth_field 3 d.optional ++ perhaps 4 d.app ++ perhaps 5 d.repository

abbrev pub WritesDependency : List ℕ → Dependency → Type 0
WritesDependency bytes d = WritesFields bytes (dependency_fields d)

-- the message of the retirement, where there is one
abbrev pub WritesRetirement : Option (List ℕ) → Option Retired → Type 0
WritesRetirement None None = Unit {0}
WritesRetirement (Some bytes) (Some r) = WritesFields bytes (retired_fields r)
WritesRetirement bytes r = ⊥

-- the fields of a release, with the messages within it
abbrev pub release_fields : Release → List (List ℕ) → Option (List ℕ) → List Field
release_fields r dependencies retired = bytes_field 1 r.version ∷ bytes_field 2 r.inner_checksum ∷ map (bytes_field 3) dependencies ++ perhaps 4
    retired ++ perhaps 5 r.outer_checksum

pub record WritesRelease (bytes : List ℕ) (r : Release) : Type 0 where
  pub dependencies : List (List ℕ)
  pub retired : Option (List ℕ)
  pub dependencies_written : Each WritesDependency dependencies r.dependencies
  pub retired_written : WritesRetirement retired r.retired
  pub fields_written : WritesFields bytes (release_fields r dependencies retired)

-- the canonical spelling of a package
pub record Writes (bytes : List ℕ) (p : Package) : Type 0 where
  pub releases : List (List ℕ)
  pub releases_written : Each WritesRelease releases p.releases
  pub fields_written : WritesFields bytes (map (bytes_field 1) releases ++ bytes_field 2 p.name ∷ bytes_field 3 p.repository ∷ [])

-- a text that may be written: UTF-8, and shorter than 2 ^ 31 bytes
abbrev pub IsShort : {A : Type 0} → List A → Type 0
IsShort items = length items < 2 ^ 31

abbrev pub IsText : List ℕ → Type 0
IsText text = IsUtf8 text × IsShort text

abbrev pub IfThere : (List ℕ → Type 0) → Option (List ℕ) → Type 0
IfThere P None = Unit {0}
IfThere P (Some bytes) = P bytes

pub record IsWritableDependency (d : Dependency) : Type 0 where
  pub named : IsText d.«package»
  pub requirement : IsText d.requirement
  pub app : IfThere IsText d.app
  pub repository : IfThere IsText d.repository

abbrev pub IsWritableRetirement : Option Retired → Type 0
IsWritableRetirement None = Unit {0}
IsWritableRetirement (Some r) = IfThere IsText r.message

pub record IsWritableRelease (r : Release) : Type 0 where
  pub version : IsText r.version
  pub inner_checksum : IsShort r.inner_checksum
  pub few : IsShort r.dependencies
  pub dependencies : AllByRecursion IsWritableDependency r.dependencies
  pub retired : IsWritableRetirement r.retired
  pub outer_checksum : IfThere IsShort r.outer_checksum

-- what may be written: each text is UTF-8, and each text and list is shorter than 2 ^ 31
pub record IsWritable (p : Package) : Type 0 where
  pub few : IsShort p.releases
  pub releases : AllByRecursion IsWritableRelease p.releases
  pub name : IsText p.name
  pub repository : IsText p.repository

-- Frames, and their bytes.
use Rattle.std.specs.Prelude.{◌≡◌, ◌≢◌, ℕ, ◌^◌, ◌<◌, ◌≤◌, List, [], ◌∷◌, ◌++◌, length, Ok, IsFalse}
use Rattle.std.specs.Int.{w32, to_be_bytes}
use Rattle.std.specs.List.{AllByRecursion}
use Rattle.std.specs.Prelude.{flat_map}
use Rattle.mx_base.specs.AppName.{IsAppName}
use Rattle.mx_base.specs.Join.{joined}
use Rattle.mx_base.specs.Layout.{is_in_build}
use Rattle.mx_base.specs.declared.variable.Variable.{Variable}
use Rattle.compile_model.specs.Planned.{words_of}
use Rattle.compile_model.specs.declared.how.How.{How}
use Rattle.compile_model.specs.declared.how.How.TheVariants.{Nothing, Unit as ByUnit, Program}
use Rattle.partition_frames.specs.declared.frame.Frame.{Frame}
use Rattle.partition_frames.specs.declared.frame.Frame.TheVariants.{Hello, Job, Verdict, Bye}
use Rattle.partition_frames.specs.Field.{together}

-- kind and body of a frame have at most 16 MiB
abbrev pub most : ℕ
most = 16777216

-- ---- fields

-- a number as 32 bits, big endian
abbrev pub number : ℕ → List ℕ
number n = to_be_bytes w32 n

abbrev pub IsNumber : ℕ → Type 0
IsNumber n = n < 2 ^ 32

abbrev pub number_field : ℕ → List (List ℕ)
number_field n = number n ∷ []

-- a text is a field: how many bytes it has, and then these
abbrev pub text_field : List ℕ → List (List ℕ)
text_field text = (number (length text) ++ text) ∷ []

-- bytes whose number can be written
abbrev pub IsText : List ℕ → Type 0
IsText text = IsNumber (length text)

-- a list: how many values, and then the fields of each
abbrev pub list_fields : {A : Type 0} → (A → List (List ℕ)) → List A → List (List ℕ)
list_fields fields values = number_field (length values) ++ flat_map fields values

abbrev pub IsList : {A : Type 0} → (A → Type 0) → List A → Type 0
IsList Fits values = IsNumber (length values) × AllByRecursion Fits values

-- ---- what a job's frame has

abbrev pub how_byte : How → ℕ
how_byte Nothing = 0
how_byte ByUnit = 1
how_byte (Program words) = 2

-- how it is compiled, and the words of the program; there are none without one
abbrev pub how_fields : How → List (List ℕ)
how_fields how = (how_byte how ∷ []) ∷ list_fields text_field (words_of how)

abbrev pub IsHow : How → Type 0
IsHow how = IsList IsText (words_of how)

abbrev pub variable_fields : Variable → List (List ℕ)
variable_fields variable = text_field variable.name ++ text_field variable.value

abbrev pub IsVariable : Variable → Type 0
IsVariable variable = IsText variable.name × IsText variable.value

-- a folder is given by a path that joins the root to itself, and leads outside the builds
pub record IsFolder (dir : List ℕ) : Type 0 where
  pub text : IsText dir
  pub itself : joined [] dir ≡ Ok dir
  pub outside : IsFalse (is_in_build dir)

-- the job that is meant
abbrev pub head_fields : ℕ → List ℕ → List ℕ → List (List ℕ)
head_fields n env app = number_field n ++ (text_field env ++ text_field app)

abbrev pub IsHead : ℕ → List ℕ → List ℕ → Type 0
IsHead n env app = IsNumber n × (IsAppName env × IsAppName app)

-- how it is compiled
abbrev pub work_fields : List ℕ → How → List Variable → List (List ℕ)
work_fields options how system_env = text_field options ++ (how_fields how ++ list_fields variable_fields system_env)

abbrev pub IsWork : List ℕ → How → List Variable → Type 0
IsWork options how system_env = IsText options × (IsHow how × IsList IsVariable system_env)

-- its folder, and what it needs
abbrev pub place_fields : List ℕ → List (List ℕ) → List (List ℕ)
place_fields dir needs = text_field dir ++ list_fields text_field needs

abbrev pub IsPlace : List ℕ → List (List ℕ) → Type 0
IsPlace dir needs = IsFolder dir × IsList IsAppName needs

-- the folder isn't the root, and doesn't lead into the folder of builds
pub record IsSent (dir : List ℕ) : Type 0 where
  pub not_root : dir ≢ []
  pub outside : IsFalse (is_in_build dir)

-- ---- frames

abbrev pub kind_of : Frame → ℕ
kind_of (Hello cookie index) = 1
kind_of (Job n env app options how system_env dir needs) = 2
kind_of (Verdict n status text) = 3
kind_of Bye = 4

-- the fields of the body
abbrev pub fields_of : Frame → List (List ℕ)
fields_of (Hello cookie index) = text_field cookie ++ number_field index
fields_of (Job n env app options how system_env dir needs) =
    head_fields n env app ++ (work_fields options how system_env ++ place_fields dir needs)
fields_of (Verdict n status text) = number_field n ++ (number_field status ++ text_field text)
fields_of Bye = []

-- what the fields of a body may say
abbrev pub IsSound : Frame → Type 0
IsSound (Hello cookie index) = IsText cookie × IsNumber index
IsSound (Job n env app options how system_env dir needs) = IsHead n env app × (IsWork options how system_env × IsPlace dir needs)
IsSound (Verdict n status text) = IsNumber n × (IsNumber status × IsText text)
IsSound Bye = Unit {0}

-- kind and body
abbrev pub payload_of : Frame → List ℕ
payload_of frame = kind_of frame ∷ together (fields_of frame)

abbrev pub IsSmall : Frame → Type 0
IsSmall frame = length (payload_of frame) ≤ most

-- the folder of a job's frame isn't the root and doesn't lead into the folder of builds
abbrev pub HasFolder : Frame → Type 0
HasFolder (Job n env app options how system_env dir needs) = IsSent dir
HasFolder frame = Unit {0}

abbrev pub frame_text : Frame → List ℕ
frame_text frame = number (length (payload_of frame)) ++ payload_of frame

pub record IsFrame (frame : Frame) : Type 0 where
  pub small : IsSmall frame
  pub sound : IsSound frame

-- the bytes are those of a frame
abbrev pub Spells : List ℕ → Frame → Type 0
Spells bytes frame = IsFrame frame × (bytes ≡ frame_text frame)

-- a frame stands at the front of the bytes
abbrev pub Stands : List ℕ → Frame → List ℕ → Type 0
Stands bytes frame rest = IsFrame frame × (bytes ≡ frame_text frame ++ rest)

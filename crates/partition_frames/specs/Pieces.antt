-- What the readers of a frame's pieces answer.
use Rattle.std.specs.Prelude.{◌≡◌, ℕ, zero, suc, ◌+◌, ◌^◌, ◌<◌, ◌≤◌, Bool, true, false, List, [], ◌∷◌, length}
use Rattle.std.specs.List.{AllByRecursion}
use Rattle.compile_model.specs.declared.how.How.{How}
use Rattle.compile_model.specs.declared.how.How.TheVariants.{Nothing, Unit as ByUnit, Program}
use Rattle.reading.specs.declared.stuck.Fault.{Fault}
use Rattle.reading.specs.declared.stuck.Fault.TheVariants.{Stuck, OutOfMemory}
use Rattle.partition_frames.specs.declared.job.Head.{Head}
use Rattle.partition_frames.specs.declared.job.Work.{Work}
use Rattle.partition_frames.specs.declared.job.Place.{Place}
use Rattle.partition_frames.specs.Field.{Lacks}
use Rattle.partition_frames.specs.Frame.{IsHead, IsPlace, IsWork, head_fields, place_fields, work_fields}

-- a field is lacking where so many bytes are left
pub record LacksBefore {A : Type 0} (fields : A → List (List ℕ)) (Fits : A → Type 0) (text : List ℕ) (left : ℕ) : Type 0 where
  pub at : ℕ
  pub sum : at + left ≡ length text
  pub lacks : Lacks fields Fits text at

-- .. as the reader says; that memory ran out says nothing of it
abbrev pub LacksBy : {A : Type 0} → (A → List (List ℕ)) → (A → Type 0) → List ℕ → Fault → Type 0
LacksBy fields Fits text (Stuck stuck) = LacksBefore fields Fits text stuck.left
LacksBy fields Fits text OutOfMemory = Unit {0}

-- fewer values than this, and each fits
abbrev pub IsShortList : {A : Type 0} → ℕ → (A → Type 0) → List A → Type 0
IsShortList limit Fits values = (length values < limit) × AllByRecursion Fits values

-- so many values, and each fits
abbrev pub SoMany : {A : Type 0} → (A → Type 0) → ℕ → List A → Type 0
SoMany Fits count values = (length values ≡ count) × AllByRecursion Fits values

-- one byte
abbrev pub byte_field : ℕ → List (List ℕ)
byte_field byte = (byte ∷ []) ∷ []

abbrev pub IsHowByte : ℕ → Type 0
IsHowByte byte = byte ≤ 2

-- a list of words has fewer than this: none stand where there is no program
abbrev pub room : Bool → ℕ
room false = 1
room true = 2 ^ 32

-- the words count only where there is a program
abbrev pub how_of : ℕ → List (List ℕ) → How
how_of zero words = Nothing
how_of (suc zero) words = ByUnit
how_of (suc (suc n)) words = Program words

-- ---- the pieces of a job's frame

abbrev pub head_of : Head → List (List ℕ)
head_of head = head_fields head.number head.env head.app

abbrev pub IsHeadOf : Head → Type 0
IsHeadOf head = IsHead head.number head.env head.app

abbrev pub work_of : Work → List (List ℕ)
work_of work = work_fields work.options work.how work.system_env

abbrev pub IsWorkOf : Work → Type 0
IsWorkOf work = IsWork work.options work.how work.system_env

abbrev pub place_of : Place → List (List ℕ)
place_of place = place_fields place.dir place.needs

abbrev pub IsPlaceOf : Place → Type 0
IsPlaceOf place = IsPlace place.dir place.needs

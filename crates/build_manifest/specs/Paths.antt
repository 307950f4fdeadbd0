-- How far a path has come, and what leads on from there to its end.
use Rattle.std.specs.Prelude.{◌≡◌, ◌⊎◌, ◌↔◌, ℕ, zero, suc, ◌≤◌, List, [], ◌∷◌, ◌++◌, IsTrue, Option, Some}
use Rattle.std.specs.declared.cmp.Ordering.TheVariants.{Less}
use Rattle.std.specs.List.{list_all, slice_split}
use Rattle.std.specs.Str.{IsUtf8}
use Rattle.mx_base.specs.Order.{text_cmp}
use Rattle.mx_base.specs.Path.{is_path, is_segment, is_slash}
use Rattle.build_manifest.specs.Fields.{ComesAfter}
use Rattle.build_manifest.specs.declared.paths.Missing.{Missing}
use Rattle.build_manifest.specs.declared.paths.Order.{Order}
use Rattle.build_manifest.specs.declared.paths.Order.TheVariants.{Same, After}
use Rattle.build_manifest.specs.declared.paths.Place.{Place}
use Rattle.build_manifest.specs.declared.paths.Segment.{Segment}
use Rattle.build_manifest.specs.declared.paths.Segment.TheVariants.{Nothing, Dot, TwoDots, Name}

-- a segment that has come so far; `a` stands for all that are a segment already
abbrev pub segment_text : Segment → List ℕ
segment_text Nothing = []
segment_text Dot = 46 ∷ []
segment_text TwoDots = 46 ∷ 46 ∷ []
segment_text Name = 97 ∷ []

-- the bytes make the segment whole, and may have more of them behind it
abbrev pub EndsSegments : Segment → List ℕ → Type 0
EndsSegments segment bytes = IsTrue (list_all is_segment (slice_split is_slash (segment_text segment ++ bytes)))

-- so many bytes of a character, of which the first is in a range (Unicode, table 3-7), and then UTF-8
abbrev pub EndsCharacter : ℕ → ℕ → ℕ → List ℕ → Type 0
EndsCharacter zero low high bytes = IsUtf8 bytes
EndsCharacter (suc n) low high [] = ⊥
EndsCharacter (suc n) low high (byte ∷ bytes) = (low ≤ byte) × (byte ≤ high) × EndsCharacter n 0x80 0xBF bytes

abbrev pub EndsCharacters : Missing → List ℕ → Type 0
EndsCharacters missing bytes = EndsCharacter missing.count missing.low missing.high bytes

-- with these bytes the path comes after the one that has these
abbrev pub EndsOrder : Order → List ℕ → List ℕ → Type 0
EndsOrder After earlier bytes = Unit {0}
EndsOrder Same earlier bytes = text_cmp earlier bytes ≡ Less

-- the bytes lead on to the end of a path that comes after one which has these left
pub record EndsPath (place : Place) (earlier bytes : List ℕ) : Type 0 where
  pub segments : EndsSegments place.segment bytes
  pub characters : EndsCharacters place.missing bytes
  pub order : EndsOrder place.order earlier bytes

-- the bytes that go on with a character have the top bit and not the next one
pub record GoesOnAbove (missing : Missing) : Type 0 where
  pub low : 0x80 ≤ missing.low
  pub some : missing.low ≤ missing.high
  pub high : missing.high ≤ 0xBF

-- a segment may end there, or the path is the root's
abbrev pub EndsAt : Segment → ℕ → Type 0
EndsAt segment length = (segment ≡ Name) ⊎ (length ≡ 0)

-- a path of so many bytes may end there
pub record MayEnd (place : Place) (length : ℕ) : Type 0 where
  pub order : place.order ≡ After
  pub characters : place.missing.count ≡ 0
  pub segment : EndsAt place.segment length

-- where a path begins that has to come after the one before
pub record IsStart (before : Option (List ℕ)) (earlier : List ℕ) (place : Place) : Type 0 where
  pub segment : place.segment ≡ Nothing
  pub characters : place.missing.count ≡ 0
  pub goes_on : GoesOnAbove place.missing
  pub order : (path : List ℕ) → ComesAfter before path ↔ EndsOrder place.order earlier path
  pub same : place.order ≡ Same → (before ≡ Some earlier) × IsTrue (is_path earlier) × IsUtf8 earlier

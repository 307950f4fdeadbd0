-- Words as pieces: options, each with its value, and other words.
use Rattle.std.specs.Prelude.{◌≡◌, ℕ, Bool, false, ◌==◌, IsFalse, List, [], ◌∷◌, ◌++◌, codes, flat_map}
use Rattle.mix_words.specs.declared.option.Valued.{Valued}
use Rattle.mix_words.specs.declared.option.Valued.TheVariants.{Env, Target, Partitions}
use Rattle.mix_words.specs.declared.option.Flag.{Flag}
use Rattle.mix_words.specs.declared.option.Flag.TheVariants.{Plain, Trace}

abbrev pub Word : Type 0
Word = List ℕ

-- the word of an option that has a value
abbrev pub valued_word : Valued → Word
valued_word Env = codes "--env"
valued_word Target = codes "--target"
valued_word Partitions = codes "--partitions"

-- the word of an option that has none
abbrev pub flag_word : Flag → Word
flag_word Plain = codes "--plain"
flag_word Trace = codes "--trace"

abbrev pub is_dashed : Word → Bool
is_dashed [] = false
is_dashed (byte ∷ bytes) = byte == 45

pub data Piece : Type 0 where
  -- an option, and its value in the word behind it
  Spaced : (option : Valued) (value : Word) → Piece
  -- an option, and its value behind `=`
  Joint : (option : Valued) (value : Word) → Piece
  -- an option without a value
  Raised : (flag : Flag) → Piece
  -- any other word
  Other : (word : Word) → Piece

abbrev pub words_in : Piece → List Word
words_in (Spaced option value) = valued_word option ∷ value ∷ []
words_in (Joint option value) = (valued_word option ++ 61 ∷ value) ∷ []
words_in (Raised flag) = flag_word flag ∷ []
words_in (Other word) = word ∷ []

abbrev pub words_of : List Piece → List Word
words_of pieces = flat_map words_in pieces

-- no word that begins with `-` is anything but an option
abbrev pub Stands : Piece → Type 0
Stands (Other word) = IsFalse (is_dashed word)
Stands piece = Unit {0}

abbrev pub Stand : List Piece → Type 0
Stand [] = Unit {0}
Stand (piece ∷ pieces) = Stands piece × Stand pieces

-- the value, where it is given to this option
abbrev pub if_given : Valued → Valued → Word → List Word
if_given Env Env value = value ∷ []
if_given Target Target value = value ∷ []
if_given Partitions Partitions value = value ∷ []
if_given option other value = []

abbrev pub if_raised : Flag → Flag → List Flag
if_raised Plain Plain = Plain ∷ []
if_raised Trace Trace = Trace ∷ []
if_raised flag other = []

-- the values that a piece gives an option
abbrev pub value_in : Valued → Piece → List Word
value_in option (Spaced given value) = if_given option given value
value_in option (Joint given value) = if_given option given value
value_in option piece = []

abbrev pub flag_in : Flag → Piece → List Flag
flag_in flag (Raised raised) = if_raised flag raised
flag_in flag piece = []

abbrev pub other_in : Piece → List Word
other_in (Other word) = word ∷ []
other_in piece = []

-- all values that an option is given, in order; each time that a flag stands; and all other words
abbrev pub values_of : Valued → List Piece → List Word
values_of option pieces = flat_map (value_in option) pieces

abbrev pub flags_of : Flag → List Piece → List Flag
flags_of flag pieces = flat_map (flag_in flag) pieces

abbrev pub others_of : List Piece → List Word
others_of pieces = flat_map other_in pieces

-- What the words behind a command's name say.
use Rattle.std.specs.Prelude.{◌≡◌, ℕ, List}
use Rattle.mix_words.specs.declared.settings.Settings.{Settings}
use Rattle.mix_words.specs.declared.option.Valued.{Valued}
use Rattle.mix_words.specs.declared.option.Flag.{Flag}
use Rattle.mix_words.specs.Choice.{given_in, raised_in}
use Rattle.mix_words.specs.Piece.{Piece, Word, Stand, words_of, values_of, flags_of, others_of}

-- the words are pieces in any order. Together these give each option what the settings have of it, once where they
-- have it and else never, and their other words are these, in this order.
pub record Says (words : List Word) (settings : Settings) (others : List Word) : Type 0 where
  pub pieces : List Piece
  pub spelled : words ≡ words_of pieces
  pub stand : Stand pieces
  pub values : (option : Valued) → values_of option pieces ≡ given_in settings option
  pub flags : (flag : Flag) → flags_of flag pieces ≡ raised_in settings flag
  pub left : others_of pieces ≡ others

-- Which words are which command.
use Rattle.std.specs.Prelude.{◌≡◌, List, ◌∷◌, Option, Some}
use Rattle.mix_words.specs.declared.command.Command.{Command}
use Rattle.mix_words.specs.declared.command.Command.TheVariants as commands
use Rattle.mix_words.specs.declared.settings.Settings.{Settings}
use Rattle.mix_words.specs.declared.verb.Verb.{Verb}
use Rattle.mix_words.specs.declared.verb.Verb.TheVariants.{Help, Deps, Stale, Compile, Clean}
use Rattle.mix_words.specs.Chosen.{Chosen}
use Rattle.mix_words.specs.Choice.{HasBuild, Takes, env_of, target_of}
use Rattle.mix_words.specs.Piece.{Word}
use Rattle.mix_words.specs.Said.{Says}
use Rattle.mix_words.specs.Table.{name_of}

abbrev pub choice_of : Settings → Chosen
choice_of settings = record { env = env_of settings; target = target_of settings }

-- the command that a name, settings and apps make
abbrev pub made_of : Verb → Settings → List Word → Option Command
made_of Help settings apps = Some commands.Help
made_of Deps settings apps = Some (commands.Deps (choice_of settings))
made_of Stale settings apps = Some (commands.Stale (choice_of settings))
made_of Compile settings apps = Some (commands.Compile (choice_of settings) settings.partitions settings.plain settings.trace)
made_of Clean settings apps = Some (commands.Clean (choice_of settings) apps)

-- the words are options and apps that the command takes
pub record Orders (verb : Verb) (words : List Word) (command : Command) : Type 0 where
  pub settings : Settings
  pub apps : List Word
  pub says : Says words settings apps
  pub takes : Takes verb settings apps
  pub build : HasBuild settings
  pub makes : made_of verb settings apps ≡ Some command

-- the words behind a command's name, and the command that they make of it
abbrev pub Asks : Verb → List Word → Command → Type 0
Asks verb words command = Orders verb words command

-- the words are this command's: its name, and what it takes behind it
pub record Means (words : List Word) (command : Command) : Type 0 where
  pub verb : Verb
  pub behind : List Word
  pub spelled : words ≡ name_of verb ∷ behind
  pub asks : Asks verb behind command

-- the words are some command's
abbrev pub IsMeant : List Word → Type 0
IsMeant words = (command : Command) × Means words command

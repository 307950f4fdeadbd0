-- How far words behind a command's name have been read, and what may follow.
use Rattle.std.specs.Prelude.{◌≡◌, ◌⊎◌, ℕ, Bool, true, not, ◌&&◌, is_none, IsTrue, IsFalse, List, [], ◌∷◌, ◌++◌, Option, Some, None, IfSome}
use Rattle.mx_base.specs.AppName.{IsAppName}
use Rattle.mx_base.specs.BuildName.{HasBuildName}
use Rattle.mix_words.specs.declared.command.Command.{Command}
use Rattle.mix_words.specs.declared.option.Valued.{Valued}
use Rattle.mix_words.specs.declared.option.Valued.TheVariants.{Env, Target, Partitions}
use Rattle.mix_words.specs.declared.option.Flag.{Flag}
use Rattle.mix_words.specs.declared.option.Flag.TheVariants.{Plain, Trace}
use Rattle.mix_words.specs.declared.settings.Settings.{Settings}
use Rattle.mix_words.specs.declared.verb.Verb.{Verb}
use Rattle.mix_words.specs.Choice.{HasBuild, Takes, given_in, raised_in, unset}
use Rattle.mix_words.specs.Meaning.{made_of}
use Rattle.mix_words.specs.Piece.{Piece, Word, Joint, Stand, words_of, valued_word, value_in, flag_in, other_in, values_of, flags_of, others_of}
use Rattle.mix_words.specs.Table.{takes_build, takes_run, takes_valued}

-- some target has the name of a build in the environment: the one that is given, where one is
abbrev pub HasTarget : Word → Option Word → Type 0
HasTarget env given = (target : Word) × IfSome given (λ t. t ≡ target) × IsAppName target × HasBuildName env target

-- some environment has one for the target
abbrev pub HasEnv : Option Word → Word → Type 0
HasEnv given target = (env : Word) × IfSome given (λ e. e ≡ env) × IsAppName env × HasBuildName env target

-- what was read behind a command's name
pub record State : Type 0 where
  pub verb : Verb
  pub settings : Settings
  pub others : List Word

-- it can still become a command
pub record Lives (state : State) : Type 0 where
  pub takes : Takes state.verb state.settings state.others
  pub env : IfSome state.settings.env (λ env. HasTarget env state.settings.target)
  pub target : IfSome state.settings.target (λ target. HasEnv state.settings.env target)

-- what is left leads from there to a command
pub record Leads (state : State) (left : List Word) (command : Command) : Type 0 where
  pub pieces : List Piece
  pub settings : Settings
  pub spelled : left ≡ words_of pieces
  pub stand : Stand pieces
  pub values : (option : Valued) → given_in state.settings option ++ values_of option pieces ≡ given_in settings option
  pub flags : (flag : Flag) → raised_in state.settings flag ++ flags_of flag pieces ≡ raised_in settings flag
  pub takes : Takes state.verb settings (state.others ++ others_of pieces)
  pub build : HasBuild settings
  pub makes : made_of state.verb settings (state.others ++ others_of pieces) ≡ Some command

-- with one piece more
pub record Adds (old : State) (piece : Piece) (new : State) : Type 0 where
  pub verb : new.verb ≡ old.verb
  pub values : (option : Valued) → given_in new.settings option ≡ given_in old.settings option ++ value_in option piece
  pub flags : (flag : Flag) → raised_in new.settings flag ≡ raised_in old.settings flag ++ flag_in flag piece
  pub others : new.others ≡ old.others ++ other_in piece

pub record Goes (old : State) (piece : Piece) (new : State) : Type 0 where
  pub adds : Adds old piece new
  pub lives : Lives new

-- a command has all that was read, then the piece, and perhaps more
pub record Reaches (state : State) (piece : Piece) (settings : Settings) (others : List Word) : Type 0 where
  pub values : (option : Valued) → (more : List Word)
      × (given_in state.settings option ++ (value_in option piece ++ more) ≡ given_in settings option)
  pub flags : (flag : Flag) → (more : List Flag)
      × (raised_in state.settings flag ++ (flag_in flag piece ++ more) ≡ raised_in settings flag)
  pub more : List Word
  pub whole : state.others ++ (other_in piece ++ more) ≡ others
  pub takes : Takes state.verb settings others
  pub build : HasBuild settings

abbrev pub Bars : State → Piece → Type 0
Bars state piece = (settings : Settings) (others : List Word) → Reaches state piece settings others → ⊥

-- the option may stand next
pub record MayGive (state : State) (option : Valued) : Type 0 where
  pub taken : IsTrue (takes_valued state.verb option)
  pub free : given_in state.settings option ≡ []
  pub apart : option ≡ Partitions → IsFalse state.settings.plain

-- the same as a test
abbrev pub may_give : State → Valued → Bool
may_give state Env = takes_build state.verb && is_none state.settings.env
may_give state Target = takes_build state.verb && is_none state.settings.target
may_give state Partitions = takes_run state.verb && (is_none state.settings.partitions && not state.settings.plain)

-- whether a flag may stand next
abbrev pub may_raise : State → Flag → Bool
may_raise state Plain =
    takes_run state.verb && (not state.settings.plain && (not state.settings.trace && is_none state.settings.partitions))
may_raise state Trace = takes_run state.verb && (not state.settings.plain && not state.settings.trace)

-- with a flag
abbrev pub raise : Settings → Flag → Settings
raise settings Plain = record settings { plain = true }
raise settings Trace = record settings { trace = true }

-- it may not, whatever its value
abbrev pub BarsOption : State → Valued → Type 0
BarsOption state option = (value : Word) → Bars state (Joint option value)

-- the word of an option that waits for its value
abbrev pub waiting_word : Option Valued → List Word
waiting_word None = []
waiting_word (Some option) = valued_word option ∷ []

-- where a reader stands
pub record Place : Type 0 where
  pub state : State
  pub waiting : Option Valued

abbrev pub ready_at : State → Place
ready_at state = record { state = state; waiting = None }

-- nothing was read
abbrev pub start_of : Verb → Place
start_of verb = ready_at (record { verb = verb; settings = unset; others = [] })

abbrev pub LeadsOn : Place → List Word → Command → Type 0
LeadsOn at left command = Leads at.state (waiting_word at.waiting ++ left) command

pub record LivesOn (at : Place) : Type 0 where
  pub state : Lives at.state
  pub waiting : IfSome at.waiting (MayGive at.state)

-- a word leads from one place to the other
pub record Follows (old : Place) (word : Word) (new : Place) : Type 0 where
  pub on : (left : List Word) (command : Command) → LeadsOn old (word ∷ left) command → LeadsOn new left command
  pub back : (left : List Word) (command : Command) → LeadsOn new left command → LeadsOn old (word ∷ left) command
  pub lives : LivesOn new

-- no command goes on with the word
abbrev pub Dies : Place → Word → Type 0
Dies at word = (left : List Word) (command : Command) → LeadsOn at (word ∷ left) command → ⊥

-- The environment and the target that are chosen, and the options of a compile.
use Rattle.std.specs.Prelude.{◌≡◌, ℕ, ◌≤◌, Bool, true, false, IsTrue, IsFalse, List, [], ◌∷◌, length, Option, Some, None, IfSome, codes, decimal, bytes_eq, unwrap_or}
use Rattle.std.specs.List.{list_any}
use Rattle.reading.specs.Field.{FitInTurn}
use Rattle.mx_base.specs.AppName.{IsAppName}
use Rattle.mx_base.specs.BuildName.{HasBuildName, host}
use Rattle.mix_words.specs.declared.settings.Settings.{Settings}
use Rattle.mix_words.specs.declared.verb.Verb.{Verb}
use Rattle.mix_words.specs.declared.option.Valued.{Valued}
use Rattle.mix_words.specs.declared.option.Valued.TheVariants.{Env, Target, Partitions}
use Rattle.mix_words.specs.declared.option.Flag.{Flag}
use Rattle.mix_words.specs.declared.option.Flag.TheVariants.{Plain, Trace}
use Rattle.mix_words.specs.Piece.{Word}
use Rattle.mix_words.specs.Numbers.{IsPartitionCount}
use Rattle.mix_words.specs.Table.{takes_build, takes_run, takes_apps}

-- no option is given
abbrev pub unset : Settings
unset = record { env = None; target = None; partitions = None; plain = false; trace = false }

-- the environment, where none is given
abbrev pub dev : Word
dev = codes "dev"

abbrev pub env_of : Settings → Word
env_of settings = unwrap_or settings.env dev

-- the target: the machine at hand, where none is given
abbrev pub target_of : Settings → Word
target_of settings = unwrap_or settings.target host

abbrev pub word_in : Option Word → List Word
word_in None = []
word_in (Some word) = word ∷ []

abbrev pub number_in : Option ℕ → List Word
number_in None = []
number_in (Some number) = decimal number ∷ []

-- the values that the settings have of an option: one, or none
abbrev pub given_in : Settings → Valued → List Word
given_in settings Env = word_in settings.env
given_in settings Target = word_in settings.target
given_in settings Partitions = number_in settings.partitions

abbrev pub flag_if : Flag → Bool → List Flag
flag_if flag true = flag ∷ []
flag_if flag false = []

abbrev pub raised_in : Settings → Flag → List Flag
raised_in settings Plain = flag_if Plain settings.plain
raised_in settings Trace = flag_if Trace settings.trace

abbrev pub is_among : List Word → Word → Bool
is_among words word = list_any (bytes_eq word) words

-- a name of an app may stand behind these, where the command takes apps
pub record IsApp (verb : Verb) (before : List Word) (app : Word) : Type 0 where
  pub taken : IsTrue (takes_apps verb)
  pub name : IsAppName app
  pub once : IsFalse (is_among before app)

-- what a command takes of options and of other words
pub record Takes (verb : Verb) (settings : Settings) (others : List Word) : Type 0 where
  pub env : IfSome settings.env (λ env. IsTrue (takes_build verb) × IsAppName env)
  pub target : IfSome settings.target (λ target. IsTrue (takes_build verb) × IsAppName target)
  pub partitions : IfSome settings.partitions (λ n. IsTrue (takes_run verb) × IsPartitionCount n × IsFalse settings.plain)
  pub plain : IsTrue settings.plain → IsTrue (takes_run verb)
  pub trace : IsTrue settings.trace → IsTrue (takes_run verb) × IsFalse settings.plain
  pub apps : FitInTurn (IsApp verb) [] others

-- the environment and the target have a name of a build
abbrev pub HasBuild : Settings → Type 0
HasBuild settings = HasBuildName (env_of settings) (target_of settings)

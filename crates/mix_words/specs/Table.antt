-- The table of the commands: their names, and which options and other words each takes.
use Rattle.std.specs.Prelude.{ℕ, Bool, true, false, List, [], ◌∷◌, ◌++◌, codes, flat_map, map}
use Rattle.mix_words.specs.declared.verb.Verb.{Verb}
use Rattle.mix_words.specs.declared.verb.Verb.TheVariants.{Help, Deps, Stale, Compile, Clean}
use Rattle.mix_words.specs.declared.option.Valued.{Valued}
use Rattle.mix_words.specs.declared.option.Valued.TheVariants.{Env, Target, Partitions}

-- the word that names a command
abbrev pub name_of : Verb → List ℕ
name_of Help = codes "help"
name_of Deps = codes "deps"
name_of Stale = codes "deps.stale"
name_of Compile = codes "deps.compile"
name_of Clean = codes "deps.clean"

-- in the order in which they are listed
abbrev pub verbs : List Verb
verbs = Help ∷ Deps ∷ Stale ∷ Compile ∷ Clean ∷ []

-- it takes `--env` and `--target`
abbrev pub takes_build : Verb → Bool
takes_build Deps = true
takes_build Stale = true
takes_build Compile = true
takes_build Clean = true
takes_build verb = false

-- it takes `--partitions`, `--plain` and `--trace`
abbrev pub takes_run : Verb → Bool
takes_run Compile = true
takes_run verb = false

abbrev pub takes_valued : Verb → Valued → Bool
takes_valued verb Env = takes_build verb
takes_valued verb Target = takes_build verb
takes_valued verb Partitions = takes_run verb

abbrev pub takes_apps : Verb → Bool
takes_apps Clean = true
takes_apps verb = false

-- the names of the commands, one a line
abbrev pub help_text : List ℕ
help_text = flat_map (λ verb. name_of verb ++ 10 ∷ []) verbs

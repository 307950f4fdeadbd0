-- What may follow and what may not, option by option.
use Rattle.std.proofs.Common.{◌≡◌, ◌⊎◌, ℕ, Bool, true, false, List, [], ◌∷◌, ◌++◌, length, Option, Some, None, refl, sym, ap, ◌∙◌, subst, arith, append_assoc, append-nil, length-append, ⊎_elim}
use Rattle.std.specs.Prelude.{IsTrue, IsFalse, IfNone, IfSome, codes, decimal, unwrap_or, not, ◌&&◌, is_none}
use Rattle.std.proofs.lemmas.Bool.{and_cases}
use Rattle.mx_base.specs.AppName.{IsAppName, is_app_name}
use Rattle.mx_base.specs.BuildName.{HasBuildName, host}
use Rattle.reading.specs.Field.{FitInTurn}
use Rattle.reading.proofs.Repeats.{fit_one_more}
use Rattle.mix_words.specs.declared.option.Valued.{Valued}
use Rattle.mix_words.specs.declared.option.Valued.TheVariants.{Env, Target, Partitions}
use Rattle.mix_words.specs.declared.option.Flag.{Flag}
use Rattle.mix_words.specs.declared.option.Flag.TheVariants.{Plain, Trace}
use Rattle.mix_words.specs.declared.settings.Settings.{Settings}
use Rattle.mix_words.specs.declared.verb.Verb.{Verb}
use Rattle.mix_words.specs.Choice.{HasBuild, IsApp, Takes, dev, env_of, flag_if, given_in, is_among, number_in, raised_in, target_of, word_in}
use Rattle.mix_words.specs.Live.{Bars, BarsOption, HasEnv, HasTarget, Reaches, State, may_give, may_raise}
use Rattle.mix_words.specs.Numbers.{IsNumber, IsPartitionCount}
use Rattle.mix_words.specs.Piece.{Piece, Joint, Raised, Other, Word, flag_in, if_given, if_raised, other_in, value_in}
use Rattle.mix_words.proofs.ChoiceLemmas.{dev_for_host, dev_name, host_name, shortest, shortest_name}
use Rattle.mix_words.specs.Table.{takes_apps, takes_build, takes_run, takes_valued}

-- ---- what one value more says of a list of one or none

pub no_more_than_one : {X : Type 0} (x y v : X) (xs more : List X) → x ∷ (xs ++ (v ∷ more)) ≡ y ∷ [] → ⊥
no_more_than_one x y v xs more e = omega (arith, ap length e, length-append xs (v ∷ more))

-- there was none, and the one is this
pub record OnlyOne {X : Type 0} (before : List X) (value : X) (one : Option X) : Type 0 where
  pub none : before ≡ []
  pub is : one ≡ Some value

pub only_word : (before : List Word) (value : Word) (more : List Word) (o : Option Word) → before ++ (value ∷ more) ≡ word_in o → OnlyOne before value o
only_word [] value more None e = cc
only_word [] value more (Some w) e = record { none = refl; is = cc }
only_word (x ∷ xs) value more None e = cc
only_word (x ∷ xs) value more (Some w) e = absurd (no_more_than_one x w value xs more e)

pub record OnlyNumber (before : List Word) (value : Word) (one : Option ℕ) : Type 0 where
  pub none : before ≡ []
  pub number : ℕ
  pub is : one ≡ Some number
  pub bytes : value ≡ decimal number

pub only_number : (before : List Word) (value : Word) (more : List Word) (o : Option ℕ) → before ++ (value ∷ more) ≡ number_in o → OnlyNumber before value o
only_number [] value more None e = cc
only_number [] value more (Some n) e = record { none = refl; number = n; is = refl; bytes = cc }
only_number (x ∷ xs) value more None e = cc
only_number (x ∷ xs) value more (Some n) e = absurd (no_more_than_one x (decimal n) value xs more e)

pub record OnlyFlag (before : List Flag) (one : Bool) : Type 0 where
  pub none : before ≡ []
  pub is : one ≡ true

pub only_flag : (flag : Flag) (before : List Flag) (value : Flag) (more : List Flag) (b : Bool) → before ++ (value ∷ more) ≡ flag_if flag b → OnlyFlag before b
only_flag flag [] value more true e = record { none = refl; is = refl }
only_flag flag [] value more false e = cc
only_flag flag (x ∷ xs) value more true e = absurd (no_more_than_one x flag value xs more e)
only_flag flag (x ∷ xs) value more false e = cc

-- a flag that was raised stays
pub raised_stays : (flag : Flag) (old new : Bool) (more : List Flag) → flag_if flag old ++ more ≡ flag_if flag new → old ≡ true → new ≡ true
raised_stays flag true true more e h = refl
raised_stays flag true false more e h = cc
raised_stays flag false new more e h = cc

-- a word that was given stays
pub given_stays : (old new : Option Word) (more : List Word) (word : Word) → word_in old ++ more ≡ word_in new → old ≡ Some word → new ≡ Some word
given_stays None new more word e h = cc
given_stays (Some w) None more word e h = cc
given_stays (Some w) (Some x) more word e h = cc

-- a number that was given stays one
pub number_stays : (old new : Option ℕ) (more : List Word) (n : ℕ) → number_in old ++ more ≡ number_in new → old ≡ Some n → (m : ℕ) × (new ≡ Some m)
number_stays None new more n e h = cc
number_stays (Some m) None more n e h = cc
number_stays (Some m) (Some k) more n e h = (k, refl)

pub none_of : (o : Option Word) → word_in o ≡ [] → o ≡ None
none_of None e = refl
none_of (Some w) e = cc

pub at_some : {X : Type 0} (P : X → Type 0) (o : Option X) (x : X) → o ≡ Some x → IfSome o P → P x
at_some P o x e h = subst (λ q. IfSome q P) e h

pub true_or_false : (b : Bool) → IsTrue b → IsFalse b → ⊥
true_or_false b t f = let e : true ≡ false = sym t ∙ f in cc

-- ---- what a command chooses, where some of it was read

pub kept_target : (old new : Option Word) (more : List Word) → word_in old ++ more ≡ word_in new → IfSome old (λ t. t ≡ unwrap_or new host)
kept_target None new more e = tt
kept_target (Some w) None more e = cc
kept_target (Some w) (Some x) more e = cc

pub kept_env : (old new : Option Word) (more : List Word) → word_in old ++ more ≡ word_in new → IfSome old (λ e. e ≡ unwrap_or new dev)
kept_env None new more e = tt
kept_env (Some w) None more e = cc
kept_env (Some w) (Some x) more e = cc

pub name_or_host : (o : Option Word) (P : Word → Type 0) → ((w : Word) → P w → IsAppName w) → IfSome o P → IsAppName (unwrap_or o host)
name_or_host None P named h = host_name
name_or_host (Some w) P named h = named w h

pub name_or_dev : (o : Option Word) (P : Word → Type 0) → ((w : Word) → P w → IsAppName w) → IfSome o P → IsAppName (unwrap_or o dev)
name_or_dev None P named h = dev_name
name_or_dev (Some w) P named h = named w h

-- ---- `--env`

module _ (state : State) (value : Word) where
  env_only : (settings : Settings) (others : List Word) → Reaches state (Joint Env value) settings others
      → OnlyOne (word_in state.settings.env) value settings.env
  env_only settings others r = only_word (word_in state.settings.env) value (r.values Env).0 settings.env (r.values Env).1

  pub env_not_taken : takes_build state.verb ≡ false → Bars state (Joint Env value)
  env_not_taken never settings others r =
      let only = env_only settings others r in
      let taken = at_some (λ (e : Word). IsTrue (takes_build state.verb) × IsAppName e) settings.env value only.is r.takes.env in
      true_or_false (takes_build state.verb) taken.0 never

  pub env_given : (word : Word) → state.settings.env ≡ Some word → Bars state (Joint Env value)
  env_given word is settings others r =
      let only = env_only settings others r in
      let e : word_in (Some word) ≡ [] = ap word_in (sym is) ∙ only.none in cc

  pub env_no_name : (IsAppName value → ⊥) → Bars state (Joint Env value)
  env_no_name never settings others r =
      let only = env_only settings others r in
      never (at_some (λ (e : Word). IsTrue (takes_build state.verb) × IsAppName e) settings.env value only.is r.takes.env).1

  pub env_no_build : (HasTarget value state.settings.target → ⊥) → Bars state (Joint Env value)
  env_no_build never settings others r =
      let only = env_only settings others r in
      never (
        target_of settings,
        kept_target state.settings.target settings.target (r.values Target).0 (r.values Target).1,
        name_or_host settings.target (λ t. IsTrue (takes_build state.verb) × IsAppName t) (λ t h. h.1) r.takes.target,
        subst (λ (e : Option Word). HasBuildName (unwrap_or e dev) (target_of settings)) only.is r.build,
      )

-- ---- `--target`

module _ (state : State) (value : Word) where
  target_only : (settings : Settings) (others : List Word) → Reaches state (Joint Target value) settings others
      → OnlyOne (word_in state.settings.target) value settings.target
  target_only settings others r = only_word (word_in state.settings.target) value (r.values Target).0 settings.target (r.values Target).1

  target_fact : (settings : Settings) (others : List Word) → Reaches state (Joint Target value) settings others
      → IsTrue (takes_build state.verb) × IsAppName value
  target_fact settings others r =
      at_some (λ (t : Word). IsTrue (takes_build state.verb) × IsAppName t) settings.target value (target_only settings others r).is r.takes.target

  pub target_not_taken : takes_build state.verb ≡ false → Bars state (Joint Target value)
  target_not_taken never settings others r = true_or_false (takes_build state.verb) (target_fact settings others r).0 never

  pub target_given : (word : Word) → state.settings.target ≡ Some word → Bars state (Joint Target value)
  target_given word is settings others r =
      let only = target_only settings others r in
      let e : word_in (Some word) ≡ [] = ap word_in (sym is) ∙ only.none in cc

  pub target_no_name : (IsAppName value → ⊥) → Bars state (Joint Target value)
  target_no_name never settings others r = never (target_fact settings others r).1

  pub target_no_build : (HasEnv state.settings.env value → ⊥) → Bars state (Joint Target value)
  target_no_build never settings others r =
      let only = target_only settings others r in
      never (
        env_of settings,
        kept_env state.settings.env settings.env (r.values Env).0 (r.values Env).1,
        name_or_dev settings.env (λ e. IsTrue (takes_build state.verb) × IsAppName e) (λ e h. h.1) r.takes.env,
        subst (λ (t : Option Word). HasBuildName (env_of settings) (unwrap_or t host)) only.is r.build,
      )

-- ---- `--partitions`

module _ (state : State) (value : Word) where
  count_only : (settings : Settings) (others : List Word) → Reaches state (Joint Partitions value) settings others
      → OnlyNumber (number_in state.settings.partitions) value settings.partitions
  count_only settings others r = only_number (number_in state.settings.partitions) value (r.values Partitions).0 settings.partitions (r.values Partitions).1

  count_fact : (settings : Settings) (others : List Word) (r : Reaches state (Joint Partitions value) settings others)
      → IsTrue (takes_run state.verb) × IsPartitionCount (count_only settings others r).number × IsFalse settings.plain
  count_fact settings others r =
      at_some (λ (n : ℕ). IsTrue (takes_run state.verb) × IsPartitionCount n × IsFalse settings.plain) settings.partitions
      (count_only settings others r).number (count_only settings others r).is r.takes.partitions

  pub count_not_taken : takes_run state.verb ≡ false → Bars state (Joint Partitions value)
  count_not_taken never settings others r = true_or_false (takes_run state.verb) (count_fact settings others r).0 never

  pub count_given : (n : ℕ) → state.settings.partitions ≡ Some n → Bars state (Joint Partitions value)
  count_given n is settings others r =
      let only = count_only settings others r in
      let e : number_in (Some n) ≡ [] = ap number_in (sym is) ∙ only.none in cc

  pub count_after_plain : state.settings.plain ≡ true → Bars state (Joint Partitions value)
  count_after_plain is settings others r =
      true_or_false settings.plain (raised_stays Plain state.settings.plain settings.plain (r.flags Plain).0 (r.flags Plain).1 is)
      (count_fact settings others r).2

  pub no_count : ((n : ℕ) → IsNumber 1 64 value n → ⊥) → Bars state (Joint Partitions value)
  no_count never settings others r =
      let only = count_only settings others r in
      let fact = count_fact settings others r in
      never only.number (record { bytes = only.bytes; least = fact.1.least; most = fact.1.most })

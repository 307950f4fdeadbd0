-- Which flags and other words may not follow, and the tests of both.
use Rattle.std.proofs.Common.{◌≡◌, ◌⊎◌, ℕ, Bool, true, false, List, [], ◌∷◌, ◌++◌, length, Option, Some, None, refl, sym, ap, ◌∙◌, subst, arith, append_assoc, append-nil, length-append, ⊎_elim}
use Rattle.std.specs.Prelude.{IsTrue, IsFalse, IfNone, IfSome, codes, decimal, unwrap_or, not, ◌&&◌, is_none}
use Rattle.std.proofs.lemmas.Bool.{and_cases}
use Rattle.mx_base.specs.AppName.{IsAppName, is_app_name}
use Rattle.mx_base.specs.BuildName.{HasBuildName, host}
use Rattle.reading.specs.Field.{FitInTurn}
use Rattle.reading.proofs.Repeats.{fit_one_more}
use Rattle.mix_words.specs.declared.option.Valued.{Valued}
use Rattle.mix_words.specs.declared.option.Valued.TheVariants.{Env, Target, Partitions}
use Rattle.mix_words.specs.declared.option.Flag.{Flag}
use Rattle.mix_words.specs.declared.option.Flag.TheVariants.{Plain, Trace}
use Rattle.mix_words.specs.declared.settings.Settings.{Settings}
use Rattle.mix_words.specs.declared.verb.Verb.{Verb}
use Rattle.mix_words.specs.Choice.{HasBuild, IsApp, Takes, dev, env_of, flag_if, given_in, is_among, number_in, raised_in, target_of, word_in}
use Rattle.mix_words.specs.Live.{Bars, BarsOption, HasEnv, HasTarget, Reaches, State, may_give, may_raise}
use Rattle.mix_words.specs.Numbers.{IsNumber, IsPartitionCount}
use Rattle.mix_words.specs.Piece.{Piece, Joint, Raised, Other, Word, flag_in, if_given, if_raised, other_in, value_in}
use Rattle.mix_words.proofs.ChoiceLemmas.{dev_for_host, dev_name, host_name, shortest, shortest_name}
use Rattle.mix_words.specs.Table.{takes_apps, takes_build, takes_run, takes_valued}
use Rattle.mix_words.proofs.LiveLemmas.{OnlyFlag, at_some, count_after_plain, count_given, count_not_taken, env_given, env_not_taken, number_stays, only_flag, raised_stays, target_given, target_not_taken, true_or_false}

-- ---- `--plain` and `--trace`

module _ (state : State) where
  plain_only : (settings : Settings) (others : List Word) → Reaches state (Raised Plain) settings others
      → OnlyFlag (flag_if Plain state.settings.plain) settings.plain
  plain_only settings others r = only_flag Plain (flag_if Plain state.settings.plain) Plain (r.flags Plain).0 settings.plain (r.flags Plain).1

  trace_only : (settings : Settings) (others : List Word) → Reaches state (Raised Trace) settings others
      → OnlyFlag (flag_if Trace state.settings.trace) settings.trace
  trace_only settings others r = only_flag Trace (flag_if Trace state.settings.trace) Trace (r.flags Trace).0 settings.trace (r.flags Trace).1

  plain_not_taken : takes_run state.verb ≡ false → Bars state (Raised Plain)
  plain_not_taken never settings others r = true_or_false (takes_run state.verb) (r.takes.plain (plain_only settings others r).is) never

  plain_raised : state.settings.plain ≡ true → Bars state (Raised Plain)
  plain_raised is settings others r =
      let e : flag_if Plain true ≡ [] = ap (flag_if Plain) (sym is) ∙ (plain_only settings others r).none in cc

  plain_after_trace : state.settings.trace ≡ true → Bars state (Raised Plain)
  plain_after_trace is settings others r =
      let traced = raised_stays Trace state.settings.trace settings.trace (r.flags Trace).0 (r.flags Trace).1 is in
      true_or_false settings.plain (plain_only settings others r).is (r.takes.trace traced).1

  plain_after_count : (n : ℕ) → state.settings.partitions ≡ Some n → Bars state (Raised Plain)
  plain_after_count n is settings others r =
      let still = number_stays state.settings.partitions settings.partitions (r.values Partitions).0 n (r.values Partitions).1 is in
      let fact = at_some (λ (n : ℕ). IsTrue
      (takes_run state.verb) × IsPartitionCount n × IsFalse settings.plain) settings.partitions still.0 still.1 r.takes.partitions in
      true_or_false settings.plain (plain_only settings others r).is fact.2

  trace_not_taken : takes_run state.verb ≡ false → Bars state (Raised Trace)
  trace_not_taken never settings others r = true_or_false (takes_run state.verb) (r.takes.trace (trace_only settings others r).is).0 never

  trace_raised : state.settings.trace ≡ true → Bars state (Raised Trace)
  trace_raised is settings others r =
      let e : flag_if Trace true ≡ [] = ap (flag_if Trace) (sym is) ∙ (trace_only settings others r).none in cc

  trace_after_plain : state.settings.plain ≡ true → Bars state (Raised Trace)
  trace_after_plain is settings others r =
      true_or_false settings.plain (raised_stays Plain state.settings.plain settings.plain (r.flags Plain).0 (r.flags Plain).1 is)
      (r.takes.trace (trace_only settings others r).is).1

-- ---- the tests

some_at : {X : Type 0} (o : Option X) → is_none o ≡ false → (x : X) × (o ≡ Some x)
some_at None e = cc
some_at (Some x) e = (x, refl)

raised_at : (b : Bool) → not b ≡ false → b ≡ true
raised_at true e = refl
raised_at false e = cc

pub may_not_give : (state : State) (option : Valued) → may_give state option ≡ false → BarsOption state option
may_not_give state Env e value =
    ⊎_elim (λ h. env_not_taken state value h)
    (λ h. let given = some_at state.settings.env h in env_given state value given.0 given.1) (and_cases (takes_build state.verb) (is_none state.settings.env) e)
may_not_give state Target e value =
    ⊎_elim (λ h. target_not_taken state value h)
    (λ h. let given = some_at state.settings.target h in target_given state value given.0 given.1) (and_cases (takes_build state.verb)
    (is_none state.settings.target) e)
may_not_give state Partitions e value =
    let s = state.settings in
    ⊎_elim (λ h. count_not_taken state value h)
    (λ h. ⊎_elim (λ k. let given = some_at s.partitions k in count_given state value given.0 given.1)
    (λ k. count_after_plain state value (raised_at s.plain k)) (and_cases (is_none s.partitions) (not s.plain) h))
    (and_cases (takes_run state.verb) (is_none s.partitions && not s.plain) e)

pub may_not_raise : (state : State) (flag : Flag) → may_raise state flag ≡ false → Bars state (Raised flag)
may_not_raise state Plain e =
    let s = state.settings in
    ⊎_elim (λ h. plain_not_taken state h)
    (λ h. ⊎_elim (λ k. plain_raised state (raised_at s.plain k))
    (λ k. ⊎_elim (λ t. plain_after_trace state (raised_at s.trace t))
    (λ t. let given = some_at s.partitions t in plain_after_count state given.0 given.1)
    (and_cases (not s.trace) (is_none s.partitions) k))
    (and_cases (not s.plain) (not s.trace && is_none s.partitions) h))
    (and_cases (takes_run state.verb) (not s.plain && (not s.trace && is_none s.partitions)) e)
may_not_raise state Trace e =
    let s = state.settings in
    ⊎_elim (λ h. trace_not_taken state h)
    (λ h. ⊎_elim (λ k. trace_after_plain state (raised_at s.plain k)) (λ k. trace_raised state (raised_at s.trace k)) (and_cases (not s.plain) (not s.trace) h))
    (and_cases (takes_run state.verb) (not s.plain && not s.trace) e)

-- ---- other words

fits_at_end : (verb : Verb) (before done : List Word) (word : Word) (more : List Word) → FitInTurn (IsApp verb) before (done ++ (word ∷ more))
    → IsApp verb (before ++ done) word
fits_at_end verb before [] word more fits = subst (λ (b : List Word). IsApp verb b word) (sym (append-nil before)) fits.0
fits_at_end verb before (x ∷ xs) word more fits =
    subst (λ (b : List Word). IsApp verb b word) (append_assoc before (x ∷ []) xs) (fits_at_end verb (before ++ x ∷ []) xs word more fits.1)

module _ (state : State) (word : Word) where
  pub app_fact : (settings : Settings) (others : List Word) → Reaches state (Other word) settings others → IsApp state.verb state.others word
  app_fact settings others r =
      fits_at_end state.verb [] state.others word r.more (subst (FitInTurn (IsApp state.verb) []) (sym r.whole) r.takes.apps)

  pub app_barred : (IsApp state.verb state.others word → ⊥) → Bars state (Other word)
  app_barred never settings others r = never (app_fact settings others r)

-- no name was found
pub none_named : (P : Type 0) (o : Option Word) → IfNone o (P → ⊥) → o ≡ None → P → ⊥
none_named P None h e p = h p
none_named P (Some x) h e p = cc

pub at_none : {X : Type 0} (P : Type 0) (o : Option X) → IfNone o P → o ≡ None → P
at_none P None h e = h
at_none P (Some x) h e = cc

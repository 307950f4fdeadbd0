-- What a piece that may stand next leads to.
use Rattle.std.proofs.Common.{◌≡◌, ℕ, Bool, true, false, List, [], ◌∷◌, ◌++◌, Option, Some, None, refl, sym, ap, ◌∙◌, subst, append-nil}
use Rattle.std.specs.Prelude.{IsTrue, IsFalse, IfSome, decimal, not, ◌&&◌, is_none}
use Rattle.std.proofs.lemmas.Bool.{and_parts}
use Rattle.mx_base.specs.AppName.{IsAppName}
use Rattle.mx_base.specs.BuildName.{HasBuildName}
use Rattle.reading.specs.Field.{FitInTurn}
use Rattle.reading.proofs.Repeats.{fit_one_more}
use Rattle.mix_words.specs.declared.option.Valued.{Valued}
use Rattle.mix_words.specs.declared.option.Valued.TheVariants.{Env, Target, Partitions}
use Rattle.mix_words.specs.declared.option.Flag.{Flag}
use Rattle.mix_words.specs.declared.option.Flag.TheVariants.{Plain, Trace}
use Rattle.mix_words.specs.declared.settings.Settings.{Settings}
use Rattle.mix_words.specs.Choice.{IsApp, Takes, flag_if, given_in, number_in, raised_in, word_in}
use Rattle.mix_words.specs.Live.{Adds, Goes, HasEnv, HasTarget, Lives, MayGive, State, may_give, may_raise, raise}
use Rattle.mix_words.specs.Numbers.{IsPartitionCount}
use Rattle.mix_words.specs.Piece.{Joint, Other, Piece, Raised, Word, flag_in, other_in, value_in}
use Rattle.mix_words.specs.Table.{takes_build, takes_run}

-- ---- the settings with one more

abbrev pub set_env : Settings → Word → Settings
set_env s v = record s { env = Some v }

abbrev pub set_target : Settings → Word → Settings
set_target s v = record s { target = Some v }

abbrev pub set_count : Settings → ℕ → Settings
set_count s n = record s { partitions = Some n }

abbrev pub set_plain : Settings → Settings
set_plain s = record s { plain = true }

abbrev pub set_trace : Settings → Settings
set_trace s = record s { trace = true }

abbrev pub with_settings : State → Settings → State
with_settings state s = record { verb = state.verb; settings = s; others = state.others }

one_more : {X : Type 0} (before : List X) (value : X) → before ≡ [] → value ∷ [] ≡ before ++ (value ∷ [])
one_more before value free = sym (ap (λ t. t ++ (value ∷ [])) free)

same_flags : (s : Settings) (flag : Flag) → raised_in s flag ≡ raised_in s flag ++ []
same_flags s flag = sym (append-nil (raised_in s flag))

-- ---- `--env`

env_values : (s : Settings) (v : Word) → word_in s.env ≡ [] → (option : Valued)
    → given_in (set_env s v) option ≡ given_in s option ++ value_in option (Joint Env v)
env_values s v free Env = one_more (word_in s.env) v free
env_values s v free Target = sym (append-nil (word_in s.target))
env_values s v free Partitions = sym (append-nil (number_in s.partitions))

env_flags : (s : Settings) (v : Word) (flag : Flag) → raised_in (set_env s v) flag ≡ raised_in s flag ++ []
env_flags s v Plain = same_flags s Plain
env_flags s v Trace = same_flags s Trace

turn_target : (v : Word) → IsAppName v → (o : Option Word) → HasTarget v o → IfSome o (λ t. HasEnv (Some v) t)
turn_target v name None has = tt
turn_target v name (Some t) has = (v, refl, name, subst (HasBuildName v) (sym has.1) has.3)

pub goes_env : (state : State) (v : Word) → Lives state → MayGive state Env → IsAppName v → HasTarget v state.settings.target
    → Goes state (Joint Env v) (with_settings state (set_env state.settings v))
goes_env state v lives may name has = record {
  adds = record {
    verb = refl;
    values = env_values state.settings v may.free;
    flags = env_flags state.settings v;
    others = sym (append-nil state.others);
  };
  lives = record {
    takes = record {
      env = (may.taken, name);
      target = lives.takes.target;
      partitions = lives.takes.partitions;
      plain = lives.takes.plain;
      trace = lives.takes.trace;
      apps = lives.takes.apps;
    };
    env = has;
    target = turn_target v name state.settings.target has;
  };
}

-- ---- `--target`

target_values : (s : Settings) (v : Word) → word_in s.target ≡ [] → (option : Valued)
    → given_in (set_target s v) option ≡ given_in s option ++ value_in option (Joint Target v)
target_values s v free Env = sym (append-nil (word_in s.env))
target_values s v free Target = one_more (word_in s.target) v free
target_values s v free Partitions = sym (append-nil (number_in s.partitions))

target_flags : (s : Settings) (v : Word) (flag : Flag) → raised_in (set_target s v) flag ≡ raised_in s flag ++ []
target_flags s v Plain = same_flags s Plain
target_flags s v Trace = same_flags s Trace

turn_env : (v : Word) → IsAppName v → (o : Option Word) → HasEnv o v → IfSome o (λ e. HasTarget e (Some v))
turn_env v name None has = tt
turn_env v name (Some e) has = (v, refl, name, subst (λ (x : Word). HasBuildName x v) (sym has.1) has.3)

pub goes_target : (state : State) (v : Word) → Lives state → MayGive state Target → IsAppName v → HasEnv state.settings.env v
    → Goes state (Joint Target v) (with_settings state (set_target state.settings v))
goes_target state v lives may name has = record {
  adds = record {
    verb = refl;
    values = target_values state.settings v may.free;
    flags = target_flags state.settings v;
    others = sym (append-nil state.others);
  };
  lives = record {
    takes = record {
      env = lives.takes.env;
      target = (may.taken, name);
      partitions = lives.takes.partitions;
      plain = lives.takes.plain;
      trace = lives.takes.trace;
      apps = lives.takes.apps;
    };
    env = turn_env v name state.settings.env has;
    target = has;
  };
}

-- ---- `--partitions`

count_values : (s : Settings) (n : ℕ) → number_in s.partitions ≡ [] → (option : Valued)
    → given_in (set_count s n) option ≡ given_in s option ++ value_in option (Joint Partitions (decimal n))
count_values s n free Env = sym (append-nil (word_in s.env))
count_values s n free Target = sym (append-nil (word_in s.target))
count_values s n free Partitions = one_more (number_in s.partitions) (decimal n) free

count_flags : (s : Settings) (n : ℕ) (flag : Flag) → raised_in (set_count s n) flag ≡ raised_in s flag ++ []
count_flags s n Plain = same_flags s Plain
count_flags s n Trace = same_flags s Trace

pub goes_count : (state : State) (n : ℕ) → Lives state → MayGive state Partitions → IsPartitionCount n
    → Goes state (Joint Partitions (decimal n)) (with_settings state (set_count state.settings n))
goes_count state n lives may count = record {
  adds = record {
    verb = refl;
    values = count_values state.settings n may.free;
    flags = count_flags state.settings n;
    others = sym (append-nil state.others);
  };
  lives = record {
    takes = record {
      env = lives.takes.env;
      target = lives.takes.target;
      partitions = (may.taken, count, may.apart refl);
      plain = lives.takes.plain;
      trace = lives.takes.trace;
      apps = lives.takes.apps;
    };
    env = lives.env;
    target = lives.target;
  };
}

-- ---- `--plain` and `--trace`

raised_one : (flag : Flag) (b : Bool) → b ≡ false → flag ∷ [] ≡ flag_if flag b ++ (flag ∷ [])
raised_one flag b e = one_more (flag_if flag b) flag (ap (flag_if flag) e)

plain_flags : (s : Settings) → s.plain ≡ false → (flag : Flag) → raised_in (set_plain s) flag ≡ raised_in s flag ++ flag_in flag (Raised Plain)
plain_flags s e Plain = raised_one Plain s.plain e
plain_flags s e Trace = same_flags s Trace

trace_flags : (s : Settings) → s.trace ≡ false → (flag : Flag) → raised_in (set_trace s) flag ≡ raised_in s flag ++ flag_in flag (Raised Trace)
trace_flags s e Plain = same_flags s Plain
trace_flags s e Trace = raised_one Trace s.trace e

plain_values : (s : Settings) (option : Valued) → given_in (set_plain s) option ≡ given_in s option ++ []
plain_values s Env = sym (append-nil (word_in s.env))
plain_values s Target = sym (append-nil (word_in s.target))
plain_values s Partitions = sym (append-nil (number_in s.partitions))

trace_values : (s : Settings) (option : Valued) → given_in (set_trace s) option ≡ given_in s option ++ []
trace_values s Env = sym (append-nil (word_in s.env))
trace_values s Target = sym (append-nil (word_in s.target))
trace_values s Partitions = sym (append-nil (number_in s.partitions))

nothing_at : {X : Type 0} (P : X → Type 0) (o : Option X) → o ≡ None → IfSome o P
nothing_at P None e = tt
nothing_at P (Some x) e = cc

true_not_false : (b : Bool) → b ≡ true → b ≡ false → ⊥
true_not_false b t f = let e : true ≡ false = sym t ∙ f in cc

pub goes_plain : (state : State) → Lives state → IsTrue (takes_run state.verb) → state.settings.plain ≡ false → state.settings.trace ≡ false
    → state.settings.partitions ≡ None
    → Goes state (Raised Plain) (with_settings state (set_plain state.settings))
goes_plain state lives taken plain trace count = record {
  adds = record {
    verb = refl;
    values = plain_values state.settings;
    flags = plain_flags state.settings plain;
    others = sym (append-nil state.others);
  };
  lives = record {
    takes = record {
      env = lives.takes.env;
      target = lives.takes.target;
      partitions = nothing_at _ state.settings.partitions count;
      plain = λ _. taken;
      trace = λ h. absurd (true_not_false state.settings.trace h trace);
      apps = lives.takes.apps;
    };
    env = lives.env;
    target = lives.target;
  };
}

pub goes_trace : (state : State) → Lives state → IsTrue (takes_run state.verb) → state.settings.plain ≡ false → state.settings.trace ≡ false
    → Goes state (Raised Trace) (with_settings state (set_trace state.settings))
goes_trace state lives taken plain trace = record {
  adds = record {
    verb = refl;
    values = trace_values state.settings;
    flags = trace_flags state.settings trace;
    others = sym (append-nil state.others);
  };
  lives = record {
    takes = record {
      env = lives.takes.env;
      target = lives.takes.target;
      partitions = lives.takes.partitions;
      plain = lives.takes.plain;
      trace = λ _. (taken, plain);
      apps = lives.takes.apps;
    };
    env = lives.env;
    target = lives.target;
  };
}

unset_at : {X : Type 0} (o : Option X) → is_none o ≡ true → o ≡ None
unset_at None e = refl
unset_at (Some x) e = cc

lowered : (b : Bool) → not b ≡ true → b ≡ false
lowered true e = cc
lowered false e = refl

pub goes_flag : (state : State) (flag : Flag) → Lives state → may_raise state flag ≡ true
    → Goes state (Raised flag) (with_settings state (raise state.settings flag))
goes_flag state Plain lives may =
    let s = state.settings in
    let one = and_parts (takes_run state.verb) (not s.plain && (not s.trace && is_none s.partitions)) may in
    let two = and_parts (not s.plain) (not s.trace && is_none s.partitions) one.1 in
    let three = and_parts (not s.trace) (is_none s.partitions) two.1 in
    goes_plain state lives one.0 (lowered s.plain two.0) (lowered s.trace three.0) (unset_at s.partitions three.1)
goes_flag state Trace lives may =
    let s = state.settings in
    let one = and_parts (takes_run state.verb) (not s.plain && not s.trace) may in
    let two = and_parts (not s.plain) (not s.trace) one.1 in
    goes_trace state lives one.0 (lowered s.plain two.0) (lowered s.trace two.1)

empty_word : (o : Option Word) → is_none o ≡ true → word_in o ≡ []
empty_word o e = ap word_in (unset_at o e)

pub may_give_so : (state : State) (option : Valued) → may_give state option ≡ true → MayGive state option
may_give_so state Env e =
    let one = and_parts (takes_build state.verb) (is_none state.settings.env) e in
    record { taken = one.0; free = empty_word state.settings.env one.1; apart = λ (q : Env ≡ Partitions). cc }
may_give_so state Target e =
    let one = and_parts (takes_build state.verb) (is_none state.settings.target) e in
    record { taken = one.0; free = empty_word state.settings.target one.1; apart = λ (q : Target ≡ Partitions). cc }
may_give_so state Partitions e =
    let s = state.settings in
    let one = and_parts (takes_run state.verb) (is_none s.partitions && not s.plain) e in
    let two = and_parts (is_none s.partitions) (not s.plain) one.1 in
    record { taken = one.0; free = ap number_in (unset_at s.partitions two.0); apart = λ q. lowered s.plain two.1 }

-- ---- other words

same_values : (s : Settings) (option : Valued) → given_in s option ≡ given_in s option ++ []
same_values s option = sym (append-nil (given_in s option))

pub goes_app : (state : State) (word : Word) → Lives state → IsApp state.verb state.others word
    → Goes state (Other word) (record { verb = state.verb; settings = state.settings; others = state.others ++ word ∷ [] })
goes_app state word lives fits = record {
  adds = record {
    verb = refl;
    values = same_values state.settings;
    flags = same_flags state.settings;
    others = refl;
  };
  lives = record {
    takes = record {
      env = lives.takes.env;
      target = lives.takes.target;
      partitions = lives.takes.partitions;
      plain = lives.takes.plain;
      trace = lives.takes.trace;
      apps = fit_one_more (IsApp state.verb) [] state.others word lives.takes.apps fits;
    };
    env = lives.env;
    target = lives.target;
  };
}

pub goes_app_as : (state : State) (word name : Word) (names : List Word) → Lives state → IsApp state.verb state.others word → name ≡ word
    → names ≡ state.others ++ name ∷ []
    → Goes state (Other word) (record { verb = state.verb; settings = state.settings; others = names })
goes_app_as state word name names lives fits same grown =
    subst (λ (ns : List Word). Goes state (Other word) (record { verb = state.verb; settings = state.settings; others = ns }))
    (sym (grown ∙ ap (λ (w : Word). state.others ++ w ∷ []) same)) (goes_app state word lives fits)

-- What lives leads to a command, and where the words end.
use Rattle.std.proofs.Common.{◌≡◌, ℕ, Bool, true, false, List, [], ◌∷◌, ◌++◌, Option, Some, None, refl, sym, ap, ◌∙◌, subst, append-nil, lit≤}
use Rattle.std.specs.Prelude.{IsTrue, IfSome, decimal, unwrap_or}
use Rattle.mx_base.specs.AppName.{IsAppName}
use Rattle.mx_base.specs.BuildName.{HasBuildName, host}
use Rattle.mix_words.specs.declared.command.Command.{Command}
use Rattle.mix_words.specs.declared.command.Command.TheVariants as commands
use Rattle.mix_words.specs.declared.option.Valued.{Valued}
use Rattle.mix_words.specs.declared.option.Valued.TheVariants.{Env, Target, Partitions}
use Rattle.mix_words.specs.declared.option.Flag.{Flag}
use Rattle.mix_words.specs.declared.settings.Settings.{Settings}
use Rattle.mix_words.specs.declared.verb.Verb.{Verb}
use Rattle.mix_words.specs.declared.verb.Verb.TheVariants.{Help, Deps, Stale, Compile, Clean}
use Rattle.mix_words.specs.Choice.{HasBuild, Takes, dev, env_of, given_in, raised_in, target_of, word_in}
use Rattle.mix_words.specs.Live.{Adds, Goes, HasEnv, HasTarget, Leads, Lives, MayGive, State}
use Rattle.mix_words.specs.Meaning.{choice_of, made_of}
use Rattle.mix_words.specs.Numbers.{IsPartitionCount}
use Rattle.mix_words.specs.Piece.{Joint, Piece, Spaced, Stands, Word, flags_of, others_of, valued_word, values_of, words_in, words_of}
use Rattle.mix_words.specs.Table.{takes_build}
use Rattle.mix_words.proofs.ChoiceLemmas.{dev_for_host, dev_name, host_name}
use Rattle.mix_words.proofs.GoesLemmas.{goes_count, goes_env, goes_target, set_count, set_env, set_target, with_settings}
use Rattle.mix_words.proofs.PieceLemmas.{no_piece}
use Rattle.mix_words.proofs.StateLemmas.{adds_back, spaced_adds}

pub makes_some : (verb : Verb) (s : Settings) (apps : List Word) → (c : Command) × (made_of verb s apps ≡ Some c)
makes_some Help s apps = (commands.Help, refl)
makes_some Deps s apps = (commands.Deps (choice_of s), refl)
makes_some Stale s apps = (commands.Stale (choice_of s), refl)
makes_some Compile s apps = (commands.Compile (choice_of s) s.partitions s.plain s.trace, refl)
makes_some Clean s apps = (commands.Clean (choice_of s) apps, refl)

-- ---- where the words end

pub ends_here : (state : State) (command : Command) → Takes state.verb state.settings state.others → HasBuild state.settings
    → made_of state.verb state.settings state.others ≡ Some command → Leads state [] command
ends_here state command takes build makes = record {
  pieces = [];
  settings = state.settings;
  spelled = refl;
  stand = tt;
  values = λ o. append-nil (given_in state.settings o);
  flags = λ f. append-nil (raised_in state.settings f);
  takes = subst (Takes state.verb state.settings) (sym (append-nil state.others)) takes;
  build = build;
  makes = ap (made_of state.verb state.settings) (append-nil state.others) ∙ makes;
}

same_word : (a b : Option Word) → word_in a ++ [] ≡ word_in b → a ≡ b
same_word None None e = refl
same_word None (Some w) e = cc
same_word (Some v) None e = cc
same_word (Some v) (Some w) e = cc

ended : (state : State) (s : Settings) (pieces : List Piece) → [] ≡ words_of pieces
    → ((option : Valued) → given_in state.settings option ++ values_of option pieces ≡ given_in s option) → HasBuild s → HasBuild state.settings
ended state s [] e values build =
    subst (λ (t : Option Word). HasBuildName (env_of state.settings) (unwrap_or t host)) (sym (same_word state.settings.target s.target (values Target)))
    (subst (λ (x : Option Word). HasBuildName (unwrap_or x dev) (target_of s)) (sym (same_word state.settings.env s.env (values Env))) build)
ended state s (p ∷ ps) e values build = absurd (no_piece p (words_of ps) (sym e))

pub build_at_end : (state : State) (command : Command) → Leads state [] command → HasBuild state.settings
build_at_end state command l = ended state l.settings l.pieces l.spelled l.values l.build

-- ---- some words lead on from what lives

abbrev pub LeadsSomewhere : State → Type 0
LeadsSomewhere state = (left : List Word) × ((command : Command) × Leads state left command)

at_its_end : (state : State) → Lives state → HasBuild state.settings → LeadsSomewhere state
at_its_end state lives build =
    let made = makes_some state.verb state.settings state.others in
    ([], (made.0, ends_here state made.0 lives.takes build made.1))

-- with one piece more, which gives both a name
after_piece : (state new : State) (p : Piece) → Stands p → Goes state p new → HasBuild new.settings → LeadsSomewhere state
after_piece state new p stands goes build =
    let end = at_its_end new goes.lives build in
    (words_in p ++ end.0, (end.1.0, adds_back state new p stands goes.adds end.0 end.1.0 end.1.1))

env_chosen : (state : State) (env : Word) → Lives state → state.settings.target ≡ None → state.settings.env ≡ Some env → HasTarget env None
    → LeadsSomewhere state
env_chosen state env lives none is has =
    let taken = subst (λ (o : Option Word). IfSome o (λ e. IsTrue (takes_build state.verb) × IsAppName e)) is lives.takes.env in
    let free : word_in state.settings.target ≡ [] = ap word_in none in
    let may : MayGive state Target = record { taken = taken.0; free = free; apart = λ e. cc } in
    let kept : HasEnv state.settings.env has.0 = subst (λ (o : Option Word). HasEnv o has.0) (sym is) (env, refl, taken.1, has.3) in
    after_piece state _ (Joint Target has.0) tt (goes_target state has.0 lives may has.2 kept)
    (subst (λ (o : Option Word). HasBuildName (unwrap_or o dev) has.0) (sym is) has.3)

target_chosen : (state : State) (target : Word) → Lives state → state.settings.env ≡ None → state.settings.target ≡ Some target → HasEnv None target
    → LeadsSomewhere state
target_chosen state target lives none is has =
    let taken = subst (λ (o : Option Word). IfSome o (λ e. IsTrue (takes_build state.verb) × IsAppName e)) is lives.takes.target in
    let free : word_in state.settings.env ≡ [] = ap word_in none in
    let may : MayGive state Env = record { taken = taken.0; free = free; apart = λ e. cc } in
    let kept : HasTarget has.0 state.settings.target = subst (λ (o : Option Word). HasTarget has.0 o) (sym is) (target, refl, taken.1, has.3) in
    after_piece state _ (Joint Env has.0) tt (goes_env state has.0 lives may has.2 kept)
    (subst (λ (o : Option Word). HasBuildName has.0 (unwrap_or o host)) (sym is) has.3)

by_choice : (state : State) (env target : Option Word) → Lives state → state.settings.env ≡ env → state.settings.target ≡ target → LeadsSomewhere state
by_choice state None None lives e f =
    at_its_end state lives
    (subst (λ (o : Option Word). HasBuildName (env_of state.settings) (unwrap_or o host)) (sym f)
    (subst (λ (o : Option Word). HasBuildName (unwrap_or o dev) host) (sym e) dev_for_host))
by_choice state (Some env) None lives e f =
    env_chosen state env lives f e (subst (HasTarget env) f (subst (λ (o : Option Word). IfSome o (λ x. HasTarget x state.settings.target)) e lives.env))
by_choice state None (Some target) lives e f =
    target_chosen state target lives e f (subst (λ (o : Option Word). HasEnv o target) e (subst (λ (o : Option Word). IfSome o
    (λ x. HasEnv state.settings.env x)) f lives.target))
by_choice state (Some env) (Some target) lives e f =
    let has = subst (HasTarget env) f (subst (λ (o : Option Word). IfSome o (λ x. HasTarget x state.settings.target)) e lives.env) in
    let same : target ≡ has.0 = has.1 in
    at_its_end state lives
    (subst (λ (o : Option Word). HasBuildName (env_of state.settings) (unwrap_or o host)) (sym f)
    (subst (λ (o : Option Word). HasBuildName (unwrap_or o dev) target) (sym e) (subst (HasBuildName env) (sym same) has.3)))

pub lives_leads : (state : State) → Lives state → LeadsSomewhere state
lives_leads state lives = by_choice state state.settings.env state.settings.target lives refl refl

-- ---- and from the word of an option that may stand

after_value : (state new : State) (option : Valued) (value : Word) → Goes state (Joint option value) new
    → (left : List Word) × ((command : Command) × Leads state (valued_word option ∷ left) command)
after_value state new option value goes =
    let on = lives_leads new goes.lives in
    (value ∷ on.0, (on.1.0, adds_back state new (Spaced option value) tt (spaced_adds state new option value goes.adds) on.0 on.1.0 on.1.1))

none_word : (o : Option Word) → word_in o ≡ [] → o ≡ None
none_word None e = refl
none_word (Some w) e = cc

env_waits : (state : State) (target : Option Word) → Lives state → MayGive state Env → state.settings.target ≡ target
    → (value : Word) × IsAppName value × HasTarget value state.settings.target
env_waits state None lives may f = (dev, dev_name, subst (HasTarget dev) (sym f) (host, tt, host_name, dev_for_host))
env_waits state (Some target) lives may f =
    let has = subst (λ (o : Option Word). IfSome o (λ x. HasEnv state.settings.env x)) f lives.target in
    let taken = subst (λ (o : Option Word). IfSome o (λ e. IsTrue (takes_build state.verb) × IsAppName e)) f lives.takes.target in
    (has.0, has.2, subst (HasTarget has.0) (sym f) (target, refl, taken.1, has.3))

target_waits : (state : State) (env : Option Word) → Lives state → MayGive state Target → state.settings.env ≡ env
    → (value : Word) × IsAppName value × HasEnv state.settings.env value
target_waits state None lives may f = (host, host_name, subst (λ (o : Option Word). HasEnv o host) (sym f) (dev, tt, dev_name, dev_for_host))
target_waits state (Some env) lives may f =
    let has = subst (λ (o : Option Word). IfSome o (λ x. HasTarget x state.settings.target)) f lives.env in
    let taken = subst (λ (o : Option Word). IfSome o (λ e. IsTrue (takes_build state.verb) × IsAppName e)) f lives.takes.env in
    (has.0, has.2, subst (λ (o : Option Word). HasEnv o has.0) (sym f) (env, refl, taken.1, has.3))

pub waits_leads : (state : State) (option : Valued) → Lives state → MayGive state option
    → (left : List Word) × ((command : Command) × Leads state (valued_word option ∷ left) command)
waits_leads state Env lives may =
    let some = env_waits state state.settings.target lives may refl in
    after_value state _ Env some.0 (goes_env state some.0 lives may some.1 some.2)
waits_leads state Target lives may =
    let some = target_waits state state.settings.env lives may refl in
    after_value state _ Target some.0 (goes_target state some.0 lives may some.1 some.2)
waits_leads state Partitions lives may =
    after_value state _ Partitions (decimal 1) (goes_count state 1 lives may (record { least = lit≤ tt; most = lit≤ tt }))

-- ---- what a command without options comes to

pub built_here : (state : State) (verb : Verb) (command : Command) → Lives state → state.verb ≡ verb → HasBuild state.settings
    → made_of verb state.settings state.others ≡ Some command → Leads state [] command
built_here state verb command lives e build makes =
    ends_here state command lives.takes build (ap (λ (v : Verb). made_of v state.settings state.others) e ∙ makes)

no_env_taken : (verb : Verb) (o : Option Word) → takes_build verb ≡ false → IfSome o (λ e. IsTrue (takes_build verb) × IsAppName e) → o ≡ None
no_env_taken verb None never h = refl
no_env_taken verb (Some w) never h = let both : true ≡ false = sym h.0 ∙ never in cc

-- neither has an environment nor a target
pub bare_build : (state : State) → Lives state → takes_build state.verb ≡ false → HasBuild state.settings
bare_build state lives never =
    let env = no_env_taken state.verb state.settings.env never lives.takes.env in
    let target = no_env_taken state.verb state.settings.target never lives.takes.target in
    subst (λ (o : Option Word). HasBuildName (env_of state.settings) (unwrap_or o host)) (sym target)
    (subst (λ (o : Option Word). HasBuildName (unwrap_or o dev) host) (sym env) dev_for_host)

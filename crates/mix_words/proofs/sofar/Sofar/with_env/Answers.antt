use Rattle.std.proofs.Common.{◌≡◌, List, Option, ℕ, true, false, subst, sym}
use Rattle.mix_words.specs.Live.{HasEnv, HasTarget}
use Rattle.mix_words.specs.Sofar.{state_of}
use Rattle.mix_words.proofs.BarLemmas.{none_named}
use Rattle.mix_words.proofs.LiveLemmas.{env_no_build, env_no_name}
use Rattle.mix_words.proofs.sofar.Sofar.with_env.Goals as goal

pub returns-in_default : goal.returns-in_default
returns-in_default c = λ is. env_no_name (state_of c.args.self) c.args.value.now
    (none_named _ c.in_ok-env.field-0 c.in_ok-env.ensures.none c.in_default.is)

pub returns-then-not-has_target : goal.returns-then-not-has_target
returns-then-not-has_target c = λ is. env_no_build (state_of c.args.self) c.args.value.now
    (λ has. let never : false ≡ true = c.if-not-has_target.ensures.1 (subst (λ (o : Option (List ℕ)). HasTarget c.args.value.now o) (sym
    c.as_ref.ensures.value) has) in cc)

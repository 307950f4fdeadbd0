use Rattle.std.proofs.Common.{◌≡◌, List, Option, ℕ, true, false, subst, sym}
use Rattle.mix_words.specs.Live.{HasEnv, HasTarget}
use Rattle.mix_words.specs.Sofar.{state_of}
use Rattle.mix_words.proofs.BarLemmas.{none_named}
use Rattle.mix_words.proofs.LiveLemmas.{target_no_build, target_no_name}
use Rattle.mix_words.proofs.sofar.Sofar.with_target.Goals as goal

pub returns-in_default : goal.returns-in_default
returns-in_default c = λ is. target_no_name (state_of c.args.self) c.args.value.now
    (none_named _ c.in_ok-target.field-0 c.in_ok-target.ensures.none c.in_default.is)

pub returns-then-not-has_env : goal.returns-then-not-has_env
returns-then-not-has_env c = λ is. target_no_build (state_of c.args.self) c.args.value.now
    (λ has. let never : false ≡ true = c.if-not-has_env.ensures.1 (subst (λ (o : Option (List ℕ)). HasEnv o c.args.value.now) (sym
    c.as_ref.ensures.value) has) in cc)

use Rattle.std.proofs.Common.{◌≡◌, List, ℕ, Some, refl, sym, ap, ◌∙◌}
use Rattle.std.proofs.lemmas.Result.{err_from_is_err_and}
use Rattle.mix_words.specs.declared.command.Command.TheVariants as commands
use Rattle.mix_words.specs.declared.verb.Verb.TheVariants as verbs
use Rattle.mix_words.specs.Chosen.{Chosen}
use Rattle.mix_words.specs.Sofar.{state_of}
use Rattle.mix_words.proofs.LeadLemmas.{build_at_end, built_here}
use Rattle.mix_words.proofs.reader.built.Goals as goal

pub returns-in_err-build : goal.returns-in_err-build
returns-in_err-build c = let p = err_from_is_err_and c.from_residual.result c.from_residual.ensures.1 in rw (p.1, p.2) (λ is command l.
    c.in_err-build.ensures is (build_at_end (state_of c.args.sofar) command l))

pub returns-in-Deps : goal.returns-in-Deps
returns-in-Deps c =
    built_here (state_of c.args.sofar) verbs.Deps _ c.requires.lives c.in-Deps.is c.in_ok-build.ensures.1 (ap (λ (b : Chosen). Some (commands.Deps b))
    (sym c.in_ok-build.ensures.0))

pub returns-in-Stale : goal.returns-in-Stale
returns-in-Stale c =
    built_here (state_of c.args.sofar) verbs.Stale _ c.requires.lives c.in-Stale.is c.in_ok-build.ensures.1 (ap (λ (b : Chosen). Some
    (commands.Stale b)) (sym c.in_ok-build.ensures.0))

pub returns-in-Compile : goal.returns-in-Compile
returns-in-Compile c =
    built_here (state_of c.args.sofar) verbs.Compile _ c.requires.lives c.in-Compile.is c.in_ok-build.ensures.1
    (ap (λ (b : Chosen). Some (commands.Compile b c.args.sofar.settings.partitions c.args.sofar.settings.plain c.args.sofar.settings.trace)) (sym
    c.in_ok-build.ensures.0))

pub returns-in-Clean : goal.returns-in-Clean
returns-in-Clean c =
    built_here (state_of c.args.sofar) verbs.Clean _ c.requires.lives c.in-Clean.is c.in_ok-build.ensures.1
    (ap (λ (b : Chosen). Some (commands.Clean b c.args.sofar.apps.names)) (sym c.in_ok-build.ensures.0)
    ∙ ap (λ (names : List (List ℕ)). Some (commands.Clean c.in_ok-build.build names)) (sym c.into_names.ensures))

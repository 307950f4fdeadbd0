use Rattle.std.proofs.Common.{refl, sym, ap, ◌∙◌}
use Rattle.mix_words.specs.declared.command.Command.TheVariants as commands
use Rattle.mix_words.specs.declared.verb.Verb.TheVariants as verbs
use Rattle.mix_words.specs.Sofar.{state_of}
use Rattle.mix_words.specs.Table.{takes_build}
use Rattle.mix_words.proofs.LeadLemmas.{bare_build, built_here}
use Rattle.mix_words.proofs.reader.command_of.Goals as goal

pub returns-in-Help : goal.returns-in-Help
returns-in-Help c =
    built_here (state_of c.args.sofar) verbs.Help commands.Help c.requires c.in-Help.is (bare_build (state_of c.args.sofar) c.requires (ap takes_build
    c.in-Help.is)) refl

use Rattle.mix_words.specs.Sofar.{place_of}
use Rattle.mix_words.proofs.RefusedLemmas.{ends_wanting}
use Rattle.mix_words.proofs.reader.Reader.finish.Goals as goal

pub returns-in-Some : goal.returns-in-Some
returns-in-Some c = λ is command l. ends_wanting (place_of c.args.self) _ c.in-Some.is command l

pub returns-in-None : goal.returns-in-None
returns-in-None c = rw c.in-None.is c.command_of.ensures

use Rattle.mix_words.proofs.AmongLemmas.{known_more}
use Rattle.mix_words.proofs.apps.Apps.with.Goals as goal

pub invariant_of-result : goal.invariant_of-result
invariant_of-result c =
    record {
      held = known_more c.args.self.names c.push.new.self c.args.name c.args.self.known c.insert.new.self c.args.word c.requires
          c.in_ok-push.ensures.ok c.in_ok-insert.ensures.updates c.args.self.held;
    }

use Rattle.kept_tree.proofs.RewriteLemmas.{rewriting_honest, rewriting_slot_honest}
use Rattle.kept_tree.proofs.laws.rewriting_is_honest.Goals as goal

pub returns : goal.returns
returns c = record { stops = rewriting_honest; build = rewriting_slot_honest }

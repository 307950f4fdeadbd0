use Rattle.honest_tree.proofs.HonestLemmas.{unmarked_honest, unread_honest}
use Rattle.honest_tree.proofs.laws.unread_is_honest.Goals as goal

pub returns : goal.returns
returns c = record { unmarked = unmarked_honest; unread = unread_honest }

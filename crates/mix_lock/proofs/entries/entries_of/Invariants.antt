use Rattle.std.proofs.Common.{vec_len}
use Rattle.mix_lock.proofs.EntryLemmas.{Continues}
use Rattle.mix_lock.proofs.entries.entries_of.Given as goal

abbrev pub invariant-loop-key : goal.invariant-loop-key
invariant-loop-key l = Continues l.fn.pairs l.rest.items l.entries.items

abbrev pub decreases-loop-key : goal.decreases-loop-key
decreases-loop-key l = vec_len l.rest

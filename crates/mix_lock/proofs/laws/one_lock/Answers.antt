use Rattle.mix_lock.proofs.OneLemmas.{lock_one}
use Rattle.mix_lock.proofs.laws.one_lock.Goals as goal

pub returns : goal.returns
returns c = lock_one (record { terms = c.one_reading.ensures; refusals = c.one_refusal.ensures; apart = c.no_refusal.ensures })

use Rattle.std.proofs.Common.{Ok, ap}
use Rattle.mix_lock.specs.Text.{written}
use Rattle.mix_lock.proofs.BackLemmas.{reads_back}
use Rattle.mix_lock.proofs.OneLemmas.{ok_one}
use Rattle.mix_lock.proofs.laws.writes_back.Goals as goal

pub returns : goal.returns
returns c = λ entries read is readable says.
    ap written (ok_one read entries (c.one_lock.ensures (written entries) (Ok read) (Ok entries) says (reads_back entries is readable)))

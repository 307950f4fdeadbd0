use Rattle.mix_words.proofs.sofar.Sofar.with_value.Goals as goal

pub returns-in-Env : goal.returns-in-Env
returns-in-Env c = rw c.in-Env.is c.with_env.ensures

pub returns-in-Target : goal.returns-in-Target
returns-in-Target c = rw c.in-Target.is c.with_target.ensures

pub returns-in-Partitions : goal.returns-in-Partitions
returns-in-Partitions c = rw c.in-Partitions.is c.with_partitions.ensures

use Rattle.std.proofs.Common.{◌≡◌, []}
use Rattle.tree_store.specs.MemStore.{envs_in, inserted}
use Rattle.tree_store.proofs.mem_store.environments_of.Given as goal

abbrev pub invariant-loop-key : goal.invariant-loop-key
invariant-loop-key l = inserted l.envs.keys (envs_in l.key-iterator) ≡ inserted [] (envs_in l.builds.entries)

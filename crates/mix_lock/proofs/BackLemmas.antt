-- The text of a lock says that lock.
use Rattle.std.proofs.Common.{List, [], ◌∷◌, map, Some, Ok}
use Rattle.std.specs.List.{AllByRecursion}
use Rattle.std.proofs.lemmas.List.Sorted.{IsPermutation-refl}
use Rattle.mix_lock.specs.declared.entry.Entry.{Entry}
use Rattle.mix_lock.specs.declared.entry.Entry.TheVariants.{Hex, Other}
use Rattle.mix_lock.specs.declared.entry.LockDep.{LockDep}
use Rattle.mix_lock.specs.Lock.{AppEntry, IsLockDep, IsLockEntry, IsAppEntry, IsLock}
use Rattle.mix_lock.specs.Says.{AreRead, IsEntry, AreEntries, SaysLock}
use Rattle.mix_lock.specs.Says.IsEntry.{other, hex}
use Rattle.mix_lock.specs.Says.IsPair.{good as good_pair}
use Rattle.mix_lock.specs.Says.AreEntries.{end, more}
use Rattle.mix_lock.specs.Says.TermSays.{good}
use Rattle.mix_lock.specs.Says.SaysLock.{read}
use Rattle.mix_lock.specs.Text.{entry_term, written, pair_of, lock_term, IsReadable}
use Rattle.mix_lock.proofs.PrintLemmas.{written_spells}
use Rattle.mix_lock.proofs.TermLemmas.{app_back, hex_back, hex_tagged}
use Rattle.mix_lock.proofs.ViewLemmas.{map_is}

reads_all : (deps : List LockDep) → AllByRecursion IsLockDep deps → AreRead deps
reads_all [] all = tt
reads_all (d ∷ deps) all = (all.0.requirement, reads_all deps all.1)

entry_back : (entry : Entry) → IsLockEntry entry → IsEntry (entry_term entry) (Some entry)
entry_back (Hex e) is = hex e (hex_tagged e) (hex_back e is) (reads_all e.deps is.deps)
entry_back (Other t) is = other is

entries_back : (entries : List AppEntry) → AllByRecursion IsAppEntry entries → AreEntries (map pair_of entries) (Ok entries)
entries_back [] all = end
entries_back (entry ∷ entries) all = more (good_pair (app_back entry.0 all.0.app) (entry_back entry.1 all.0.entry)) (entries_back entries all.1)

pub reads_back : (entries : List AppEntry) → IsLock entries → IsReadable entries → SaysLock (written entries) (Ok entries)
reads_back entries is readable =
    read (lock_term entries) (written_spells entries is.each readable.kept, readable.within)
    (good (map_is (map pair_of entries)) (entries_back entries is.each) (IsPermutation-refl entries) is.in_order)

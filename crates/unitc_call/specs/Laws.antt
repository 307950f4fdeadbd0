-- What follows from how a call ends.
use Rattle.std.specs.Prelude.{◌≡◌, ◌⊎◌, ℕ, ◌<◌, List, Some, None}
use Rattle.mx_base.specs.Causes.{Rose}
use Rattle.mx_base.specs.Sink.{with_bytes}
use Rattle.kept_tree.specs.Faults.{IsCalm}
use Rattle.unitc_call.specs.declared.words.Task.{Task}
use Rattle.unitc_call.specs.Compile.{IsCompiled, Reply}
use Rattle.unitc_call.specs.Ends.{Ends, World, bad_words}
use Rattle.unitc_call.specs.Words.{task_of}

-- no count of what fails outside rose
pub record NoneRose (old new : World) : Type 0 where
  pub faults : Rose old.store.faults new.store.faults → ⊥
  pub returned : Rose old.store.returned new.store.returned → ⊥
  pub sink : Rose old.sink.faults new.sink.faults → ⊥

-- memory ran out: nothing is said, and no count of the store's moved
pub record NoMemory (old new : World) (status : ℕ) : Type 0 where
  pub ended : status ≡ 8
  pub sink : new.sink ≡ old.sink
  pub calm : IsCalm old.store new.store

-- this is what the call came to
pub record Told (reply : Reply) (old new : World) (status : ℕ) : Type 0 where
  pub ended : status ≡ reply.status
  pub text : new.sink.taken ≡ with_bytes old.sink.taken reply.text

-- where words ask for a task and nothing fails outside, it is compiled, unless memory runs out
abbrev pub TasksAreCompiled : Type 0
TasksAreCompiled = (words : List (List ℕ)) (task : Task) (old new : World) (status : ℕ) → Ends words old new status → task_of words ≡ Some task → NoneRose old new →
    ((reply : Reply) × IsCompiled task old.store new.store reply × Told reply old new status) ⊎ NoMemory old new status

-- words of another form change nothing, and where nothing fails outside the call says so, unless memory runs out
abbrev pub OtherWordsAreRefused : Type 0
OtherWordsAreRefused = (words : List (List ℕ)) (old new : World) (status : ℕ) → Ends words old new status → task_of words ≡ None →
    (new.store ≡ old.store) × (NoneRose old new → Told bad_words old new status ⊎ NoMemory old new status)

-- 2 is the status of words of another form alone
abbrev pub TwoIsOfOtherWords : Type 0
TwoIsOfOtherWords = (words : List (List ℕ)) (old new : World) → Ends words old new 2 → task_of words ≡ None

-- 10 is the status exactly where the sink failed: where it is, the count rose or stands at its last value
pub record IsOfSink (old new : World) (status : ℕ) : Type 0 where
  pub rose : status ≡ 10 → Rose old.sink.faults new.sink.faults
  pub told : old.sink.faults < new.sink.faults → status ≡ 10

abbrev pub TenIsOfTheSink : Type 0
TenIsOfTheSink = (words : List (List ℕ)) (old new : World) (status : ℕ) → Ends words old new status → IsOfSink old new status

-- How a call ends.
use Rattle.std.specs.Prelude.{◌≡◌, ◌⊎◌, ℕ, List, [], ◌∷◌, take, Option, Some, None, codes}
use Rattle.mx_base.specs.Causes.{Rose}
use Rattle.mx_base.specs.Sink.{Sunk, with_bytes}
use Rattle.kept_tree.specs.declared.fault.KeptFault.{KeptFault}
use Rattle.kept_tree.specs.declared.fault.KeptFault.TheVariants.{Read, Tree, OutOfMemory}
use Rattle.kept_tree.specs.Faults.{IsCalm}
use Rattle.tree_store.specs.Known.{Known}
use Rattle.unitc_call.specs.declared.words.Task.{Task}
use Rattle.unitc_call.specs.Compile.{ChangesOnly, IsCompiled, Reply}
use Rattle.unitc_call.specs.Reading.{own_build}
use Rattle.unitc_call.specs.Words.{task_of}

-- the store and the sink
pub record World : Type 0 where
  pub store : Known
  pub sink : Sunk

abbrev pub world_of : Known → Sunk → World
world_of store sink = record { store = store; sink = sink }

-- the statuses that a call may end with
abbrev pub statuses : List ℕ
statuses = 0 ∷ 1 ∷ 2 ∷ 5 ∷ 6 ∷ 8 ∷ 10 ∷ []

-- words of another form
abbrev pub bad_words : Reply
bad_words = record { status = 2; text = codes "unitc: bad words\n" }

-- how a call ends that stops
abbrev pub status_of : KeptFault → ℕ
status_of Read = 5
status_of Tree = 6
status_of OutOfMemory = 8

-- what was counted where a call stops: a read that failed is the store's or a folder's, a write that failed a folder's
abbrev pub Stops : KeptFault → Known → Known → Type 0
Stops Read old new = Rose old.faults new.faults ⊎ Rose old.returned new.returned
Stops Tree old new = Rose old.returned new.returned
Stops OutOfMemory old new = IsCalm old new

-- what words come to that are heard out: they have another form, and nothing changed; or their task is compiled
pub data Comes (words : List (List ℕ)) (old new : Known) (reply : Reply) : Type 0 where
  misread : task_of words ≡ None → new ≡ old → reply ≡ bad_words → Comes words old new reply
  compiled : (task : Task) → task_of words ≡ Some task → IsCompiled task old new reply → Comes words old new reply

-- why they aren't: memory ran out before they were read, or a step of their task stopped
pub data Breaks (words : List (List ℕ)) (old new : Known) (fault : KeptFault) : Type 0 where
  unread : fault ≡ OutOfMemory → new ≡ old → Breaks words old new fault
  stopped : (task : Task) → task_of words ≡ Some task → Stops fault old new → Breaks words old new fault

-- the sink took the text, and the status stands; or it failed, and took a part of the text
pub data Says (reply : Reply) (old new : Sunk) (status : ℕ) : Type 0 where
  said : new.taken ≡ with_bytes old.taken reply.text → new.faults ≡ old.faults → status ≡ reply.status → Says reply old new status
  cut : (part : ℕ) → new.taken ≡ with_bytes old.taken (take part reply.text) → Rose old.faults new.faults → status ≡ 10 → Says reply old new status

-- the ways in which a call ends: what the words come to is said; or nothing is
pub data Ends (words : List (List ℕ)) (old new : World) (status : ℕ) : Type 0 where
  heard : (reply : Reply) → Comes words old.store new.store reply → Says reply old.sink new.sink status → Ends words old new status
  broken : (fault : KeptFault) → Breaks words old.store new.store fault → new.sink ≡ old.sink → status ≡ status_of fault → Ends words old new status

-- what may stand in the builds after any status: only that of the task's app changes
abbrev pub StandsFor : Option Task → Known → Known → Type 0
StandsFor None old new = new.slot ≡ old.slot
StandsFor (Some task) old new = ChangesOnly (own_build task) old.slot new.slot

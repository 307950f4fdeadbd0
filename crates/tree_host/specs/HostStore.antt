-- What a store over the file system has at a build.
use Rattle.std.specs.Prelude.{Bool, true, false, None}
use Rattle.tree_store.specs.Slot.{Slot}
use Rattle.tree_store.specs.Slot.Slot.{Here, Out}

-- the files aren't told
abbrev pub slot_of : (is_out : Bool) → Slot
slot_of true = Out
slot_of false = Here None

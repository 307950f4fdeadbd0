-- Marks that are written again in the second form.
use Rattle.std.specs.Prelude.{◌≡◌, ◌⊎◌, ℕ, List, Option, Some, None, Result, Ok, Err}
use Rattle.mx_base.specs.Causes.{Rose}
use Rattle.build_manifest.specs.declared.mark.MarkFormat.TheVariants.{One}
use Rattle.build_manifest.specs.Mark.{MarkView}
use Rattle.build_manifest.specs.MarkOf.{upgraded}
use Rattle.build_manifest.specs.Text.{Spells}
use Rattle.tree_store.specs.declared.holding.Holding.{Holding}
use Rattle.tree_store.specs.Holding.{marked, unmarked}
use Rattle.tree_store.specs.Known.{Known}
use Rattle.tree_store.specs.Moment.{Part, leaves}
use Rattle.tree_store.specs.Moment.Write.{Mark}
use Rattle.tree_store.specs.Slot.{Slot}
use Rattle.tree_store.specs.Slot.Slot.{Here, Out}
use Rattle.kept_tree.specs.declared.fault.KeptFault.{KeptFault}
use Rattle.kept_tree.specs.declared.fault.KeptFault.TheVariants.{Read, Tree, OutOfMemory}
use Rattle.kept_tree.specs.Faults.{IsCalm}

-- the mark that is held reads and is in the first form, and the text is that of the same mark in the second
pub record IsRenewal (held : Holding) (text : List ℕ) : Type 0 where
  pub bytes : List ℕ
  pub mark : MarkView
  pub stands : held.mark ≡ Some bytes
  pub read : Spells bytes mark
  pub older : mark.format ≡ One
  pub newer : Spells text (upgraded mark)

-- no mark that reads is in the first form
abbrev pub IsNew : Holding → Type 0
IsNew held = (bytes : List ℕ) (mark : MarkView) → held.mark ≡ Some bytes → Spells bytes mark → mark.format ≡ One → ⊥

-- the text that is to stand in place of the mark, or none where that is new
abbrev pub IsTextIn : Holding → Option (List ℕ) → Type 0
IsTextIn held (Some text) = IsRenewal held text
IsTextIn held None = IsNew held

-- the same of a mark
abbrev pub IsTextFor : MarkView → Option (List ℕ) → Type 0
IsTextFor mark (Some text) = (mark.format ≡ One) × Spells text (upgraded mark)
IsTextFor mark None = mark.format ≡ One → ⊥

-- what is held while another text is put in place of the mark
abbrev pub IsReplacing : List ℕ → Holding → Holding → Type 0
IsReplacing text held image = (image ≡ held) ⊎ ((part : Part) × (image ≡ leaves (Mark text) part (unmarked held)))

abbrev pub IsReplacingIn : List ℕ → Option Holding → Holding → Type 0
IsReplacingIn text None image = Unit {0}
IsReplacingIn text (Some held) image = IsReplacing text held image

-- what is held while its mark is written again: all as it was, or the files with no mark or a part of the new one
abbrev pub IsRewriting : Holding → Holding → Type 0
IsRewriting held image = (image ≡ held) ⊎ ((text : List ℕ) × IsRenewal held text × IsReplacing text held image)

abbrev pub IsRewritingIn : Option Holding → Holding → Type 0
IsRewritingIn None image = Unit {0}
IsRewritingIn (Some held) image = IsRewriting held image

-- the mark was written again, or was new
abbrev pub IsRewritten : Holding → Holding → Type 0
IsRewritten held new = (IsNew held × (new ≡ held)) ⊎ ((text : List ℕ) × IsRenewal held text × (new ≡ marked text held))

abbrev pub IsRewrittenIn : Option Holding → Option Holding → Type 0
IsRewrittenIn (Some held) (Some new) = IsRewritten held new
IsRewrittenIn (Some held) None = ⊥
IsRewrittenIn None new = new ≡ None

-- the same of a build
abbrev pub IsRewritingAt : Slot → Slot → Type 0
IsRewritingAt (Here (Some held)) (Here (Some image)) = IsRewriting held image
IsRewritingAt (Here (Some held)) (Here None) = ⊥
IsRewritingAt (Here (Some held)) Out = ⊥
IsRewritingAt (Here None) new = new ≡ Here None
IsRewritingAt Out new = new ≡ Out

abbrev pub IsRewrittenAt : Slot → Slot → Type 0
IsRewrittenAt (Here told) (Here now) = IsRewrittenIn told now
IsRewrittenAt (Here told) Out = ⊥
IsRewrittenAt Out new = new ≡ Out

-- a mark was read and written: either count rose where reading failed, and that of folders with a fault where writing did
abbrev pub CountsRewriting : {X : Type 0} → Result X KeptFault → Known → Known → Type 0
CountsRewriting (Ok x) old new = IsCalm old new
CountsRewriting (Err Read) old new =
    (Rose old.faults new.faults × (new.returned ≡ old.returned)) ⊎ ((new.faults ≡ old.faults) × Rose old.returned new.returned)
CountsRewriting (Err Tree) old new = (new.faults ≡ old.faults) × Rose old.returned new.returned
CountsRewriting (Err OutOfMemory) old new = IsCalm old new

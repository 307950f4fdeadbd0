-- Files that are put into the build of an app, which is empty.
use Rattle.std.proofs.Common.{◌≡◌, Bool, cond, Option, Some, None, IfSome, List, option_map, refl, sym, ◌∙◌, ap, subst}
use Rattle.mx_base.specs.declared.file.File.{File}
use Rattle.mx_base.specs.Order.{AreInOrder}
use Rattle.tree_store.specs.declared.holding.Holding.{Holding}
use Rattle.tree_store.specs.declared.key.BuildKey.{BuildKey}
use Rattle.tree_store.specs.FolderKnown.{FolderKnown, IsUnmarked, StopsIn}
use Rattle.tree_store.specs.Holding.{nothing, only_files, with_all}
use Rattle.tree_store.specs.Key.{is_same_build}
use Rattle.tree_store.specs.Slot.{Slot, SetsSlot, emptied_slot, slot_with}
use Rattle.tree_store.specs.Slot.Slot.{Here, Out}
use Rattle.tree_store.proofs.FilesLemmas.{put_all_in_order}
use Rattle.tree_store.proofs.MomentLemmas.{stops_end}
use Rattle.tree_store.proofs.StoreLemmas.{lent_and_back, slot_after_set}
use Rattle.unitc_call.specs.Compile.{IsUnmarkedAt, Leaves, OnlyAt}

-- the folder of an empty build holds nothing
held_nothing : (slot : Slot) (told : Option Holding) → Here told ≡ slot → slot ≡ emptied_slot slot → told ≡ option_map (λ held. nothing) told
held_nothing slot told is empty = at told (subst (λ (s : Slot). s ≡ emptied_slot s) (sym is) empty)
  where
    at : (told : Option Holding) → Here told ≡ emptied_slot (Here told) → told ≡ option_map (λ held. nothing) told
    at None e = refl
    at (Some held) e = cc

pub lent_unmarked : (slot : Slot) (folder : FolderKnown) → Here folder.held ≡ slot → slot ≡ emptied_slot slot → IsUnmarked folder
lent_unmarked slot folder is empty =
    subst (λ (told : Option Holding). IfSome told (λ held. held.mark ≡ None)) (sym (held_nothing slot folder.held is empty)) (at folder.held)
  where
    at : (told : Option Holding) → IfSome (option_map (λ held. nothing) told) (λ held. held.mark ≡ None)
    at None = tt
    at (Some held) = refl

-- the slot of what is held once files in order were put where nothing was held
filled_slot_is : (files : List File) (told now : Option Holding) → AreInOrder files → told ≡ option_map (λ held. nothing) told →
    now ≡ option_map (with_all files) told → slot_with files (Here told) ≡ Here now
filled_slot_is files None now order none put = ap Here (sym put)
filled_slot_is files (Some held) now order none put =
    let bare : held ≡ nothing = cc in
    ap (λ (fs : List File). Here (Some (only_files fs))) (sym (put_all_in_order files order))
    ∙ ap (λ (h : Holding). Here (Some (with_all files h))) (sym bare)
    ∙ ap Here (sym put)

-- files were put into a folder that was handed out and came back
module _ (key : BuildKey) (files : List File) (first last : FolderKnown) (old mid new : BuildKey → Slot) (out : SetsSlot key Out old mid)
    (is : Here first.held ≡ old key) (own : last.key ≡ key) (back : SetsSlot last.key (Here last.held) mid new) where
  pub filled_after : AreInOrder files → old key ≡ emptied_slot (old key) → last.held ≡ option_map (with_all files) first.held → Leaves key files old new
  filled_after order empty put =
      lent_and_back key last.key (slot_with files) last.held old mid new out own back
      (ap (slot_with files) (sym is) ∙ filled_slot_is files first.held last.held order (held_nothing (old key) first.held is empty) put)

  pub own_after : new key ≡ Here last.held
  own_after = slot_after_set last.key key (Here last.held) mid new back (sym own)

  pub unmarked_back : StopsIn (λ image. image.mark ≡ None) first last → IsUnmarkedAt (new key)
  unmarked_back stops = subst IsUnmarkedAt (sym own_after) (at last.held (stops_end (λ image. image.mark ≡ None) first last stops))
    where
      at : (told : Option Holding) → IfSome told (λ held. held.mark ≡ None) → IsUnmarkedAt (Here told)
      at None none = tt
      at (Some held) none = none

  pub others_back : OnlyAt key old new
  others_back q other =
      back q
      ∙ ap (λ (k : BuildKey). cond (is_same_build k q) (Here last.held) (mid q)) own
      ∙ ap (λ (b : Bool). cond b (Here last.held) (mid q)) other
      ∙ out q
      ∙ ap (λ (b : Bool). cond b Out (old q)) other

-- an empty build has no mark
pub unmarked_empty : (slot : Slot) → slot ≡ emptied_slot slot → (slot ≡ Out → ⊥) → IsUnmarkedAt slot
unmarked_empty (Here None) empty here = tt
unmarked_empty (Here (Some held)) empty here = let bare : held ≡ nothing = cc in ap (λ (h : Holding). h.mark) bare
unmarked_empty Out empty here = absurd (here refl)

pub unmarked_still : (key : BuildKey) (old new : BuildKey → Slot) → new ≡ old → old key ≡ emptied_slot (old key) → (old key ≡ Out → ⊥) → IsUnmarkedAt (new key)
unmarked_still key old new same empty here =
    subst (λ (slots : BuildKey → Slot). IsUnmarkedAt (slots key)) (sym same) (unmarked_empty (old key) empty here)

pub others_still : (key : BuildKey) (old new : BuildKey → Slot) → new ≡ old → OnlyAt key old new
others_still key old new same q other = ap (λ (slots : BuildKey → Slot). slots q) same

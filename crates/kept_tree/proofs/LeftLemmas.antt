-- What is left of a folder while it is cleared.
use Rattle.std.proofs.Common.{◌≡◌, ◌⊎◌, inl, inr, Bool, true, false, cond, Option, Some, None, IfSome, List, [], ◌∷◌, filter, option_map, Result, IsTrue, refl, sym, ◌∙◌, ap, subst}
use Rattle.mx_base.specs.declared.file.File.{File}
use Rattle.compile_model.specs.declared.outcome.Outcome.{Outcome}
use Rattle.compile_model.specs.Content.{Content}
use Rattle.tree_store.specs.declared.holding.Holding.{Holding}
use Rattle.tree_store.specs.declared.key.BuildKey.{BuildKey}
use Rattle.tree_store.specs.declared.store.StoreFault.{StoreFault}
use Rattle.tree_store.specs.FolderKnown.{FolderKnown, StopsIn, Writes}
use Rattle.tree_store.specs.Holding.{only_files, unmarked}
use Rattle.tree_store.specs.Key.{is_same_build}
use Rattle.tree_store.specs.Moment.{Part, after_all, leaves}
use Rattle.tree_store.specs.Moment.Part.{Whole, Untouched, Gone, Begun, Those}
use Rattle.tree_store.specs.Moment.Write.{Clear, Unmark}
use Rattle.tree_store.specs.Slot.{Slot, SetsSlot, changed_slot}
use Rattle.tree_store.specs.Slot.Slot.{Here, Out}
use Rattle.tree_store.proofs.MomentLemmas.{stops_at_write, stops_end}
use Rattle.tree_store.proofs.StoreLemmas.{lent_and_back}
use Rattle.honest_tree.specs.Given.{Given}
use Rattle.honest_tree.specs.Honest.{Honest, IsHonest, IsHonestSlot}
use Rattle.honest_tree.proofs.HonestLemmas.{unmarked_honest}
use Rattle.kept_tree.specs.Clearing.{ClearsPartly, IsLeftAt, IsLeftIn, IsLeftOf, left_of}

filter_none : (files : List File) → filter (λ f. false) files ≡ []
filter_none [] = refl
filter_none (f ∷ fs) = filter_none fs

filter_all : (files : List File) → filter (λ f. true) files ≡ files
filter_all [] = refl
filter_all (f ∷ fs) = ap (λ (gs : List File). f ∷ gs) (filter_all fs)

-- all of the files and no mark, and none of them
all_left : (held : Holding) → IsLeftOf held (unmarked held)
all_left held = inr (λ f. true, ap only_files (sym (filter_all held.files)))

none_left : (held : Holding) → IsLeftOf held (only_files [])
none_left held = inr (λ f. false, ap only_files (sym (filter_none held.files)))

unmark_left : (held : Holding) (part : Part) → IsLeftOf held (leaves Unmark part held)
unmark_left held Whole = all_left held
unmark_left held Untouched = inl refl
unmark_left held Gone = all_left held
unmark_left held (Begun count) = inl refl
unmark_left held (Those stays) = inl refl

clear_left : (held : Holding) (part : Part) → IsLeftOf held (leaves Clear part (unmarked held))
clear_left held Whole = none_left held
clear_left held Untouched = all_left held
clear_left held Gone = all_left held
clear_left held (Begun count) = all_left held
clear_left held (Those stays) = inr (stays, refl)

pub unmark_stops : {X : Type 0} (old new : FolderKnown) (result : Result X StoreFault) → Writes Unmark old new result →
    StopsIn (IsLeftIn old.held) old new
unmark_stops old new result writes = stops_at_write (IsLeftIn old.held) Unmark old new result writes (each old.held)
  where
    each : (told : Option Holding) → IfSome told (λ held. (part : Part) → IsLeftIn told (leaves Unmark part held))
    each None = tt
    each (Some held) = unmark_left held

pub clear_stops : {X : Type 0} (old mid new : FolderKnown) (result : Result X StoreFault) →
    mid.held ≡ option_map (leaves Unmark Whole) old.held → Writes Clear mid new result → StopsIn (IsLeftIn old.held) mid new
clear_stops old mid new result gone writes =
    stops_at_write (IsLeftIn old.held) Clear mid new result writes
    (subst (λ (t : Option Holding). IfSome t (λ held. (part : Part) → IsLeftIn old.held (leaves Clear part held))) (sym gone) (each old.held))
  where
    each : (told : Option Holding) →
        IfSome (option_map (leaves Unmark Whole) told) (λ held. (part : Part) → IsLeftIn told (leaves Clear part held))
    each None = tt
    each (Some held) = clear_left held

-- what is left at the end
abbrev pub IsLeft : Option Holding → Option Holding → Type 0
IsLeft old new = (new ≡ old) ⊎ ((stays : File → Bool) × (new ≡ option_map (left_of stays) old))

pub left_after : (old new : FolderKnown) → StopsIn (IsLeftIn old.held) old new → IsLeft old.held new.held
left_after old new stops = at old.held new.held stops.held (stops_end (IsLeftIn old.held) old new stops)
  where
    at : (told now : Option Holding) → now ≡ option_map (after_all stops.more) told → IfSome now (IsLeftIn told) → IsLeft told now
    at None now is left = inl is
    at (Some held) None is left = inl (absurd cc)
    at (Some held) (Some image) is (inl same) = inl (ap (λ (h : Holding). Some h) same)
    at (Some held) (Some image) is (inr (stays, same)) = inr (stays, ap (λ (h : Holding). Some h) same)

-- a folder was handed out, was cleared or a part of it, and came back
pub lent_left : (key back_key : BuildKey) (held left : Option Holding) (old mid new : BuildKey → Slot) → SetsSlot key Out old mid →
    back_key ≡ key → SetsSlot back_key (Here left) mid new → Here held ≡ old key → IsLeft held left → ClearsPartly (is_same_build key) old new
lent_left key back_key held left old mid new out own back is kept q = at kept
  where
    same : (b : Bool) → new q ≡ cond b (old q) (old q) → new q ≡ old q
    same true e = e
    same false e = e

    part : (stays : File → Bool) (b : Bool) → is_same_build key q ≡ b → new q ≡ cond b (changed_slot (left_of stays) (old q)) (old q) →
        (new q ≡ old q) ⊎ (IsTrue (is_same_build key q) × IsLeftAt (old q) (new q))
    part stays true b e = inr (b, (stays, e))
    part stays false b e = inl e

    at : IsLeft held left → (new q ≡ old q) ⊎ (IsTrue (is_same_build key q) × IsLeftAt (old q) (new q))
    at (inl e) =
        inl (same (is_same_build key q)
        (lent_and_back key back_key (λ (s : Slot). s) left old mid new out own back (sym is ∙ ap Here (sym e)) q))
    at (inr (stays, e)) =
        part stays (is_same_build key q) refl
        (lent_and_back key back_key (changed_slot (left_of stays)) left old mid new out own back
        (ap (changed_slot (left_of stays)) (sym is) ∙ ap Here (sym e)) q)

-- what is left of what is honest is honest
pub left_honest : (compile : Content → Outcome) (known : List Given) (held image : Holding) → IsHonest compile known held →
    IsLeftOf held image → IsHonest compile known image
left_honest compile known held image honest (inl same) = subst (IsHonest compile known) (sym same) honest
left_honest compile known held image honest (inr (stays, is)) =
    unmarked_honest compile known image (ap (λ (h : Holding). h.mark) is)

left_slot_honest : (compile : Content → Outcome) (known : List Given) (stays : File → Bool) (slot : Slot) →
    IsHonestSlot compile known (changed_slot (left_of stays) slot)
left_slot_honest compile known stays (Here None) = tt
left_slot_honest compile known stays (Here (Some held)) = unmarked_honest compile known (left_of stays held) refl
left_slot_honest compile known stays Out = tt

pub left_tree_honest : (compile : Content → Outcome) (known : List Given) (is : BuildKey → Bool) (old new : BuildKey → Slot) →
    Honest compile known old → ClearsPartly is old new → Honest compile known new
left_tree_honest compile known is old new honest left q = at (left q)
  where
    at : (new q ≡ old q) ⊎ (IsTrue (is q) × IsLeftAt (old q) (new q)) → IsHonestSlot compile known (new q)
    at (inl same) = subst (IsHonestSlot compile known) (sym same) (honest q)
    at (inr (those, (stays, now))) = subst (IsHonestSlot compile known) (sym now) (left_slot_honest compile known stays (old q))

-- What stops leave while several writes are made.
use Rattle.std.proofs.Common.{◌≡◌, ◌⊎◌, inl, inr, List, [], ◌∷◌, ◌++◌, Option, Some, None, IfSome, option_map, Result, Ok, Err, refl, sym, ◌∙◌, ap, subst, append_assoc}
use Rattle.std.proofs.lemmas.List.{append-nil}
use Rattle.mx_base.specs.declared.file.File.{File}
use Rattle.tree_store.specs.declared.holding.Holding.{Holding}
use Rattle.tree_store.specs.declared.store.StoreFault.{StoreFault}
use Rattle.tree_store.specs.Holding.{with_all}
use Rattle.tree_store.specs.Moment.{Write, Part, Moment, leaves, after_all, after_moments, IsImage}
use Rattle.tree_store.specs.Moment.Write.{Unmark, Clear, Put, Mark}
use Rattle.tree_store.specs.Moment.Part.{Whole, Untouched, Gone, Begun, Those}
use Rattle.tree_store.specs.FolderKnown.{FolderKnown, IsStopped, IsUnmarked, StopsIn, Writes, written}
use Rattle.tree_store.specs.FolderKnown.IsStopped.{begun, not_begun}

-- what is told has this
pub told_has : (Q : Holding → Type 0) (told : Option Holding) (held : Holding) → told ≡ Some held → IfSome told Q → Q held
told_has Q told held is has = subst (λ (o : Option Holding). IfSome o Q) is has

pub if_told : {Q : Holding → Type 0} (told : Option Holding) → ((held : Holding) → told ≡ Some held → Q held) → IfSome told Q
if_told None each = tt
if_told (Some held) each = each held refl

-- after some writes and then others
after_both : (ms ns : List Moment) (held : Holding) → after_all (ms ++ ns) held ≡ after_all ns (after_all ms held)
after_both [] ns held = refl
after_both (m ∷ ms) ns held = after_both ms ns (leaves m.write m.part held)

image_of_both : (ms ns : List Moment) (held image : Holding) → IsImage (ms ++ ns) held image → IsImage ms held image ⊎ IsImage ns (after_all ms held) image
image_of_both [] ns held image is = inr is
image_of_both (m ∷ ms) ns held image (inl part) = inl (inl part)
image_of_both (m ∷ ms) ns held image (inr later) = at (image_of_both ms ns (leaves m.write m.part held) image later)
  where
    at : IsImage ms (leaves m.write m.part held) image ⊎ IsImage ns (after_all ms (leaves m.write m.part held)) image → IsImage (m ∷ ms) held image ⊎ IsImage ns (after_all (m ∷ ms) held) image
    at (inl is) = inl (inr is)
    at (inr is) = inr is

-- what stands after some writes is what a stop then leaves
last_image : (ms : List Moment) (held : Holding) → IsImage ms held (after_all ms held)
last_image [] held = refl
last_image (m ∷ ms) held = inr (last_image ms (leaves m.write m.part held))

moments_of_both : (told : Option (List Moment)) (ms ns : List Moment) → after_moments (after_moments told ms) ns ≡ after_moments told (ms ++ ns)
moments_of_both None ms ns = refl
moments_of_both (Some before) ms ns = ap (λ (all : List Moment). Some all) (append_assoc before ms ns)

held_after_both : (told : Option Holding) (ms ns : List Moment) → option_map (after_all ns) (option_map (after_all ms) told) ≡ option_map (after_all (ms ++ ns)) told
held_after_both None ms ns = refl
held_after_both (Some held) ms ns = ap (λ (h : Holding). Some h) (sym (after_both ms ns held))

moments_same : (told : Option (List Moment)) → told ≡ after_moments told []
moments_same None = refl
moments_same (Some before) = ap (λ (all : List Moment). Some all) (sym (append-nil before))

held_same : (told : Option Holding) → told ≡ option_map (after_all []) told
held_same None = refl
held_same (Some held) = refl

-- while one thing is done and then another, stops leave what has P
pub stops_then : (P : Holding → Type 0) (a b c : FolderKnown) → StopsIn P a b → StopsIn P b c → StopsIn P a c
stops_then P a b c first next = record {
  more = first.more ++ next.more;
  told = next.told ∙ ap (λ (t : Option (List Moment)). after_moments t next.more) first.told ∙ moments_of_both a.moments first.more next.more;
  held = next.held ∙ ap (option_map (after_all next.more)) first.held ∙ held_after_both a.held first.more next.more;
  key = next.key ∙ first.key;
  each = if_told a.held (λ held is image i. at held is image (image_of_both first.more next.more held image i));
}
  where
    at : (held : Holding) → a.held ≡ Some held → (image : Holding) → IsImage first.more held image ⊎ IsImage next.more (after_all first.more held) image → P image
    at held is image (inl early) = told_has (λ h. (image : Holding) → IsImage first.more h image → P image) a.held held is first.each image early
    at held is image (inr late) = told_has (λ h. (image : Holding) → IsImage next.more h image → P image) b.held (after_all first.more held) (first.held ∙ ap (option_map (after_all first.more)) is) next.each image late

-- where nothing was written
pub stops_still : (P : Holding → Type 0) (old new : FolderKnown) → new ≡ record old { faults = new.faults } → IfSome old.held P → StopsIn P old new
stops_still P old new same has = record {
  more = [];
  told = ap (λ (f : FolderKnown). f.moments) same ∙ moments_same old.moments;
  held = ap (λ (f : FolderKnown). f.held) same ∙ held_same old.held;
  key = ap (λ (f : FolderKnown). f.key) same;
  each = if_told old.held (λ held is image now. subst P (sym now) (told_has P old.held held is has));
}

stops_at_part : (P : Holding → Type 0) (write : Write) (part : Part) (old new : FolderKnown) → new ≡ written write part new.faults old → IfSome old.held (λ held. (part : Part) → P (leaves write part held)) → StopsIn P old new
stops_at_part P write part old new is has = record {
  more = record { write = write; part = part } ∷ [];
  told = ap (λ (f : FolderKnown). f.moments) is;
  held = ap (λ (f : FolderKnown). f.held) is;
  key = ap (λ (f : FolderKnown). f.key) is;
  each = if_told old.held (λ held told image i. at held (told_has (λ h. (part : Part) → P (leaves write part h)) old.held held told has) image i);
}
  where
    at : (held : Holding) → ((part : Part) → P (leaves write part held)) → (image : Holding) → ((p : Part) × (image ≡ leaves write p held)) ⊎ (image ≡ leaves write part held) → P image
    at held parts image (inl (p, now)) = subst P (sym now) (parts p)
    at held parts image (inr now) = subst P (sym now) (parts part)

-- while a write is made, stops leave what has P, where each part of it does
pub stops_at_write : {X : Type 0} (P : Holding → Type 0) (write : Write) (old new : FolderKnown) (result : Result X StoreFault) → Writes write old new result → IfSome old.held (λ held. (part : Part) → P (leaves write part held)) → StopsIn P old new
stops_at_write P write old new (Ok x) writes has = stops_at_part P write Whole old new writes.ended has
stops_at_write P write old new (Err e) writes has = at writes.stopped
  where
    untouched : (write : Write) (held : Holding) → leaves write Untouched held ≡ held
    untouched Unmark held = refl
    untouched Clear held = refl
    untouched (Put file) held = refl
    untouched (Mark bytes) held = refl

    at : IsStopped write old new → StopsIn P old new
    at (begun part is) = stops_at_part P write part old new is has
    at (not_begun same) = stops_still P old new same (if_told old.held (λ held is. subst P (untouched write held) (told_has (λ h. (part : Part) → P (leaves write part h)) old.held held is has Untouched)))

-- what stands after all is what a stop leaves
pub stops_end : (P : Holding → Type 0) (old new : FolderKnown) → StopsIn P old new → IfSome new.held P
stops_end P old new stops = at old.held refl
  where
    at : (told : Option Holding) → old.held ≡ told → IfSome new.held P
    at None is = subst (λ (o : Option Holding). IfSome o P) (sym (stops.held ∙ ap (option_map (after_all stops.more)) is)) tt
    at (Some held) is =
        subst (λ (o : Option Holding). IfSome o P) (sym (stops.held ∙ ap (option_map (after_all stops.more)) is))
        (told_has (λ h. (image : Holding) → IsImage stops.more h image → P image) old.held held is stops.each (after_all stops.more held) (last_image stops.more held))

-- a file more is put
pub put_more : (file : File) (files : List File) (told : Option Holding) → option_map (with_all files) (option_map (leaves (Put file) Whole) told) ≡ option_map (with_all (file ∷ files)) told
put_more file files None = refl
put_more file files (Some held) = refl

-- after the mark was taken away none stands
pub unmarked_after : (old new : FolderKnown) → new ≡ written Unmark Whole new.faults old → IsUnmarked new
unmarked_after old new is = subst (λ (o : Option Holding). IfSome o (λ held. held.mark ≡ None)) (sym (ap (λ (f : FolderKnown). f.held) is)) (at old.held)
  where
    at : (told : Option Holding) → IfSome (option_map (leaves Unmark Whole) told) (λ held. held.mark ≡ None)
    at None = tt
    at (Some held) = refl

-- a file that is put leaves no mark where none stood
pub put_keeps_unmarked : (file : File) (old new : FolderKnown) → new ≡ written (Put file) Whole new.faults old → IsUnmarked old → IsUnmarked new
put_keeps_unmarked file old new is bare =
    subst (λ (o : Option Holding). IfSome o (λ held. held.mark ≡ None)) (sym (ap (λ (f : FolderKnown). f.held) is)) (at old.held bare)
  where
    at : (told : Option Holding) → IfSome told (λ held. held.mark ≡ None) → IfSome (option_map (leaves (Put file) Whole) told) (λ held. held.mark ≡ None)
    at None none = tt
    at (Some held) none = none

-- a file that is put changes no mark
pub put_keeps_mark : (file : File) (part : Part) (held : Holding) → (leaves (Put file) part held).mark ≡ held.mark
put_keeps_mark file Whole held = refl
put_keeps_mark file Untouched held = refl
put_keeps_mark file Gone held = refl
put_keeps_mark file (Begun count) held = refl
put_keeps_mark file (Those stays) held = refl

-- a write leaves the folder that of its build
pub writes_key : {X : Type 0} (write : Write) (old new : FolderKnown) (result : Result X StoreFault) → Writes write old new result → new.key ≡ old.key
writes_key write old new (Ok x) writes = ap (λ (f : FolderKnown). f.key) writes.ended
writes_key write old new (Err e) writes = at writes.stopped
  where
    at : IsStopped write old new → new.key ≡ old.key
    at (begun part is) = ap (λ (f : FolderKnown). f.key) is
    at (not_begun same) = ap (λ (f : FolderKnown). f.key) same

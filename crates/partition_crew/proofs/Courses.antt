-- What is written into a folder, one call after another.
use Rattle.std.proofs.Common.{◌≡◌, ℕ, Bool, false, List, [], ◌∷◌, ◌++◌, Option, Some, None, IfSome, OnOk, option_map, Result, Ok, Err, refl, sym, ◌∙◌, ap, subst, append_assoc}
use Rattle.mx_base.specs.Blame.{fails}
use Rattle.tree_store.specs.declared.holding.Holding.{Holding}
use Rattle.tree_store.specs.declared.store.StoreFault.{StoreFault}
use Rattle.tree_store.specs.Blame.{blame_of}
use Rattle.tree_store.specs.FolderKnown.{FolderKnown, IsBare, Looks, Writes, written}
use Rattle.tree_store.specs.Holding.{nothing}
use Rattle.tree_store.specs.Moment.{Write, Moment, IsImage, after_all, after_moments, leaves}
use Rattle.tree_store.specs.Moment.Write.{Unmark, Clear}
use Rattle.tree_store.specs.Moment.Part.{Whole}
use Rattle.tree_store.proofs.MomentLemmas.{if_told, told_has, writes_key}
use Rattle.partition_face.specs.Runs.{NeverMarks}
use Rattle.partition_crew.specs.Work.{IsCourse, Touches, Wrote, emptied, whole}
use Rattle.partition_crew.proofs.Counting.{counted_still, counted_then}

after_both : (ms ns : List Moment) (held : Holding) → after_all (ms ++ ns) held ≡ after_all ns (after_all ms held)
after_both [] ns held = refl
after_both (m ∷ ms) ns held = after_both ms ns (leaves m.write m.part held)

moments_of_both : (told : Option (List Moment)) (ms ns : List Moment) → after_moments (after_moments told ms) ns ≡ after_moments told (ms ++ ns)
moments_of_both None ms ns = refl
moments_of_both (Some before) ms ns = ap (λ (all : List Moment). Some all) (append_assoc before ms ns)

held_after_both : (told : Option Holding) (ms ns : List Moment) → option_map (after_all ns) (option_map (after_all ms) told) ≡ option_map
    (after_all (ms ++ ns)) told
held_after_both None ms ns = refl
held_after_both (Some held) ms ns = ap (λ (h : Holding). Some h) (sym (after_both ms ns held))

-- some writes and then others
pub wrote_then : (ms ns : List Moment) (a b c : FolderKnown) → Wrote ms a b → Wrote ns b c → Wrote (ms ++ ns) a c
wrote_then ms ns a b c first next = record {
  told = next.told ∙ ap (λ (t : Option (List Moment)). after_moments t ns) first.told ∙ moments_of_both a.moments ms ns;
  held = next.held ∙ ap (option_map (after_all ns)) first.held ∙ held_after_both a.held ms ns;
  key = next.key ∙ first.key;
}

pub wrote_one : (write : Write) (old new : FolderKnown) → new ≡ written write Whole new.faults old → Wrote (whole write ∷ []) old new
wrote_one write old new is = record {
  told = ap (λ (f : FolderKnown). f.moments) is;
  held = ap (λ (f : FolderKnown). f.held) is;
  key = ap (λ (f : FolderKnown). f.key) is;
}

-- the mark was taken away, and then all files
pub wrote_emptied : (a b c : FolderKnown) → b ≡ written Unmark Whole b.faults a → c ≡ written Clear Whole c.faults b → Wrote emptied a c
wrote_emptied a b c first next = wrote_then (whole Unmark ∷ []) (whole Clear ∷ []) a b c (wrote_one Unmark a b first) (wrote_one Clear b c next)

pub on_emptied : {X : Type 0} (a b c : FolderKnown) (result : Result X StoreFault) → b ≡ written Unmark Whole b.faults a → Writes Clear b c result
    → OnOk result (Wrote emptied a c)
on_emptied a b c (Ok x) first writes = wrote_emptied a b c first writes.ended
on_emptied a b c (Err e) first writes = tt

-- .. so the folder holds nothing
pub emptied_holds : (a b : FolderKnown) → Wrote emptied a b → (held : Holding) → a.held ≡ Some held → b.held ≡ Some nothing
emptied_holds a b wrote held is = wrote.held ∙ ap (option_map (after_all emptied)) is

pub emptied_bare : (a b : FolderKnown) → Wrote emptied a b → IsBare b
emptied_bare a b wrote = at a.held refl
  where
    at : (told : Option Holding) → a.held ≡ told → IsBare b
    at None is = subst (λ (o : Option Holding). IfSome o (λ held. (held.files ≡ []) × (held.mark ≡ None)))
        (sym (wrote.held ∙ ap (option_map (after_all emptied)) is)) tt
    at (Some held) is = subst (λ (o : Option Holding). IfSome o (λ held. (held.files ≡ []) × (held.mark ≡ None))) (sym (emptied_holds a b wrote held is))
        (refl, refl)

-- it was emptied, a run wrote into it, and then there was one write more
pub course_of : (last : Write) (a b c d : FolderKnown) → Wrote emptied a b → NeverMarks b c → Wrote (whole last ∷ []) c d → IsCourse last a d
course_of last a b c d first ran ended = record {
  run = ran.more;
  wrote = wrote_then emptied (ran.more ++ whole last ∷ []) a b d first (wrote_then ran.more (whole last ∷ []) b c d
      (record { told = ran.told; held = ran.held; key = ran.key }) ended);
  unmarked = if_told a.held (λ held is image i.
      told_has (λ h. (image : Holding) → IsImage ran.more h image → image.mark ≡ None) b.held nothing (emptied_holds a b first held is) ran.each image i);
}

-- ---- the folder's build and its faults

pub touches_then : (a b c : FolderKnown) (failed : Bool) → Touches a b false → Touches b c failed → Touches a c failed
touches_then a b c failed first next = record {
  key = next.key ∙ first.key;
  cause = counted_then a.faults b.faults c.faults failed first.cause next.cause;
}

pub touches_still : (a : FolderKnown) → Touches a a false
touches_still a = record { key = refl; cause = counted_still a.faults }

pub touches_write : {X : Type 0} (write : Write) (a b : FolderKnown) (result : Result X StoreFault) → Writes write a b result
    → Touches a b (fails blame_of result)
touches_write write a b result writes = record { key = writes_key write a b result writes; cause = writes.cause }

pub touches_look : (a b : FolderKnown) (failed : Bool) → Looks a b failed → Touches a b failed
touches_look a b failed looks = record { key = ap (λ (f : FolderKnown). f.key) looks.same; cause = looks.cause }

-- a look that didn't fail changes nothing
pub looks_still : (a b : FolderKnown) → Looks a b false → b ≡ a
looks_still a b looks = looks.same ∙ ap (λ (n : ℕ). record a { faults = n }) (looks.cause.kept refl)

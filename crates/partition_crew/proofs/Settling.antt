-- What comes of a verdict.
use Rattle.std.proofs.Common.{◌≡◌, ◌≢◌, ◌==◌, ℕ, Bool, true, false, cond, List, [], ◌∷◌, Option, Some, None, IfOk, IfSome, OnOk, option_map, Result, Ok, Err, refl, sym, ◌∙◌, ap, subst}
use Rattle.std.proofs.lemmas.Bool.{eqb-false, eqb-true}
use Rattle.mx_base.specs.declared.file.File.{File}
use Rattle.compile_model.specs.declared.outcome.Outcome.{Outcome}
use Rattle.compile_model.specs.declared.outcome.Twin.{Twin}
use Rattle.compile_model.specs.declared.outcome.Verdict.{Verdict}
use Rattle.compile_model.specs.Content.{Content, outcome_with}
use Rattle.build_manifest.specs.MarkOf.{mark_of}
use Rattle.build_manifest.specs.Text.{Spells}
use Rattle.tree_store.specs.declared.holding.Holding.{Holding}
use Rattle.tree_store.specs.declared.store.StoreFault.{StoreFault}
use Rattle.tree_store.specs.FolderKnown.{FolderKnown, IsUnmarked, Looks, StopsIn, Writes, written}
use Rattle.tree_store.specs.Holding.{marked, nothing, only_files}
use Rattle.tree_store.specs.Moment.{after_all}
use Rattle.tree_store.specs.Moment.Write.{Clear, Mark}
use Rattle.tree_store.specs.Moment.Part.{Whole}
use Rattle.tree_store.proofs.MomentLemmas.{if_told, told_has}
use Rattle.honest_tree.specs.Given.{Given, content, outcome_of}
use Rattle.honest_tree.specs.Honest.{IsHonest}
use Rattle.honest_tree.proofs.KeptLemmas.{outcome_again}
use Rattle.partition_face.specs.declared.partition.RunFault.{RunFault}
use Rattle.partition_face.specs.declared.partition.RunFault.TheVariants as run
use Rattle.partition_face.specs.Runs.{IsVerdictOf, NeverMarks}
use Rattle.partition_crew.specs.declared.worked.Worked.TheVariants.{Finished, Failed}
use Rattle.partition_crew.specs.Work.{HasWorked, IsCompiled, IsDone, IsMeant, IsTwinOf, Wrote, emptied, outcome_by, whole, worked_of}
use Rattle.partition_crew.specs.Work.Settles.{built, failed}
use Rattle.partition_crew.proofs.Courses.{course_of, emptied_holds, looks_still, wrote_one}
use Rattle.partition_crew.proofs.Stopping.{stops_marking}

same_held : (one other : Holding) → Some one ≡ Some other → one ≡ other
same_held one other e = cc

-- ---- what a verdict means

-- it was built, and the folder has the outcome's files
pub verdict_built : (o : Outcome) (folder : FolderKnown) (verdict : Verdict) (held : Holding) → IsVerdictOf o folder verdict → folder.held ≡ Some held
    → verdict.status ≡ 0
    → outcome_with 0 verdict.text held.files ≡ o
verdict_built o folder verdict held is told zero =
    let files : held.files ≡ o.files = ap (λ (h : Holding). h.files) (same_held held (only_files o.files) (sym told ∙ is.files zero)) in
    ap (λ (t : List ℕ). outcome_with 0 t held.files) is.text ∙ ap (λ (fs : List File). outcome_with 0 o.text fs) files
    ∙ ap (λ (n : ℕ). outcome_with n o.text o.files) (sym zero ∙ is.status) ∙ outcome_again o

-- it wasn't built, and the outcome has no files
pub verdict_failed : (o : Outcome) (folder : FolderKnown) (verdict : Verdict) → IsVerdictOf o folder verdict → o.files ≡ []
    → outcome_with verdict.status verdict.text [] ≡ o
verdict_failed o folder verdict is bare =
    ap (λ (n : ℕ). outcome_with n verdict.text []) is.status ∙ ap (λ (t : List ℕ). outcome_with o.status t []) is.text
    ∙ ap (λ (fs : List File). outcome_with o.status o.text fs) (sym bare) ∙ outcome_again o

pub outcome_built : (verdict : Verdict) (files : List File) → verdict.status ≡ 0 → outcome_by verdict files ≡ outcome_with 0 verdict.text files
outcome_built verdict files zero = ap (λ (n : ℕ). outcome_with n verdict.text (cond (n == 0) files [])) zero

pub outcome_failed : (verdict : Verdict) (files : List File) → verdict.status ≢ 0 → outcome_by verdict files ≡ outcome_with verdict.status verdict.text []
outcome_failed verdict files other = at (verdict.status == 0) refl
  where
    at : (zero : Bool) → (verdict.status == 0) ≡ zero → outcome_with verdict.status verdict.text
        (cond zero files []) ≡ outcome_with verdict.status verdict.text []
    at true e = absurd (other (eqb-true verdict.status 0 e))
    at false e = refl

-- the outcome that a verdict and the files beside it make is the one that was meant
pub verdict_outcome : (o : Outcome) (folder : FolderKnown) (verdict : Verdict) (held : Holding) → (o.status ≢ 0 → o.files ≡ []) → IsVerdictOf o folder verdict
    → folder.held ≡ Some held
    → outcome_by verdict held.files ≡ o
verdict_outcome o folder verdict held bare is told = at (verdict.status == 0) refl
  where
    at : (zero : Bool) → (verdict.status == 0) ≡ zero → outcome_by verdict held.files ≡ o
    at true e =
        let zero : verdict.status ≡ 0 = eqb-true verdict.status 0 e in
        outcome_built verdict held.files zero ∙ verdict_built o folder verdict held is told zero
    at false e =
        let other : verdict.status ≢ 0 = λ zero. let t : (verdict.status == 0) ≡ true = ap (λ (n : ℕ). n == 0) zero in cc in
        outcome_failed verdict held.files other ∙ verdict_failed o folder verdict is (bare (λ zero. other (is.status ∙ zero)))

-- what is told before a run is told after it
pub told_after : (X : Type 0) (b c : FolderKnown) → NeverMarks b c → IfSome b.held (λ _. X) → IfSome c.held (λ _. X)
told_after X b c ran is = subst (λ (o : Option Holding). IfSome o (λ _. X)) (sym ran.held) (at b.held is)
  where
    at : (told : Option Holding) → IfSome told (λ _. X) → IfSome (option_map (after_all ran.more) told) (λ _. X)
    at None x = tt
    at (Some held) x = x

pub meant_of : (compile : Content → Outcome) (given : Given) (a b c : FolderKnown) (verdict : Verdict) (outcome : Outcome)
    → ((content : Content) → (compile content).status ≢ 0 → (compile content).files ≡ []) → Wrote emptied a b → NeverMarks b c
    → IfSome b.held (λ _. IsVerdictOf (outcome_of compile given) c verdict) → IfSome c.held (λ held. outcome ≡ outcome_by verdict held.files)
    → IfSome a.held (λ _. outcome ≡ outcome_of compile given)
meant_of compile given a b c verdict outcome bare first ran means is =
    if_told a.held (λ held told.
    let empty : b.held ≡ Some nothing = emptied_holds a b first held told in
    let now : c.held ≡ Some (after_all ran.more nothing) = ran.held ∙ ap (option_map (after_all ran.more)) empty in
    let says : IsVerdictOf (outcome_of compile given) c verdict = told_has
    (λ _. IsVerdictOf (outcome_of compile given) c verdict) b.held nothing empty means in
    let own : outcome ≡ outcome_by verdict (after_all ran.more nothing).files = told_has (λ h. outcome ≡ outcome_by verdict h.files) c.held
    (after_all ran.more nothing) now is in
    own ∙ verdict_outcome (outcome_of compile given) c verdict (after_all ran.more nothing) (bare (content given)) says now)

-- ---- what the folder then holds

-- the mark was written beside what stood there
marked_holds : (bytes : List ℕ) (files : List File) (a b : FolderKnown) → Wrote (whole (Mark bytes) ∷ []) a b → IfSome a.held (λ held. held.files ≡ files)
    → IfSome b.held (λ held. held ≡ marked bytes (only_files files))
marked_holds bytes files a b wrote same = subst (λ (o : Option Holding). IfSome o (λ held. held ≡ marked bytes (only_files files))) (sym wrote.held)
    (at a.held same)
  where
    at : (told : Option Holding) → IfSome told (λ held. held.files ≡ files)
        → IfSome (option_map (after_all (whole (Mark bytes) ∷ [])) told) (λ held. held ≡ marked bytes (only_files files))
    at None is = tt
    at (Some held) is = ap (λ (fs : List File). record { files = fs; mark = Some bytes }) is

-- the files were taken away where no mark stood
cleared_holds : (a b : FolderKnown) → IsUnmarked a → Wrote (whole Clear ∷ []) a b → IfSome b.held (λ held. held ≡ nothing)
cleared_holds a b bare wrote = subst (λ (o : Option Holding). IfSome o (λ held. held ≡ nothing)) (sym wrote.held) (at a.held bare)
  where
    at : (told : Option Holding) → IfSome told (λ held. held.mark ≡ None) → IfSome (option_map (after_all (whole Clear ∷ [])) told) (λ held. held ≡ nothing)
    at None is = tt
    at (Some held) is = ap (λ (mark : Option (List ℕ)). record { files = []; mark = mark }) is

-- ---- a built outcome

pub twin_told : (told : Option Holding) (text : List ℕ) (outcome event : Outcome) → event ≡ outcome
    → IfSome told (λ held. outcome ≡ outcome_with 0 text held.files)
    → IfSome told (λ held. event ≡ outcome_with 0 text held.files)
twin_told told text outcome event same is = if_told told (λ held here. same ∙ told_has (λ h. outcome ≡ outcome_with 0 text h.files) told held here is)

pub compiled_marked : (given : Given) (text : List ℕ) (outcome : Outcome) (twin : Twin) (bytes : List ℕ) (a m b : FolderKnown) → Looks a m false
    → outcome.status ≡ 0
    → IfSome a.held (λ held. outcome ≡ outcome_with 0 text held.files) → Spells bytes (mark_of given.job given.needs outcome) → twin.event ≡ outcome
    → twin.fate ≡ outcome
    → b ≡ written (Mark bytes) Whole b.faults m → IsCompiled given twin a b
compiled_marked given text outcome twin bytes a m b looks status own spells event fate is =
    let wrote : Wrote (whole (Mark bytes) ∷ []) a b = wrote_one (Mark bytes) a b (is ∙ ap (written (Mark bytes) Whole b.faults) (looks_still a m looks)) in
    let files : IfSome a.held (λ held. held.files ≡ twin.event.files) =
    if_told a.held (λ held here. ap (λ (o : Outcome). o.files) (sym (event ∙ told_has (λ h. outcome ≡ outcome_with 0 text h.files) a.held held here own))) in
    record {
      last = Mark bytes;
      settles = built bytes (ap (λ (o : Outcome). o.status) event ∙ status)
          (subst (λ (o : Outcome). Spells bytes (mark_of given.job given.needs o)) (sym event) spells)
          (marked_holds bytes twin.event.files a b wrote files);
      wrote = wrote;
      copies = fate ∙ sym event;
    }

pub stops_finish : {X : Type 0} (compile : Content → Outcome) (given : Given) (known : List Given) (text : List ℕ) (outcome : Outcome) (bytes : List ℕ)
    (a m b : FolderKnown)
    (result : Result X StoreFault) → IsUnmarked a → Looks a m false → outcome.status ≡ 0 → IfSome a.held (λ held. outcome ≡ outcome_with 0 text held.files)
    → Spells bytes (mark_of given.job given.needs outcome) → Writes (Mark bytes) m b result
    → IfSome a.held (λ held. outcome_with 0 text held.files ≡ outcome_of compile given)
    → StopsIn (IsHonest compile (given ∷ known)) a b
stops_finish compile given known text outcome bytes a m b result bare looks status own spells writes meant =
    stops_marking compile given known outcome bytes a b result bare spells status
    (if_told a.held (λ held here.
    let is : outcome ≡ outcome_with 0 text held.files = told_has (λ h. outcome ≡ outcome_with 0 text h.files) a.held held here own in
    (ap (λ (o : Outcome). o.files) (sym is), is ∙ told_has (λ h. outcome_with 0 text h.files ≡ outcome_of compile given) a.held held here meant)))
    (subst (λ (f : FolderKnown). Writes (Mark bytes) f b result) (looks_still a m looks) writes)

-- ---- by the status of the verdict

pub outcome_then : (verdict : Verdict) (told : Option Holding) (result : Result Twin StoreFault) → verdict.status ≡ 0
    → IfOk result (λ twin. IfSome told (λ held. twin.event ≡ outcome_with 0 verdict.text held.files))
    → IfOk result (λ twin. IfSome told (λ held. twin.event ≡ outcome_by verdict held.files))
outcome_then verdict told (Err e) zero is = tt
outcome_then verdict None (Ok twin) zero is = tt
outcome_then verdict (Some held) (Ok twin) zero is = is ∙ sym (outcome_built verdict held.files zero)

pub outcome_else : (verdict : Verdict) (told : Option Holding) (result : Result Twin StoreFault) → verdict.status ≢ 0
    → IfOk result (IsTwinOf (outcome_with verdict.status verdict.text []))
    → IfOk result (λ twin. IfSome told (λ held. twin.event ≡ outcome_by verdict held.files))
outcome_else verdict told (Err e) other is = tt
outcome_else verdict None (Ok twin) other is = tt
outcome_else verdict (Some held) (Ok twin) other is = is.event ∙ sym (outcome_failed verdict held.files other)

pub compiled_else : (given : Given) (verdict : Verdict) (a b : FolderKnown) (result : Result Twin StoreFault) → IsUnmarked a → verdict.status ≢ 0
    → IfOk result (IsTwinOf (outcome_with verdict.status verdict.text [])) → OnOk result (Wrote (whole Clear ∷ []) a b)
    → IfOk result (λ twin. IsCompiled given twin a b)
compiled_else given verdict a b (Err e) bare other is wrote = tt
compiled_else given verdict a b (Ok twin) bare other is wrote = record {
  last = Clear;
  settles = failed (λ zero. other (ap (λ (o : Outcome). o.status) (sym is.event) ∙ zero)) (ap (λ (o : Outcome). o.files) is.event)
      (cleared_holds a b bare wrote);
  wrote = wrote;
  copies = is.fate ∙ sym is.event;
}

-- what a verdict means is what is made of it, where it was built
pub meant_then : (compile : Content → Outcome) (given : Given) (verdict : Verdict) (folder : FolderKnown) → verdict.status ≡ 0
    → IfSome folder.held (λ _. IsVerdictOf (outcome_of compile given) folder verdict)
    → IfSome folder.held (λ held. outcome_with 0 verdict.text held.files ≡ outcome_of compile given)
meant_then compile given verdict folder zero is =
    if_told folder.held (λ held here. verdict_built (outcome_of compile given) folder verdict held
    (told_has (λ _. IsVerdictOf (outcome_of compile given) folder verdict) folder.held held here is) here zero)

-- ---- the whole

pub done_of : (given : Given) (a b c d : FolderKnown) (twin : Twin) → Wrote emptied a b → NeverMarks b c → IsCompiled given twin c d → IsDone given twin a d
done_of given a b c d twin first ran compiled = record {
  last = compiled.last;
  settles = compiled.settles;
  course = course_of compiled.last a b c d first ran compiled.wrote;
  copies = compiled.copies;
}

-- ---- by the answer

pub worked_done : (given : Given) (result : Result Twin RunFault) (a b : FolderKnown) → IfOk result (λ twin. IsDone given twin a b)
    → HasWorked given (worked_of result) a b
worked_done given (Ok twin) a b done = at (twin.event.status == 0) refl
  where
    at : (zero : Bool) → (twin.event.status == 0) ≡ zero → HasWorked given (cond zero (Finished twin) (Failed twin)) a b
    at true e = (eqb-true twin.event.status 0 e, done)
    at false e = (eqb-false twin.event.status 0 e, done)
worked_done given (Err run.Died) a b done = tt
worked_done given (Err run.Tree) a b done = tt
worked_done given (Err run.OutOfMemory) a b done = tt

worked_meant : (outcome : Outcome) (result : Result Twin RunFault) → IfOk result (λ twin. twin.event ≡ outcome) → IsMeant outcome (worked_of result)
worked_meant outcome (Ok twin) is = at (twin.event.status == 0)
  where
    at : (zero : Bool) → IsMeant outcome (cond zero (Finished twin) (Failed twin))
    at true = is
    at false = is
worked_meant outcome (Err run.Died) is = tt
worked_meant outcome (Err run.Tree) is = tt
worked_meant outcome (Err run.OutOfMemory) is = tt

pub meant_told : (outcome : Outcome) (told : Option Holding) (result : Result Twin RunFault) → IfOk result (λ twin. IfSome told (λ _. twin.event ≡ outcome))
    → IfSome told (λ _. IsMeant outcome (worked_of result))
meant_told outcome None result is = tt
meant_told outcome (Some held) result is = worked_meant outcome result is

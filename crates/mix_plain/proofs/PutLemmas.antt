-- What stands in a build while it is filled.
use Rattle.std.proofs.Common.{◌≡◌, ◌⊎◌, inl, inr, ℕ, Bool, true, false, cond, List, [], Option, Some, None, IfSome, option_map, Result, Ok, Err, OnOk, IsTrue, refl, sym, ◌∙◌, ap, subst}
use Rattle.mx_base.specs.declared.file.File.{File}
use Rattle.mx_base.specs.Order.{AreInOrder}
use Rattle.compile_model.specs.declared.job.Job.{Job}
use Rattle.compile_model.specs.declared.job.Plan.{Plan}
use Rattle.compile_model.specs.declared.outcome.Fate.{Fate}
use Rattle.compile_model.specs.declared.outcome.Outcome.{Outcome}
use Rattle.compile_model.specs.Seq.{outcomes_of}
use Rattle.build_manifest.specs.MarkOf.{mark_of}
use Rattle.build_manifest.specs.Text.{Spells}
use Rattle.tree_store.specs.declared.holding.Holding.{Holding}
use Rattle.tree_store.specs.declared.key.BuildKey.{BuildKey}
use Rattle.tree_store.specs.declared.store.StoreFault.{StoreFault}
use Rattle.tree_store.specs.FolderKnown.{FolderKnown, IsBare, StopsIn, Writes}
use Rattle.tree_store.specs.Holding.{marked, nothing, only_files, with_all}
use Rattle.tree_store.specs.Key.{is_same_build}
use Rattle.tree_store.specs.Moment.{leaves}
use Rattle.tree_store.specs.Moment.Write.{Mark}
use Rattle.tree_store.specs.Slot.{Slot, SetsSlot, emptied_slot}
use Rattle.tree_store.specs.Slot.Slot.{Here, Out}
use Rattle.tree_store.proofs.FilesLemmas.{put_all_in_order}
use Rattle.tree_store.proofs.MomentLemmas.{if_told, stops_at_write, stops_then}
use Rattle.tree_store.proofs.OrderLemmas.{ties_itself}
use Rattle.tree_store.proofs.StoreLemmas.{same_key}
use Rattle.kept_tree.specs.Clearing.{is_in_env}
use Rattle.kept_tree.specs.Tree.{IsBuiltAt}
use Rattle.partition_crew.proofs.Stopping.{stops_wider}
use Rattle.mix_plain.specs.Filling.{FillsBuild, FillsPartly, IsFilledBy, IsFilling, IsFillingAt}

-- ---- a folder

-- files in order, put where nothing was, are all that is held
put_bare : (files : List File) (told : Option Holding) → AreInOrder files → IfSome told (λ held. (held.files ≡ []) × (held.mark ≡ None))
    → option_map (with_all files) told ≡ option_map (λ held. only_files files) told
put_bare files None order bare = refl
put_bare files (Some held) order bare =
    ap (λ (fs : List File). Some (with_all files (record { files = fs; mark = held.mark }))) bare.0
    ∙ ap (λ (fs : List File). Some (record { files = fs; mark = held.mark })) (put_all_in_order files order)
    ∙ ap (λ (m : Option (List ℕ)). Some (record { files = files; mark = m })) bare.1

mark_only : (files : List File) (mark : List ℕ) (told : Option Holding)
    → option_map (marked mark) (option_map (λ held. only_files files) told) ≡ option_map (λ held. marked mark (only_files files)) told
mark_only files mark None = refl
mark_only files mark (Some held) = refl

-- .. and then the mark
pub marked_held : {X : Type 0} (files : List File) (mark : List ℕ) (old mid new : FolderKnown) (result : Result X StoreFault) → AreInOrder files → IsBare old
    → mid.held ≡ option_map (with_all files) old.held → Writes (Mark mark) mid new result
    → OnOk result (new.held ≡ option_map (λ held. marked mark (only_files files)) old.held)
marked_held files mark old mid new (Ok x) order bare put writes =
    ap (λ (f : FolderKnown). f.held) writes.ended
    ∙ ap (option_map (marked mark)) (put ∙ put_bare files old.held order bare) ∙ mark_only files mark old.held
marked_held files mark old mid new (Err e) order bare put writes = tt

only_held : (x : Holding) (told : Option Holding) (held : Holding) → Some held ≡ option_map (λ h. x) told → held ≡ x
only_held x None held e = cc
only_held x (Some h) held e = cc

pub unmarked_stops : (files : List File) (mark : List ℕ) (old new : FolderKnown) → StopsIn (λ image. image.mark ≡ None) old new
    → StopsIn (IsFilling files mark) old new
unmarked_stops files mark old new stops = stops_wider (λ image. image.mark ≡ None) (IsFilling files mark) old new (λ image none. inl none) stops

pub marked_stops : {X : Type 0} (files : List File) (mark : List ℕ) (old mid new : FolderKnown) (result : Result X StoreFault) → AreInOrder files → IsBare old
    → StopsIn (λ image. image.mark ≡ None) old mid → mid.held ≡ option_map (with_all files) old.held → Writes (Mark mark) mid new result
    → StopsIn (IsFilling files mark) old new
marked_stops files mark old mid new result order bare first put writes =
    stops_then (IsFilling files mark) old mid new (unmarked_stops files mark old mid first)
    (stops_at_write (IsFilling files mark) (Mark mark) mid new result writes
    (if_told mid.held (λ held is part.
    let own : held ≡ only_files files = only_held (only_files files) old.held held (sym is ∙ put ∙ put_bare files old.held order bare) in
    inr (part, ap (leaves (Mark mark) part) own))))

-- ---- its build

bare_told : (told : Option Holding) → Here told ≡ emptied_slot (Here told) → IfSome told (λ held. (held.files ≡ []) × (held.mark ≡ None))
bare_told None e = tt
bare_told (Some held) e =
    let one : held ≡ nothing = let same : Here (Some held) ≡ Here (Some nothing) = e in cc in
    (ap (λ (h : Holding). h.files) one, ap (λ (h : Holding). h.mark) one)

-- the folder of an empty build is bare
pub lent_bare : (slot : Slot) (folder : FolderKnown) → Here folder.held ≡ slot → slot ≡ emptied_slot slot → IsBare folder
lent_bare slot folder is empty = bare_told folder.held (subst (λ (s : Slot). s ≡ emptied_slot s) (sym is) empty)

-- a folder was handed out, was filled in part and came back
pub lent_filled : (files : List File) (mark : List ℕ) (key back_key : BuildKey) (held : Option Holding) (old mid new : BuildKey → Slot)
    → SetsSlot key Out old mid → back_key ≡ key → SetsSlot back_key (Here held) mid new → IfSome held (IsFilling files mark)
    → FillsBuild key (IsFillingAt files mark) old new
lent_filled files mark key back_key held old mid new out own back filling q =
    at (is_same_build key q) refl (subst (λ (k : BuildKey). new q ≡ cond (is_same_build k q) (Here held) (mid q)) own (back q)) (out q)
  where
    at : (b : Bool) → is_same_build key q ≡ b → new q ≡ cond b (Here held) (mid q) → mid q ≡ cond b Out (old q)
        → (new q ≡ old q) ⊎ (IsTrue (is_same_build key q) × IsFillingAt files mark (new q))
    at true same n m = inr (same, subst (IsFillingAt files mark) (sym n) filling)
    at false other n m = inl (n ∙ m)

pub same_filled : (key : BuildKey) (Fills : Slot → Type 0) (old new : BuildKey → Slot) → new ≡ old → FillsBuild key Fills old new
same_filled key Fills old new e q = inl (ap (λ (slots : BuildKey → Slot). slots q) e)

-- ---- the environment

pub same_partly : (plan : Plan) (fates : List Fate) (old new : BuildKey → Slot) → new ≡ old → FillsPartly plan fates old new
same_partly plan fates old new e q = inl (ap (λ (slots : BuildKey → Slot). slots q) e)

pub fills_twice : (plan : Plan) (fates : List Fate) (old mid new : BuildKey → Slot) → FillsPartly plan fates old mid → FillsPartly plan fates mid new
    → FillsPartly plan fates old new
fills_twice plan fates old mid new first next q = at (first q) (next q)
  where
    at : (mid q ≡ old q) ⊎ (IsTrue (is_in_env plan.env q) × IsFilledBy plan.jobs fates q.app (mid q))
        → (new q ≡ mid q) ⊎ (IsTrue (is_in_env plan.env q) × IsFilledBy plan.jobs fates q.app (new q))
        → (new q ≡ old q) ⊎ (IsTrue (is_in_env plan.env q) × IsFilledBy plan.jobs fates q.app (new q))
    at (inl a) (inl b) = inl (b ∙ a)
    at (inr (own, a)) (inl b) = inr (own, subst (IsFilledBy plan.jobs fates q.app) (sym b) a)
    at (inl a) (inr b) = inr b
    at (inr a) (inr b) = inr b

-- the build of a job that was built
pub fills_job : (plan : Plan) (fates : List Fate) (job : Job) (outcome : Outcome) (files : List File) (mark : List ℕ) (old new : BuildKey → Slot)
    → IsBuiltAt plan.jobs fates job outcome → files ≡ outcome.files → Spells mark (mark_of job (outcomes_of fates job.needs) outcome)
    → FillsBuild (record { env = plan.env; app = job.app }) (IsFillingAt files mark) old new → FillsPartly plan fates old new
fills_job plan fates job outcome files mark old new built same reads fills q = elim (fills q) [
  | inl stays ↦ inl stays
  | inr (own, filling) ↦ inr (
    ties_itself plan.env q.env (same_key (record { env = plan.env; app = job.app }) q own).0,
    record {
      job = job;
      outcome = outcome;
      built = built;
      own = (same_key (record { env = plan.env; app = job.app }) q own).1;
      mark = mark;
      reads = reads;
      filling = subst (λ (fs : List File). IsFillingAt fs mark (new q)) same filling;
    },
  )
]

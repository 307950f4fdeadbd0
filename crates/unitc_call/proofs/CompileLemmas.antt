-- The steps of a task, one after another.
use Rattle.std.proofs.Common.{◌≡◌, ◌⊎◌, inl, inr, ℕ, Bool, true, false, cond, List, Option, Some, None, Err, IsTrue, refl, sym, ◌∙◌, ap, subst}
use Rattle.std.specs.List.{AllZip}
use Rattle.std.proofs.lemmas.Bool.{both_ways}
use Rattle.mx_base.specs.Causes.{Rose}
use Rattle.mx_base.specs.declared.file.File.{File}
use Rattle.compile_model.specs.Content.{Content}
use Rattle.compile_model.specs.declared.outcome.Outcome.{Outcome}
use Rattle.tree_store.specs.declared.key.BuildKey.{BuildKey}
use Rattle.tree_store.specs.Key.{is_same_build}
use Rattle.tree_store.specs.Known.{Known, Told}
use Rattle.tree_store.specs.Slot.{Slot, emptied_slot, slot_with}
use Rattle.tree_store.specs.Slot.Slot.{Here, Out}
use Rattle.tree_store.proofs.StoreLemmas.{is_same_itself}
use Rattle.build_plan.specs.Sources.{sources_of}
use Rattle.kept_tree.specs.Clearing.{Clears, ClearsPartly, IsLeftAt}
use Rattle.kept_tree.specs.declared.fault.KeptFault.{KeptFault}
use Rattle.kept_tree.specs.declared.fault.KeptFault.TheVariants.{Read, Tree, OutOfMemory}
use Rattle.kept_tree.specs.Faults.{CountsWrites, IsCalm, ReadsBuilds}
use Rattle.unit_compile.specs.Units.{unit_meaning}
use Rattle.unitc_call.specs.declared.words.Task.{Task}
use Rattle.unitc_call.specs.Compile.{ChangesOnly, IsCompiled, IsUnmarkedAt, Leaves, MayStand, OnlyAt, Reply}
use Rattle.unitc_call.specs.Compile.MayStand.{kept, left, filled}
use Rattle.unitc_call.specs.Ends.{Stops}
use Rattle.unitc_call.specs.Reading.{IsContentFor, IsNeedIn, IsReadFrom, cleared, content_with, own_build}

-- the builds once that of the app is cleared
cleared_is : (key : BuildKey) (old mid : BuildKey → Slot) → Clears (is_same_build key) old mid → mid ≡ cleared key old
cleared_is key old mid clears = λ i q. clears q i

-- the app's build is empty then
pub empty_then : (key : BuildKey) (old mid : BuildKey → Slot) → Clears (is_same_build key) old mid → mid key ≡ emptied_slot (mid key)
empty_then key old mid clears =
    let is : mid key ≡ emptied_slot (old key) = clears key ∙ ap (λ (b : Bool). cond b (emptied_slot (old key)) (old key)) (is_same_itself key) in
    is ∙ twice (old key) ∙ ap emptied_slot (sym is)
  where
    twice : (slot : Slot) → emptied_slot slot ≡ emptied_slot (emptied_slot slot)
    twice (Here None) = refl
    twice (Here (Some held)) = refl
    twice Out = refl

filled_cleared : (files : List File) (slot : Slot) → slot_with files (emptied_slot slot) ≡ slot_with files slot
filled_cleared files (Here None) = refl
filled_cleared files (Here (Some held)) = refl
filled_cleared files Out = refl

-- cleared and then filled, it has just the files
left_by_both : (key : BuildKey) (files : List File) (old mid new : BuildKey → Slot) → Clears (is_same_build key) old mid → Leaves key files mid new →
    Leaves key files old new
left_by_both key files old mid new clears leaves q =
    leaves q ∙ ap (λ (s : Slot). cond (is_same_build key q) (slot_with files s) s) (clears q) ∙ at (is_same_build key q)
  where
    emptied : Bool → Slot
    emptied b = cond b (emptied_slot (old q)) (old q)

    at : (b : Bool) → cond b (slot_with files (emptied b)) (emptied b) ≡ cond b (slot_with files (old q)) (old q)
    at true = filled_cleared files (old q)
    at false = refl

calm_twice : (old mid new : Known) → IsCalm old mid → IsCalm mid new → IsCalm old new
calm_twice old mid new first next = (next.0 ∙ first.0, next.1 ∙ first.1)

-- what the task is compiled from, said of the store before its build was cleared
content_before : (task : Task) (old mid : Known) (outcome : Outcome) → mid.sources ≡ old.sources → Clears (is_same_build (own_build task)) old.slot mid.slot →
    (from : IsReadFrom task mid outcome) → IsContentFor task old (content_with task from.sources from.needs)
content_before task old mid outcome sources clears from = record {
  sources = from.sources;
  needs = from.needs;
  is = refl;
  read = subst (λ (told : Option (List File)). Told (record old { sources = told }) (λ files found. found ≡ sources_of task.src files) from.sources)
      sources from.read;
  built = subst (λ (slots : BuildKey → Slot). AllZip (IsNeedIn slots task.env) task.needs from.needs)
      (cleared_is (own_build task) old.slot mid.slot clears) from.built;
}

-- the task is compiled
pub is_compiled : (task : Task) (old mid read new : Known) (outcome : Outcome) (reply : Reply) → mid.sources ≡ old.sources →
    Clears (is_same_build (own_build task)) old.slot mid.slot → IsCalm old mid → IsReadFrom task mid outcome → read ≡ mid →
    Leaves (own_build task) outcome.files read.slot new.slot → IsCalm read new → reply.status ≡ outcome.status → reply.text ≡ outcome.text →
    IsCompiled task old new reply
is_compiled task old mid read new outcome reply sources clears calm from same leaves next status text =
    let content : Content = content_with task from.sources from.needs in
    record {
      content = content;
      source = content_before task old mid outcome sources clears from;
      status = status ∙ ap (λ (o : Outcome). o.status) from.is;
      text = text ∙ ap (λ (o : Outcome). o.text) from.is;
      tree = left_by_both (own_build task) (unit_meaning content).files old.slot mid.slot new.slot clears
          (subst (λ (files : List File). Leaves (own_build task) files mid.slot new.slot) (ap (λ (o : Outcome). o.files) from.is)
          (subst (λ (k : Known). Leaves (own_build task) outcome.files k.slot new.slot) same leaves));
      calm = calm_twice old mid new calm (subst (λ (k : Known). IsCalm k new) same next);
    }

-- ---- what is counted where a step fails

pub writes_stop : (X : Type 0) (old new : Known) (fault : KeptFault) → CountsWrites {X = X} (Err fault) old new → Stops fault old new
writes_stop X old new Read counts = inl counts.0
writes_stop X old new Tree counts = counts.1
writes_stop X old new OutOfMemory counts = counts

rose_either : (old new : Known) →
    (Rose old.faults new.faults × (new ≡ record old { faults = new.faults })) ⊎ (Rose old.returned new.returned × (new ≡ record old { returned = new.returned })) →
    Rose old.faults new.faults ⊎ Rose old.returned new.returned
rose_either old new (inl faults) = inl faults.0
rose_either old new (inr returned) = inr returned.0

pub reads_stop : (X : Type 0) (old new : Known) (fault : KeptFault) → ReadsBuilds {X = X} (Err fault) old new → Stops fault old new
reads_stop X old new Read reads = rose_either old new reads
reads_stop X old new Tree reads = absurd reads
reads_stop X old new OutOfMemory reads = (ap (λ (k : Known). k.faults) reads, ap (λ (k : Known). k.returned) reads)

-- nothing failed before the step that did
pub stops_later : (fault : KeptFault) (old mid new : Known) → IsCalm old mid → Stops fault mid new → Stops fault old new
stops_later Read old mid new calm (inl rose) = inl (subst (λ (n : ℕ). Rose n new.faults) calm.0 rose)
stops_later Read old mid new calm (inr rose) = inr (subst (λ (n : ℕ). Rose n new.returned) calm.1 rose)
stops_later Tree old mid new calm rose = subst (λ (n : ℕ). Rose n new.returned) calm.1 rose
stops_later OutOfMemory old mid new calm next = calm_twice old mid new calm next

-- ---- what stands

-- while the build is cleared
pub stands_cleared : (key : BuildKey) (old new : BuildKey → Slot) → ClearsPartly (is_same_build key) old new → ChangesOnly key old new
stands_cleared key old new part = record {
  own = at (part key);
  others = λ q other. elsewhere q other (part q);
}
  where
    at : (new key ≡ old key) ⊎ (IsTrue (is_same_build key key) × IsLeftAt (old key) (new key)) → MayStand (old key) (new key)
    at (inl same) = kept same
    at (inr (those, some)) = left some

    elsewhere : (q : BuildKey) → is_same_build key q ≡ false → (new q ≡ old q) ⊎ (IsTrue (is_same_build key q) × IsLeftAt (old q) (new q)) → new q ≡ old q
    elsewhere q other (inl same) = same
    elsewhere q other (inr (those, some)) = absurd (both_ways (is_same_build key q) other those)

-- once it is read
pub stands_read : (key : BuildKey) (old mid new : BuildKey → Slot) → ChangesOnly key old mid → new ≡ mid → ChangesOnly key old new
stands_read key old mid new stands same = subst (ChangesOnly key old) (sym same) stands

-- while it is filled
pub stands_filled : (key : BuildKey) (old mid new : BuildKey → Slot) → ChangesOnly key old mid → IsUnmarkedAt (new key) → OnlyAt key mid new → ChangesOnly key old new
stands_filled key old mid new stands unmarked others = record {
  own = filled unmarked;
  others = λ q other. others q other ∙ stands.others q other;
}

slots_either : (old new : Known) →
    (Rose old.faults new.faults × (new ≡ record old { faults = new.faults })) ⊎ (Rose old.returned new.returned × (new ≡ record old { returned = new.returned })) →
    new.slot ≡ old.slot
slots_either old new (inl faults) = ap (λ (k : Known). k.slot) faults.1
slots_either old new (inr returned) = ap (λ (k : Known). k.slot) returned.1

pub read_slots : (X : Type 0) (old new : Known) (fault : KeptFault) → ReadsBuilds {X = X} (Err fault) old new → new.slot ≡ old.slot
read_slots X old new Read reads = slots_either old new reads
read_slots X old new Tree reads = absurd reads
read_slots X old new OutOfMemory reads = ap (λ (k : Known). k.slot) reads

-- What is read of a build.
use Rattle.std.proofs.Common.{◌≡◌, ◌⊎◌, inl, inr, ℕ, suc, zero, ◌<◌, Bool, true, false, cond, Option, Some, None, IfSome, List, [], ◌∷◌, ◌++◌, length, get_or, Err, nat_lt, refl, sym, ◌∙◌, ap, subst, arith}
use Rattle.std.specs.List.{slice_get}
use Rattle.std.proofs.lemmas.Bool.{both_ways, lt-ltb}
use Rattle.std.proofs.lemmas.Option.{slice_get-get_or}
use Rattle.mx_base.specs.Blame.{is_outside}
use Rattle.mx_base.specs.Causes.{Counted, Rose}
use Rattle.mx_base.specs.declared.file.File.{File}
use Rattle.mx_base.specs.declared.row.FileRow.{FileRow}
use Rattle.mx_base.specs.Listing.{rows_of}
use Rattle.compile_model.specs.declared.job.Job.{Job}
use Rattle.compile_model.specs.declared.outcome.Outcome.{Outcome}
use Rattle.compile_model.specs.Content.{outcome_with}
use Rattle.build_manifest.specs.Mark.{MarkView}
use Rattle.build_manifest.specs.Text.{Spells}
use Rattle.build_manifest.proofs.Whole.{one_mark}
use Rattle.staleness.specs.declared.kept.Kept.{Kept}
use Rattle.staleness.specs.Matching.{same_rows}
use Rattle.staleness.proofs.DescribedLemmas.{rows_are, rows_themselves}
use Rattle.tree_store.specs.declared.holding.Holding.{Holding}
use Rattle.tree_store.specs.declared.key.BuildKey.{BuildKey}
use Rattle.tree_store.specs.declared.store.StoreFault.{StoreFault}
use Rattle.tree_store.specs.declared.store.StoreFault.TheVariants.{Failed, OutOfMemory}
use Rattle.tree_store.specs.Blame.{blame_of}
use Rattle.tree_store.specs.FolderKnown.{FolderKnown, Looks}
use Rattle.tree_store.specs.Key.{is_same_build}
use Rattle.tree_store.specs.Known.{Known, IsLent, TakesBack}
use Rattle.tree_store.specs.Slot.{Slot, SetsSlot}
use Rattle.tree_store.specs.Slot.Slot.{Here, Out}
use Rattle.tree_store.proofs.StoreLemmas.{lent_and_back}
use Rattle.honest_tree.specs.KeptOf.{IsKept, IsKeptAt, IsKeptOf, kept_with}
use Rattle.honest_tree.proofs.HonestLemmas.{same_bytes}
use Rattle.honest_tree.proofs.KeptLemmas.{some_kept}
use Rattle.kept_tree.specs.Faults.{ReadsBuilds, of_read}
use Rattle.kept_tree.specs.Reading.{IsKeptWith, IsMarkIn, IsWhole}

-- a mark that reads has a text
mark_text : (held : Holding) (mark : MarkView) → IsMarkIn held.mark (Some mark) → (bytes : List ℕ) × (held.mark ≡ Some bytes) × Spells bytes mark
mark_text held mark reads = at held.mark reads
  where
    at : (told : Option (List ℕ)) → IsMarkIn told (Some mark) → (bytes : List ℕ) × (told ≡ Some bytes) × Spells bytes mark
    at None reads = absurd (cc)
    at (Some bytes) reads = (bytes, refl, reads)

-- what is kept by a mark and the files
with_kept : (held : Holding) (mark : MarkView) (files : List File) (entry : Option Kept) → IsMarkIn held.mark (Some mark) → files ≡ held.files →
    IsKeptWith mark files entry → IsKeptOf held entry
with_kept held mark files (Some kept) reads own (listed, is) =
    let text = mark_text held mark reads in
    subst (IsKept held) (sym (is ∙ ap (kept_with mark) own)) (some_kept held text.0 mark text.1 text.2 (listed ∙ ap rows_of own))
with_kept held mark files None reads own unlisted = λ kept is.
    let text = mark_text held mark reads in
    let bytes : is.bytes ≡ text.0 = same_bytes is.bytes text.0 (sym is.marked ∙ text.1) in
    let one : kept.mark ≡ mark = one_mark text.0 kept.mark mark (subst (λ (b : List ℕ). Spells b kept.mark) bytes is.read) text.2 in
    unlisted (ap (λ (m : MarkView). m.outputs) (sym one) ∙ is.listed ∙ ap rows_of (sym own))

-- the same where it is told
pub told_with : (told : Option Holding) (mark : MarkView) (files : List File) (entry : Option Kept) →
    IfSome told (λ held. IsMarkIn held.mark (Some mark)) → IfSome told (λ held. files ≡ held.files) → IsKeptWith mark files entry →
    IfSome told (λ held. IsKeptOf held entry)
told_with None mark files entry reads own is = tt
told_with (Some held) mark files entry reads own is = with_kept held mark files entry reads own is

pub whole : (mark : MarkView) (files : List File) (entry : Option Kept) → IsKeptWith mark files entry → IfSome entry IsWhole
whole mark files None is = tt
whole mark files (Some kept) (listed, is) = subst IsWhole (sym is) (record { built = refl; listed = sym listed; text = refl })

pub looks_twice : (old mid new : FolderKnown) (failed : Bool) → Looks old mid false → Looks mid new failed → Looks old new failed
looks_twice old mid new failed first next =
    let still : mid.faults ≡ old.faults = first.cause.kept refl in
    record {
      same = next.same ∙ ap (λ (f : FolderKnown). record f { faults = new.faults }) first.same;
      cause = subst (λ (n : ℕ). Counted n new.faults failed) still next.cause;
    }

pub told_still : (P : Holding → Type 0) (old new : FolderKnown) (failed : Bool) → Looks old new failed → IfSome new.held P → IfSome old.held P
told_still P old new failed looks has = subst (λ (told : Option Holding). IfSome told P) (ap (λ (f : FolderKnown). f.held) looks.same) has

-- ---- in a store

-- a folder was handed out, was read and came back
module _ (key : BuildKey) (first last : FolderKnown) (old mid new : Known) (failed : Bool) (out : SetsSlot key Out old.slot mid.slot)
    (lent : mid ≡ record old { slot = mid.slot; faults = mid.faults }) (calm : mid.faults ≡ old.faults)
    (is : IsLent key (old.slot key) first) (looks : Looks first last failed) (back : TakesBack last mid new) where
  same_held : first.held ≡ last.held
  same_held = sym (ap (λ (f : FolderKnown). f.held) looks.same)

  same_slots : new.slot ≡ old.slot
  same_slots = λ i q. at q i
    where
      either : (q : BuildKey) (b : Bool) → new.slot q ≡ cond b (old.slot q) (old.slot q) → new.slot q ≡ old.slot q
      either q true e = e
      either q false e = e

      at : (q : BuildKey) → new.slot q ≡ old.slot q
      at q =
          either q (is_same_build key q)
          (lent_and_back key last.key (λ (s : Slot). s) last.held old.slot mid.slot new.slot out
          (ap (λ (f : FolderKnown). f.key) looks.same ∙ is.build) back.back (sym is.held ∙ ap Here same_held) q)

  pub came_back : new ≡ record old { returned = new.returned }
  came_back =
      back.rest
      ∙ ap (λ (k : Known). record k { slot = new.slot; returned = new.returned }) lent
      ∙ ap (λ (n : ℕ). record old { slot = new.slot; faults = n; returned = new.returned }) calm
      ∙ ap (λ (slots : BuildKey → Slot). record old { slot = slots; returned = new.returned }) same_slots

  before : mid.returned ≡ old.returned
  before = ap (λ (k : Known). k.returned) lent

  counted : Counted old.returned new.returned (nat_lt 0 last.faults)
  counted = subst (λ (n : ℕ). Counted n new.returned (nat_lt 0 last.faults)) before back.cause

  pub calm_back : failed ≡ false → new ≡ old
  calm_back well =
      let none : last.faults ≡ 0 = looks.cause.kept well ∙ is.fresh in
      let still : new.returned ≡ old.returned = counted.kept (ap (nat_lt 0) none) in
      came_back ∙ ap (λ (n : ℕ). record old { returned = n }) still

  pub rose_back : failed ≡ true → Rose old.returned new.returned
  rose_back ill = counted.rose (above last.faults (subst (λ (n : ℕ). Rose n last.faults) is.fresh (looks.cause.rose ill)))
    where
      above : (n : ℕ) → Rose 0 n → nat_lt 0 n ≡ true
      above zero rose = absurd (omega (arith, rose))
      above (suc n) rose = lt-ltb 0 (suc n) (omega arith)

pub lent_read : (X : Type 0) (key : BuildKey) (first last : FolderKnown) (old mid new : Known) (fault : StoreFault) →
    SetsSlot key Out old.slot mid.slot → mid ≡ record old { slot = mid.slot; faults = mid.faults } → mid.faults ≡ old.faults →
    IsLent key (old.slot key) first → Looks first last (is_outside (blame_of fault)) → TakesBack last mid new →
    ReadsBuilds {X = X} (Err (of_read fault)) old new
lent_read X key first last old mid new Failed out lent calm is looks back =
    inr (rose_back key first last old mid new true out lent calm is looks back refl, came_back key first last old mid new true out lent calm is looks back)
lent_read X key first last old mid new OutOfMemory out lent calm is looks back =
    calm_back key first last old mid new false out lent calm is looks back refl

-- what a folder that was handed out tells, its slot tells
pub slot_kept : (slot : Slot) (told : Option Holding) (entry : Option Kept) → Here told ≡ slot → IfSome told (λ held. IsKeptOf held entry) → IsKeptAt slot entry
slot_kept slot told entry is kept = subst (λ (s : Slot). IsKeptAt s entry) is (at told kept)
  where
    at : (told : Option Holding) → IfSome told (λ held. IsKeptOf held entry) → IsKeptAt (Here told) entry
    at None kept = tt
    at (Some held) kept = kept

-- ---- for each job

push_cases : {X : Type 0} (xs : List X) (x y : X) (k : ℕ) → slice_get (xs ++ x ∷ []) k ≡ Some y → (slice_get xs k ≡ Some y) ⊎ ((k ≡ length xs) × (x ≡ y))
push_cases [] x y zero h = let same : x ≡ y = cc in inr (refl, same)
push_cases [] x y (suc k) h = absurd (cc)
push_cases (z ∷ xs) x y zero h = inl h
push_cases (z ∷ xs) x y (suc k) h = at (push_cases xs x y k h)
  where
    at : (slice_get xs k ≡ Some y) ⊎ ((k ≡ length xs) × (x ≡ y)) → (slice_get xs k ≡ Some y) ⊎ ((suc k ≡ length (z ∷ xs)) × (x ≡ y))
    at (inl before) = inl before
    at (inr (last, same)) = inr (ap suc last, same)

-- what is kept of the first jobs
abbrev pub AreKeptSoFar : (BuildKey → Slot) → List ℕ → List Job → List (Option Kept) → Type 0
AreKeptSoFar slots env jobs kept =
    (place : ℕ) (job : Job) (entry : Option Kept) → slice_get jobs place ≡ Some job → slice_get kept place ≡ Some entry →
    IsKeptAt (slots (record { env = env; app = job.app })) entry

pub kept_more : (slots : BuildKey → Slot) (env : List ℕ) (jobs : List Job) (kept : List (Option Kept)) (job : Job) (entry : Option Kept) →
    length kept < length jobs → job ≡ get_or jobs (length kept) job → AreKeptSoFar slots env jobs kept →
    IsKeptAt (slots (record { env = env; app = job.app })) entry → AreKeptSoFar slots env jobs (kept ++ entry ∷ [])
kept_more slots env jobs kept job entry within own so_far now place other one there stands = at (push_cases kept entry one place stands)
  where
    at : (slice_get kept place ≡ Some one) ⊎ ((place ≡ length kept) × (entry ≡ one)) → IsKeptAt (slots (record { env = env; app = other.app })) one
    at (inl before) = so_far place other one there before
    at (inr (last, same)) =
        let read : slice_get jobs (length kept) ≡ Some (get_or jobs (length kept) job) = slice_get-get_or jobs (length kept) job within in
        let found : slice_get jobs (length kept) ≡ Some other = ap (slice_get jobs) (sym last) ∙ there in
        let again : Some job ≡ Some other = ap (λ (j : Job). Some j) own ∙ sym read ∙ found in
        let which : job ≡ other = cc in
        subst (λ (j : Job). IsKeptAt (slots (record { env = env; app = j.app })) one) which
        (subst (λ (e : Option Kept). IsKeptAt (slots (record { env = env; app = job.app })) e) same now)

-- ---- a mark with the outcome of files

pub not_listed : (outputs rows : List FileRow) (files : List File) → rows ≡ rows_of files → same_rows outputs rows ≡ false → outputs ≡ rows_of files → ⊥
not_listed outputs rows files are differ same =
    both_ways (same_rows outputs rows) differ
    (subst (λ (others : List FileRow). same_rows outputs others ≡ true) (same ∙ sym are) (rows_themselves outputs))

pub listed : (mark : MarkView) (files : List File) (outcome : Outcome) (text : List ℕ) → outcome ≡ outcome_with 0 text files → text ≡ mark.text →
    same_rows mark.outputs outcome.rows ≡ true → IsKeptWith mark files (Some (record { mark = mark; outcome = outcome }))
listed mark files outcome text is copy same = (
  rows_are mark.outputs outcome.rows same ∙ ap (λ (o : Outcome). o.rows) is,
  ap (λ (o : Outcome). record { mark = mark; outcome = o }) (is ∙ ap (λ (t : List ℕ). outcome_with 0 t files) copy),
)

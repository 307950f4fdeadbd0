-- The tree of the first jobs, one job more.
use Rattle.std.proofs.Common.{◌≡◌, ◌⊎◌, inl, inr, ℕ, zero, suc, ◌+◌, ◌<◌, ◌≤◌, Bool, true, false, cond, List, [], ◌∷◌, length, take, Some, None, Result, Ok, Err, OnOk, slice_get, refl, sym, ◌∙◌, ap, subst, arith}
use Rattle.std.proofs.lemmas.Bool.{cases_eq, cases_lt}
use Rattle.std.proofs.lemmas.Option.{get_or_from_slice_get, slice_get_within}
use Rattle.mx_base.specs.declared.file.File.{File}
use Rattle.compile_model.specs.declared.job.Job.{Job}
use Rattle.compile_model.specs.declared.job.Plan.{Plan}
use Rattle.compile_model.specs.declared.outcome.Fate.{Fate}
use Rattle.compile_model.specs.declared.outcome.Fate.TheVariants.{Built, Failed, Skipped}
use Rattle.compile_model.specs.declared.outcome.Outcome.{Outcome}
use Rattle.compile_model.specs.Planned.{ArePlanned}
use Rattle.compile_model.specs.Seq.{outcomes_of}
use Rattle.build_manifest.specs.MarkOf.{mark_of}
use Rattle.build_manifest.specs.Text.{Spells}
use Rattle.tree_store.specs.declared.holding.Holding.{Holding}
use Rattle.tree_store.specs.declared.key.BuildKey.{BuildKey}
use Rattle.tree_store.specs.Holding.{marked, nothing, only_files}
use Rattle.tree_store.specs.Key.{is_same_build}
use Rattle.tree_store.specs.Slot.{Slot, ChangesSlot, changed_slot, emptied_slot}
use Rattle.tree_store.specs.Slot.Slot.{Here, Out}
use Rattle.tree_store.proofs.OrderLemmas.{same_name, ties_itself}
use Rattle.tree_store.proofs.StoreLemmas.{is_same, same_key}
use Rattle.kept_tree.specs.Tree.{HoldsApp, HoldsAppAt, HoldsOutcome, IsBuiltAt, IsTree}
use Rattle.mix_plain.specs.Filling.{IsEmptyIn, first_of}

-- ---- the first of some jobs

take_within : (jobs : List Job) (n p : ℕ) (job : Job) → slice_get (take n jobs) p ≡ Some job → (p < n) × (slice_get jobs p ≡ Some job)
take_within [] zero p job e = cc
take_within [] (suc n) p job e = cc
take_within (one ∷ jobs) zero p job e = cc
take_within (one ∷ jobs) (suc n) zero job e = (omega arith, e)
take_within (one ∷ jobs) (suc n) (suc p) job e = let rest = take_within jobs n p job e in (omega (arith, rest.0), rest.1)

take_there : (jobs : List Job) (n p : ℕ) (job : Job) → p < n → slice_get jobs p ≡ Some job → slice_get (take n jobs) p ≡ Some job
take_there [] n p job lt e = cc
take_there (one ∷ jobs) zero p job lt e = absurd (omega (arith, lt))
take_there (one ∷ jobs) (suc n) zero job lt e = e
take_there (one ∷ jobs) (suc n) (suc p) job lt e = take_there jobs n p job (omega (arith, lt)) e

apart_before : (jobs : List Job) → ArePlanned jobs → (i j : ℕ) (one other : Job) → slice_get jobs i ≡ Some one → slice_get jobs j ≡ Some other
    → one.app ≡ other.app → i < j → ⊥
apart_before jobs planned i j one other a b same before =
    planned.apart i j one before (slice_get_within jobs j other b)
    (ap (λ (job : Job). job.app) (get_or_from_slice_get jobs i one one a) ∙ same
    ∙ sym (ap (λ (job : Job). job.app) (get_or_from_slice_get jobs j other one b)))

-- no app has two jobs
one_place : (jobs : List Job) → ArePlanned jobs → (i j : ℕ) (one other : Job) → slice_get jobs i ≡ Some one → slice_get jobs j ≡ Some other
    → one.app ≡ other.app → i ≡ j
one_place jobs planned i j one other a b same = at (cases_lt i j) (cases_lt j i)
  where
    at : (i < j) ⊎ (j ≤ i) → (j < i) ⊎ (i ≤ j) → i ≡ j
    at (inl before) next = absurd (apart_before jobs planned i j one other a b same before)
    at (inr least) (inl after) = absurd (apart_before jobs planned j i other one b a (sym same) after)
    at (inr least) (inr most) = omega (arith, least, most)

module _ (jobs : List Job) (fates : List Fate) (n : ℕ) (job : Job) (outcome : Outcome) where
  grow : IsBuiltAt (take n jobs) fates job outcome → IsBuiltAt (take (n + 1) jobs) fates job outcome
  grow at =
      let was = take_within jobs n at.place job at.stands in
      let below : at.place < n + 1 = omega (arith, was.0) in
      record { place = at.place; stands = take_there jobs (n + 1) at.place job below was.1; built = at.built }

  last_or : IsBuiltAt (take (n + 1) jobs) fates job outcome → IsBuiltAt (take n jobs) fates job outcome
      ⊎ ((slice_get jobs n ≡ Some job) × (slice_get fates n ≡ Some (Built outcome)))
  last_or at = elim (cases_eq at.place n) [
    | inl same ↦ inr (ap (slice_get jobs) (sym same) ∙ was.1, ap (slice_get fates) (sym same) ∙ at.built)
    | inr other ↦ inl (let below : at.place < n = omega (arith, was.0, other) in
        record { place = at.place; stands = take_there jobs n at.place job below was.1; built = at.built })
  ]
    where
      was : (at.place < n + 1) × (slice_get jobs at.place ≡ Some job)
      was = take_within jobs (n + 1) at.place job at.stands

  whole_first : length jobs ≡ n → IsBuiltAt jobs fates job outcome → IsBuiltAt (take n jobs) fates job outcome
  whole_first all at =
      let below : at.place < n = omega (arith, slice_get_within jobs at.place job at.stands, all) in
      record { place = at.place; stands = take_there jobs n at.place job below at.stands; built = at.built }

-- ---- one job more

module _ (jobs : List Job) (fates : List Fate) (planned : ArePlanned jobs) (n : ℕ) (job : Job) (here : slice_get jobs n ≡ Some job) where
  -- of another app, or not built
  other_more : (app : List ℕ) (held : Holding) → ((outcome : Outcome) → slice_get fates n ≡ Some (Built outcome) → job.app ≡ app → ⊥)
      → HoldsApp (take n jobs) fates app held → HoldsApp (take (n + 1) jobs) fates app held
  other_more app held never holds = record {
    built = λ one outcome at own. elim (last_or jobs fates n one outcome at) [
      | inl early ↦ holds.built one outcome early own
      | inr (there, built) ↦ absurd (let same : job ≡ one = let e : Some job ≡ Some one = sym here ∙ there in cc in
          never outcome built (ap (λ (j : Job). j.app) same ∙ own))
    ];
    unbuilt = λ none. holds.unbuilt (λ one outcome at own. none one outcome (grow jobs fates n one outcome at) own);
  }

  -- its own build, where it was built
  own_more : (outcome : Outcome) (bytes : List ℕ) (held : Holding) → slice_get fates n ≡ Some (Built outcome)
      → Spells bytes (mark_of job (outcomes_of fates job.needs) outcome) → held ≡ marked bytes (only_files outcome.files)
      → HoldsApp (take (n + 1) jobs) fates job.app held
  own_more outcome bytes held built spells is = record {
    built = λ one other at own.
        let was = take_within jobs (n + 1) at.place one at.stands in
        let same : at.place ≡ n = one_place jobs planned at.place n one job was.1 here own in
        let job_is : job ≡ one = let e : Some job ≡ Some one = sym here ∙ ap (slice_get jobs) (sym same) ∙ was.1 in cc in
        let outcome_is : outcome ≡ other = let e : Some (Built outcome) ≡ Some (Built other) = sym built ∙ ap (slice_get fates) (sym same) ∙ at.built in cc in
        subst (λ (x : Outcome). HoldsOutcome one (outcomes_of fates one.needs) x held) outcome_is
        (subst (λ (x : Job). HoldsOutcome x (outcomes_of fates x.needs) outcome held) job_is holds);
    unbuilt = λ none. let below : n < n + 1 = omega arith in
        absurd (none job outcome (record { place = n; stands = take_there jobs (n + 1) n job below here; built = built }) refl);
  }
    where
      holds : HoldsOutcome job (outcomes_of fates job.needs) outcome held
      holds = record {
        files = ap (λ (h : Holding). h.files) is;
        bytes = bytes;
        stands = ap (λ (h : Holding). h.mark) is;
        reads = spells;
      }

  other_at : (app : List ℕ) (slot : Slot) → ((outcome : Outcome) → slice_get fates n ≡ Some (Built outcome) → job.app ≡ app → ⊥)
      → HoldsAppAt (take n jobs) fates app slot → HoldsAppAt (take (n + 1) jobs) fates app slot
  other_at app (Here None) never holds = tt
  other_at app (Here (Some held)) never holds = other_more app held never holds
  other_at app Out never holds = absurd holds

  own_at : (outcome : Outcome) (bytes : List ℕ) (slot : Slot) → slice_get fates n ≡ Some (Built outcome)
      → Spells bytes (mark_of job (outcomes_of fates job.needs) outcome) → HoldsAppAt (take n jobs) fates job.app slot
      → HoldsAppAt (take (n + 1) jobs) fates job.app (changed_slot (λ held. marked bytes (only_files outcome.files)) slot)
  own_at outcome bytes (Here None) built spells holds = tt
  own_at outcome bytes (Here (Some held)) built spells holds = own_more outcome bytes (marked bytes (only_files outcome.files)) built spells refl
  own_at outcome bytes Out built spells holds = absurd holds

  -- before it its build is empty
  empty_at : (slot : Slot) → HoldsAppAt (take n jobs) fates job.app slot → slot ≡ emptied_slot slot
  empty_at (Here None) holds = refl
  empty_at (Here (Some held)) holds = ap (λ (h : Holding). Here (Some h)) (holds.unbuilt (λ one outcome at own.
      let was = take_within jobs n at.place one at.stands in
      apart_before jobs planned at.place n one job was.1 here own was.0))
  empty_at Out holds = absurd holds

-- ---- the same of a tree

module _ (plan : Plan) (fates : List Fate) (planned : ArePlanned plan.jobs) (n : ℕ) (job : Job) (here : slice_get plan.jobs n ≡ Some job) where
  abbrev key : BuildKey
  key = record { env = plan.env; app = job.app }

  pub empty_before : (slots : BuildKey → Slot) → IsTree (first_of n plan) fates slots
      → slots (record { env = plan.env; app = job.app }) ≡ emptied_slot (slots (record { env = plan.env; app = job.app }))
  empty_before slots tree = empty_at plan.jobs fates planned n job here (slots key) (tree key (ties_itself plan.env plan.env refl))

  pub tree_skips : (slots : BuildKey → Slot) → ((outcome : Outcome) → slice_get fates n ≡ Some (Built outcome) → ⊥)
      → IsTree (first_of n plan) fates slots → IsTree (first_of (n + 1) plan) fates slots
  tree_skips slots never tree q own = other_at plan.jobs fates planned n job here q.app (slots q) (λ outcome built same. never outcome built) (tree q own)

  pub tree_fills : (outcome : Outcome) (bytes : List ℕ) (old new : BuildKey → Slot) → slice_get fates n ≡ Some (Built outcome)
      → Spells bytes (mark_of job (outcomes_of fates job.needs) outcome)
      → ChangesSlot (record { env = plan.env; app = job.app }) (changed_slot (λ held. marked bytes (only_files outcome.files))) old new
      → IsTree (first_of n plan) fates old → IsTree (first_of (n + 1) plan) fates new
  tree_fills outcome bytes old new built spells changes tree q own = at (is_same_build key q) refl (changes q)
    where
      filled : Slot → Slot
      filled slot = changed_slot (λ held. marked bytes (only_files outcome.files)) slot

      at : (b : Bool) → is_same_build key q ≡ b → new q ≡ cond b (changed_slot (λ held. marked bytes (only_files outcome.files)) (old q)) (old q)
          → HoldsAppAt (take (n + 1) plan.jobs) fates q.app (new q)
      at true same is =
          let app : job.app ≡ q.app = (same_key key q same).1 in
          subst (HoldsAppAt (take (n + 1) plan.jobs) fates q.app) (sym is)
          (subst (λ (a : List ℕ). HoldsAppAt (take (n + 1) plan.jobs) fates a (changed_slot (λ held. marked bytes (only_files outcome.files)) (old q))) app
          (own_at plan.jobs fates planned n job here outcome bytes (old q) built spells
          (subst (λ (a : List ℕ). HoldsAppAt (take n plan.jobs) fates a (old q)) (sym app) (tree q own))))
      at false other is =
          subst (HoldsAppAt (take (n + 1) plan.jobs) fates q.app) (sym is)
          (other_at plan.jobs fates planned n job here q.app (old q)
          (λ outcome built same. let clash : false ≡ true = sym other ∙ is_same key q (same_name plan.env q.env own) same in cc) (tree q own))

-- what failed or was skipped isn't built
pub never_built : (fates : List Fate) (n : ℕ) (fate : Fate) → slice_get fates n ≡ Some fate
    → ((outcome : Outcome) × (fate ≡ Failed outcome)) ⊎ ((need : ℕ) × (fate ≡ Skipped need)) → (outcome : Outcome) → slice_get fates n ≡ Some (Built outcome) → ⊥
never_built fates n fate stands (inl (failed, is)) outcome built =
    let clash : Some (Failed failed) ≡ Some (Built outcome) = ap (λ (f : Fate). Some f) (sym is) ∙ sym stands ∙ built in cc
never_built fates n fate stands (inr (need, is)) outcome built =
    let clash : Some (Skipped need) ≡ Some (Built outcome) = ap (λ (f : Fate). Some f) (sym is) ∙ sym stands ∙ built in cc

-- .. where its build could be filled
pub tree_filled : {X E : Type 0} (result : Result X E) (plan : Plan) (fates : List Fate) → ArePlanned plan.jobs → (n : ℕ) (job : Job) → slice_get plan.jobs n ≡ Some job
    → (outcome : Outcome) (files : List File) (bytes : List ℕ) (old new : BuildKey → Slot) → slice_get fates n ≡ Some (Built outcome) → files ≡ outcome.files
    → Spells bytes (mark_of job (outcomes_of fates job.needs) outcome)
    → OnOk result (ChangesSlot (record { env = plan.env; app = job.app }) (changed_slot (λ held. marked bytes (only_files files))) old new)
    → IsTree (first_of n plan) fates old → OnOk result (IsTree (first_of (n + 1) plan) fates new)
tree_filled (Ok x) plan fates planned n job here outcome files bytes old new built same spells changes tree =
    tree_fills plan fates planned n job here outcome bytes old new built spells
    (subst (λ (fs : List File). ChangesSlot (record { env = plan.env; app = job.app }) (changed_slot (λ held. marked bytes (only_files fs))) old new) same changes) tree
tree_filled (Err e) plan fates planned n job here outcome files bytes old new built same spells changes tree = tt

none_first : (fates : List Fate) (app : List ℕ) (slot : Slot) → (slot ≡ Out → ⊥) → slot ≡ emptied_slot slot → HoldsAppAt [] fates app slot
none_first fates app (Here None) at_home empty = tt
none_first fates app (Here (Some held)) at_home empty = record {
  built = λ one outcome at own. let clash : None ≡ Some one = at.stands in cc;
  unbuilt = λ none. let e : Here (Some held) ≡ Here (Some nothing) = empty in cc;
}
none_first fates app Out at_home empty = absurd (at_home refl)

-- an empty environment is the tree of no job
pub tree_begins : (plan : Plan) (fates : List Fate) (slots : BuildKey → Slot) → ((q : BuildKey) → slots q ≡ Out → ⊥) → IsEmptyIn plan.env slots
    → IsTree (first_of 0 plan) fates slots
tree_begins plan fates slots at_home empty q own = none_first fates q.app (slots q) (at_home q) (empty q own)

whole_at : (jobs : List Job) (fates : List Fate) (n : ℕ) (app : List ℕ) (slot : Slot) → length jobs ≡ n → HoldsAppAt (take n jobs) fates app slot
    → HoldsAppAt jobs fates app slot
whole_at jobs fates n app (Here None) all holds = tt
whole_at jobs fates n app (Here (Some held)) all holds = record {
  built = λ one outcome at own. holds.built one outcome (whole_first jobs fates n one outcome all at) own;
  unbuilt = λ none. holds.unbuilt (λ one outcome at own. none one outcome
      (record { place = at.place; stands = (take_within jobs n at.place one at.stands).1; built = at.built }) own);
}
whole_at jobs fates n app Out all holds = absurd holds

-- that of all of them is the plan's
pub tree_ends : (plan : Plan) (fates : List Fate) (n : ℕ) (slots : BuildKey → Slot) → length plan.jobs ≡ n → IsTree (first_of n plan) fates slots
    → IsTree plan fates slots
tree_ends plan fates n slots all tree q own = whole_at plan.jobs fates n q.app (slots q) all (tree q own)

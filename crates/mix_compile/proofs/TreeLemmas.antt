-- The tree of a plan, once each place has its fate.
use Rattle.std.proofs.Common.{◌≡◌, ◌≢◌, ◌⊎◌, inl, inr, ℕ, zero, suc, ◌<◌, Bool, true, false, cond, List, [], ◌∷◌, ◌++◌, length, map, Option, Some, None, option_map, IfSome, slice_get, Contains, refl, sym, ◌∙◌, ap, subst, arith}
use Rattle.std.specs.Option.{option_and_then}
use Rattle.compile_model.specs.declared.job.Job.{Job}
use Rattle.compile_model.specs.declared.job.Plan.{Plan}
use Rattle.compile_model.specs.declared.outcome.Fate.{Fate}
use Rattle.compile_model.specs.declared.outcome.Fate.TheVariants.{Built}
use Rattle.compile_model.specs.declared.outcome.Outcome.{Outcome}
use Rattle.compile_model.specs.Content.{Content}
use Rattle.compile_model.specs.Planned.{ArePlanned}
use Rattle.compile_model.specs.Seq.{first_unbuilt, outcomes_of, seq}
use Rattle.build_manifest.specs.declared.mark.MarkFormat.{MarkFormat}
use Rattle.build_manifest.specs.declared.mark.MarkFormat.TheVariants.{One, Two}
use Rattle.build_manifest.specs.Diagnostics.{diagnostics_of}
use Rattle.build_manifest.specs.Mark.{MarkView}
use Rattle.build_manifest.specs.MarkOf.{mark_of, upgraded}
use Rattle.build_manifest.specs.Text.{Spells}
use Rattle.build_manifest.proofs.Whole.{one_mark}
use Rattle.staleness.specs.declared.kept.Kept.{Kept}
use Rattle.staleness.specs.Matching.{matches}
use Rattle.honest_tree.specs.Given.{Given, NoClash, outcome_of}
use Rattle.honest_tree.specs.Honest.{Honest, IsHonest, IsHonestSlot}
use Rattle.honest_tree.proofs.HonestLemmas.{same_bytes}
use Rattle.honest_tree.proofs.KeptLemmas.{kept_mark}
use Rattle.kept_tree.specs.Clearing.{is_among, is_in_env}
use Rattle.kept_tree.specs.Rewriting.{IsNew, IsRenewal, IsRewritten, IsRewrittenAt}
use Rattle.kept_tree.specs.Tree.{HoldsApp, HoldsAppAt, HoldsOutcome, IsBuiltAt, IsTree}
use Rattle.tree_store.specs.declared.holding.Holding.{Holding}
use Rattle.tree_store.specs.declared.key.BuildKey.{BuildKey}
use Rattle.tree_store.specs.Holding.{marked, nothing}
use Rattle.tree_store.specs.Slot.{Slot, AllHere, emptied_slot}
use Rattle.tree_store.specs.Slot.Slot.{Here, Out}
use Rattle.tree_store.proofs.OrderLemmas.{same_name}
use Rattle.partition_core.specs.State.{Opening, at, first_open, kept_matches, needs_at, needs_of, outcomes_now}
use Rattle.partition_core.specs.Histories.{Agrees}
use Rattle.partition_core.proofs.Needs.{all_built, all_outcomes}
use Rattle.partition_crew.specs.Build.{inputs_of}
use Rattle.partition_board.specs.Holds.{HoldsBuilt, HoldsBy, WasKept, WasMade}
use Rattle.partition_crew.specs.Work.{given_by}
use Rattle.partition_crew.proofs.Inputs.{among_later}
use Rattle.partition_crew.proofs.Planning.{planned_named}
use Rattle.mix_compile.specs.Lending.{HoldsAt, key_of}
use Rattle.mix_compile.specs.Settling.{SettledIf, Settles, built_apps}
use Rattle.mix_compile.proofs.AppLemmas.{built_there, there_built}
use Rattle.mix_compile.proofs.LendLemmas.{get_map}
use Rattle.mix_compile.proofs.MadeLemmas.{among_first}
use Rattle.mix_compile.proofs.SoundLemmas.{input_among, one_each}
use Rattle.mix_compile.proofs.TakeLemmas.{one_place}

-- each place has the fate of a list
pub at_whole : (fates : List Fate) (place : ℕ) (fate : Fate) → slice_get fates place ≡ Some fate → at (map Some fates) place ≡ Some fate
at_whole fates place fate is = ap (option_and_then (λ (x : Option Fate). x)) (get_map (λ (f : Fate). Some f) fates place fate is)

whole_at : (fates : List Fate) (place : ℕ) (fate : Fate) → at (map Some fates) place ≡ Some fate → slice_get fates place ≡ Some fate
whole_at [] place fate e = cc
whole_at (f ∷ fs) zero fate e = e
whole_at (f ∷ fs) (suc place) fate e = whole_at fs place fate e

pub whole_agrees : (fates : List Fate) → Agrees (map Some fates) fates
whole_agrees fates place fate e = whole_at fates place fate e

-- among inputs of which it is one
clash_free : (known : List Given) (given : Given) → ((x : Given) → Contains (given ∷ known) x → Contains known x)
    → NoClash known → NoClash (given ∷ known)
clash_free known given within apart one other a b same = apart one other (within one a) (within other b) same

-- ---- one build

-- a mark that is rewritten to this one
record IsOwn (mark own : MarkView) : Type 0 where
  newer : upgraded mark ≡ own
  new : (mark.format ≡ One → ⊥) → mark ≡ own

rewritten_own : (job : Job) (needs : List Outcome) (outcome : Outcome) (bytes : List ℕ) (mark : MarkView) (held new : Holding) → held.files ≡ outcome.files
    → held.mark ≡ Some bytes → Spells bytes mark → IsOwn mark (mark_of job needs outcome) → IsRewritten held new → HoldsOutcome job needs outcome new
rewritten_own job needs outcome bytes mark held new files stands reads own (inl (is_new, same)) = record {
  files = ap (λ (h : Holding). h.files) same ∙ files;
  bytes = bytes;
  stands = ap (λ (h : Holding). h.mark) same ∙ stands;
  reads = subst (Spells bytes) (own.new (is_new bytes mark stands reads)) reads;
}
rewritten_own job needs outcome bytes mark held new files stands reads own (inr (text, renewal, same)) =
    let alike : renewal.bytes ≡ bytes = same_bytes renewal.bytes bytes (sym renewal.stands ∙ stands) in
    let one : renewal.mark ≡ mark = one_mark bytes renewal.mark mark (subst (λ (t : List ℕ). Spells t renewal.mark) alike renewal.read) reads in
    record {
      files = ap (λ (h : Holding). h.files) same ∙ files;
      bytes = text;
      stands = ap (λ (h : Holding). h.mark) same;
      reads = subst (Spells text) (ap upgraded one ∙ own.newer) renewal.newer;
    }

-- the mark that was made for an outcome
made_own : (job : Job) (needs : List Outcome) (outcome : Outcome) (mark : MarkView) → mark ≡ mark_of job needs outcome → IsOwn mark (mark_of job needs outcome)
made_own job needs outcome mark is = record {
  newer = ap upgraded is;
  new = λ new. is;
}

module _ (compile : Content → Outcome) (plan : Plan) (planned : ArePlanned plan.jobs) (kept : List (Option Kept)) (n : ℕ) (known : List Given)
    (fates : List Fate) (is_seq : fates ≡ seq compile plan.jobs) (apart : NoClash (known ++ inputs_of compile plan.jobs)) where
  abbrev o : Opening
  o = record { plan = plan; kept = kept; partitions = n }

  abbrev inputs : List Given
  inputs = known ++ inputs_of compile plan.jobs

  -- the outcome that was kept is the one that the input means
  abbrev Means : Type 0
  Means = (place : ℕ) (k : Kept) (job : Job) → at kept place ≡ Some k → slice_get plan.jobs place ≡ Some job → first_unbuilt (seq compile plan.jobs) job.needs ≡ None
      → matches k.mark job (outcomes_of (seq compile plan.jobs) job.needs) ≡ true
      → k.outcome ≡ outcome_of compile (given_by job (outcomes_of (seq compile plan.jobs) job.needs))

  kept_own : Means → (place : ℕ) (job : Job) (outcome : Outcome) (bytes : List ℕ) (mark : MarkView) (held : Holding) → slice_get plan.jobs place ≡ Some job
      → IsHonest compile inputs held → held.mark ≡ Some bytes → Spells bytes mark
      → WasKept o (map Some fates) place (record { mark = mark; outcome = outcome })
      → IsOwn mark (mark_of job (outcomes_of fates job.needs) outcome)
  kept_own means place job outcome bytes mark held here honest stands reads was =
      let ready_here : first_open (map Some fates) job.needs ≡ None = ap (λ (j : Option Job). first_open (map Some fates) (needs_of j)) (sym here) ∙ was.ready in
      let outcomes : outcomes_now (map Some fates) job.needs ≡ outcomes_of fates job.needs = all_outcomes (map Some fates) fates (whole_agrees fates) job.needs ready_here in
      let unbuilt : first_unbuilt fates job.needs ≡ None = all_built (map Some fates) fates (whole_agrees fates) job.needs ready_here in
      let in_seq : first_unbuilt (seq compile plan.jobs) job.needs ≡ None = ap (λ (fs : List Fate). first_unbuilt fs job.needs) (sym is_seq) ∙ unbuilt in
      let fits_here : kept_matches (Some (record { mark = mark; outcome = outcome })) (Some job) (outcomes_now (map Some fates) job.needs) ≡ true =
      ap (λ (j : Option Job). kept_matches (Some (record { mark = mark; outcome = outcome })) j (outcomes_now (map Some fates) (needs_of j))) (sym here) ∙ was.fits in
      let fits : matches mark job (outcomes_of (seq compile plan.jobs) job.needs) ≡ true =
      ap (matches mark job) (ap (λ (fs : List Fate). outcomes_of fs job.needs) (sym is_seq) ∙ sym outcomes) ∙ fits_here in
      let given : Given = given_by job (outcomes_of (seq compile plan.jobs) job.needs) in
      let among = among_later known (inputs_of compile plan.jobs) given (input_among compile plan.jobs place job here in_seq) in
      let own = kept_mark compile inputs held bytes mark given honest stands reads (clash_free inputs given (within given among) apart)
      (one_each (seq compile plan.jobs) job.needs in_seq ∙ sym (planned_named plan.jobs place job planned here)) fits in
      let same : outcome ≡ outcome_of compile given = means place (record { mark = mark; outcome = outcome }) job was.entry here in_seq fits in
      let to : mark_of job (outcomes_of (seq compile plan.jobs) job.needs) (outcome_of compile given) ≡ mark_of job (outcomes_of fates job.needs) outcome =
      ap (λ (fs : List Fate). mark_of job (outcomes_of fs job.needs) (outcome_of compile given)) (sym is_seq)
      ∙ ap (λ (x : Outcome). mark_of job (outcomes_of fates job.needs) x) (sym same) in
      record { newer = own.0 ∙ to; new = λ new. own.1 new ∙ to }
    where
      within : (given : Given) → Contains inputs given → (x : Given) → Contains (given ∷ inputs) x
          → Contains inputs x
      within given among x (zero, below, is) = subst (Contains inputs) is among
      within given among x (suc place, below, is) = (place, omega (arith, below), is)

  -- what was built holds its outcome and its mark, once older marks are written again
  built_own : Means → (place : ℕ) (job : Job) (outcome : Outcome) (held new : Holding) → slice_get plan.jobs place ≡ Some job → IsHonest compile inputs held
      → HoldsBuilt o (map Some fates) place outcome held → IsRewritten held new → HoldsOutcome job (outcomes_of fates job.needs) outcome new
  built_own means place job outcome held new here honest holds rewritten =
      rewritten_own job (outcomes_of fates job.needs) outcome holds.bytes holds.mark held new holds.files holds.stands holds.reads (own holds.own) rewritten
    where
      own : WasKept o (map Some fates) place (record { mark = holds.mark; outcome = outcome })
          ⊎ ((j : Job) × (slice_get plan.jobs place ≡ Some j) × WasMade j (map Some fates) outcome holds.mark)
          → IsOwn holds.mark (mark_of job (outcomes_of fates job.needs) outcome)
      own (inl was) = kept_own means place job outcome holds.bytes holds.mark held here honest holds.stands holds.reads was
      own (inr (j, there, made)) =
          let same : j ≡ job = let e : Some j ≡ Some job = sym there ∙ here in cc in
          let ready : first_open (map Some fates) job.needs ≡ None = ap (λ (x : Job). first_open (map Some fates) x.needs) (sym same) ∙ made.ready in
          made_own job (outcomes_of fates job.needs) outcome holds.mark (made.own
          ∙ ap (λ (x : Job). mark_of x (outcomes_now (map Some fates) x.needs) outcome) same
          ∙ ap (λ (needs : List Outcome). mark_of job needs outcome) (all_outcomes (map Some fates) fates (whole_agrees fates) job.needs ready))

  -- ---- each build

  module _ (means : Means) (old new : BuildKey → Slot) (home : AllHere old) (honest : Honest compile inputs old)
      (left : (place : ℕ) (job : Job) → slice_get plan.jobs place ≡ Some job
      → HoldsAt (HoldsBy o (map Some fates) place (at (map Some fates) place)) (old (key_of plan.env job)))
      (settles : Settles plan.env (built_apps plan.jobs fates) old new) where
    app_built : (place : ℕ) (job : Job) (outcome : Outcome) (app : List ℕ) → slice_get plan.jobs place ≡ Some job → slice_get fates place ≡ Some (Built outcome)
        → job.app ≡ app → (was is : Slot) → HoldsAt (HoldsBuilt o (map Some fates) place outcome) was → IsHonestSlot compile inputs was → IsRewrittenAt was is
        → HoldsAppAt plan.jobs fates app is
    app_built place job outcome app here fate own (Here None) (Here told) holds h rewritten = subst (λ (t : Option Holding). HoldsAppAt plan.jobs fates app (Here t)) (sym rewritten) tt
    app_built place job outcome app here fate own (Here (Some held)) (Here None) holds h rewritten = absurd rewritten
    app_built place job outcome app here fate own (Here (Some held)) (Here (Some now)) holds h rewritten = record {
      built = λ j x at_j same.
          let one : at_j.place ≡ place = one_place plan.jobs planned at_j.place place j job at_j.stands here (same ∙ sym own) in
          let job_is : job ≡ j = let e : Some job ≡ Some j = sym here ∙ ap (slice_get plan.jobs) (sym one) ∙ at_j.stands in cc in
          let outcome_is : outcome ≡ x = let e : Some (Built outcome) ≡ Some (Built x) = sym fate ∙ ap (slice_get fates) (sym one) ∙ at_j.built in cc in
          subst (λ (y : Outcome). HoldsOutcome j (outcomes_of fates j.needs) y now) outcome_is
          (subst (λ (y : Job). HoldsOutcome y (outcomes_of fates y.needs) outcome now) job_is (built_own means place job outcome held now here h holds rewritten));
      unbuilt = λ none. absurd (none job outcome (record { place = place; stands = here; built = fate }) own);
    }
    app_built place job outcome app here fate own (Here told) Out holds h rewritten = absurd rewritten
    app_built place job outcome app here fate own Out is holds h rewritten = absurd holds

    app_unbuilt : (app : List ℕ) → is_among (built_apps plan.jobs fates) app ≡ false → (was is : Slot) → (was ≡ Out → ⊥) → is ≡ emptied_slot was
        → HoldsAppAt plan.jobs fates app is
    app_unbuilt app none (Here None) is at_home cleared = subst (HoldsAppAt plan.jobs fates app) (sym cleared) tt
    app_unbuilt app none (Here (Some held)) is at_home cleared = subst (HoldsAppAt plan.jobs fates app) (sym cleared) (record {
      built = λ j x at_j same.
          let clash : false ≡ true = sym none ∙ there_built plan.jobs fates at_j.place j x app at_j.stands at_j.built same in cc;
      unbuilt = λ never. refl;
    })
    app_unbuilt app none Out is at_home cleared = absurd (at_home refl)

    pub settled_tree : IsTree plan fates new
    settled_tree q here = split (is_among (built_apps plan.jobs fates) q.app) refl (settles q here)
      where
        split : (b : Bool) → is_among (built_apps plan.jobs fates) q.app ≡ b → SettledIf b (old q) (new q) → HoldsAppAt plan.jobs fates q.app (new q)
        split true among settled =
            let there = built_there plan.jobs fates q.app among in
            let key : key_of plan.env there.1 ≡ q = ap₂_key (same_name plan.env q.env here) there.5 in
            app_built there.0 there.1 there.2 q.app there.3 there.4 there.5 (old q) (new q)
            (subst (λ (k : BuildKey). HoldsAt (HoldsBuilt o (map Some fates) there.0 there.2) (old k)) key
            (subst (λ (f : Option Fate). HoldsAt (HoldsBy o (map Some fates) there.0 f) (old (key_of plan.env there.1))) (at_whole fates there.0 (Built there.2) there.4)
            (left there.0 there.1 there.3))) (honest q) settled
          where
            ap₂_key : {a b c d : List ℕ} → a ≡ b → c ≡ d → ◌≡◌ {A = BuildKey} (record { env = a; app = c }) (record { env = b; app = d })
            ap₂_key {a} {b} {c} {d} e f = ap (λ (x : List ℕ). record { env = x; app = c }) e ∙ ap (λ (x : List ℕ). record { env = b; app = x }) f
        split false none settled = app_unbuilt q.app none (old q) (new q) (home q) settled

-- What is kept of an honest tree is what compiling means.
use Rattle.std.proofs.Common.{◌≡◌, ℕ, zero, suc, ◌+◌, ◌<◌, ◌≤◌, Bool, true, false, cond, not, ◌&&◌, List, [], ◌∷◌, ◌++◌, length, map, filter_map, get_or, Option, Some, None, IfSome, All, is_none, is_some, slice_get, Contains, refl, sym, ◌∙◌, ap, ap₂, subst, arith}
use Rattle.std.specs.List.{cons_option}
use Rattle.std.specs.Option.{option_and_then}
use Rattle.std.proofs.lemmas.Option.{get_or_from_slice_get, slice_get_within}
use Rattle.compile_model.specs.declared.job.Job.{Job}
use Rattle.compile_model.specs.declared.job.Plan.{Plan}
use Rattle.compile_model.specs.declared.outcome.Fate.{Fate}
use Rattle.compile_model.specs.declared.outcome.Outcome.{Outcome}
use Rattle.compile_model.specs.Content.{Content, content_of}
use Rattle.compile_model.specs.Planned.{ArePlanned, IsNamed, IsSound}
use Rattle.compile_model.specs.Seq.{first_unbuilt, outcome_at, outcomes_of, seq}
use Rattle.staleness.specs.declared.kept.Kept.{Kept}
use Rattle.staleness.specs.Matching.{matches}
use Rattle.honest_tree.specs.Given.{Given, NoClash}
use Rattle.honest_tree.specs.Honest.{Honest, IsHonest, IsHonestSlot}
use Rattle.honest_tree.specs.KeptOf.{AreKeptOf, IsKept, IsKeptAt, IsKeptOf}
use Rattle.honest_tree.proofs.KeptLemmas.{kept_outcome, one_kept}
use Rattle.kept_tree.specs.Reading.{IsWhole}
use Rattle.tree_store.specs.declared.holding.Holding.{Holding}
use Rattle.tree_store.specs.declared.key.BuildKey.{BuildKey}
use Rattle.tree_store.specs.FolderKnown.{FolderKnown}
use Rattle.tree_store.specs.Slot.{Slot}
use Rattle.tree_store.specs.Slot.Slot.{Here, Out}
use Rattle.tree_store.proofs.MomentLemmas.{if_told}
use Rattle.partition_core.specs.State.{Opening, at, kept_matches, needs_at, needs_of}
use Rattle.partition_core.specs.Counts.{count_below, is_compiled}
use Rattle.partition_core.specs.Histories.{Sound}
use Rattle.partition_core.proofs.Needs.{head_built, rest_built}
use Rattle.partition_core.proofs.Places.{also_there, at_some}
use Rattle.partition_crew.specs.Build.{by_one, input_by, inputs_of}
use Rattle.partition_board.specs.Holds.{AreReady, HoldsKept}
use Rattle.partition_crew.specs.Work.{given_by}
use Rattle.partition_crew.proofs.Inputs.{among_filtered, among_later}
use Rattle.partition_crew.proofs.Planning.{planned_named}
use Rattle.mix_compile.specs.Lending.{AreTold, IsTold, key_of}
use Rattle.mix_compile.proofs.MadeLemmas.{among_first}

pub told_is : (slot : Slot) → IsTold slot → (held : Holding) × (slot ≡ Here (Some held))
told_is (Here None) told = absurd told
told_is (Here (Some held)) told = (held, refl)
told_is Out told = absurd told

pub kept_is : (slot : Slot) (held : Holding) (entry : Option Kept) → slot ≡ Here (Some held) → IsKeptAt slot entry → IsKeptOf held entry
kept_is slot held entry is kept = subst (λ (s : Slot). IsKeptAt s entry) is kept

pub honest_is : (compile : Content → Outcome) (known : List Given) (slot : Slot) (held : Holding) → slot ≡ Here (Some held) → IsHonestSlot compile known slot
    → IsHonest compile known held
honest_is compile known slot held is honest = subst (IsHonestSlot compile known) is honest

-- one outcome for each need, where all are built
pub one_each : (fates : List Fate) (needs : List ℕ) → first_unbuilt fates needs ≡ None → length (outcomes_of fates needs) ≡ length needs
one_each fates [] e = refl
one_each fates (need ∷ needs) e =
    let built = head_built (outcome_at fates need) (first_unbuilt fates needs) need e in
    let rest = one_each fates needs (rest_built (outcome_at fates need) (first_unbuilt fates needs) need e) in
    ap (λ (o : Option Outcome). length (cons_option o (outcomes_of fates needs))) built.1 ∙ (omega (arith, rest))

-- the input of a job whose needs are all built is one of the plan's
pub input_among : (compile : Content → Outcome) (jobs : List Job) (place : ℕ) (job : Job) → slice_get jobs place ≡ Some job
    → first_unbuilt (seq compile jobs) job.needs ≡ None → Contains (inputs_of compile jobs) (given_by job (outcomes_of (seq compile jobs) job.needs))
input_among compile jobs place job here ready =
    among_filtered (input_by (seq compile jobs)) jobs place job (given_by job (outcomes_of (seq compile jobs) job.needs)) here
    (ap (λ (first : Option ℕ). cond (is_none first) (Some (given_by job (outcomes_of (seq compile jobs) job.needs))) None) ready)

-- one of these inputs beside what is known
pub no_clash_one : (known more : List Given) (given : Given) → Contains more given → NoClash (known ++ more) → NoClash (given ∷ known)
no_clash_one known more given among apart one other a b same = apart one other (within one a) (within other b) same
  where
    within : (x : Given) → Contains (given ∷ known) x → Contains (known ++ more) x
    within x (zero, below, is) = subst (Contains (known ++ more)) is (among_later known more given among)
    within x (suc place, below, is) = among_first known more x (place, omega (arith, below), is)

module _ (compile : Content → Outcome) (plan : Plan) (planned : ArePlanned plan.jobs) (kept : List (Option Kept)) (slots : BuildKey → Slot)
    (known : List Given) (are : AreKeptOf slots plan kept) (told : AreTold plan slots) (honest : Honest compile known slots)
    (apart : NoClash (known ++ inputs_of compile plan.jobs)) where
  -- what is kept of a job whose mark matches its input
  pub kept_means : (place : ℕ) (k : Kept) (job : Job) → at kept place ≡ Some k → slice_get plan.jobs place ≡ Some job
      → first_unbuilt (seq compile plan.jobs) job.needs ≡ None → matches k.mark job (outcomes_of (seq compile plan.jobs) job.needs) ≡ true
      → k.outcome ≡ compile (content_of job (outcomes_of (seq compile plan.jobs) job.needs))
  kept_means place k job has here ready match =
      let held = told_is (slots (key_of plan.env job)) (told place job here) in
      let is : IsKept held.0 k = kept_is (slots (key_of plan.env job)) held.0 (Some k) held.1 (are.at place job (Some k) here (at_some kept place k has)) in
      let given : Given = given_by job (outcomes_of (seq compile plan.jobs) job.needs) in
      kept_outcome compile known held.0 k given (honest_is compile known (slots (key_of plan.env job)) held.0 held.1 (honest (key_of plan.env job))) is
      (no_clash_one known (inputs_of compile plan.jobs) given (input_among compile plan.jobs place job here ready) apart)
      (one_each (seq compile plan.jobs) job.needs ready ∙ sym (planned_named plan.jobs place job planned here)) match

  pub kept_sound : All (λ entry. IfSome entry IsWhole) kept → Sound compile (by_one plan kept)
  kept_sound whole = record {
    status = λ place k has.
        let there = at_some kept place k has in
        let entry : IfSome (Some k) IsWhole = subst (λ (e : Option Kept). IfSome e IsWhole) (get_or_from_slice_get kept place (Some k) None there)
        (whole place None (slice_get_within kept place (Some k) there)) in
        entry.built;
    same = kept_means;
  }

-- ---- the places that have to be compiled

-- what is kept is one thing, where the builds are told
same_kept : (plan : Plan) (slots : BuildKey → Slot) (one other : List (Option Kept)) → AreKeptOf slots plan one → AreKeptOf slots plan other
    → AreTold plan slots → (place : ℕ) (job : Job) → slice_get plan.jobs place ≡ Some job → at one place ≡ at other place
same_kept plan slots one other a b told place job here =
    let held = told_is (slots (key_of plan.env job)) (told place job here) in
    let x = also_there plan.jobs one place job (sym a.each) here in
    let y = also_there plan.jobs other place job (sym b.each) here in
    ap (option_and_then (λ (e : Option Kept). e)) (x.1
    ∙ ap (λ (e : Option Kept). Some e) (entries held.0 x.0 y.0 (kept_is (slots (key_of plan.env job)) held.0 x.0 held.1 (a.at place job x.0 here x.1))
    (kept_is (slots (key_of plan.env job)) held.0 y.0 held.1 (b.at place job y.0 here y.1)))
    ∙ sym y.1)
  where
    entries : (held : Holding) (x y : Option Kept) → IsKeptOf held x → IsKeptOf held y → x ≡ y
    entries held None None p q = refl
    entries held None (Some k) p q = absurd (p k q)
    entries held (Some k) None p q = absurd (q k p)
    entries held (Some k) (Some l) p q = ap (λ (e : Kept). Some e) (one_kept held k l p q)

count_same : (f g : ℕ → Bool) (n : ℕ) → ((p : ℕ) → p < n → f p ≡ g p) → count_below f n ≡ count_below g n
count_same f g zero same = refl
count_same f g (suc n) same =
    ap₂ (λ (b : Bool) (m : ℕ). cond b 1 0 + m) (same n (omega arith)) (count_same f g n (λ p below. same p (omega (arith, below))))

-- so are the stale places
pub same_stale : (compile : Content → Outcome) (plan : Plan) (slots : BuildKey → Slot) (one other : List (Option Kept)) (m n : ℕ) → AreKeptOf slots plan one
    → AreKeptOf slots plan other → AreTold plan slots
    → count_below (is_compiled compile (record { plan = plan; kept = one; partitions = m })) (length plan.jobs)
    ≡ count_below (is_compiled compile (record { plan = plan; kept = other; partitions = n })) (length plan.jobs)
same_stale compile plan slots one other m n a b told =
    count_same (is_compiled compile (record { plan = plan; kept = one; partitions = m })) (is_compiled compile (record { plan = plan; kept = other; partitions = n }))
    (length plan.jobs) (λ p below.
    let found = some_at plan.jobs p below in
    let needs : List ℕ = needs_of (slice_get plan.jobs p) in
    ap (λ (k : Option Kept). is_none (first_unbuilt (seq compile plan.jobs) needs) && not
    (kept_matches k (slice_get plan.jobs p) (outcomes_of (seq compile plan.jobs) needs))) (same_kept plan slots one other a b told p found.0 found.1))
  where
    some_at : (jobs : List Job) (p : ℕ) → p < length jobs → (job : Job) × (slice_get jobs p ≡ Some job)
    some_at [] p below = absurd (omega (arith, below))
    some_at (job ∷ jobs) zero below = (job, refl)
    some_at (job ∷ jobs) (suc p) below = some_at jobs p (omega (arith, below))

-- ---- before the build

-- the folders hold what was kept
pub kept_ready : (plan : Plan) (kept : List (Option Kept)) (slots : BuildKey → Slot) (folders : List FolderKnown) → AreKeptOf slots plan kept
    → length folders ≡ length plan.jobs → ((place : ℕ) (folder : FolderKnown) → slice_get folders place ≡ Some folder → folder.faults ≡ 0)
    → ((place : ℕ) (job : Job) (folder : FolderKnown) → slice_get plan.jobs place ≡ Some job → slice_get folders place ≡ Some folder
    → slots (key_of plan.env job) ≡ Here folder.held) → AreReady (by_one plan kept) folders
kept_ready plan kept slots folders are long fresh held = record {
  places = long;
  fresh = fresh;
  kept = λ place folder k is has.
      let job = also_there folders plan.jobs place folder long is in
      each folder.held k (subst (λ (s : Slot). IsKeptAt s (Some k)) (held place job.0 folder job.1 is) (are.at place job.0 (Some k) job.1 (at_some kept place k has)));
}
  where
    holds : (h : Holding) (k : Kept) → IsKept h k → HoldsKept k h
    holds h k is = record {
      files = ap (λ (o : Outcome). o.files) (sym is.outcome);
      bytes = is.bytes;
      stands = is.marked;
      reads = is.read;
    }

    each : (told : Option Holding) (k : Kept) → IsKeptAt (Here told) (Some k) → IfSome told (HoldsKept k)
    each None k is = tt
    each (Some h) k is = holds h k is

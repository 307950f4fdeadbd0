-- From the folders of a build to the store.
use Rattle.std.proofs.Common.{◌≡◌, ◌≢◌, ◌⊎◌, inl, inr, ℕ, zero, suc, ◌+◌, ◌<◌, ◌≤◌, Bool, true, false, cond, List, [], ◌∷◌, ◌++◌, length, map, count_by, Option, Some, None, IfSome, IsSome, is_some, slice_get, Contains, refl, sym, ◌∙◌, ap, subst, arith}
use Rattle.std.proofs.lemmas.Option.{slice_get_within}
use Rattle.compile_model.specs.declared.job.Job.{Job}
use Rattle.compile_model.specs.declared.job.Plan.{Plan}
use Rattle.compile_model.specs.declared.outcome.Fate.{Fate}
use Rattle.compile_model.specs.declared.outcome.Fate.TheVariants.{Built, Failed as NotBuilt, Skipped}
use Rattle.compile_model.specs.declared.outcome.Outcome.{Outcome}
use Rattle.compile_model.specs.Content.{Content}
use Rattle.compile_model.specs.Planned.{ArePlanned}
use Rattle.honest_tree.specs.Given.{Given}
use Rattle.honest_tree.specs.Honest.{Honest, IsHonest, IsHonestSlot}
use Rattle.honest_tree.proofs.HonestLemmas.{more_tree}
use Rattle.kept_tree.specs.Clearing.{is_in_env}
use Rattle.tree_store.specs.declared.holding.Holding.{Holding}
use Rattle.tree_store.specs.declared.key.BuildKey.{BuildKey}
use Rattle.tree_store.specs.FolderKnown.{FolderKnown}
use Rattle.tree_store.specs.Slot.{Slot, AllHere}
use Rattle.tree_store.specs.Slot.Slot.{Here, Out}
use Rattle.tree_store.proofs.MomentLemmas.{if_told, stops_end, told_has}
use Rattle.tree_store.proofs.OrderLemmas.{ties_itself}
use Rattle.partition_core.specs.declared.event.Event.{Event}
use Rattle.partition_core.specs.State.{Opening, at}
use Rattle.partition_core.specs.Histories.{Sound, replay}
use Rattle.partition_crew.specs.Build.{StayFor, inputs_of}
use Rattle.partition_board.specs.Holds.{AreLeft, HoldsBuilt, HoldsBy}
use Rattle.partition_board.proofs.Growing.{Grows}
use Rattle.partition_board.proofs.Holding.{holds_grow}
use Rattle.mix_compile.specs.Lending.{AreOut, AreTaken, AreTold, HoldsAt, IsTold, brought, key_of}
use Rattle.mix_compile.proofs.LendLemmas.{brought_at, brought_both, get_map, map_get}
use Rattle.mix_compile.proofs.TakeLemmas.{brought_here, one_place}

-- ---- folders and jobs

-- the folder of a job
pub folder_at : (env : List ℕ) (jobs : List Job) (folders : List FolderKnown) → map (λ folder. folder.key) folders ≡ map (key_of env) jobs
    → (place : ℕ) (job : Job) → slice_get jobs place ≡ Some job
    → (folder : FolderKnown) × (slice_get folders place ≡ Some folder) × (folder.key ≡ key_of env job)
folder_at env jobs folders keys place job here =
    map_get (λ (f : FolderKnown). f.key) folders place (key_of env job)
    (ap (λ (ks : List BuildKey). slice_get ks place) keys ∙ get_map (key_of env) jobs place job here)

-- the job of a folder
pub job_at : (env : List ℕ) (jobs : List Job) (folders : List FolderKnown) → map (λ folder. folder.key) folders ≡ map (key_of env) jobs
    → (place : ℕ) (folder : FolderKnown) → slice_get folders place ≡ Some folder
    → (job : Job) × (slice_get jobs place ≡ Some job) × (key_of env job ≡ folder.key)
job_at env jobs folders keys place folder here =
    map_get (key_of env) jobs place folder.key
    (sym (ap (λ (ks : List BuildKey). slice_get ks place) keys) ∙ get_map (λ (f : FolderKnown). f.key) folders place folder here)

-- each folder is of another build
pub keys_apart : (env : List ℕ) (jobs : List Job) → ArePlanned jobs → (folders : List FolderKnown) → map (λ folder. folder.key) folders ≡ map (key_of env) jobs
    → (place other : ℕ) (one two : FolderKnown) → slice_get folders place ≡ Some one → slice_get folders other ≡ Some two → one.key ≡ two.key → place ≡ other
keys_apart env jobs planned folders keys place other one two a b same =
    let first = job_at env jobs folders keys place one a in
    let second = job_at env jobs folders keys other two b in
    one_place jobs planned place other first.0 second.0 first.1 second.1 (ap (λ (k : BuildKey). k.app) (first.2 ∙ same ∙ sym second.2))

-- ---- what is held

hold_grow : (o : Opening) (fates next : List (Option Fate)) → Grows fates next → (place : ℕ) (fate : Option Fate) (held : Holding)
    → HoldsBy o fates place fate held → HoldsBy o next place fate held
hold_grow o fates next grows place None held holds = tt
hold_grow o fates next grows place (Some (Built outcome)) held holds = holds_grow o fates next grows place outcome held holds
hold_grow o fates next grows place (Some (NotBuilt outcome)) held holds = holds
hold_grow o fates next grows place (Some (Skipped need)) held holds = tt

-- the same by fates that are equal place by place
pub hold_same : (o : Opening) (fates next : List (Option Fate)) → ((place : ℕ) → at fates place ≡ at next place) → (place : ℕ) (told : Option Holding)
    → IfSome told (HoldsBy o fates place (at fates place)) → IfSome told (HoldsBy o next place (at next place))
hold_same o fates next same place told holds =
    if_told told (λ held is. subst (λ (fate : Option Fate). HoldsBy o next place fate held) (same place)
    (hold_grow o fates next (λ p fate e. sym (same p) ∙ e) place (at fates place) held (told_has (HoldsBy o fates place (at fates place)) told held is holds)))

pub told_slot : (told : Option Holding) (slot : Slot) → slot ≡ Here told → IsSome told → IsTold slot
told_slot None slot is some = cc
told_slot (Some held) slot is some = subst IsTold (sym is) tt

-- ---- what is honest

pub honest_held : (compile : Content → Outcome) (known : List Given) (told : Option Holding) (slot : Slot) → slot ≡ Here told → IsHonestSlot compile known slot
    → IfSome told (IsHonest compile known)
honest_held compile known told slot is honest = at told (subst (IsHonestSlot compile known) is honest)
  where
    at : (t : Option Holding) → IsHonestSlot compile known (Here t) → IfSome t (IsHonest compile known)
    at None h = tt
    at (Some held) h = h

pub held_honest : (compile : Content → Outcome) (known : List Given) (told : Option Holding) (slot : Slot) → slot ≡ Here told
    → IfSome told (IsHonest compile known) → IsHonestSlot compile known slot
held_honest compile known told slot is honest = subst (IsHonestSlot compile known) (sym is) (at told honest)
  where
    at : (t : Option Holding) → IfSome t (IsHonest compile known) → IsHonestSlot compile known (Here t)
    at None h = tt
    at (Some held) h = h

pub among_first : (known more : List Given) (given : Given) → Contains known given → Contains (known ++ more) given
among_first [] more given c = absurd (omega (arith, c.1))
among_first (one ∷ known) more given (zero, below, is) = (0, omega arith, is)
among_first (one ∷ known) more given (suc place, below, is) =
    let later = among_first known more given (place, omega (arith, below), is) in (suc later.0, omega (arith, later.1), later.2)

-- ---- in the store

module _ (plan : Plan) (planned : ArePlanned plan.jobs) (first now : List FolderKnown) (old mid new : BuildKey → Slot) (taken : AreTaken plan old mid first)
    (keys : map (λ folder. folder.key) now ≡ map (λ folder. folder.key) first) (back : (q : BuildKey) → new q ≡ brought now mid q) where
  -- the folders are still those that were taken
  pub made_out : AreOut mid now
  made_out = record {
    out = λ place folder is.
        let job = job_at plan.env plan.jobs now (keys ∙ taken.keys) place folder is in
        let was = folder_at plan.env plan.jobs first taken.keys place job.0 job.1 in
        ap mid (sym (was.2 ∙ job.2)) ∙ taken.out.out place was.0 was.1;
    apart = keys_apart plan.env plan.jobs planned now (keys ∙ taken.keys);
  }

  pub made_here : AllHere old → AllHere new
  made_here home q out =
      brought_here first now mid keys (λ p is. home p (sym (taken.whole p) ∙ is)) q (sym (back q) ∙ out)

  pub made_elsewhere : (q : BuildKey) → is_in_env plan.env q ≡ false → new q ≡ old q
  made_elsewhere q e = elim (brought_both first now mid q keys) [
    | inl one ↦
        let job = job_at plan.env plan.jobs first taken.keys one.0 one.1 one.3 in
        let here : is_in_env plan.env q ≡ true = ties_itself plan.env q.env (ap (λ (k : BuildKey). k.env) (job.2 ∙ one.5)) in
        let clash : false ≡ true = sym e ∙ here in cc
    | inr none ↦ back q ∙ none.1 ∙ sym none.0 ∙ taken.whole q
  ]

  -- what a job's build had, and what it has
  pub made_at : (place : ℕ) (job : Job) → slice_get plan.jobs place ≡ Some job
      → (was : FolderKnown) × (is : FolderKnown) × (slice_get first place ≡ Some was) × (slice_get now place ≡ Some is)
      × (old (key_of plan.env job) ≡ Here was.held) × (new (key_of plan.env job) ≡ Here is.held)
  made_at place job here =
      let was = folder_at plan.env plan.jobs first taken.keys place job here in
      let is = folder_at plan.env plan.jobs now (keys ∙ taken.keys) place job here in (
        was.0,
        is.0,
        was.1,
        is.1,
        sym (taken.whole (key_of plan.env job)) ∙ brought_at first mid taken.out.apart place was.0 (key_of plan.env job) was.1 was.2,
        back (key_of plan.env job) ∙ brought_at now mid made_out.apart place is.0 (key_of plan.env job) is.1 is.2,
      )

  pub made_stays : (compile : Content → Outcome) (more known : List Given) → StayFor compile more first now → Honest compile known old
      → Honest compile (known ++ more) new
  made_stays compile more known stay honest q = elim (brought_both first now mid q keys) [
    | inl one ↦
        let before : IfSome one.1.held (IsHonest compile known) = honest_held compile known one.1.held (old q) (sym (taken.whole q) ∙ one.6) (honest q) in
        held_honest compile (known ++ more) one.2.held (new q) (back q ∙ one.7)
        (stops_end (IsHonest compile (known ++ more)) one.1 one.2 (stay.each one.0 one.1 one.2 one.3 one.4 known before))
    | inr none ↦
        let same : new q ≡ old q = back q ∙ none.1 ∙ sym none.0 ∙ taken.whole q in
        subst (IsHonestSlot compile (known ++ more)) (sym same) (more_tree compile known (known ++ more) old (among_first known more) honest q)
  ]

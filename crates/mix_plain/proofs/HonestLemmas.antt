-- What stays honest while an environment is filled.
use Rattle.std.proofs.Common.{◌≡◌, ◌⊎◌, inl, inr, ℕ, Bool, true, false, cond, ◌==◌, List, [], ◌++◌, Option, Some, None, is_none, IsTrue, Contains, refl, sym, ◌∙◌, ap, subst}
use Rattle.std.proofs.lemmas.Bool.{eqb-true}
use Rattle.std.proofs.lemmas.List.Elements.{Contains-append_left, Contains-append_right}
use Rattle.compile_model.specs.declared.job.Job.{Job}
use Rattle.compile_model.specs.declared.job.Plan.{Plan}
use Rattle.compile_model.specs.declared.outcome.Fate.{Fate}
use Rattle.compile_model.specs.declared.outcome.Fate.TheVariants.{Built, Failed}
use Rattle.compile_model.specs.declared.outcome.Outcome.{Outcome}
use Rattle.compile_model.specs.Content.{Content, content_of}
use Rattle.compile_model.specs.Planned.{ArePlanned}
use Rattle.compile_model.specs.Seq.{fate_of, fate_unless, first_unbuilt, outcomes_of, seq, settled}
use Rattle.build_manifest.specs.MarkOf.{mark_of}
use Rattle.build_manifest.specs.Text.{Spells}
use Rattle.tree_store.specs.declared.holding.Holding.{Holding}
use Rattle.tree_store.specs.declared.key.BuildKey.{BuildKey}
use Rattle.tree_store.specs.Holding.{only_files}
use Rattle.tree_store.specs.Moment.{leaves}
use Rattle.tree_store.specs.Moment.Write.{Mark}
use Rattle.tree_store.specs.Slot.{Slot}
use Rattle.tree_store.specs.Slot.Slot.{Here, Out}
use Rattle.partition_core.proofs.SeqPlaces.{seq_at}
use Rattle.honest_tree.specs.Given.{Given, outcome_of}
use Rattle.honest_tree.specs.Honest.{Honest, IsHonest, IsHonestSlot}
use Rattle.honest_tree.proofs.HonestLemmas.{marking_honest, more_tree, unmarked_honest}
use Rattle.kept_tree.specs.Clearing.{ClearsPartly, IsLeftAt, is_apart, is_in_env}
use Rattle.kept_tree.specs.Tree.{IsBuiltAt, StaysElsewhere}
use Rattle.kept_tree.proofs.LeftLemmas.{left_tree_honest}
use Rattle.partition_crew.specs.Build.{input_by, inputs_of}
use Rattle.partition_crew.specs.Work.{given_by}
use Rattle.partition_crew.proofs.Inputs.{among_filtered}
use Rattle.mix_plain.specs.Filling.{FillsPartly, IsFilledBy, IsFilling, Remakes}

-- ---- what a built job came to

same_outcome : (one other : Outcome) → Built one ≡ Built other → one ≡ other
same_outcome one other e = cc

settled_built : (outcome other : Outcome) → settled outcome ≡ Built other → (outcome ≡ other) × (outcome.status ≡ 0)
settled_built outcome other e = at (outcome.status == 0) refl e
  where
    at : (b : Bool) → (outcome.status == 0) ≡ b → cond b (Built outcome) (Failed outcome) ≡ Built other → (outcome ≡ other) × (outcome.status ≡ 0)
    at true is e = (same_outcome outcome other e, eqb-true outcome.status 0 is)
    at false is e = cc

unless_built : (first : Option ℕ) (outcome other : Outcome) → fate_unless first outcome ≡ Built other
    → (first ≡ None) × (outcome ≡ other) × (outcome.status ≡ 0)
unless_built None outcome other e = let is = settled_built outcome other e in (refl, is.0, is.1)
unless_built (Some need) outcome other e = cc

-- its needs were built, and it came to what compiling it means
pub record CameTo (compile : Content → Outcome) (fates : List Fate) (job : Job) (outcome : Outcome) : Type 0 where
  pub ready : first_unbuilt fates job.needs ≡ None
  pub means : compile (content_of job (outcomes_of fates job.needs)) ≡ outcome
  pub status : (compile (content_of job (outcomes_of fates job.needs))).status ≡ 0

pub came_to : (compile : Content → Outcome) (jobs : List Job) → ArePlanned jobs → (job : Job) (outcome : Outcome) → IsBuiltAt jobs (seq compile jobs) job outcome
    → CameTo compile (seq compile jobs) job outcome
came_to compile jobs planned job outcome at =
    let all = seq compile jobs in
    let same : Some (fate_of compile all job) ≡ Some (Built outcome) = sym (seq_at compile jobs planned at.place job at.stands) ∙ at.built in
    let one : fate_of compile all job ≡ Built outcome = cc in
    let is = unless_built (first_unbuilt all job.needs) (compile (content_of job (outcomes_of all job.needs))) outcome one in
    record { ready = is.0; means = is.1; status = is.2 }

-- ---- its input is one of the plan's

module _ (compile : Content → Outcome) (plan : Plan) (planned : ArePlanned plan.jobs) (known : List Given) where
  abbrev fates : List Fate
  fates = seq compile plan.jobs

  abbrev all : List Given
  all = known ++ inputs_of compile plan.jobs

  input_among : (job : Job) (outcome : Outcome) → IsBuiltAt plan.jobs (seq compile plan.jobs) job outcome
      → Contains (known ++ inputs_of compile plan.jobs) (given_by job (outcomes_of (seq compile plan.jobs) job.needs))
  input_among job outcome at =
      let given = given_by job (outcomes_of fates job.needs) in
      Contains-append_right known (inputs_of compile plan.jobs) given
      (among_filtered (input_by fates) plan.jobs at.place job given at.stands
      (ap (λ (first : Option ℕ). cond (is_none first) (Some given) None) (came_to compile plan.jobs planned job outcome at).ready))

  filling_honest : (job : Job) (outcome : Outcome) → IsBuiltAt plan.jobs (seq compile plan.jobs) job outcome → (bytes : List ℕ)
      → Spells bytes (mark_of job (outcomes_of (seq compile plan.jobs) job.needs) outcome) → (image : Holding) → IsFilling outcome.files bytes image
      → IsHonest compile (known ++ inputs_of compile plan.jobs) image
  filling_honest job outcome at bytes spells image (inl none) = unmarked_honest compile all image none
  filling_honest job outcome at bytes spells image (inr (part, is)) =
      let given = given_by job (outcomes_of fates job.needs) in
      let came = came_to compile plan.jobs planned job outcome at in
      subst (IsHonest compile all) (sym is)
      (subst (λ (o : Outcome). IsHonest compile all (leaves (Mark bytes) part (only_files o.files))) came.means
      (marking_honest compile all given (input_among job outcome at) came.status bytes (mark_of job (outcomes_of fates job.needs) (outcome_of compile given))
      (subst (λ (o : Outcome). Spells bytes (mark_of job (outcomes_of fates job.needs) o)) (sym came.means) spells) (inr refl) part))

  filled_slot_honest : (app : List ℕ) (slot : Slot) → IsFilledBy plan.jobs (seq compile plan.jobs) app slot → IsHonestSlot compile (known ++ inputs_of compile plan.jobs) slot
  filled_slot_honest app (Here None) filled = tt
  filled_slot_honest app (Here (Some held)) filled = filling_honest filled.job filled.outcome filled.built filled.mark filled.reads held filled.filling
  filled_slot_honest app Out filled = tt

  filled_honest : (old new : BuildKey → Slot) → Honest compile (known ++ inputs_of compile plan.jobs) old → FillsPartly plan (seq compile plan.jobs) old new
      → Honest compile (known ++ inputs_of compile plan.jobs) new
  filled_honest old new honest fills q = elim (fills q) [
    | inl same ↦ subst (IsHonestSlot compile all) (sym same) (honest q)
    | inr (own, filled) ↦ filled_slot_honest q.app (new q) filled
  ]

  wider : (slots : BuildKey → Slot) → Honest compile known slots → Honest compile (known ++ inputs_of compile plan.jobs) slots
  wider slots = more_tree compile known all slots (λ given. Contains-append_left known (inputs_of compile plan.jobs) given)

-- ---- from before the environment is emptied on

-- what may stand of its builds, what lies elsewhere stays, and what is honest stays so, for the plan's inputs too
pub record Leads (compile : Content → Outcome) (plan : Plan) (old new : BuildKey → Slot) : Type 0 where
  pub stands : Remakes plan (seq compile plan.jobs) old new
  pub stays : (known : List Given) → Honest compile known old → Honest compile (known ++ inputs_of compile plan.jobs) new

pub elsewhere_of : (plan : Plan) (fates : List Fate) (old new : BuildKey → Slot) → Remakes plan fates old new → StaysElsewhere plan.env old new
elsewhere_of plan fates old new stands q other = elim (stands q) [
  | inl same ↦ same
  | inr (own, part) ↦ absurd (let clash : false ≡ true = sym other ∙ own in cc)
]

remakes : (plan : Plan) (fates : List Fate) (old mid new : BuildKey → Slot) → ClearsPartly (is_apart plan.env []) old mid → FillsPartly plan fates mid new
    → Remakes plan fates old new
remakes plan fates old mid new left fills q = at (left q) (fills q)
  where
    at : (mid q ≡ old q) ⊎ (IsTrue (is_apart plan.env [] q) × IsLeftAt (old q) (mid q))
        → (new q ≡ mid q) ⊎ (IsTrue (is_in_env plan.env q) × IsFilledBy plan.jobs fates q.app (new q))
        → (new q ≡ old q) ⊎ (IsTrue (is_in_env plan.env q) × (IsLeftAt (old q) (new q) ⊎ IsFilledBy plan.jobs fates q.app (new q)))
    at (inl a) (inl b) = inl (b ∙ a)
    at (inr (own, a)) (inl b) = inr (own, inl (subst (IsLeftAt (old q)) (sym b) a))
    at a (inr (own, filled)) = inr (own, inr filled)

pub leads_filled : (compile : Content → Outcome) (plan : Plan) → ArePlanned plan.jobs → (old mid new : BuildKey → Slot)
    → ClearsPartly (is_apart plan.env []) old mid → FillsPartly plan (seq compile plan.jobs) mid new → Leads compile plan old new
leads_filled compile plan planned old mid new left fills = record {
  stands = remakes plan (seq compile plan.jobs) old mid new left fills;
  stays = λ known honest. filled_honest compile plan planned known mid new
      (wider compile plan planned known mid (left_tree_honest compile known (is_apart plan.env []) old mid honest left)) fills;
}

pub leads_cleared : (compile : Content → Outcome) (plan : Plan) → ArePlanned plan.jobs → (old new : BuildKey → Slot)
    → ClearsPartly (is_apart plan.env []) old new → Leads compile plan old new
leads_cleared compile plan planned old new left = leads_filled compile plan planned old new new left (λ q. inl refl)

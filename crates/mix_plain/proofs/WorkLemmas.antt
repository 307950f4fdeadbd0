-- From the plan to the tree.
use Rattle.std.proofs.Common.{◌≡◌, ℕ, Bool, cond, List, [], length, Some, None, Err, refl, sym, ◌∙◌, ap, subst}
use Rattle.mx_base.specs.Causes.{Rose}
use Rattle.compile_model.specs.declared.job.Plan.{Plan}
use Rattle.compile_model.specs.declared.outcome.Fate.{Fate}
use Rattle.compile_model.specs.declared.outcome.Outcome.{Outcome}
use Rattle.compile_model.specs.Content.{Content}
use Rattle.compile_model.specs.Planned.{ArePlanned}
use Rattle.compile_model.specs.Seq.{seq}
use Rattle.tree_store.specs.declared.key.BuildKey.{BuildKey}
use Rattle.tree_store.specs.Known.{Known}
use Rattle.tree_store.specs.Slot.{Slot, emptied_slot}
use Rattle.tree_store.specs.Slot.Slot.{Here, Out}
use Rattle.kept_tree.specs.declared.fault.KeptFault.{KeptFault}
use Rattle.kept_tree.specs.declared.fault.KeptFault.TheVariants.{Read, Tree, OutOfMemory}
use Rattle.kept_tree.specs.Clearing.{Clears, is_apart}
use Rattle.kept_tree.specs.Faults.{CountsWrites}
use Rattle.kept_tree.specs.Tree.{IsTree}
use Rattle.mix_report.specs.Report.{report}
use Rattle.mix_answer.specs.declared.status.Status.{Status}
use Rattle.mix_answer.specs.declared.stop.Stop.TheVariants.{Memory}
use Rattle.mix_answer.specs.Answer.{stop_of_kept, stopped}
use Rattle.mix_answer.specs.Reply.{Reply, reply_of}
use Rattle.mix_compile.specs.Right.{status_by}
use Rattle.mix_plain.specs.Compile.{Builds, Works}
use Rattle.mix_plain.specs.Compile.Builds.{built, read_fault, tree_fault, no_memory}
use Rattle.mix_plain.specs.Filling.{AreFates, IsEmptyIn}
use Rattle.mix_plain.specs.Site.{passage_of, site_of}
use Rattle.mix_plain.proofs.HonestLemmas.{Leads, came_to, elsewhere_of}

-- no count rose
pub record Stood (old new : Known) (before after : ℕ) : Type 0 where
  pub reads : new.faults ≡ old.faults
  pub trees : new.returned ≡ old.returned
  pub deaths : after ≡ before

-- what was done and how it ended
pub works_of : (compile : Content → Outcome) (plan : Plan) (old new : Known) (before after : ℕ) (reply : Reply) → Leads compile plan old.slot new.slot
    → Builds compile plan (passage_of (site_of old before) (site_of new after)) reply
    → Works compile plan (passage_of (site_of old before) (site_of new after)) reply
works_of compile plan old new before after reply leads ends = record {
  ends = ends;
  stands = leads.stands;
  elsewhere = elsewhere_of plan (seq compile plan.jobs) old.slot new.slot leads.stands;
  honest = leads.stays;
}

pub memory_builds : (compile : Content → Outcome) (plan : Plan) (old new : Known) (before after : ℕ) (reply : Reply) → Stood old new before after
    → reply ≡ stopped Memory → Builds compile plan (passage_of (site_of old before) (site_of new after)) reply
memory_builds compile plan old new before after reply stood says =
    no_memory (record { reads = stood.reads; trees = stood.trees; deaths = stood.deaths }) says

-- a fault of a call that writes builds
pub fault_builds : (X : Type 0) (compile : Content → Outcome) (plan : Plan) (old mid new : Known) (before after : ℕ) (reply : Reply) (fault : KeptFault)
    → Stood old mid before after → CountsWrites {X = X} (Err fault) mid new → reply ≡ stopped (stop_of_kept fault)
    → Builds compile plan (passage_of (site_of old before) (site_of new after)) reply
fault_builds X compile plan old mid new before after reply Read stood counts says = read_fault (subst (λ (n : ℕ). Rose n new.faults) stood.reads counts.0) says
fault_builds X compile plan old mid new before after reply Tree stood counts says = tree_fault (subst (λ (n : ℕ). Rose n new.returned) stood.trees counts.1) says
fault_builds X compile plan old mid new before after reply OutOfMemory stood counts says =
    no_memory (record { reads = counts.0 ∙ stood.reads; trees = counts.1 ∙ stood.trees; deaths = stood.deaths }) says

emptied_again : (slot : Slot) → emptied_slot slot ≡ emptied_slot (emptied_slot slot)
emptied_again (Here None) = refl
emptied_again (Here (Some held)) = refl
emptied_again Out = refl

-- all of the environment was emptied
pub empty_in : (env : List ℕ) (old new : BuildKey → Slot) → Clears (is_apart env []) old new → IsEmptyIn env new
empty_in env old new clears q own =
    let is : new q ≡ emptied_slot (old q) = clears q ∙ ap (λ (b : Bool). cond b (emptied_slot (old q)) (old q)) own in
    is ∙ emptied_again (old q) ∙ ap emptied_slot (sym is)

pub fates_of : (compile : Content → Outcome) (plan : Plan) → ArePlanned plan.jobs → (fates : List Fate) → fates ≡ seq compile plan.jobs
    → length fates ≡ length plan.jobs → AreFates plan fates
fates_of compile plan planned fates is each =
    subst (AreFates plan) (sym is) (record {
      planned = planned;
      each = ap length (sym is) ∙ each;
      needs = λ job outcome at. (came_to compile plan.jobs planned job outcome at).ready;
    })

pub built_builds : (compile : Content → Outcome) (plan : Plan) (old new : Known) (before after : ℕ) (fates : List Fate) (status : Status) (text : List ℕ)
    → fates ≡ seq compile plan.jobs → IsTree plan fates new.slot → status ≡ status_by fates → text ≡ report plan.jobs fates
    → Stood old new before after → Builds compile plan (passage_of (site_of old before) (site_of new after)) (reply_of status text)
built_builds compile plan old new before after fates status text is tree ended says stood = built (record {
  tree = subst (λ (x : List Fate). IsTree plan x new.slot) is tree;
  report = says ∙ ap (report plan.jobs) is;
  ended = ended ∙ ap status_by is;
  calm = record { reads = stood.reads; trees = stood.trees; deaths = stood.deaths };
})

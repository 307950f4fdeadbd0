-- Where there is no plan.
use Rattle.std.proofs.Common.{◌≡◌, ℕ, Bool, true, false, List, [], Ok, Err, Result, refl, sym, ◌∙◌, ap, subst}
use Rattle.mx_base.specs.Blame.{Blame, is_outside}
use Rattle.mx_base.specs.Blame.Blame.{Input, Outside, Memory}
use Rattle.compile_model.specs.declared.job.Job.{Job}
use Rattle.tree_store.specs.Known.{Known, OnlyReads, Told}
use Rattle.tree_store.specs.Slot.{AllHere}
use Rattle.kept_tree.specs.Faults.{KeepsRest}
use Rattle.partition_core.specs.declared.event.Event.{Event}
use Rattle.partition_crew.specs.Station.{Nature}
use Rattle.partition_face.specs.Makers.{MakerKnown}
use Rattle.build_plan.specs.Blame.{blame_of}
use Rattle.build_plan.specs.declared.error.PlanError.{PlanError}
use Rattle.build_plan.specs.Plan.{Build, IsPlan}
use Rattle.mix_answer.specs.declared.answer.Answer.{Answer}
use Rattle.mix_answer.specs.declared.status.Status.{Status}
use Rattle.mix_answer.specs.declared.stop.Stop.{Stop}
use Rattle.mix_answer.specs.declared.stop.Stop.TheVariants.{Read, Memory as NoMemory}
use Rattle.mix_answer.specs.Answer.{reply_in, status_in, stopped, text_in}
use Rattle.mix_answer.specs.Refusal.{TellsError}
use Rattle.mix_answer.specs.Refusal.TellsError.{told, read, no_memory}
use Rattle.mix_answer.specs.Reply.{Reply, reply_of}
use Rattle.mix_compile.specs.Asked.{Came, asked_of, came_to}
use Rattle.mix_compile.specs.Compiles.{Compiles}
use Rattle.mix_compile.specs.Compiles.Compiles.{refused, unread, unplanned}
use Rattle.mix_compile.specs.Site.{Site, passage_of, site_of}

-- a call that didn't fail left the store as it was
pub only_read : (old new : Known) (failed : Bool) → OnlyReads old new failed → failed ≡ false → new ≡ old
only_read old new true reads quiet = let clash : true ≡ false = quiet in cc
only_read old new false reads quiet = reads.same ∙ ap (λ (n : ℕ). record old { faults = n }) (reads.cause.kept refl)

not_outside : (b : Blame) → (b ≡ Outside → ⊥) → is_outside b ≡ false
not_outside Input differs = refl
not_outside Outside differs = absurd (differs refl)
not_outside Memory differs = refl

same_reply : (status status' : Status) (text text' : List ℕ) → status ≡ status' → text ≡ text' → reply_of status text ≡ reply_of status' text'
same_reply status status' text text' s t = ap (λ (x : Status). reply_of x text) s ∙ ap (λ (x : List ℕ). reply_of status' x) t

pub refuse_ends : (nature : Nature) (build : Build) (trace : Bool) (error : PlanError) (old new : Known) (m : MakerKnown) (answer : Result Answer Stop)
    (history : List Event) → history ≡ []
    → (blame_of error ≡ Input → Told old (λ files. IsPlan files build.env build.target) (Err error)) → OnlyReads old new (is_outside (blame_of error))
    → TellsError error (status_in answer) (text_in answer)
    → Compiles nature (asked_of build trace) (passage_of (site_of old m) (site_of new m)) (came_to (reply_in answer) history)
refuse_ends nature build trace error old new m answer history none first reads (told is ended line) =
    refused error (record { refusal = is; first = first is; line = line; ended = ended }) none
    (ap (λ (s : Known). site_of s m) (only_read old new _ reads (ap is_outside is)))
refuse_ends nature build trace error old new m answer history none first reads (read is ended line) =
    let failed : OnlyReads old new true = subst (λ (e : PlanError). OnlyReads old new (is_outside (blame_of e))) is reads in
    unread (failed.cause.rose refl) (ap (λ (s : Known). s.slot) failed.same) refl
    (ap (λ (r : Reply). came_to r history) (same_reply _ _ _ _ ended line) ∙ ap (λ (h : List Event). came_to (stopped Read) h) none)
refuse_ends nature build trace error old new m answer history none first reads (no_memory quiet ended line) =
    unplanned (ap (λ (s : Known). site_of s m) (only_read old new _ reads (not_outside (blame_of error) quiet)))
    (ap (λ (r : Reply). came_to r history) (same_reply _ _ _ _ ended line) ∙ ap (λ (h : List Event). came_to (stopped NoMemory) h) none)

-- the store is as it was, but for its count
pub reads_keep : (old new : Known) (failed : Bool) → OnlyReads old new failed → AllHere old.slot → KeepsRest old new
reads_keep old new failed reads home = record {
  sources = ap (λ (s : Known). s.sources) reads.same;
  here = subst AllHere (sym (ap (λ (s : Known). s.slot) reads.same)) home;
}

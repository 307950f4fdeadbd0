-- Where there is no plan.
use Rattle.std.proofs.Common.{◌≡◌, inl, inr, ℕ, List, Bool, true, false, Err, refl, sym, ◌∙◌, ap, subst}
use Rattle.mx_base.specs.Blame.{Blame, is_outside}
use Rattle.mx_base.specs.Blame.Blame.{Input, Outside, Memory}
use Rattle.compile_model.specs.declared.job.Plan.{Plan}
use Rattle.compile_model.specs.declared.outcome.Outcome.{Outcome}
use Rattle.compile_model.specs.Content.{Content}
use Rattle.tree_store.specs.Known.{Known, OnlyReads, Told}
use Rattle.tree_store.specs.Slot.{AllHere}
use Rattle.kept_tree.specs.declared.fault.KeptFault.{KeptFault}
use Rattle.kept_tree.specs.declared.fault.KeptFault.TheVariants as kept
use Rattle.kept_tree.specs.Faults.{KeepsRest, ReadsBuilds}
use Rattle.build_plan.specs.Blame.{blame_of}
use Rattle.build_plan.specs.declared.error.PlanError.{PlanError}
use Rattle.build_plan.specs.Plan.{Build, IsPlan}
use Rattle.mix_answer.specs.declared.status.Status.{Status}
use Rattle.mix_answer.specs.declared.stop.Stop.TheVariants.{Read, Memory as NoMemory}
use Rattle.mix_answer.specs.Answer.{line_of, status_of, stop_of_kept, stopped}
use Rattle.mix_answer.specs.Plans.{IsRefusalFor}
use Rattle.mix_answer.specs.Refusal.{TellsError, status_of as status_for}
use Rattle.mix_answer.specs.Refusal.TellsError.{told, read, no_memory}
use Rattle.mix_answer.specs.Reply.{Reply, reply_of}
use Rattle.mix_answer.specs.Texts.{refusal_line}
use Rattle.mix_plain.specs.Compile.{Compiles}
use Rattle.mix_plain.specs.Compile.Compiles.{refused, unread, unplanned}
use Rattle.mix_plain.specs.Site.{passage_of, site_of}
use Rattle.mix_plain.specs.Tells.{Tells}
use Rattle.mix_plain.specs.Tells.IsUnread.{store, folder}
use Rattle.mix_plain.specs.Tells.Tells.{refused as untold, unread as unseen, no_memory as forgotten}

-- a call that didn't fail left the store as it was
pub only_read : (old new : Known) (failed : Bool) → OnlyReads old new failed → failed ≡ false → new ≡ old
only_read old new true reads quiet = cc
only_read old new false reads quiet = reads.same ∙ ap (λ (n : ℕ). record old { faults = n }) (reads.cause.kept refl)

not_outside : (b : Blame) → (b ≡ Outside → ⊥) → is_outside b ≡ false
not_outside Input differs = refl
not_outside Outside differs = absurd (differs refl)
not_outside Memory differs = refl

reply_same : (status other : Status) (text line : List ℕ) → status ≡ other → text ≡ line → reply_of status text ≡ reply_of other line
reply_same status other text line e h = ap (λ (s : Status). reply_of s text) e ∙ ap (λ (t : List ℕ). reply_of other t) h

module _ (build : Build) (error : PlanError) (old new : Known)
    (first : blame_of error ≡ Input → Told old (λ files. IsPlan files build.env build.target) (Err error))
    (reads : OnlyReads old new (is_outside (blame_of error))) where
  refusal : (status : Status) (text : List ℕ) → blame_of error ≡ Input → status ≡ status_for error
      → text ≡ refusal_line error → IsRefusalFor build old error (reply_of status text)
  refusal status text is ended line = record { refusal = is; first = first is; line = line; ended = ended }

  pub refuse_compiles : (compile : Content → Outcome) (deaths : ℕ) (status : Status) (text : List ℕ) → TellsError error status text
      → Compiles compile build (passage_of (site_of old deaths) (site_of new deaths)) (reply_of status text)
  refuse_compiles compile deaths status text (told is ended line) =
      refused error (refusal status text is ended line) (ap (λ (s : Known). site_of s deaths) (only_read old new _ reads (ap is_outside is)))
  refuse_compiles compile deaths status text (read is ended line) =
      let failed : OnlyReads old new true = subst (λ (e : PlanError). OnlyReads old new (is_outside (blame_of e))) is reads in
      unread (failed.cause.rose refl) (ap (λ (s : Known). s.slot) failed.same) refl (reply_same status (status_of Read) text (line_of Read) ended line)
  refuse_compiles compile deaths status text (no_memory quiet ended line) =
      unplanned (ap (λ (s : Known). site_of s deaths) (only_read old new _ reads (not_outside (blame_of error) quiet)))
      (reply_same status (status_of NoMemory) text (line_of NoMemory) ended line)

  pub refuse_tells : (Says : Plan → List ℕ → Type 0) (status : Status) (text : List ℕ) → TellsError error status text
      → Tells build Says old new (reply_of status text)
  refuse_tells Says status text (told is ended line) =
      untold error (refusal status text is ended line) (only_read old new _ reads (ap is_outside is))
  refuse_tells Says status text (read is ended line) =
      let failed : OnlyReads old new true = subst (λ (e : PlanError). OnlyReads old new (is_outside (blame_of e))) is reads in
      unseen (store (failed.cause.rose refl) failed.same) (reply_same status (status_of Read) text (line_of Read) ended line)
  refuse_tells Says status text (no_memory quiet ended line) =
      forgotten (only_read old new _ reads (not_outside (blame_of error) quiet))
      (reply_same status (status_of NoMemory) text (line_of NoMemory) ended line)

-- a call that only reads keeps what each call keeps
pub reads_here : (old new : Known) (failed : Bool) → OnlyReads old new failed → AllHere old.slot → AllHere new.slot
reads_here old new failed reads here = subst AllHere (sym (ap (λ (k : Known). k.slot) reads.same)) here

pub reads_keep : (old new : Known) (failed : Bool) → OnlyReads old new failed → AllHere old.slot → KeepsRest old new
reads_keep old new failed reads here = record {
  sources = ap (λ (k : Known). k.sources) reads.same;
  here = reads_here old new failed reads here;
}

-- what is kept couldn't be read
pub kept_tells : (X : Type 0) (build : Build) (Says : Plan → List ℕ → Type 0) (old new : Known) (reply : Reply) (fault : KeptFault)
    → ReadsBuilds {X = X} (Err fault) old new → reply ≡ stopped (stop_of_kept fault) → Tells build Says old new reply
kept_tells X build Says old new reply kept.Read (inl reads) says = unseen (store reads.0 reads.1) says
kept_tells X build Says old new reply kept.Read (inr reads) says = unseen (folder reads.0 reads.1) says
kept_tells X build Says old new reply kept.Tree reads says = absurd reads
kept_tells X build Says old new reply kept.OutOfMemory reads says = forgotten reads says

-- What a question comes to.
use Rattle.std.proofs.Common.{◌≡◌, ℕ, ◌==◌, Bool, true, false, List, [], ◌∷◌, ◌++◌, take, length, Option, option_map, Result, Ok, Err, if◌then◌else◌, refl, sym, ap, ◌∙◌, subst}
use Rattle.std.specs.Prelude.{is_err}
use Rattle.std.proofs.Math.Seq.{take-length}
use Rattle.std.proofs.lemmas.Bool.{eqb-false, eqb-true}
use Rattle.mx_base.specs.Causes.{Rose}
use Rattle.compile_model.specs.declared.outcome.Verdict.{Verdict}
use Rattle.partition_face.specs.declared.partition.RunFault.{RunFault}
use Rattle.partition_face.specs.declared.partition.RunFault.TheVariants.{Died, Tree, OutOfMemory}
use Rattle.partition_face.specs.Links.{LinkKnown, Sends, with_sent}
use Rattle.partition_frames.specs.declared.frame.Frame.{Frame}
use Rattle.partition_frames.specs.declared.frame.Frame.TheVariants as frames
use Rattle.partition_frames.specs.Frame.{Spells, Stands, frame_text}
use Rattle.partition_frames.specs.Reading.{IsRefused}
use Rattle.partition_link.specs.declared.hearing.HearFault.{HearFault}
use Rattle.partition_link.specs.declared.hearing.HearFault.TheVariants as faults
use Rattle.partition_link.specs.Channel.{Channel, Hears, IsHeard, channel_of, goes_on, has_closed, hears}
use Rattle.partition_link.specs.Run.{Asks, Dies, Ends, Exchange, IsOther, IsVerdictOn, MayBeWritten, number_in, verdict_of_frame, verdict_on}
use Rattle.partition_link.specs.Run.Dies.{LinkFailed, PeerClosed, OtherCame, Unsent}
use Rattle.partition_link.specs.Run.IsOther.{Early, NoFrame, Another}
use Rattle.partition_link.proofs.Talks.{heard_after, nothing_said, only_sent}

-- ---- nothing was sent

abbrev silent : Frame → Channel → Exchange
silent question still = record { asked = question; said = record { sent = []; came = []; closed = false }; old = still; new = still }

asks_silent : (question : Frame) (still : Channel) (result : Result Verdict RunFault) → Ends (silent question still) result → Asks question still still result
asks_silent question still result ends = record {
  said = record { sent = []; came = []; closed = false };
  told = nothing_said still.link.talk;
  part = (0, refl);
  ends = ends;
}

pub asks_unsent : (question : Frame) (still : Channel) → (MayBeWritten question → ⊥) → Asks question still still (Err Died)
asks_unsent question still unsent = asks_silent question still (Err Died) (Unsent unsent)

pub asks_early : (question : Frame) (still : Channel) → (still.held ≡ [] → ⊥) → Asks question still still (Err Died)
asks_early question still some = asks_silent question still (Err Died) (OtherCame (Early some))

pub asks_memory : (question : Frame) (still : Channel) → Asks question still still (Err OutOfMemory)
asks_memory question still = asks_silent question still (Err OutOfMemory) (record { unclosed = refl; unfailed = refl })

-- ---- it was sent in part

pub asks_failed : {T E : Type 0} (question : Frame) (piece held : List ℕ) (old new : LinkKnown) (r : Result T E) → Sends piece old new r
    → is_err r ≡ true → Spells piece question → Asks question (channel_of old held) (channel_of new held) (Err Died)
asks_failed question piece held old new (Ok x) sends is spelled = absurd (cc is)
asks_failed question piece held old new (Err e) sends is spelled = record {
  said = record { sent = take sends.sent.0 piece; came = []; closed = false };
  told = sends.sent.1 ∙ only_sent old.talk (take sends.sent.0 piece);
  part = (sends.sent.0, ap (λ bytes. take sends.sent.0 bytes) spelled.1);
  ends = LinkFailed (sends.cause.rose refl);
}

-- ---- it was sent whole

-- a question was sent, and nothing was heard yet
pub record IsSent (piece : List ℕ) (old new : LinkKnown) : Type 0 where
  pub talk : new.talk ≡ option_map (with_sent piece) old.talk
  pub faults : new.faults ≡ old.faults

pub sent_whole : {T E : Type 0} (piece : List ℕ) (old new : LinkKnown) (r : Result T E) → Sends piece old new r → is_err r ≡ false → IsSent piece old new
sent_whole piece old new (Ok x) sends is = record { talk = sends.sent; faults = sends.cause.kept refl }
sent_whole piece old new (Err e) sends is = absurd (cc is)

verdict_case : (x : Exchange) (n status : ℕ) (text : List ℕ) (same : Bool) → (n == number_in x.asked) ≡ same → x.said.sent ≡ frame_text x.asked
    → x.old.held ≡ [] → x.said.closed ≡ false → x.new.link.faults ≡ x.old.link.faults → Stands x.said.came (frames.Verdict n status text) x.new.held
    → Ends x (if same then Ok (record { status = status; text = text }) else Err Died)
verdict_case x n status text true is sent nothing unclosed unfailed stands = record {
  sent = sent;
  nothing_before = nothing;
  came = subst (λ m. Stands x.said.came (frames.Verdict m status text) x.new.held) (eqb-true n (number_in x.asked) is) stands;
  unclosed = unclosed;
  unfailed = unfailed;
}
verdict_case x n status text false is sent nothing unclosed unfailed stands =
    OtherCame (Another (frames.Verdict n status text) stands (eqb-false n (number_in x.asked) is))

ends_frame : (x : Exchange) (frame : Frame) → x.said.sent ≡ frame_text x.asked → x.old.held ≡ [] → x.said.closed ≡ false
    → x.new.link.faults ≡ x.old.link.faults → Stands x.said.came frame x.new.held → Ends x (verdict_of_frame (number_in x.asked) frame)
ends_frame x (frames.Hello cookie index) sent nothing unclosed unfailed stands = OtherCame (Another (frames.Hello cookie index) stands (λ is. is))
ends_frame x (frames.Job n env app options how system_env dir needs) sent nothing unclosed unfailed stands =
    OtherCame (Another (frames.Job n env app options how system_env dir needs) stands (λ is. is))
ends_frame x (frames.Verdict n status text) sent nothing unclosed unfailed stands =
    verdict_case x n status text (n == number_in x.asked) refl sent nothing unclosed unfailed stands
ends_frame x frames.Bye sent nothing unclosed unfailed stands = OtherCame (Another frames.Bye stands (λ is. is))

module _ (question : Frame) (piece held left : List ℕ) (old mid new : LinkKnown) (nothing : held ≡ []) (spelled : Spells piece question) (sent : IsSent piece old mid) where
  abbrev exchange : List ℕ → Bool → Exchange
  exchange came closed = record {
    asked = question;
    said = record { sent = piece; came = came; closed = closed };
    old = channel_of old held;
    new = channel_of new left;
  }

  ends_heard : (heard : Result Frame HearFault) (h : Hears (channel_of mid held) (channel_of new left) heard)
      → Ends (exchange h.came (has_closed heard)) (verdict_on (number_in question) heard)
  ends_heard (Ok frame) h =
      ends_frame (exchange h.came false) frame spelled.1 nothing refl (h.cause.kept refl ∙ sent.faults)
      (subst (λ front. Stands (front ++ h.came) frame left) nothing h.heard)
  ends_heard (Err faults.Failed) h = LinkFailed (subst (λ n. Rose n new.faults) sent.faults (h.cause.rose refl))
  ends_heard (Err faults.Closed) h = PeerClosed refl
  ends_heard (Err (faults.Refused error)) h =
      OtherCame (NoFrame error (subst (λ front. IsRefused (front ++ h.came) error.cause error.at) nothing h.heard.1))
  ends_heard (Err faults.OutOfMemory) h = record { unclosed = refl; unfailed = h.cause.kept refl ∙ sent.faults }

  pub asks_heard : (heard : Result Frame HearFault) → Hears (channel_of mid held) (channel_of new left) heard
      → Asks question (channel_of old held) (channel_of new left) (verdict_on (number_in question) heard)
  asks_heard heard h = record {
    said = record { sent = piece; came = h.came; closed = has_closed heard };
    told = h.told ∙ ap (option_map (hears h.came (has_closed heard))) sent.talk ∙ heard_after old.talk piece h.came (has_closed heard);
    part = (length piece, sym (take-length piece) ∙ ap (λ bytes. take (length piece) bytes) spelled.1);
    ends = ends_heard heard h;
  }

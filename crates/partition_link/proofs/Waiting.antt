-- What is heard where no frame gets whole.
use Rattle.std.proofs.Common.{◌≡◌, true, false, List, ℕ, [], ◌++◌, Err, ap, sym, ◌∙◌, subst, append-nil}
use Rattle.mx_base.specs.Causes.{Counted}
use Rattle.partition_face.specs.Links.{LinkKnown}
use Rattle.partition_frames.specs.Reading.{NeedsMore}
use Rattle.partition_link.specs.declared.hearing.HearFault.{HearFault}
use Rattle.partition_link.specs.declared.hearing.HearFault.TheVariants.{Failed, Closed, Refused, OutOfMemory}
use Rattle.partition_link.specs.Channel.{Channel, Hears, Takes, Waits, channel_of}
use Rattle.partition_link.proofs.Talks.{fills_more}

-- the link fails or the peer closes before that
hears_end : {T : Type 0} (fault : HearFault) (old mid new : Channel) → Waits old mid → NeedsMore mid.held → Takes {T = T} mid new (Err fault)
    → Hears old new (Err fault)
hears_end Failed old mid new waits more takes =
    let all = fills_more old mid new waits.came takes.came false waits.fills takes.fills in record {
      came = waits.came ++ takes.came;
      told = all.told;
      heard = all.held;
      cause = subst (λ n. Counted n new.link.faults true) waits.unfailed takes.cause;
    }
hears_end Closed old mid new waits more takes =
    let all = fills_more old mid new waits.came takes.came true waits.fills takes.fills in
    let same : mid.held ≡ old.held ++ (waits.came ++ takes.came) =
    sym (append-nil mid.held) ∙ ap (λ bytes. mid.held ++ bytes) (sym takes.taken.0) ∙ sym takes.fills.held ∙ all.held in record {
      came = waits.came ++ takes.came;
      told = all.told;
      heard = (all.held, subst NeedsMore same more);
      cause = subst (λ n. Counted n new.link.faults false) waits.unfailed takes.cause;
    }
hears_end (Refused error) old mid new waits more takes = absurd takes.taken.1
hears_end OutOfMemory old mid new waits more takes = absurd takes.taken.1

-- .. where the reader has left all that it held
pub hears_no_more : {T : Type 0} (fault : HearFault) (old new : Channel) (link : LinkKnown) (held left : List ℕ) → Waits old (channel_of link held)
    → NeedsMore held → left ≡ held → Takes {T = T} (channel_of link left) new (Err fault) → Hears old new (Err fault)
hears_no_more {T = T} fault old new link held left waits more same takes =
    hears_end fault old (channel_of link held) new waits more (subst (λ bytes. Takes {T = T} (channel_of link bytes) new (Err fault)) same takes)

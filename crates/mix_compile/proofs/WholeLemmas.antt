-- Where each place has its fate, it is the one of compiling job after job.
use Rattle.std.proofs.Common.{◌≡◌, ℕ, zero, suc, ◌<◌, List, [], ◌∷◌, length, map, Option, Some, refl, sym, subst, arith}
use Rattle.compile_model.specs.declared.outcome.Fate.{Fate}
use Rattle.compile_model.specs.declared.outcome.Outcome.{Outcome}
use Rattle.compile_model.specs.Content.{Content}
use Rattle.compile_model.specs.Planned.{ArePlanned}
use Rattle.compile_model.specs.Seq.{seq}
use Rattle.partition_core.specs.declared.event.Event.{Event}
use Rattle.partition_core.specs.State.{Opening}
use Rattle.partition_core.specs.Histories.{Faithful, Legal, Sound, replay}
use Rattle.partition_core.specs.Nexts.{AreSettled}
use Rattle.partition_core.proofs.Complete.{complete}

all_settled : (fates : List Fate) → AreSettled (map Some fates)
all_settled [] place below = absurd (omega (arith, below))
all_settled (f ∷ fs) zero below = refl
all_settled (f ∷ fs) (suc place) below = all_settled fs place (omega (arith, below))

pub whole_seq : (compile : Content → Outcome) (o : Opening) (history : List Event) (fates : List Fate) → ArePlanned o.plan.jobs → Sound compile o
    → Legal o history → Faithful compile o history → (replay o history).fates ≡ map Some fates → (replay o history).fates ≡ map Some (seq compile o.plan.jobs)
whole_seq compile o history fates planned sound legal faithful whole =
    complete compile o history planned sound legal faithful (subst AreSettled (sym whole) (all_settled fates))

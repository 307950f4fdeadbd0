use Rattle.std.proofs.Common.{◌≡◌, List, Some, IfSome, slice_get, ap, ◌∙◌, subst}
use Rattle.std.specs.Option.{option_copied}
use Rattle.compile_model.specs.declared.outcome.Fate.{Fate}
use Rattle.compile_model.specs.Seq.{seq}
use Rattle.partition_core.specs.declared.lot.Lot.{Lot}
use Rattle.partition_core.specs.State.{at}
use Rattle.partition_core.specs.Lots.{fates_of}
use Rattle.partition_core.specs.Histories.{Sound}
use Rattle.partition_core.specs.Story.{Story}
use Rattle.partition_core.proofs.CoreLemmas.{sequential_at}
use Rattle.partition_core.proofs.event_core.Core.fate.Goals as goal

pub returns-clause-sequential : goal.returns-clause-sequential
returns-clause-sequential g c = λ h sound.
    let compile = g.M.Meaning.compile_of in
    subst (λ (story : Story). Sound compile story.opening → IfSome (option_copied c.fate_at.result)
    (λ (fate : Fate). slice_get (seq compile story.opening.plan.jobs) c.args.place ≡ Some fate)) c.self.view_is
    (λ s. sequential_at g.M.Meaning.honest compile c.self.inside.table c.self.invariant h s c.args.place (option_copied c.fate_at.result)
    (c.fate_at.ensures ∙ ap (λ (xs : List Lot). at (fates_of xs) c.args.place) c.as_slice.ensures.value)) sound

-- What a build of a plan's jobs leads to: in its folders, in the maker, and in the store.
use Rattle.std.specs.Prelude.{◌≡◌, ℕ, ◌+◌, ◌≤◌, List, ◌++◌, length, map, count_by, Some, None, slice_get, Vec, Result, Ok, Err}
use Rattle.std.specs.declared.alloc.Global.{Global}
use Rattle.mx_base.specs.Causes.{Rose}
use Rattle.compile_model.specs.declared.job.Job.{Job}
use Rattle.compile_model.specs.declared.outcome.Fate.{Fate}
use Rattle.honest_tree.specs.Given.{Given}
use Rattle.honest_tree.specs.Honest.{Honest}
use Rattle.kept_tree.specs.Tree.{StaysElsewhere}
use Rattle.tree_store.specs.declared.key.BuildKey.{BuildKey}
use Rattle.tree_store.specs.FolderKnown.{FolderKnown}
use Rattle.tree_store.specs.Slot.{Slot}
use Rattle.partition_core.specs.declared.event.Event.{Event}
use Rattle.partition_core.specs.Counts.{count_below, is_compiled}
use Rattle.partition_core.specs.Histories.{Faithful, Legal, Sound, replay}
use Rattle.partition_core.specs.State.{Opening, at}
use Rattle.partition_crew.specs.declared.one.BuildFault.TheVariants.{TreeFault, NoPartitionLeft}
use Rattle.partition_crew.specs.declared.one.One.{One}
use Rattle.partition_crew.specs.Build.{HaveFates, IsHistory as IsHistoryOf, SomeFailed, StayFor, inputs_of, is_death}
use Rattle.partition_board.specs.Holds.{AreLeft, HoldsBy}
use Rattle.partition_crew.specs.Station.{Nature}
use Rattle.partition_face.specs.Counts.{raised_by}
use Rattle.partition_face.specs.Makers.{MakerKnown}
use Rattle.mix_answer.specs.declared.answer.Answer.{Answer}
use Rattle.mix_answer.specs.declared.stop.Stop.{Stop}
use Rattle.mix_answer.specs.declared.stop.Stop.TheVariants.{Tree, Memory}
use Rattle.mix_answer.specs.Answer.{reply_in, stopped}
use Rattle.mix_compile.specs.Asked.{Came, came_to}
use Rattle.mix_compile.specs.Compiles.{Dies}
use Rattle.mix_compile.specs.History.{IsCounted, wanted}
use Rattle.mix_compile.specs.Lending.{AreTold, HoldsAt, key_of}
use Rattle.mix_compile.specs.Site.{IsCalm, Passage}

-- ---- in folders

-- folders, and what the maker of the partition counted
pub record Bench : Type 0 where
  pub folders : List FolderKnown
  pub maker : MakerKnown

abbrev pub bench_of : List FolderKnown → MakerKnown → Bench
bench_of folders maker = record { folders = folders; maker = maker }

-- why some place has no fate, by what was counted
pub record IsFault (nature : Nature) (old new : Bench) (one : One) : Type 0 where
  pub tree : one.fault ≡ Some TreeFault → SomeFailed new.folders
  pub whole : (one.fault ≡ Some TreeFault → ⊥) → SomeFailed new.folders → ⊥
  pub died : (n : ℕ) → one.fault ≡ Some (NoPartitionLeft n) → Rose old.maker.deaths new.maker.deaths × (nature.lasting → ⊥) × (count_by is_death one.history.items ≡ 1)
  pub lives : ((n : ℕ) → one.fault ≡ Some (NoPartitionLeft n) → ⊥) → new.maker.deaths ≡ old.maker.deaths

-- a partition was started, built in the folders, and was stopped
pub record HasBuilt (nature : Nature) (o : Opening) (old new : Bench) (one : One) : Type 0 where
  pub history : IsHistoryOf o one
  pub faithful : nature.honest → Faithful nature.compile o one.history.items
  pub left : AreLeft o one.fates.items old.folders new.folders
  pub stay : nature.honest → Sound nature.compile o → StayFor nature.compile (inputs_of nature.compile o.plan.jobs) old.folders new.folders
  pub counts : IsCounted one.history.items old.maker new.maker
  pub all : one.fault ≡ None → HaveFates (length o.plan.jobs) one.fates.items
  pub fault : IsFault nature old new one
  pub asked : new.maker.asked ≡ raised_by 1 old.maker.asked
  pub made : new.maker.faults ≡ old.maker.faults
  pub few : nature.honest → Sound nature.compile o
      → new.maker.runs ≤ old.maker.runs + count_below (is_compiled nature.compile o) (length o.plan.jobs)

-- ---- in a store

-- each job's build holds what became of the job, where that is told
abbrev pub HoldFates : Opening → List Event → (BuildKey → Slot) → Type 0
HoldFates o history slots = (place : ℕ) (job : Job) → slice_get o.plan.jobs place ≡ Some job →
    HoldsAt (HoldsBy o (replay o history).fates place (at (replay o history).fates place)) (slots (key_of o.plan.env job))

-- what a build in the folders of a store leads to
pub record IsMade (nature : Nature) (o : Opening) (passage : Passage) (history : List Event) : Type 0 where
  pub legal : Legal o history
  pub faithful : nature.honest → Faithful nature.compile o history
  pub counts : IsCounted history passage.old.maker passage.new.maker
  pub asked : passage.new.maker.asked ≡ raised_by (wanted o.plan.jobs 1) passage.old.maker.asked
  pub elsewhere : StaysElsewhere o.plan.env passage.old.store.slot passage.new.store.slot
  pub left : HoldFates o history passage.new.store.slot
  pub told : nature.honest → AreTold o.plan passage.old.store.slot
  pub stays : nature.honest → Sound nature.compile o → (known : List Given) → Honest nature.compile known passage.old.store.slot
      → Honest nature.compile (known ++ inputs_of nature.compile o.plan.jobs) passage.new.store.slot
  pub few : nature.honest → Sound nature.compile o
      → passage.new.maker.runs ≤ passage.old.maker.runs + count_below (is_compiled nature.compile o) (length o.plan.jobs)

-- each place has its fate, and no count rose that an answer tells of
pub record IsFinished (o : Opening) (passage : Passage) (history : List Event) (fates : List Fate) : Type 0 where
  pub whole : (replay o history).fates ≡ map Some fates
  pub calm : IsCalm passage

-- some place has none, and the reply says why
pub data IsCut (lasting : Type 0) (passage : Passage) (came : Came) : Type 0 where
  tree_fault : Rose passage.old.store.returned passage.new.store.returned → came.reply ≡ stopped Tree → IsCut lasting passage came
  died : Dies lasting passage came → IsCut lasting passage came
  no_memory : IsCalm passage → came.reply ≡ stopped Memory → IsCut lasting passage came

-- the fates, or the answer in their place
abbrev pub ComesTo : Nature → Opening → Passage → List Event → Result (Vec Fate Global) (Result Answer Stop) → Type 0
ComesTo nature o passage history (Ok fates) = IsFinished o passage history fates.items
ComesTo nature o passage history (Err answer) = IsCut nature.lasting passage (came_to (reply_in answer) history)

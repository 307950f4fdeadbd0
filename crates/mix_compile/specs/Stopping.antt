-- What stops a step, by what was counted.
use Rattle.std.specs.Prelude.{◌≡◌, ◌⊎◌, Result, Ok, Err}
use Rattle.mx_base.specs.Causes.{Rose}
use Rattle.kept_tree.specs.Faults.{IsCalm}
use Rattle.partition_face.specs.Makers.{MakerKnown}
use Rattle.tree_store.specs.declared.key.BuildKey.{BuildKey}
use Rattle.tree_store.specs.Known.{Known}
use Rattle.mix_answer.specs.declared.stop.Stop.{Stop}
use Rattle.mix_answer.specs.declared.stop.Stop.TheVariants.{Read, Tree, Write, Maker, Memory}
use Rattle.mix_compile.specs.Site.{Passage}

-- what stopped a step in the store: it or a folder failed, which was counted, or memory ran out, and no count rose
abbrev pub StoreStops : Stop → Known → Known → Type 0
StoreStops Read old new = Rose old.faults new.faults ⊎ Rose old.returned new.returned
StoreStops Tree old new = Rose old.returned new.returned
StoreStops Write old new = ⊥
StoreStops Maker old new = ⊥
StoreStops Memory old new = IsCalm old new

-- a step in the store that isn't stopped raises no count
abbrev pub CountsStop : {X : Type 0} → Result X Stop → Known → Known → Type 0
CountsStop (Ok x) old new = IsCalm old new
CountsStop (Err stop) old new = StoreStops stop old new

-- no partition was started: the maker failed, which was counted, or memory ran out
abbrev pub MakerStops : Stop → MakerKnown → MakerKnown → Type 0
MakerStops Read old new = ⊥
MakerStops Tree old new = ⊥
MakerStops Write old new = ⊥
MakerStops Maker old new = Rose old.faults new.faults
MakerStops Memory old new = new.faults ≡ old.faults

-- a build that wasn't begun left the builds as they were and ran nothing
pub record IsUnbegun (stop : Stop) (passage : Passage) : Type 0 where
  pub slots : (q : BuildKey) → passage.new.store.slot q ≡ passage.old.store.slot q
  pub runs : passage.new.maker.runs ≡ passage.old.maker.runs
  pub deaths : passage.new.maker.deaths ≡ passage.old.maker.deaths
  -- the store stopped it, or the maker did
  pub cause : (StoreStops stop passage.old.store passage.new.store × (passage.new.maker ≡ passage.old.maker))
      ⊎ (IsCalm passage.old.store passage.new.store × MakerStops stop passage.old.maker passage.new.maker)

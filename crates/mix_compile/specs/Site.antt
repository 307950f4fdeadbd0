-- Where a compile works: the store and the maker of partitions.
use Rattle.std.specs.Prelude.{◌≡◌}
use Rattle.tree_store.specs.Known.{Known}
use Rattle.partition_face.specs.Makers.{MakerKnown}

pub record Site : Type 0 where
  pub store : Known
  pub maker : MakerKnown

abbrev pub site_of : Known → MakerKnown → Site
site_of store maker = record { store = store; maker = maker }

-- a site before and after
pub record Passage : Type 0 where
  pub old : Site
  pub new : Site

abbrev pub passage_of : Site → Site → Passage
passage_of old new = record { old = old; new = new }

-- no count rose that an answer tells of
pub record IsCalm (passage : Passage) : Type 0 where
  pub reads : passage.new.store.faults ≡ passage.old.store.faults
  pub trees : passage.new.store.returned ≡ passage.old.store.returned
  pub deaths : passage.new.maker.deaths ≡ passage.old.maker.deaths
  pub makers : passage.new.maker.faults ≡ passage.old.maker.faults

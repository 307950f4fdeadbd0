-- What the outside is known by.
use Rattle.std.specs.Prelude.{◌≡◌, ℕ}
use Rattle.mx_base.specs.Sink.{Sunk}
use Rattle.tree_store.specs.Known.{Known}
use Rattle.tree_store.specs.Slot.{AllHere}

-- where a command works: the store and the compiler
pub record Site : Type 0 where
  pub store : Known
  -- how often the compiler died
  pub deaths : ℕ

pub record World : Type 0 where
  pub site : Site
  pub sink : Sunk

abbrev pub site_of : Known → ℕ → Site
site_of store deaths = record { store = store; deaths = deaths }

abbrev pub world_of : Known → ℕ → Sunk → World
world_of store deaths sink = record { site = site_of store deaths; sink = sink }

-- a site before and after
pub record Passage : Type 0 where
  pub old : Site
  pub new : Site

abbrev pub passage_of : Site → Site → Passage
passage_of old new = record { old = old; new = new }

-- nothing failed where the command works
pub record Calm (old new : Site) : Type 0 where
  pub reads : new.store.faults ≡ old.store.faults
  pub trees : new.store.returned ≡ old.store.returned
  pub deaths : new.deaths ≡ old.deaths

-- what each call keeps: the project's files, and each folder is back
pub record Keeps (old new : Known) : Type 0 where
  pub sources : new.sources ≡ old.sources
  pub here : AllHere new.slot

-- Where a command works that compiles one after another: the store and the compiler.
use Rattle.std.specs.Prelude.{◌≡◌, ℕ}
use Rattle.tree_store.specs.Known.{Known}

pub record Site : Type 0 where
  pub store : Known
  -- how often the compiler died
  pub deaths : ℕ

abbrev pub site_of : Known → ℕ → Site
site_of store deaths = record { store = store; deaths = deaths }

-- a site before and after
pub record Passage : Type 0 where
  pub old : Site
  pub new : Site

abbrev pub passage_of : Site → Site → Passage
passage_of old new = record { old = old; new = new }

-- nothing failed where the command works
pub record IsCalm (passage : Passage) : Type 0 where
  pub reads : passage.new.store.faults ≡ passage.old.store.faults
  pub trees : passage.new.store.returned ≡ passage.old.store.returned
  pub deaths : passage.new.deaths ≡ passage.old.deaths

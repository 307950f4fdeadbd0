-- What one step of loading answers, and what all of them do.
use Rattle.std.proofs.Common.{◌≡◌, ℕ, ◌≤◌, Bool, true, false, List, [], ◌∷◌, ◌++◌, length, slice_get, Option, Some, None, Result, Ok, Err, bytes_eq, nat_lt, IfSome, refl, sym, ap, subst, ◌∙◌, arith}
use Rattle.mx_base.specs.Blame.{is_outside}
use Rattle.mx_base.specs.Order.{bytes_at}
use Rattle.mx_base.specs.declared.file.File.{File}
use Rattle.tree_store.specs.Known.{Known, OnlyReads, Reads}
use Rattle.indexmap.specs.IndexSet.{insert_all}
use Rattle.hex_registry.specs.Blame.{blame_of}
use Rattle.hex_registry.specs.Loaded.{AreShelves, IsLoaded, SaysPackage, SaysStock, named_by_stock, next_name, package_path, shelf, wanted_names}
use Rattle.hex_registry.specs.Loaded.AreShelves.{none, next}
use Rattle.hex_registry.specs.Loaded.IsLoaded.{whole, refused}
use Rattle.hex_registry.specs.Shelves.{is_among, shelf_names}
use Rattle.hex_registry.specs.declared.error.RegistryError.{RegistryError}
use Rattle.hex_registry.specs.declared.shelf.Shelf.{Shelf}
use Rattle.hex_registry.specs.declared.shelf.Stock.{Stock}
use Rattle.hex_registry.specs.declared.wants.Wants.{Wants}
use Rattle.hex_registry.proofs.LoadLemmas.{HaveRead, all_read, for_all_told, have_begun, is_wanted, names_are, next_read, past_end, reads_on, told_both, told_on}

-- shelves so far, of what the files tell
pub record IsReading (known now : Known) (wants : Wants) (shelves : List Shelf) (keys : List (List ℕ)) (wanted : ℕ) : Type 0 where
  pub same : now ≡ known
  pub read : HaveRead wants shelves keys wanted
  pub told : IfSome known.sources (λ files. AreShelves files wants shelves)

-- a package that is read next
abbrev pub StockReads : Known → Known → Bool → List ℕ → Result (Option Stock) RegistryError → Type 0
StockReads now new wants_it name answer = Reads blame_of now new answer (λ files. SaysStock wants_it name (bytes_at (package_path name) files))

pub begins : (known now : Known) (wants : Wants) (shelves : List Shelf) (keys : List (List ℕ)) (wanted : ℕ) → now ≡ known → shelves ≡ []
    → keys ≡ insert_all bytes_eq [] (wanted_names wants) → wanted ≡ length keys → IsReading known now wants shelves keys wanted
begins known now wants shelves keys wanted same empty is w =
    subst (λ (n : ℕ). IsReading known now wants shelves keys n) (sym w)
    (subst (λ (ss : List Shelf). IsReading known now wants ss keys (length keys)) (sym empty)
    (record { same = same; read = have_begun wants keys is; told = for_all_told (λ files. AreShelves files wants []) known.sources (λ files. none) }))

says_package : (files : List File) (wants : Wants) (shelves : List Shelf) (keys : List (List ℕ)) (wanted : ℕ) (name : List ℕ) (wants_it : Bool)
    (answer : Result (Option Stock) RegistryError) → HaveRead wants shelves keys wanted → slice_get keys (length shelves) ≡ Some name
    → wants_it ≡ nat_lt (length shelves) wanted → SaysStock wants_it name (bytes_at (package_path name) files) answer → SaysPackage files wants name answer
says_package files wants shelves keys wanted name wants_it answer read at is says =
    subst (λ (b : Bool). SaysStock b name (bytes_at (package_path name) files) answer) (is ∙ is_wanted wants shelves keys wanted name read at) says

pub refuses : (known now new : Known) (wants : Wants) (shelves : List Shelf) (keys : List (List ℕ)) (wanted : ℕ) (name : List ℕ) (wants_it : Bool)
    (error : RegistryError) → IsReading known now wants shelves keys wanted → slice_get keys (length shelves) ≡ Some name
    → wants_it ≡ nat_lt (length shelves) wanted → StockReads now new wants_it name (Err error)
    → Reads {X = List Shelf} blame_of known new (Err error) (λ files. IsLoaded files wants)
refuses known now new wants shelves keys wanted name wants_it error r at is reads =
    record {
      answer = λ input. told_both (λ files. AreShelves files wants shelves) (λ files. SaysStock wants_it name (bytes_at (package_path name) files)
          (Err error)) (λ files. IsLoaded files wants (Err error)) known.sources
          (λ files are says. refused shelves name are (next_read wants shelves keys wanted name r.read at)
          (says_package files wants shelves keys wanted name wants_it (Err error) r.read at is says))
          r.told (subst (λ (k : Known). IfSome k.sources (λ files. SaysStock wants_it name (bytes_at (package_path name) files) (Err error))) r.same
          (reads.answer input));
      reads = subst (λ (k : Known). OnlyReads k new (is_outside (blame_of error))) r.same reads.reads;
    }

-- a store that was only read, and didn't fail, is the same
unchanged : (now new : Known) → OnlyReads now new false → new ≡ now
unchanged now new reads = reads.same ∙ ap (λ (n : ℕ). record now { faults = n }) (reads.cause.kept refl)

pub goes_on : (known now new : Known) (wants : Wants) (shelves longer : List Shelf) (keys more : List (List ℕ)) (wanted : ℕ) (name : List ℕ)
    (stock : Option Stock) (wants_it : Bool) → IsReading known now wants shelves keys wanted → slice_get keys (length shelves) ≡ Some name
    → wants_it ≡ nat_lt (length shelves) wanted → StockReads now new wants_it name (Ok stock)
    → more ≡ insert_all bytes_eq keys (named_by_stock wants.pinned stock) → longer ≡ shelves ++ shelf name stock ∷ []
    → IsReading known new wants longer more wanted
goes_on known now new wants shelves longer keys more wanted name stock wants_it r at it reads is pushed =
    subst (λ (ss : List Shelf). IsReading known new wants ss more wanted) (sym pushed)
    (record {
      same = unchanged now new reads.reads ∙ r.same;
      read = reads_on wants shelves keys more wanted name stock r.read at is;
      told = told_both (λ files. AreShelves files wants shelves) (λ files. SaysStock wants_it name (bytes_at (package_path name) files) (Ok stock))
          (λ files. AreShelves files wants (shelves ++ shelf name stock ∷ [])) known.sources
          (λ files are says. next are (next_read wants shelves keys wanted name r.read at)
          (says_package files wants shelves keys wanted name wants_it (Ok stock) r.read at it says))
          r.told (subst (λ (k : Known). IfSome k.sources (λ files. SaysStock wants_it name (bytes_at (package_path name) files) (Ok stock))) r.same
          reads.answer);
    })

pub loads : (known now : Known) (wants : Wants) (shelves : List Shelf) (keys : List (List ℕ)) (wanted : ℕ) → IsReading known now wants shelves keys wanted
    → slice_get keys (length shelves) ≡ None → Reads {X = List Shelf} {E = RegistryError} blame_of known now (Ok shelves) (λ files. IsLoaded files wants)
loads known now wants shelves keys wanted r at =
    record {
      answer = told_on (λ files. AreShelves files wants shelves) (λ files. IsLoaded files wants (Ok shelves)) known.sources
          (λ files are. whole are (all_read wants shelves keys wanted r.read (past_end keys (length shelves) at))) r.told;
      reads = subst (λ (k : Known). OnlyReads known k false) (sym r.same) (record
          { same = refl; cause = record { later = omega arith; rose = λ t. absurd (cc); kept = λ t. refl } });
    }

pub has_names : (known now : Known) (wants : Wants) (shelves : List Shelf) (keys : List (List ℕ)) (wanted : ℕ) → IsReading known now wants shelves keys wanted
    → slice_get keys (length shelves) ≡ None → keys ≡ shelf_names shelves
has_names known now wants shelves keys wanted r at = names_are wants shelves keys wanted r.read (past_end keys (length shelves) at)

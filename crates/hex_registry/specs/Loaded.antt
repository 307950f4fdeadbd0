-- In which order packages are read, and what is refused at the first place met.
use Rattle.std.specs.Prelude.{◌≡◌, ◌≢◌, ℕ, Bool, true, false, not, List, [], ◌∷◌, ◌++◌, map, find, filter, flat_map, bytes_eq, Option, Some, None, Result, Ok, Err, IsTrue, IsFalse, codes}
use Rattle.std.specs.List.{All}
use Rattle.semver.specs.declared.Version.{Version}
use Rattle.hex_messages.specs.declared.error.WireCause.TheVariants as cause
use Rattle.hex_messages.specs.declared.error.WireError.{WireError}
use Rattle.hex_messages.specs.declared.package.Package.{Package}
use Rattle.hex_messages.specs.declared.package.Release.{Release}
use Rattle.hex_messages.specs.Faults.{IsFirstFault}
use Rattle.hex_messages.specs.Stands.{Stands}
use Rattle.mx_base.specs.declared.file.File.{File}
use Rattle.mx_base.specs.Layout.{registry_folder}
use Rattle.mx_base.specs.Order.{bytes_at}
use Rattle.mx_base.specs.Path.{child_of}
use Rattle.hex_registry.specs.declared.error.RegistryError.{RegistryError}
use Rattle.hex_registry.specs.declared.error.RegistryError.TheVariants.{Wire, NoPackage, NameDiffers, BadVersion}
use Rattle.hex_registry.specs.declared.offer.Offer.{Offer}
use Rattle.hex_registry.specs.declared.shelf.Shelf.{Shelf}
use Rattle.hex_registry.specs.declared.shelf.Stock.{Stock}
use Rattle.hex_registry.specs.declared.wants.Want.{Want}
use Rattle.hex_registry.specs.declared.wants.Wants.{Wants}
use Rattle.hex_registry.specs.Offers.{AreOffers, IsNoVersion, IsOffer, IsVersion}
use Rattle.hex_registry.specs.Shelves.{is_among, demands_of, shelf_names, without_apps}

-- the message of a package, in the folder of its name
abbrev pub message_name : List ℕ
message_name = codes "package"

abbrev pub package_path : List ℕ → List ℕ
package_path name = child_of (child_of registry_folder name) message_name

-- the first release whose version is none has this text for it
pub record IsFirstBadVersion (releases : List Release) (text : List ℕ) : Type 0 where
  pub before : List Release
  pub release : Release
  pub after : List Release
  pub split : releases ≡ before ++ release ∷ after
  pub versions : All (λ earlier. (version : Version) × IsVersion earlier.version version) before
  pub none : IsNoVersion release.version
  pub text_is : release.version ≡ text

-- the message that stands under a name, or its first fault
pub data IsMessage (name bytes : List ℕ) : Result Package RegistryError → Type 0 where
  faulty : (fault : WireError) → IsFirstFault bytes fault → fault.cause ≢ cause.OutOfMemory → IsMessage name bytes (Err (Wire name fault))
  whole : {message : Package} → Stands bytes message → IsMessage name bytes (Ok message)

-- what a release offers, or that its version is none
pub data SaysOffer (name repository : List ℕ) (release : Release) : Result Offer RegistryError → Type 0 where
  bad : IsNoVersion release.version → SaysOffer name repository release (Err (BadVersion name release.version))
  good : {offer : Offer} → IsOffer repository release offer → SaysOffer name repository release (Ok offer)

-- what the releases of a package offer, or the first whose version is none
pub data SaysOffers (name : List ℕ) (message : Package) : Result (List Offer) RegistryError → Type 0 where
  bad : {text : List ℕ} → IsFirstBadVersion message.releases text → SaysOffers name message (Err (BadVersion name text))
  good : {offers : List Offer} → AreOffers message.repository message.releases offers → SaysOffers name message (Ok offers)

-- what the message of a package says that is read under a name, or why it is refused
pub data SaysMessage (name bytes : List ℕ) : Result Stock RegistryError → Type 0 where
  wire : (fault : WireError) → IsFirstFault bytes fault → fault.cause ≢ cause.OutOfMemory → SaysMessage name bytes (Err (Wire name fault))
  differs : (message : Package) → Stands bytes message → message.name ≢ name → SaysMessage name bytes (Err (NameDiffers name message.name))
  version : (message : Package) {text : List ℕ} → Stands bytes message → message.name ≡ name → IsFirstBadVersion message.releases text
      → SaysMessage name bytes (Err (BadVersion name text))
  read : {stock : Stock} → Stands bytes stock.message → stock.message.name ≡ name → AreOffers stock.message.repository stock.message.releases stock.offers
      → SaysMessage name bytes (Ok stock)

-- what a registry has under a name, whose file has these bytes. Only a package that wants name must have a file
pub data SaysStock (wanted : Bool) (name : List ℕ) : Option (List ℕ) → Result (Option Stock) RegistryError → Type 0 where
  absent : IsFalse wanted → SaysStock wanted name None (Ok None)
  missing : IsTrue wanted → SaysStock wanted name None (Err (NoPackage name))
  refused : {bytes : List ℕ} {error : RegistryError} → SaysMessage name bytes (Err error) → SaysStock wanted name (Some bytes) (Err error)
  read : {bytes : List ℕ} {stock : Stock} → SaysMessage name bytes (Ok stock) → SaysStock wanted name (Some bytes) (Ok (Some stock))

abbrev pub wanted_names : Wants → List (List ℕ)
wanted_names wants = map (λ want. want.«package») wants.wants

-- the packages that a release names in its dependencies, without those on pinned apps. One that isn't usable names none
abbrev pub named_by_offer : List (List ℕ) → Offer → List (List ℕ)
named_by_offer pinned offer = map (λ demand. demand.«package») (without_apps pinned (demands_of (Some offer)))

abbrev pub named_by_stock : List (List ℕ) → Option Stock → List (List ℕ)
named_by_stock pinned None = []
named_by_stock pinned (Some stock) = flat_map (named_by_offer pinned) stock.offers

-- all that wants name, and then what packages name, in this order
abbrev pub names_so_far : Wants → List Shelf → List (List ℕ)
names_so_far wants shelves = wanted_names wants ++ flat_map (λ shelf. named_by_stock wants.pinned shelf.stock) shelves

-- the first name that was named and not read
abbrev pub next_name : Wants → List Shelf → Option (List ℕ)
next_name wants shelves = find (λ name. not (is_among name (shelf_names shelves))) (names_so_far wants shelves)

-- what the files say of a package
abbrev pub SaysPackage : List File → Wants → List ℕ → Result (Option Stock) RegistryError → Type 0
SaysPackage files wants name answer = SaysStock (is_among name (wanted_names wants)) name (bytes_at (package_path name) files) answer

abbrev pub shelf : List ℕ → Option Stock → Shelf
shelf name stock = record { name = name; stock = stock }

-- shelves in the order of reading: each package is the first that wants and the packages before it name
pub data AreShelves (files : List File) (wants : Wants) : List Shelf → Type 0 where
  none : AreShelves files wants []
  next : {shelves : List Shelf} {name : List ℕ} {stock : Option Stock} → AreShelves files wants shelves → next_name wants shelves ≡ Some name
      → SaysPackage files wants name (Ok stock) → AreShelves files wants (shelves ++ shelf name stock ∷ [])

-- what is loaded for the wants, or why the first package that is refused is
pub data IsLoaded (files : List File) (wants : Wants) : Result (List Shelf) RegistryError → Type 0 where
  whole : {shelves : List Shelf} → AreShelves files wants shelves → next_name wants shelves ≡ None → IsLoaded files wants (Ok shelves)
  refused : (shelves : List Shelf) (name : List ℕ) {error : RegistryError} → AreShelves files wants shelves → next_name wants shelves ≡ Some name
      → SaysPackage files wants name (Err error) → IsLoaded files wants (Err error)

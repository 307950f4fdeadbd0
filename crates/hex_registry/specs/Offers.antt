-- What the releases of a package offer: the texts of their messages, read.
use Rattle.std.specs.Prelude.{◌≡◌, ℕ, Bool, true, List, Option, Some, None, Result, Ok, IsTrue, is_some, if◌then◌else◌, bytes_eq}
use Rattle.std.specs.List.{AllZip}
use Rattle.std.specs.Str.{is_utf8}
use Rattle.semver.specs.Identifiers.{parts_of}
use Rattle.semver.specs.Parse.{Parts, version_parts}
use Rattle.semver.specs.declared.Version.{Version}
use Rattle.version_req.specs.Condition.{Alternatives}
use Rattle.version_req.specs.Grammar.{Spells}
use Rattle.mx_base.specs.AppName.{is_app_name}
use Rattle.hex_messages.specs.declared.package.Dependency.{Dependency}
use Rattle.hex_messages.specs.declared.package.Release.{Release}
use Rattle.hex_registry.specs.declared.offer.Demand.{Demand}
use Rattle.hex_registry.specs.declared.offer.Offer.{Offer}

-- the text is a version of Semantic Versioning 2.0.0
pub record IsVersion (text : List ℕ) (version : Version) : Type 0 where
  pub utf8 : IsTrue (is_utf8 text)
  pub parts : version_parts text ≡ Ok (parts_of version)

-- the text is none
abbrev pub IsNoVersion : List ℕ → Type 0
IsNoVersion text = (version : Version) → IsVersion text version → ⊥

abbrev pub SaysVersion : List ℕ → Option Version → Type 0
SaysVersion text None = IsNoVersion text
SaysVersion text (Some version) = IsVersion text version

abbrev pub SaysRequirement : List ℕ → Option Alternatives → Type 0
SaysRequirement text None = (requirement : Alternatives) → Spells text requirement → ⊥
SaysRequirement text (Some requirement) = Spells text requirement

-- the text as a name, where it is one
abbrev pub name_of : List ℕ → Option (List ℕ)
name_of text = if is_app_name text then Some text else None

-- the app of a dependency, which has the package's name where it is unset
abbrev pub app_in : Option (List ℕ) → List ℕ → List ℕ
app_in None name = name
app_in (Some app) name = app

abbrev pub app_of : Dependency → List ℕ
app_of d = app_in d.app d.«package»

abbrev pub is_repository : List ℕ → Option (List ℕ) → Bool
is_repository repository None = true
is_repository repository (Some other) = bytes_eq other repository

-- the dependency is of the package's own repository
abbrev pub is_own : List ℕ → Dependency → Bool
is_own repository d = is_repository repository d.repository

-- what a dependency of a release asks for
pub record IsDemand (repository : List ℕ) (d : Dependency) (demand : Demand) : Type 0 where
  pub own : IsTrue (is_own repository d)
  pub on : name_of d.«package» ≡ Some demand.«package»
  pub app : name_of (app_of d) ≡ Some demand.app
  pub requirement : Spells d.requirement demand.requirement
  pub optional : demand.optional ≡ d.optional

abbrev pub SaysDemand : List ℕ → Dependency → Option Demand → Type 0
SaysDemand repository d None = (demand : Demand) → IsDemand repository d demand → ⊥
SaysDemand repository d (Some demand) = IsDemand repository d demand

-- what the dependencies of a release ask for, each read
abbrev pub AreDemands : List ℕ → List Dependency → List Demand → Type 0
AreDemands repository dependencies demands = AllZip (IsDemand repository) dependencies demands

-- a release is usable where each of its dependencies can be read and is of the package's own repository
abbrev pub SaysDemands : List ℕ → List Dependency → Option (List Demand) → Type 0
SaysDemands repository dependencies None = (demands : List Demand) → AreDemands repository dependencies demands → ⊥
SaysDemands repository dependencies (Some demands) = AreDemands repository dependencies demands

-- what a release of a repository offers
pub record IsOffer (repository : List ℕ) (release : Release) (offer : Offer) : Type 0 where
  pub version : IsVersion release.version offer.version
  pub retired : offer.retired ≡ is_some release.retired
  pub demands : SaysDemands repository release.dependencies offer.demands

abbrev pub AreOffers : List ℕ → List Release → List Offer → Type 0
AreOffers repository releases offers = AllZip (IsOffer repository) releases offers

-- the release can be picked
abbrev pub is_usable : Offer → Bool
is_usable offer = is_some offer.demands

-- Names of apps that no need has yet.
use Rattle.std.specs.Prelude.{◌≡◌, ℕ, ◌<◌, ◌≤◌, List, [], ◌∷◌, ◌++◌, length, map, slice_index, IsTrue, IsFalse}
use Rattle.std.specs.List.{AllByRecursion}
use Rattle.indexmap.specs.IndexSet.{IndexSet, keys}
use Rattle.mx_base.specs.AppName.{IsAppName, fits_at}
use Rattle.build_manifest.specs.Mark.{Need}

-- no need has this name
abbrev pub NoneHas : List Need → List ℕ → Type 0
NoneHas listed name = AllByRecursion (λ earlier. earlier.1 ≡ name → ⊥) listed

-- a name that none of these needs has
pub record IsFreeName (listed : List Need) (name : List ℕ) : Type 0 where
  pub proper : IsAppName name
  pub free : NoneHas listed name

-- some such name begins so
abbrev pub BeginsFree : List Need → List ℕ → Type 0
BeginsFree listed front = (more : List ℕ) × IsFreeName listed (front ++ more)

-- the set has the apps of these needs, in their order
abbrev pub HasApps : {Hasher : Type 0} → IndexSet (List ℕ) Hasher → List Need → Type 0
HasApps apps listed = keys apps ≡ map (λ need. need.1) listed

-- no name goes on with what is left
abbrev pub NoneGoesOn : List ℕ → List ℕ → Type 0
NoneGoesOn front [] = Unit {0}
NoneGoesOn front (next ∷ others) = length front < 255 → IsFalse (fits_at (length front) next)

-- the longest front of a text that a name may begin with
pub record IsLongestFront (text front : List ℕ) : Type 0 where
  pub rest : List ℕ
  pub cut : text ≡ front ++ rest
  pub not_long : length front ≤ 255
  pub bytes : (k : ℕ) → k < length front → IsTrue (fits_at k (slice_index front k))
  pub ends : NoneGoesOn front rest

-- the longest front of a name that some name begins with which isn't listed
pub record IsFreeFront (listed : List Need) (name front : List ℕ) : Type 0 where
  pub rest : List ℕ
  pub cut : name ≡ front ++ rest
  pub free : BeginsFree listed front
  pub longest : (next : ℕ) (others : List ℕ) → rest ≡ next ∷ others → BeginsFree listed (front ++ next ∷ []) → ⊥

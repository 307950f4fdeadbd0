-- What releases offer, by their texts.
use Rattle.std.proofs.Common.{◌≡◌, ℕ, zero, suc, ◌+◌, ◌<◌, ◌≤◌, Bool, true, false, List, [], ◌∷◌, ◌++◌, length, get_or, take, drop, Option, Some, None, Result, Ok, Err, refl, sym, ap, subst, ◌∙◌, arith, add-one}
use Rattle.std.specs.List.{All, AllZip, Contains}
use Rattle.std.specs.Str.{IsUtf8, is_utf8}
use Rattle.std.proofs.lemmas.List.Elements.{All-cons}
use Rattle.std.proofs.lemmas.Str.{IsUtf8-from_is_utf8, is_utf8-from_IsUtf8}
use Rattle.semver.specs.Identifiers.{parts_of}
use Rattle.semver.specs.Parse.{version_parts}
use Rattle.semver.specs.declared.Version.{Version}
use Rattle.hex_messages.specs.declared.package.Dependency.{Dependency}
use Rattle.hex_messages.specs.declared.package.Release.{Release}
use Rattle.hex_registry.specs.Loaded.{IsFirstBadVersion}
use Rattle.hex_registry.specs.Offers.{AreDemands, AreOffers, IsDemand, IsNoVersion, IsOffer, IsVersion, SaysDemand, SaysDemands, SaysRequirement}
use Rattle.hex_registry.specs.declared.offer.Demand.{Demand}
use Rattle.hex_registry.specs.declared.offer.Offer.{Offer}

pub not_version : (text : List ℕ) → (IsUtf8 text → ⊥) → IsNoVersion text
not_version text none = λ version is. none (IsUtf8-from_is_utf8 text is.utf8)

pub version_is : (text : List ℕ) (version : Version) → IsUtf8 text → version_parts text ≡ Ok (parts_of version) → IsVersion text version
version_is text version utf8 parts = record { utf8 = is_utf8-from_IsUtf8 text utf8; parts = parts }

-- a dependency whose requirement can't be read asks for nothing
pub no_requirement : (repository : List ℕ) (d : Dependency) → SaysRequirement d.requirement None → SaysDemand repository d None
no_requirement repository d none = λ demand is. none demand.requirement is.requirement

-- where one of two lists has an element that relates to none, they don't relate
zip_breaks : {A B : Type 0} (R : A → B → Type 0) (xs : List A) (ys : List B) (i : ℕ) (x : A) → i < length xs → get_or xs i x ≡ x → ((y : B) → R x y → ⊥)
    → AllZip R xs ys → ⊥
zip_breaks R [] ys i x below at never zip = omega (arith, below)
zip_breaks R (x' ∷ xs) [] i x below at never zip = zip
zip_breaks R (x' ∷ xs) (y ∷ ys) zero x below at never zip = never y (subst (λ z. R z y) at zip.0)
zip_breaks R (x' ∷ xs) (y ∷ ys) (suc i) x below at never zip = zip_breaks R xs ys i x (omega (arith, below)) at never zip.1

-- one more element on each side
zip_more : {A B : Type 0} (R : A → B → Type 0) (xs : List A) (ys : List B) (i : ℕ) (x : A) (y : B) → AllZip R (take i xs) ys → i < length xs
    → get_or xs i x ≡ x → R x y → AllZip R (take (suc i) xs) (ys ++ y ∷ [])
zip_more R [] ys i x y zip below at r = absurd (omega (arith, below))
zip_more R (z ∷ xs) [] zero x y zip below at r = (subst (λ w. R w y) (sym at) r, tt)
zip_more R (z ∷ xs) (w ∷ ys) zero x y zip below at r = absurd zip
zip_more R (z ∷ xs) [] (suc i) x y zip below at r = absurd zip
zip_more R (z ∷ xs) (w ∷ ys) (suc i) x y zip below at r = (zip.0, zip_more R xs ys i x y zip.1 (omega (arith, below)) at r)

pub zip_next : {A B : Type 0} (R : A → B → Type 0) (xs : List A) (ys : List B) (i : ℕ) (x : A) (y : B) → AllZip R (take i xs) ys → i < length xs
    → get_or xs i x ≡ x → R x y → AllZip R (take (i + 1) xs) (ys ++ y ∷ [])
zip_next R xs ys i x y zip below at r = rw add-one (zip_more R xs ys i x y zip below at r)

pub no_demands : (repository : List ℕ) (dependencies : List Dependency) (i : ℕ) (d : Dependency) → i < length dependencies → get_or dependencies i d ≡ d
    → SaysDemand repository d None → SaysDemands repository dependencies None
no_demands repository dependencies i d below at none = λ demands are. zip_breaks (IsDemand repository) dependencies demands i d below at none are

-- the first release whose version is none
versions_so_far : (repository : List ℕ) (releases : List Release) (offers : List Offer) → AreOffers repository releases offers
    → All (λ earlier. (version : Version) × IsVersion earlier.version version) releases
versions_so_far repository [] offers are = λ k d below. absurd (omega (arith, below))
versions_so_far repository (r ∷ releases) [] are = absurd are
versions_so_far repository (r ∷ releases) (o ∷ offers) are =
    All-cons (λ earlier. (version : Version) × IsVersion earlier.version version) r releases (o.version, are.0.version)
    (versions_so_far repository releases offers are.1)

split_at : (releases : List Release) (i : ℕ) (r : Release) → i < length releases → get_or releases i r ≡ r
    → releases ≡ take i releases ++ r ∷ drop (suc i) releases
split_at [] i r below at = absurd (omega (arith, below))
split_at (x ∷ xs) zero r below at = ap (λ (z : Release). z ∷ xs) at
split_at (x ∷ xs) (suc i) r below at = ap (λ (zs : List Release). x ∷ zs) (split_at xs i r (omega (arith, below)) at)

pub first_bad : (repository : List ℕ) (releases : List Release) (offers : List Offer) (i : ℕ) (r : Release) → AreOffers repository (take i releases) offers
    → i < length releases → get_or releases i r ≡ r → IsNoVersion r.version → IsFirstBadVersion releases r.version
first_bad repository releases offers i r are below at none =
    record {
      before = take i releases;
      release = r;
      after = drop (suc i) releases;
      split = split_at releases i r below at;
      versions = versions_so_far
          repository (take i releases) offers are;
      none = none;
      text_is = refl;
    }

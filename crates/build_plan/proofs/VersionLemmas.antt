-- The versions of what was found.
use Rattle.std.proofs.Common.{◌≡◌, ℕ, List, [], ◌∷◌, Option, Some, None, Ok, codes, refl, sym, ◌∙◌, subst, Bool, true, false, ◌&&◌, is_ok, IsTrue, length, take, get_or, suc, ap, ◌≤◌, ◌<◌, ◌+◌, ◌++◌}
use Rattle.std.specs.Prelude.{IsSome, option_map}
use Rattle.std.specs.List.{All, AllZip}
use Rattle.std.specs.Str.{is_utf8, chars, IsUtf8}
use lib.Utf8.{encode}
use Rattle.std.proofs.lemmas.List.{take_all, take_more}
use Rattle.project_file.specs.declared.project.Project.{Project}
use Rattle.project_file.specs.Version.{is_version}
use Rattle.version_req.proofs.VersionLemmas.{no_text}
use Rattle.std.proofs.lemmas.List.Elements.{All-nil, All-cons, All-head, All-tail}
use Rattle.semver.proofs.OnLiterals.{semver_on_literals}
use Rattle.semver.specs.Identifiers.{parts_of}
use Rattle.semver.specs.Parse.{version_parts}
use Rattle.semver.specs.declared.Version.{Version}
use Rattle.mx_base.specs.declared.file.File.{File}
use Rattle.converger.specs.Divergence.{parts_in}
use Rattle.dep_rows.specs.declared.row.Row.{Row}
use Rattle.build_plan.specs.declared.found.Found.{Found}
use Rattle.build_plan.specs.Dependencies.{AreVersions, version_by}
use Rattle.build_plan.specs.Found.{IsFound, IsFoundAt}

-- the version that the manifest says
pub record IsVersionOf (found : Found) (version : Option Version) : Type 0 where
  pub number : Version
  pub known : version ≡ Some number
  pub parts : version_parts (version_by found.project) ≡ Ok (parts_of number)

pub all_known : (found : List Found) (versions : List (Option Version)) → AllZip IsVersionOf found versions → All (λ version. IsSome version) versions
all_known [] [] are = All-nil (λ version. IsSome version)
all_known [] (version ∷ versions) are = absurd are
all_known (one ∷ found) [] are = absurd are
all_known (one ∷ found) (version ∷ versions) are =
    All-cons (λ v. IsSome v) version versions (subst (λ (v : Option Version). IsSome v) (sym are.0.known) refl) (all_known found versions are.1)

pub are_versions : (files : List File) (rows : List Row) (winners : List ℕ) (found : List Found) (versions : List (Option Version)) → AllZip IsVersionOf found versions → All (IsFound files) found → AllZip (IsFoundAt rows) winners found → AreVersions files rows winners (parts_in versions)
are_versions files rows [] [] [] are told at = tt
are_versions files rows [] [] (version ∷ versions) are told at = absurd are
are_versions files rows [] (one ∷ found) versions are told at = absurd at
are_versions files rows (winner ∷ winners) [] versions are told at = absurd at
are_versions files rows (winner ∷ winners) (one ∷ found) [] are told at = absurd are
are_versions files rows (winner ∷ winners) (one ∷ found) (version ∷ versions) are told at =
    let here = All-head (IsFound files) one found told in (
      record {
        row = at.0.row;
        dir = one.dir;
        found = one.project;
        number = parts_of are.0.number;
        stands = at.0.stands;
        source = at.0.source;
        loaded = here.loaded;
        parts = are.0.parts;
        known = ap (option_map parts_of) are.0.known;
      },
      are_versions files rows winners found versions are.1 (All-tail (IsFound files) one found told) at.1,
    )

and_left : (a b : Bool) → (a && b) ≡ true → a ≡ true
and_left true b both = refl
and_left false b both = cc

-- a version is a text
pub not_version : (text : List ℕ) → (IsUtf8 text → ⊥) → IsTrue (is_version text) → ⊥
not_version text garbled is =
    let clash : true ≡ false = sym (and_left (is_utf8 text) (is_ok (version_parts text)) is) ∙ no_text text garbled in cc

pub all_versions : (found : List Found) (versions : List (Option Version)) (i : ℕ) → length found ≤ i → AllZip IsVersionOf (take i found) versions → AllZip IsVersionOf found versions
all_versions found versions i past are = subst (λ (fs : List Found). AllZip IsVersionOf fs versions) (take_all i found past) are

pub zip_more : {A B : Type 0} (R : A → B → Type 0) (xs : List A) (ys : List B) (i : ℕ) (d : A) (y : B) → i < length xs → AllZip R (take i xs) ys → R (get_or xs i d) y → AllZip R (take (i + 1) xs) (ys ++ y ∷ [])
zip_more R xs ys i d y within so_far next = subst (λ (front : List _). AllZip R front (ys ++ y ∷ [])) (sym (take_more xs i d within)) (zip_push R (take i xs) ys (get_or xs i d) y so_far next)
  where
    zip_push : {A B : Type 0} (R : A → B → Type 0) (xs : List A) (ys : List B) (x : A) (y : B) → AllZip R xs ys → R x y → AllZip R (xs ++ x ∷ []) (ys ++ y ∷ [])
    zip_push R [] [] x y so_far next = (next, so_far)
    zip_push R [] (z ∷ zs) x y so_far next = absurd so_far
    zip_push R (w ∷ ws) [] x y so_far next = absurd so_far
    zip_push R (w ∷ ws) (z ∷ zs) x y so_far next = (so_far.0, zip_push R ws zs x y so_far.1 next)

pub length_zip : {A B : Type 0} (R : A → B → Type 0) (xs : List A) (ys : List B) → AllZip R xs ys → length xs ≡ length ys
length_zip R [] [] all = refl
length_zip R [] (y ∷ ys) all = absurd all
length_zip R (x ∷ xs) [] all = absurd all
length_zip R (x ∷ xs) (y ∷ ys) all = ap suc (length_zip R xs ys all.1)

-- the version without a manifest
pub no_version : IsTrue (is_version (codes "0.0.0"))
unfolding semver_on_literals is_utf8 chars encode
no_version = refl

pub version_is : (project : Option Project) → IsTrue (is_version (version_by project))
version_is None = no_version
version_is (Some project) = project.versioned

-- What is written for a release says that release.
use Rattle.std.proofs.Common.{◌≡◌, ℕ, suc, ◌/◌, ◌%◌, ◌<◌, ◌&&◌, Bool, true, false, List, [], ◌∷◌, slice_index, map, Option, Some, None, option_and_then, if◌then◌else◌, codes, refl, sym, ◌∙◌, ap, arith}
use Rattle.std.specs.Prelude.{IsTrue}
use Rattle.std.specs.List.{AllByRecursion, list_all}
use Rattle.std.proofs.lemmas.Bool.{true≢false}
use Rattle.std.proofs.lemmas.List.Folds.{list_all_at}
use Rattle.hex.specs.Hex.{IsBytes, encode_lower, encode_with, lower_digits, decode_of}
use Rattle.hex.proofs.HexLemmas.{decode_of-encode_lower}
use Rattle.mx_base.specs.AppName.{is_app_name}
use Rattle.term_values.specs.declared.term.Term.{Term}
use Rattle.term_values.specs.declared.term.Term.TheVariants.{Atom, Str, List as Listed}
use Rattle.term_values.specs.Views.{Named, string_of, keyword_of, keywords_of, all_of}
use Rattle.mix_lock.specs.declared.deps.Link.{Link}
use Rattle.mix_lock.specs.declared.entry.HexEntry.{HexEntry}
use Rattle.mix_lock.specs.declared.entry.LockDep.{LockDep}
use Rattle.mix_lock.specs.declared.release.Build.{Build}
use Rattle.mix_lock.specs.declared.release.Release.{Release}
use Rattle.mix_lock.specs.Lock.{IsLockDep, IsHexEntry}
use Rattle.term_values.specs.Apps.{if_app, app_of}
use Rattle.version_req.specs.Version.{is_version, if_version}
use Rattle.mix_lock.specs.Terms.{is_named, is_hex, names_of, version_of, is_lower_digit, if_decoded, bytes_in, bytes_of, truth_of, is_hexpm, link, three, link_of, dep, dep_in, dep_of, deps_of, release, release_by, build, build_by, outer_of, hex_entry, with_rest, hex_in, hex_of}
use Rattle.mix_lock.specs.Text.{truth_term, keyword, options_term, dep_term, bytes_term, hex_term}
use Rattle.mix_lock.proofs.ViewLemmas.{atom_is, string_is, list_is, tuple_is, out_atom, out_tuple}

taken : (test : List ℕ → Bool) (text : List ℕ) → IsTrue (test text) → (if test text then Some text else None) ≡ Some text
taken test text is = ap (λ (b : Bool). if b then Some text else None) is

pub app_back : (name : List ℕ) → IsTrue (is_app_name name) → app_of (Atom name) ≡ Some name
app_back name is = ap (option_and_then if_app) (atom_is name) ∙ taken is_app_name name is

version_back : (version : List ℕ) → IsTrue (is_version version) → version_of (Str version) ≡ Some version
version_back version is = ap (option_and_then if_version) (string_is version) ∙ taken is_version version is

-- ---- bytes

digits_lower : (d : ℕ) → d < 16 → is_lower_digit (slice_index lower_digits d) ≡ true
digits_lower d below = at (is_lower_digit (slice_index lower_digits d)) refl
  where
    at : (b : Bool) → is_lower_digit (slice_index lower_digits d) ≡ b → b ≡ true
    at true e = refl
    at false e = absurd (true≢false (list_all_at is_lower_digit lower_digits d 0 below e))

encoded_lower : (bytes : List ℕ) → IsBytes bytes → list_all is_lower_digit (encode_lower bytes) ≡ true
unfolding encode_with
encoded_lower [] are = refl
encoded_lower (b ∷ rest) are =
    let byte : b < 256 = are 0 in
    let high = digits_lower (b / 16) (omega arith) in
    let low = digits_lower (b % 16) (omega arith) in
    ap (λ (x : Bool). x && (is_lower_digit (slice_index lower_digits (b % 16)) && list_all is_lower_digit (encode_lower rest))) high
    ∙ ap (λ (x : Bool). x && list_all is_lower_digit (encode_lower rest)) low
    ∙ encoded_lower rest (λ i. are (suc i))

bytes_in_back : (bytes : List ℕ) → IsBytes bytes → bytes_in (encode_lower bytes) ≡ Some bytes
bytes_in_back bytes are =
    ap (λ (b : Bool). if b then if_decoded (decode_of (encode_lower bytes)) else None) (encoded_lower bytes are)
    ∙ ap if_decoded (decode_of-encode_lower bytes are)

bytes_back : (bytes : List ℕ) → IsBytes bytes → bytes_of (bytes_term bytes) ≡ Some bytes
bytes_back bytes are = ap (option_and_then bytes_in) (string_is (encode_lower bytes)) ∙ bytes_in_back bytes are

-- ---- lists

each_back : {A B : Type 0} (f : A → Option B) (g : B → A) (bs : List B) → AllByRecursion (λ b. f (g b) ≡ Some b) bs → all_of f (map g bs) ≡ Some bs
each_back f g [] all = refl
each_back {A = A} {B = B} f g (b ∷ bs) all =
    ap (option_and_then (λ (x : B). option_and_then (λ (xs : List B). Some (x ∷ xs)) (all_of f (map g bs)))) all.0
    ∙ ap (option_and_then (λ (xs : List B). Some (b ∷ xs))) (each_back f g bs all.1)

each_as : {A : Type 0} (P Q : A → Type 0) → ((a : A) → P a → Q a) → (xs : List A) → AllByRecursion P xs → AllByRecursion Q xs
each_as P Q to [] all = tt
each_as P Q to (x ∷ xs) all = (to x all.0, each_as P Q to xs all.1)

names_back : (names : List (List ℕ)) → AllByRecursion (λ n. IsTrue (is_app_name n)) names → names_of (Listed (map Atom names)) ≡ Some names
names_back names all =
    ap (option_and_then (all_of app_of)) (list_is (map Atom names))
    ∙ each_back app_of Atom names (each_as (λ n. IsTrue (is_app_name n)) (λ n. app_of (Atom n) ≡ Some n) app_back names all)

-- ---- dependencies

keyword_back : (name : List ℕ) (value : Term) → keyword_of (keyword name value) ≡ Some (name, value)
keyword_back name value = rw (out_tuple (Atom name ∷ value ∷ []), out_atom name) refl

truth_back : (b : Bool) → truth_of (truth_term b) ≡ Some b
truth_back true = rw (out_atom (codes "true")) refl
truth_back false = rw (out_atom (codes "false")) refl

hexpm_back : (repo : List ℕ) → repo ≡ codes "hexpm" → is_hexpm (Str repo) ≡ true
hexpm_back repo e = ap (λ (text : List ℕ). is_hexpm (Str text)) e ∙ ap (is_named (codes "hexpm")) (string_is (codes "hexpm"))

abbrev options_in : LockDep → List Named
options_in d = (codes "hex", Atom d.package) ∷ (codes "repo", Str (codes "hexpm")) ∷ (codes "optional", truth_term d.optional) ∷ []

options_back : (d : LockDep) → keywords_of (options_term d) ≡ Some (options_in d)
options_back d =
    ap (option_and_then (all_of keyword_of)) (list_is (map (λ n. keyword n.0 n.1) (options_in d)))
    ∙ each_back keyword_of (λ n. keyword n.0 n.1) (options_in d) (
      keyword_back (codes "hex") (Atom d.package),
      (
        keyword_back (codes "repo") (Str (codes "hexpm")),
        (keyword_back (codes "optional") (truth_term d.optional), tt),
      ),
    )

abbrev link_of_dep : LockDep → Link
link_of_dep d = record { «package» = d.package; optional = d.optional }

link_back : (d : LockDep) → IsTrue (is_app_name d.package) → link_of (options_term d) ≡ Some (link_of_dep d)
link_back d named =
    ap (option_and_then three) (options_back d)
    ∙ ap (λ (x : Option (List ℕ)). link x (is_hexpm (Str (codes "hexpm"))) (truth_of (truth_term d.optional))) (app_back d.package named)
    ∙ ap (λ (x : Bool). link (Some d.package) x (truth_of (truth_term d.optional))) (hexpm_back (codes "hexpm") refl)
    ∙ ap (λ (x : Option Bool). link (Some d.package) true x) (truth_back d.optional)

dep_back : (d : LockDep) → IsLockDep d → dep_of (dep_term d) ≡ Some d
unfolding dep_of dep_term
dep_back d is =
    ap (option_and_then dep_in) (tuple_is (Atom d.app ∷ Str d.requirement ∷ options_term d ∷ []))
    ∙ ap (λ (x : Option (List ℕ)). dep x (string_of (Str d.requirement)) (link_of (options_term d))) (app_back d.app is.app)
    ∙ ap (λ (x : Option (List ℕ)). dep (Some d.app) x (link_of (options_term d))) (string_is d.requirement)
    ∙ ap (λ (x : Option Link). dep (Some d.app) (Some d.requirement) x) (link_back d is.package)

deps_back : (deps : List LockDep) → AllByRecursion IsLockDep deps → deps_of (Listed (map dep_term deps)) ≡ Some deps
deps_back deps all =
    ap (option_and_then (all_of dep_of)) (list_is (map dep_term deps))
    ∙ each_back dep_of dep_term deps (each_as IsLockDep (λ d. dep_of (dep_term d) ≡ Some d) dep_back deps all)

-- ---- releases

abbrev release_in : HexEntry → Release
release_in e = record { name = e.name; version = e.version; inner = e.inner }

abbrev build_in : HexEntry → Build
build_in e = record { managers = e.managers; deps = e.deps }

release_back : (e : HexEntry) → IsHexEntry e → release_by (Atom e.name) (Str e.version) (bytes_term e.inner) ≡ Some (release_in e)
unfolding release_by
release_back e is =
    ap (λ (x : Option (List ℕ)). release x (version_of (Str e.version)) (bytes_of (bytes_term e.inner))) (app_back e.name is.name)
    ∙ ap (λ (x : Option (List ℕ)). release (Some e.name) x (bytes_of (bytes_term e.inner))) (version_back e.version is.version)
    ∙ ap (λ (x : Option (List ℕ)). release (Some e.name) (Some e.version) x) (bytes_back e.inner is.inner)

build_back : (e : HexEntry) → IsHexEntry e → build_by (Listed (map Atom e.managers)) (Listed (map dep_term e.deps)) ≡ Some (build_in e)
unfolding build_by
build_back e is =
    ap (λ (x : Option (List (List ℕ))). build x (deps_of (Listed (map dep_term e.deps)))) (names_back e.managers is.managers)
    ∙ ap (λ (x : Option (List LockDep)). build (Some e.managers) x) (deps_back e.deps is.deps)

abbrev with_repo : HexEntry → List ℕ → Option HexEntry
with_repo e repo = Some (record { name = e.name; version = e.version; inner = e.inner; managers = e.managers; deps = e.deps; repo = repo; outer = e.outer })

rest_back : (e : HexEntry) → IsHexEntry e
    → with_rest (release_in e) (Listed (map Atom e.managers) ∷ Listed (map dep_term e.deps) ∷ Str e.repo ∷ bytes_term e.outer ∷ []) ≡ Some e
unfolding with_rest
rest_back e is =
    ap (λ (x : Option Build). hex_entry (release_in e) x (is_hexpm (Str e.repo)) (outer_of (Some (bytes_term e.outer)))) (build_back e is)
    ∙ ap (λ (x : Bool). hex_entry (release_in e) (Some (build_in e)) x (outer_of (Some (bytes_term e.outer)))) (hexpm_back e.repo is.repo)
    ∙ ap (λ (x : Option (List ℕ)). hex_entry (release_in e) (Some (build_in e)) true x) (bytes_back e.outer is.outer)
    ∙ ap (with_repo e) (sym is.repo)

-- a release is what its term says
pub hex_back : (e : HexEntry) → IsHexEntry e → hex_of (hex_term e) ≡ Some e
unfolding hex_of
hex_back e is =
    let rest = Listed (map Atom e.managers) ∷ Listed (map dep_term e.deps) ∷ Str e.repo ∷ bytes_term e.outer ∷ [] in
    ap (option_and_then hex_in) (tuple_is (Atom (codes "hex") ∷ Atom e.name ∷ Str e.version ∷ bytes_term e.inner ∷ rest))
    ∙ ap (option_and_then (λ r. with_rest r rest)) (release_back e is)
    ∙ rest_back e is

pub hex_tagged : (e : HexEntry) → is_hex (hex_term e) ≡ true
hex_tagged e =
    rw (
      out_tuple (Atom (codes "hex") ∷ Atom e.name ∷ Str e.version ∷ bytes_term e.inner
          ∷ Listed (map Atom e.managers) ∷ Listed (map dep_term e.deps) ∷ Str e.repo ∷ bytes_term e.outer ∷ []),
      out_atom (codes "hex"),
    ) refl

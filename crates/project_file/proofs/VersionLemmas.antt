-- The versions that manifests state.
use Rattle.std.proofs.Common.{◌≡◌, ℕ, List, Bool, true, false, Option, Some, None, option_map, option_and_then, IsTrue, if◌then◌else◌, codes, refl, sym, ◌∙◌, ap, subst}
use Rattle.term_values.specs.declared.term.Term.{Term}
use Rattle.term_values.specs.Views.{string_of, Named}
use Rattle.dep_options.specs.Options.{first_of}
use Rattle.project_file.specs.declared.manifest.Header.{Header}
use Rattle.project_file.specs.Entries.{stated_in}
use Rattle.project_file.specs.Manifest.{Stated, entries_of, version_of, stated, stated_by, stated_of}
use Rattle.version_req.specs.Version.{is_version, if_version}

some_same : {A : Type 0} (a b : A) → Some a ≡ Some b → a ≡ b
some_same a b e = cc

-- what is taken for a version is one
version_if : (text version : List ℕ) → if_version text ≡ Some version → IsTrue (is_version version)
version_if text version = at (is_version text) refl
  where
    at : (b : Bool) → is_version text ≡ b → (if b then Some text else None) ≡ Some version → IsTrue (is_version version)
    at true is e = let Is : List ℕ → Type 0 = λ v. IsTrue (is_version v) in subst Is (some_same text version e) is
    at false is e = cc

version_in : (text : Option (List ℕ)) (version : List ℕ) → option_and_then if_version text ≡ Some version → IsTrue (is_version version)
version_in None version e = cc
version_in (Some text) version e = version_if text version e

version_at : (value : Option Term) (version : List ℕ) → option_and_then version_of value ≡ Some version → IsTrue (is_version version)
version_at None version e = cc
version_at (Some t) version e = version_in (string_of t) version e

-- what is stated has the version that was read
stated_some : (app version : Option (List ℕ)) (deps : Option (Option Term)) (s : Stated) → stated app version deps ≡ Some s → version ≡ Some s.version
stated_some None version deps s e = cc
stated_some (Some a) None deps s e = cc
stated_some (Some a) (Some v) None s e = cc
stated_some (Some a) (Some v) (Some d) s e = ap (option_map (λ (x : Stated). x.version)) e

stated_version : (entries : Option (List Named)) (s : Stated) → option_and_then stated_by entries ≡ Some s → IsTrue (is_version s.version)
stated_version None s e = cc
stated_version (Some entries) s e =
    version_at (first_of (codes "version") entries) s.version (stated_some _ (option_and_then version_of (first_of (codes "version") entries)) _ s e)

-- the version that a manifest states is one
pub versioned_of : (t : Term) (s : Stated) → stated_of t ≡ Some s → IsTrue (is_version s.version)
versioned_of t s e = stated_version (entries_of t) s e

pub header_versioned : (t : Term) (found : Option Header) (h : Header) → option_map stated_in found ≡ stated_of t → found ≡ Some h → IsTrue (is_version h.version)
header_versioned t found h is some = versioned_of t (stated_in h) (sym is ∙ ap (option_map stated_in) some)

-- What the term of a manifest says.
use Rattle.std.specs.Prelude.{◌≡◌, ℕ, List, [], Option, Some, None, option_map, option_and_then, Result, Ok, Err, IsTrue, codes}
use Rattle.term_values.specs.declared.term.Term.{Term}
use Rattle.dep_options.specs.declared.decl.Decl.{Decl}
use Rattle.dep_options.specs.declared.error.OptionError.{OptionError}
use Rattle.dep_options.specs.Decls.{AreDecls}
use Rattle.dep_options.specs.Options.{first_of, or_else}
use Rattle.term_values.specs.Views.{string_of, list_of, map_of, keywords_of, all_of, named_of, Named}
use Rattle.term_values.specs.Apps.{app_of}
use Rattle.version_req.specs.Version.{is_version, if_version}
use Rattle.project_file.specs.declared.project.Project.{Project}
use Rattle.project_file.specs.declared.error.ProjectError.{ProjectError}
use Rattle.project_file.specs.declared.error.ProjectError.TheVariants.{Options, Shape}

-- the entries of a keyword list, or of a map whose keys are atoms
abbrev pub entries_of : Term → Option (List Named)
entries_of t = or_else (keywords_of t) (option_and_then (all_of named_of) (map_of t))

-- a string that is a version
abbrev pub version_of : Term → Option (List ℕ)
version_of t = option_and_then if_version (string_of t)

-- a manifest states an app, a version, and perhaps declarations
pub record Stated : Type 0 where
  pub app : List ℕ
  pub version : List ℕ
  pub deps : Option Term

-- the declarations that are written are a list
abbrev pub deps_in : Option Term → Option (Option Term)
deps_in None = Some None
deps_in (Some t) = option_map (λ ts. Some t) (list_of t)

abbrev pub stated : Option (List ℕ) → Option (List ℕ) → Option (Option Term) → Option Stated
stated (Some app) (Some version) (Some deps) = Some (record { app = app; version = version; deps = deps })
stated app version deps = None

abbrev pub stated_by : List Named → Option Stated
stated_by entries =
    stated (option_and_then app_of (first_of (codes "app") entries)) (option_and_then version_of (first_of (codes "version") entries)) (deps_in (first_of (codes "deps") entries))

-- the keys `app`, `version` and perhaps `deps`. Other keys are passed over, and of a repeated key the first counts
abbrev pub stated_of : Term → Option Stated
stated_of t = option_and_then stated_by (entries_of t)

-- the project that is stated, whose version is one, with these declarations
abbrev pub project_of : (s : Stated) → IsTrue (is_version s.version) → List Decl → Project
project_of s versioned decls = record { app = s.app; version = s.version; versioned = versioned; decls = decls }

-- what the term of a manifest in this folder says, or why it is refused
pub data IsProject (dir : List ℕ) (t : Term) : Result Project ProjectError → Type 0 where
  shape : stated_of t ≡ None → IsProject dir t (Err Shape)
  bare : (s : Stated) (versioned : IsTrue (is_version s.version)) → stated_of t ≡ Some s → s.deps ≡ None → IsProject dir t (Ok (project_of s versioned []))
  options : (s : Stated) (deps : Term) {e : OptionError} → stated_of t ≡ Some s → s.deps ≡ Some deps → AreDecls dir deps (Err e) → IsProject dir t (Err (Options e))
  whole : (s : Stated) (versioned : IsTrue (is_version s.version)) (deps : Term) {decls : List Decl} → stated_of t ≡ Some s → s.deps ≡ Some deps → AreDecls dir deps (Ok decls) → IsProject dir t (Ok (project_of s versioned decls))

-- What the declarations of a manifest declare.
use Rattle.std.specs.Prelude.{◌≡◌, ℕ, suc, Bool, true, false, ◌||◌, List, [], ◌∷◌, Option, Some, None, is_some, option_map, option_and_then, Result, Ok, Err, IsTrue, if◌then◌else◌, codes, refl}
use Rattle.term_values.specs.declared.term.Term.{Term}
use Rattle.mx_base.specs.Join.{joined}
use Rattle.mx_base.specs.declared.path_join.PathError.{PathError}
use Rattle.version_req.specs.Condition.{Alternatives}
use Rattle.version_req.specs.Grammar.{Spells}
use Rattle.dep_options.specs.declared.decl.Decl.{Decl}
use Rattle.dep_options.specs.declared.decl.DepSource.{DepSource}
use Rattle.dep_options.specs.declared.decl.DepSource.TheVariants.{Hex, Path}
use Rattle.dep_options.specs.declared.decl.CompileBy.TheVariants as by
use Rattle.dep_options.specs.declared.error.OptionCause.{OptionCause}
use Rattle.dep_options.specs.declared.error.OptionCause.TheVariants.{Shape, BadRequirement, NoSource}
use Rattle.dep_options.specs.declared.error.OptionError.{OptionError}
use Rattle.dep_options.specs.Options.{first_of, first_fault, said, given, is_dep_folder, is_dep_source, open_folder, truth_of, names_of, compile_of, folder_of, package_of, manager_of, variables_of}
use Rattle.term_values.specs.Views.{string_of, list_of, tuple_of, keywords_of, Named}
use Rattle.term_values.specs.Apps.{app_of}

-- what stands in a declaration
pub record Written : Type 0 where
  pub app : List ℕ
  pub requirement : Option (List ℕ)
  pub options : List Named

-- the parts, where all of them are there
abbrev written : Option (List ℕ) → Option (Option (List ℕ)) → Option (List Named) → Option Written
written (Some app) (Some requirement) (Some options) = Some (record { app = app; requirement = requirement; options = options })
written app requirement options = None

-- what follows the app in `{app, requirement}`, where that is a string, or else in `{app, options}`
abbrev second : Option (List ℕ) → Term → Option (Option (List ℕ) × List Named)
second (Some text) t = Some (Some text, [])
second None t = option_map (λ options. (None, options)) (keywords_of t)

-- the app and what follows it, where both are there
abbrev with_app : Option (List ℕ) → Option (Option (List ℕ) × List Named) → Option Written
with_app (Some app) (Some rest) = Some (record { app = app; requirement = rest.0; options = rest.1 })
with_app app rest = None

-- what stands in a tuple of these terms
abbrev written_in : List Term → Option Written
written_in (app ∷ other ∷ []) = with_app (app_of app) (second (string_of other) other)
written_in (app ∷ requirement ∷ options ∷ []) = written (app_of app) (option_map (λ text. Some text) (string_of requirement)) (keywords_of options)
written_in terms = None

-- a tuple `{app, requirement}`, `{app, options}` or `{app, requirement, options}`
abbrev pub written_of : Term → Option Written
written_of t = option_and_then written_in (tuple_of t)

-- the requirement that is written, where one is
abbrev pub IsRequirement : Option (List ℕ) → Option Alternatives → Type 0
IsRequirement None requirement = requirement ≡ None
IsRequirement (Some text) None = ⊥
IsRequirement (Some text) (Some requirement) = Spells text requirement

-- a text that no requirement has
abbrev pub IsBadRequirement : Option (List ℕ) → Type 0
IsBadRequirement None = ⊥
IsBadRequirement (Some text) = (requirement : Alternatives) → Spells text requirement → ⊥

-- with a path the source is the path, else the registry, where the package is named as the app unless it is written
abbrev source_at : Option (List ℕ) → List ℕ → DepSource
source_at (Some dir) name = Path dir
source_at None name = Hex name

-- the source of an app that these options say
abbrev pub source_of : List ℕ → List ℕ → List Named → DepSource
source_of base app options = source_at (said (codes "path") (folder_of base) options) (given (codes "hex") package_of app options)

-- a folder that the options say is one that a dependency may lie in
pub placed_at : (path : Option Term) (base name : List ℕ) → IsTrue (is_dep_source (source_at (option_and_then (folder_of base) path) name))
placed_at None base name = refl
placed_at (Some t) base name = by_text (string_of t)
  where
    by_test : (dir : List ℕ) (fits : Bool) → is_dep_folder dir ≡ fits → IsTrue (is_dep_source (source_at (if fits then Some dir else None) name))
    by_test dir true is = is
    by_test dir false is = refl

    by_path : (path : Result (List ℕ) PathError) → IsTrue (is_dep_source (source_at (open_folder path) name))
    by_path (Ok dir) = by_test dir (is_dep_folder dir) refl
    by_path (Err e) = refl

    by_text : (text : Option (List ℕ)) → IsTrue (is_dep_source (source_at (option_and_then (λ x. open_folder (joined base x)) text) name))
    by_text None = refl
    by_text (Some text) = by_path (joined base text)

-- whether a declaration says where its dependency comes from
abbrev pub has_source : Written → Bool
has_source w = is_some w.requirement || (is_some (first_of (codes "path") w.options) || is_some (first_of (codes "hex") w.options))

-- the declaration of an app that is written: each option as it is given, or its default
abbrev pub decl_of : List ℕ → List ℕ → Option Alternatives → List Named → Decl
decl_of base app requirement options = record {
  app = app;
  requirement = requirement;
  source = source_of base app options;
  only = said (codes "only") names_of options;
  targets = said (codes "targets") names_of options;
  env = given (codes "env") app_of (codes "prod") options;
  optional = given (codes "optional") truth_of false options;
  override_ = given (codes "override") truth_of false options;
  compile = given (codes "compile") compile_of by.Manager options;
  manager = said (codes "manager") manager_of options;
  runtime = given (codes "runtime") truth_of true options;
  app_file = given (codes "app") truth_of true options;
  system_env = given (codes "system_env") variables_of [] options;
  placed = placed_at (first_of (codes "path") options) base (given (codes "hex") package_of app options);
}

-- what a term declares, or why it is refused: the shape, the requirement, the options from the left, the source
pub data IsDecl : List ℕ → Term → Result Decl OptionCause → Type 0 where
  shape : {base : List ℕ} {t : Term} → written_of t ≡ None → IsDecl base t (Err Shape)
  requirement : {base : List ℕ} {t : Term} (w : Written) → written_of t ≡ Some w → IsBadRequirement w.requirement → IsDecl base t (Err BadRequirement)
  option : {base : List ℕ} {t : Term} (w : Written) (requirement : Option Alternatives) {cause : OptionCause} → written_of t ≡ Some w → IsRequirement w.requirement requirement → first_fault base [] w.options ≡ Some cause → IsDecl base t (Err cause)
  source : {base : List ℕ} {t : Term} (w : Written) (requirement : Option Alternatives) → written_of t ≡ Some w → IsRequirement w.requirement requirement → first_fault base [] w.options ≡ None → has_source w ≡ false → IsDecl base t (Err NoSource)
  good : {base : List ℕ} {t : Term} (w : Written) (requirement : Option Alternatives) → written_of t ≡ Some w → IsRequirement w.requirement requirement → first_fault base [] w.options ≡ None → has_source w ≡ true → IsDecl base t (Ok (decl_of base w.app requirement w.options))

-- declarations from this place on, or the first that is refused
pub data AreDeclsFrom : ℕ → List ℕ → List Term → Result (List Decl) OptionError → Type 0 where
  end : {place : ℕ} {base : List ℕ} → AreDeclsFrom place base [] (Ok [])
  refused : {place : ℕ} {base : List ℕ} {t : Term} {ts : List Term} {cause : OptionCause} → IsDecl base t (Err cause) → AreDeclsFrom place base (t ∷ ts) (Err (record { index = place; cause = cause }))
  later : {place : ℕ} {base : List ℕ} {t : Term} {ts : List Term} {d : Decl} {e : OptionError} → IsDecl base t (Ok d) → AreDeclsFrom (suc place) base ts (Err e) → AreDeclsFrom place base (t ∷ ts) (Err e)
  more : {place : ℕ} {base : List ℕ} {t : Term} {ts : List Term} {d : Decl} {ds : List Decl} → IsDecl base t (Ok d) → AreDeclsFrom (suc place) base ts (Ok ds) → AreDeclsFrom place base (t ∷ ts) (Ok (d ∷ ds))

-- what a term declares, read in this folder: a list is read item by item, and another term is refused as the first
pub data AreDecls : List ℕ → Term → Result (List Decl) OptionError → Type 0 where
  no_list : {base : List ℕ} {t : Term} → list_of t ≡ None → AreDecls base t (Err (record { index = 0; cause = Shape }))
  items : {base : List ℕ} {t : Term} {answer : Result (List Decl) OptionError} (ts : List Term) → list_of t ≡ Some ts → AreDeclsFrom 0 base ts answer → AreDecls base t answer

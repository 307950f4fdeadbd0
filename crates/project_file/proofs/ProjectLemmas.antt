-- What a term, a text and the files say of a project.
use Rattle.std.proofs.Common.{◌≡◌, ℕ, Bool, true, false, List, [], Option, Some, None, option_map, Result, Ok, Err, IsTrue, IsFalse, if◌then◌else◌, refl, sym, ◌∙◌, ap, subst}
use Rattle.std.specs.Borrow.{Bor}
use Rattle.std.specs.Option.{option_copied}
use Rattle.std.specs.Result.{result_map_both}
use Rattle.mx_base.specs.Blame.Blame.{Input}
use Rattle.elixir_terms.specs.declared.error.TermError.{TermError}
use Rattle.term_values.specs.declared.term.Term.{Term}
use Rattle.elixir_terms.specs.Refusals.{IsRefusal}
use Rattle.term_tokens.specs.Refused.{is_memory}
use Rattle.dep_options.specs.declared.decl.Decl.{Decl}
use Rattle.dep_options.specs.declared.error.OptionError.{OptionError}
use Rattle.dep_options.specs.Decls.{AreDecls}
use Rattle.dep_options.specs.Blame.{cause_blame, blame_of}
use Rattle.dep_options.specs.declared.error.OptionCause.{OptionCause}
use Rattle.dep_options.specs.declared.error.OptionCause.TheVariants as cause
use Rattle.project_file.specs.declared.error.ProjectError.{ProjectError}
use Rattle.project_file.specs.declared.error.ProjectError.TheVariants as project
use Rattle.project_file.specs.declared.manifest.Header.{Header}
use Rattle.project_file.specs.declared.project.Project.{Project}
use Rattle.project_file.specs.Entries.{stated_in}
use Rattle.project_file.specs.Blame.{project_blame}
use Rattle.project_file.specs.Files.{IsManifest, SaysProject}
use Rattle.project_file.specs.Files.IsManifest.{unread as unread_text}
use Rattle.project_file.specs.Files.SaysProject.{absent, loaded, refused}
use Rattle.project_file.specs.Manifest.{stated_of, project_of, IsProject}
use Rattle.version_req.specs.Version.{is_version}
use Rattle.project_file.specs.Manifest.IsProject.{shape, bare, options, whole}
use Rattle.project_file.specs.Refusals.{term_refused, refused_as, options_refused}

states : (t : Term) (found : Option Header) (h : Header) → option_map stated_in found ≡ stated_of t → found ≡ Some h → stated_of t ≡ Some (stated_in h)
states t found h is some = sym is ∙ ap (option_map stated_in) some

pub no_manifest : (dir : List ℕ) (t : Term) (found : Option Header) → option_map stated_in found ≡ stated_of t → found ≡ None → IsProject dir t (Err project.Shape)
no_manifest dir t found is none = shape (sym is ∙ ap (option_map stated_in) none)

pub bare_project : (dir : List ℕ) (t : Term) (found : Option Header) (h : Header) (versioned : IsTrue (is_version h.version)) (decls : List Decl) → option_map stated_in found ≡ stated_of t → found ≡ Some h → h.deps ≡ None → decls ≡ [] → IsProject dir t (Ok (project_of (stated_in h) versioned decls))
bare_project dir t found h versioned decls is some none empty =
    let Says : List Decl → Type 0 = λ ds. IsProject dir t (Ok (project_of (stated_in h) versioned ds)) in
    subst Says (sym empty) (bare (stated_in h) versioned (states t found h is some) (ap option_copied none))

pub whole_project : (dir : List ℕ) (t : Term) (found : Option Header) (h : Header) (versioned : IsTrue (is_version h.version)) (deps : Bor Term) (read decls : List Decl) → option_map stated_in found ≡ stated_of t → found ≡ Some h → h.deps ≡ Some deps → AreDecls dir deps.now (Ok read) → decls ≡ read → IsProject dir t (Ok (project_of (stated_in h) versioned decls))
whole_project dir t found h versioned deps read decls is some written are same =
    let Says : List Decl → Type 0 = λ ds. IsProject dir t (Ok (project_of (stated_in h) versioned ds)) in
    subst Says (sym same) (whole (stated_in h) versioned deps.now (states t found h is some) (ap option_copied written) are)

pub options_of : (dir : List ℕ) (t : Term) (found : Option Header) (h : Header) (deps : Bor Term) (error : OptionError) → option_map stated_in found ≡ stated_of t → found ≡ Some h → h.deps ≡ Some deps → (blame_of error ≡ Input → AreDecls dir deps.now (Err error)) → project_blame (options_refused error) ≡ Input → IsProject dir t (Err (options_refused error))
options_of dir t found h deps error is some written are = at error.cause are
  where
    at : (c : OptionCause) → (cause_blame c ≡ Input → AreDecls dir deps.now (Err error)) → project_blame (refused_as c error) ≡ Input → IsProject dir t (Err (refused_as c error))
    at cause.OutOfMemory are input = cc
    at cause are input = options (stated_in h) deps.now (states t found h is some) (ap option_copied written) (are refl)

-- a text that is refused
pub text_refused : (dir text : List ℕ) (error : TermError) → (IsFalse (is_memory error.cause) → IsRefusal text error.at error.cause) → project_blame (term_refused error) ≡ Input → IsManifest dir text (Err (term_refused error))
text_refused dir text error why = at (is_memory error.cause) refl
  where
    at : (b : Bool) → is_memory error.cause ≡ b → project_blame (if b then project.OutOfMemory else project.Term error) ≡ Input → IsManifest dir text (Err (if b then project.OutOfMemory else project.Term error))
    at true m input = cc
    at false m input = unread_text (m, why m)

-- a manifest that was found
pub found_manifest : (dir : List ℕ) (found : Option (List ℕ)) (text slice : List ℕ) (answer : Result Project ProjectError) → found ≡ Some text → slice ≡ text → IsManifest dir slice answer → SaysProject dir found (result_map_both Some (λ e. e) answer)
found_manifest dir found text slice answer is same says =
    let Says : Option (List ℕ) → Type 0 = λ o. SaysProject dir o (result_map_both Some (λ e. e) answer) in
    subst Says (ap (λ (bytes : List ℕ). Some bytes) same ∙ sym is) (said answer says)
  where
    said : (answer : Result Project ProjectError) → IsManifest dir slice answer → SaysProject dir (Some slice) (result_map_both Some (λ e. e) answer)
    said (Ok p) says = loaded says
    said (Err e) says = refused says

pub found_absent : (dir : List ℕ) (found : Option (List ℕ)) → found ≡ None → SaysProject dir found (Ok None)
found_absent dir found none =
    let Says : Option (List ℕ) → Type 0 = λ o. SaysProject dir o (Ok None) in
    subst Says (sym none) absent

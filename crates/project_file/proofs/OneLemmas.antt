-- The same files say one thing.
use Rattle.std.proofs.Common.{◌≡◌, ℕ, List, [], Option, Some, None, Result, Ok, Err, IsTrue, refl, sym, ◌∙◌, ap, subst}
use Rattle.std.proofs.Props.{props}
use Rattle.mx_base.specs.declared.file.File.{File}
use Rattle.elixir_terms.specs.ReadAs.{IsReadAs}
use Rattle.elixir_terms.proofs.OneReading.{OneReading, not_both, same_refusal}
use Rattle.elixir_terms.specs.declared.error.TermError.{TermError}
use Rattle.term_values.specs.declared.term.Term.{Term}
use Rattle.dep_options.specs.declared.decl.Decl.{Decl}
use Rattle.dep_options.specs.declared.error.OptionError.{OptionError}
use Rattle.dep_options.specs.Decls.{AreDecls}
use Rattle.project_file.specs.declared.error.ProjectError.{ProjectError}
use Rattle.project_file.specs.declared.error.ProjectError.TheVariants as project
use Rattle.project_file.specs.declared.error.SettingsError.{SettingsError}
use Rattle.project_file.specs.declared.error.SettingsError.TheVariants as setting
use Rattle.project_file.specs.declared.project.Project.{Project}
use Rattle.project_file.specs.declared.settings.Settings.{Settings}
use Rattle.version_req.specs.Version.{is_version}
use Rattle.project_file.specs.Compilers.{settings_of}
use Rattle.project_file.specs.Files.{IsManifest, SaysProject, IsLoaded, SaysSettings, AreSettings}
use Rattle.project_file.specs.Files.IsManifest.{unread, read}
use Rattle.project_file.specs.Files.SaysProject.{absent, refused, loaded}
use Rattle.project_file.specs.Files.SaysSettings.{absent as unset, unread as unread_settings, shape as no_settings, set}
use Rattle.project_file.specs.Manifest.{Stated, stated_of, project_of, IsProject}
use Rattle.project_file.specs.Manifest.IsProject.{shape, bare, options, whole}

-- no term declares two things
abbrev pub OneAnswer : Type 0
OneAnswer = (base : List ℕ) (t : Term) (a b : Result (List Decl) OptionError) → AreDecls base t a → AreDecls base t b → a ≡ b

some_one : {X : Type 0} (o : Option X) (a b : X) → o ≡ Some a → o ≡ Some b → a ≡ b
some_one o a b e f = let same : Some a ≡ Some b = sym e ∙ f in cc

no_some : {X : Type 0} (o : Option X) (a : X) → o ≡ None → o ≡ Some a → ⊥
no_some {X} o a e f = let same : ◌≡◌ {A = Option X} None (Some a) = sym e ∙ f in cc

err_one : {X E : Type 0} (d e : E) → ◌≡◌ {A = Result X E} (Err d) (Err e) → d ≡ e
err_one d e same = cc

ok_one : {X E : Type 0} (x y : X) → ◌≡◌ {A = Result X E} (Ok x) (Ok y) → x ≡ y
ok_one x y same = cc

err_not_ok : {X E : Type 0} (e : E) (x : X) → ◌≡◌ {A = Result X E} (Err e) (Ok x) → ⊥
err_not_ok e x same = cc

deps_clash : (o : Option Stated) (s u : Stated) (d : Term) → o ≡ Some s → o ≡ Some u → s.deps ≡ None → u.deps ≡ Some d → ⊥
deps_clash o s u d e f none some = no_some u.deps d (subst (λ (x : Stated). x.deps ≡ None) (some_one o s u e f) none) some

decls_one : OneAnswer → (dir : List ℕ) (o : Option Stated) (s u : Stated) (d c : Term) (a b : Result (List Decl) OptionError) → o ≡ Some s → o ≡ Some u → s.deps ≡ Some d → u.deps ≡ Some c → AreDecls dir d a → AreDecls dir c b → a ≡ b
decls_one one dir o s u d c a b e f some same are also =
    let deps : d ≡ c = some_one u.deps d c (subst (λ (x : Stated). x.deps ≡ Some d) (some_one o s u e f) some) same in
    one dir c a b (subst (λ (x : Term). AreDecls dir x a) deps are) also

version_prop : (text : List ℕ) → IsProp (IsTrue (is_version text))
version_prop text = hlevel props

-- a project that is stated once is one project
same_project : (o : Option Stated) (s u : Stated) (b : IsTrue (is_version s.version)) (v : IsTrue (is_version u.version)) (decls : List Decl) → o ≡ Some s → o ≡ Some u → project_of s b decls ≡ project_of u v decls
same_project o s u b v decls e f =
    let Same : Stated → Type 0 = λ x. (w : IsTrue (is_version x.version)) → project_of s b decls ≡ project_of x w decls in
    subst Same (some_one o s u e f) (λ w. ap (λ (x : IsTrue (is_version s.version)). project_of s x decls) (version_prop s.version b w)) v

-- a term is one project, or is refused in one way
project_one : OneAnswer → {dir : List ℕ} {t : Term} {a b : Result Project ProjectError} → IsProject dir t a → IsProject dir t b → a ≡ b
project_one one (shape e) (shape f) = refl
project_one one {t = t} (shape e) (bare u v f none) = absurd (no_some (stated_of t) u e f)
project_one one {t = t} (shape e) (options u c f some also) = absurd (no_some (stated_of t) u e f)
project_one one {t = t} (shape e) (whole u v c f some also) = absurd (no_some (stated_of t) u e f)
project_one one {t = t} (bare s b e none) (shape f) = absurd (no_some (stated_of t) s f e)
project_one one {t = t} (bare s b e none) (bare u v f empty) = ap (λ (x : Project). Ok x) (same_project (stated_of t) s u b v [] e f)
project_one one {t = t} (bare s b e none) (options u c f some also) = absurd (deps_clash (stated_of t) s u c e f none some)
project_one one {t = t} (bare s b e none) (whole u v c f some also) = absurd (deps_clash (stated_of t) s u c e f none some)
project_one one {t = t} (options s d e some are) (shape f) = absurd (no_some (stated_of t) s f e)
project_one one {t = t} (options s d e some are) (bare u v f none) = absurd (deps_clash (stated_of t) u s d f e none some)
project_one one {dir = dir} {t = t} (options s d {e = x} e some are) (options u c {e = y} f same also) =
    ap (λ (z : OptionError). Err (project.Options z)) (err_one x y (decls_one one dir (stated_of t) s u d c (Err x) (Err y) e f some same are also))
project_one one {dir = dir} {t = t} (options s d {e = x} e some are) (whole u v c {decls = ys} f same also) =
    absurd (err_not_ok x ys (decls_one one dir (stated_of t) s u d c (Err x) (Ok ys) e f some same are also))
project_one one {t = t} (whole s b d e some are) (shape f) = absurd (no_some (stated_of t) s f e)
project_one one {t = t} (whole s b d e some are) (bare u v f none) = absurd (deps_clash (stated_of t) u s d f e none some)
project_one one {dir = dir} {t = t} (whole s b d {decls = xs} e some are) (options u c {e = y} f same also) =
    absurd (err_not_ok y xs (sym (decls_one one dir (stated_of t) s u d c (Ok xs) (Err y) e f some same are also)))
project_one one {dir = dir} {t = t} (whole s b d {decls = xs} e some are) (whole u v c {decls = ys} f same also) =
    ap (λ (x : Project). Ok x) (same_project (stated_of t) s u b v xs e f)
    ∙ ap (λ (zs : List Decl). Ok (project_of u v zs)) (ok_one xs ys (decls_one one dir (stated_of t) s u d c (Ok xs) (Ok ys) e f some same are also))

terms_one : OneReading → (text : List ℕ) (t u : Term) → IsReadAs text t → IsReadAs text u → t ≡ u
terms_one reading text t u spelled also = reading.terms text t u spelled.0 also.0

-- the text of a manifest says one thing
manifest_one : OneReading → OneAnswer → {dir text : List ℕ} {a b : Result Project ProjectError} → IsManifest dir text a → IsManifest dir text b → a ≡ b
manifest_one reading one {text = text} (unread {error = x} why) (unread {error = y} also) = ap (λ (z : TermError). Err (project.Term z)) (same_refusal reading text x y why also)
manifest_one reading one {text = text} (unread {error = x} why) (read u spelled says) = absurd (not_both reading text x u why spelled)
manifest_one reading one {text = text} (read t spelled says) (unread {error = y} why) = absurd (not_both reading text y t why spelled)
manifest_one reading one {dir = dir} {text = text} {a = a} (read t spelled says) (read u again tells) =
    let Says : Term → Type 0 = λ x. IsProject dir x a in
    project_one one (subst Says (terms_one reading text t u spelled again) says) tells

-- what a folder's manifest says, is one thing
said_one : OneReading → OneAnswer → {dir : List ℕ} {text : Option (List ℕ)} {a b : Result (Option Project) ProjectError} → SaysProject dir text a → SaysProject dir text b → a ≡ b
said_one reading one absent absent = refl
said_one reading one (loaded {p = p} says) (loaded {p = q} tells) = ap (λ (z : Project). Ok (Some z)) (ok_one p q (manifest_one reading one says tells))
said_one reading one (loaded {p = p} says) (refused {error = y} tells) = absurd (err_not_ok y p (manifest_one reading one tells says))
said_one reading one (refused {error = x} says) (loaded {p = q} tells) = absurd (err_not_ok x q (manifest_one reading one says tells))
said_one reading one (refused {error = x} says) (refused {error = y} tells) = ap (λ (z : ProjectError). Err z) (err_one x y (manifest_one reading one says tells))

pub project_law : OneReading → OneAnswer → (files : List File) (dir : List ℕ) (a b : Result (Option Project) ProjectError) → IsLoaded files dir a → IsLoaded files dir b → a ≡ b
project_law reading one files dir a b p q = said_one reading one p q

none_some : (text : List ℕ) (t u : Term) (s : Settings) → OneReading → IsReadAs text t → IsReadAs text u → settings_of t ≡ None → settings_of u ≡ Some s → ⊥
none_some text t u s reading spelled also none some = no_some (settings_of u) s (ap settings_of (sym (terms_one reading text t u spelled also)) ∙ none) some

-- the settings are one thing
settings_one : OneReading → {text : Option (List ℕ)} {a b : Result Settings SettingsError} → SaysSettings text a → SaysSettings text b → a ≡ b
settings_one reading unset unset = refl
settings_one reading (unread_settings {text = text} {error = x} why) (unread_settings {error = y} also) = ap (λ (z : TermError). Err (setting.Term z)) (same_refusal reading text x y why also)
settings_one reading (unread_settings {text = text} {error = x} why) (no_settings u spelled none) = absurd (not_both reading text x u why spelled)
settings_one reading (unread_settings {text = text} {error = x} why) (set u spelled some) = absurd (not_both reading text x u why spelled)
settings_one reading (no_settings {text = text} t spelled none) (unread_settings {error = y} why) = absurd (not_both reading text y t why spelled)
settings_one reading (no_settings t spelled none) (no_settings u also nothing) = refl
settings_one reading (no_settings {text = text} t spelled none) (set u {s = r} also some) = absurd (none_some text t u r reading spelled also none some)
settings_one reading (set {text = text} t spelled some) (unread_settings {error = y} why) = absurd (not_both reading text y t why spelled)
settings_one reading (set {text = text} t {s = s} spelled some) (no_settings u also none) = absurd (none_some text u t s reading also spelled none some)
settings_one reading (set {text = text} t {s = s} spelled some) (set u {s = r} also same) =
    ap (λ (z : Settings). Ok z) (some_one (settings_of u) s r (ap settings_of (sym (terms_one reading text t u spelled also)) ∙ some) same)

pub settings_law : OneReading → (files : List File) (a b : Result Settings SettingsError) → AreSettings files a → AreSettings files b → a ≡ b
settings_law reading files a b p q = settings_one reading p q

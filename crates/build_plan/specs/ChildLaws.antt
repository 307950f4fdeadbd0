-- What an app declares in turn is one thing.
use Rattle.std.proofs.Common.{◌≡◌, ℕ, true, false, List, filter, Option, Some, None, Result, Ok, Err, IfSome, IsTrue, IsFalse, refl, sym, ◌∙◌, ap, subst}
use Rattle.mx_base.specs.Blame.Blame.{Input}
use Rattle.mx_base.specs.declared.file.File.{File}
use Rattle.elixir_terms.proofs.RefusalLaws.{refusal_one}
use Rattle.elixir_terms.proofs.SpelledLemmas.{spelled_not_refused}
use Rattle.elixir_terms.proofs.SpellLemmas.{spells_one}
use Rattle.version_req.proofs.Complete.{one_requirement}
use Rattle.dep_options.specs.declared.decl.Decl.{Decl}
use Rattle.dep_options.specs.declared.decl.DepSource.{DepSource}
use Rattle.dep_options.specs.declared.decl.DepSource.TheVariants.{Hex, Path}
use Rattle.dep_options.proofs.OneLemmas.{one_of}
use Rattle.dep_rows.specs.Rows.{AnswersOnce}
use Rattle.converger.specs.Reach.{admits}
use Rattle.project_file.specs.declared.error.ProjectError.{ProjectError}
use Rattle.project_file.specs.declared.project.Project.{Project}
use Rattle.project_file.specs.Files.{IsLoaded, manifest_at}
use Rattle.project_file.proofs.OneLemmas.{project_law}
use Rattle.build_plan.specs.declared.error.PlanError.{PlanError}
use Rattle.build_plan.specs.declared.error.PlanError.TheVariants.{PathMissing, Project as Refused}
use Rattle.build_plan.specs.Blame.{blame_of}
use Rattle.build_plan.specs.Dependencies.{AreChildren, declared_by, has_files}
use Rattle.build_plan.specs.Dependencies.AreChildren.{unlocked, missing, refused, declared}

-- the manifest in a folder says one thing
abbrev pub OneProject : Type 0
OneProject = (files : List File) (dir : List ℕ) (answer other : Result (Option Project) ProjectError) → IsLoaded files dir answer → IsLoaded files dir other → answer ≡ other

one_folder : (source : DepSource) (dir other : List ℕ) → source ≡ Path dir → source ≡ Path other → dir ≡ other
one_folder source dir other is also = let same : Path dir ≡ Path other = sym is ∙ also in cc

one_kind : (source : DepSource) (name dir : List ℕ) → source ≡ Hex name → source ≡ Path dir → ⊥
one_kind source name dir is also = let same : Hex name ≡ Path dir = sym is ∙ also in cc

not_both : (files : List File) (dir other : List ℕ) → dir ≡ other → IsFalse (has_files files dir) → IsTrue (has_files files other) → ⊥
not_both files dir other same gone has = let clash : true ≡ false = sym has ∙ sym (ap (has_files files) same) ∙ gone in cc

module _ (one : OneProject) (files : List File) (source : DepSource) where
  loaded_once : (dir other : List ℕ) (answer found : Result (Option Project) ProjectError) → source ≡ Path dir → source ≡ Path other → IsLoaded files dir answer → IsLoaded files other found → answer ≡ found
  loaded_once dir other answer found is also says tells =
      one files other answer found (subst (λ (d : List ℕ). IsLoaded files d answer) (one_folder source dir other is also) says) tells

  same_refusal : (dir other : List ℕ) (fault error : ProjectError) → source ≡ Path dir → source ≡ Path other → IsLoaded files dir (Err fault) → IsLoaded files other (Err error) → ◌≡◌ {A = Result (List Decl) PlanError} (Err (Refused (manifest_at dir) fault)) (Err (Refused (manifest_at other) error))
  same_refusal dir other fault error is also says tells =
      let folder = one_folder source dir other is also in
      let reads = loaded_once dir other (Err fault) (Err error) is also says tells in
      let reason : fault ≡ error = cc in
      ap (λ (d : List ℕ). Err (Refused (manifest_at d) fault)) folder ∙ ap (λ (e : ProjectError). Err (Refused (manifest_at other) e)) reason

  no_clash : (dir other : List ℕ) (fault : ProjectError) (found : Option Project) → source ≡ Path dir → source ≡ Path other → IsLoaded files dir (Err fault) → IsLoaded files other (Ok found) → ⊥
  no_clash dir other fault found is also says tells = let reads = loaded_once dir other (Err fault) (Ok found) is also says tells in cc

  same_project : (dir other : List ℕ) (first found : Option Project) → source ≡ Path dir → source ≡ Path other → IsLoaded files dir (Ok first) → IsLoaded files other (Ok found) → first ≡ found
  same_project dir other first found is also says tells = let reads = loaded_once dir other (Ok first) (Ok found) is also says tells in cc

-- each winner has one answer at most
pub once : OneProject → {files : List File} {app : List ℕ} {winner : Decl} {answer other : Result (List Decl) PlanError} → AreChildren files app winner answer → AreChildren files app winner other → answer ≡ other
once one (unlocked name is) (unlocked other also) = refl
once one {winner = winner} (unlocked name is) (missing dir also gone) = absurd (one_kind winner.source name dir is also)
once one {winner = winner} (unlocked name is) (refused dir also has reads) = absurd (one_kind winner.source name dir is also)
once one {winner = winner} (unlocked name is) (declared dir also has reads) = absurd (one_kind winner.source name dir is also)
once one {winner = winner} (missing dir is gone) (unlocked name also) = absurd (one_kind winner.source name dir also is)
once one {app = app} {winner = winner} (missing dir is gone) (missing other also none) = ap (λ (d : List ℕ). Err (PathMissing app d)) (one_folder winner.source dir other is also)
once one {files = files} {winner = winner} (missing dir is gone) (refused other also has reads) = absurd (not_both files dir other (one_folder winner.source dir other is also) gone has)
once one {files = files} {winner = winner} (missing dir is gone) (declared other also has reads) = absurd (not_both files dir other (one_folder winner.source dir other is also) gone has)
once one {winner = winner} (refused dir is has reads) (unlocked name also) = absurd (one_kind winner.source name dir also is)
once one {files = files} {winner = winner} (refused dir is has reads) (missing other also gone) = absurd (not_both files other dir (one_folder winner.source other dir also is) gone has)
once one {files = files} {winner = winner} (refused dir {fault = fault} is has reads) (refused other {fault = error} also had said) = same_refusal one files winner.source dir other fault error is also reads said
once one {files = files} {winner = winner} (refused dir {fault = fault} is has reads) (declared other {found = found} also had said) = absurd (no_clash one files winner.source dir other fault found is also reads said)
once one {winner = winner} (declared dir is has reads) (unlocked name also) = absurd (one_kind winner.source name dir also is)
once one {files = files} {winner = winner} (declared dir is has reads) (missing other also gone) = absurd (not_both files other dir (one_folder winner.source other dir also is) gone has)
once one {files = files} {winner = winner} (declared dir {found = found} is has reads) (refused other {fault = fault} also had said) = absurd (no_clash one files winner.source other dir fault found also is said reads)
once one {files = files} {winner = winner} (declared dir {found = first} is has reads) (declared other {found = found} also had said) =
    ap (λ (p : Option Project). Ok (filter (λ decl. admits decl.only winner.env) (declared_by p))) (same_project one files winner.source dir other first found is also reads said)

one_project : OneProject
one_project = project_law (record { terms = spells_one; refusals = refusal_one; apart = spelled_not_refused }) (λ base t x y says tells. one_of one_requirement says tells)

pub children_once : (told : Option (List File)) → IfSome told (λ files. AnswersOnce (AreChildren files))
children_once None = tt
children_once (Some files) = λ app winner answer other says tells. once one_project says tells

-- what is told of a winner is a refusal
fault_inside : {files : List File} {app : List ℕ} {winner : Decl} {error : PlanError} → AreChildren files app winner (Err error) → blame_of error ≡ Input
fault_inside (unlocked name is) = refl
fault_inside (missing dir is gone) = refl
fault_inside (refused dir is has reads) = refl

pub fault_is_told : (told : Option (List File)) (app : List ℕ) (winner : Decl) (error : PlanError) → IfSome told (λ files. AreChildren files app winner (Err error) → blame_of error ≡ Input)
fault_is_told None app winner error = tt
fault_is_told (Some files) app winner error = fault_inside

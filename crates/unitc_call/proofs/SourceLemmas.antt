-- The sources that are read, one path after another.
use Rattle.std.proofs.Common.{◌≡◌, ℕ, ◌+◌, ◌<◌, ◌≤◌, List, [], ◌++◌, drop, filter_map, get_or, length, Option, Some, None, IfSome, refl, sym, ◌∙◌, ap, append-nil}
use Rattle.std.specs.List.{cons_option}
use Rattle.std.proofs.lemmas.List.{drop_all}
use Rattle.mx_base.specs.declared.file.File.{File}
use Rattle.tree_store.specs.Files.{paths_below}
use Rattle.build_plan.specs.Sources.{source_at, sources_of}
use Rattle.build_plan.proofs.SourceLemmas.{found_list, found_step}

-- those that are read so far
abbrev pub GoesOn : Option (List File) → List ℕ → List (List ℕ) → ℕ → List File → Type 0
GoesOn told dir paths i sources =
    IfSome told (λ files. sources ++ filter_map (source_at dir files) (drop i paths) ≡ filter_map (source_at dir files) paths)

pub goes_on : (told : Option (List File)) (dir : List ℕ) (sources : List File) (source : Option File) (paths : List (List ℕ)) (i : ℕ) (path : List ℕ) →
    i < length paths → path ≡ get_or paths i path → IfSome told (λ files. source ≡ source_at dir files path) → GoesOn told dir paths i sources →
    GoesOn told dir paths (i + 1) (sources ++ found_list source)
goes_on None dir sources source paths i path within is one so_far = tt
goes_on (Some files) dir sources source paths i path within is one so_far = found_step files dir sources source paths i path within is one so_far

-- none is read yet
pub none_read : (told : Option (List File)) (dir : List ℕ) (paths : List (List ℕ)) → GoesOn told dir paths 0 []
none_read None dir paths = tt
none_read (Some files) dir paths = refl

pub as_found : (source : Option File) → cons_option source [] ≡ found_list source
as_found None = refl
as_found (Some file) = refl

pub goes_to_end : (told : Option (List File)) (dir : List ℕ) (paths : List (List ℕ)) (sources : List File) (i : ℕ) → length paths ≤ i →
    IfSome told (λ files. paths ≡ paths_below dir files) → GoesOn told dir paths i sources → IfSome told (λ files. sources ≡ sources_of dir files)
goes_to_end None dir paths sources i all listed so_far = tt
goes_to_end (Some files) dir paths sources i all listed so_far =
    sym (append-nil sources)
    ∙ ap (λ (ps : List (List ℕ)). sources ++ filter_map (source_at dir files) ps) (sym (drop_all i paths all))
    ∙ so_far
    ∙ ap (filter_map (source_at dir files)) listed

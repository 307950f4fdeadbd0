-- The echo rule.
use Rattle.std.specs.Prelude.{◌≡◌, ◌≢◌, ℕ, Bool, not, ◌&&◌, List, [], ◌∷◌, ◌++◌, flat_map, filter, find, Option, Some, None, option_map, unwrap_or, codes, bytes_eq, refl}
use Rattle.mx_base.specs.declared.file.File.{File}
use Rattle.mx_base.specs.Layout.{manifest_name}
use Rattle.mx_base.specs.Order.{AreInOrder}
use Rattle.compile_model.specs.declared.how.How.{How}
use Rattle.compile_model.specs.declared.how.How.TheVariants.{Nothing, Unit as ByUnit, Program}
use Rattle.compile_model.specs.declared.outcome.Outcome.{Outcome}
use Rattle.compile_model.specs.Content.{Content, empty_outcome, outcome_with}

abbrev pub is_named : List ℕ → File → Bool
is_named name file = bytes_eq file.path name

abbrev pub is_copied : File → Bool
is_copied file = not (is_named manifest_name file) && not (is_named (codes "warn") file)

abbrev pub bytes_of : List File → List ℕ
bytes_of files = flat_map (λ file. file.bytes) files

-- the sources, and then the files of all needs
abbrev pub echo_bytes : Content → List ℕ
echo_bytes content = bytes_of (filter is_copied content.sources) ++ flat_map (λ need. bytes_of need.files) content.needs

abbrev pub echo_file : Content → File
echo_file content = record { path = content.app ++ codes ".out"; bytes = echo_bytes content }

abbrev pub bytes_named : List File → List ℕ → Option (List ℕ)
bytes_named files name = option_map (λ file. file.bytes) (find (is_named name) files)

-- what a source `warn` says
abbrev pub warning_of : List File → List ℕ
warning_of sources = unwrap_or (bytes_named sources (codes "warn")) []

-- the outcome by what a source `fail` says
abbrev pub echo_after : Content → Option (List ℕ) → Outcome
echo_after content (Some text) = outcome_with 1 text []
echo_after content None = outcome_with 0 (warning_of content.sources) (echo_file content ∷ [])

-- the outcome of what is compiled
abbrev pub echoed : Content → Outcome
echoed content = echo_after content (bytes_named content.sources (codes "fail"))

abbrev pub echo_by : How → Content → Outcome
echo_by Nothing content = empty_outcome
echo_by ByUnit content = echoed content
echo_by (Program words) content = echoed content

abbrev pub echo_of : Content → Outcome
echo_of content = echo_by content.how content

bare : (content : Content) (failed : Option (List ℕ)) → (echo_after content failed).status ≢ 0 → (echo_after content failed).files ≡ []
bare content (Some text) h = refl
bare content None h = absurd (h refl)

bare_by : (how : How) (content : Content) → (echo_by how content).status ≢ 0 → (echo_by how content).files ≡ []
bare_by Nothing content h = refl
bare_by ByUnit content h = bare content (bytes_named content.sources (codes "fail")) h
bare_by (Program words) content h = bare content (bytes_named content.sources (codes "fail")) h

pub echo_failed_is_bare : (content : Content) → (echo_of content).status ≢ 0 → (echo_of content).files ≡ []
echo_failed_is_bare content = bare_by content.how content

in_order_after : (content : Content) (failed : Option (List ℕ)) → AreInOrder (echo_after content failed).files
in_order_after content (Some text) = tt
in_order_after content None = (tt, tt)

in_order_by : (how : How) (content : Content) → AreInOrder (echo_by how content).files
in_order_by Nothing content = tt
in_order_by ByUnit content = in_order_after content (bytes_named content.sources (codes "fail"))
in_order_by (Program words) content = in_order_after content (bytes_named content.sources (codes "fail"))

pub echo_files_in_order : (content : Content) → AreInOrder (echo_of content).files
echo_files_in_order content = in_order_by content.how content

empty_by : (how : How) (content : Content) → how ≡ Nothing → echo_by how content ≡ empty_outcome
empty_by Nothing content e = refl
empty_by ByUnit content e = cc
empty_by (Program words) content e = cc

pub echo_nothing_is_empty : (content : Content) → content.how ≡ Nothing → echo_of content ≡ empty_outcome
echo_nothing_is_empty content = empty_by content.how content

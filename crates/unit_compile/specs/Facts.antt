-- What holds of all that compiling units means.
use Rattle.std.specs.Prelude.{◌≡◌, ◌≢◌, ℕ, Bool, true, false, Option, Some, None, List, [], ◌∷◌, map, fold, refl}
use Rattle.std.specs.BTreeMap.{insert_entry}
use Rattle.std.specs.declared.cmp.Ordering.{Ordering}
use Rattle.std.specs.declared.cmp.Ordering.TheVariants.{Less, Equal, Greater}
use Rattle.std.specs.Ordering.{match_ordering, ordering_reverse}
use Rattle.std.proofs.Common.{sym, ◌∙◌, ap}
use Rattle.std.proofs.lemmas.Cmp.{nat_list_cmp_total}
use Rattle.mx_base.specs.declared.file.File.{File}
use Rattle.mx_base.specs.Order.{AreInOrder, ArePathsInOrder, IsBefore, paths_of, text_cmp}
use Rattle.compile_model.specs.declared.how.How.{How}
use Rattle.compile_model.specs.declared.how.How.TheVariants.{Nothing, Unit as ByUnit, Program}
use Rattle.compile_model.specs.Content.{Content, empty_outcome}
use Rattle.unit_compile.specs.Units.{Made, all_of, compiled_by, faces_in_order, file_of, has_error, outcome_of, outcome_with_all, text_of, unit_meaning, with_face}

abbrev Entry : Type 0
Entry = List ℕ × List ℕ

abbrev paths_in : List Entry → List (List ℕ)
paths_in entries = paths_of (map file_of entries)

-- a path that stands before all stands before all and one more that it stands before
before_more : (path key value : List ℕ) (entries : List Entry) → text_cmp path key ≡ Less → IsBefore path (paths_in entries) → IsBefore path (paths_in (insert_entry text_cmp entries key value))
before_more path key value [] less before = (less, tt)
before_more path key value (e ∷ es) less before =
    elim (text_cmp key e.0) as (λ o. IsBefore path (paths_in (match_ordering o ((key, value) ∷ e ∷ es) ((e.0, value) ∷ es) (e ∷ insert_entry text_cmp es key value)))) [
      | Less ↦ (less, before)
      | Equal ↦ before
      | Greater ↦ (before.0, before_more path key value es less before.1)
    ]

-- what stands before the first stands before all
before_later : (path first : List ℕ) (paths : List (List ℕ)) → text_cmp path first ≡ Less → IsBefore first paths → IsBefore path paths
before_later path first [] less before = tt
before_later path first (p ∷ ps) less before = (nat_list_cmp_total.trans path first p less before.0, before_later path first ps less before.1)

inserted_by : (o : Ordering) (e : Entry) (es : List Entry) (key value : List ℕ) → text_cmp key e.0 ≡ o → ArePathsInOrder (paths_in (e ∷ es)) → ArePathsInOrder (paths_in (insert_entry text_cmp es key value))
    → ArePathsInOrder (paths_in (match_ordering o ((key, value) ∷ e ∷ es) ((e.0, value) ∷ es) (e ∷ insert_entry text_cmp es key value)))
inserted_by Less e es key value is order rest = ((is, before_later key e.0 (paths_in es) is order.0), order)
inserted_by Equal e es key value is order rest = order
inserted_by Greater e es key value is order rest =
    let less : text_cmp e.0 key ≡ Less = nat_list_cmp_total.antisymm e.0 key ∙ ap ordering_reverse is in
    (before_more e.0 key value es less order.0, rest)

pub inserted_in_order : (entries : List Entry) (key value : List ℕ) → ArePathsInOrder (paths_in entries) → ArePathsInOrder (paths_in (insert_entry text_cmp entries key value))
inserted_in_order [] key value order = (tt, tt)
inserted_in_order (e ∷ es) key value order = inserted_by (text_cmp key e.0) e es key value refl order (inserted_in_order es key value order.1)

-- what is put in order is in order
with_face_in_order : (face : Option File) (entries : List Entry) → ArePathsInOrder (paths_in entries) → ArePathsInOrder (paths_in (with_face entries face))
with_face_in_order None entries order = order
with_face_in_order (Some file) entries order = inserted_in_order entries file.path file.bytes order

all_in_order : (all : List Made) (entries : List Entry) → ArePathsInOrder (paths_in entries) → ArePathsInOrder (paths_in (fold (λ faces one. with_face faces one.face) entries all))
all_in_order [] entries order = order
all_in_order (one ∷ all) entries order = all_in_order all (with_face entries one.face) (with_face_in_order one.face entries order)

pub faces_are_in_order : (all : List Made) → AreInOrder (map file_of (faces_in_order all))
faces_are_in_order all = all_in_order all [] tt

files_by : (failed : Bool) (text : List ℕ) (faces : List Entry) → AreInOrder (map file_of faces) → AreInOrder (outcome_with_all failed text faces).files
files_by true text faces order = tt
files_by false text faces order = order

outcome_in_order : (all : List Made) → AreInOrder (outcome_of all).files
outcome_in_order all = files_by (has_error all) (text_of all) (faces_in_order all) (faces_are_in_order all)

in_order_by : (how : How) (content : Content) → AreInOrder (compiled_by how content).files
in_order_by Nothing content = tt
in_order_by ByUnit content = outcome_in_order (all_of content)
in_order_by (Program words) content = outcome_in_order (all_of content)

pub unit_files_in_order : (content : Content) → AreInOrder (unit_meaning content).files
unit_files_in_order content = in_order_by content.how content

bare : (failed : Bool) (text : List ℕ) (faces : List Entry) → (outcome_with_all failed text faces).status ≢ 0 → (outcome_with_all failed text faces).files ≡ []
bare true text faces h = refl
bare false text faces h = absurd (h refl)

outcome_bare : (all : List Made) → (outcome_of all).status ≢ 0 → (outcome_of all).files ≡ []
outcome_bare all = bare (has_error all) (text_of all) (faces_in_order all)

bare_by : (how : How) (content : Content) → (compiled_by how content).status ≢ 0 → (compiled_by how content).files ≡ []
bare_by Nothing content h = refl
bare_by ByUnit content h = outcome_bare (all_of content) h
bare_by (Program words) content h = outcome_bare (all_of content) h

pub unit_failed_is_bare : (content : Content) → (unit_meaning content).status ≢ 0 → (unit_meaning content).files ≡ []
unit_failed_is_bare content = bare_by content.how content

empty_by : (how : How) (content : Content) → how ≡ Nothing → compiled_by how content ≡ empty_outcome
empty_by Nothing content e = refl
empty_by ByUnit content e = cc
empty_by (Program words) content e = cc

pub unit_nothing_is_empty : (content : Content) → content.how ≡ Nothing → unit_meaning content ≡ empty_outcome
unit_nothing_is_empty content = empty_by content.how content

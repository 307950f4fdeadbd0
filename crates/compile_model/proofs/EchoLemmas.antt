-- The files of needs, and the outcome of what is built.
use Rattle.std.proofs.Common.{◌≡◌, ℕ, List, [], ◌∷◌, ◌++◌, length, map, flat_map, find, option_map, None, codes, refl, sym, ◌∙◌, ap}
use Rattle.mx_base.specs.declared.file.File.{File}
use Rattle.compile_model.specs.declared.how.How.{How}
use Rattle.compile_model.specs.declared.how.How.TheVariants.{Nothing, Unit as ByUnit, Program}
use Rattle.compile_model.specs.declared.outcome.Outcome.{Outcome}
use Rattle.compile_model.specs.Content.{Content, needs_of, outcome_with}
use Rattle.compile_model.specs.Echo.{bytes_of, bytes_named, is_named, echo_after, echo_by, echo_file, echo_of, warning_of}

-- where one app is named for each outcome, the bytes of the needs are those of the outcomes
pub echoed_needs : (apps : List (List ℕ)) (outcomes : List Outcome) → length apps ≡ length outcomes → flat_map (λ need. bytes_of need.files) (needs_of apps outcomes) ≡ flat_map bytes_of (map (λ o. o.files) outcomes)
echoed_needs [] [] long = refl
echoed_needs [] (outcome ∷ outcomes) long = cc
echoed_needs (app ∷ apps) [] long = cc
echoed_needs (app ∷ apps) (outcome ∷ outcomes) long = ap (λ bytes. bytes_of outcome.files ++ bytes) (echoed_needs apps outcomes (shorter long))
  where
    shorter : length (app ∷ apps) ≡ length (outcome ∷ outcomes) → length apps ≡ length outcomes
    shorter e = cc

built_by : (how : How) (content : Content) → (how ≡ Nothing → ⊥) → bytes_named content.sources (codes "fail") ≡ None → echo_by how content ≡ echo_after content None
built_by Nothing content some none = absurd (some refl)
built_by ByUnit content some none = ap (echo_after content) none
built_by (Program words) content some none = ap (echo_after content) none

-- what is compiled and has no source `fail` is built
pub echo_built : (content : Content) (text : List ℕ) (files : List File) → (content.how ≡ Nothing → ⊥) → find (is_named (codes "fail")) content.sources ≡ None → text ≡ warning_of content.sources → files ≡ echo_file content ∷ [] → outcome_with 0 text files ≡ echo_of content
echo_built content text files some none says holds =
    let none' : bytes_named content.sources (codes "fail") ≡ None = ap (option_map (λ (file : File). file.bytes)) none in
    ap (λ (t : List ℕ). outcome_with 0 t files) says ∙ (ap (λ (fs : List File). outcome_with 0 (warning_of content.sources) fs) holds ∙ sym (built_by content.how content some none'))

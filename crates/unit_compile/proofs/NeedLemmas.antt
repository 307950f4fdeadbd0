-- The needs that are left to look at.
use Rattle.std.proofs.Common.{◌≡◌, ℕ, suc, ◌+◌, ◌<◌, Bool, true, false, cond, List, [], ◌∷◌, drop, length, get_or, find, Option, Some, option_and_then, bytes_eq, refl, sym, ap, ◌∙◌, arith, add-one}
use Rattle.std.proofs.lemmas.List.{drop_more}
use Rattle.mx_base.specs.Order.{bytes_at}
use Rattle.compile_model.specs.declared.outcome.Outcome.{Outcome}
use Rattle.compile_model.specs.Content.{Need, empty_outcome, needs_of}
use Rattle.unit_compile.specs.Faces.{face_name}
use Rattle.unit_compile.specs.Lines.{face_bytes}

-- what the needs from a place on have
abbrev pub face_from : ℕ → List (List ℕ) → List Outcome → List ℕ → List ℕ → Option (List ℕ)
face_from place apps outcomes app unit = face_bytes (needs_of (drop place apps) (drop place outcomes)) app unit

-- the first of them
first_need : (apps : List (List ℕ)) (outcomes : List Outcome) (place : ℕ) (name : List ℕ) (outcome : Outcome) → place < length apps → length apps ≡ length outcomes
    → needs_of (drop place apps) (drop place outcomes) ≡ record { app = get_or apps place name; files = (get_or outcomes place outcome).files } ∷ needs_of (drop (place + 1) apps) (drop (place + 1) outcomes)
first_need apps outcomes place name outcome less same =
    let less_also : place < length outcomes = omega arith in
    ap (λ (xs : List (List ℕ)). needs_of xs (drop place outcomes)) (drop_more apps place name less)
    ∙ ap (λ (os : List Outcome). needs_of (get_or apps place name ∷ drop (place + 1) apps) os) (drop_more outcomes place outcome less_also)

found_in : (need : Need) (needs : List Need) (app unit : List ℕ) (b : Bool) → bytes_eq app need.app ≡ b
    → face_bytes (need ∷ needs) app unit ≡ cond b (bytes_at (face_name unit) need.files) (face_bytes needs app unit)
found_in need needs app unit true e = ap (λ (b : Bool). option_and_then (λ n. bytes_at (face_name unit) n.files) (cond b (Some need) (find (λ n. bytes_eq app n.app) needs))) e
found_in need needs app unit false e = ap (λ (b : Bool). option_and_then (λ n. bytes_at (face_name unit) n.files) (cond b (Some need) (find (λ n. bytes_eq app n.app) needs))) e

-- the first isn't named so
pub passed : (apps : List (List ℕ)) (outcomes : List Outcome) (place : ℕ) (name app unit : List ℕ) (expected : Option (List ℕ)) → place < length apps → length apps ≡ length outcomes
    → name ≡ get_or apps place name → bytes_eq app name ≡ false → face_from place apps outcomes app unit ≡ expected → face_from (place + 1) apps outcomes app unit ≡ expected
passed apps outcomes place name app unit expected less same is other so_far =
    sym (ap (λ (needs : List Need). face_bytes needs app unit) (first_need apps outcomes place name empty_outcome less same)
    ∙ found_in (record { app = get_or apps place name; files = (get_or outcomes place empty_outcome).files }) (needs_of (drop (place + 1) apps) (drop (place + 1) outcomes)) app unit false (ap (bytes_eq app) (sym is) ∙ other))
    ∙ so_far

-- the first is named so
pub found : (apps : List (List ℕ)) (outcomes : List Outcome) (place : ℕ) (name app unit : List ℕ) (outcome : Outcome) (expected : Option (List ℕ)) → place < length apps → length apps ≡ length outcomes
    → name ≡ get_or apps place name → bytes_eq app name ≡ true → face_from place apps outcomes app unit ≡ expected → bytes_at (face_name unit) (get_or outcomes place outcome).files ≡ expected
found apps outcomes place name app unit outcome expected less same is here so_far =
    sym (ap (λ (needs : List Need). face_bytes needs app unit) (first_need apps outcomes place name outcome less same)
    ∙ found_in (record { app = get_or apps place name; files = (get_or outcomes place outcome).files }) (needs_of (drop (place + 1) apps) (drop (place + 1) outcomes)) app unit true (ap (bytes_eq app) (sym is) ∙ here))
    ∙ so_far

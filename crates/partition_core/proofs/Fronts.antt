-- Needs of which the first ones are built.
use Rattle.std.proofs.Common.{◌≡◌, ℕ, zero, suc, ◌+◌, ◌<◌, ◌==◌, Bool, true, false, cond, List, [], ◌∷◌, length, take, Option, Some, None, is_some, slice_get, slice_set, get_or, refl, sym, ◌∙◌, ap, arith}
use Rattle.std.specs.Option.{option_and_then}
use Rattle.std.proofs.lemmas.Bool.{or_parts, eqb-false}
use Rattle.std.proofs.lemmas.Option.{slice_get-get_or, slice_get_within}
use Rattle.compile_model.specs.declared.outcome.Outcome.{Outcome}
use Rattle.compile_model.specs.declared.outcome.Fate.{Fate}
use Rattle.compile_model.specs.Seq.{built_outcome}
use Rattle.partition_core.specs.State.{at, built_at, first_open}
use Rattle.partition_core.specs.Agendas.{has, is_decided, IsFront}
use Rattle.partition_core.proofs.Needs.{head_built, rest_built}
use Rattle.partition_core.proofs.Places.{set_other}

abbrev pub built_of : Option (Option Fate) → Option Outcome
built_of found = option_and_then built_outcome (option_and_then (λ (fate : Option Fate). fate) found)

none_taken : (fates : List (Option Fate)) (needs : List ℕ) → first_open fates (take zero needs) ≡ None
none_taken fates [] = refl
none_taken fates (need ∷ needs) = refl

-- one need more that is built
open_more : (fates : List (Option Fate)) (needs : List ℕ) (k need : ℕ) → slice_get needs k ≡ Some need →
    is_some (built_at fates need) ≡ true → first_open fates (take k needs) ≡ None → first_open fates (take (suc k) needs) ≡ None
open_more fates [] k need there built e = cc
open_more fates (x ∷ xs) zero need there built e =
    let same : x ≡ need = cc in
    ap (λ (b : Bool). cond b (first_open fates (take zero xs)) (Some x)) (ap (λ (p : ℕ). is_some (built_at fates p)) same ∙ built)
    ∙ none_taken fates xs
open_more fates (x ∷ xs) (suc k) need there built e =
    let head = head_built (built_at fates x) (first_open fates (take k xs)) x e in
    let rest = rest_built (built_at fates x) (first_open fates (take k xs)) x e in
    ap (λ (o : Option Outcome). cond (is_some o) (first_open fates (take (suc k) xs)) (Some x)) head.1
    ∙ open_more fates xs k need there built rest

one_more : (n : ℕ) → n + 1 ≡ suc n
one_more n = omega arith

none_of : (found : Option Outcome) → is_some found ≡ false → found ≡ None
none_of None e = refl
none_of (Some outcome) e = cc

pub front_more : (fates : List (Option Fate)) (needs : List ℕ) (front need : ℕ) → front < length needs →
    is_some (built_at fates (get_or needs front need)) ≡ true → IsFront fates needs front → IsFront fates needs (front + 1)
front_more fates needs front need within built is = record {
  within = omega arith;
  built = ap (λ (k : ℕ). first_open fates (take k needs)) (one_more front)
      ∙ open_more fates needs front (get_or needs front need) (slice_get-get_or needs front need within)
      built is.built;
}

-- a front behind which no need is built is the first need that isn't
pub front_first : (fates : List (Option Fate)) (needs : List ℕ) (front : ℕ) → first_open fates (take front needs) ≡ None →
    ((need : ℕ) → slice_get needs front ≡ Some need → built_at fates need ≡ None) → first_open fates needs ≡ slice_get needs front
front_first fates [] front e stop = refl
front_first fates (x ∷ xs) zero e stop = ap (λ (o : Option Outcome). cond (is_some o) (first_open fates xs) (Some x)) (stop x refl)
front_first fates (x ∷ xs) (suc front) e stop =
    let head = head_built (built_at fates x) (first_open fates (take front xs)) x e in
    let rest = rest_built (built_at fates x) (first_open fates (take front xs)) x e in
    ap (λ (o : Option Outcome). cond (is_some o) (first_open fates xs) (Some x)) head.1 ∙ front_first fates xs front rest stop

pub front_here : (fates : List (Option Fate)) (needs : List ℕ) (front need : ℕ) → IsFront fates needs front → front < length needs →
    is_some (built_at fates (get_or needs front need)) ≡ false → first_open fates needs ≡ slice_get needs front
front_here fates needs front need is within unbuilt =
    let there = slice_get-get_or needs front need within in
    let none = none_of (built_at fates (get_or needs front need)) unbuilt in
    front_first fates needs front is.built
    (λ n here. let same : n ≡ get_or needs front need = let h : Some n ≡ Some (get_or needs front need) = sym here ∙ there in cc in
    ap (built_at fates) same ∙ none)

pub front_end : (fates : List (Option Fate)) (needs : List ℕ) → IsFront fates needs (length needs) →
    first_open fates needs ≡ slice_get needs (length needs)
front_end fates needs is =
    front_first fates needs (length needs) is.built
    (λ n here. absurd (let h : length needs < length needs = slice_get_within needs (length needs) n here in omega arith))

-- what is built stays so, where a place without a fate gets one
pub built_stays : (fates : List (Option Fate)) (place : ℕ) (fate : Option Fate) → at fates place ≡ None →
    (needs : List ℕ) → first_open fates needs ≡ None → first_open (slice_set fates place fate) needs ≡ None
built_stays fates place fate none [] e = refl
built_stays fates place fate none (need ∷ needs) e =
    let head = head_built (built_at fates need) (first_open fates needs) need e in
    let rest = rest_built (built_at fates need) (first_open fates needs) need e in
    let other : (need ≡ place → ⊥) = λ same. let h : built_at fates need ≡ None = ap (built_at fates) same ∙ ap (option_and_then built_outcome) none in
    let g = head.1 in cc in
    let still : built_at (slice_set fates place fate) need ≡ Some head.0 = ap built_of (set_other fates place need fate other) ∙ head.1 in
    ap (λ (o : Option Outcome). cond (is_some o) (first_open (slice_set fates place fate) needs) (Some need)) still
    ∙ built_stays fates place fate none needs rest

-- needs among which the place isn't are as they were
pub decided_apart : (fates : List (Option Fate)) (place : ℕ) (fate : Option Fate) (needs : List ℕ) → has needs place ≡ false →
    is_decided (slice_set fates place fate) (first_open (slice_set fates place fate) needs) ≡ is_decided fates (first_open fates needs)
decided_apart fates place fate [] h = refl
decided_apart fates place fate (need ∷ needs) h =
    ap (λ (b : Bool). is_decided now (cond b (first_open now needs) (Some need))) (ap (λ (v : Option (Option Fate)). is_some (built_of v)) seen)
    ∙ by_head (decided_apart fates place fate needs parts.1) (is_some (built_at fates need))
  where
    now : List (Option Fate)
    now = slice_set fates place fate

    parts : ((need == place) ≡ false) × (has needs place ≡ false)
    parts = or_parts (need == place) (has needs place) h

    seen : slice_get now need ≡ slice_get fates need
    seen = set_other fates place need fate (eqb-false need place parts.0)

    by_head : is_decided now (first_open now needs) ≡ is_decided fates (first_open fates needs) →
        (b : Bool) → is_decided now (cond b (first_open now needs) (Some need)) ≡ is_decided fates (cond b (first_open fates needs) (Some need))
    by_head rest true = rest
    by_head rest false = ap (λ (v : Option (Option Fate)). is_some (option_and_then (λ (w : Option Fate). w) v)) seen

-- Dependents, of jobs one after another.
use Rattle.std.proofs.Common.{◌≡◌, ℕ, zero, suc, ◌+◌, ◌<◌, ◌==◌, ◌||◌, ◌&&◌, inl, inr, Bool, true, false, List, [], ◌∷◌, ◌++◌, length, take, replicate, Option, Some, None, slice_get, slice_set, get_or, refl, sym, ◌∙◌, ap, subst, arith, eq-eqb}
use Rattle.std.specs.List.{All}
use Rattle.std.proofs.lemmas.Bool.{cases_eq, ne_eqb}
use Rattle.std.proofs.lemmas.Option.{slice_get-get_or}
use Rattle.compile_model.specs.declared.job.Job.{Job}
use Rattle.compile_model.specs.Planned.{ArePlanned}
use Rattle.partition_core.specs.State.{needs_of}
use Rattle.partition_core.specs.Agendas.{has, needs_in, places_or_none, dependents_at}
use Rattle.partition_core.proofs.Places.{set_same, set_other, get_replicate}

nothing_taken : {X : Type 0} (xs : List X) (i : ℕ) → slice_get (take zero xs) i ≡ None
nothing_taken [] i = refl
nothing_taken (x ∷ xs) i = refl

taken_here : {X : Type 0} (xs : List X) (k : ℕ) (x : X) → slice_get xs k ≡ Some x → slice_get (take (suc k) xs) k ≡ Some x
taken_here [] k x e = cc
taken_here (y ∷ ys) zero x e = e
taken_here (y ∷ ys) (suc k) x e = taken_here ys k x e

taken_past : {X : Type 0} (xs : List X) (k : ℕ) → slice_get (take k xs) k ≡ None
taken_past [] zero = refl
taken_past [] (suc k) = refl
taken_past (y ∷ ys) zero = refl
taken_past (y ∷ ys) (suc k) = taken_past ys k

taken_other : {X : Type 0} (xs : List X) (k other : ℕ) → (other ≡ k → ⊥) → slice_get (take (suc k) xs) other ≡ slice_get (take k xs) other
taken_other [] zero other h = refl
taken_other [] (suc k) other h = refl
taken_other (y ∷ ys) zero zero h = absurd (h refl)
taken_other (y ∷ ys) zero (suc other) h = nothing_taken ys other
taken_other (y ∷ ys) (suc k) zero h = refl
taken_other (y ∷ ys) (suc k) (suc other) h = taken_other ys k other (λ e. h (ap suc e))

one_more : (n : ℕ) → n + 1 ≡ suc n
one_more n = omega arith

or_no : (b : Bool) → (b || false) ≡ b
or_no true = refl
or_no false = refl

or_assoc : (a b c : Bool) → ((a || b) || c) ≡ (a || (b || c))
or_assoc true b c = refl
or_assoc false b c = refl

-- the needs by place, of one job more
pub needs_more : (jobs : List Job) (k : ℕ) (job : Job) → slice_get jobs k ≡ Some job → (other need : ℕ) →
    has (needs_in (take (k + 1) jobs) other) need ≡ (has (needs_in (take k jobs) other) need || (k == other && has job.needs need))
needs_more jobs k job there other need =
    ap (λ (n : ℕ). has (needs_in (take n jobs) other) need) (one_more k)
    ∙ elim (cases_eq other k) [
      | inl same ↦
          ap (λ (p : ℕ). has (needs_in (take (suc k) jobs) p) need) same
          ∙ ap (λ (f : Option Job). has (needs_of f) need) (taken_here jobs k job there)
          ∙ ap (λ (b : Bool). b && has job.needs need) (sym (eq-eqb k other (sym same)))
          ∙ ap (λ (f : Option Job). has (needs_of f) need || (k == other && has job.needs need)) (sym (taken_past jobs k))
          ∙ ap (λ (p : ℕ). has (needs_in (take k jobs) p) need || (k == other && has job.needs need)) (sym same)
      | inr apart ↦
          ap (λ (f : Option Job). has (needs_of f) need) (taken_other jobs k other apart)
          ∙ sym (or_no (has (needs_in (take k jobs) other) need))
          ∙ ap (λ (b : Bool). has (needs_in (take k jobs) other) need || (b && has job.needs need)) (sym (ne_eqb k other (λ e. apart (sym e))))
    ]

has_pushed : (places : List ℕ) (place other : ℕ) → has (places ++ place ∷ []) other ≡ (has places other || place == other)
has_pushed [] place other = or_no (place == other)
has_pushed (p ∷ places) place other =
    ap (λ (b : Bool). p == other || b) (has_pushed places place other) ∙ sym (or_assoc (p == other) (has places other) (place == other))

-- a place is among one more place's dependents
pub dependents_pushed : (dependents : List (List ℕ)) (need place : ℕ) (was : List ℕ) → slice_get dependents need ≡ Some was → (n other : ℕ) →
    has (dependents_at (slice_set dependents need (was ++ place ∷ [])) n) other
    ≡ (has (dependents_at dependents n) other || (need == n && place == other))
dependents_pushed dependents need place was there n other =
    elim (cases_eq n need) [
      | inl same ↦
          ap (λ (p : ℕ). has (dependents_at (slice_set dependents need (was ++ place ∷ [])) p) other) same
          ∙ ap (λ (f : Option (List ℕ)). has (places_or_none f) other) (set_same dependents need (was ++ place ∷ []) was there)
          ∙ has_pushed was place other
          ∙ ap (λ (f : Option (List ℕ)). has (places_or_none f) other || place == other) (sym there)
          ∙ ap (λ (p : ℕ). has (dependents_at dependents p) other || place == other) (sym same)
          ∙ ap (λ (b : Bool). has (dependents_at dependents n) other || (b && place == other)) (sym (eq-eqb need n (sym same)))
      | inr apart ↦
          ap (λ (f : Option (List ℕ)). has (places_or_none f) other) (set_other dependents need n (was ++ place ∷ []) apart)
          ∙ sym (or_no (has (dependents_at dependents n) other))
          ∙ ap (λ (b : Bool). has (dependents_at dependents n) other || (b && place == other)) (sym (ne_eqb need n (λ e. apart (sym e))))
    ]

has_more : (needs : List ℕ) (k first : ℕ) → slice_get needs k ≡ Some first → (need : ℕ) →
    has (take (suc k) needs) need ≡ (has (take k needs) need || first == need)
has_more [] k first there need = cc
has_more (x ∷ xs) zero first there need =
    let same : x ≡ first = cc in
    ap (λ (b : Bool). x == need || b) (none_has xs) ∙ or_no (x == need) ∙ ap (λ (p : ℕ). p == need) same
  where
    none_has : (ys : List ℕ) → has (take zero ys) need ≡ false
    none_has [] = refl
    none_has (y ∷ ys) = refl
has_more (x ∷ xs) (suc k) first there need =
    ap (λ (b : Bool). x == need || b) (has_more xs k first there need) ∙ sym (or_assoc (x == need) (has (take k xs) need) (first == need))

spread : (a own told now : Bool) → ((a || (own && told)) || (now && own)) ≡ (a || (own && (told || now)))
spread true own told now = refl
spread false false told true = refl
spread false false told false = refl
spread false true true now = refl
spread false true false true = refl
spread false true false false = refl

-- a place was put among the dependents of one need more
pub dependents_step : (needs : List ℕ) (k first : ℕ) → slice_get needs k ≡ Some first →
    (before now start : List (List ℕ)) (place need other : ℕ) →
    has (dependents_at before need) other ≡ (has (dependents_at start need) other || (place == other && has (take k needs) need)) →
    has (dependents_at now need) other ≡ (has (dependents_at before need) other || (first == need && place == other)) →
    has (dependents_at now need) other ≡ (has (dependents_at start need) other || (place == other && has (take (k + 1) needs) need))
dependents_step needs k first there before now start place need other so_far pushed =
    pushed
    ∙ ap (λ (b : Bool). b || (first == need && place == other)) so_far
    ∙ spread (has (dependents_at start need) other) (place == other) (has (take k needs) need) (first == need)
    ∙ ap (λ (b : Bool). has (dependents_at start need) other || (place == other && b)) (sym (has_more needs k first there need))
    ∙ ap (λ (n : ℕ). has (dependents_at start need) other || (place == other && has (take n needs) need)) (sym (one_more k))

-- nobody's dependents
pub no_dependents_has : (count need other : ℕ) → has (dependents_at (replicate count []) need) other ≡ false
no_dependents_has count need other = by_found (slice_get (replicate count []) need) refl
  where
    by_found : (found : Option (List ℕ)) → slice_get (replicate count []) need ≡ found → has (places_or_none found) other ≡ false
    by_found None is = refl
    by_found (Some places) is = ap (λ (ps : List ℕ). has ps other) (sym (get_replicate count need [] places is))

pub no_jobs_need : (jobs : List Job) (other need : ℕ) → has (needs_in (take 0 jobs) other) need ≡ false
no_jobs_need jobs other need = ap (λ (f : Option Job). has (needs_of f) need) (nothing_taken jobs other)

-- a place is put among the dependents of one need more, as the loop writes it
pub dependents_put : (needs : List ℕ) (k : ℕ) → k < length needs → (before start : List (List ℕ)) (place : ℕ) (was new : List ℕ) →
    get_or needs k 0 < length before → was ≡ get_or before (get_or needs k 0) was → new ≡ was ++ place ∷ [] →
    ((need other : ℕ) → has (dependents_at before need) other ≡ (has (dependents_at start need) other || (place == other && has (take k needs) need))) →
    (need other : ℕ) →
    has (dependents_at (slice_set before (get_or needs k 0) new) need) other
    ≡ (has (dependents_at start need) other || (place == other && has (take (k + 1) needs) need))
dependents_put needs k within before start place was new inside is pushed so_far need other =
    let first : ℕ = get_or needs k 0 in
    dependents_step needs k first (slice_get-get_or needs k 0 within) before (slice_set before first new) start place need other (so_far need other)
    (ap (λ (places : List ℕ). has (dependents_at (slice_set before first places) need) other) pushed
    ∙ dependents_pushed before first place was (slice_get-get_or before first was inside ∙ ap Some (sym is)) need other)

-- needs are places of jobs
pub needs_within : (jobs : List Job) (place : ℕ) (job : Job) (needs : List ℕ) (count : ℕ) → ArePlanned jobs → place < length jobs →
    job ≡ get_or jobs place job →
    needs ≡ job.needs → count ≡ length jobs → All (λ need. need < count) needs
needs_within jobs place job needs count planned within is same long =
    subst (λ (ns : List ℕ). All (λ need. need < count) ns) (sym same)
    (λ k d below.
    let low = (planned.needs place job (slice_get-get_or jobs place job within ∙ ap Some (sym is))).before k d below in omega arith)

-- one job more
pub dependents_next : (jobs : List Job) (k : ℕ) (job : Job) (old new : List (List ℕ)) (needs : List ℕ) → k < length jobs → job ≡ get_or jobs k job →
    needs ≡ job.needs →
    ((need other : ℕ) → has (dependents_at old need) other ≡ has (needs_in (take k jobs) other) need) →
    ((need other : ℕ) → has (dependents_at new need) other ≡ (has (dependents_at old need) other || (k == other && has needs need))) →
    (need other : ℕ) → has (dependents_at new need) other ≡ has (needs_in (take (k + 1) jobs) other) need
dependents_next jobs k job old new needs within is same so_far put need other =
    put need other
    ∙ ap (λ (b : Bool). b || (k == other && has needs need)) (so_far need other)
    ∙ ap (λ (ns : List ℕ). has (needs_in (take k jobs) other) need || (k == other && has ns need)) same
    ∙ sym (needs_more jobs k job (slice_get-get_or jobs k job within ∙ ap Some (sym is)) other need)

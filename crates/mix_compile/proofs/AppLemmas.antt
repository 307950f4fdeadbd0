-- The apps of a plan, and those that were built.
use Rattle.std.proofs.Common.{◌≡◌, ◌≢◌, ◌⊎◌, inl, inr, ℕ, zero, suc, ◌+◌, ◌<◌, ◌≤◌, Bool, true, false, ◌&&◌, ◌||◌, cond, List, [], ◌∷◌, ◌++◌, length, map, take, drop, get_or, Option, Some, None, slice_get, All, AllPairs, bytes_eq, refl, sym, ◌∙◌, ap, subst, arith}
use Rattle.std.specs.List.{list_any}
use Rattle.std.proofs.lemmas.Bool.{and_parts}
use Rattle.std.proofs.lemmas.Slice.Eq.{bytes_eq-Decides}
use Rattle.compile_model.specs.declared.job.Job.{Job}
use Rattle.compile_model.specs.declared.outcome.Fate.{Fate}
use Rattle.compile_model.specs.declared.outcome.Fate.TheVariants.{Built, Failed, Skipped}
use Rattle.compile_model.specs.declared.outcome.Outcome.{Outcome}
use Rattle.compile_model.specs.Planned.{ArePlanned}
use Rattle.kept_tree.specs.Clearing.{is_among, is_in_env, is_of}
use Rattle.tree_store.specs.declared.key.BuildKey.{BuildKey}
use Rattle.tree_store.specs.Key.{is_same_build}
use Rattle.tree_store.proofs.StoreLemmas.{same_key}
use Rattle.mix_compile.specs.Settling.{built_app, built_apps}

or_parts : (a b : Bool) → (a || b) ≡ true → (a ≡ true) ⊎ (b ≡ true)
or_parts true b e = inl refl
or_parts false b e = inr e

-- a name that is among others stands at a place
pub among_at : (names : List (List ℕ)) (name : List ℕ) → is_among names name ≡ true → (i : ℕ) × (i < length names) × ((d : List ℕ) → get_or names i d ≡ name)
among_at [] name e = cc
among_at (n ∷ ns) name e = elim (or_parts (bytes_eq name n) (is_among ns name) e) [
  | inl own ↦ (0, omega arith, λ d. sym ((bytes_eq-Decides name n).0 own))
  | inr later ↦ let rest = among_at ns name later in (suc rest.0, omega (arith, rest.1), rest.2)
]

pub among_take : (names : List (List ℕ)) (n : ℕ) (name : List ℕ) → is_among (take n names) name ≡ true
    → (i : ℕ) × (i < n) × (i < length names) × ((d : List ℕ) → get_or names i d ≡ name)
among_take [] zero name e = cc
among_take [] (suc n) name e = cc
among_take (x ∷ xs) zero name e = cc
among_take (x ∷ xs) (suc n) name e = elim (or_parts (bytes_eq name x) (is_among (take n xs) name) e) [
  | inl own ↦ (0, omega arith, omega arith, λ d. sym ((bytes_eq-Decides name x).0 own))
  | inr later ↦ let rest = among_take xs n name later in (suc rest.0, omega (arith, rest.1), omega (arith, rest.2), rest.3)
]

-- the name at a place is none of those before it
pub not_before : (env : List ℕ) (apps : List (List ℕ)) (i : ℕ) (app : List ℕ) (q : BuildKey) → i < length apps → app ≡ get_or apps i app
    → AllPairs (λ one other. one ≢ other) apps → is_same_build (record { env = env; app = app }) q ≡ true → is_of env (take i apps) q ≡ true → ⊥
not_before env apps i app q within is differ same of =
    let parts = and_parts (is_among (take i apps) q.app) (is_in_env env q) of in
    let there = among_take apps i q.app parts.0 in
    differ there.0 i app there.1 within (there.3 app ∙ sym (same_key (record { env = env; app = app }) q same).1 ∙ is)

-- ---- what was built

built_cases : (job : Job) (fate : Fate) (apps : List (List ℕ)) (app : List ℕ) → is_among (built_app job fate apps) app ≡ true
    → ((outcome : Outcome) × (fate ≡ Built outcome) × (job.app ≡ app)) ⊎ (is_among apps app ≡ true)
built_cases job (Built outcome) apps app e = elim (or_parts (bytes_eq app job.app) (is_among apps app) e) [
  | inl own ↦ inl (outcome, refl, sym ((bytes_eq-Decides app job.app).0 own))
  | inr later ↦ inr later
]
built_cases job (Failed outcome) apps app e = inr e
built_cases job (Skipped need) apps app e = inr e

-- an app that was built has a job that was
pub built_there : (jobs : List Job) (fates : List Fate) (app : List ℕ) → is_among (built_apps jobs fates) app ≡ true
    → (place : ℕ) × (job : Job) × (outcome : Outcome) × (slice_get jobs place ≡ Some job) × (slice_get fates place ≡ Some (Built outcome)) × (job.app ≡ app)
built_there [] fates app e = cc
built_there (job ∷ jobs) [] app e = cc
built_there (job ∷ jobs) (fate ∷ fates) app e = elim (built_cases job fate (built_apps jobs fates) app e) [
  | inl own ↦ (0, job, own.0, refl, ap (λ (f : Fate). Some f) own.1, own.2)
  | inr later ↦ let rest = built_there jobs fates app later in (suc rest.0, rest.1, rest.2, rest.3, rest.4, rest.5)
]

built_more : (job : Job) (fate : Fate) (apps : List (List ℕ)) (app : List ℕ) → is_among apps app ≡ true → is_among (built_app job fate apps) app ≡ true
built_more job (Built outcome) apps app e = at (bytes_eq app job.app)
  where
    at : (b : Bool) → (b || is_among apps app) ≡ true
    at true = refl
    at false = e
built_more job (Failed outcome) apps app e = e
built_more job (Skipped need) apps app e = e

-- .. and the other way round
pub there_built : (jobs : List Job) (fates : List Fate) (place : ℕ) (job : Job) (outcome : Outcome) (app : List ℕ) → slice_get jobs place ≡ Some job
    → slice_get fates place ≡ Some (Built outcome) → job.app ≡ app → is_among (built_apps jobs fates) app ≡ true
there_built [] fates place job outcome app j f is = cc
there_built (k ∷ ks) [] place job outcome app j f is = cc
there_built (k ∷ ks) (x ∷ xs) zero job outcome app j f is =
    let own : k ≡ job = cc in
    let fate : x ≡ Built outcome = cc in
    ap (λ (t : Fate). is_among (built_app k t (built_apps ks xs)) app) fate
    ∙ ap (λ (b : Bool). b || is_among (built_apps ks xs) app) ((bytes_eq-Decides app k.app).1 (sym is ∙ ap (λ (t : Job). t.app) (sym own)))
there_built (k ∷ ks) (x ∷ xs) (suc place) job outcome app j f is = built_more k x (built_apps ks xs) app (there_built ks xs place job outcome app j f is)

-- ---- that they differ

abbrev pub Apart : Job → Job → Type 0
Apart one other = one.app ≢ other.app

abbrev pub Differ : List ℕ → List ℕ → Type 0
Differ one other = one ≢ other

-- a name that differs from all of these
others_built : (app : List ℕ) (jobs : List Job) (fates : List Fate) → ((k : ℕ) (d : Job) → k < length jobs → app ≢ (get_or jobs k d).app)
    → (k : ℕ) (d : List ℕ) → k < length (built_apps jobs fates) → app ≢ get_or (built_apps jobs fates) k d
others_built app [] fates other k d within = absurd (omega (arith, within))
others_built app (job ∷ jobs) [] other k d within = absurd (omega (arith, within))
others_built app (job ∷ jobs) (Built outcome ∷ fates) other zero d within = other 0 job (omega arith)
others_built app (job ∷ jobs) (Built outcome ∷ fates) other (suc k) d within =
    others_built app jobs fates (λ i e below. other (suc i) e (omega (arith, below))) k d (omega (arith, within))
others_built app (job ∷ jobs) (Failed outcome ∷ fates) other k d within = others_built app jobs fates (λ i e below. other (suc i) e (omega (arith, below))) k d within
others_built app (job ∷ jobs) (Skipped need ∷ fates) other k d within = others_built app jobs fates (λ i e below. other (suc i) e (omega (arith, below))) k d within

pub built_differ : (jobs : List Job) (fates : List Fate) → AllPairs Apart jobs → AllPairs Differ (built_apps jobs fates)
built_differ [] fates pairs i j d before below = absurd (omega (arith, below))
built_differ (job ∷ jobs) [] pairs i j d before below = absurd (omega (arith, below))
built_differ (job ∷ jobs) (Built outcome ∷ fates) pairs i zero d before below = absurd (omega (arith, before))
built_differ (job ∷ jobs) (Built outcome ∷ fates) pairs zero (suc j) d before below =
    others_built job.app jobs fates (λ k e within. pairs 0 (suc k) e (omega arith) (omega (arith, within))) j d (omega (arith, below))
built_differ (job ∷ jobs) (Built outcome ∷ fates) pairs (suc i) (suc j) d before below =
    built_differ jobs fates (λ a b e first second. pairs (suc a) (suc b) e (omega (arith, first)) (omega (arith, second))) i j d (omega (arith, before)) (omega (arith, below))
built_differ (job ∷ jobs) (Failed outcome ∷ fates) pairs i j d before below =
    built_differ jobs fates (λ a b e first second. pairs (suc a) (suc b) e (omega (arith, first)) (omega (arith, second))) i j d before below
built_differ (job ∷ jobs) (Skipped need ∷ fates) pairs i j d before below =
    built_differ jobs fates (λ a b e first second. pairs (suc a) (suc b) e (omega (arith, first)) (omega (arith, second))) i j d before below

-- an app of a job is one of the plan's
pub job_among : (jobs : List Job) (place : ℕ) (job : Job) → slice_get jobs place ≡ Some job → is_among (map (λ job. job.app) jobs) job.app ≡ true
job_among [] place job e = cc
job_among (k ∷ ks) zero job e =
    let own : k ≡ job = cc in
    ap (λ (b : Bool). b || is_among (map (λ (j : Job). j.app) ks) job.app) ((bytes_eq-Decides job.app k.app).1 (ap (λ (j : Job). j.app) (sym own)))
job_among (k ∷ ks) (suc place) job e = at (bytes_eq job.app k.app) (job_among ks place job e)
  where
    at : (b : Bool) → is_among (map (λ (j : Job). j.app) ks) job.app ≡ true → (b || is_among (map (λ (j : Job). j.app) ks) job.app) ≡ true
    at true rest = refl
    at false rest = rest

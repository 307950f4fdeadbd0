-- What has to be asked of a further release says whether all agree with it.
use Rattle.std.proofs.Common.{◌≡◌, ℕ, zero, suc, ◌+◌, ◌<◌, ◌≤◌, Bool, true, false, not, ◌&&◌, cond, List, [], ◌∷◌, map, filter, drop, length, get_or, slice_get, Option, Some, None, IsTrue, IsFalse, refl, sym, ap, subst, ◌∙◌, arith, drop-cons, ◌⊎◌, inl, inr}
use Rattle.std.specs.List.{list_any, list_all}
use Rattle.std.specs.Prelude.{slice_index}
use Rattle.std.proofs.lemmas.Bool.{cases_lt}
use Rattle.std.proofs.lemmas.List.{drop_all}
use Rattle.std.proofs.lemmas.Option.{slice_get-get_or}
use Rattle.hex_registry.specs.Picks.{Picked, demand_refuses, demands_at, with_picked}
use Rattle.hex_registry.specs.Shelves.{demands_of, offer_at, without_apps}
use Rattle.hex_registry.specs.declared.offer.Offer.{Offer}
use Rattle.hex_registry.proofs.PickLists.{all_decided}
use Rattle.hex_pick.specs.Fitting.{fits, fits_at, fits_offer, in_force}
use Rattle.hex_pick.specs.Problem.{Problem, agrees, decided_by, demands_take_offer, takes, wants_take, wants_take_offer}
use Rattle.hex_pick.specs.Walking.{FirstFit, NoFit}
use Rattle.hex_pick.specs.declared.walk.Step.{Step}
use Rattle.hex_pick.proofs.Moves.{Advances}

pub all_both : {A : Type 0} (f g : A → Bool) (xs : List A) → list_all (λ x. f x && g x) xs ≡ (list_all f xs && list_all g xs)
all_both f g [] = refl
all_both f g (x ∷ xs) = ap (λ (b : Bool). (f x && g x) && b) (all_both f g xs) ∙ four (f x) (g x) (list_all f xs) (list_all g xs)
  where
    four : (a b c d : Bool) → ((a && b) && (c && d)) ≡ ((a && c) && (b && d))
    four true true c d = refl
    four true false true d = refl
    four true false false d = refl
    four false b c d = refl

all_same : {A : Type 0} (f g : A → Bool) (xs : List A) → ((x : A) → f x ≡ g x) → list_all f xs ≡ list_all g xs
all_same f g [] e = refl
all_same f g (x ∷ xs) e = ap (λ (b : Bool). b && list_all f xs) (e x) ∙ ap (λ (b : Bool). g x && b) (all_same f g xs e)

swapped : (a b c : Bool) → (a && (b && c)) ≡ (b && (a && c))
swapped true true c = refl
swapped true false c = refl
swapped false true c = refl
swapped false false c = refl

regroup : (a b c d e : Bool) → ((a && (b && c)) && (d && e)) ≡ ((a && (b && (c && d))) && e)
regroup true true true d e = refl
regroup true true false d e = refl
regroup true false c d e = refl
regroup false b c d e = refl

-- the release takes itself, wants take it, the others and it take one another
asked : Problem → List Picked → Picked → Bool
asked problem pick p = wants_take problem p && (takes problem p p && (list_all (λ (by : Picked). takes problem by p) pick && list_all
    (λ (q : Picked). takes problem p q) pick))

agrees_asked : (problem : Problem) (pick : List Picked) (p : Picked) → agrees problem (with_picked pick p) ≡ (asked problem pick p && agrees problem pick)
unfolding asked
agrees_asked problem pick p =
    all_decided (λ (q : Picked). wants_take problem q && list_all (λ (by : Picked). takes problem by q) (with_picked pick p)) pick p
    ∙ ap (λ (b : Bool). (wants_take problem p && b) && list_all (λ (q : Picked). wants_take problem q && list_all (λ (by : Picked). takes problem by q)
    (with_picked pick p)) pick) (all_decided (λ (by : Picked). takes problem by p) pick p)
    ∙ ap (λ (b : Bool). (wants_take problem p && (takes problem p p && list_all (λ (by : Picked). takes problem by p) pick)) && b)
    (all_same (λ (q : Picked). wants_take problem q && list_all (λ (by : Picked). takes problem by q) (with_picked pick p))
    (λ (q : Picked). takes problem p q && (wants_take problem q && list_all (λ (by : Picked). takes problem by q) pick)) pick
    (λ q. ap (λ (b : Bool). wants_take problem q && b) (all_decided (λ (by : Picked). takes problem by q) pick p)
    ∙ swapped (wants_take problem q) (takes problem p q) (list_all (λ (by : Picked). takes problem by q) pick))
    ∙ all_both (λ (q : Picked). takes problem p q) (λ (q : Picked). wants_take problem q && list_all (λ (by : Picked). takes problem by q) pick) pick)
    ∙ regroup (wants_take problem p) (takes problem p p) (list_all (λ (by : Picked). takes problem by p) pick)
    (list_all (λ (q : Picked). takes problem p q) pick) (agrees problem pick)

-- by what stands at its place
asked_at : Problem → List Picked → List ℕ → Option Offer → Bool
asked_at problem pick name o =
    wants_take_offer problem.wants.wants name o
    && (demands_take_offer problem.wants.overridden (without_apps problem.wants.pinned (demands_of o)) name o
    && (list_all (λ (by : Picked). demands_take_offer problem.wants.overridden (demands_at problem.shelves problem.wants by) name o) pick
    && list_all (λ (q : Picked). demands_take_offer problem.wants.overridden (without_apps problem.wants.pinned (demands_of o)) q.0
    (offer_at problem.shelves q)) pick))

all_true : {A : Type 0} (f : A → Bool) (xs : List A) → ((x : A) → f x ≡ true) → list_all f xs ≡ true
all_true f [] e = refl
all_true f (x ∷ xs) e = ap (λ (b : Bool). b && list_all f xs) (e x) ∙ all_true f xs e

nothing_asked : (overridden : List (List ℕ)) (name : List ℕ) (o : Option Offer) → demands_take_offer overridden [] name o ≡ true
nothing_asked overridden name None = refl
nothing_asked overridden name (Some offer) = refl

fits_at_is : (problem : Problem) (pick : List Picked) (name : List ℕ) (o : Option Offer)
    → asked_at problem pick name o ≡ fits_at problem.shelves problem.wants pick name o
unfolding asked_at
fits_at_is problem pick name None =
    ap (λ (b : Bool). b && list_all (λ (q : Picked). demands_take_offer problem.wants.overridden [] q.0 (offer_at problem.shelves q)) pick)
    (all_true (λ (by : Picked). true) pick (λ q. refl))
    ∙ all_true (λ (q : Picked). demands_take_offer problem.wants.overridden [] q.0 (offer_at problem.shelves q)) pick
    (λ q. nothing_asked problem.wants.overridden q.0 (offer_at problem.shelves q))
fits_at_is problem pick name (Some offer) =
    ap (λ (b : Bool). wants_take_offer problem.wants.wants name (Some offer) && (demands_take_offer problem.wants.overridden
    (in_force problem.wants offer) name (Some offer) && b))
    (sym (all_both (λ (by : Picked). demands_take_offer problem.wants.overridden (demands_at problem.shelves problem.wants by) name (Some offer))
    (λ (q : Picked). demands_take_offer problem.wants.overridden (in_force problem.wants offer) q.0 (offer_at problem.shelves q)) pick))

pub fits_agrees : (problem : Problem) (pick : List Picked) (p : Picked) → agrees problem (with_picked pick p) ≡
    (fits problem.shelves problem.wants pick p && agrees problem pick)
unfolding asked asked_at
fits_agrees problem pick p = agrees_asked problem pick p ∙ ap (λ (b : Bool). b && agrees problem pick)
    (fits_at_is problem pick p.0 (offer_at problem.shelves p))

and_true : (a b : Bool) → b ≡ true → (a && b) ≡ a
and_true true b e = e
and_true false b e = refl

fits_is : (problem : Problem) (pick : List Picked) (p : Picked) → agrees problem pick ≡ true
    → agrees problem (with_picked pick p) ≡ fits problem.shelves problem.wants pick p
fits_is problem pick p e = fits_agrees problem pick p ∙ and_true (fits problem.shelves problem.wants pick p) (agrees problem pick) e

-- the candidates from one place on are one and those from the next place on
dropped_at : (cs : List ℕ) (k : ℕ) → k < length cs → drop k cs ≡ slice_index cs k ∷ drop (suc k) cs
dropped_at cs k l = drop-cons cs k 0 l

skip_one : (problem : Problem) (pick : List Picked) (name cs : List ℕ) (k : ℕ) → agrees problem pick ≡ true → k < length cs
    → IsFalse (fits problem.shelves problem.wants pick (name, slice_index cs k)) → decided_by problem pick name (drop k cs) ≡ decided_by problem pick name
    (drop (suc k) cs)
skip_one problem pick name cs k agreed l unfit =
    ap (decided_by problem pick name) (dropped_at cs k l)
    ∙ ap (λ (b : Bool). cond b (with_picked pick (name, slice_index cs k) ∷ decided_by problem pick name (drop (suc k) cs))
    (decided_by problem pick name (drop (suc k) cs))) (fits_is problem pick (name, slice_index cs k) agreed ∙ unfit)

skip_all : (problem : Problem) (pick : List Picked) (name cs : List ℕ) (d from to : ℕ) → agrees problem pick ≡ true → from + d ≡ to → to ≤ length cs
    → ((k : ℕ) → from ≤ k → k < to → IsFalse (fits problem.shelves problem.wants pick (name, slice_index cs k)))
    → decided_by problem pick name (drop from cs) ≡ decided_by problem pick name (drop to cs)
skip_all problem pick name cs zero from to agreed e l unfit = let same : from ≡ to = omega (arith, e) in ap
    (λ (n : ℕ). decided_by problem pick name (drop n cs)) same
skip_all problem pick name cs (suc d) from to agreed e l unfit =
    skip_one problem pick name cs from agreed (omega (arith, e, l)) (unfit from (omega arith) (omega (arith, e)))
    ∙ skip_all problem pick name cs d (suc from) to agreed (omega (arith, e)) l (λ k low high. unfit k (omega (arith, low)) high)

apart_by : (from to : ℕ) → from ≤ to → (d : ℕ) × (from + d ≡ to)
apart_by zero to h = (to, omega arith)
apart_by (suc from) zero h = absurd (omega (arith, h))
apart_by (suc from) (suc to) h = let k = apart_by from to (omega (arith, h)) in (k.0, (let e = k.1 in omega (arith, e)))

-- the same by a list of candidates
record AdvancesIn (problem : Problem) (pick : List Picked) (name cs : List ℕ) (from : ℕ) (step : ℕ × ℕ) : Type 0 where
  is : slice_get cs step.0 ≡ Some step.1
  agreed : agrees problem (with_picked pick (name, step.1)) ≡ true
  left_is : decided_by problem pick name (drop from cs) ≡ with_picked pick (name, step.1) ∷ decided_by problem pick name (drop (suc step.0) cs)

pub advances : (problem : Problem) (pick : List Picked) (step : Step) (at : ℕ) → agrees problem pick ≡ true
    → step.candidates.items ≡ problem.candidates step.name → FirstFit problem.shelves problem.wants pick step at
    → Advances problem pick step.name step.next (at, slice_index step.candidates.items at)
advances problem pick step at agreed tried f =
    let cs = step.candidates.items in
    let apart = apart_by step.next at f.from in
    let within = f.within in
    let taken : agrees problem (with_picked pick (step.name, slice_index step.candidates.items at)) ≡ true = fits_is problem pick
    (step.name, slice_index step.candidates.items at) agreed ∙ f.fit in
    let k = subst (λ (xs : List ℕ). AdvancesIn problem pick step.name xs step.next (at, slice_index step.candidates.items at)) tried
    (record {
      is = slice_get-get_or step.candidates.items at 0 f.within;
      agreed = taken;
      left_is = skip_all problem pick step.name step.candidates.items apart.0 step.next at agreed apart.1 (omega (arith, within)) f.before
          ∙ ap (decided_by problem pick step.name) (dropped_at step.candidates.items at f.within)
          ∙ ap (λ (b : Bool). cond b (with_picked pick (step.name, slice_index step.candidates.items at) ∷ decided_by problem pick step.name
          (drop (suc at) step.candidates.items)) (decided_by problem pick step.name (drop (suc at) step.candidates.items))) taken;
    }) in
    record { is = k.is; agreed = k.agreed; left_is = k.left_is }

pub no_more : (problem : Problem) (pick : List Picked) (step : Step) → agrees problem pick ≡ true → step.candidates.items ≡ problem.candidates step.name
    → NoFit problem.shelves problem.wants pick step → decided_by problem pick step.name (drop step.next (problem.candidates step.name)) ≡ []
no_more problem pick step agreed tried f =
    subst (λ (xs : List ℕ). decided_by problem pick step.name (drop step.next xs) ≡ []) tried (at (cases_lt step.next (length step.candidates.items)))
  where
    at : (step.next < length step.candidates.items) ⊎ (length step.candidates.items ≤ step.next)
        → decided_by problem pick step.name (drop step.next step.candidates.items) ≡ []
    at (inl less) =
        let apart = apart_by step.next (length step.candidates.items) (omega (arith, less)) in
        skip_all problem pick step.name step.candidates.items apart.0 step.next (length step.candidates.items) agreed apart.1 (omega arith) f
        ∙ ap (decided_by problem pick step.name) (drop_all (length step.candidates.items) step.candidates.items (omega arith))
    at (inr past) = ap (decided_by problem pick step.name) (drop_all step.next step.candidates.items past)

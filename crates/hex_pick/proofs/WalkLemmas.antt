-- What the moves of a walk leave.
use Rattle.std.proofs.Common.{◌≡◌, ℕ, suc, ◌+◌, ◌<◌, ◌≤◌, ◌^◌, Bool, true, false, cond, List, [], ◌∷◌, ◌++◌, map, reverse, drop, length, slice_index, Option, Some, None, unwrap_or, IfSome, IfNone, IsTrue, refl, sym, ap, subst, ◌∙◌, arith, length-append}
use Rattle.std.specs.List.{All, Contains}
use Rattle.std.proofs.lemmas.List.{get_or_append_left, reverse-append}
use Rattle.std.proofs.lemmas.List.Elements.{All-contains, All-push, Contains-push}
use Rattle.hex_registry.specs.Picks.{Picked, has_package, with_picked, without_package}
use Rattle.hex_registry.specs.declared.shelf.Shelf.{Shelf}
use Rattle.hex_registry.specs.declared.wants.Wants.{Wants}
use Rattle.hex_registry.proofs.Lists.{contains_none}
use Rattle.hex_registry.proofs.PickLists.{undone}
use Rattle.hex_pick.specs.declared.walk.Step.{Step}
use Rattle.hex_pick.specs.declared.walk.Walk.{Walk}
use Rattle.hex_pick.specs.Outcome.{ComesWithin, HasNoPick, IsOutcome, PassesLimit}
use Rattle.hex_pick.specs.Problem.{IsProblem, Problem, agrees, next_needed}
use Rattle.hex_pick.specs.Standing.{Frame, Position, Stacked, StandsAt, decided_from}
use Rattle.hex_pick.specs.Tree.{IsBest}
use Rattle.hex_pick.specs.Walking.{AreSteps, FirstFit, HasCome, NoFit, StandsBy, adding, frame_of, position_of, stepped}
use Rattle.hex_pick.proofs.Ends.{comes_within, has_none, is_best, passes}
use Rattle.hex_pick.proofs.FitLemmas.{advances, no_more}
use Rattle.hex_pick.proofs.Moves.{Below, begins_at, goes_back, goes_down, take_off}
use Rattle.hex_pick.proofs.Needed.{next_open}
use Rattle.hex_pick.proofs.Standing.{stacked_way}
use Rattle.hex_pick.proofs.Ways.{begins, way_on}

-- the picks of a walk agree
stands_agreed : (problem : Problem) (p : Position) → StandsAt problem p → agrees problem p.pick ≡ true
stands_agreed problem p s = let on = way_on [] p.pick (begins problem) (stacked_way p.pick p.frames s.later s.stacked) in on.agreed

abbrev frame_at : List ℕ → ℕ → Frame
frame_at name next = record { name = name; next = next }

frames_more : (steps : List Step) (step : Step) → map frame_of (reverse (steps ++ step ∷ [])) ≡ frame_of step ∷ map frame_of (reverse steps)
frames_more steps step = ap (map frame_of) (reverse-append steps (step ∷ []))

added : (pick : List Picked) (p : Picked) → has_package pick p.0 ≡ false → adding pick p ≡ with_picked pick p
added pick p h = ap (λ (b : Bool). cond b pick (with_picked pick p)) h

same_position : (pick pick' : List Picked) (frames frames' : List Frame) (from count count' : ℕ) (dead dead' : Option (List ℕ)) → pick ≡ pick'
    → frames ≡ frames' → count ≡ count' → dead ≡ dead'
    → ◌≡◌ {A = Position} (record { pick = pick; frames = frames; from = from; count = count; dead = dead })
    (record { pick = pick'; frames = frames'; from = from; count = count'; dead = dead' })
same_position pick pick' frames frames' from count count' dead dead' a b c d =
    ap (λ (x : List Picked). record { pick = x; frames = frames; from = from; count = count; dead = dead }) a
    ∙ ap (λ (x : List Frame). record { pick = pick'; frames = x; from = from; count = count; dead = dead }) b
    ∙ ap (λ (x : ℕ). record { pick = pick'; frames = frames'; from = from; count = x; dead = dead }) c
    ∙ ap (λ (x : Option (List ℕ)). record { pick = pick'; frames = frames'; from = from; count = count'; dead = x }) d

-- a decision
pub has_decided : (problem : Problem) (old new : Walk) (step : Step) (at : ℕ) → StandsBy problem old step
    → FirstFit problem.shelves problem.wants old.pick step at → new.pick ≡ adding old.pick (step.name, slice_index step.candidates.items at)
    → new.steps.items ≡ old.steps.items ++ stepped step at ∷ [] → new.count ≡ old.count + 1 → new.dead ≡ old.dead → HasCome problem new
has_decided problem old new step at s fit pick_is steps_are count_is dead_is =
    let open_yet = next_open problem old.pick step.name s.next in
    let agreed = stands_agreed problem (position_of old step.next) s.stands in
    let go = advances problem old.pick step at agreed s.tried fit in
    let down = goes_down problem (position_of old step.next) step.name at (slice_index step.candidates.items at) s.stands s.next go in
    let next : at + 1 ≡ suc at = omega arith in
    let frames : map frame_of (reverse new.steps.items) ≡ record { name = step.name; next = suc at } ∷ map frame_of (reverse old.steps.items) =
    ap (λ (ss : List Step). map frame_of (reverse ss)) steps_are ∙ frames_more old.steps.items (stepped step at)
    ∙ ap (λ (n : ℕ). frame_at step.name n ∷ map frame_of (reverse old.steps.items)) next in
    let pick : new.pick ≡ with_picked old.pick (step.name, slice_index step.candidates.items at) = pick_is
    ∙ added old.pick (step.name, slice_index step.candidates.items at) open_yet.undecided in
    record {
      stands = subst (λ (p : Position). StandsAt problem p) (sym (same_position new.pick (with_picked old.pick
          (step.name, slice_index step.candidates.items at)) (map frame_of (reverse new.steps.items))
          (record { name = step.name; next = suc at } ∷ map frame_of (reverse old.steps.items)) 0 new.count
          (old.count + 1) new.dead old.dead pick frames count_is dead_is)) down;
      steps = subst (λ (ss : List Step). AreSteps problem.candidates ss) (sym steps_are) (All-push
          (λ (x : Step). x.candidates.items ≡ problem.candidates x.name) old.steps.items (stepped step at) s.steps s.tried);
    }

all_front : (candidates : List ℕ → List ℕ) (steps : List Step) (last : Step) → AreSteps candidates (steps ++ last ∷ [])
    → AreSteps candidates steps × (last.candidates.items ≡ candidates last.name)
all_front candidates steps last all = (
  (λ k d below. subst (λ (x : Step). x.candidates.items ≡ candidates x.name) (get_or_append_left steps (last ∷ []) d k below)
      (all k d (let e = length-append steps (last ∷ []) in omega (arith, e, below)))),
  All-contains (λ (x : Step). x.candidates.items ≡ candidates x.name) (steps ++ last ∷ []) last all (Contains-push steps last),
)

dead_found : (dead : Option (List ℕ)) (name : List ℕ) → IfSome dead (λ d. unwrap_or dead name ≡ d)
dead_found None name = tt
dead_found (Some d) name = refl

dead_new : (dead : Option (List ℕ)) (name : List ℕ) → IfNone dead (unwrap_or dead name ≡ name)
dead_new None name = refl
dead_new (Some d) name = tt

-- back over the last decision
pub has_gone_back : (problem : Problem) (old new : Walk) (step last : Step) → StandsBy problem old step → NoFit problem.shelves problem.wants old.pick step
    → old.steps.items ≡ new.steps.items ++ last ∷ [] → new.pick ≡ without_package old.pick last.name → new.count ≡ old.count
    → new.dead ≡ Some (unwrap_or old.dead step.name) → StandsBy problem new last
has_gone_back problem old new step last s unfit steps_are pick_is count_is dead_is =
    let agreed = stands_agreed problem (position_of old step.next) s.stands in
    let none_left = no_more problem old.pick step agreed s.tried unfit in
    let frames : map frame_of (reverse old.steps.items) ≡ frame_of last ∷ map frame_of (reverse new.steps.items) = ap
    (λ (ss : List Step). map frame_of (reverse ss)) steps_are ∙ frames_more new.steps.items last in
    let k = take_off old.pick (frame_of last) (map frame_of (reverse new.steps.items)) s.stands.later
    (subst (λ (fs : List Frame). Stacked problem old.pick fs s.stands.later) frames s.stands.stacked) in
    let open_yet = next_open problem k.below last.name k.is in
    let back : new.pick ≡ k.below = pick_is ∙ ap (λ (ps : List Picked). without_package ps last.name) k.was
    ∙ undone k.below (last.name, k.place) open_yet.undecided in
    let stood = goes_back problem (position_of old step.next) (frame_of last) (map frame_of (reverse new.steps.items)) step.name
    (unwrap_or old.dead step.name) s.stands s.next none_left frames k (dead_found old.dead step.name) (dead_new old.dead step.name) in
    let front = all_front problem.candidates new.steps.items last (subst (λ (ss : List Step). AreSteps problem.candidates ss) steps_are s.steps) in
    record {
      stands = subst (λ (p : Position). StandsAt problem p) (sym (same_position new.pick k.below (map frame_of (reverse new.steps.items))
          (map frame_of (reverse new.steps.items)) last.next new.count old.count new.dead (Some
          (unwrap_or old.dead step.name)) back refl count_is dead_is)) stood;
      next = ap (next_needed problem) back ∙ k.is;
      tried = front.1;
      steps = front.0;
    }

-- at the end of the tree
pub has_ended : (problem : Problem) (old : Walk) (step : Step) (limit : ℕ) → IsProblem problem → StandsBy problem old step
    → NoFit problem.shelves problem.wants old.pick step → old.steps.items ≡ [] → old.count ≤ limit → HasNoPick problem limit (unwrap_or old.dead step.name)
has_ended problem old step limit tried s unfit none_left few =
    let agreed = stands_agreed problem (position_of old step.next) s.stands in
    has_none problem (position_of old step.next) limit step.name (unwrap_or old.dead step.name) tried s.stands s.next
    (no_more problem old.pick step agreed s.tried unfit) (ap (λ (ss : List Step). map frame_of (reverse ss)) none_left) few
    (dead_found old.dead step.name) (dead_new old.dead step.name)

-- at the beginning
pub has_begun : (problem : Problem) (walk : Walk) → walk.pick ≡ [] → walk.steps.items ≡ [] → walk.count ≡ 0 → walk.dead ≡ None → HasCome problem walk
has_begun problem walk pick_is steps_are count_is dead_is =
    record {
      stands = subst (λ (p : Position). StandsAt problem p) (sym (same_position walk.pick []
          (map frame_of (reverse walk.steps.items)) [] 0 walk.count 0 walk.dead None pick_is
          (ap (λ (ss : List Step). map frame_of (reverse ss)) steps_are) count_is dead_is)) (begins_at problem);
      steps = subst (λ (ss : List Step). AreSteps problem.candidates ss) (sym steps_are) (λ k d below. absurd (omega (arith, below)));
    }

-- what a walk that has come to a node knows there
pub is_picked : (problem : Problem) (walk : Walk) (limit : ℕ) → IsProblem problem → HasCome problem walk → next_needed problem walk.pick ≡ None
    → walk.count ≤ limit + 1 → IsBest problem walk.pick × ComesWithin problem limit walk.pick
is_picked problem walk limit tried h none_left few = (
  is_best problem (position_of walk 0) tried h.stands none_left,
  comes_within problem
      (position_of walk 0) limit h.stands none_left few,
)

pub is_past : (problem : Problem) (walk : Walk) (limit : ℕ) (name : List ℕ) → HasCome problem walk → next_needed problem walk.pick ≡ Some name
    → limit < walk.count → PassesLimit problem limit
is_past problem walk limit name h next many = passes problem (position_of walk 0) limit name h.stands next many

pub stands_by : (problem : Problem) (walk : Walk) (step : Step) → HasCome problem walk → next_needed problem walk.pick ≡ Some step.name → step.next ≡ 0
    → step.candidates.items ≡ problem.candidates step.name → StandsBy problem walk step
stands_by problem walk step h next first tried =
    record { stands = subst (λ (n : ℕ). StandsAt problem (position_of walk n)) (sym first) h.stands; next = next; tried = tried; steps = h.steps }

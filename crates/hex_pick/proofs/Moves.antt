-- What each move of the search does.
use Rattle.std.proofs.Common.{◌≡◌, ℕ, zero, suc, ◌+◌, ◌<◌, ◌≤◌, List, [], ◌∷◌, ◌++◌, length, drop, Option, Some, None, slice_get, ◌⊎◌, inl, inr, refl, sym, ap, subst, ◌∙◌, arith, append_assoc, append-nil, IfSome, IfNone, true}
use Rattle.std.specs.List.{Contains}
use Rattle.std.proofs.lemmas.List.{length_push}
use Rattle.std.proofs.lemmas.List.Elements.{Contains-append_cases, Contains-push_cases}
use Rattle.hex_registry.specs.Picks.{Picked, with_picked}
use Rattle.hex_pick.specs.Problem.{AreTried, Problem, agrees, children, children_at, next_needed}
use Rattle.hex_pick.specs.Tree.{AreNodes, IsBest, IsPreferred, IsValidFor}
use Rattle.hex_pick.specs.Tree.AreNodes.{none, next}
use Rattle.hex_pick.specs.Outcome.{AreAllNodes, ComesWithin, HasNoPick, IsDeadEnd, IsFirstDeadEnd, PassesLimit}
use Rattle.hex_registry.proofs.Lists.{here, there, contains_none}
use Rattle.hex_pick.proofs.Nodes.{all_nodes, in_led, led_in, split}
use Rattle.hex_pick.proofs.Ways.{ends_valid, leads_to_valid, valid_complete}
use Rattle.hex_pick.specs.Standing.{FirstDeadEnd, Frame, Phase, Position, Stacked, StandsAt, decided_from, left, left_at}
use Rattle.hex_pick.proofs.Standing.{later_parts, parts_preferred, stacked_way}
use Rattle.hex_pick.specs.Standing.Stacked.{start, on}
use Rattle.hex_pick.specs.Standing.Phase.{fresh, again}

pub left_some : (problem : Problem) (pick : List Picked) (from : ℕ) (name : List ℕ) → next_needed problem pick ≡ Some name
    → left problem pick from ≡ decided_from problem pick name from
left_some problem pick from name h = ap (left_at problem pick from) h

pub left_none : (problem : Problem) (pick : List Picked) (from : ℕ) → next_needed problem pick ≡ None → left problem pick from ≡ []
left_none problem pick from h = ap (left_at problem pick from) h

whole_at : (problem : Problem) (pick : List Picked) (o : Option (List ℕ)) → left_at problem pick 0 o ≡ children_at problem pick o
whole_at problem pick None = refl
whole_at problem pick (Some name) = refl

-- from the first place on all children are left
left_whole : (problem : Problem) (pick : List Picked) → left problem pick 0 ≡ children problem pick
left_whole problem pick = whole_at problem pick (next_needed problem pick)

abbrev pub at_start : Position
at_start = record { pick = []; frames = []; from = 0; count = 0; dead = None }

pub begins_at : (problem : Problem) → StandsAt problem at_start
begins_at problem =
    record {
      later = [];
      seen = [];
      earlier = [];
      stacked = start;
      nodes = λ rest h. subst (λ (roots : List (List Picked)). AreNodes problem roots rest) (append-nil (left problem [] 0) ∙ left_whole problem []) h;
      counted = refl;
      phase = fresh refl;
      unfinished = λ node c. absurd (contains_none node c);
      dead_end = λ other at c d. contains_none other c;
    }

-- each that was seen has something to decide, where the picks have
pub all_unfinished : (problem : Problem) (pick : List Picked) (seen earlier : List (List Picked)) (from : ℕ) (name : List ℕ) (dead : Option (List ℕ))
    → Phase problem pick seen earlier from dead → next_needed problem pick ≡ Some name → ((node : List Picked) → Contains earlier node
    → (n : List ℕ) × (next_needed problem node ≡ Some n)) → (node : List Picked) → Contains seen node → (n : List ℕ) × (next_needed problem node ≡ Some n)
all_unfinished problem pick seen _ _ name _ (fresh {earlier = earlier} e) is f node c =
    elim (Contains-push_cases earlier pick node (subst (λ (ns : List (List Picked)). Contains ns node) e c)) [
      | inl h ↦ f node h
      | inr same ↦ (name, subst (λ (n : List Picked). next_needed problem n ≡ Some name) same is)
    ]
all_unfinished problem pick seen _ _ name _ (again other h) is f node c = f node c

more_dead : (problem : Problem) (earlier : List (List Picked)) (pick : List Picked) (first : List ℕ) → IsFirstDeadEnd problem earlier first
    → IsFirstDeadEnd problem (earlier ++ pick ∷ []) first
more_dead problem earlier pick first k =
    record {
      before = k.before;
      node = k.node;
      after = k.after ++ pick ∷ [];
      is = ap (λ ns. ns ++ pick ∷ []) k.is
          ∙ append_assoc k.before (k.node ∷ k.after) (pick ∷ []);
      dead = k.dead;
      first = k.first;
    }

-- where the picks have a child, they are no dead end
dead_at_push : (problem : Problem) (pick child : List Picked) (more seen earlier : List (List Picked)) (from : ℕ) (name : List ℕ) (dead : Option (List ℕ))
    → Phase problem pick seen earlier from dead → next_needed problem pick ≡ Some name → decided_from problem pick name from ≡ child ∷ more
    → FirstDeadEnd problem earlier dead → FirstDeadEnd problem seen dead
dead_at_push problem pick child more seen _ _ name _ (fresh {earlier = earlier} {dead = None} e) is has f =
    λ other at c d. elim (Contains-push_cases earlier pick other (subst (λ (ns : List (List Picked)). Contains ns other) e c)) [
      | inl h ↦ f other at h d
      | inr same ↦ (let childless : children problem pick ≡ [] = subst (λ (n : List Picked). children problem n ≡ []) (sym same) d.childless in
          let clash : child ∷ more ≡ [] = sym (sym (left_whole problem pick) ∙ left_some problem pick 0 name is ∙ has) ∙ childless in
          cc)
    ]
dead_at_push problem pick child more seen _ _ name _ (fresh {earlier = earlier} {dead = Some first} e) is has f =
    subst (λ (ns : List (List Picked)). IsFirstDeadEnd problem ns first) (sym e) (more_dead problem earlier pick first f)
dead_at_push problem pick child more seen _ _ name _ (again other h) is has f = f

-- where they have none, they are one
pub dead_at_pop : (problem : Problem) (pick : List Picked) (seen earlier : List (List Picked)) (from : ℕ) (name first : List ℕ) (dead : Option (List ℕ))
    → Phase problem pick seen earlier from dead → next_needed problem pick ≡ Some name → decided_from problem pick name from ≡ []
    → IfSome dead (λ d. first ≡ d) → IfNone dead (first ≡ name) → FirstDeadEnd problem earlier dead → IsFirstDeadEnd problem seen first
dead_at_pop problem pick seen _ _ name first _ (fresh {earlier = earlier} {dead = None} e) is has found new f =
    record {
      before = earlier;
      node = pick;
      after = [];
      is = e;
      dead = record { next = is ∙ ap Some (sym new); childless = sym (left_whole problem pick) ∙ left_some problem pick 0 name is ∙ has };
      first = f;
    }
dead_at_pop problem pick seen _ _ name first _ (fresh {earlier = earlier} {dead = Some other} e) is has found new f =
    subst (λ (ns : List (List Picked)). IsFirstDeadEnd problem ns first) (sym e) (more_dead problem earlier pick first
    (subst (λ (a : List ℕ). IsFirstDeadEnd problem earlier a) (sym found) f))
dead_at_pop problem pick seen _ _ name first _ (again {first = other} at h) is has found new f =
    subst (λ (a : List ℕ). IsFirstDeadEnd problem seen a) (sym found) f

-- the first of the decisions from a place on that breaks nothing
pub record Advances (problem : Problem) (pick : List Picked) (name : List ℕ) (from : ℕ) (step : ℕ × ℕ) : Type 0 where
  pub is : slice_get (problem.candidates name) step.0 ≡ Some step.1
  pub agreed : agrees problem (with_picked pick (name, step.1)) ≡ true
  pub left_is : decided_from problem pick name from ≡ with_picked pick (name, step.1) ∷ decided_from problem pick name (suc step.0)

-- to a child
pub goes_down : (problem : Problem) (p : Position) (name : List ℕ) (at place : ℕ) → StandsAt problem p → next_needed problem p.pick ≡ Some name
    → Advances problem p.pick name p.from (at, place) → StandsAt problem (record {
      pick = with_picked p.pick
          (name, place);
      frames = record { name = name; next = suc at } ∷ p.frames;
      from = 0;
      count = p.count + 1;
      dead = p.dead;
    })
goes_down problem p name at place s is a =
    let rest = decided_from problem p.pick name (suc at) in
    let child = with_picked p.pick (name, place) in
    let whole : left problem p.pick p.from ≡ child ∷ rest = left_some problem p.pick p.from name is ∙ a.left_is in
    record {
      later = rest ++ s.later;
      seen = s.seen ++ child ∷ [];
      earlier = [] ∷ s.seen;
      stacked = on name at place is a.is a.agreed s.stacked;
      nodes = λ nodes h.
          (let k = split (children problem child) (rest ++ s.later) nodes (subst (λ (cs : List (List Picked)). AreNodes problem
          (cs ++ (rest ++ s.later)) nodes) (left_whole problem child) h) in
          let all = s.nodes (child ∷ nodes) (subst (λ (cs : List (List Picked)). AreNodes problem (cs ++ s.later) (child ∷ nodes)) (sym whole)
          (subst (λ (ns : List (List Picked)). AreNodes problem (child ∷ (rest ++ s.later)) (child ∷ ns)) (sym k.is) (next k.first k.second))) in
          subst (λ (ns : List (List Picked)). AreAllNodes problem ns) (sym (append_assoc s.seen (child ∷ []) nodes)) all);
      counted = length_push s.seen child ∙ ap (λ n. n + 1) s.counted;
      phase = fresh refl;
      unfinished = all_unfinished problem p.pick ([] ∷ s.seen) s.earlier p.from name p.dead s.phase is s.unfinished;
      dead_end = dead_at_push problem p.pick child rest ([] ∷ s.seen) s.earlier p.from name p.dead s.phase is a.left_is s.dead_end;
    }

-- picks with a last decision, and without it
pub record Below (problem : Problem) (pick : List Picked) (frame : Frame) (frames : List Frame) (later : List (List Picked)) : Type 0 where
  pub below : List Picked
  pub place : ℕ
  pub beside : List (List Picked)
  pub is : next_needed problem below ≡ Some frame.name
  pub was : pick ≡ with_picked below (frame.name, place)
  pub later_is : later ≡ decided_from problem below frame.name frame.next ++ beside
  pub stacked : Stacked problem below frames beside

pub take_off : {problem : Problem} (pick : List Picked) (frame : Frame) (frames : List Frame) (later : List (List Picked))
    → Stacked problem pick (frame ∷ frames) later → Below problem pick frame frames later
take_off {problem} _ _ _ _ (on {pick = pick} {frames = frames} {later = later} name at place needed is agreed rest) =
    record { below = pick; place = place; beside = later; is = needed; was = refl; later_is = refl; stacked = rest }

-- back to the picks before the last decision
pub goes_back : (problem : Problem) (p : Position) (frame : Frame) (frames : List Frame) (name first : List ℕ) → (s : StandsAt problem p)
    → next_needed problem p.pick ≡ Some name → decided_from problem p.pick name p.from ≡ [] → p.frames ≡ frame ∷ frames
    → (k : Below problem p.pick frame frames s.later) → IfSome p.dead (λ d. first ≡ d) → IfNone p.dead (first ≡ name)
    → StandsAt problem (record { pick = k.below; frames = frames; from = frame.next; count = p.count; dead = Some first })
goes_back problem p frame frames name first s is has split_is k found new =
    let empty : left problem p.pick p.from ≡ [] = left_some problem p.pick p.from name is ∙ has in
    record {
      later = k.beside;
      seen = s.seen;
      earlier = [] ∷ s.seen;
      stacked = k.stacked;
      nodes = λ rest h. s.nodes rest (subst (λ (cs : List (List Picked)). AreNodes problem (cs ++ s.later) rest) (sym empty)
          (subst (λ (cs : List (List Picked)). AreNodes problem cs rest) (ap (λ (cs : List (List Picked)). cs ++ k.beside)
          (left_some problem k.below frame.next frame.name k.is) ∙ sym k.later_is) h));
      counted = s.counted;
      phase = again frame.name k.is;
      unfinished = all_unfinished problem p.pick ([] ∷ s.seen) s.earlier p.from name p.dead s.phase is s.unfinished;
      dead_end = dead_at_pop problem p.pick ([] ∷ s.seen) s.earlier p.from name first p.dead s.phase is has found new s.dead_end;
    }

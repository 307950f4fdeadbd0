-- The set that is reached from some places, as a list of them.
use Rattle.std.proofs.Common.{◌≡◌, ℕ, ◌<◌, ◌≤◌, Bool, true, false, not, eqb, List, [], ◌∷◌, ◌++◌, zero, suc, flat_map, sym, ◌∙◌, refl, inl, inr, arith, eq-eqb, eqb-true, Option, Some, None, find, count_by, IsTrue, All}
use Rattle.std.proofs.lemmas.List.{get_or_default}
use Rattle.std.proofs.lemmas.List.Folds.{list_any-append}
use Rattle.std.proofs.lemmas.Bool.{both_ways, or_cases, or_left, or_right, not-true, not-false}
use Rattle.dep_order.specs.Graph.{needs_of}
use Rattle.dep_order.specs.Listing.{is_listed}
use Rattle.dep_order.specs.Reach.{IsReachedFrom, Reaches, Direct, Further, IsClosedFrom}
use Rattle.dep_order.proofs.Listed.{stands_at, listed_push_kept, listed_push_cases, listed_at, Contains-from_listed}
use Rattle.dep_order.proofs.Counts.{count_less, times_from_listed}
use Rattle.dep_order.proofs.Finds.{Found, found, none_found}

-- ---- the needs of several places

pub record NeedsIt (graph : List (List ℕ)) (places : List ℕ) (need : ℕ) : Type 0 where
  pub place : ℕ
  pub among : is_listed places place ≡ true
  pub needs : is_listed (needs_of graph place) need ≡ true

who_needs : (graph : List (List ℕ)) (places : List ℕ) (need : ℕ) → is_listed (flat_map (needs_of graph) places) need ≡ true → NeedsIt graph places need
who_needs graph [] need h = absurd (both_ways (is_listed [] need) refl h)
who_needs graph (p ∷ ps) need h =
    elim (or_cases (is_listed (needs_of graph p) need) (is_listed (flat_map (needs_of graph) ps) need) (sym (list_any-append (eqb need) (needs_of graph p) (flat_map (needs_of graph) ps)) ∙ h)) [
      | inl here ↦ record { place = p; among = or_left (eqb p p) _ (eq-eqb p p refl); needs = here }
      | inr later ↦
          let w = who_needs graph ps need later in
          record { place = w.place; among = or_right (eqb w.place p) _ w.among; needs = w.needs }
    ]

is_needed : (graph : List (List ℕ)) (places : List ℕ) (place need : ℕ) → is_listed places place ≡ true → is_listed (needs_of graph place) need ≡ true → is_listed (flat_map (needs_of graph) places) need ≡ true
is_needed graph [] place need among needs = among
is_needed graph (p ∷ ps) place need among needs =
    list_any-append (eqb need) (needs_of graph p) (flat_map (needs_of graph) ps)
    ∙ elim (or_cases (eqb place p) (is_listed ps place) among) [
      | inl same ↦ or_left _ _ (rw (eqb-true place p same) at needs)
      | inr later ↦ or_right (is_listed (needs_of graph p) need) _ (is_needed graph ps place need later needs)
    ]

-- all that is named as a need
all_needs : List (List ℕ) → List ℕ
all_needs [] = []
all_needs (row ∷ rows) = row ++ all_needs rows

is_among_all : (graph : List (List ℕ)) (place need : ℕ) → is_listed (needs_of graph place) need ≡ true → is_listed (all_needs graph) need ≡ true
unfolding all_needs
is_among_all [] place need h = h
is_among_all (row ∷ rows) zero need h = list_any-append (eqb need) row (all_needs rows) ∙ or_left _ _ h
is_among_all (row ∷ rows) (suc place) need h = list_any-append (eqb need) row (all_needs rows) ∙ or_right (is_listed row need) _ (is_among_all rows place need h)

-- ---- more and more of what is reached

none_fails : (p : ℕ → Bool) (xs : List ℕ) → find p xs ≡ None → (x : ℕ) → is_listed xs x ≡ true → p x ≡ false
none_fails p xs none x listed =
    let s = stands_at xs x listed in
    rw s.is at (none_found p xs none s.at s.before)

module _ (graph : List (List ℕ)) (starts : List ℕ) where
  -- a list that is closed, and has nothing that isn't reached
  pub record IsReach (set : List ℕ) : Type 0 where
    pub sound : (q : ℕ) → is_listed set q ≡ true → IsReachedFrom graph starts q
    pub direct : (q : ℕ) → is_listed starts q ≡ true → is_listed set q ≡ true
    pub further : (through : ℕ) → is_listed set through ≡ true → All (λ need. IsTrue (is_listed set need)) (needs_of graph through)

  record IsPart (set : List ℕ) : Type 0 where
    sound : (q : ℕ) → is_listed set q ≡ true → IsReachedFrom graph starts q
    direct : (q : ℕ) → is_listed starts q ≡ true → is_listed set q ≡ true

  abbrev lacks : List ℕ → ℕ → Bool
  lacks set need = not (is_listed set need)

  abbrev lack_count : List ℕ → ℕ
  lack_count set = count_by (lacks set) (all_needs graph)

  one_more : (set : List ℕ) → IsPart set → (need : ℕ) → Found (lacks set) (flat_map (needs_of graph) set) need → IsPart (set ++ need ∷ [])
  one_more set part need f =
      let w = who_needs graph set need f.listed in
      record {
        sound = λ q listed. elim (listed_push_cases set need q listed) [
          | inl was ↦ part.sound q was
          | inr same ↦ rw same (Further w.place need (part.sound w.place w.among) (Contains-from_listed (needs_of graph w.place) need w.needs))
        ];
        direct = λ q needed. listed_push_kept set need q (part.direct q needed);
      }

  one_lack_less : (set : List ℕ) (need : ℕ) → Found (lacks set) (flat_map (needs_of graph) set) need → lack_count (set ++ need ∷ []) < lack_count set
  one_lack_less set need f =
      let w = who_needs graph set need f.listed in
      omega (arith, count_less set need (not-true _ f.passes) (all_needs graph), times_from_listed need (all_needs graph) (is_among_all graph w.place need w.needs))

  is_all : (set : List ℕ) → IsPart set → find (lacks set) (flat_map (needs_of graph) set) ≡ None → IsReach set
  is_all set part none = record {
    sound = part.sound;
    direct = part.direct;
    further = λ through listed i d within.
        rw (get_or_default (needs_of graph through) i d 0 within)
        (not-false _ (none_fails (lacks set) (flat_map (needs_of graph) set) none _ (is_needed graph set through _ listed (listed_at (needs_of graph through) i within))));
  }

  grows : (fuel : ℕ) (set : List ℕ) → IsPart set → lack_count set ≤ fuel → (o : Option ℕ) → find (lacks set) (flat_map (needs_of graph) set) ≡ o → (all : List ℕ) × IsReach all
  grows fuel set part enough None is = (set, is_all set part is)
  grows zero set part enough (Some need) is = absurd (omega (arith, enough, one_lack_less set need (found (lacks set) (flat_map (needs_of graph) set) need is)))
  grows (suc fuel) set part enough (Some need) is =
      let f = found (lacks set) (flat_map (needs_of graph) set) need is in
      grows fuel (set ++ need ∷ []) (one_more set part need f) (omega (arith, enough, one_lack_less set need f)) (find (lacks (set ++ need ∷ [])) (flat_map (needs_of graph) (set ++ need ∷ []))) refl

  pub reach_as_list : (all : List ℕ) × IsReach all
  reach_as_list =
      let start : IsPart starts = record {
        sound = λ q listed. Direct q (Contains-from_listed starts q listed);
        direct = λ q listed. listed;
      } in
      grows (lack_count starts) starts start (omega arith) (find (lacks starts) (flat_map (needs_of graph) starts)) refl

-- what is in every closed set is reached
pub reached_from_closed : (graph : List (List ℕ)) (from need : ℕ) → ((set : ℕ → Bool) → IsClosedFrom graph from set → IsTrue (set need)) → Reaches graph from need
reached_from_closed graph from need every =
    let all = reach_as_list graph (needs_of graph from) in
    let closed : IsClosedFrom graph from (is_listed all.0) = record {
      direct = λ i d within. rw (get_or_default (needs_of graph from) i d 0 within) (all.1.direct _ (listed_at (needs_of graph from) i within));
      further = all.1.further;
    } in
    all.1.sound need (every (is_listed all.0) closed)

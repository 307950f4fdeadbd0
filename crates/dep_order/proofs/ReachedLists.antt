-- What is reached, as a list in increasing order.
use Rattle.std.proofs.Common.{◌≡◌, ℕ, zero, suc, ◌<◌, Bool, true, false, inl, inr, List, [], ◌∷◌, ◌++◌, length, All, AllPairs, Contains, sym, subst, refl, arith}
use Rattle.std.proofs.lemmas.Bool.{both_ways, cases_eq}
use Rattle.std.proofs.lemmas.List.Elements.{All-push, All-weaker, All-contains, Contains-append_left, Contains-push}
use Rattle.std.proofs.lemmas.List.Quantifiers.{all_pairs_push}
use Rattle.dep_order.specs.Graph.{needs_of, NeedsAreWithin}
use Rattle.dep_order.specs.Listing.{is_listed}
use Rattle.dep_order.specs.Reach.{IsReachedFrom, Direct, Further, AreReachedFrom}
use Rattle.dep_order.proofs.Closing.{IsReach, reach_as_list}
use Rattle.dep_order.proofs.Cycles.{need_within}
use Rattle.dep_order.proofs.Listed.{listed-from_Contains}

-- the numbers below this one that pass a test, in increasing order
record AreBelow (has : ℕ → Bool) (below : ℕ) (list : List ℕ) : Type 0 where
  in_order : AllPairs (λ earlier later. earlier < later) list
  only : All (λ number. (number < below) × (has number ≡ true)) list
  all : (number : ℕ) → number < below → has number ≡ true → Contains list number

module _ (has : ℕ → Bool) where
  wider : (n : ℕ) (list : List ℕ) → All (λ number. (number < n) × (has number ≡ true)) list → All (λ number. (number < suc n) × (has number ≡ true)) list
  wider n list only = All-weaker (λ number. (number < n) × (has number ≡ true)) (λ number. (number < suc n) × (has number ≡ true)) (λ x h. (omega (arith, h.0), h.1)) list only

  with_last : (n : ℕ) (list : List ℕ) → AreBelow has n list → has n ≡ true → AreBelow has (suc n) (list ++ n ∷ [])
  with_last n list so_far here = record {
    in_order = all_pairs_push (λ earlier later. earlier < later) list n so_far.in_order (λ k d within. (so_far.only k d within).0);
    only = All-push (λ number. (number < suc n) × (has number ≡ true)) list n (wider n list so_far.only) (omega arith, here);
    all = λ number below passes. elim (cases_eq number n) [
      | inl same ↦ subst (Contains (list ++ n ∷ [])) (sym same) (Contains-push list n)
      | inr apart ↦ Contains-append_left list (n ∷ []) number (so_far.all number (omega (arith, below, apart)) passes)
    ];
  }

  without_last : (n : ℕ) (list : List ℕ) → AreBelow has n list → has n ≡ false → AreBelow has (suc n) list
  without_last n list so_far here = record {
    in_order = so_far.in_order;
    only = wider n list so_far.only;
    all = λ number below passes. elim (cases_eq number n) [
      | inl same ↦ absurd (both_ways (has n) here (subst (λ (k : ℕ). has k ≡ true) same passes))
      | inr apart ↦ so_far.all number (omega (arith, below, apart)) passes
    ];
  }

  numbers_below : (n : ℕ) → (list : List ℕ) × AreBelow has n list
  numbers_below zero = (
    [],
    record {
      in_order = λ i j d before within. absurd (omega (arith, within));
      only = λ k d within. absurd (omega (arith, within));
      all = λ number below passes. absurd (omega (arith, below));
    },
  )
  numbers_below (suc n) = at (has n) refl (numbers_below n)
    where
      at : (b : Bool) → has n ≡ b → (list : List ℕ) × AreBelow has n list → (list : List ℕ) × AreBelow has (suc n) list
      at true is so_far = (so_far.0 ++ n ∷ [], with_last n so_far.0 so_far.1 is)
      at false is so_far = (so_far.0, without_last n so_far.0 so_far.1 is)

module _ (graph : List (List ℕ)) (starts : List ℕ) (needs : NeedsAreWithin graph) (within : All (λ start. start < length graph) starts) where
  reached_within : (place : ℕ) → IsReachedFrom graph starts place → place < length graph
  reached_within place (Direct _ has) = All-contains (λ start. start < length graph) starts place within has
  reached_within place (Further through _ reached has) = need_within graph needs through place (listed-from_Contains (needs_of graph through) place has)

  reached_listed : (set : List ℕ) → IsReach graph starts set → (place : ℕ) → IsReachedFrom graph starts place → is_listed set place ≡ true
  reached_listed set is place (Direct _ has) = is.direct place (listed-from_Contains starts place has)
  reached_listed set is place (Further through _ reached has) = All-contains (λ need. is_listed set need ≡ true) (needs_of graph through) place (is.further through (reached_listed set is through reached)) has

  pub reach_exists : (places : List ℕ) × AreReachedFrom graph starts places
  reach_exists =
      let all = reach_as_list graph starts in
      let listed = numbers_below (is_listed all.0) (length graph) in (
        listed.0,
        record {
          in_order = listed.1.in_order;
          each = λ place. (
            λ has. all.1.sound place (All-contains (λ number. (number < length graph) × (is_listed all.0 number ≡ true)) listed.0 place listed.1.only has).1,
            λ reached. listed.1.all place (reached_within place reached) (reached_listed all.0 all.1 place reached),
          );
        },
      )

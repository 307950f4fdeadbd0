-- Places as an order has them.
use Rattle.std.proofs.Common.{◌≡◌, ◌↔◌, AllPairs, All, Contains, ℕ, zero, suc, ◌+◌, ◌<◌, ◌≤◌, Bool, true, false, cond, ◌||◌, inl, inr, eqb, eq-eqb, eqb-true, nat_eq, nat_lt, nat_cmp, Option, Some, None, List, [], ◌∷◌, ◌++◌, length, get_or, filter, map, set, take, sym, ◌∙◌, ap, ap₂, subst, refl, arith, IsTrue}
use Rattle.std.specs.List.{position, position_or_len}
use Rattle.std.proofs.lemmas.List.Sums.{position_or_len_is}
use Rattle.std.specs.BTreeSet.{BTreeSet, contains, Updates}
use Rattle.std.specs.Ordering.{is_eq}
use Rattle.std.proofs.lemmas.Bool.Decides.{nat_tests}
use Rattle.std.proofs.lemmas.List.{get_or-set_other, get_or-map, length-map, map-append, take_more}
use Rattle.std.proofs.lemmas.Grind.{get_or-set_at}
use Rattle.std.proofs.lemmas.List.Elements.{All-contains, Contains-get_or, filter_passes}
use Rattle.std.proofs.lemmas.Bool.{both_ways, or_left, or_right, or_cases, cases_eq, ne_eqb, lt-ltb}
use Rattle.dep_order.specs.Graph.{needs_of, NeedsAreWithin}
use Rattle.dep_order.specs.Listing.{is_listed, IsOrderOf}
use Rattle.dep_order.specs.Reach.{Reaches, Direct, Further, AreReachedFrom, IsClosureOf}
use Rattle.dep_order.specs.Search.{AreNumbers, AreRanks}
use Rattle.dep_order.proofs.Listed.{stands_at, listed_at, listed-push, listed-from_Contains, Contains-from_listed}
use Rattle.dep_order.proofs.Cycles.{need_within}
use Rattle.dep_order.proofs.Listings.{places_differ, listed_within}
use Rattle.dep_order.proofs.Reaching.{reached_listed}

abbrev AreIncreasing : List ℕ → Type 0
AreIncreasing numbers = AllPairs (λ earlier later. earlier < later) numbers

after_first : (k : ℕ) (ks : List ℕ) → AreIncreasing (k ∷ ks) → (q : ℕ) → is_listed ks q ≡ true → k < q
after_first k ks sorted q listed =
    let s = stands_at ks q listed in
    rw s.is at (sorted 0 (suc s.at) 0 (omega arith) (omega (arith, s.before)))

rest_increasing : (k : ℕ) (ks : List ℕ) → AreIncreasing (k ∷ ks) → AreIncreasing ks
rest_increasing k ks sorted i j d before within = sorted (suc i) (suc j) d (omega (arith, before)) (omega (arith, within))

in_front : (k : ℕ) (ks : List ℕ) → is_listed (k ∷ ks) k ≡ true
in_front k ks = or_left (eqb k k) (is_listed ks k) (eq-eqb k k refl)

behind : (k : ℕ) (ks : List ℕ) (q : ℕ) → is_listed ks q ≡ true → is_listed (k ∷ ks) q ≡ true
behind k ks q listed = or_right (eqb q k) (is_listed ks q) listed

module _ (p : ℕ → Bool) (f : ℕ → ℕ) where
  -- the numbers are those of the places, from this one on, at which the test passes
  pub record AreThose (at : ℕ) (xs ks : List ℕ) : Type 0 where
    pub sorted : AreIncreasing ks
    pub reads : (k i : ℕ) → k ≡ at + i → i < length xs → f k ≡ get_or xs i 0
    pub has : (k : ℕ) → is_listed ks k ≡ true → (at ≤ k) × (k < at + length xs) × (p (f k) ≡ true)
    pub back : (k : ℕ) → at ≤ k → k < at + length xs → p (f k) ≡ true → is_listed ks k ≡ true

  reads_rest : (at x : ℕ) (xs ks : List ℕ) → AreThose at (x ∷ xs) ks → (k i : ℕ) → k ≡ suc at + i → i < length xs → f k ≡ get_or xs i 0
  reads_rest at x xs ks those k i is within = those.reads k (suc i) (omega (arith, is)) (omega (arith, within))

  -- the first place doesn't pass
  those_skip : (at x : ℕ) (xs ks : List ℕ) → AreThose at (x ∷ xs) ks → p (f at) ≡ false → AreThose (suc at) xs ks
  those_skip at x xs ks those fails = record {
    sorted = those.sorted;
    reads = reads_rest at x xs ks those;
    has = λ k listed.
        let h = those.has k listed in
        let past = h.0 in
        let within = h.1 in
        elim (cases_eq k at) [
          | inl same ↦ absurd (both_ways (p (f at)) fails (rw same at h.2))
          | inr apart ↦ (omega arith, omega (arith, within), h.2)
        ];
    back = λ k past within passes. those.back k (omega (arith, past)) (omega (arith, within)) passes;
  }

  -- the first place passes, and so its number is the first
  those_first : (at x : ℕ) (xs : List ℕ) (k : ℕ) (ks : List ℕ) → AreThose at (x ∷ xs) (k ∷ ks) → p (f at) ≡ true → k ≡ at
  those_first at x xs k ks those passes =
      let h = those.has k (in_front k ks) in
      let past = h.0 in
      elim (or_cases (eqb at k) (is_listed ks at) (those.back at (omega arith) (omega arith) passes)) [
        | inl same ↦ sym (eqb-true at k same)
        | inr later ↦ let after = after_first k ks those.sorted at later in absurd (omega (arith, past, after))
      ]

  those_rest : (at x : ℕ) (xs : List ℕ) (k : ℕ) (ks : List ℕ) → AreThose at (x ∷ xs) (k ∷ ks) → k ≡ at → AreThose (suc at) xs ks
  those_rest at x xs k ks those is = record {
    sorted = rest_increasing k ks those.sorted;
    reads = reads_rest at x xs (k ∷ ks) those;
    has = λ q listed.
        let h = those.has q (behind k ks q listed) in
        let after = after_first k ks those.sorted q listed in
        let within = h.1 in
        (omega (arith, after, is), omega (arith, within), h.2);
    back = λ q past within passes.
        elim (or_cases (eqb q k) (is_listed ks q) (those.back q (omega (arith, past)) (omega (arith, within)) passes)) [
          | inl same ↦ let here : q ≡ k = eqb-true q k same in absurd (omega (arith, here, is, past))
          | inr later ↦ later
        ];
  }

  one_step : (at x : ℕ) (xs ks : List ℕ) → AreThose at (x ∷ xs) ks → ((rest : List ℕ) → AreThose (suc at) xs rest → map f rest ≡ filter p xs) → (b : Bool) → p x ≡ b → map f ks ≡ cond b (x ∷ filter p xs) (filter p xs)
  one_step at x xs ks those rest false fails = rest ks (those_skip at x xs ks those (ap p (those.reads at 0 (omega arith) (omega arith)) ∙ fails))
  one_step at x xs [] those rest true passes =
      absurd (both_ways (is_listed [] at) refl (those.back at (omega arith) (omega arith) (ap p (those.reads at 0 (omega arith) (omega arith)) ∙ passes)))
  one_step at x xs (k ∷ ks) those rest true passes =
      let here : f at ≡ x = those.reads at 0 (omega arith) (omega arith) in
      let is : k ≡ at = those_first at x xs k ks those (ap p here ∙ passes) in
      ap₂ (λ (y : ℕ) (ys : List ℕ). y ∷ ys) (ap f is ∙ here) (rest ks (those_rest at x xs k ks those is))

  pub those_filtered : (at : ℕ) (xs ks : List ℕ) → AreThose at xs ks → map f ks ≡ filter p xs
  those_filtered at [] [] those = refl
  those_filtered at [] (k ∷ ks) those = let h = those.has k (in_front k ks) in let past = h.0 in let within = h.1 in absurd (omega (arith, past, within))
  those_filtered at (x ∷ xs) ks those = one_step at x xs ks those (those_filtered (suc at) xs) (p x) refl

-- ---- ranks

-- places are in order where their ranks are
pub ranked : (order ranks places numbers : List ℕ) → AreRanks order ranks → All (λ place. place < length ranks) places → AreNumbers numbers (is_listed (map (λ place. get_or ranks place 0) places)) → map (λ rank. get_or order rank 0) numbers ≡ filter (is_listed places) order
ranked order ranks places numbers are inside known = those_filtered (is_listed places) (λ rank. get_or order rank 0) 0 order numbers (record {
  sorted = known.in_order;
  reads = λ k i is within. ap (λ n. get_or order n 0) (omega (arith, is));
  has = has;
  back = back;
})
  where
    has : (k : ℕ) → is_listed numbers k ≡ true → (0 ≤ k) × (k < 0 + length order) × (is_listed places (get_or order k 0) ≡ true)
    has k listed =
        let s = stands_at (map (λ place. get_or ranks place 0) places) k ((known.each k).0 (Contains-from_listed numbers k listed)) in
        let within : s.at < length places = omega (arith, s.before, length-map places (λ place. get_or ranks place 0)) in
        let place = get_or places s.at 0 in
        let is : get_or ranks place 0 ≡ k = sym (get_or-map (λ place. get_or ranks place 0) places s.at 0 0 within) ∙ s.is in
        let there = are.back place (inside s.at 0 within) in
        let below = there.0 in
        (omega arith, omega (arith, below, is), ap (λ n. is_listed places (get_or order n 0)) (sym is) ∙ ap (is_listed places) there.1 ∙ listed_at places s.at within)

    back : (k : ℕ) → 0 ≤ k → k < 0 + length order → is_listed places (get_or order k 0) ≡ true → is_listed numbers k ≡ true
    back k past within listed =
        let s = stands_at places (get_or order k 0) listed in
        let long : s.at < length (map (λ place. get_or ranks place 0) places) = omega (arith, s.before, length-map places (λ place. get_or ranks place 0)) in
        let is : get_or (map (λ place. get_or ranks place 0) places) s.at 0 ≡ k =
        get_or-map (λ place. get_or ranks place 0) places s.at 0 0 s.before ∙ ap (λ n. get_or ranks n 0) s.is ∙ are.there k (omega (arith, within)) in
        listed-from_Contains numbers k ((known.each k).1 (rw is at (listed_at (map (λ place. get_or ranks place 0) places) s.at long)))

pub numbers_as : (numbers : List ℕ) (has other : ℕ → Bool) → ((n : ℕ) → has n ≡ other n) → AreNumbers numbers has → AreNumbers numbers other
numbers_as numbers has other same are = record {
  in_order = are.in_order;
  each = λ n. (λ among. sym (same n) ∙ (are.each n).0 among, λ passes. (are.each n).1 (same n ∙ passes));
}

same_test : (x r : ℕ) (b : Bool) → cond (is_eq (nat_cmp x r)) true b ≡ (b || eqb r x)
same_test x r true = grind (arith, nat_tests)
same_test x r false = grind (arith, nat_tests)

-- one rank more
pub ranks_among_more : (f : ℕ → ℕ) (places : List ℕ) (i x : ℕ) → i < length places → x ≡ f (get_or places i 0) → (old new : BTreeSet ℕ) → Updates nat_cmp old new x true → ((r : ℕ) → contains nat_cmp old r ≡ is_listed (map f (take i places)) r) → (r : ℕ) → contains nat_cmp new r ≡ is_listed (map f (take (i + 1) places)) r
ranks_among_more f places i x within is old new updates so_far r =
    updates.0 r
    ∙ ap (λ (b : Bool). cond (is_eq (nat_cmp x r)) true b) (so_far r)
    ∙ same_test x r (is_listed (map f (take i places)) r)
    ∙ ap (λ (n : ℕ). is_listed (map f (take i places)) r || eqb r n) is
    ∙ sym (ap (λ (xs : List ℕ). is_listed (map f xs) r) (take_more places i 0 within) ∙ ap (λ (xs : List ℕ). is_listed xs r) (map-append f (take i places) (get_or places i 0 ∷ [])) ∙ listed-push (map f (take i places)) (f (get_or places i 0)) r)

-- a rank is that of a place of the order
pub rank_within : (order ranks places : List ℕ) (k : ℕ) → AreRanks order ranks → All (λ place. place < length ranks) places → is_listed (map (λ place. get_or ranks place 0) places) k ≡ true → k < length order
rank_within order ranks places k are inside listed =
    let s = stands_at (map (λ place. get_or ranks place 0) places) k listed in
    let within : s.at < length places = omega (arith, s.before, length-map places (λ place. get_or ranks place 0)) in
    let is : get_or ranks (get_or places s.at 0) 0 ≡ k = sym (get_or-map (λ place. get_or ranks place 0) places s.at 0 0 within) ∙ s.is in
    let below = (are.back (get_or places s.at 0) (inside s.at 0 within)).0 in
    omega (arith, below, is)

pub number_within : (order ranks places numbers : List ℕ) → AreRanks order ranks → All (λ place. place < length ranks) places → AreNumbers numbers (is_listed (map (λ place. get_or ranks place 0) places)) → (i : ℕ) → i < length numbers → get_or numbers i 0 < length order
number_within order ranks places numbers are inside known i within =
    rank_within order ranks places (get_or numbers i 0) are inside ((known.each (get_or numbers i 0)).0 (Contains-get_or numbers i 0 within))

-- the ranks of the first places of the order
pub ranks_more : (graph : List (List ℕ)) (order : List ℕ) → IsOrderOf graph order → (ranks : List ℕ) (i : ℕ) → i < length order → length ranks ≡ length graph → ((k : ℕ) → k < i → get_or ranks (get_or order k 0) 0 ≡ k) → (k : ℕ) → k < i + 1 → get_or (set ranks (get_or order i 0) i) (get_or order k 0) 0 ≡ k
ranks_more graph order o ranks i within long so_far k below =
    let inside : get_or order i 0 < length graph = listed_within graph order o.listing (get_or order i 0) (listed_at order i within) in
    elim (cases_eq k i) [
      | inl same ↦ get_or-set_at ranks (get_or order i 0) (get_or order k 0) i 0 (ap (λ n. get_or order n 0) same) (omega (arith, inside, long)) ∙ sym same
      | inr apart ↦ get_or-set_other ranks (get_or order i 0) (get_or order k 0) i 0 (places_differ graph order o.listing k i (omega arith) within) ∙ so_far k (omega arith)
    ]

pub ranks_whole : (graph : List (List ℕ)) (order : List ℕ) → IsOrderOf graph order → (ranks : List ℕ) → length ranks ≡ length graph → ((k : ℕ) → k < length order → get_or ranks (get_or order k 0) 0 ≡ k) → AreRanks order ranks
ranks_whole graph order o ranks long each = record {
  there = each;
  back = λ place inside.
      let s = stands_at order place (o.whole place (omega (arith, inside, long))) in
      let is : get_or ranks place 0 ≡ s.at = ap (λ n. get_or ranks n 0) (sym s.is) ∙ each s.at s.before in
      (omega (arith, is, s.before), ap (λ n. get_or order n 0) is ∙ s.is);
}

-- a place stands first in the order at its rank
pub rank_is : (graph : List (List ℕ)) (order : List ℕ) → IsOrderOf graph order → (ranks : List ℕ) → AreRanks order ranks → (place : ℕ) → place < length ranks → position (nat_eq place) order ≡ Some (get_or ranks place 0)
rank_is graph order o ranks are place inside =
    let rank = get_or ranks place 0 in
    let back = are.back place inside in
    let below : rank < length order = back.0 in
    let at : position_or_len (nat_eq place) order ≡ rank =
    position_or_len_is (nat_eq place) order rank 0 (omega arith)
    (λ k before. ne_eqb place (get_or order k 0) (λ same. places_differ graph order o.listing k rank before below (sym same ∙ sym back.1)))
    (λ within. eq-eqb place (get_or order rank 0) (sym back.1)) in
    ap (λ (n : ℕ). cond (nat_lt n (length order)) (Some n) None) at ∙ ap (λ (b : Bool). cond b (Some rank) None) (lt-ltb rank (length order) below)

-- ---- the places of a closure

reach_within : (graph : List (List ℕ)) (from : ℕ) → NeedsAreWithin graph → (q : ℕ) → Reaches graph from q → q < length graph
reach_within graph from within q (Direct _ has) = need_within graph within from q (listed-from_Contains (needs_of graph from) q has)
reach_within graph from within q (Further through _ reached has) = need_within graph within through q (listed-from_Contains (needs_of graph through) q has)

pub closure_within : (graph : List (List ℕ)) (from : ℕ) (places ranks : List ℕ) → NeedsAreWithin graph → AreReachedFrom graph (needs_of graph from) places → length ranks ≡ length graph → All (λ place. place < length ranks) places
closure_within graph from places ranks within are long k d inside =
    let below = reach_within graph from within (get_or places k d) ((are.each (get_or places k d)).0 (Contains-get_or places k d inside)) in
    omega (arith, below, long)

pub closure_is : (graph : List (List ℕ)) (order : List ℕ) (place : ℕ) (places reached : List ℕ) → AreReachedFrom graph (needs_of graph place) places → reached ≡ filter (is_listed places) order → IsClosureOf graph order place reached
closure_is graph order place places reached are kept = record {
  is_reached = is_listed places;
  tells = λ other. (λ listed. (are.each other).0 (Contains-from_listed places other listed), λ reaches. listed-from_Contains places other ((are.each other).1 reaches));
  kept = kept;
}

filter_at : (p : ℕ → Bool) (y : ℕ) (ys : List ℕ) (x : ℕ) → p x ≡ true → (is_listed ys x ≡ true → is_listed (filter p ys) x ≡ true) → (b : Bool) → p y ≡ b → (eqb x y || is_listed ys x) ≡ true → is_listed (cond b (y ∷ filter p ys) (filter p ys)) x ≡ true
filter_at p y ys x passes rest true is among = elim (or_cases (eqb x y) (is_listed ys x) among) [ inl same ↦ or_left (eqb x y) _ same | inr later ↦ or_right (eqb x y) _ (rest later) ]
filter_at p y ys x passes rest false is among = elim (or_cases (eqb x y) (is_listed ys x) among) [ inl same ↦ absurd (both_ways (p y) is (rw (eqb-true x y same) at passes)) | inr later ↦ rest later ]

pub filter_has : (p : ℕ → Bool) (xs : List ℕ) (x : ℕ) → p x ≡ true → is_listed xs x ≡ true → is_listed (filter p xs) x ≡ true
filter_has p [] x passes listed = listed
filter_has p (y ∷ ys) x passes listed = filter_at p y ys x passes (filter_has p ys x passes) (p y) refl listed

pub closure_has : (graph : List (List ℕ)) (order : List ℕ) (place : ℕ) (reached : List ℕ) → IsOrderOf graph order → place < length graph → IsClosureOf graph order place reached → (other : ℕ) → Contains reached other ↔ Reaches graph place other
closure_has graph order place reached o within is other = (
  λ has. (is.tells other).0 (All-contains (λ x. is.is_reached x ≡ true) (filter is.is_reached order) other (filter_passes is.is_reached order) (rw is.kept at has)),
  λ reaches. rw is.kept (Contains-from_listed (filter is.is_reached order) other (filter_has is.is_reached order other ((is.tells other).1 reaches) (reached_listed graph order o place within other reaches))),
)

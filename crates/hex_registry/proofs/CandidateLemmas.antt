-- Candidates that are sorted stand in their order.
use Rattle.std.proofs.Common.{◌≡◌, ◌≢◌, ℕ, suc, ◌+◌, ◌<◌, ◌≤◌, Bool, true, false, List, [], ◌∷◌, map, length, get_or, slice_get, Option, Some, None, IsTrue, IsPermutation, ◌⊎◌, inl, inr, refl, sym, ap, subst, ◌∙◌, arith, ◌↔◌, eqb, nat_cmp, is_lt, Less, Equal, Greater, Ordering, Decides}
use Rattle.std.specs.Cmp.{IsTotalOrder, IsStrictWeakOrder, bool_cmp_total}
use Rattle.std.specs.List.{All, AllPairs, Contains, IsDistinct}
use Rattle.std.specs.List.Sorted.{IsSortedBy}
use Rattle.std.specs.Ordering.{MatchOrdering, bool_cmp, flip_args, on, ordering_reverse, ordering_then, then_cmp}
use Rattle.std.proofs.lemmas.Bool.{eqb-true, eq-eqb}
use Rattle.std.proofs.lemmas.Cmp.{back_total, nat_cmp_total, nat_eq_equiv, on_total, ranked, then_total}
use Rattle.std.proofs.lemmas.List.{get_or-map, length-map}
use Rattle.std.proofs.lemmas.List.Elements.{All-contains, All-get_or, Contains-get_or}
use Rattle.std.proofs.lemmas.List.Sorted.{All-permutation, Contains-permutation, IsPermutation-map, IsPermutation-sym, ranks_by, sorted_far}
use Rattle.std.proofs.lemmas.Map.Keys.{IsDistinct-IsPermutation}
use Rattle.std.proofs.lemmas.Map.Made.{AllPairs-from_IsDistinct, IsDistinct-from_AllPairs}
use Rattle.std.proofs.lemmas.Option.{get_or_from_slice_get, same_Some}
use Rattle.semver.specs.Eval.{precedence_cmp}
use Rattle.semver.specs.OrderLaws.{precedence_total}
use Rattle.hex_registry.specs.Candidates.{AreCandidates, ComesBefore, IsCandidate, Ranked, candidate_cmp, candidate_in, is_usable_at, is_usable_in, locked_place}
use Rattle.hex_registry.specs.Offers.{is_usable}
use Rattle.hex_registry.specs.declared.offer.Offer.{Offer}
use Rattle.hex_registry.specs.declared.shelf.Stock.{Stock}
use Rattle.hex_registry.specs.declared.candidates.Candidate.{Candidate}
use Rattle.hex_registry.proofs.Lists.{mapped_of}
use Rattle.hex_registry.proofs.UsableLemmas.{AreUsable}

pub candidate_total : IsTotalOrder candidate_cmp
candidate_total =
    then_total (back_total (on_total (λ (r : Ranked). r.locked) bool_cmp_total))
    (then_total (on_total (λ (r : Ranked). r.offer.retired) bool_cmp_total)
    (then_total (back_total (on_total (λ (r : Ranked). r.offer.version) precedence_total)) (on_total (λ (r : Ranked). r.place) nat_cmp_total)))

pub candidate_order : IsStrictWeakOrder (λ (x y : Ranked). is_lt (candidate_cmp x y))
candidate_order = ranks_by candidate_total (λ (r : Ranked). r)

-- candidates of one rank stand at one place
then_equal : (o p : Ordering) → ordering_then o p ≡ Equal → p ≡ Equal
then_equal Less p e = absurd (cc)
then_equal Equal p e = e
then_equal Greater p e = absurd (cc)

nat_tied : (m n : ℕ) → nat_cmp m n ≡ Equal → m ≡ n
nat_tied m n e = subst (λ (o : Ordering). Says o) e (ranked m n (nat_cmp m n) refl)
  where
    Says : Ordering → Type 0
    Says o = MatchOrdering o (m < n) (m ≡ n) (n < m)

tied_place : (x y : Ranked) → candidate_cmp x y ≡ Equal → x.place ≡ y.place
tied_place x y e =
    nat_tied x.place y.place (then_equal (precedence_cmp y.offer.version x.offer.version) (nat_cmp x.place y.place)
    (then_equal (bool_cmp x.offer.retired y.offer.retired) (ordering_then (precedence_cmp y.offer.version x.offer.version) (nat_cmp x.place y.place))
    (then_equal (bool_cmp y.locked x.locked) (ordering_then (bool_cmp x.offer.retired y.offer.retired)
    (ordering_then (precedence_cmp y.offer.version x.offer.version) (nat_cmp x.place y.place))) e)))

less_unless : (o p : Ordering) → o ≡ ordering_reverse p → is_lt p ≡ false → (o ≡ Equal → ⊥) → o ≡ Less
less_unless Less p e lt ne = refl
less_unless Equal p e lt ne = absurd (ne refl)
less_unless Greater Less e lt ne = absurd (cc)
less_unless Greater Equal e lt ne = absurd (cc)
less_unless Greater Greater e lt ne = absurd (cc)

eqb-Decides : (m n : ℕ) → Decides (eqb m n) (m ≡ n)
eqb-Decides m n = (eqb-true m n, eq-eqb m n)

-- one release at one place
bool_same : (a b : Bool) {P : Type 0} → (IsTrue a ↔ P) → (IsTrue b ↔ P) → a ≡ b
bool_same true true h k = refl
bool_same true false h k = absurd (let e : false ≡ true = k.1 (h.0 refl) in cc)
bool_same false true h k = absurd (let e : false ≡ true = h.1 (k.0 refl) in cc)
bool_same false false h k = refl

one_candidate : (stock : Stock) (locked : Option ℕ) (x y : Ranked) → IsCandidate stock locked x → IsCandidate stock locked y → x.place ≡ y.place → x ≡ y
one_candidate stock locked x y a b same =
    let at : slice_get stock.offers x.place ≡ Some y.offer = ap (slice_get stock.offers) same ∙ b.at in
    let offers : x.offer ≡ y.offer = same_Some x.offer y.offer (sym a.at ∙ at) in
    let own : IsTrue y.locked ↔ (locked ≡ Some x.place) = subst (λ (p : ℕ). IsTrue y.locked ↔ (locked ≡ Some p)) (sym same) b.is_locked in
    let locks : x.locked ≡ y.locked = bool_same x.locked y.locked a.is_locked own in
    made x.place y.place x.locked y.locked x.offer y.offer same locks offers
  where
    made : (p q : ℕ) (a b : Bool) (o n : Offer) → p ≡ q → a ≡ b → o ≡ n
        → ◌≡◌ {A = Ranked} (record { place = p; locked = a; offer = o }) (record { place = q; locked = b; offer = n })
    made p q a b o n e f g = ap (λ (x : ℕ). record { place = x; locked = a; offer = o }) e ∙ ap (λ (x : Bool). record { place = q; locked = x; offer = o }) f
        ∙ ap (λ (x : Offer). record { place = q; locked = b; offer = x }) g

place_usable : (stock : Stock) (locked : Option ℕ) (x : Ranked) → IsCandidate stock locked x → IsTrue (is_usable_at stock x.place)
place_usable stock locked x a = ap is_usable_in a.at ∙ a.usable

-- what a sort of all usable releases leaves
pub sorted_candidates : (stock : Stock) (locked : Option (List ℕ)) (usable sorted : List Ranked) (answer : List ℕ)
    → AreUsable stock (locked_place stock locked) usable → IsPermutation usable sorted → IsSortedBy (λ (x y : Ranked). is_lt (candidate_cmp x y)) sorted
    → answer ≡ map (λ (r : Ranked). r.place) sorted → AreCandidates stock locked answer
sorted_candidates stock locked usable sorted answer are same up is =
    let place = λ (r : Ranked). r.place in
    let each : All (IsCandidate stock (locked_place stock locked)) sorted = All-permutation
    (IsCandidate stock (locked_place stock locked)) usable sorted same are.only in
    let apart : AllPairs (λ (x y : ℕ). x ≢ y) (map (λ (r : Ranked). r.place) sorted) =
    AllPairs-from_IsDistinct eqb-Decides (map (λ (r : Ranked). r.place) sorted)
    (IsDistinct-IsPermutation eqb eqb_flips (map (λ (r : Ranked). r.place) usable) (map (λ (r : Ranked). r.place) sorted)
    (IsPermutation-map (λ (r : Ranked). r.place) usable sorted same)
    (IsDistinct-from_AllPairs eqb-Decides (map (λ (r : Ranked). r.place) usable) (rising usable are.in_order))) in
    subst (λ (ps : List ℕ). AreCandidates stock locked ps) (sym is)
    (record {
      each = λ p. (
        (λ c. (let m = mapped_of (λ (r : Ranked). r.place) sorted p c in
            subst (λ (q : ℕ). IsTrue (is_usable_at stock q)) m.is (place_usable stock (locked_place stock locked) m.x
            (All-contains (IsCandidate stock (locked_place stock locked)) sorted m.x each m.stands)))),
        (λ u. Contains-permutation (map (λ (r : Ranked). r.place) usable) (map (λ (r : Ranked). r.place) sorted) p
            (IsPermutation-map (λ (r : Ranked). r.place) usable sorted same) (are.all p u)),
      );
      in_order = λ i j d less below. before_at i j d less below each apart;
    })
  where
    eqb_flips : (m n : ℕ) → eqb m n ≡ eqb n m
    eqb_flips m n = nat_eq_equiv.symm m n

    rising : (xs : List Ranked) → AllPairs (λ (earlier later : Ranked). earlier.place < later.place) xs
        → AllPairs (λ (x y : ℕ). x ≢ y) (map (λ (r : Ranked). r.place) xs)
    rising [] up i j d less below = absurd (omega (arith, below))
    rising (x ∷ xs) up i j d less below =
        let long : length (map (λ (r : Ranked). r.place) (x ∷ xs)) ≡ length (x ∷ xs) = length-map (x ∷ xs) (λ (r : Ranked). r.place) in
        let h = up i j x less (omega (arith, below, long)) in
        rw (
          get_or-map (λ (r : Ranked). r.place) (x ∷ xs) i x d (omega (arith, less, below, long)),
          get_or-map (λ (r : Ranked). r.place) (x ∷ xs) j x d
              (omega (arith, below, long)),
        )
        (λ e. omega (arith, h, e))

    before_at : (i j d : ℕ) → i < j → j < length (map (λ (r : Ranked). r.place) sorted) → All (IsCandidate stock (locked_place stock locked)) sorted
        → AllPairs (λ (x y : ℕ). x ≢ y) (map (λ (r : Ranked). r.place) sorted)
        → ComesBefore stock (locked_place stock locked) (get_or (map (λ (r : Ranked). r.place) sorted) i d)
        (get_or (map (λ (r : Ranked). r.place) sorted) j d)
    before_at i j d less below each apart one later a b at_one at_later =
        let long : length (map (λ (r : Ranked). r.place) sorted) ≡ length sorted = length-map sorted (λ (r : Ranked). r.place) in
        let i_below : i < length sorted = omega (arith, less, below, long) in
        let j_below : j < length sorted = omega (arith, below, long) in
        let x = get_or sorted i one in
        let y = get_or sorted j one in
        let first : one ≡ get_or sorted i one = one_candidate stock (locked_place stock locked) one (get_or sorted i one) a
        (All-get_or (IsCandidate stock (locked_place stock locked)) sorted i one i_below each)
        (at_one ∙ get_or-map (λ (r : Ranked). r.place) sorted i one d i_below) in
        let second : later ≡ get_or sorted j one = one_candidate stock (locked_place stock locked) later (get_or sorted j one) b
        (All-get_or (IsCandidate stock (locked_place stock locked)) sorted j one j_below each)
        (at_later ∙ get_or-map (λ (r : Ranked). r.place) sorted j one d j_below) in
        let not_after : is_lt (candidate_cmp later one) ≡ false = ap (λ (r : Ranked). is_lt (candidate_cmp r one)) second ∙ ap
        (λ (r : Ranked). is_lt (candidate_cmp (get_or sorted j one) r)) first ∙ sorted_far
        (λ (r s : Ranked). is_lt (candidate_cmp r s)) candidate_order sorted up i j one (omega (arith, less)) j_below in
        less_unless (candidate_cmp one later) (candidate_cmp later one) (candidate_total.antisymm one later) not_after
        (λ tied. apart i j d less below (sym at_one ∙ tied_place one later tied ∙ at_later))

-- candidates as they are seen
pub seen_sorted : (xs : List Candidate) → IsSortedBy (λ (x y : Candidate). is_lt (candidate_cmp (candidate_in x) (candidate_in y))) xs
    → IsSortedBy (λ (x y : Ranked). is_lt (candidate_cmp x y)) (map candidate_in xs)
seen_sorted [] up k d low below = absurd (omega (arith, below))
seen_sorted (x ∷ xs) up k d low below =
    let long : length (map candidate_in (x ∷ xs)) ≡ length (x ∷ xs) = length-map (x ∷ xs) candidate_in in
    ap (λ (r : Ranked). is_lt (candidate_cmp r (get_or (map candidate_in (x ∷ xs)) k d)))
    (get_or-map candidate_in (x ∷ xs) (k + 1) x d (omega (arith, below, long)))
    ∙ ap (λ (r : Ranked). is_lt (candidate_cmp (candidate_in (get_or (x ∷ xs) (k + 1) x)) r))
    (get_or-map candidate_in (x ∷ xs) k x d (omega (arith, below, long)))
    ∙ up k x low (omega (arith, below, long))

pub seen_places : (xs : List Candidate) → map (λ (r : Ranked). r.place) (map candidate_in xs) ≡ map (λ (c : Candidate). c.place) xs
seen_places [] = refl
seen_places (x ∷ xs) = ap (λ (ns : List ℕ). x.place ∷ ns) (seen_places xs)

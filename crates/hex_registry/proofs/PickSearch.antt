-- What a search by halves finds in a pick.
use Rattle.std.proofs.Common.{◌≡◌, ℕ, zero, suc, ◌<◌, ◌≤◌, Bool, true, false, not, cond, List, [], ◌∷◌, map, get_or, is_some, length, position, nat_lt, slice_get, OnOk, OnErr, Option, Some, None, Result, Ok, Err, bytes_eq, ◌⊎◌, inl, inr, refl, sym, ap, subst, ◌∙◌, arith, Less, Equal, Greater, Ordering}
use native.Mathlib.Numerals.{unary_clauses}
use Rattle.std.specs.List.{position_or_len}
use Rattle.std.specs.List.Sorted.{IsBinarySearchResult, IsNonDecreasingBy, IsSearchInRange}
use Rattle.std.specs.Ordering.{is_lt, ordering_index}
use Rattle.std.proofs.lemmas.Bool.{cases_lt, le-ltb, lt-ltb, ltb-false, ltb-true}
use Rattle.std.proofs.lemmas.Cmp.{nat_list_cmp_total}
use Rattle.std.proofs.lemmas.List.Folds.{find_at}
use Rattle.std.proofs.lemmas.List.Sums.{position_or_len_is}
use Rattle.std.proofs.lemmas.Option.{slice_get_past}
use Rattle.mx_base.specs.Order.{text_cmp, IsBefore}
use Rattle.tree_store.proofs.OrderLemmas.{equal_itself}
use Rattle.hex_registry.specs.Picks.{Picked, ArePicks, SaysPlace, adding, has_package, picked_of, place_for, with_picked}
use Rattle.hex_registry.proofs.NameOrder.{same_of_equal}
use Rattle.hex_registry.proofs.PickLists.{added_is, added_stays, decided_in_order}
use Rattle.hex_registry.proofs.ValidLemmas.{bytes_itself, same_bytes}

-- comparisons with a name rise along names in order
rises : (a b name : List ℕ) → text_cmp a b ≡ Less → ordering_index (text_cmp a name) ≤ ordering_index (text_cmp b name)
rises a b name less = at (text_cmp b name) refl
  where
    most : (o : Ordering) → ordering_index o ≤ 2
    most Less = omega arith
    most Equal = omega arith
    most Greater = omega arith

    at : (o : Ordering) → text_cmp b name ≡ o → ordering_index (text_cmp a name) ≤ ordering_index o
    at Less e = let k = ap ordering_index (nat_list_cmp_total.trans a b name less e) in omega (arith, k)
    at Equal e = let k = ap ordering_index (subst (λ (n : List ℕ). text_cmp a n ≡ Less) (same_of_equal b name e) less) in omega (arith, k)
    at Greater e = most (text_cmp a name)

before_at : (name : List ℕ) (pick : List Picked) (k : ℕ) (d : Picked) → IsBefore name (map (λ (q : Picked). q.0) pick) → k < length pick
    → text_cmp name (get_or pick k d).0 ≡ Less
before_at name [] k d b below = absurd (omega (arith, below))
before_at name (first ∷ rest) zero d b below = b.0
before_at name (first ∷ rest) (suc k) d b below = before_at name rest k d b.1 (omega (arith, below))

rise_along : (pick : List Picked) (name : List ℕ) (i j : ℕ) (d : Picked) → ArePicks pick → i ≤ j → j < length pick
    → ordering_index (text_cmp (get_or pick i d).0 name) ≤ ordering_index (text_cmp (get_or pick j d).0 name)
rise_along [] name i j d o le below = absurd (omega (arith, below))
rise_along (first ∷ rest) name zero zero d o le below = omega arith
rise_along (first ∷ rest) name zero (suc j) d o le below = rises first.0 (get_or rest j d).0 name (before_at first.0 rest j d o.0 (omega (arith, below)))
rise_along (first ∷ rest) name (suc i) zero d o le below = absurd (omega (arith, le))
rise_along (first ∷ rest) name (suc i) (suc j) d o le below = rise_along rest name i j d o.1 (omega (arith, le)) (omega (arith, below))

-- what a comparison says of a test for the name
is_of_equal : (a name : List ℕ) → text_cmp a name ≡ Equal → bytes_eq name a ≡ true
is_of_equal a name e = subst (λ (n : List ℕ). bytes_eq name n ≡ true) (sym (same_of_equal a name e)) (bytes_itself name)

not_of_other : (a name : List ℕ) (o : Ordering) → text_cmp a name ≡ o → (o ≡ Equal → ⊥) → bytes_eq name a ≡ false
not_of_other a name o e other = at (bytes_eq name a) refl
  where
    at : (b : Bool) → bytes_eq name a ≡ b → b ≡ false
    at true is = absurd (other (sym e ∙ ap (λ (n : List ℕ). text_cmp n name) (sym (same_bytes name a is)) ∙ equal_itself name))
    at false is = refl

found_at : (t : Picked → Bool) (pick : List Picked) (i : ℕ) → position_or_len t pick ≡ i → i < length pick → position t pick ≡ Some i
found_at t pick i is below =
    ap (λ (n : ℕ). cond (nat_lt n (length pick)) (Some n) None) is ∙ ap (λ (b : Bool). cond b (Some i) None) (lt-ltb i (length pick) below)

found_nowhere : (t : Picked → Bool) (pick : List Picked) → position_or_len t pick ≡ length pick → position t pick ≡ None
found_nowhere t pick is =
    ap (λ (n : ℕ). cond (nat_lt n (length pick)) (Some n) None) is
    ∙ ap (λ (b : Bool). cond b (Some (length pick)) None) (le-ltb (length pick) (length pick) (omega arith))

pub says_place : (pick : List Picked) (name : List ℕ) (r : Result ℕ ℕ) → ArePicks pick → IsSearchInRange r (length pick)
    → IsBinarySearchResult (λ (q : Picked). text_cmp q.0 name) pick r → SaysPlace pick name r
says_place pick name (Ok i) o within equal =
    let test = λ (q : Picked). bytes_eq name q.0 in
    found_at (λ (q : Picked). bytes_eq name q.0) pick i
    (position_or_len_is (λ (q : Picked). bytes_eq name q.0) pick i (name, 0) (omega (arith, within))
    (λ k below. not_of_other (get_or pick k (name, 0)).0 name (text_cmp (get_or pick k (name, 0)).0 name) refl
    (λ same. strictly k below same))
    (λ w. is_of_equal (get_or pick i (name, 0)).0 name (equal (name, 0)))) within
  where
    strictly : (k : ℕ) → k < i → text_cmp (get_or pick k (name, 0)).0 name ≡ Equal → ⊥
    strictly k below same =
        clash (get_or pick k (name, 0)).0 (get_or pick i (name, 0)).0 (pair pick k i o below within) same (equal (name, 0))
      where
        pair : (ps : List Picked) (m n : ℕ) → ArePicks ps → m < n → n < length ps → text_cmp (get_or ps m (name, 0)).0 (get_or ps n (name, 0)).0 ≡ Less
        pair [] m n p l w = absurd (omega (arith, w))
        pair (first ∷ rest) zero zero p l w = absurd (omega (arith, l))
        pair (first ∷ rest) zero (suc n) p l w = before_at first.0 rest n (name, 0) p.0 (omega (arith, w))
        pair (first ∷ rest) (suc m) zero p l w = absurd (omega (arith, l))
        pair (first ∷ rest) (suc m) (suc n) p l w = pair rest m n p.1 (omega (arith, l)) (omega (arith, w))

        clash : (a b : List ℕ) → text_cmp a b ≡ Less → text_cmp a name ≡ Equal → text_cmp b name ≡ Equal → ⊥
        clash a b less one other =
            let k : Equal ≡ Less =
            sym (equal_itself a) ∙ ap (text_cmp a) (same_of_equal a name one ∙ sym (same_of_equal b name other)) ∙ less in
            cc
says_place pick name (Err i) o within parted =
    let parts = parted (λ a b d le lt. rise_along pick name a b d o le lt) in (
      found_nowhere (λ (q : Picked). bytes_eq name q.0) pick
          (position_or_len_is (λ (q : Picked). bytes_eq name q.0) pick (length pick) (name, 0) (omega arith)
          (λ k below. apart parts k below) (λ w. absurd (omega (arith, w)))),
      sym (position_or_len_is (λ (q : Picked). not (is_lt (text_cmp q.0 name))) pick i (name, 0) within
          (λ k below. ap (λ (c : Ordering). not (is_lt c)) (parts.0 k (name, 0) (omega arith) below))
          (λ w. ap (λ (c : Ordering). not (is_lt c)) (parts.1 i (name, 0) (omega arith) w))),
      within,
    )
  where
    apart : ((k : ℕ) (d : Picked) → 0 ≤ k → k < i → text_cmp (get_or pick k d).0 name ≡ Less)
        × ((k : ℕ) (d : Picked) → i ≤ k → k < length pick → text_cmp (get_or pick k d).0 name ≡ Greater)
        → (k : ℕ) → k < length pick → bytes_eq name (get_or pick k (name, 0)).0 ≡ false
    apart parts k below = elim (cases_lt k i) [
      | inl less ↦ not_of_other (get_or pick k (name, 0)).0 name Less (parts.0 k (name, 0) (omega arith) less) (λ e. absurd (cc))
      | inr more ↦ not_of_other (get_or pick k (name, 0)).0 name Greater (parts.1 k (name, 0) more below) (λ e. absurd (cc))
    ]

-- what a place says of what is picked
pub picked_at : (pick : List Picked) (name : List ℕ) (at : ℕ) → position (λ (q : Picked). bytes_eq name q.0) pick ≡ Some at
    → slice_get pick at ≡ picked_of pick name
picked_at pick name at h = by_test (nat_lt (position_or_len (λ (q : Picked). bytes_eq name q.0) pick) (length pick)) h
  where
    by_test : (b : Bool) → cond b (Some (position_or_len (λ (q : Picked). bytes_eq name q.0) pick)) None ≡ Some at → slice_get pick at ≡ picked_of pick name
    by_test true is =
        let same : position_or_len (λ (q : Picked). bytes_eq name q.0) pick ≡ at = cc in
        ap (slice_get pick) (sym same) ∙ sym (find_at (λ (q : Picked). bytes_eq name q.0) pick)
    by_test false is = absurd (cc)

pub picked_nowhere : (pick : List Picked) (name : List ℕ) → position (λ (q : Picked). bytes_eq name q.0) pick ≡ None → picked_of pick name ≡ None
picked_nowhere pick name h = by_test (nat_lt (position_or_len (λ (q : Picked). bytes_eq name q.0) pick) (length pick)) refl h
  where
    by_test : (b : Bool) → nat_lt (position_or_len (λ (q : Picked). bytes_eq name q.0) pick) (length pick) ≡ b
        → cond b (Some (position_or_len (λ (q : Picked). bytes_eq name q.0) pick)) None ≡ None → picked_of pick name ≡ None
    by_test true e is = absurd (cc)
    by_test false e is =
        find_at (λ (q : Picked). bytes_eq name q.0) pick
        ∙ slice_get_past pick (position_or_len (λ (q : Picked). bytes_eq name q.0) pick)
        (ltb-false (position_or_len (λ (q : Picked). bytes_eq name q.0) pick) (length pick) e)

has_at : (pick : List Picked) (name : List ℕ) (at : ℕ) → position (λ (q : Picked). bytes_eq name q.0) pick ≡ Some at → has_package pick name ≡ true
has_at pick name at h =
    let within = position_below pick name at h in
    ap is_some (sym (picked_at pick name at h)) ∙ some_within pick at within
  where
    position_below : (ps : List Picked) (n : List ℕ) (i : ℕ) → position (λ (q : Picked). bytes_eq n q.0) ps ≡ Some i → i < length ps
    position_below ps n i e = by_test (nat_lt (position_or_len (λ (q : Picked). bytes_eq n q.0) ps) (length ps)) refl e
      where
        by_test : (b : Bool) → nat_lt (position_or_len (λ (q : Picked). bytes_eq n q.0) ps) (length ps) ≡ b
            → cond b (Some (position_or_len (λ (q : Picked). bytes_eq n q.0) ps)) None ≡ Some i → i < length ps
        by_test true is f =
            let same : position_or_len (λ (q : Picked). bytes_eq n q.0) ps ≡ i = cc in
            subst (λ (m : ℕ). m < length ps) same (ltb-true (position_or_len (λ (q : Picked). bytes_eq n q.0) ps) (length ps) is)
        by_test false is f = absurd (cc)

    some_within : (ps : List Picked) (i : ℕ) → i < length ps → is_some (slice_get ps i) ≡ true
    some_within [] i l = absurd (omega (arith, l))
    some_within (q ∷ ps) zero l = refl
    some_within (q ∷ ps) (suc i) l = some_within ps i (omega (arith, l))

pub adds_nothing : (pick : List Picked) (p : Picked) (at : ℕ) → position (λ (q : Picked). bytes_eq p.0 q.0) pick ≡ Some at → pick ≡ adding pick p
adds_nothing pick p at h = sym (added_stays pick p (has_at pick p.0 at h))

pub lacks : (pick : List Picked) (name : List ℕ) → position (λ (q : Picked). bytes_eq name q.0) pick ≡ None → has_package pick name ≡ false
lacks pick name h = ap is_some (picked_nowhere pick name h)

pub inserted_adds : {X E : Type 0} (r : Result X E) (old new : List Picked) (p : Picked) → position (λ (q : Picked). bytes_eq p.0 q.0) old ≡ None
    → OnOk r (new ≡ with_picked old p) → OnOk r (new ≡ adding old p)
inserted_adds (Ok x) old new p none is = is ∙ sym (added_is old p (lacks old p.0 none))
inserted_adds (Err e) old new p none is = tt

pub inserted_in_order : {X E : Type 0} (r : Result X E) (old new : List Picked) (p : Picked) → ArePicks old
    → position (λ (q : Picked). bytes_eq p.0 q.0) old ≡ None → OnOk r (new ≡ with_picked old p) → OnErr r (new ≡ old) → ArePicks new
inserted_in_order (Ok x) old new p o none is kept = subst (λ (ps : List Picked). ArePicks ps) (sym is) (decided_in_order old p o (lacks old p.0 none))
inserted_in_order (Err e) old new p o none is kept = subst (λ (ps : List Picked). ArePicks ps) (sym kept) o

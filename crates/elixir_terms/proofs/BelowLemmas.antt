-- The levels that are left for a part of a bracket's term.
use Rattle.std.proofs.Common.{◌≡◌, ℕ, suc, ◌+◌, ◌-◌, ◌≤◌, List, [], ◌∷◌, ◌++◌, map, Some, sym, subst, arith, append_assoc, ⊎_elim}
use Rattle.std.specs.Prelude.{ℤ}
use Rattle.term_tokens.specs.declared.bracket.Bracket.{Bracket}
use Rattle.term_tokens.specs.declared.bracket.Bracket.TheVariants as bracket
use Rattle.term_values.specs.declared.term.Term.{Term}
use Rattle.term_values.specs.declared.term.Term.TheVariants as term
use Rattle.term_print.specs.Grammar.{pair_tuple, enclosed}
use Rattle.term_values.specs.Views.{Pair}
use Rattle.elixir_terms.specs.Levels.{keyword_cost}
use Rattle.elixir_terms.specs.Refusals.{IsOneOf}
use Rattle.elixir_terms.specs.Bounded.{Rules, Bounded, atom, integer, string, list, tuple, mapping, AllBounded, none, more, PairsBounded, no_pairs, more_pairs}
use Rattle.elixir_terms.proofs.BoundedLemmas.{list_parts, tuple_parts, map_parts, all_split, pairs_split, all_at, pairs_at, tuples_at, pair_value, tuples_value}

-- the levels that are left for a part of a bracket's term, and that it fits in them
abbrev pub Below : Rules → ℕ → ℕ → Term → Type 0
Below r left price v = (below : ℕ) × (left ≡ price + below) × Bounded r below v

list_element : {r : Rules} (left : ℕ) (before : List Term) (v : Term) (items others : List Term) → Bounded r left (term.List ((before ++ v ∷ items) ++ others)) → Below r left 1 v
list_element {r = r} left before v items others h =
    let a = list_parts left ((before ++ v ∷ items) ++ others) h in
    let fit : AllBounded r a.0 (before ++ v ∷ (items ++ others)) = subst (λ l. AllBounded r a.0 l) (append_assoc before (v ∷ items) others) a.2 in
    (a.0, omega arith, all_at a.0 before v (items ++ others) fit)

tuple_element : {r : Rules} (left : ℕ) (before : List Term) (v : Term) (items others : List Term) → Bounded r left (term.Tuple ((before ++ v ∷ items) ++ others)) → Below r left 1 v
tuple_element {r = r} left before v items others h =
    let a = tuple_parts left ((before ++ v ∷ items) ++ others) h in
    let fit : AllBounded r a.0 (before ++ v ∷ (items ++ others)) = subst (λ l. AllBounded r a.0 l) (append_assoc before (v ∷ items) others) a.2 in
    (a.0, omega arith, all_at a.0 before v (items ++ others) fit)

tuple_only : {r : Rules} (left : ℕ) (before : List Term) (v : Term) (items : List Term) → Bounded r left (term.Tuple (before ++ v ∷ items)) → Below r left 1 v
tuple_only left before v items h =
    let a = tuple_parts left (before ++ v ∷ items) h in
    (a.0, omega arith, all_at a.0 before v items a.2)

-- an element of the term that brackets enclose
pub element_below : {r : Rules} (kind : Bracket) (before : List Term) (v : Term) (items : List Term) (entries keywords : List Pair) (t : Term) (left : ℕ) → enclosed kind (before ++ v ∷ items) entries keywords ≡ Some t → Bounded r left t → Below r left 1 v
element_below {r = r} bracket.List before v items [] keywords t left e h =
    let same : t ≡ term.List ((before ++ v ∷ items) ++ map pair_tuple keywords) = cc in
    list_element left before v items (map pair_tuple keywords) (subst (λ x. Bounded r left x) same h)
element_below bracket.List before v items (p ∷ entries) keywords t left e h = absurd (cc)
element_below {r = r} bracket.Tuple before v items [] [] t left e h =
    let same : t ≡ term.Tuple (before ++ v ∷ items) = cc in
    tuple_only left before v items (subst (λ x. Bounded r left x) same h)
element_below {r = r} bracket.Tuple [] v items [] (k ∷ keywords) t left e h =
    let same : t ≡ term.Tuple (([] ++ v ∷ items) ++ term.List (map pair_tuple (k ∷ keywords)) ∷ []) = cc in
    tuple_element left [] v items (term.List (map pair_tuple (k ∷ keywords)) ∷ []) (subst (λ x. Bounded r left x) same h)
element_below {r = r} bracket.Tuple (b ∷ before) v items [] (k ∷ keywords) t left e h =
    let same : t ≡ term.Tuple (((b ∷ before) ++ v ∷ items) ++ term.List (map pair_tuple (k ∷ keywords)) ∷ []) = cc in
    tuple_element left (b ∷ before) v items (term.List (map pair_tuple (k ∷ keywords)) ∷ []) (subst (λ x. Bounded r left x) same h)
element_below bracket.Tuple [] v items (p ∷ entries) keywords t left e h = absurd (cc)
element_below bracket.Tuple (b ∷ before) v items (p ∷ entries) keywords t left e h = absurd (cc)
element_below bracket.Map [] v items entries keywords t left e h = absurd (cc)
element_below bracket.Map (b ∷ before) v items entries keywords t left e h = absurd (cc)

tuple_keyword : {r : Rules} (left : ℕ) (items : List Term) (before : List Pair) (p : Pair) (after : List Pair) → Bounded r left (term.Tuple (items ++ term.List (map pair_tuple (before ++ p ∷ after)) ∷ [])) → Below r left 3 p.1
tuple_keyword left items before p after h =
    let a = tuple_parts left (items ++ term.List (map pair_tuple (before ++ p ∷ after)) ∷ []) h in
    let b = tuples_value a.0 before p after (all_at a.0 items (term.List (map pair_tuple (before ++ p ∷ after))) [] a.2) in
    (b.0, omega arith, b.2)

-- the value of a keyword of it
pub keyword_below : {r : Rules} (kind : Bracket) (items : List Term) (entries before : List Pair) (p : Pair) (after : List Pair) (t : Term) (left : ℕ) → enclosed kind items entries (before ++ p ∷ after) ≡ Some t → Bounded r left t → Below r left (keyword_cost kind) p.1
keyword_below {r = r} bracket.List items [] before p after t left e h =
    let same : t ≡ term.List (items ++ map pair_tuple (before ++ p ∷ after)) = cc in
    let a = list_parts left (items ++ map pair_tuple (before ++ p ∷ after)) (subst (λ x. Bounded r left x) same h) in
    let b = pair_value a.0 p (tuples_at a.0 before p after (all_split a.0 items (map pair_tuple (before ++ p ∷ after)) a.2).1) in
    (b.0, omega arith, b.2)
keyword_below bracket.List items (q ∷ entries) before p after t left e h = absurd (cc)
keyword_below {r = r} bracket.Tuple (item ∷ items) [] [] p after t left e h =
    let same : t ≡ term.Tuple ((item ∷ items) ++ term.List (map pair_tuple ([] ++ p ∷ after)) ∷ []) = cc in
    tuple_keyword left (item ∷ items) [] p after (subst (λ x. Bounded r left x) same h)
keyword_below {r = r} bracket.Tuple (item ∷ items) [] (q ∷ before) p after t left e h =
    let same : t ≡ term.Tuple ((item ∷ items) ++ term.List (map pair_tuple ((q ∷ before) ++ p ∷ after)) ∷ []) = cc in
    tuple_keyword left (item ∷ items) (q ∷ before) p after (subst (λ x. Bounded r left x) same h)
keyword_below bracket.Tuple (item ∷ items) (q ∷ entries) before p after t left e h = absurd (cc)
keyword_below bracket.Tuple [] [] [] p after t left e h = absurd (cc)
keyword_below bracket.Tuple [] [] (q ∷ before) p after t left e h = absurd (cc)
keyword_below bracket.Tuple [] (q ∷ entries) before p after t left e h = absurd (cc)
keyword_below {r = r} bracket.Map [] entries before p after t left e h =
    let same : t ≡ term.Map (entries ++ (before ++ p ∷ after)) = cc in
    let a = map_parts left (entries ++ (before ++ p ∷ after)) (subst (λ x. Bounded r left x) same h) in
    (a.0, omega arith, (pairs_at a.0 before p after (pairs_split a.0 entries (before ++ p ∷ after) a.2).1).1)
keyword_below bracket.Map (item ∷ items) entries before p after t left e h = absurd (cc)

-- the key and the value of an entry of it
pub entry_below : {r : Rules} (kind : Bracket) (items : List Term) (before : List Pair) (p : Pair) (entries keywords : List Pair) (t : Term) (left : ℕ) → enclosed kind items (before ++ p ∷ entries) keywords ≡ Some t → Bounded r left t → (below : ℕ) × (left ≡ 1 + below) × Bounded r below p.0 × Bounded r below p.1
entry_below {r = r} bracket.Map [] before p entries keywords t left e h =
    let same : t ≡ term.Map ((before ++ p ∷ entries) ++ keywords) = cc in
    let a = map_parts left ((before ++ p ∷ entries) ++ keywords) (subst (λ x. Bounded r left x) same h) in
    let b = pairs_at a.0 before p entries (pairs_split a.0 (before ++ p ∷ entries) keywords a.2).0 in
    (a.0, omega arith, b.0, b.1)
entry_below bracket.Map (item ∷ items) before p entries keywords t left e h = absurd (cc)
entry_below bracket.List items [] p entries keywords t left e h = absurd (cc)
entry_below bracket.List items (b ∷ before) p entries keywords t left e h = absurd (cc)
entry_below bracket.Tuple [] [] p entries keywords t left e h = absurd (cc)
entry_below bracket.Tuple [] (b ∷ before) p entries keywords t left e h = absurd (cc)
entry_below bracket.Tuple (item ∷ items) [] p entries keywords t left e h = absurd (cc)
entry_below bracket.Tuple (item ∷ items) (b ∷ before) p entries keywords t left e h = absurd (cc)

-- what brackets enclose has a level at least
pub enclosed_deep : {r : Rules} (kind : Bracket) (items : List Term) (entries keywords : List Pair) (t : Term) (left : ℕ) → enclosed kind items entries keywords ≡ Some t → Bounded r left t → (below : ℕ) × (left ≡ suc below)
enclosed_deep {r = r} bracket.List items [] keywords t left e h =
    let same : t ≡ term.List (items ++ map pair_tuple keywords) = cc in
    let a = list_parts left (items ++ map pair_tuple keywords) (subst (λ x. Bounded r left x) same h) in
    (a.0, a.1)
enclosed_deep bracket.List items (p ∷ entries) keywords t left e h = absurd (cc)
enclosed_deep {r = r} bracket.Tuple items [] [] t left e h =
    let same : t ≡ term.Tuple items = cc in
    let a = tuple_parts left items (subst (λ x. Bounded r left x) same h) in
    (a.0, a.1)
enclosed_deep {r = r} bracket.Tuple (item ∷ items) [] (k ∷ keywords) t left e h =
    let same : t ≡ term.Tuple ((item ∷ items) ++ term.List (map pair_tuple (k ∷ keywords)) ∷ []) = cc in
    let a = tuple_parts left ((item ∷ items) ++ term.List (map pair_tuple (k ∷ keywords)) ∷ []) (subst (λ x. Bounded r left x) same h) in
    (a.0, a.1)
enclosed_deep bracket.Tuple [] [] (k ∷ keywords) t left e h = absurd (cc)
enclosed_deep bracket.Tuple [] (p ∷ entries) keywords t left e h = absurd (cc)
enclosed_deep bracket.Tuple (item ∷ items) (p ∷ entries) keywords t left e h = absurd (cc)
enclosed_deep {r = r} bracket.Map [] entries keywords t left e h =
    let same : t ≡ term.Map (entries ++ keywords) = cc in
    let a = map_parts left (entries ++ keywords) (subst (λ x. Bounded r left x) same h) in
    (a.0, a.1)
enclosed_deep bracket.Map (item ∷ items) entries keywords t left e h = absurd (cc)

-- a term that has some levels has more, and one that keeps rules keeps weaker ones

mutual
  pub weaker : {r s : Rules} (n m : ℕ) {t : Term} → ((i : ℤ) → r.integers i → s.integers i) → ((keys : List Term) → r.keys keys → s.keys keys) → n ≤ m → Bounded r n t → Bounded s m t
  weaker n m f g h atom = atom
  weaker n m f g h (integer {n = i} k) = integer (f i k)
  weaker n m f g h string = string
  weaker {s = s} n m {t = t} f g h (list {levels = below} k) = let e : suc (m - 1) ≡ m = omega arith in subst (λ x. Bounded s x t) e (list (all_weaker below (m - 1) f g (omega arith) k))
  weaker {s = s} n m {t = t} f g h (tuple {levels = below} k) = let e : suc (m - 1) ≡ m = omega arith in subst (λ x. Bounded s x t) e (tuple (all_weaker below (m - 1) f g (omega arith) k))
  weaker {s = s} n m {t = t} f g h (mapping {levels = below} {pairs = pairs} k d) =
      let e : suc (m - 1) ≡ m = omega arith in
      subst (λ x. Bounded s x t) e (mapping (pairs_weaker below (m - 1) f g (omega arith) k) (g (map (λ (p : Pair). p.0) pairs) d))

  all_weaker : {r s : Rules} (n m : ℕ) {ts : List Term} → ((i : ℤ) → r.integers i → s.integers i) → ((keys : List Term) → r.keys keys → s.keys keys) → n ≤ m → AllBounded r n ts → AllBounded s m ts
  all_weaker n m f g h none = none
  all_weaker n m f g h (more a b) = more (weaker n m f g h a) (all_weaker n m f g h b)

  pairs_weaker : {r s : Rules} (n m : ℕ) {ps : List Pair} → ((i : ℤ) → r.integers i → s.integers i) → ((keys : List Term) → r.keys keys → s.keys keys) → n ≤ m → PairsBounded r n ps → PairsBounded s m ps
  pairs_weaker n m f g h no_pairs = no_pairs
  pairs_weaker n m f g h (more_pairs a b c) = more_pairs (weaker n m f g h a) (weaker n m f g h b) (pairs_weaker n m f g h c)

pub fits_more : {r : Rules} (n m : ℕ) {t : Term} → Bounded r n t → n ≤ m → Bounded r m t
fits_more n m k h = weaker n m (λ i a. a) (λ keys a. a) h k

-- a key of pairs
pub one_key : {r : Rules} (n : ℕ) (key : Term) (ps : List Pair) → PairsBounded r n ps → IsOneOf key (map (λ p. p.0) ps) → Bounded r n key
one_key n key [] h o = absurd o
one_key {r = r} n key (p ∷ ps) (more_pairs k v h) o = ⊎_elim (λ e. subst (λ t. Bounded r n t) (sym e) k) (λ m. one_key n key ps h m) o

-- Picks as lists in order: what one more decision leaves.
use Rattle.std.proofs.Common.{◌≡◌, ◌≢◌, ℕ, zero, suc, ◌<◌, Bool, true, false, not, ◌&&◌, ◌||◌, cond, List, [], ◌∷◌, ◌++◌, map, filter, find, get_or, insert, length, bytes_eq, IsFalse, ◌+◌, Option, Some, None, is_some, ◌⊎◌, inl, inr, refl, sym, ap, subst, ◌∙◌, arith, Less, Equal, Greater, Ordering}
use native.Mathlib.Numerals.{unary_clauses}
use Rattle.std.specs.List.{list_any, list_all, position_or_len, Contains, IsAllAdjacentAnswer}
use Rattle.std.proofs.lemmas.Bool.{ltb-false}
use Rattle.std.specs.Ordering.{is_lt, ordering_reverse}
use Rattle.std.proofs.lemmas.Cmp.{nat_list_cmp_total}
use Rattle.mx_base.specs.Order.{text_cmp, IsBefore, ArePathsInOrder}
use Rattle.hex_registry.specs.Picks.{Picked, ArePicks, adding, has_package, picked_of, with_picked, without_package}
use Rattle.hex_registry.proofs.Lists.{any_found, any_from, contains_cases, contains_none, here, there}
use Rattle.hex_registry.proofs.NameOrder.{before_each, not_before_itself, one_way, same_of_equal}
use Rattle.hex_registry.proofs.ValidLemmas.{bytes_itself, same_bytes}

-- what is picked
pub has_any : (pick : List Picked) (name : List ℕ) → has_package pick name ≡ list_any (λ (q : Picked). bytes_eq name q.0) pick
has_any [] name = refl
has_any (first ∷ rest) name =
    elim (bytes_eq name first.0) as (λ b. is_some (cond b (Some first) (picked_of rest name)) ≡ (b || list_any (λ (q : Picked). bytes_eq name q.0) rest)) [
      | true ↦ refl
      | false ↦ has_any rest name
    ]

pub has_found : (pick : List Picked) (name : List ℕ) → has_package pick name ≡ true → (place : ℕ) × Contains pick (name, place)
has_found pick name h =
    let k = any_found (λ (q : Picked). bytes_eq name q.0) pick (sym (has_any pick name) ∙ h) in
    (k.0.1, subst (λ (n : List ℕ). Contains pick (n, k.0.1)) (sym (same_bytes name k.0.0 k.2)) k.1)

pub has_from : (pick : List Picked) (q : Picked) → Contains pick q → has_package pick q.0 ≡ true
has_from pick q c = has_any pick q.0 ∙ any_from (λ (p : Picked). bytes_eq q.0 p.0) pick q c (bytes_itself q.0)

pub has_none : (pick : List Picked) (name : List ℕ) (place : ℕ) → has_package pick name ≡ false → Contains pick (name, place) → ⊥
has_none pick name place h c = let k : true ≡ false = sym (has_from pick (name, place) c) ∙ h in cc

-- picks in order with the same releases are one
tail_of : (x y : Picked) (xs ys : List Picked) → x ≡ y → IsBefore x.0 (map (λ (p : Picked). p.0) xs)
    → ((z : Picked) → Contains (x ∷ xs) z → Contains (y ∷ ys) z) → (z : Picked) → Contains xs z → Contains ys z
tail_of x y xs ys same before kept z has =
    elim (contains_cases y z ys (kept z (there x z xs has))) [
      | inl first ↦ absurd (not_before_itself x.0 (ap (λ (r : Picked). text_cmp x.0 r.0) (same ∙ first) ∙ before_each x.0 xs z before has))
      | inr rest ↦ rest
    ]

pub same_picks : (xs ys : List Picked) → ArePicks xs → ArePicks ys → ((z : Picked) → Contains xs z → Contains ys z)
    → ((z : Picked) → Contains ys z → Contains xs z) → xs ≡ ys
same_picks [] [] o p to from = refl
same_picks [] (y ∷ ys) o p to from = absurd (contains_none y (from y (here y ys)))
same_picks (x ∷ xs) [] o p to from = absurd (contains_none x (to x (here x xs)))
same_picks (x ∷ xs) (y ∷ ys) o p to from =
    let same : x ≡ y =
    elim (contains_cases y x ys (to x (here x xs))) [
      | inl e ↦ sym e
      | inr c ↦ elim (contains_cases x y xs (from y (here y ys))) [
        | inl e ↦ e
        | inr d ↦ absurd (one_way x.0 y.0 (before_each x.0 xs y o.0 d) (before_each y.0 ys x p.0 c))
      ]
    ] in
    let rest = same_picks xs ys o.1 p.1 (tail_of x y xs ys same o.0 to) (tail_of y x ys xs (sym same) p.0 from) in
    ap (λ (z : Picked). z ∷ xs) same ∙ ap (λ (zs : List Picked). y ∷ zs) rest

-- one more decision: what it leaves where the first pick stands before, and where it doesn't
decide_cases : (P : List Picked → Type 0) (first : Picked) (rest : List Picked) (p : Picked) → P (first ∷ with_picked rest p) → P (p ∷ first ∷ rest)
    → P (with_picked (first ∷ rest) p)
decide_cases P first rest p later now =
    elim (is_lt (text_cmp first.0 p.0)) as (λ b. P (cond b (first ∷ with_picked rest p) (p ∷ first ∷ rest))) [ true ↦ later | false ↦ now ]

pub all_decided : (t : Picked → Bool) (pick : List Picked) (p : Picked) → list_all t (with_picked pick p) ≡ (t p && list_all t pick)
all_decided t [] p = refl
all_decided t (first ∷ rest) p =
    decide_cases (λ (ps : List Picked). list_all t ps ≡ (t p && (t first && list_all t rest))) first rest p
    (ap (λ b. t first && b) (all_decided t rest p) ∙ swapped (t first) (t p) (list_all t rest))
    refl
  where
    swapped : (a b c : Bool) → (a && (b && c)) ≡ (b && (a && c))
    swapped true true c = refl
    swapped true false c = refl
    swapped false true c = refl
    swapped false false c = refl

pub any_decided : (t : Picked → Bool) (pick : List Picked) (p : Picked) → list_any t (with_picked pick p) ≡ (t p || list_any t pick)
any_decided t [] p = refl
any_decided t (first ∷ rest) p =
    decide_cases (λ (ps : List Picked). list_any t ps ≡ (t p || (t first || list_any t rest))) first rest p
    (ap (λ b. t first || b) (any_decided t rest p) ∙ swapped (t first) (t p) (list_any t rest))
    refl
  where
    swapped : (a b c : Bool) → (a || (b || c)) ≡ (b || (a || c))
    swapped true true c = refl
    swapped true false c = refl
    swapped false true c = refl
    swapped false false c = refl

pub has_decided : (pick : List Picked) (p : Picked) (name : List ℕ) → has_package (with_picked pick p) name ≡ (bytes_eq name p.0 || has_package pick name)
has_decided pick p name =
    has_any (with_picked pick p) name ∙ any_decided (λ (q : Picked). bytes_eq name q.0) pick p ∙ ap (λ b. bytes_eq name p.0 || b) (sym (has_any pick name))

pub decided_cases : (pick : List Picked) (p q : Picked) → Contains (with_picked pick p) q → (p ≡ q) ⊎ Contains pick q
decided_cases [] p q = λ c. elim (contains_cases p q [] c) [ inl e ↦ inl e | inr more ↦ inr more ]
decided_cases (first ∷ rest) p q =
    decide_cases (λ (ps : List Picked). Contains ps q → (p ≡ q) ⊎ Contains (first ∷ rest) q) first rest p
    (λ c. elim (contains_cases first q (with_picked rest p) c) [
      | inl e ↦ inr (subst (λ (z : Picked). Contains (first ∷ rest) z) e (here first rest))
      | inr more ↦ elim (decided_cases rest p q more) [ inl e ↦ inl e | inr d ↦ inr (there first q rest d) ]
    ])
    (λ c. contains_cases p q (first ∷ rest) c)

pub decided_here : (pick : List Picked) (p : Picked) → Contains (with_picked pick p) p
decided_here [] p = here p []
decided_here (first ∷ rest) p =
    decide_cases (λ (ps : List Picked). Contains ps p) first rest p (there first p (with_picked rest p) (decided_here rest p)) (here p (first ∷ rest))

pub decided_more : (pick : List Picked) (p q : Picked) → Contains pick q → Contains (with_picked pick p) q
decided_more [] p q c = absurd (contains_none q c)
decided_more (first ∷ rest) p q c =
    decide_cases (λ (ps : List Picked). Contains ps q) first rest p
    (elim (contains_cases first q rest c) [
      | inl e ↦ subst (λ (z : Picked). Contains (first ∷ with_picked rest p) z) e (here first (with_picked rest p))
      | inr more ↦ there first q (with_picked rest p) (decided_more rest p q more)
    ])
    (there p q (first ∷ rest) c)

before_decided : (name : List ℕ) (pick : List Picked) (p : Picked) → text_cmp name p.0 ≡ Less → IsBefore name (map (λ (q : Picked). q.0) pick)
    → IsBefore name (map (λ (q : Picked). q.0) (with_picked pick p))
before_decided name [] p less b = (less, tt)
before_decided name (first ∷ rest) p less b =
    decide_cases (λ (ps : List Picked). IsBefore name (map (λ (q : Picked). q.0) ps)) first rest p
    (b.0, before_decided name rest p less b.1)
    (less, b)

pub before_later : (name next : List ℕ) (names : List (List ℕ)) → text_cmp name next ≡ Less → IsBefore next names → IsBefore name names
before_later name next [] less b = tt
before_later name next (n ∷ names) less b = (nat_list_cmp_total.trans name next n less b.0, before_later name next names less b.1)

lt_cases : (o : Ordering) → (is_lt o ≡ true → o ≡ Less) × (is_lt o ≡ false → (o ≡ Equal) ⊎ (o ≡ Greater))
lt_cases Less = (λ h. refl, λ h. absurd (cc))
lt_cases Equal = (λ h. absurd (cc), λ h. inl refl)
lt_cases Greater = (λ h. absurd (cc), λ h. inr refl)

-- a decision of another package leaves picks in order
pub decided_in_order : (pick : List Picked) (p : Picked) → ArePicks pick → has_package pick p.0 ≡ false → ArePicks (with_picked pick p)
decided_in_order [] p o h = (tt, tt)
decided_in_order (first ∷ rest) p o h =
    (elim (is_lt (text_cmp first.0 p.0)) as (λ b. is_lt (text_cmp first.0 p.0) ≡ b → ArePicks (cond b (first ∷ with_picked rest p) (p ∷ first ∷ rest))) [
      | true ↦ (λ e.
          let less = (lt_cases (text_cmp first.0 p.0)).0 e in
          (before_decided first.0 rest p less o.0, decided_in_order rest p o.1 (rest_lacks (bytes_eq p.0 first.0) h)))
      | false ↦ (λ e. elim ((lt_cases (text_cmp first.0 p.0)).1 e) [
        | inl same ↦ absurd (let k = same_of_equal first.0 p.0 same in
            has_none (first ∷ rest) p.0 first.1 h (subst (λ (n : List ℕ). Contains (first ∷ rest) (n, first.1)) k (here first rest)))
        | inr more ↦ (let less : text_cmp p.0 first.0 ≡ Less = nat_list_cmp_total.antisymm p.0 first.0 ∙ ap ordering_reverse more in
            ((less, before_later p.0 first.0 (map (λ (q : Picked). q.0) rest) less o.0), o))
      ])
    ]) refl
  where
    rest_lacks : (b : Bool) → is_some (cond b (Some first) (picked_of rest p.0)) ≡ false → has_package rest p.0 ≡ false
    rest_lacks true k = absurd (cc)
    rest_lacks false k = k

insert_more : (first : Picked) (rest : List Picked) (n : ℕ) (p : Picked) → insert (first ∷ rest) (1 + n) p ≡ first ∷ insert rest n p
insert_more first rest n p = let e : 1 + n ≡ suc n = omega arith in ap (λ (m : ℕ). insert (first ∷ rest) m p) e

-- where a package is put
pub inserted_is : (pick : List Picked) (p : Picked)
    → insert pick (position_or_len (λ (q : Picked). not (is_lt (text_cmp q.0 p.0))) pick) p ≡ with_picked pick p
inserted_is [] p = refl
inserted_is (first ∷ rest) p =
    elim (is_lt (text_cmp first.0 p.0)) as (λ b. insert (first ∷ rest) (cond (not (not b))
    (1 + position_or_len (λ (q : Picked). not (is_lt (text_cmp q.0 p.0))) rest) 0) p ≡ cond b (first ∷ with_picked rest p) (p ∷ first ∷ rest)) [
      | true ↦ insert_more first rest (position_or_len (λ (q : Picked). not (is_lt (text_cmp q.0 p.0))) rest) p ∙ ap (λ (ps : List Picked). first ∷ ps)
          (inserted_is rest p)
      | false ↦ refl
    ]

-- adding a package
pub added_is : (pick : List Picked) (p : Picked) → has_package pick p.0 ≡ false → adding pick p ≡ with_picked pick p
added_is pick p h = ap (λ (b : Bool). cond b pick (with_picked pick p)) h

pub added_stays : (pick : List Picked) (p : Picked) → has_package pick p.0 ≡ true → adding pick p ≡ pick
added_stays pick p h = ap (λ (b : Bool). cond b pick (with_picked pick p)) h

before_without : (name : List ℕ) (t : Picked → Bool) (pick : List Picked) → IsBefore name (map (λ (q : Picked). q.0) pick)
    → IsBefore name (map (λ (q : Picked). q.0) (filter t pick))
before_without name t [] b = tt
before_without name t (first ∷ rest) b =
    elim (t first) as (λ c. IsBefore name (map (λ (q : Picked). q.0) (cond c (first ∷ filter t rest) (filter t rest)))) [
      | true ↦ (b.0, before_without name t rest b.1)
      | false ↦ before_without name t rest b.1
    ]

filtered_in_order : (t : Picked → Bool) (pick : List Picked) → ArePicks pick → ArePicks (filter t pick)
filtered_in_order t [] o = tt
filtered_in_order t (first ∷ rest) o =
    elim (t first) as (λ c. ArePicks (cond c (first ∷ filter t rest) (filter t rest))) [
      | true ↦ (before_without first.0 t rest o.0, filtered_in_order t rest o.1)
      | false ↦ filtered_in_order t rest o.1
    ]

pub without_in_order : (pick : List Picked) (name : List ℕ) → ArePicks pick → ArePicks (without_package pick name)
without_in_order pick name o = filtered_in_order (λ (q : Picked). not (bytes_eq name q.0)) pick o

kept_whole : (t : Picked → Bool) (pick : List Picked) → ((q : Picked) → Contains pick q → t q ≡ true) → filter t pick ≡ pick
kept_whole t [] f = refl
kept_whole t (first ∷ rest) f =
    ap (λ (c : Bool). cond c (first ∷ filter t rest) (filter t rest)) (f first (here first rest)) ∙ ap (λ (ps : List Picked). first ∷ ps)
    (kept_whole t rest (λ q c. f q (there first q rest c)))

taken_out : (t : Picked → Bool) (pick : List Picked) (p : Picked) → t p ≡ false → filter t (with_picked pick p) ≡ filter t pick
taken_out t [] p e = ap (λ (c : Bool). cond c (p ∷ []) []) e
taken_out t (first ∷ rest) p e =
    decide_cases (λ (ps : List Picked). filter t ps ≡ filter t (first ∷ rest)) first rest p
    (ap (λ (ps : List Picked). cond (t first) (first ∷ ps) ps) (taken_out t rest p e))
    (ap (λ (c : Bool). cond c (p ∷ filter t (first ∷ rest)) (filter t (first ∷ rest))) e)

-- a package that is added and taken out leaves the pick
pub undone : (pick : List Picked) (p : Picked) → has_package pick p.0 ≡ false → without_package (with_picked pick p) p.0 ≡ pick
undone pick p h =
    taken_out (λ (q : Picked). not (bytes_eq p.0 q.0)) pick p (ap not (bytes_itself p.0))
    ∙ kept_whole (λ (q : Picked). not (bytes_eq p.0 q.0)) pick (λ q c. ap not (lacks q c (bytes_eq p.0 q.0) refl))
  where
    lacks : (q : Picked) → Contains pick q → (b : Bool) → bytes_eq p.0 q.0 ≡ b → b ≡ false
    lacks q c true e = absurd (has_none pick p.0 q.1 h (subst (λ (n : List ℕ). Contains pick (n, q.1)) (sym (same_bytes p.0 q.0 e)) c))
    lacks q c false e = refl

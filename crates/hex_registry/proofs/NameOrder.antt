-- Names in byte order, and picks whose packages stand so.
use Rattle.std.proofs.Common.{◌≡◌, ℕ, zero, suc, ◌+◌, ◌<◌, ◌≤◌, Bool, true, false, cond, List, [], ◌∷◌, map, find, length, get_or, Option, Some, None, ◌⊎◌, inl, inr, refl, sym, ap, subst, ◌∙◌, arith, is_le, Less, Equal, Greater, Ordering}
use Rattle.std.specs.List.{Contains}
use Rattle.std.specs.Ordering.{is_eq, is_gt, ordering_reverse}
use Rattle.std.proofs.lemmas.Cmp.{nat_list_cmp_total, upto}
use Rattle.mx_base.specs.Order.{text_cmp, IsBefore, ArePathsInOrder}
use Rattle.tree_store.proofs.OrderLemmas.{equal_itself, less_back, same_name}
use Rattle.hex_registry.specs.Picks.{Picked, ArePicks}
use Rattle.hex_registry.proofs.Lists.{here, there, contains_cases, contains_none}

pub le_itself : (a : List ℕ) → is_le (text_cmp a a) ≡ true
le_itself a = ap is_le (equal_itself a)

not_gt : (o : Ordering) → is_le o ≡ true → is_gt o ≡ false
not_gt Less e = refl
not_gt Equal e = refl
not_gt Greater e = absurd (cc)

le_of : (o : Ordering) → is_gt o ≡ false → is_le o ≡ true
le_of Less e = refl
le_of Equal e = refl
le_of Greater e = absurd (cc)

pub le_then : (a b c : List ℕ) → is_le (text_cmp a b) ≡ true → is_le (text_cmp b c) ≡ true → is_le (text_cmp a c) ≡ true
le_then a b c h k = le_of (text_cmp a c) (upto nat_list_cmp_total a b c (not_gt (text_cmp a b) h) (not_gt (text_cmp b c) k))

pub same_of_equal : (a b : List ℕ) → text_cmp a b ≡ Equal → a ≡ b
same_of_equal a b e = same_name a b (ap is_eq e)

pub le_both : (a b : List ℕ) → is_le (text_cmp a b) ≡ true → is_le (text_cmp b a) ≡ true → a ≡ b
le_both a b h k = at (text_cmp a b) refl h
  where
    at : (o : Ordering) → text_cmp a b ≡ o → is_le o ≡ true → a ≡ b
    at Less e l = absurd (let m : false ≡ true = sym (ap is_le (less_back a b e)) ∙ k in cc)
    at Equal e l = same_of_equal a b e
    at Greater e l = absurd (cc)

-- where the one isn't at most the other, the other is at most the one
pub le_other : (a b : List ℕ) → is_le (text_cmp a b) ≡ false → is_le (text_cmp b a) ≡ true
le_other a b h = at (text_cmp a b) refl h
  where
    at : (o : Ordering) → text_cmp a b ≡ o → is_le o ≡ false → is_le (text_cmp b a) ≡ true
    at Less e l = absurd (cc)
    at Equal e l = absurd (cc)
    at Greater e l = ap is_le (nat_list_cmp_total.antisymm b a ∙ ap ordering_reverse e)

-- the packages that stand after a name
pub before_each : (name : List ℕ) (pick : List Picked) (q : Picked) → IsBefore name (map (λ (p : Picked). p.0) pick) → Contains pick q
    → text_cmp name q.0 ≡ Less
before_each name [] q b c = absurd (contains_none q c)
before_each name (first ∷ rest) q b c =
    elim (contains_cases first q rest c) [
      | inl e ↦ ap (λ (p : Picked). text_cmp name p.0) (sym e) ∙ b.0
      | inr more ↦ before_each name rest q b.1 more
    ]

pub not_before_itself : (name : List ℕ) → text_cmp name name ≡ Less → ⊥
not_before_itself name h = let k : Equal ≡ Less = sym (equal_itself name) ∙ h in cc

pub one_way : (a b : List ℕ) → text_cmp a b ≡ Less → text_cmp b a ≡ Less → ⊥
one_way a b h k = let e : Less ≡ Greater = sym k ∙ less_back a b h in cc

-- one release of each package
pub one_place : (pick : List Picked) (name : List ℕ) (one other : ℕ) → ArePicks pick → Contains pick (name, one) → Contains pick (name, other) → one ≡ other
one_place [] name one other o c d = absurd (contains_none (name, one) c)
one_place (first ∷ rest) name one other o c d =
    elim (contains_cases first (name, one) rest c) [
      | inl e ↦ elim (contains_cases first (name, other) rest d) [
        | inl f ↦ ap (λ (q : Picked). q.1) (sym e ∙ f)
        | inr f ↦ absurd (not_before_itself name (ap (λ (q : Picked). text_cmp q.0 name) (sym e) ∙ before_each first.0 rest (name, other) o.0 f))
      ]
      | inr e ↦ elim (contains_cases first (name, other) rest d) [
        | inl f ↦ absurd (not_before_itself name (ap (λ (q : Picked). text_cmp q.0 name) (sym f) ∙ before_each first.0 rest (name, one) o.0 e))
        | inr f ↦ one_place rest name one other o.1 e f
      ]
    ]

-- the first pick that passes a test is of the least package of those that do
pub first_of : (t : Picked → Bool) (pick : List Picked) (q other : Picked) → ArePicks pick → find t pick ≡ Some q → Contains pick other → t other ≡ true
    → is_le (text_cmp q.0 other.0) ≡ true
first_of t [] q other o e c h = absurd (contains_none other c)
first_of t (first ∷ rest) q other o e c h =
    (elim (t first) as (λ b. t first ≡ b → cond b (Some first) (find t rest) ≡ Some q → is_le (text_cmp q.0 other.0) ≡ true) [
      | true ↦ (λ k f. let same : first ≡ q = cc in
          elim (contains_cases first other rest c) [
            | inl is ↦ subst (λ (p : Picked). is_le (text_cmp q.0 p.0) ≡ true) (sym same ∙ is) (le_itself q.0)
            | inr more ↦ subst (λ (p : Picked). is_le (text_cmp p.0 other.0) ≡ true) same (ap is_le (before_each first.0 rest other o.0 more))
          ])
      | false ↦ (λ k f. elim (contains_cases first other rest c) [
        | inl is ↦ absurd (let clash : true ≡ false = sym h ∙ ap t (sym is) ∙ k in cc)
        | inr more ↦ first_of t rest q other o.1 f more h
      ])
    ]) refl e

-- of two places the lesser has the lesser package
pub in_order_at : (pick : List Picked) (i : ℕ) (one other : Picked) → ArePicks pick → i < length pick → get_or pick i one ≡ one → (c : Contains pick other)
    → i ≤ c.0 → is_le (text_cmp one.0 other.0) ≡ true
in_order_at [] i one other o l e c h = absurd (contains_none other c)
in_order_at (first ∷ rest) zero one other o l e c h =
    elim (contains_cases first other rest c) [
      | inl is ↦ subst (λ (p : Picked). is_le (text_cmp one.0 p.0) ≡ true) (sym e ∙ is) (le_itself one.0)
      | inr more ↦ subst (λ (p : Picked). is_le (text_cmp p.0 other.0) ≡ true) e (ap is_le (before_each first.0 rest other o.0 more))
    ]
in_order_at (first ∷ rest) (suc i) one other o l e (zero, below, is) h = absurd (omega (arith, h))
in_order_at (first ∷ rest) (suc i) one other o l e (suc k, below, is) h =
    in_order_at rest i one other o.1 (omega (arith, l)) e (k, omega (arith, below), is) (omega (arith, h))

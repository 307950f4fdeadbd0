-- Texts in order.
use Rattle.std.proofs.Common.{◌≡◌, ℕ, zero, suc, ◌<◌, Bool, true, false, cond, ◌⊎◌, inl, inr, List, [], ◌∷◌, filter, length, slice_index_or, Contains, sym, ◌∙◌, ap, arith, nat_eq}
use Rattle.std.specs.declared.cmp.Ordering.TheVariants.{Less, Equal, Greater}
use Rattle.std.specs.Ordering.{is_eq, ordering_reverse}
use Rattle.std.specs.Cmp.Lexicographic.{pointwise, texts_ties, same_text}
use Rattle.std.proofs.lemmas.Cmp.{nat_list_cmp_total, tied_itself}
use Rattle.mx_base.specs.Order.{text_cmp, IsBefore, ArePathsInOrder}

pub less_back : (a b : List ℕ) → text_cmp a b ≡ Less → text_cmp b a ≡ Greater
less_back a b e = nat_list_cmp_total.antisymm b a ∙ ap ordering_reverse e

pub equal_itself : (a : List ℕ) → text_cmp a a ≡ Equal
equal_itself a = tied_itself nat_list_cmp_total a

-- texts that compare as equal are one text
pub same_name : (a b : List ℕ) → is_eq (text_cmp a b) ≡ true → a ≡ b
same_name a b e = same_text a b (sym (texts_ties a b ∙ e))

pub same_bytes : (a b : List ℕ) → pointwise nat_eq a b ≡ true → a ≡ b
same_bytes a b e = same_text a b (sym e)

pub ties_itself : (a b : List ℕ) → a ≡ b → is_eq (text_cmp a b) ≡ true
ties_itself a b e = ap (λ (t : List ℕ). is_eq (text_cmp a t)) (sym e) ∙ ap is_eq (equal_itself a)

pub before_filter : (test : List ℕ → Bool) (a : List ℕ) (ps : List (List ℕ)) → IsBefore a ps → IsBefore a (filter test ps)
before_filter test a [] b = tt
before_filter test a (p ∷ ps) b =
    elim (test p) as (λ t. IsBefore a (cond t (p ∷ filter test ps) (filter test ps))) [
      | true ↦ (b.0, before_filter test a ps b.1)
      | false ↦ before_filter test a ps b.1
    ]

-- a part of a list in order is in order
pub in_order_filter : (test : List ℕ → Bool) (ps : List (List ℕ)) → ArePathsInOrder ps → ArePathsInOrder (filter test ps)
in_order_filter test [] o = tt
in_order_filter test (p ∷ ps) o =
    elim (test p) as (λ t. ArePathsInOrder (cond t (p ∷ filter test ps) (filter test ps))) [
      | true ↦ (before_filter test p ps o.0, in_order_filter test ps o.1)
      | false ↦ in_order_filter test ps o.1
    ]

pub contains_either : (x : List ℕ) (xs : List (List ℕ)) (a : List ℕ) → Contains (x ∷ xs) a → (x ≡ a) ⊎ Contains xs a
contains_either x xs a c = at c.0 c.1 c.2
  where
    at : (k : ℕ) → k < length (x ∷ xs) → slice_index_or (x ∷ xs) k a ≡ a → (x ≡ a) ⊎ Contains xs a
    at zero l e = inl e
    at (suc k) l e = inr (k, omega (arith, l), e)

-- a text isn't among those that it stands before
pub not_among : (a : List ℕ) (ps : List (List ℕ)) → IsBefore a ps → Contains ps a → ⊥
not_among a [] b c = absurd (omega (arith, c.1))
not_among a (p ∷ ps) b c = at (contains_either p ps a c) b.0 (not_among a ps b.1)
  where
    at : (p ≡ a) ⊎ Contains ps a → text_cmp a p ≡ Less → (Contains ps a → ⊥) → ⊥
    at (inl e) less rest = let own : Equal ≡ Less = sym (equal_itself a) ∙ ap (λ (t : List ℕ). text_cmp a t) (sym e) ∙ less in cc
    at (inr more) less rest = rest more

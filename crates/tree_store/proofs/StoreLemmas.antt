-- Builds and their slots.
use Rattle.std.proofs.Common.{◌≡◌, ℕ, Bool, true, false, cond, Option, List, refl, sym, ◌∙◌, ap, subst}
use Rattle.std.specs.declared.cmp.Ordering.{Ordering}
use Rattle.std.specs.declared.cmp.Ordering.TheVariants.{Less, Equal, Greater}
use Rattle.std.specs.Ordering.{is_eq, ordering_then}
use Rattle.mx_base.specs.Order.{text_cmp}
use Rattle.tree_store.specs.declared.holding.Holding.{Holding}
use Rattle.tree_store.specs.declared.key.BuildKey.{BuildKey}
use Rattle.tree_store.specs.Key.{is_same_build}
use Rattle.tree_store.specs.Slot.{Slot, SetsSlot, ChangesSlot}
use Rattle.tree_store.specs.Slot.Slot.{Here, Out}
use Rattle.tree_store.proofs.OrderLemmas.{same_name, ties_itself}

both_equal : (r s : Ordering) → is_eq (ordering_then r s) ≡ true → (is_eq r ≡ true) × (is_eq s ≡ true)
both_equal Less s e = cc
both_equal Equal s e = (refl, e)
both_equal Greater s e = cc

both_are_equal : (r s : Ordering) → is_eq r ≡ true → is_eq s ≡ true → is_eq (ordering_then r s) ≡ true
both_are_equal Less s e h = cc
both_are_equal Equal s e h = h
both_are_equal Greater s e h = cc

pub same_key : (key q : BuildKey) → is_same_build key q ≡ true → (key.env ≡ q.env) × (key.app ≡ q.app)
same_key key q e =
    let b = both_equal (text_cmp key.env q.env) (text_cmp key.app q.app) e in
    (same_name key.env q.env b.0, same_name key.app q.app b.1)

pub is_same : (key q : BuildKey) → key.env ≡ q.env → key.app ≡ q.app → is_same_build key q ≡ true
is_same key q e h =
    both_are_equal (text_cmp key.env q.env) (text_cmp key.app q.app) (ties_itself key.env q.env e) (ties_itself key.app q.app h)

pub is_same_itself : (key : BuildKey) → is_same_build key key ≡ true
is_same_itself key = is_same key key refl refl

-- the same build is one key
pub one_key : (key q : BuildKey) → is_same_build key q ≡ true → key ≡ q
one_key key q is =
    let k = same_key key q is in
    ap (λ (p : List ℕ × List ℕ). record { env = p.0; app = p.1 }) (pair_path k.0 k.1)
  where
    pair_path : {a b c d : List ℕ} → a ≡ b → c ≡ d → ◌≡◌ {A = List ℕ × List ℕ} (a, c) (b, d)
    pair_path h g = λ i. (h i, g i)

-- a slot that was set is that
pub slot_after_set : (key q : BuildKey) (slot : Slot) (old new : BuildKey → Slot) → SetsSlot key slot old new → q ≡ key → new q ≡ slot
slot_after_set key q slot old new sets e =
    sets q ∙ ap (λ (b : Bool). cond b slot (old q)) (ap (is_same_build key) e ∙ is_same_itself key)

-- a folder that was handed out and came back
pub lent_and_back : (key back_key : BuildKey) (step : Slot → Slot) (held : Option Holding) (old mid new : BuildKey → Slot) → SetsSlot key Out old mid → back_key ≡ key → SetsSlot back_key (Here held) mid new → step (old key) ≡ Here held → ChangesSlot key step old new
lent_and_back key back_key step held old mid new out own back is q = at (is_same_build key q) refl (subst (λ (k : BuildKey). new q ≡ cond (is_same_build k q) (Here held) (mid q)) own (back q)) (out q)
  where
    at : (b : Bool) → is_same_build key q ≡ b → new q ≡ cond b (Here held) (mid q) → mid q ≡ cond b Out (old q) → new q ≡ cond b (step (old q)) (old q)
    at true same n m = n ∙ sym is ∙ ap (λ (k : BuildKey). step (old k)) (one_key key q same)
    at false same n m = n ∙ m

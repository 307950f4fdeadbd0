-- What a store in memory has after a write, and which apps it lists.
use Rattle.std.proofs.Common.{◌≡◌, ℕ, suc, Bool, true, false, cond, ◌&&◌, ◌⊎◌, inl, inr, Option, Some, None, IsSome, List, [], ◌∷◌, refl, sym, ◌∙◌, ap, subst, arith, nat_eq, Contains}
use Rattle.std.specs.declared.cmp.Ordering.{Ordering}
use Rattle.std.specs.declared.cmp.Ordering.TheVariants.{Less}
use Rattle.std.specs.Ordering.{ordering_then}
use Rattle.std.specs.Cmp.Lexicographic.{pointwise, nat_list_eq_equiv}
use Rattle.std.specs.List.{AllByRecursion}
use Rattle.std.specs.List.Sorted.{IsStrictlySortedBy}
use Rattle.std.specs.BTreeMap.{BTreeMap, get, WritesThrough, is_at}
use Rattle.std.specs.Map.{lookup, keys_of}
use Rattle.mx_base.specs.Order.{text_cmp, IsBefore, ArePathsInOrder}
use Rattle.tree_store.specs.declared.holding.Holding.{Holding}
use Rattle.tree_store.specs.declared.key.BuildKey.{BuildKey}
use Rattle.tree_store.specs.Key.{key_cmp, is_same_build}
use Rattle.tree_store.specs.Slot.{Slot, SetsSlot, Lists, ListsIf}
use Rattle.tree_store.specs.Slot.Slot.{Here, Out}
use Rattle.tree_store.specs.Holding.{has_any}
use Rattle.tree_store.specs.MemStore.{slot_of, keeps_any, apps_in}
use Rattle.tree_store.proofs.OrderLemmas.{equal_itself, same_bytes, contains_either, not_among}
use Rattle.tree_store.proofs.StoreLemmas.{same_key, is_same}

abbrev Kept : Type 0
Kept = Option Holding

slot_out : (o : Option Kept) → slot_of o ≡ Out → IsSome o
slot_out None e = cc
slot_out (Some None) e = refl
slot_out (Some (Some held)) e = refl

slot_cond : (b : Bool) (w : Kept) (o : Option Kept) → slot_of (cond b (Some w) o) ≡ cond b (slot_of (Some w)) (slot_of o)
slot_cond true w o = refl
slot_cond false w o = refl

pub slot_written : (m n : BTreeMap BuildKey Kept) (key : BuildKey) (w : Kept) → slot_of (get key_cmp m key) ≡ Out → WritesThrough key_cmp (key_cmp key) m w n → SetsSlot key (slot_of (Some w)) (λ q. slot_of (get key_cmp m q)) (λ q. slot_of (get key_cmp n q))
slot_written m n key w out writes q =
    ap slot_of ((writes.3 (slot_out (get key_cmp m key) out)).0 q) ∙ slot_cond (is_same_build key q) w (get key_cmp m q)

abbrev Entries : Type 0
Entries = List (BuildKey × Kept)

-- the entry's app is listed in the environment
abbrev is_listed : List ℕ → BuildKey × Kept → Bool
is_listed env e = pointwise nat_eq e.0.env env && keeps_any e.1

both : (a b : Bool) → (a && b) ≡ true → (a ≡ true) × (b ≡ true)
both true b e = (refl, e)
both false b e = cc

listed_env : (env : List ℕ) (e : BuildKey × Kept) → is_listed env e ≡ true → e.0.env ≡ env
listed_env env e is = same_bytes e.0.env env (both (pointwise nat_eq e.0.env env) (keeps_any e.1) is).0

-- an app stands before those of later entries of its environment
before_apps : (key : BuildKey) (env : List ℕ) (es : Entries) → key.env ≡ env → AllByRecursion (λ k. key_cmp key k ≡ Less) (keys_of es) → IsBefore key.app (apps_in env es)
before_apps key env [] own all = tt
before_apps key env (e ∷ es) own all = at (is_listed env e) refl all.0 (before_apps key env es own all.1)
  where
    at : (b : Bool) → is_listed env e ≡ b → key_cmp key e.0 ≡ Less → IsBefore key.app (apps_in env es) → IsBefore key.app (cond b (e.0.app ∷ apps_in env es) (apps_in env es))
    at true is less rest =
        let tied = sym (equal_itself key.env) ∙ ap (λ (t : List ℕ). text_cmp key.env t) (own ∙ sym (listed_env env e is)) in
        (ap (λ (r : Ordering). ordering_then r (text_cmp key.app e.0.app)) tied ∙ less, rest)
    at false is less rest = rest

-- the listed apps are in order
pub apps_in_order : (env : List ℕ) (es : Entries) → IsStrictlySortedBy key_cmp (keys_of es) → ArePathsInOrder (apps_in env es)
unfolding IsStrictlySortedBy
apps_in_order env [] order = tt
apps_in_order env (e ∷ es) order = at (is_listed env e) refl (apps_in_order env es order.1) order.0
  where
    at : (b : Bool) → is_listed env e ≡ b → ArePathsInOrder (apps_in env es) → AllByRecursion (λ k. key_cmp e.0 k ≡ Less) (keys_of es) → ArePathsInOrder (cond b (e.0.app ∷ apps_in env es) (apps_in env es))
    at true is rest all = (before_apps e.0 env es (listed_env env e is) all, rest)
    at false is rest all = rest

contains_more : (x : List ℕ) (xs : List (List ℕ)) (a : List ℕ) → Contains xs a → Contains (x ∷ xs) a
contains_more x xs a c = (suc c.0, omega (arith, c.1), c.2)

lists_if_more : (b : Bool) (x : List ℕ) (xs : List (List ℕ)) (a : List ℕ) → (x ≡ a → ⊥) → ListsIf b xs a → ListsIf b (x ∷ xs) a
lists_if_more true x xs a other l = contains_more x xs a l
lists_if_more false x xs a other l = λ c. at (contains_either x xs a c)
  where
    at : (x ≡ a) ⊎ Contains xs a → ⊥
    at (inl e) = other e
    at (inr c) = l c

-- another app more
lists_more : (slot : Slot) (x : List ℕ) (xs : List (List ℕ)) (a : List ℕ) → (x ≡ a → ⊥) → Lists slot xs a → Lists slot (x ∷ xs) a
lists_more (Here None) x xs a other l = tt
lists_more (Here (Some held)) x xs a other l = lists_if_more (has_any held) x xs a other l
lists_more Out x xs a other l = tt

lists_either : (b : Bool) (slot : Slot) (x : List ℕ) (xs : List (List ℕ)) (a : List ℕ) → (b ≡ true → x ≡ a → ⊥) → Lists slot xs a → Lists slot (cond b (x ∷ xs) xs) a
lists_either true slot x xs a other l = lists_more slot x xs a (other refl) l
lists_either false slot x xs a other l = l

lists_if_here : (b : Bool) (x : List ℕ) (xs : List (List ℕ)) → IsBefore x xs → ListsIf b (cond b (x ∷ xs) xs) x
lists_if_here true x xs before = (0, omega arith, refl)
lists_if_here false x xs before = not_among x xs before

lists_here : (kept : Kept) (x : List ℕ) (xs : List (List ℕ)) → IsBefore x xs → Lists (slot_of (Some kept)) (cond (keeps_any kept) (x ∷ xs) xs) x
lists_here None x xs before = tt
lists_here (Some held) x xs before = lists_if_here (has_any held) x xs before

-- one entry more
lists_entry : (key : BuildKey) (e : BuildKey × Kept) (es : Entries) (o : Option Kept) (b : Bool) → is_same_build key e.0 ≡ b → AllByRecursion (λ k. key_cmp e.0 k ≡ Less) (keys_of es) → Lists (slot_of o) (apps_in key.env es) key.app → Lists (slot_of (cond b (Some e.1) o)) (apps_in key.env (e ∷ es)) key.app
lists_entry key e es o true is all rest =
    let k = same_key key e.0 is in
    let apps = apps_in key.env es in
    let own : pointwise nat_eq e.0.env key.env ≡ true = subst (λ (n : List ℕ). pointwise nat_eq e.0.env n ≡ true) (sym k.0) (nat_list_eq_equiv.refl e.0.env) in
    subst (λ (t : Bool). Lists (slot_of (Some e.1)) (cond (t && keeps_any e.1) (e.0.app ∷ apps) apps) key.app) (sym own)
    (subst (λ (n : List ℕ). Lists (slot_of (Some e.1)) (cond (keeps_any e.1) (e.0.app ∷ apps) apps) n) (sym k.1)
    (lists_here e.1 e.0.app apps (before_apps e.0 key.env es (sym k.0) all)))
lists_entry key e es o false is all rest =
    lists_either (is_listed key.env e) (slot_of o) e.0.app (apps_in key.env es) key.app
    (λ listed same. let clash : true ≡ false = sym (is_same key e.0 (sym (listed_env key.env e listed)) (sym same)) ∙ is in cc)
    rest

-- exactly the apps that have a file are listed
pub lists_apps : (env app : List ℕ) (es : Entries) → IsStrictlySortedBy key_cmp (keys_of es) → Lists (slot_of (lookup (is_at (key_cmp (record { env = env; app = app }))) es)) (apps_in env es) app
unfolding IsStrictlySortedBy
lists_apps env app [] order = λ c. absurd (omega (arith, c.1))
lists_apps env app (e ∷ es) order =
    let key : BuildKey = record { env = env; app = app } in
    lists_entry key e es (lookup (is_at (key_cmp key)) es) (is_same_build key e.0) refl order.0 (lists_apps env app es order.1)

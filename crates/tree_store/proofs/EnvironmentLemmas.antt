-- The environments of the entries of a store in memory.
use Rattle.std.proofs.Common.{◌≡◌, ℕ, zero, suc, Bool, true, false, cond, ◌⊎◌, inl, inr, Option, Some, None, IsSome, is_some, List, [], ◌∷◌, refl, sym, ◌∙◌, ap, subst, arith, Contains}
use Rattle.std.specs.declared.cmp.Ordering.{Ordering}
use Rattle.std.specs.declared.cmp.Ordering.TheVariants.{Less, Equal, Greater}
use Rattle.std.specs.Ordering.{is_eq, match_ordering}
use Rattle.std.specs.List.{AllByRecursion}
use Rattle.std.specs.List.Sorted.{IsStrictlySortedBy}
use Rattle.std.specs.BTreeMap.{is_at}
use Rattle.std.specs.BTreeSet.{insert_key}
use Rattle.std.specs.Map.{lookup, keys_of}
use Rattle.mx_base.specs.Order.{text_cmp, IsBefore, ArePathsInOrder}
use Rattle.tree_store.specs.declared.holding.Holding.{Holding}
use Rattle.tree_store.specs.declared.key.BuildKey.{BuildKey}
use Rattle.tree_store.specs.Key.{key_cmp, is_same_build}
use Rattle.tree_store.specs.MemStore.{slot_of, keeps_any, envs_in, inserted}
use Rattle.tree_store.specs.Slot.{AreEnvironments, HasAny, MayHaveAny}
use Rattle.tree_store.proofs.OrderLemmas.{same_name, contains_either}
use Rattle.tree_store.proofs.StoreLemmas.{same_key, is_same, one_key}

abbrev Names : Type 0
Names = List (List ℕ)

abbrev Entries : Type 0
Entries = List (BuildKey × Option Holding)

contains_more : (x : List ℕ) (xs : Names) (a : List ℕ) → Contains xs a → Contains (x ∷ xs) a
contains_more x xs a c = (suc c.0, omega (arith, c.1), c.2)

contains_first : (x : List ℕ) (xs : Names) → Contains (x ∷ xs) x
contains_first x xs = (0, omega arith, refl)

contains_as : (xs : Names) (a b : List ℕ) → a ≡ b → Contains xs a → Contains xs b
contains_as xs a b e c = subst (λ (n : List ℕ). Contains xs n) e c

-- ---- a set of names with one more

stays_in : (xs : Names) (k a : List ℕ) → Contains xs a → Contains (insert_key text_cmp xs k) a
stays_in [] k a c = contains_more k [] a c
stays_in (x ∷ xs) k a c = at (text_cmp k x) (contains_either x xs a c) (stays_in xs k a)
  where
    at : (r : Ordering) → (x ≡ a) ⊎ Contains xs a → (Contains xs a → Contains (insert_key text_cmp xs k) a) → Contains (match_ordering r (k ∷ x ∷ xs) (x ∷ xs) (x ∷ insert_key text_cmp xs k)) a
    at Less e rest = contains_more k (x ∷ xs) a c
    at Equal e rest = c
    at Greater (inl e) rest = contains_as (x ∷ insert_key text_cmp xs k) x a e (contains_first x (insert_key text_cmp xs k))
    at Greater (inr d) rest = contains_more x (insert_key text_cmp xs k) a (rest d)

is_in : (xs : Names) (k : List ℕ) → Contains (insert_key text_cmp xs k) k
is_in [] k = contains_first k []
is_in (x ∷ xs) k = at (text_cmp k x) refl (is_in xs k)
  where
    at : (r : Ordering) → text_cmp k x ≡ r → Contains (insert_key text_cmp xs k) k → Contains (match_ordering r (k ∷ x ∷ xs) (x ∷ xs) (x ∷ insert_key text_cmp xs k)) k
    at Less e rest = contains_first k (x ∷ xs)
    at Equal e rest = contains_as (x ∷ xs) x k (sym (same_name k x (ap is_eq e))) (contains_first x xs)
    at Greater e rest = contains_more x (insert_key text_cmp xs k) k rest

further : (x : List ℕ) (xs : Names) (k a : List ℕ) → (k ≡ a) ⊎ Contains xs a → (k ≡ a) ⊎ Contains (x ∷ xs) a
further x xs k a (inl e) = inl e
further x xs k a (inr c) = inr (contains_more x xs a c)

came_from : (xs : Names) (k a : List ℕ) → Contains (insert_key text_cmp xs k) a → (k ≡ a) ⊎ Contains xs a
came_from [] k a c = contains_either k [] a c
came_from (x ∷ xs) k a c = at (text_cmp k x) c (came_from xs k a)
  where
    later : (x ≡ a) ⊎ Contains (insert_key text_cmp xs k) a → (Contains (insert_key text_cmp xs k) a → (k ≡ a) ⊎ Contains xs a) → (k ≡ a) ⊎ Contains (x ∷ xs) a
    later (inl e) rest = inr (contains_as (x ∷ xs) x a e (contains_first x xs))
    later (inr d) rest = further x xs k a (rest d)

    at : (r : Ordering) → Contains (match_ordering r (k ∷ x ∷ xs) (x ∷ xs) (x ∷ insert_key text_cmp xs k)) a → (Contains (insert_key text_cmp xs k) a → (k ≡ a) ⊎ Contains xs a) → (k ≡ a) ⊎ Contains (x ∷ xs) a
    at Less d rest = contains_either k (x ∷ xs) a d
    at Equal d rest = inr d
    at Greater d rest = later (contains_either x (insert_key text_cmp xs k) a d) rest

stays_inserted : (xs ns : Names) (a : List ℕ) → Contains xs a → Contains (inserted xs ns) a
stays_inserted xs [] a c = c
stays_inserted xs (n ∷ ns) a c = stays_inserted (insert_key text_cmp xs n) ns a (stays_in xs n a c)

is_inserted : (xs ns : Names) (a : List ℕ) → Contains ns a → Contains (inserted xs ns) a
is_inserted xs [] a c = absurd (omega (arith, c.1))
is_inserted xs (n ∷ ns) a c = at (contains_either n ns a c) (is_inserted (insert_key text_cmp xs n) ns a)
  where
    at : (n ≡ a) ⊎ Contains ns a → (Contains ns a → Contains (inserted (insert_key text_cmp xs n) ns) a) → Contains (inserted (insert_key text_cmp xs n) ns) a
    at (inl e) rest = stays_inserted (insert_key text_cmp xs n) ns a (contains_as (insert_key text_cmp xs n) n a e (is_in xs n))
    at (inr d) rest = rest d

inserted_from : (xs ns : Names) (a : List ℕ) → Contains (inserted xs ns) a → Contains xs a ⊎ Contains ns a
inserted_from xs [] a c = inl c
inserted_from xs (n ∷ ns) a c = at (inserted_from (insert_key text_cmp xs n) ns a c)
  where
    once : (n ≡ a) ⊎ Contains xs a → Contains xs a ⊎ Contains (n ∷ ns) a
    once (inl e) = inr (contains_as (n ∷ ns) n a e (contains_first n ns))
    once (inr d) = inl d

    at : Contains (insert_key text_cmp xs n) a ⊎ Contains ns a → Contains xs a ⊎ Contains (n ∷ ns) a
    at (inl d) = once (came_from xs n a d)
    at (inr d) = inr (contains_more n ns a d)

-- ---- the entries' environments

kept_first : (kept : Option Holding) → HasAny (slot_of (Some kept)) → keeps_any kept ≡ true
kept_first None h = absurd h
kept_first (Some held) h = h

each_env : (key : BuildKey) (es : Entries) → HasAny (slot_of (lookup (is_at (key_cmp key)) es)) → Contains (envs_in es) key.env
each_env key [] h = cc
each_env key (e ∷ es) h = at (is_same_build key e.0) refl h (each_env key es)
  where
    more : (b : Bool) → Contains (envs_in es) key.env → Contains (cond b (e.0.env ∷ envs_in es) (envs_in es)) key.env
    more true c = contains_more e.0.env (envs_in es) key.env c
    more false c = c

    first : (b : Bool) → b ≡ true → e.0.env ≡ key.env → Contains (cond b (e.0.env ∷ envs_in es) (envs_in es)) key.env
    first true is e = contains_as (_ ∷ envs_in es) _ key.env e (contains_first _ (envs_in es))
    first false is e = cc

    at : (b : Bool) → is_same_build key e.0 ≡ b → HasAny (slot_of (cond b (Some e.1) (lookup (is_at (key_cmp key)) es))) → (HasAny (slot_of (lookup (is_at (key_cmp key)) es)) → Contains (envs_in es) key.env) → Contains (envs_in (e ∷ es)) key.env
    at true is has rest = first (keeps_any e.1) (kept_first e.1 has) (sym (same_key key e.0 is).0)
    at false is has rest = more (keeps_any e.1) (rest has)

none_later : (key : BuildKey) (es : Entries) → AllByRecursion (λ k. key_cmp key k ≡ Less) (keys_of es) → lookup (is_at (key_cmp key)) es ≡ None
none_later key [] all = refl
none_later key (e ∷ es) all =
    ap (λ (r : Ordering). cond (is_eq r) (Some e.1) (lookup (is_at (key_cmp key)) es)) all.0 ∙ none_later key es all.1

-- an app of the environment for which something may be kept
abbrev HasApp : List ℕ → Entries → Type 0
HasApp env es = (app : List ℕ) × IsSome (lookup (is_at (key_cmp (record { env = env; app = app }))) es) × MayHaveAny (slot_of (lookup (is_at (key_cmp (record { env = env; app = app }))) es))

may_keep : (kept : Option Holding) → keeps_any kept ≡ true → MayHaveAny (slot_of (Some kept))
may_keep None is = cc
may_keep (Some held) is = is

app_here : (env : List ℕ) (e : BuildKey × Option Holding) (es : Entries) → keeps_any e.1 ≡ true → e.0.env ≡ env → HasApp env (e ∷ es)
app_here env e es kept is =
    let key : BuildKey = record { env = env; app = e.0.app } in
    let found : lookup (is_at (key_cmp key)) (e ∷ es) ≡ Some e.1 = ap (λ (b : Bool). cond b (Some e.1) (lookup (is_at (key_cmp key)) es)) (is_same key e.0 (sym is) refl) in
    (e.0.app, ap (λ (o : Option (Option Holding)). is_some o) found, subst (λ (o : Option (Option Holding)). MayHaveAny (slot_of o)) (sym found) (may_keep e.1 kept))

app_later : (env : List ℕ) (e : BuildKey × Option Holding) (es : Entries) → AllByRecursion (λ k. key_cmp e.0 k ≡ Less) (keys_of es) → HasApp env es → HasApp env (e ∷ es)
app_later env e es all (app, there, may) = at (is_same_build key e.0) refl
  where
    key : BuildKey
    key = record { env = env; app = app }

    at : (b : Bool) → is_same_build key e.0 ≡ b → HasApp env (e ∷ es)
    at true is =
        let none : lookup (is_at (key_cmp key)) es ≡ None = ap (λ (k : BuildKey). lookup (is_at (key_cmp k)) es) (one_key key e.0 is) ∙ none_later e.0 es all in
        let clash : false ≡ true = subst (λ (o : Option (Option Holding)). IsSome o) none there in
        cc
    at false is =
        let found : lookup (is_at (key_cmp key)) (e ∷ es) ≡ lookup (is_at (key_cmp key)) es = ap (λ (b : Bool). cond b (Some e.1) (lookup (is_at (key_cmp key)) es)) is in
        (app, subst (λ (o : Option (Option Holding)). IsSome o) (sym found) there, subst (λ (o : Option (Option Holding)). MayHaveAny (slot_of o)) (sym found) may)

only_env : (env : List ℕ) (es : Entries) → IsStrictlySortedBy key_cmp (keys_of es) → Contains (envs_in es) env → HasApp env es
unfolding IsStrictlySortedBy
only_env env [] order c = absurd (omega (arith, c.1))
only_env env (e ∷ es) order c = at (keeps_any e.1) refl c (only_env env es order.1) order.0
  where
    either : (e.0.env ≡ env) ⊎ Contains (envs_in es) env → keeps_any e.1 ≡ true → (Contains (envs_in es) env → HasApp env es) → AllByRecursion (λ k. key_cmp e.0 k ≡ Less) (keys_of es) → HasApp env (e ∷ es)
    either (inl is) kept rest all = app_here env e es kept is
    either (inr d) kept rest all = app_later env e es all (rest d)

    at : (b : Bool) → keeps_any e.1 ≡ b → Contains (cond b (e.0.env ∷ envs_in es) (envs_in es)) env → (Contains (envs_in es) env → HasApp env es) → AllByRecursion (λ k. key_cmp e.0 k ≡ Less) (keys_of es) → HasApp env (e ∷ es)
    at true kept d rest all = either (contains_either e.0.env (envs_in es) env d) kept rest all
    at false kept d rest all = app_later env e es all (rest d)

pub are_environments : (envs : Names) (es : Entries) → envs ≡ inserted [] (envs_in es) → IsStrictlySortedBy key_cmp (keys_of es) → AreEnvironments (λ key. slot_of (lookup (is_at (key_cmp key)) es)) envs
are_environments envs es is order = record {
  each = λ key has. contains_in key.env (is_inserted [] (envs_in es) key.env (each_env key es has));
  only = λ env c. found env (inserted_from [] (envs_in es) env (subst (λ (ns : Names). Contains ns env) is c));
}
  where
    contains_in : (env : List ℕ) → Contains (inserted [] (envs_in es)) env → Contains envs env
    contains_in env c = subst (λ (ns : Names). Contains ns env) (sym is) c

    found : (env : List ℕ) → Contains [] env ⊎ Contains (envs_in es) env → (app : List ℕ) × MayHaveAny (slot_of (lookup (is_at (key_cmp (record { env = env; app = app }))) es))
    found env (inl c) = absurd (omega (arith, c.1))
    found env (inr c) = let has = only_env env es order c in (has.0, has.2)

before_all : (path : List ℕ) (ps : Names) → AllByRecursion (λ p. text_cmp path p ≡ Less) ps → IsBefore path ps
before_all path [] all = tt
before_all path (p ∷ ps) all = (all.0, before_all path ps all.1)

-- names that ascend are in order
pub sorted_in_order : (ps : Names) → IsStrictlySortedBy text_cmp ps → ArePathsInOrder ps
unfolding IsStrictlySortedBy
sorted_in_order [] order = tt
sorted_in_order (p ∷ ps) order = (before_all p ps order.0, sorted_in_order ps order.1)

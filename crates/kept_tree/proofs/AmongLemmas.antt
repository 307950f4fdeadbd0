-- Names among others, and builds by them.
use Rattle.std.proofs.Common.{◌≡◌, ℕ, ◌+◌, ◌<◌, Bool, true, false, cond, ◌&&◌, ◌||◌, List, [], ◌∷◌, map, take, filter, length, get_or, Contains, bytes_eq, refl, sym, ◌∙◌, ap, ap₂}
use Rattle.std.specs.declared.cmp.Ordering.{Ordering}
use Rattle.std.specs.declared.cmp.Ordering.TheVariants.{Less, Equal, Greater}
use Rattle.std.specs.List.{list_any}
use Rattle.std.specs.Ordering.{is_eq, ordering_then}
use Rattle.std.specs.BTreeSet.{BTreeSet, contains_by, UpdatesBy}
use denote.Ref.{Bor}
use Rattle.std.proofs.lemmas.Bool.{and_parts, both_ways}
use Rattle.std.proofs.lemmas.Cmp.{nat_list_cmp_total, nat_list_eq_equiv, tied_itself}
use Rattle.std.proofs.lemmas.List.Folds.{list_any_at, list_any_more}
use Rattle.std.proofs.lemmas.Map.Views.{any-filter_same, list_any-from_Contains}
use Rattle.std.proofs.lemmas.Slice.Eq.{bytes_eq-Decides}
use Rattle.mx_base.specs.Order.{text_cmp}
use Rattle.tree_store.specs.declared.key.BuildKey.{BuildKey}
use Rattle.tree_store.specs.Key.{is_same_build}
use Rattle.tree_store.proofs.OrderLemmas.{same_name}
use Rattle.kept_tree.specs.Clearing.{is_among, is_in_env, is_of}

bytes_same : (a b : List ℕ) → a ≡ b → bytes_eq a b ≡ true
bytes_same a b e = (bytes_eq-Decides a b).1 e

same_bytes : (a b : List ℕ) → bytes_eq a b ≡ true → a ≡ b
same_bytes a b e = (bytes_eq-Decides a b).0 e

-- two texts compare as equal where their bytes do
pub ties_bytes : (a b : List ℕ) → is_eq (text_cmp a b) ≡ bytes_eq b a
ties_bytes a b = at (bytes_eq b a) refl
  where
    at : (t : Bool) → bytes_eq b a ≡ t → is_eq (text_cmp a b) ≡ t
    at true e = rw (same_bytes b a e) (ap is_eq (tied_itself nat_list_cmp_total a))
    at false e = other (is_eq (text_cmp a b)) refl
      where
        other : (s : Bool) → is_eq (text_cmp a b) ≡ s → s ≡ false
        other true h = absurd (both_ways (bytes_eq b a) e (bytes_same b a (sym (same_name a b h))))
        other false h = refl

or_cond : (b c : Bool) → cond b true c ≡ (c || b)
or_cond true true = refl
or_cond true false = refl
or_cond false true = refl
or_cond false false = refl

-- one name more was put into an index
pub indexed_more : (names : List (Bor (List ℕ))) (i : ℕ) (d : Bor (List ℕ)) (text : List ℕ) → i < length names →
    text ≡ (get_or names i d).now → (old new : BTreeSet (Bor (List ℕ))) (key : Bor (List ℕ)) → key.now ≡ text →
    UpdatesBy (λ (x y : Bor (List ℕ)). text_cmp x.now y.now) (λ (k : Bor (List ℕ)). text_cmp key.now k.now) old new true →
    ((t : List ℕ) → contains_by (λ (k : Bor (List ℕ)). text_cmp t k.now) old ≡ list_any (λ (k : Bor (List ℕ)). bytes_eq t k.now) (take i names)) →
    (t : List ℕ) → contains_by (λ (k : Bor (List ℕ)). text_cmp t k.now) new ≡ list_any (λ (k : Bor (List ℕ)). bytes_eq t k.now) (take (i + 1) names)
indexed_more names i d text within is old new key same updates so_far t =
    updates.0 (record { ref_ptr = (0, 0); now = t })
    ∙ or_cond (is_eq (text_cmp key.now t)) _
    ∙ ap₂ (λ (a b : Bool). a || b) (so_far t) (ties_bytes key.now t ∙ ap (bytes_eq t) (same ∙ is))
    ∙ sym (list_any_more (λ (k : Bor (List ℕ)). bytes_eq t k.now) names i d within)

pub among_views : (t : List ℕ) (names : List (Bor (List ℕ))) →
    list_any (λ (k : Bor (List ℕ)). bytes_eq t k.now) names ≡ is_among (map (λ name. name.now) names) t
among_views t [] = refl
among_views t (n ∷ ns) = ap (λ (b : Bool). bytes_eq t n.now || b) (among_views t ns)

-- a name is among those that pass a test where it is among all and passes
pub among_filter : (test : List ℕ → Bool) (names : List (List ℕ)) (name : List ℕ) → is_among (filter test names) name ≡ (test name && is_among names name)
among_filter test names name =
    any-filter_same (bytes_eq name) test (test name) (λ k e. ap test (sym (same_bytes name k e))) names

pub among_listed : (names : List (List ℕ)) (name : List ℕ) → Contains names name → is_among names name ≡ true
among_listed names name c = list_any-from_Contains nat_list_eq_equiv name names c

apart : (r t : Ordering) → is_eq r ≡ false → is_eq (ordering_then r t) ≡ false
apart Less t e = refl
apart Equal t e = cc
apart Greater t e = refl

then_app : (r t : Ordering) → is_eq r ≡ true → is_eq (ordering_then r t) ≡ is_eq t
then_app Less t e = cc
then_app Equal t e = refl
then_app Greater t e = cc

-- a build is one of an app in an environment where its app is that and its environment too
pub own_build : (env app : List ℕ) (q : BuildKey) → is_same_build (record { env = env; app = app }) q ≡ (bytes_eq q.app app && is_in_env env q)
own_build env app q = at (is_in_env env q) refl
  where
    with_true : (b : Bool) → (b && true) ≡ b
    with_true true = refl
    with_true false = refl

    with_false : (b : Bool) → (b && false) ≡ false
    with_false true = refl
    with_false false = refl

    at : (e : Bool) → is_in_env env q ≡ e → is_same_build (record { env = env; app = app }) q ≡ (bytes_eq q.app app && e)
    at true is = then_app (text_cmp env q.env) (text_cmp app q.app) is ∙ ties_bytes app q.app ∙ sym (with_true (bytes_eq q.app app))
    at false is = apart (text_cmp env q.env) (text_cmp app q.app) is ∙ sym (with_false (bytes_eq q.app app))

spread : (a b e : Bool) → ((a || b) && e) ≡ ((a && e) || (b && e))
spread true true true = refl
spread true true false = refl
spread true false true = refl
spread true false false = refl
spread false true true = refl
spread false true false = refl
spread false false e = refl

-- one app more
pub of_more : (env : List ℕ) (apps : List (List ℕ)) (i : ℕ) (app : List ℕ) (q : BuildKey) → i < length apps → app ≡ get_or apps i app →
    is_of env (take (i + 1) apps) q ≡ (is_of env (take i apps) q || is_same_build (record { env = env; app = app }) q)
of_more env apps i app q within is =
    ap (λ (b : Bool). b && is_in_env env q) (list_any_more (bytes_eq q.app) apps i app within
    ∙ ap (λ (a : List ℕ). list_any (bytes_eq q.app) (take i apps) || bytes_eq q.app a) (sym is))
    ∙ spread (is_among (take i apps) q.app) (bytes_eq q.app app) (is_in_env env q)
    ∙ ap (λ (b : Bool). is_of env (take i apps) q || b) (sym (own_build env app q))

-- the build of an app that is listed
pub of_listed : (env : List ℕ) (apps : List (List ℕ)) (i : ℕ) (app : List ℕ) (q : BuildKey) → i < length apps → app ≡ get_or apps i app →
    is_same_build (record { env = env; app = app }) q ≡ true → is_of env apps q ≡ true
of_listed env apps i app q within is own =
    let parts = and_parts (bytes_eq q.app app) (is_in_env env q) (sym (own_build env app q) ∙ own) in
    ap₂ (λ (a b : Bool). a && b) (list_any_at (bytes_eq q.app) apps i app within (ap (bytes_eq q.app) (sym is) ∙ parts.0)) parts.1

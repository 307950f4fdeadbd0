-- Builds that are cleared one after another.
use Rattle.std.proofs.Common.{◌≡◌, ◌⊎◌, inl, inr, ℕ, ◌+◌, ◌<◌, Bool, true, false, cond, not, ◌&&◌, ◌||◌, Option, Some, None, List, [], ◌∷◌, take, filter, length, get_or, Result, Ok, Err, OnOk, IsTrue, refl, sym, ◌∙◌, ap, ap₂, subst}
use Rattle.std.proofs.lemmas.Bool.{and_parts}
use Rattle.mx_base.specs.declared.file.File.{File}
use Rattle.tree_store.specs.declared.holding.Holding.{Holding}
use Rattle.tree_store.specs.declared.key.BuildKey.{BuildKey}
use Rattle.tree_store.specs.Holding.{any_of, has_any, nothing, only_files}
use Rattle.tree_store.specs.Key.{is_same_build}
use Rattle.tree_store.specs.Slot.{Slot, Lists, ListsIf, changed_slot, emptied_slot}
use Rattle.tree_store.specs.Slot.Slot.{Here, Out}
use Rattle.tree_store.proofs.OrderLemmas.{same_name}
use Rattle.kept_tree.specs.Clearing.{Clears, ClearsPartly, IsLeftAt, is_among, is_apart, is_in_env, is_of, left_of}
use Rattle.kept_tree.proofs.AmongLemmas.{among_filter, among_listed, of_listed, of_more}

pub same_partly : (is : BuildKey → Bool) (old new : BuildKey → Slot) → new ≡ old → ClearsPartly is old new
same_partly is old new e q = inl (ap (λ (slots : BuildKey → Slot). slots q) e)

pub more_partly : (is more : BuildKey → Bool) (old new : BuildKey → Slot) → ((q : BuildKey) → is q ≡ true → more q ≡ true) →
    ClearsPartly is old new → ClearsPartly more old new
more_partly is more old new among left q = at (left q)
  where
    at : (new q ≡ old q) ⊎ (IsTrue (is q) × IsLeftAt (old q) (new q)) → (new q ≡ old q) ⊎ (IsTrue (more q) × IsLeftAt (old q) (new q))
    at (inl same) = inl same
    at (inr (those, part)) = inr (among q those, part)

filter_twice : (f g : File → Bool) (files : List File) → filter g (filter f files) ≡ filter (λ x. f x && g x) files
filter_twice f g [] = refl
filter_twice f g (x ∷ xs) = at (f x) refl (filter_twice f g xs)
  where
    at : (b : Bool) → f x ≡ b → filter g (filter f xs) ≡ filter (λ y. f y && g y) xs →
        filter g (cond (f x) (x ∷ filter f xs) (filter f xs)) ≡ cond (f x && g x) (x ∷ filter (λ y. f y && g y) xs) (filter (λ y. f y && g y) xs)
    at true e rest =
        ap (λ (b : Bool). filter g (cond b (x ∷ filter f xs) (filter f xs))) e
        ∙ ap (λ (ys : List File). cond (g x) (x ∷ ys) ys) rest
        ∙ ap (λ (b : Bool). cond (b && g x) (x ∷ filter (λ y. f y && g y) xs) (filter (λ y. f y && g y) xs)) (sym e)
    at false e rest =
        ap (λ (b : Bool). filter g (cond b (x ∷ filter f xs) (filter f xs))) e
        ∙ rest
        ∙ ap (λ (b : Bool). cond (b && g x) (x ∷ filter (λ y. f y && g y) xs) (filter (λ y. f y && g y) xs)) (sym e)

slot_twice : (f g : File → Bool) (s : Slot) → changed_slot (left_of g) (changed_slot (left_of f) s) ≡ changed_slot (left_of (λ x. f x && g x)) s
slot_twice f g (Here None) = refl
slot_twice f g (Here (Some held)) = ap (λ (files : List File). Here (Some (only_files files))) (filter_twice f g held.files)
slot_twice f g Out = refl

pub partly_twice : (is : BuildKey → Bool) (old mid new : BuildKey → Slot) → ClearsPartly is old mid → ClearsPartly is mid new → ClearsPartly is old new
partly_twice is old mid new first next q = at (first q) (next q)
  where
    at : (mid q ≡ old q) ⊎ (IsTrue (is q) × IsLeftAt (old q) (mid q)) → (new q ≡ mid q) ⊎ (IsTrue (is q) × IsLeftAt (mid q) (new q)) →
        (new q ≡ old q) ⊎ (IsTrue (is q) × IsLeftAt (old q) (new q))
    at (inl a) (inl b) = inl (b ∙ a)
    at (inl a) (inr (those, (stays, b))) = inr (those, (stays, b ∙ ap (changed_slot (left_of stays)) a))
    at (inr (those, (stays, a))) (inl b) = inr (those, (stays, b ∙ a))
    at (inr (those, (stays, a))) (inr (too, (more, b))) =
        inr (those, ((λ x. stays x && more x), b ∙ ap (changed_slot (left_of more)) a ∙ slot_twice stays more (old q)))

-- one app more is cleared in part
pub partly_app : (env : List ℕ) (apps : List (List ℕ)) (i : ℕ) (app : List ℕ) (old mid new : BuildKey → Slot) → i < length apps →
    app ≡ get_or apps i app → ClearsPartly (is_of env apps) old mid → ClearsPartly (is_same_build (record { env = env; app = app })) mid new →
    ClearsPartly (is_of env apps) old new
partly_app env apps i app old mid new within is first next =
    partly_twice (is_of env apps) old mid new first
    (more_partly (is_same_build (record { env = env; app = app })) (is_of env apps) mid new (λ q own. of_listed env apps i app q within is own) next)

emptied_twice : (s : Slot) → emptied_slot (emptied_slot s) ≡ emptied_slot s
emptied_twice (Here None) = refl
emptied_twice (Here (Some h)) = refl
emptied_twice Out = refl

cleared_either : (a b : Bool) (s : Slot) → cond b (emptied_slot (cond a (emptied_slot s) s)) (cond a (emptied_slot s) s) ≡ cond (a || b) (emptied_slot s) s
cleared_either true true s = emptied_twice s
cleared_either true false s = refl
cleared_either false true s = refl
cleared_either false false s = refl

-- .. and in full
pub cleared_app : (env : List ℕ) (apps : List (List ℕ)) (i : ℕ) (app : List ℕ) (old mid new : BuildKey → Slot) → i < length apps →
    app ≡ get_or apps i app → Clears (is_of env (take i apps)) old mid → Clears (is_same_build (record { env = env; app = app })) mid new →
    Clears (is_of env (take (i + 1) apps)) old new
cleared_app env apps i app old mid new within is first next q =
    next q
    ∙ ap (λ (s : Slot). cond (is_same_build (record { env = env; app = app }) q) (emptied_slot s) s) (first q)
    ∙ cleared_either (is_of env (take i apps) q) (is_same_build (record { env = env; app = app }) q) (old q)
    ∙ ap (λ (b : Bool). cond b (emptied_slot (old q)) (old q)) (sym (of_more env apps i app q within is))

-- ---- all but those that stay

abbrev pub apart_of : List (List ℕ) → List (List ℕ) → List (List ℕ)
apart_of stays apps = filter (λ app. not (is_among stays app)) apps

pub apart_listed : (env : List ℕ) (stays apps : List (List ℕ)) (q : BuildKey) → is_of env (apart_of stays apps) q ≡ true → is_apart env stays q ≡ true
apart_listed env stays apps q e =
    let parts = and_parts (is_among (apart_of stays apps) q.app) (is_in_env env q) e in
    let among = and_parts (not (is_among stays q.app)) (is_among apps q.app)
    (sym (among_filter (λ app. not (is_among stays app)) apps q.app) ∙ parts.0) in
    ap₂ (λ (a b : Bool). a && b) among.0 parts.1

bare_is_nothing : (files : List File) (mark : Option (List ℕ)) → any_of files mark ≡ false → record { files = files; mark = mark } ≡ nothing
bare_is_nothing [] None e = refl
bare_is_nothing [] (Some bytes) e = cc
bare_is_nothing (f ∷ fs) mark e = cc

-- what isn't listed is empty
unlisted : (slot : Slot) (apps : List (List ℕ)) (app : List ℕ) → Lists slot apps app → is_among apps app ≡ false → slot ≡ emptied_slot slot
unlisted (Here None) apps app lists e = refl
unlisted (Here (Some held)) apps app lists e = at (has_any held) refl lists
  where
    at : (b : Bool) → has_any held ≡ b → ListsIf b apps app → Here (Some held) ≡ Here (Some nothing)
    at true any there = let yes : is_among apps app ≡ true = among_listed apps app there in absurd (let clash : false ≡ true = sym e ∙ yes in cc)
    at false none there = ap (λ (h : Holding). Here (Some h)) (bare_is_nothing held.files held.mark none)
unlisted Out apps app lists e = refl

-- the listed apps that don't stay are all of the others that hold anything
pub clears_apart : (env : List ℕ) (stays apps : List (List ℕ)) (old new : BuildKey → Slot) →
    ((app : List ℕ) → Lists (old (record { env = env; app = app })) apps app) → Clears (is_of env (apart_of stays apps)) old new →
    Clears (is_apart env stays) old new
clears_apart env stays apps old new lists clears q =
    in_env (is_in_env env q) refl
    (clears q ∙ ap (λ (b : Bool). cond (b && is_in_env env q) (emptied_slot (old q)) (old q)) (among_filter (λ app. not (is_among stays app)) apps q.app))
  where
    own : is_in_env env q ≡ true → Lists (old q) apps q.app
    own is = subst (λ (e : List ℕ). Lists (old (record { env = e; app = q.app })) apps q.app) (same_name env q.env is) (lists q.app)

    none : (b : Bool) → (b && false) ≡ false
    none true = refl
    none false = refl

    here : (stay listed : Bool) → is_among apps q.app ≡ listed → is_in_env env q ≡ true →
        new q ≡ cond ((stay && listed) && true) (emptied_slot (old q)) (old q) → new q ≡ cond (stay && true) (emptied_slot (old q)) (old q)
    here true true has is e = e
    here true false has is e = e ∙ unlisted (old q) apps q.app (own is) has
    here false listed has is e = e

    in_env : (e : Bool) → is_in_env env q ≡ e →
        new q ≡ cond ((not (is_among stays q.app) && is_among apps q.app) && is_in_env env q) (emptied_slot (old q)) (old q) →
        new q ≡ cond (not (is_among stays q.app) && is_in_env env q) (emptied_slot (old q)) (old q)
    in_env true is e =
        here (not (is_among stays q.app)) (is_among apps q.app) refl is
        (e ∙ ap (λ (b : Bool). cond ((not (is_among stays q.app) && is_among apps q.app) && b) (emptied_slot (old q)) (old q)) is)
        ∙ ap (λ (b : Bool). cond (not (is_among stays q.app) && b) (emptied_slot (old q)) (old q)) (sym is)
    in_env false is e =
        e ∙ ap (λ (b : Bool). cond ((not (is_among stays q.app) && is_among apps q.app) && b) (emptied_slot (old q)) (old q)) is
        ∙ ap (λ (b : Bool). cond b (emptied_slot (old q)) (old q))
        (none (not (is_among stays q.app) && is_among apps q.app) ∙ sym (none (not (is_among stays q.app))))
        ∙ ap (λ (b : Bool). cond (not (is_among stays q.app) && b) (emptied_slot (old q)) (old q)) (sym is)

pub apart_cleared : (env : List ℕ) (stays apps those : List (List ℕ)) (old mid new : BuildKey → Slot) → mid ≡ old → those ≡ apart_of stays apps →
    ((app : List ℕ) → Lists (old (record { env = env; app = app })) apps app) → Clears (is_of env those) mid new → Clears (is_apart env stays) old new
apart_cleared env stays apps those old mid new same are lists clears =
    clears_apart env stays apps old new lists
    (subst (λ (slots : BuildKey → Slot). Clears (is_of env (apart_of stays apps)) slots new) same
    (subst (λ (names : List (List ℕ)). Clears (is_of env names) mid new) are clears))

pub apart_partly : (env : List ℕ) (stays apps those : List (List ℕ)) (old mid new : BuildKey → Slot) → mid ≡ old → those ≡ apart_of stays apps →
    ClearsPartly (is_of env those) mid new → ClearsPartly (is_apart env stays) old new
apart_partly env stays apps those old mid new same are left =
    more_partly (is_of env (apart_of stays apps)) (is_apart env stays) old new (λ q e. apart_listed env stays apps q e)
    (subst (λ (slots : BuildKey → Slot). ClearsPartly (is_of env (apart_of stays apps)) slots new) same
    (subst (λ (names : List (List ℕ)). ClearsPartly (is_of env names) mid new) are left))

pub map_ok : {T E : Type 0} (r : Result T E) (P Q : Type 0) → (P → Q) → OnOk r P → OnOk r Q
map_ok (Ok x) P Q step holds = step holds
map_ok (Err e) P Q step holds = tt

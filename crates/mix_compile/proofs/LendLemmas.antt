-- Folders that are out, and what a store has once they came back.
use Rattle.std.proofs.Common.{◌≡◌, ◌⊎◌, inl, inr, ℕ, zero, suc, ◌<◌, Bool, true, false, cond, List, [], ◌∷◌, ◌++◌, length, map, Option, Some, None, slice_get, refl, sym, ◌∙◌, ap, subst, arith}
use Rattle.std.proofs.lemmas.Option.{slice_get_within}
use Rattle.compile_model.specs.declared.job.Job.{Job}
use Rattle.compile_model.specs.declared.job.Plan.{Plan}
use Rattle.tree_store.specs.declared.holding.Holding.{Holding}
use Rattle.tree_store.specs.declared.key.BuildKey.{BuildKey}
use Rattle.tree_store.specs.FolderKnown.{FolderKnown}
use Rattle.tree_store.specs.Key.{is_same_build}
use Rattle.tree_store.specs.Slot.{Slot, SetsSlot, with_slot}
use Rattle.tree_store.specs.Slot.Slot.{Here, Out}
use Rattle.tree_store.proofs.StoreLemmas.{is_same_itself, one_key}
use Rattle.partition_core.proofs.SeqPlaces.{get_end, get_left}
use Rattle.mix_compile.specs.Lending.{AreOut, brought, key_of}

-- ---- lists by place

-- what stands at a place of a list with one more at its end: an earlier one, or that one
pub get_more : {X : Type 0} (xs : List X) (x : X) (i : ℕ) (y : X) → slice_get (xs ++ x ∷ []) i ≡ Some y
    → (slice_get xs i ≡ Some y) ⊎ ((i ≡ length xs) × (x ≡ y))
get_more [] x zero y e = inr (refl, cc)
get_more [] x (suc i) y e = cc
get_more (z ∷ zs) x zero y e = inl e
get_more (z ∷ zs) x (suc i) y e = elim (get_more zs x i y e) [ inl was ↦ inl was | inr last ↦ inr (ap suc last.0, last.1) ]

pub get_before : {X : Type 0} (xs : List X) (x : X) (i : ℕ) (y : X) → slice_get xs i ≡ Some y → slice_get (xs ++ x ∷ []) i ≡ Some y
get_before xs x i y e = get_left xs (x ∷ []) i (slice_get_within xs i y e) ∙ e

pub get_map : {X Y : Type 0} (f : X → Y) (xs : List X) (i : ℕ) (x : X) → slice_get xs i ≡ Some x → slice_get (map f xs) i ≡ Some (f x)
get_map f [] i x e = cc
get_map f (z ∷ zs) zero x e = ap (λ o. Some o) (ap f (let s : z ≡ x = cc in s))
get_map f (z ∷ zs) (suc i) x e = get_map f zs i x e

pub map_get : {X Y : Type 0} (f : X → Y) (xs : List X) (i : ℕ) (y : Y) → slice_get (map f xs) i ≡ Some y → (x : X) × (slice_get xs i ≡ Some x) × (f x ≡ y)
map_get f [] i y e = cc
map_get f (z ∷ zs) zero y e = (z, refl, cc)
map_get f (z ∷ zs) (suc i) y e = map_get f zs i y e

pub map_more : {X Y : Type 0} (f : X → Y) (xs : List X) (x : X) → map f (xs ++ x ∷ []) ≡ map f xs ++ f x ∷ []
map_more f [] x = refl
map_more f (z ∷ zs) x = ap (λ (ys : List _). f z ∷ ys) (map_more f zs x)

-- ---- what comes back

-- what is out comes back at its build, and what a build has elsewhere stays
pub brought_more : (folders : List FolderKnown) (folder : FolderKnown) (slots : BuildKey → Slot) (q : BuildKey)
    → brought (folders ++ folder ∷ []) slots q ≡ brought folders (with_slot folder.key (Here folder.held) slots) q
brought_more [] folder slots q = refl
brought_more (f ∷ fs) folder slots q = ap (λ (s : Slot). cond (is_same_build f.key q) (Here f.held) s) (brought_more fs folder slots q)

-- it depends on what the build has alone
pub brought_same : (folders : List FolderKnown) (old new : BuildKey → Slot) (q : BuildKey) → new q ≡ old q → brought folders new q ≡ brought folders old q
brought_same [] old new q e = e
brought_same (f ∷ fs) old new q e = ap (λ (s : Slot). cond (is_same_build f.key q) (Here f.held) s) (brought_same fs old new q e)

-- a build of which no folder is out
pub brought_other : (folders : List FolderKnown) (slots : BuildKey → Slot) (q : BuildKey)
    → ((place : ℕ) (folder : FolderKnown) → slice_get folders place ≡ Some folder → folder.key ≡ q → ⊥) → brought folders slots q ≡ slots q
brought_other [] slots q other = refl
brought_other (f ∷ fs) slots q other = at (is_same_build f.key q) refl (brought_other fs slots q (λ place folder e. other (suc place) folder e))
  where
    at : (b : Bool) → is_same_build f.key q ≡ b → brought fs slots q ≡ slots q → cond b (Here f.held) (brought fs slots q) ≡ slots q
    at true is rest = absurd (other 0 f refl (one_key f.key q is))
    at false is rest = rest

-- both lists have a folder of the build, or neither has one
abbrev pub AreBoth : List FolderKnown → List FolderKnown → (BuildKey → Slot) → BuildKey → Type 0
AreBoth first now slots q =
    ((place : ℕ) × (old : FolderKnown) × (new : FolderKnown) × (slice_get first place ≡ Some old) × (slice_get now place ≡ Some new) × (old.key ≡ q)
    × (brought first slots q ≡ Here old.held) × (brought now slots q ≡ Here new.held))
    ⊎ ((brought first slots q ≡ slots q) × (brought now slots q ≡ slots q))

-- two lists of folders of the same builds
pub brought_both : (first now : List FolderKnown) (slots : BuildKey → Slot) (q : BuildKey)
    → map (λ folder. folder.key) now ≡ map (λ folder. folder.key) first
    → AreBoth first now slots q
brought_both [] [] slots q keys = inr (refl, refl)
brought_both [] (n ∷ ns) slots q keys = cc
brought_both (f ∷ fs) [] slots q keys = cc
brought_both (f ∷ fs) (n ∷ ns) slots q keys = at (is_same_build f.key q) refl (brought_both fs ns slots q rest)
  where
    own : n.key ≡ f.key
    own = cc

    rest : map (λ (folder : FolderKnown). folder.key) ns ≡ map (λ (folder : FolderKnown). folder.key) fs
    rest = cc

    also : (b : Bool) → is_same_build f.key q ≡ b → brought (n ∷ ns) slots q ≡ cond b (Here n.held) (brought ns slots q)
    also b is = ap (λ (k : BuildKey). cond (is_same_build k q) (Here n.held) (brought ns slots q)) own ∙ ap (λ (t : Bool). cond t (Here n.held) (brought ns slots q)) is

    here : (b : Bool) → is_same_build f.key q ≡ b → brought (f ∷ fs) slots q ≡ cond b (Here f.held) (brought fs slots q)
    here b is = ap (λ (t : Bool). cond t (Here f.held) (brought fs slots q)) is

    at : (b : Bool) → is_same_build f.key q ≡ b → AreBoth fs ns slots q → AreBoth (f ∷ fs) (n ∷ ns) slots q
    at true is others = inl (0, f, n, refl, refl, one_key f.key q is, here true is, also true is)
    at false is (inl one) = inl (suc one.0, one.1, one.2, one.3, one.4, one.5, here false is ∙ one.6, also false is ∙ one.7)
    at false is (inr none) = inr (here false is ∙ none.0, also false is ∙ none.1)

-- the build of a folder that is out
pub brought_at : (folders : List FolderKnown) (slots : BuildKey → Slot)
    → ((place other : ℕ) (one two : FolderKnown) → slice_get folders place ≡ Some one → slice_get folders other ≡ Some two → one.key ≡ two.key → place ≡ other)
    → (place : ℕ) (folder : FolderKnown) (q : BuildKey) → slice_get folders place ≡ Some folder → folder.key ≡ q → brought folders slots q ≡ Here folder.held
brought_at [] slots apart place folder q e is = cc
brought_at (f ∷ fs) slots apart zero folder q e is =
    let same : f ≡ folder = cc in
    ap (λ (t : Bool). cond t (Here f.held) (brought fs slots q)) (ap (is_same_build f.key) (sym is ∙ ap (λ (x : FolderKnown). x.key) (sym same)) ∙ is_same_itself f.key)
    ∙ ap (λ (x : FolderKnown). Here x.held) same
brought_at (f ∷ fs) slots apart (suc place) folder q e is =
    at (is_same_build f.key q) refl
    (brought_at fs slots (λ i j one two a b same. let s : suc i ≡ suc j = apart (suc i) (suc j) one two a b same in omega (arith, s)) place folder q e is)
  where
    at : (b : Bool) → is_same_build f.key q ≡ b → brought fs slots q ≡ Here folder.held → cond b (Here f.held) (brought fs slots q) ≡ Here folder.held
    at true own rest = let clash : 0 ≡ suc place = apart 0 (suc place) f folder refl e (one_key f.key q own ∙ sym is) in absurd (omega (arith, clash))
    at false own rest = rest

-- ---- one comes back

pub out_fewer : (folders : List FolderKnown) (folder : FolderKnown) (old new : BuildKey → Slot) → AreOut old (folders ++ folder ∷ [])
    → SetsSlot folder.key (Here folder.held) old new → AreOut new folders
out_fewer folders folder old new out sets = record {
  out = λ place one is.
      let whole = get_before folders folder place one is in
      let within : place < length folders = slice_get_within folders place one is in
      at one place within whole (is_same_build folder.key one.key) refl;
  apart = λ place other one two a b same. out.apart place other one two (get_before folders folder place one a) (get_before folders folder other two b) same;
}
  where
    at : (one : FolderKnown) (place : ℕ) → place < length folders → slice_get (folders ++ folder ∷ []) place ≡ Some one → (b : Bool)
        → is_same_build folder.key one.key ≡ b → new one.key ≡ Out
    at one place within whole true is =
        let clash : place ≡ length folders = out.apart place (length folders) one folder whole (get_end folders folder []) (sym (one_key folder.key one.key is)) in
        absurd (omega (arith, clash, within))
    at one place within whole false is =
        sets one.key ∙ ap (λ (b : Bool). cond b (Here folder.held) (old one.key)) is ∙ out.out place one whole

pub out_last : (folders : List FolderKnown) (folder : FolderKnown) (slots : BuildKey → Slot) → AreOut slots (folders ++ folder ∷ []) → slots folder.key ≡ Out
out_last folders folder slots out = out.out (length folders) folder (get_end folders folder [])

pub brought_fewer : (folders : List FolderKnown) (folder : FolderKnown) (old new : BuildKey → Slot) → SetsSlot folder.key (Here folder.held) old new
    → (q : BuildKey) → brought folders new q ≡ brought (folders ++ folder ∷ []) old q
brought_fewer folders folder old new sets q =
    brought_same folders (with_slot folder.key (Here folder.held) old) new q (sets q) ∙ sym (brought_more folders folder old q)

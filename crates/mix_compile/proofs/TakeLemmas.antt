-- Taking the folders of a plan's jobs.
use Rattle.std.proofs.Common.{◌≡◌, ◌≢◌, ◌⊎◌, inl, inr, ℕ, zero, suc, ◌+◌, ◌<◌, ◌≤◌, Bool, true, false, cond, List, [], ◌∷◌, ◌++◌, length, map, take, get_or, Option, Some, None, slice_get, refl, sym, ◌∙◌, ap, subst, arith}
use Rattle.std.proofs.lemmas.Bool.{cases_lt}
use Rattle.std.proofs.lemmas.Option.{get_or_from_slice_get, slice_get_within}
use Rattle.std.proofs.lemmas.List.{take_all, take_more}
use Rattle.compile_model.specs.declared.job.Job.{Job}
use Rattle.compile_model.specs.declared.job.Plan.{Plan}
use Rattle.compile_model.specs.Planned.{ArePlanned}
use Rattle.tree_store.specs.declared.key.BuildKey.{BuildKey}
use Rattle.tree_store.specs.FolderKnown.{FolderKnown}
use Rattle.tree_store.specs.Key.{is_same_build}
use Rattle.tree_store.specs.Known.{IsLent, Known}
use Rattle.tree_store.specs.Slot.{Slot, AllHere, SetsSlot, with_slot}
use Rattle.tree_store.specs.Slot.Slot.{Here, Out}
use Rattle.tree_store.proofs.StoreLemmas.{is_same_itself, one_key}
use Rattle.partition_crew.specs.Build.{SomeFailed}
use Rattle.mix_compile.specs.Lending.{AreOut, AreTaken, brought, key_of}
use Rattle.mix_compile.proofs.LendLemmas.{brought_both, brought_more, brought_other, brought_same, get_map, get_more, map_get, map_more}

pub get_taken : {X : Type 0} (xs : List X) (n i : ℕ) (x : X) → slice_get (take n xs) i ≡ Some x → (slice_get xs i ≡ Some x) × (i < n)
get_taken [] zero i x e = cc
get_taken [] (suc n) i x e = cc
get_taken (z ∷ zs) zero i x e = cc
get_taken (z ∷ zs) (suc n) zero x e = (e, omega arith)
get_taken (z ∷ zs) (suc n) (suc i) x e = let rest = get_taken zs n i x e in (rest.0, omega (arith, rest.1))

-- no app has two jobs of a plan
pub one_place : (jobs : List Job) → ArePlanned jobs → (i j : ℕ) (one two : Job) → slice_get jobs i ≡ Some one → slice_get jobs j ≡ Some two
    → one.app ≡ two.app → i ≡ j
one_place jobs planned i j one two a b same = at (cases_lt i j) (cases_lt j i)
  where
    earlier : (m n : ℕ) (x y : Job) → m < n → slice_get jobs m ≡ Some x → slice_get jobs n ≡ Some y → x.app ≡ y.app → ⊥
    earlier m n x y before f g e =
        planned.apart m n x before (slice_get_within jobs n y g)
        (ap (λ (job : Job). job.app) (get_or_from_slice_get jobs m x x f) ∙ e ∙ sym (ap (λ (job : Job). job.app) (get_or_from_slice_get jobs n y x g)))

    at : (i < j) ⊎ (j ≤ i) → (j < i) ⊎ (i ≤ j) → i ≡ j
    at (inl before) other = absurd (earlier i j one two before a b same)
    at (inr least) (inl after) = absurd (earlier j i two one after b a (sym same))
    at (inr least) (inr most) = omega (arith, least, most)

module _ (env : List ℕ) (jobs : List Job) (planned : ArePlanned jobs) where
  -- the folders of the first jobs are of other builds than that of the next job
  pub keys_differ : (n : ℕ) (folders : List FolderKnown) → map (λ folder. folder.key) folders ≡ map (key_of env) (take n jobs) → (place : ℕ) (job : Job)
      → n ≤ place → slice_get jobs place ≡ Some job → (i : ℕ) (folder : FolderKnown) → slice_get folders i ≡ Some folder → folder.key ≡ key_of env job → ⊥
  keys_differ n folders keys place job past here i folder is own =
      let found = map_get (key_of env) (take n jobs) i folder.key (sym (ap (λ (ks : List BuildKey). slice_get ks i) keys) ∙ get_map (λ (f : FolderKnown). f.key) folders i folder is) in
      let there = get_taken jobs n i found.0 found.1 in
      let clash : i ≡ place = one_place jobs planned i place found.0 job there.0 here (ap (λ (k : BuildKey). k.app) (found.2 ∙ own)) in
      omega (arith, clash, there.1, past)

  -- the next job's folder is at home
  pub next_home : (n : ℕ) (folders : List FolderKnown) (job : Job) (old mid : BuildKey → Slot) → map (λ folder. folder.key) folders ≡ map (key_of env) (take n jobs)
      → slice_get jobs n ≡ Some job → ((q : BuildKey) → brought folders mid q ≡ old q) → AllHere old → mid (key_of env job) ≡ Out → ⊥
  next_home n folders job old mid keys here whole home out =
      home (key_of env job) (sym (whole (key_of env job))
      ∙ brought_other folders mid (key_of env job) (λ i folder is own. keys_differ n folders keys n job (omega arith) here i folder is own) ∙ out)

  -- one folder more is out
  pub taken_out : (n : ℕ) (folders : List FolderKnown) (job : Job) (folder : FolderKnown) (mid new : BuildKey → Slot)
      → map (λ folder. folder.key) folders ≡ map (key_of env) (take n jobs) → slice_get jobs n ≡ Some job → AreOut mid folders
      → SetsSlot (key_of env job) Out mid new → folder.key ≡ key_of env job → AreOut new (folders ++ folder ∷ [])
  taken_out n folders job folder mid new keys here out sets own = record {
    out = λ place one is. at place one (get_more folders folder place one is);
    apart = λ place other one two a b same. both place other one two (get_more folders folder place one a) (get_more folders folder other two b) same;
  }
    where
      differ : (i : ℕ) (one : FolderKnown) → slice_get folders i ≡ Some one → one.key ≡ key_of env job → ⊥
      differ i one is e = keys_differ n folders keys n job (omega arith) here i one is e

      set : (one : FolderKnown) (b : Bool) → is_same_build (key_of env job) one.key ≡ b → mid one.key ≡ Out → new one.key ≡ Out
      set one true is was = sets one.key ∙ ap (λ (t : Bool). cond t Out (mid one.key)) is
      set one false is was = sets one.key ∙ ap (λ (t : Bool). cond t Out (mid one.key)) is ∙ was

      last : (one : FolderKnown) (b : Bool) → is_same_build (key_of env job) one.key ≡ b → one.key ≡ key_of env job → new one.key ≡ Out
      last one true is e = sets one.key ∙ ap (λ (t : Bool). cond t Out (mid one.key)) is
      last one false is e = absurd (not_itself one is e)
        where
          not_itself : (x : FolderKnown) → is_same_build (key_of env job) x.key ≡ false → x.key ≡ key_of env job → ⊥
          not_itself x f g = let t = ap (is_same_build (key_of env job)) g ∙ itself in let clash : false ≡ true = sym f ∙ t in cc
            where
              itself : is_same_build (key_of env job) (key_of env job) ≡ true
              itself = is_same_itself (key_of env job)

      at : (place : ℕ) (one : FolderKnown) → (slice_get folders place ≡ Some one) ⊎ ((place ≡ length folders) × (folder ≡ one)) → new one.key ≡ Out
      at place one (inl was) = set one (is_same_build (key_of env job) one.key) refl (out.out place one was)
      at place one (inr end) = last one (is_same_build (key_of env job) one.key) refl (ap (λ (f : FolderKnown). f.key) (sym end.1) ∙ own)

      both : (place other : ℕ) (one two : FolderKnown) → (slice_get folders place ≡ Some one) ⊎ ((place ≡ length folders) × (folder ≡ one))
          → (slice_get folders other ≡ Some two) ⊎ ((other ≡ length folders) × (folder ≡ two)) → one.key ≡ two.key → place ≡ other
      both place other one two (inl a) (inl b) same = out.apart place other one two a b same
      both place other one two (inl a) (inr b) same = absurd (differ place one a (same ∙ ap (λ (f : FolderKnown). f.key) (sym b.1) ∙ own))
      both place other one two (inr a) (inl b) same = absurd (differ other two b (sym same ∙ ap (λ (f : FolderKnown). f.key) (sym a.1) ∙ own))
      both place other one two (inr a) (inr b) same = a.0 ∙ sym b.0

-- brought back as it was handed out, it makes the build what it was
pub taken_whole : (folders : List FolderKnown) (folder : FolderKnown) (key : BuildKey) (old mid new : BuildKey → Slot)
    → ((q : BuildKey) → brought folders mid q ≡ old q) → SetsSlot key Out mid new → folder.key ≡ key → Here folder.held ≡ mid key
    → (q : BuildKey) → brought (folders ++ folder ∷ []) new q ≡ old q
taken_whole folders folder key old mid new whole sets own held q =
    brought_more folders folder new q ∙ brought_same folders mid (with_slot folder.key (Here folder.held) new) q (at (is_same_build folder.key q) refl) ∙ whole q
  where
    at : (b : Bool) → is_same_build folder.key q ≡ b → with_slot folder.key (Here folder.held) new q ≡ mid q
    at true is = ap (λ (t : Bool). cond t (Here folder.held) (new q)) is ∙ held ∙ ap mid (sym own ∙ one_key folder.key q is)
    at false is =
        ap (λ (t : Bool). cond t (Here folder.held) (new q)) is
        ∙ sets q ∙ ap (λ (t : Bool). cond t Out (mid q)) (ap (λ (k : BuildKey). is_same_build k q) (sym own) ∙ is)

-- where all are brought back as they are, none is out
pub brought_here : (first now : List FolderKnown) (slots : BuildKey → Slot) → map (λ folder. folder.key) now ≡ map (λ folder. folder.key) first
    → AllHere (brought first slots) → AllHere (brought now slots)
brought_here first now slots keys home q out = elim (brought_both first now slots q keys) [
  | inl one ↦ let clash : Here one.2.held ≡ Out = sym one.7 ∙ out in cc
  | inr none ↦ home q (none.0 ∙ sym none.1 ∙ out)
]

-- ---- so far

-- the folders of so many jobs are out
pub record Taking (plan : Plan) (n : ℕ) (first now : Known) (folders : List FolderKnown) : Type 0 where
  pub keys : map (λ folder. folder.key) folders ≡ map (key_of plan.env) (take n plan.jobs)
  pub fresh : (place : ℕ) (folder : FolderKnown) → slice_get folders place ≡ Some folder → folder.faults ≡ 0
  pub out : AreOut now.slot folders
  pub whole : (q : BuildKey) → brought folders now.slot q ≡ first.slot q
  pub sources : now.sources ≡ first.sources
  pub faults : now.faults ≡ first.faults
  pub returned : now.returned ≡ first.returned

pub taking_none : (plan : Plan) (first : Known) → Taking plan 0 first first []
taking_none plan first = record {
  keys = refl;
  fresh = λ place folder is. cc;
  out = record { out = λ place folder is. cc; apart = λ place other one two a b same. cc };
  whole = λ q. refl;
  sources = refl;
  faults = refl;
  returned = refl;
}

pub taking_more : (plan : Plan) → ArePlanned plan.jobs → (n : ℕ) (first mid now : Known) (folders : List FolderKnown) (job : Job) (folder : FolderKnown)
    → slice_get plan.jobs n ≡ Some job → Taking plan n first mid folders → IsLent (key_of plan.env job) (mid.slot (key_of plan.env job)) folder
    → SetsSlot (key_of plan.env job) Out mid.slot now.slot → now ≡ record mid { slot = now.slot; faults = now.faults } → now.faults ≡ mid.faults
    → Taking plan (n + 1) first now (folders ++ folder ∷ [])
taking_more plan planned n first mid now folders job folder here taking lent sets rest calm = record {
  keys = map_more (λ (f : FolderKnown). f.key) folders folder
      ∙ ap (λ (ks : List BuildKey). ks ++ folder.key ∷ []) taking.keys ∙ ap (λ (k : BuildKey). map (key_of plan.env) (take n plan.jobs) ++ k ∷ []) lent.build
      ∙ sym (map_more (key_of plan.env) (take n plan.jobs) job)
      ∙ ap (map (key_of plan.env)) (sym (take_more plan.jobs n job (slice_get_within plan.jobs n job here)
      ∙ ap (λ (j : Job). take n plan.jobs ++ j ∷ []) (get_or_from_slice_get plan.jobs n job job here)));
  fresh = λ place one is. elim (get_more folders folder place one is) [
    | inl was ↦ taking.fresh place one was
    | inr end ↦ ap (λ (f : FolderKnown). f.faults) (sym end.1) ∙ lent.fresh
  ];
  out = taken_out plan.env plan.jobs planned n folders job folder mid.slot now.slot taking.keys here taking.out sets lent.build;
  whole = taken_whole folders folder (key_of plan.env job) first.slot mid.slot now.slot taking.whole sets lent.build lent.held;
  sources = ap (λ (k : Known). k.sources) rest ∙ taking.sources;
  faults = calm ∙ taking.faults;
  returned = ap (λ (k : Known). k.returned) rest ∙ taking.returned;
}

pub taking_all : (plan : Plan) (n : ℕ) (first now : Known) (folders : List FolderKnown) → length plan.jobs ≤ n → Taking plan n first now folders
    → AreTaken plan first.slot now.slot folders
taking_all plan n first now folders past taking = record {
  keys = taking.keys ∙ ap (map (key_of plan.env)) (take_all n plan.jobs past);
  fresh = taking.fresh;
  out = taking.out;
  whole = taking.whole;
}

-- they are all given back after an error
pub taking_back : (plan : Plan) (n : ℕ) (first mid now last : Known) (folders : List FolderKnown) → Taking plan n first mid folders → now.slot ≡ mid.slot
    → ((q : BuildKey) → last.slot q ≡ brought folders now.slot q) → (q : BuildKey) → last.slot q ≡ first.slot q
taking_back plan n first mid now last folders taking same back q =
    back q ∙ brought_same folders mid.slot now.slot q (ap (λ (slots : BuildKey → Slot). slots q) same) ∙ taking.whole q

pub taking_calm : (plan : Plan) (n : ℕ) (first mid : Known) (folders : List FolderKnown) → Taking plan n first mid folders → SomeFailed folders → ⊥
taking_calm plan n first mid folders taking (place, folder, is, failed) = failed (taking.fresh place folder is)

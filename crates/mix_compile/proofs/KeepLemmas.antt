-- Steps that keep what is honest, and everything outside of an environment.
use Rattle.std.proofs.Common.{◌≡◌, ◌≢◌, ◌⊎◌, inl, inr, ℕ, zero, suc, ◌+◌, ◌<◌, Bool, true, false, not, ◌&&◌, ◌||◌, cond, List, [], ◌∷◌, length, map, take, get_or, Option, Some, None, AllPairs, bytes_eq, refl, sym, ◌∙◌, ap, subst, arith}
use Rattle.std.proofs.lemmas.Bool.{and_parts}
use Rattle.compile_model.specs.declared.job.Job.{Job}
use Rattle.compile_model.specs.declared.outcome.Fate.{Fate}
use Rattle.compile_model.specs.declared.outcome.Fate.TheVariants.{Built, Failed, Skipped}
use Rattle.compile_model.specs.declared.outcome.Outcome.{Outcome}
use Rattle.compile_model.specs.Content.{Content}
use Rattle.honest_tree.specs.Given.{Given}
use Rattle.honest_tree.specs.Honest.{Honest, IsHonestSlot}
use Rattle.kept_tree.specs.Clearing.{Clears, ClearsPartly, is_among, is_apart, is_in_env, is_of}
use Rattle.kept_tree.specs.Rewriting.{IsRewritingAt, IsRewrittenAt}
use Rattle.kept_tree.proofs.AmongLemmas.{of_more, own_build}
use Rattle.kept_tree.proofs.LeftLemmas.{left_tree_honest}
use Rattle.kept_tree.proofs.RewriteLemmas.{rewriting_slot_honest}
use Rattle.tree_store.specs.declared.key.BuildKey.{BuildKey}
use Rattle.tree_store.specs.Key.{is_same_build}
use Rattle.tree_store.specs.Slot.{Slot, emptied_slot}
use Rattle.tree_store.proofs.StoreLemmas.{one_key}
use Rattle.mix_compile.proofs.AppLemmas.{not_before}
use Rattle.mix_compile.specs.Settling.{KeepsTree, RewrittenIf, Rewrites, SettledIf, Settles, built_app, built_apps}

pub keeps_same : (env : List ℕ) (old new : BuildKey → Slot) → new ≡ old → KeepsTree env old new
keeps_same env old new same = record {
  elsewhere = λ q e. ap (λ (slots : BuildKey → Slot). slots q) same;
  honest = λ compile known honest. subst (Honest compile known) (sym same) honest;
}

pub keeps_each : (env : List ℕ) (old new : BuildKey → Slot) → ((q : BuildKey) → new q ≡ old q) → KeepsTree env old new
keeps_each env old new same = record {
  elsewhere = λ q e. same q;
  honest = λ compile known honest q. subst (IsHonestSlot compile known) (sym (same q)) (honest q);
}

pub keeps_then : (env : List ℕ) (old mid new : BuildKey → Slot) → KeepsTree env old mid → KeepsTree env mid new → KeepsTree env old new
keeps_then env old mid new first next = record {
  elsewhere = λ q e. next.elsewhere q e ∙ first.elsewhere q e;
  honest = λ compile known honest. next.honest compile known (first.honest compile known honest);
}

-- ---- clearing

pub apart_keeps : (env : List ℕ) (stays : List (List ℕ)) (old new : BuildKey → Slot) → ClearsPartly (is_apart env stays) old new → KeepsTree env old new
apart_keeps env stays old new part = record {
  elsewhere = λ q e. elim (part q) [
    | inl same ↦ same
    | inr left ↦
        let parts = and_parts (not (is_among stays q.app)) (is_in_env env q) left.0 in
        let clash : false ≡ true = sym e ∙ parts.1 in cc
  ];
  honest = λ compile known honest. left_tree_honest compile known (is_apart env stays) old new honest part;
}

-- ---- rewriting

pub rewriting_keeps : (env app : List ℕ) (old new : BuildKey → Slot) → IsRewritingAt (old (record { env = env; app = app })) (new (record { env = env; app = app }))
    → ((q : BuildKey) → is_same_build (record { env = env; app = app }) q ≡ false → new q ≡ old q) → KeepsTree env old new
rewriting_keeps env app old new part others = record {
  elsewhere = λ q e. others q (apart q e);
  honest = λ compile known honest q. at compile known q (honest q) (is_same_build key q) refl;
}
  where
    key : BuildKey
    key = record { env = env; app = app }

    none : (b : Bool) → (b && false) ≡ false
    none true = refl
    none false = refl

    apart : (q : BuildKey) → is_in_env env q ≡ false → is_same_build (record { env = env; app = app }) q ≡ false
    apart q e = own_build env app q ∙ ap (λ (b : Bool). bytes_eq q.app app && b) e ∙ none (bytes_eq q.app app)

    at : (compile : Content → Outcome) (known : List Given) (q : BuildKey) → IsHonestSlot compile known (old q) → (b : Bool)
        → is_same_build (record { env = env; app = app }) q ≡ b → IsHonestSlot compile known (new q)
    at compile known q honest true is =
        let own = one_key (record { env = env; app = app }) q is in
        rewriting_slot_honest compile known (old q) (new q) honest (subst (λ (k : BuildKey). IsRewritingAt (old k) (new k)) own part)
    at compile known q honest false is = subst (IsHonestSlot compile known) (sym (others q is)) honest

-- one app more is rewritten
pub rewritten_more : (env : List ℕ) (apps : List (List ℕ)) (i : ℕ) (app : List ℕ) (old mid new : BuildKey → Slot) → i < length apps → app ≡ get_or apps i app
    → AllPairs (λ one other. one ≢ other) apps → Rewrites env (take i apps) old mid
    → IsRewrittenAt (mid (record { env = env; app = app })) (new (record { env = env; app = app }))
    → ((q : BuildKey) → is_same_build (record { env = env; app = app }) q ≡ false → new q ≡ mid q) → Rewrites env (take (i + 1) apps) old new
rewritten_more env apps i app old mid new within is differ first next others q =
    subst (λ (b : Bool). RewrittenIf b (old q) (new q)) (sym (of_more env apps i app q within is))
    (at (is_of env (take i apps) q) refl (is_same_build (record { env = env; app = app }) q) refl (first q))
  where
    at : (was : Bool) → is_of env (take i apps) q ≡ was → (own : Bool) → is_same_build (record { env = env; app = app }) q ≡ own
        → RewrittenIf was (old q) (mid q) → RewrittenIf (was || own) (old q) (new q)
    at true among true same so = absurd (not_before env apps i app q within is differ same among)
    at true among false same so = subst (IsRewrittenAt (old q)) (sym (others q same)) so
    at false among true same so =
        let own = one_key (record { env = env; app = app }) q same in
        subst (λ (s : Slot). IsRewrittenAt s (new q)) so (subst (λ (k : BuildKey). IsRewrittenAt (mid k) (new k)) own next)
    at false among false same so = others q same ∙ so

-- ---- both

-- what is rewritten and what is cleared then
pub settled_both : (env : List ℕ) (apps : List (List ℕ)) (old mid new : BuildKey → Slot) → Rewrites env apps old mid → Clears (is_apart env apps) mid new
    → Settles env apps old new
settled_both env apps old mid new rewrites clears q here = at (is_among apps q.app) refl (rewrites q) (clears q)
  where
    at : (b : Bool) → is_among apps q.app ≡ b → RewrittenIf (is_of env apps q) (old q) (mid q)
        → new q ≡ cond (is_apart env apps q) (emptied_slot (mid q)) (mid q) → SettledIf b (old q) (new q)
    at true is written cleared =
        let of : is_of env apps q ≡ true = ap (λ (b : Bool). b && is_in_env env q) is ∙ here in
        let apart : is_apart env apps q ≡ false = ap (λ (b : Bool). not b && is_in_env env q) is in
        subst (IsRewrittenAt (old q)) (sym (cleared ∙ ap (λ (b : Bool). cond b (emptied_slot (mid q)) (mid q)) apart))
        (subst (λ (b : Bool). RewrittenIf b (old q) (mid q)) of written)
    at false is written cleared =
        let of : is_of env apps q ≡ false = ap (λ (b : Bool). b && is_in_env env q) is in
        let apart : is_apart env apps q ≡ true = ap (λ (b : Bool). not b && is_in_env env q) is ∙ here in
        let same : mid q ≡ old q = subst (λ (b : Bool). RewrittenIf b (old q) (mid q)) of written in
        cleared ∙ ap (λ (b : Bool). cond b (emptied_slot (mid q)) (mid q)) apart ∙ ap emptied_slot same

-- the name at a place of a list of references
pub named_at : {X : Type 0} (f : X → List ℕ) (xs : List X) (i : ℕ) (x : X) → i < length xs → x ≡ get_or xs i x → f x ≡ get_or (map f xs) i (f x)
named_at f [] i x within is = absurd (omega (arith, within))
named_at f (y ∷ ys) zero x within is = ap f is
named_at f (y ∷ ys) (suc i) x within is = named_at f ys i x (omega (arith, within)) is

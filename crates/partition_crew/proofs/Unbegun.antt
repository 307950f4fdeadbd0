-- Where there was no memory to begin a build.
use Rattle.std.proofs.Common.{◌≡◌, ◌≢◌, ℕ, ◌+◌, Bool, true, false, List, [], length, Option, Some, None, is_some, IfSome, refl, sym, ◌∙◌, ap, subst, arith}
use Rattle.compile_model.specs.declared.outcome.Outcome.{Outcome}
use Rattle.compile_model.specs.declared.outcome.Fate.{Fate}
use Rattle.compile_model.specs.Content.{Content}
use Rattle.tree_store.specs.FolderKnown.{FolderKnown}
use Rattle.tree_store.proofs.MomentLemmas.{if_told}
use Rattle.partition_core.specs.declared.event.Event.{Event}
use Rattle.partition_core.specs.State.{Opening, at}
use Rattle.partition_core.specs.Histories.{Agrees, Faithful, Legal, replay}
use Rattle.partition_core.specs.Counts.{count_below}
use Rattle.partition_face.specs.declared.counts.Counts.{Counts}
use Rattle.partition_crew.specs.declared.one.BuildFault.TheVariants.{TreeFault, OutOfMemory, NoPartitionLeft}
use Rattle.partition_crew.specs.declared.one.One.{One}
use Rattle.partition_board.specs.Holds.{AreLeft, HoldsBy}
use Rattle.partition_crew.specs.Build.{CountsOf, IsEnding, IsHistory, SomeFailed, fault_unless}
use Rattle.partition_crew.proofs.Beginning.{at_none}

pub unbegun_history : (o : Opening) (one : One) → one.fates.items ≡ [] → one.history.items ≡ [] → IsHistory o one
unbegun_history o one fates history = record {
  legal = subst (Legal o) (sym history) tt;
  fates = λ place. ap (λ (all : List (Option Fate)). at all place) fates
      ∙ sym (ap (λ (events : List Event). at (replay o events).fates place) history ∙ at_none (length o.plan.jobs) place);
}

pub unbegun_faithful : (compile : Content → Outcome) (o : Opening) (events : List Event) → events ≡ [] → Faithful compile o events
unbegun_faithful compile o events none = subst (Faithful compile o) (sym none) tt

pub unbegun_agrees : (fates : List (Option Fate)) (all : List Fate) → fates ≡ [] → Agrees fates all
unbegun_agrees fates all none = subst (λ (some : List (Option Fate)). Agrees some all) (sym none) (λ place fate is. cc)

pub unbegun_left : (o : Opening) (fates : List (Option Fate)) (folders : List FolderKnown) → fates ≡ [] → AreLeft o fates folders folders
unbegun_left o fates folders none = record {
  keys = refl;
  each = λ place folder has. subst (λ (all : List (Option Fate)). IfSome folder.held (HoldsBy o all place (at all place))) (sym none)
      (if_told folder.held (λ held is. tt));
}

pub unbegun_counts : (lasting : Type 0) (events : List Event) (counts : Counts) → events ≡ [] → CountsOf lasting events counts counts
unbegun_counts lasting events counts none = subst (λ (all : List Event). CountsOf lasting all counts counts) (sym none) (record {
  most = omega arith;
  least = omega arith;
  deaths = omega arith;
  lives = λ e. refl;
  lasts = λ l. refl;
})

pub unbegun_ending : (one : One) (places deaths : ℕ) (folders : List FolderKnown) (any : Bool) → one.fates.items ≡ [] → one.fault ≡ fault_unless any
    → (any ≡ true → places ≢ 0)
    → (any ≡ false → places ≡ 0) → deaths ≡ 0 → (SomeFailed folders → ⊥) → IsEnding one places deaths folders
unbegun_ending one places deaths folders true fates fault some none alive sound = record {
  none = (
    (λ e. let clash : None ≡ Some OutOfMemory = sym e ∙ fault in cc),
    (λ have.
        let here : is_some (at one.fates.items 0) ≡ true = have 0 (let more = some refl in omega (arith, more)) in
        let clash : false ≡ true = sym (ap (λ (all : List (Option Fate)). is_some (at all 0)) fates) ∙ here in cc),
  );
  tree = ((λ e. let clash : Some OutOfMemory ≡ Some TreeFault = sym fault ∙ e in cc), (λ failed. absurd (sound failed)));
  died = ((λ e. let clash : Some OutOfMemory ≡ Some (NoPartitionLeft 1) = sym fault ∙ e in cc), (λ rose. absurd (rose alive)));
  just_one = λ n e. let clash : Some OutOfMemory ≡ Some (NoPartitionLeft n) = sym fault ∙ e in cc;
}
unbegun_ending one places deaths folders false fates fault some none alive sound = record {
  none = ((λ e place below. let zero = none refl in absurd (omega (arith, zero, below))), (λ have. fault));
  tree = ((λ e. let clash : None ≡ Some TreeFault = sym fault ∙ e in cc), (λ failed. absurd (sound failed)));
  died = ((λ e. let clash : None ≡ Some (NoPartitionLeft 1) = sym fault ∙ e in cc), (λ rose. absurd (rose alive)));
  just_one = λ n e. let clash : None ≡ Some (NoPartitionLeft n) = sym fault ∙ e in cc;
}

pub unbegun_runs : (one : One) (places runs : ℕ) (test : ℕ → Bool) (any : Bool) → one.fault ≡ fault_unless any → one.fault ≡ None → (any ≡ false → places ≡ 0)
    → runs ≡ runs + count_below test places
unbegun_runs one places runs test true fault is none = let clash : None ≡ Some OutOfMemory = sym is ∙ fault in cc
unbegun_runs one places runs test false fault is none = subst (λ (n : ℕ). runs ≡ runs + count_below test n) (sym (none refl)) (omega arith)

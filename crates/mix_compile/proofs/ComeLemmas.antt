-- What the end of a build comes to.
use Rattle.std.proofs.Common.{◌≡◌, ◌≢◌, ◌⊎◌, inl, inr, ℕ, zero, suc, ◌+◌, ◌<◌, ◌≤◌, Bool, true, false, List, [], ◌∷◌, ◌++◌, length, map, filter_map, count_by, Option, Some, None, Result, Ok, Err, IfOk, Vec, is_some, slice_get, refl, sym, ◌∙◌, ap, subst, arith}
use Rattle.std.specs.List.{cons_option}
use Rattle.std.specs.declared.alloc.Global.{Global}
use Rattle.std.proofs.lemmas.List.{length-map}
use Rattle.mx_base.specs.Causes.{Rose}
use Rattle.compile_model.specs.declared.job.Job.{Job}
use Rattle.compile_model.specs.declared.outcome.Fate.{Fate}
use Rattle.tree_store.specs.Known.{Known}
use Rattle.partition_core.specs.declared.event.Event.{Event}
use Rattle.partition_core.specs.State.{Opening, at}
use Rattle.partition_core.specs.Histories.{replay}
use Rattle.partition_core.proofs.Tidy.{places_all}
use Rattle.partition_crew.specs.declared.one.BuildFault.{BuildFault}
use Rattle.partition_crew.specs.declared.one.BuildFault.TheVariants.{TreeFault, OutOfMemory, NoPartitionLeft}
use Rattle.partition_crew.specs.declared.one.One.{One}
use Rattle.partition_crew.specs.Build.{HaveFates, SomeFailed, is_death}
use Rattle.partition_crew.specs.Station.{Nature}
use Rattle.partition_face.specs.Makers.{MakerKnown}
use Rattle.mix_answer.specs.declared.answer.Answer.{Answer}
use Rattle.mix_answer.specs.declared.status.Status.TheVariants.{Died}
use Rattle.mix_answer.specs.declared.stop.Stop.{Stop}
use Rattle.mix_answer.specs.Answer.{reply_in}
use Rattle.mix_answer.specs.Reply.{reply_of}
use Rattle.mix_answer.specs.Texts.{died_line}
use Rattle.mix_compile.specs.Building.{Bench, ComesTo, HasBuilt, IsCut, IsFinished}
use Rattle.mix_compile.specs.Building.IsCut.{died, no_memory, tree_fault}
use Rattle.mix_compile.specs.Making.{ComesBy, reply_by}
use Rattle.mix_compile.specs.Site.{IsCalm, Passage, passage_of, site_of}

-- ---- fates

abbrev all : List (Option Fate) → List Fate
all fates = filter_map (λ (fate : Option Fate). fate) fates

no_fates : (fates : List (Option Fate)) → ((p : ℕ) → at fates p ≡ None) → all fates ≡ []
no_fates [] none = refl
no_fates (None ∷ fates) none = no_fates fates (λ p. none (suc p))
no_fates (Some fate ∷ fates) none = let clash : Some fate ≡ None = none 0 in cc

-- lists that are equal place by place have the same fates
same_fates : (one other : List (Option Fate)) → ((p : ℕ) → at one p ≡ at other p) → all one ≡ all other
same_fates [] other same = sym (no_fates other (λ p. sym (same p)))
same_fates (x ∷ xs) [] same = no_fates (x ∷ xs) same
same_fates (x ∷ xs) (y ∷ ys) same =
    let head : x ≡ y = same 0 in
    ap (λ (o : Option Fate). cons_option o (all xs)) head ∙ ap (λ (rest : List Fate). cons_option y rest) (same_fates xs ys (λ p. same (suc p)))

-- where each place has one they are all there
whole_fates : (fates : List (Option Fate)) → ((p : ℕ) → p < length fates → is_some (at fates p) ≡ true) → fates ≡ map Some (all fates)
whole_fates [] have = refl
whole_fates (None ∷ fates) have = let clash : false ≡ true = have 0 (omega arith) in cc
whole_fates (Some fate ∷ fates) have = ap (λ (rest : List (Option Fate)). Some fate ∷ rest) (whole_fates fates (λ p below. have (suc p) (omega (arith, below))))

pub fates_whole : (o : Opening) (history : List Event) (fates : List (Option Fate)) → ((p : ℕ) → at fates p ≡ at (replay o history).fates p)
    → HaveFates (length o.plan.jobs) fates → (replay o history).fates ≡ map Some (all fates)
fates_whole o history fates same have =
    whole_fates (replay o history).fates (λ p below. ap is_some (sym (same p)) ∙ have p (omega (arith, below, places_all o history)))
    ∙ ap (λ (fs : List Fate). map Some fs) (sym (same_fates fates (replay o history).fates same))

-- ---- how it ended

module _ (nature : Nature) (o : Opening) (old mid new : Known) (before after : Bench) (one : One) (text : List ℕ) (built : HasBuilt nature o before after one)
    (said : text ≡ died_line 1) (faults : new.faults ≡ old.faults) (was : mid.returned ≡ old.returned)
    (rose : SomeFailed after.folders → Rose mid.returned new.returned) (kept : (SomeFailed after.folders → ⊥) → new.returned ≡ mid.returned) where
  calm : (one.fault ≡ Some TreeFault → ⊥) → ((n : ℕ) → one.fault ≡ Some (NoPartitionLeft n) → ⊥)
      → IsCalm (passage_of (site_of old before.maker) (site_of new after.maker))
  calm tree alive = record {
    reads = faults;
    trees = kept (built.fault.whole tree) ∙ was;
    deaths = built.fault.lives alive;
    makers = built.made;
  }

  comes : (fault : Option BuildFault) → one.fault ≡ fault → (fates : Result (Vec Fate Global) (Result Answer Stop)) → ComesBy fault one.fates.items text fates
      → ComesTo nature o (passage_of (site_of old before.maker) (site_of new after.maker)) one.history.items fates
  comes None is (Ok fates) by = record {
    whole = fates_whole o one.history.items one.fates.items built.history.fates (built.all is) ∙ ap (λ (fs : List Fate). map Some fs) (sym by);
    calm = calm (λ e. let clash : None ≡ Some TreeFault = sym is ∙ e in cc) (λ n e. let clash : None ≡ Some (NoPartitionLeft n) = sym is ∙ e in cc);
  }
  comes None is (Err answer) by =
      no_memory (calm (λ e. let clash : None ≡ Some TreeFault = sym is ∙ e in cc) (λ n e. let clash : None ≡ Some (NoPartitionLeft n) = sym is ∙ e in cc)) by
  comes (Some fault) is (Ok fates) by = absurd by
  comes (Some TreeFault) is (Err answer) by = tree_fault (subst (λ (n : ℕ). Rose n new.returned) was (rose (built.fault.tree is))) by
  comes (Some OutOfMemory) is (Err answer) by =
      no_memory (calm (λ e. let clash : Some OutOfMemory ≡ Some TreeFault = sym is ∙ e in cc)
      (λ n e. let clash : Some OutOfMemory ≡ Some (NoPartitionLeft n) = sym is ∙ e in cc)) by
  comes (Some (NoPartitionLeft n)) is (Err answer) by =
      let dead = built.fault.died n is in
      died (record {
        rose = dead.0;
        mortal = dead.1;
        reply = by ∙ ap (reply_of Died) (said ∙ ap died_line (sym dead.2));
      })

  pub comes_to : (fates : Result (Vec Fate Global) (Result Answer Stop)) → ComesBy one.fault one.fates.items text fates
      → ComesTo nature o (passage_of (site_of old before.maker) (site_of new after.maker)) one.history.items fates
  comes_to fates by = comes one.fault refl fates by

-- one fate for each job
pub fates_many : (nature : Nature) (o : Opening) (passage : Passage) (history : List Event) (fates : Result (Vec Fate Global) (Result Answer Stop))
    → ComesTo nature o passage history fates → IfOk fates (λ all. length all.items ≡ length o.plan.jobs)
fates_many nature o passage history (Ok fates) comes =
    let many : length (replay o history).fates ≡ length (map Some fates.items) = ap length comes.whole in
    omega (arith, many, places_all o history, length-map fates.items (λ (f : Fate). Some f))
fates_many nature o passage history (Err answer) comes = tt

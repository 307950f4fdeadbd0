-- Compiling one after another, in two parts.
use Rattle.std.proofs.Common.{◌≡◌, ℕ, suc, ◌+◌, ◌<◌, List, [], ◌∷◌, ◌++◌, length, take, get_or, Option, Some, None, is_some, Bool, true, false, ◌==◌, cond, refl, sym, ◌∙◌, ap}
use Rattle.std.specs.List.{cons_option}
use Rattle.std.proofs.lemmas.List.{take_more}
use Rattle.std.proofs.lemmas.Option.{slice_get-get_or}
use Rattle.mx_base.specs.Causes.{Rose}
use Rattle.compile_model.specs.declared.job.Job.{Job}
use Rattle.compile_model.specs.declared.outcome.Outcome.{Outcome}
use Rattle.compile_model.specs.declared.outcome.Fate.{Fate}
use Rattle.compile_model.specs.declared.outcome.Fate.TheVariants.{Built, Failed}
use Rattle.mx_base.specs.Order.{AreInOrder}
use Rattle.std.specs.List.{AllByRecursion}
use Rattle.compile_model.specs.Content.{Content, content_of}
use Rattle.compile_model.specs.Seq.{fate_of, seq_from, seq, first_unbuilt, outcome_at, outcomes_of, fate_unless, HoldsInOrder, DiesAt}

seq_from-append : (f : Content → Outcome) (fates : List Fate) (xs ys : List Job) → seq_from f fates (xs ++ ys) ≡ seq_from f (seq_from f fates xs) ys
seq_from-append f fates [] ys = refl
seq_from-append f fates (x ∷ xs) ys = seq_from-append f (fates ++ fate_of f fates x ∷ []) xs ys

-- one job more
pub seq_take_more : (f : Content → Outcome) (jobs : List Job) (i : ℕ) (job : Job) → i < length jobs → job ≡ get_or jobs i job → seq f (take (i + 1) jobs) ≡ seq f (take i jobs) ++ fate_of f (seq f (take i jobs)) job ∷ []
seq_take_more f jobs i job h is =
    ap (seq f) (take_more jobs i job h ∙ ap (λ (x : Job). take i jobs ++ x ∷ []) (sym is))
    ∙ seq_from-append f [] (take i jobs) (job ∷ [])

one_each : (o : Option Outcome) (fates : List Fate) (need : ℕ) (needs : List ℕ) → outcome_at fates need ≡ o → cond (is_some o) (first_unbuilt fates needs) (Some need) ≡ None → (first_unbuilt fates needs ≡ None → length (outcomes_of fates needs) ≡ length needs) → length (outcomes_of fates (need ∷ needs)) ≡ length (need ∷ needs)
one_each None fates need needs is e rest = cc
one_each (Some o) fates need needs is e rest =
    ap (λ (found : Option Outcome). length (cons_option found (outcomes_of fates needs))) is ∙ ap suc (rest e)

-- where all needs are built there is one outcome for each
pub one_outcome_each : (fates : List Fate) (needs : List ℕ) → first_unbuilt fates needs ≡ None → length (outcomes_of fates needs) ≡ length needs
one_outcome_each fates [] e = refl
one_outcome_each fates (need ∷ needs) e = one_each (outcome_at fates need) fates need needs refl e (one_outcome_each fates needs)

settled_in_order : (o : Outcome) (built : Bool) → AreInOrder o.files → HoldsInOrder (cond built (Built o) (Failed o))
settled_in_order o true order = order
settled_in_order o false order = tt

fate_in_order : (need : Option ℕ) (o : Outcome) → AreInOrder o.files → HoldsInOrder (fate_unless need o)
fate_in_order (Some need) o order = tt
fate_in_order None o order = settled_in_order o (o.status == 0) order

in_order_more : (fates : List Fate) (fate : Fate) → AllByRecursion HoldsInOrder fates → HoldsInOrder fate → AllByRecursion HoldsInOrder (fates ++ fate ∷ [])
in_order_more [] fate all own = (own, tt)
in_order_more (f ∷ fs) fate all own = (all.0, in_order_more fs fate all.1 own)

seq_from_in_order : (f : Content → Outcome) → ((content : Content) → AreInOrder (f content).files) → (fates : List Fate) (jobs : List Job) → AllByRecursion HoldsInOrder fates → AllByRecursion HoldsInOrder (seq_from f fates jobs)
seq_from_in_order f law fates [] all = all
seq_from_in_order f law fates (job ∷ jobs) all =
    let content = content_of job (outcomes_of fates job.needs) in
    seq_from_in_order f law (fates ++ fate_of f fates job ∷ []) jobs (in_order_more fates (fate_of f fates job) all (fate_in_order (first_unbuilt fates job.needs) (f content) (law content)))

-- where each outcome's files are in order, so are those of the jobs that are built
pub seq_in_order : (f : Content → Outcome) → ((content : Content) → AreInOrder (f content).files) → (jobs : List Job) → AllByRecursion HoldsInOrder (seq f jobs)
seq_in_order f law jobs = seq_from_in_order f law [] jobs tt

-- the compiler died at the job of this place, before which all went well
pub dies_at : (f : Content → Outcome) (jobs : List Job) (before now place : ℕ) (job : Job) → Rose before now → place < length jobs → job ≡ get_or jobs place job → first_unbuilt (seq f (take place jobs)) job.needs ≡ None → DiesAt f jobs before now place
dies_at f jobs before now place job rose below is all = record { rose = rose; started = (job, slice_get-get_or jobs place job below ∙ ap Some (sym is), all) }

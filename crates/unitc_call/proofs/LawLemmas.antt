-- What follows from how a call ends.
use Rattle.std.proofs.Common.{◌≡◌, ◌⊎◌, inl, inr, ℕ, ◌≤◌, Bool, true, false, List, Some, None, sym, ◌∙◌, ap, subst, lit≤, arith}
use Rattle.mx_base.specs.Sink.{Sunk}
use Rattle.compile_model.specs.declared.how.How.{How}
use Rattle.compile_model.specs.declared.how.How.TheVariants.{Nothing, Unit as ByUnit, Program}
use Rattle.compile_model.specs.Content.{Content}
use Rattle.tree_store.specs.Known.{Known}
use Rattle.kept_tree.specs.declared.fault.KeptFault.{KeptFault}
use Rattle.kept_tree.specs.declared.fault.KeptFault.TheVariants.{Read, Tree, OutOfMemory}
use Rattle.unit_compile.specs.Units.{all_of, compiled_by, faces_in_order, has_error, outcome_with_all, text_of, unit_meaning}
use Rattle.unitc_call.specs.declared.words.Task.{Task}
use Rattle.unitc_call.specs.Compile.{IsCompiled, Reply}
use Rattle.unitc_call.specs.Ends.{Breaks, Comes, Says, Stops, World, bad_words, status_of}
use Rattle.unitc_call.specs.Ends.Breaks.{unread, stopped}
use Rattle.unitc_call.specs.Ends.Comes.{misread, compiled}
use Rattle.unitc_call.specs.Ends.Ends.{heard, broken}
use Rattle.unitc_call.specs.Ends.Says.{said, cut}
use Rattle.unitc_call.specs.Laws.{IsOfSink, NoMemory, NoneRose, OtherWordsAreRefused, TasksAreCompiled, TenIsOfTheSink, Told, TwoIsOfOtherWords}
use Rattle.unitc_call.specs.Words.{task_of}

few_by_all : (failed : Bool) (content : Content) → (outcome_with_all failed (text_of (all_of content)) (faces_in_order (all_of content))).status ≤ 1
few_by_all true content = lit≤ tt
few_by_all false content = lit≤ tt

few_by : (how : How) (content : Content) → (compiled_by how content).status ≤ 1
few_by Nothing content = lit≤ tt
few_by ByUnit content = few_by_all (has_error (all_of content)) content
few_by (Program words) content = few_by_all (has_error (all_of content)) content

-- units are built or fail
pub meaning_few : (content : Content) → (unit_meaning content).status ≤ 1
meaning_few content = few_by content.how content

-- words ask for one task at most
none_asked : (words : List (List ℕ)) (task : Task) → task_of words ≡ Some task → task_of words ≡ None → ⊥
none_asked words task is none = cc

-- what words come to has a status up to 2
comes_few : (words : List (List ℕ)) (old new : Known) (reply : Reply) → Comes words old new reply → reply.status ≤ 2
comes_few words old new reply (misread none same is) = subst (λ (r : Reply). r.status ≤ 2) (sym is) (lit≤ tt)
comes_few words old new reply (compiled task is done) = omega (arith, done.status, meaning_few done.content)

broken_status : (fault : KeptFault) → (5 ≤ status_of fault) × (status_of fault ≤ 8)
broken_status Read = (lit≤ tt, lit≤ tt)
broken_status Tree = (lit≤ tt, lit≤ tt)
broken_status OutOfMemory = (lit≤ tt, lit≤ tt)

same_faults : (old new : Sunk) → new ≡ old → new.faults ≡ old.faults
same_faults old new same = ap (λ (s : Sunk). s.faults) same

-- a task whose step stopped, though no count rose, ran out of memory
no_memory : (fault : KeptFault) (old new : World) (status : ℕ) → Stops fault old.store new.store → NoneRose old new → new.sink ≡ old.sink →
    status ≡ status_of fault → NoMemory old new status
no_memory Read old new status (inl rose) none same is = absurd (none.faults rose)
no_memory Read old new status (inr rose) none same is = absurd (none.returned rose)
no_memory Tree old new status rose none same is = absurd (none.returned rose)
no_memory OutOfMemory old new status calm none same is = record { ended = is; sink = same; calm = calm }

unread_memory : (fault : KeptFault) (old new : World) (status : ℕ) → fault ≡ OutOfMemory → new.store ≡ old.store → new.sink ≡ old.sink →
    status ≡ status_of fault → NoMemory old new status
unread_memory fault old new status memory still same is = record {
  ended = is ∙ ap status_of memory;
  sink = same;
  calm = (ap (λ (k : Known). k.faults) still, ap (λ (k : Known). k.returned) still);
}

told : (reply : Reply) (old new : World) (status : ℕ) → Says reply old.sink new.sink status → NoneRose old new → Told reply old new status
told reply old new status (said taken still is) none = record { ended = is; text = taken }
told reply old new status (cut part taken rose is) none = absurd (none.sink rose)

pub tasks_compiled : TasksAreCompiled
tasks_compiled words task old new status (heard reply comes says) is none = at comes
  where
    at : Comes words old.store new.store reply → ((reply : Reply) × IsCompiled task old.store new.store reply × Told reply old new status) ⊎ NoMemory old new status
    at (misread other same answer) = absurd (none_asked words task is other)
    at (compiled asked own done) =
        let same : Some asked ≡ Some task = sym own ∙ is in
        let which : asked ≡ task = cc in
        inl (reply, subst (λ (t : Task). IsCompiled t old.store new.store reply) which done, told reply old new status says none)
tasks_compiled words task old new status (broken fault breaks same ended) is none = at breaks
  where
    at : Breaks words old.store new.store fault → ((reply : Reply) × IsCompiled task old.store new.store reply × Told reply old new status) ⊎ NoMemory old new status
    at (unread memory still) = inr (unread_memory fault old new status memory still same ended)
    at (stopped asked own stops) = inr (no_memory fault old new status stops none same ended)

pub others_refused : OtherWordsAreRefused
others_refused words old new status (heard reply comes says) other = at comes
  where
    at : Comes words old.store new.store reply → (new.store ≡ old.store) × (NoneRose old new → Told bad_words old new status ⊎ NoMemory old new status)
    at (misread none same is) = (same, λ calm. inl (subst (λ (r : Reply). Told r old new status) is (told reply old new status says calm)))
    at (compiled task is done) = absurd (none_asked words task is other)
others_refused words old new status (broken fault breaks same is) other = at breaks
  where
    at : Breaks words old.store new.store fault → (new.store ≡ old.store) × (NoneRose old new → Told bad_words old new status ⊎ NoMemory old new status)
    at (unread memory still) = (still, λ calm. inr (unread_memory fault old new status memory still same is))
    at (stopped task asked stops) = absurd (none_asked words task asked other)

pub two_of_others : TwoIsOfOtherWords
two_of_others words old new (heard reply comes says) = at comes says
  where
    at : Comes words old.store new.store reply → Says reply old.sink new.sink 2 → task_of words ≡ None
    at (misread none same is) says = none
    at (compiled task is done) (said taken still status) = absurd (omega (arith, status, done.status, meaning_few done.content))
    at (compiled task is done) (cut part taken rose status) = absurd (omega (arith, status))
two_of_others words old new (broken fault breaks same is) = absurd (omega (arith, is, (broken_status fault).0))

pub ten_of_sink : TenIsOfTheSink
ten_of_sink words old new status (heard reply comes says) = at says
  where
    at : Says reply old.sink new.sink status → IsOfSink old new status
    at (said taken still is) = record {
      rose = λ ten. absurd (omega (arith, ten, is, comes_few words old.store new.store reply comes));
      told = λ more. absurd (omega (arith, more, still));
    }
    at (cut part taken rose is) = record { rose = λ ten. rose; told = λ more. is }
ten_of_sink words old new status (broken fault breaks same is) = record {
  rose = λ ten. absurd (omega (arith, ten, is, (broken_status fault).1));
  told = λ more. absurd (omega (arith, more, same_faults old.sink new.sink same));
}

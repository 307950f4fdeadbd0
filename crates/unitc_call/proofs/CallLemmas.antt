-- The ways in which a call ends, and the statuses that it ends with.
use Rattle.std.proofs.Common.{◌≡◌, ℕ, zero, suc, ◌≤◌, List, Contains, Some, Result, Ok, Err, IfOk, IfErr, refl, sym, lit≤, lit<, subst, arith}
use Rattle.std.specs.List.{All}
use Rattle.std.proofs.lemmas.List.Elements.{All-from_recursion}
use Rattle.mx_base.specs.Sink.{Sunk}
use Rattle.tree_store.specs.Known.{Known}
use Rattle.kept_tree.specs.declared.fault.KeptFault.{KeptFault}
use Rattle.kept_tree.specs.declared.fault.KeptFault.TheVariants.{Read, Tree, OutOfMemory}
use Rattle.unitc_call.specs.declared.compile.Reply.{Reply as Answer}
use Rattle.unitc_call.specs.declared.words.Task.{Task}
use Rattle.unitc_call.specs.Compile.{IsCompiled, Reply, reply_of}
use Rattle.unitc_call.specs.Ends.{Breaks, Comes, Says, Stops, status_of, statuses}
use Rattle.unitc_call.specs.Ends.Breaks.{stopped}
use Rattle.unitc_call.specs.Ends.Comes.{compiled}
use Rattle.unitc_call.specs.Ends.Says.{said, cut}
use Rattle.unitc_call.specs.Words.{task_of}

all_small : All (λ status. status ≤ 10) statuses
all_small = All-from_recursion (λ status. status ≤ 10) statuses (lit≤ tt, (lit≤ tt, (lit≤ tt, (lit≤ tt, (lit≤ tt, (lit≤ tt, (lit≤ tt, tt)))))))

-- each is a small number
pub small_status : (status : ℕ) → Contains statuses status → status ≤ 10
small_status status among = subst (λ (n : ℕ). n ≤ 10) among.2 (all_small among.0 status among.1)

few_among : (status : ℕ) → status ≤ 2 → Contains statuses status
few_among zero few = (0, lit< tt, refl)
few_among (suc zero) few = (1, lit< tt, refl)
few_among (suc (suc zero)) few = (2, lit< tt, refl)
few_among (suc (suc (suc n))) few = absurd (omega (arith, few))

-- the status that is said is one of them
pub says_among : (reply : Reply) (old new : Sunk) (status : ℕ) → reply.status ≤ 2 → Says reply old new status → Contains statuses status
says_among reply old new status few (said taken still is) = subst (Contains statuses) (sym is) (few_among reply.status few)
says_among reply old new status few (cut part taken rose is) = subst (Contains statuses) (sym is) (6, lit< tt, refl)

-- and that of a call that stops
pub stop_among : (fault : KeptFault) → Contains statuses (status_of fault)
stop_among Read = (3, lit< tt, refl)
stop_among Tree = (4, lit< tt, refl)
stop_among OutOfMemory = (5, lit< tt, refl)

-- what compiling the task of the words comes to
pub comes_of : (words : List (List ℕ)) (old new : Known) (task : Task) (result : Result Answer KeptFault) → task_of words ≡ Some task →
    IfOk result (λ reply. IsCompiled task old new (reply_of reply)) → IfOk result (λ reply. Comes words old new (reply_of reply))
comes_of words old new task (Ok reply) is done = compiled task is done
comes_of words old new task (Err fault) is done = tt

-- or why it stops
pub breaks_of : (words : List (List ℕ)) (old new : Known) (task : Task) (result : Result Answer KeptFault) → task_of words ≡ Some task →
    IfErr result (λ fault. Stops fault old new) → IfErr result (Breaks words old new)
breaks_of words old new task (Ok reply) is stops = tt
breaks_of words old new task (Err fault) is stops = stopped task is stops

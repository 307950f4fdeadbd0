-- The turns of the loop that reads a requirement, by the machine.
use Rattle.std.proofs.Common.{◌≡◌, ℕ, ◌++◌, List, [], ◌∷◌, Result, Ok, Err, IfErr, IsErrAnd, Option, Some, None, ◌∙◌}
use Rattle.version_req.specs.declared.scanned.Joint.{Joint}
use Rattle.version_req.specs.declared.parse.Fault.{Fault}
use Rattle.version_req.specs.declared.parse.Fault.TheVariants as faults
use Rattle.version_req.specs.declared.scan.Stuck.{Stuck}
use Rattle.version_req.specs.Condition.{Alternatives, Condition}
use Rattle.version_req.specs.Stops.{StopsAs}
use Rattle.version_req.specs.Machine.{After, Lead, Tree, empty, joined, run}
use Rattle.version_req.specs.Reading.{Read, comparison_of, joint_of}
use Rattle.version_req.proofs.MachineSteps.{Follows, JoinsAfter, after, comparison_follows, joint_follows}

-- the machine has come to a comparison, with this tree
abbrev pub ComesTo : List ℕ → List ℕ → List (List Condition) → List Condition → Type 0
ComesTo text rest done group = run text Lead empty ≡ run rest Lead (record { done = done; group = group })

follows_at : (rest : List ℕ) (q : Read Condition) → q ≡ comparison_of rest → Follows Lead rest after q
follows_at rest q e = rw e (comparison_follows rest)

joins_at : (c : Condition) (rest : List ℕ) (tree : Tree) (q : Read (Option Joint)) → q ≡ joint_of rest → JoinsAfter c rest tree q
joins_at c rest tree q e = rw e (joint_follows c rest tree)

-- no comparison
pub comparison_stuck : (text rest : List ℕ) (done : List (List Condition)) (group : List Condition) (s : Stuck)
    → ComesTo text rest done group → Err s ≡ comparison_of rest → run text Lead empty ≡ Err s.left
comparison_stuck text rest done group s comes e = comes ∙ follows_at rest (Err s) e (record { done = done; group = group })

-- after a comparison
comes_after : (text rest next : List ℕ) (done : List (List Condition)) (group : List Condition) (c : Condition)
    → ComesTo text rest done group → Ok (c, next) ≡ comparison_of rest
    → run text Lead empty ≡ run next (After c) (record { done = done; group = group })
comes_after text rest next done group c comes e = comes ∙ follows_at rest (Ok (c, next)) e (record { done = done; group = group })

-- no word and no end
pub joint_stuck : (text rest next : List ℕ) (done : List (List Condition)) (group : List Condition) (c : Condition) (s : Stuck)
    → ComesTo text rest done group → Ok (c, next) ≡ comparison_of rest → Err s ≡ joint_of next → run text Lead empty ≡ Err s.left
joint_stuck text rest next done group c s comes e f =
    comes_after text rest next done group c comes e ∙ joins_at c next (record { done = done; group = group }) (Err s) f

-- the end
pub joint_none : (text rest next tail : List ℕ) (done : List (List Condition)) (group : List Condition) (c : Condition)
    → ComesTo text rest done group → Ok (c, next) ≡ comparison_of rest → Ok (None, tail) ≡ joint_of next
    → run text Lead empty ≡ Ok (done ++ (group ++ c ∷ []) ∷ [])
joint_none text rest next tail done group c comes e f =
    comes_after text rest next done group c comes e ∙ joins_at c next (record { done = done; group = group }) (Ok (None, tail)) f

-- a word
pub joint_some : (text rest next tail : List ℕ) (done : List (List Condition)) (group : List Condition) (c : Condition) (j : Joint)
    → ComesTo text rest done group → Ok (c, next) ≡ comparison_of rest → Ok (Some j, tail) ≡ joint_of next
    → run text Lead empty ≡ run tail Lead (joined j (record { done = done; group = group ++ c ∷ [] }))
joint_some text rest next tail done group c j comes e f =
    comes_after text rest next done group c comes e ∙ joins_at c next (record { done = done; group = group }) (Ok (Some j, tail)) f

-- an error that came of being stuck
pub err_stuck : {T : Type 0} (r : Result T Fault) (read : Result Alternatives ℕ) (s : Stuck) → read ≡ Err s.left
    → IsErrAnd r (λ fault. fault ≡ faults.Stuck s) → IfErr r (StopsAs read)
err_stuck (Ok x) read s stuck e = tt
err_stuck (Err fault) read s stuck e = rw e stuck

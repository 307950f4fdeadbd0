-- What a list of answers stands for.
use Rattle.std.specs.Prelude.{◌≡◌, ℕ, Bool, true, false, cond, nat_eq, List, [], ◌∷◌, Result, Ok, Err, if◌then◌else◌, refl}
use Rattle.std.specs.Cmp.Lexicographic.{pointwise}
use Rattle.mx_base.specs.Blame.{Blame}
use Rattle.mx_base.specs.Blame.Blame.{Input, Outside, Memory}
use Rattle.dep_options.specs.declared.decl.Decl.{Decl}
use Rattle.dep_rows.specs.declared.list_children.ListFault.{ListFault}
use Rattle.dep_rows.specs.declared.list_children.ListFault.TheVariants.{Refused, Failed, OutOfMemory}
use Rattle.dep_rows.specs.declared.list_children.ListAnswer.{ListAnswer}

-- what an answer tells
abbrev pub told_by : Result (List Decl) ℕ → Result (List Decl) ListFault
told_by (Ok decls) = Ok decls
told_by (Err reason) = Err (Refused reason)

-- the first answer for the app, and no children where there is none
abbrev pub answer_for : List ListAnswer → List ℕ → Result (List Decl) ListFault
answer_for [] app = Ok []
answer_for (answer ∷ answers) app = if pointwise nat_eq answer.app app then told_by answer.children else answer_for answers app

abbrev pub list_blame : ListFault → Blame
list_blame (Refused reason) = Input
list_blame Failed = Outside
list_blame OutOfMemory = Memory

abbrev pub IsReason : ListFault → Type 0
IsReason fault = list_blame fault ≡ Input

-- a fault that an answer tells is a reason
told_is_reason : (answer : Result (List Decl) ℕ) (fault : ListFault) → told_by answer ≡ Err fault → IsReason fault
told_is_reason (Ok decls) fault is = cc
told_is_reason (Err reason) (Refused other) is = refl
told_is_reason (Err reason) Failed is = cc
told_is_reason (Err reason) OutOfMemory is = cc

-- a fault that comes from either of two answers is a reason where each one's is
one_of : (b : Bool) (first rest : Result (List Decl) ListFault) (fault : ListFault) → (first ≡ Err fault → IsReason fault) → (rest ≡ Err fault → IsReason fault) → cond b first rest ≡ Err fault → IsReason fault
one_of true first rest fault here there is = here is
one_of false first rest fault here there is = there is

-- a fault that the list tells is a reason
pub listed_is_reason : (answers : List ListAnswer) (app : List ℕ) (fault : ListFault) → answer_for answers app ≡ Err fault → IsReason fault
listed_is_reason [] app fault is = cc
listed_is_reason (answer ∷ answers) app fault is = one_of (pointwise nat_eq answer.app app) _ _ fault (told_is_reason answer.children fault) (listed_is_reason answers app fault) is

-- Whom an error blames, and what a call answers that may fail.
use Rattle.std.specs.Prelude.{◌≡◌, Bool, true, false, Result, Ok, Err, IsFalse}

-- of what an error tells
pub data Blame : Type 0 where
  -- what was handed in is refused
  Input : Blame
  -- the outside failed, and counted it
  Outside : Blame
  -- memory ran out, which says nothing of the input
  Memory : Blame

-- the answer is one of these, and each refusal of the input is too
abbrev pub Answers : {X E : Type 0} → (E → Blame) → Result X E → (Result X E → Type 0) → Type 0
Answers blame (Ok x) Is = Is (Ok x)
Answers blame (Err e) Is = blame e ≡ Input → Is (Err e)

-- the same of what contracts see of the value, as the items of a vector
abbrev pub AnswersBy : {X Y E : Type 0} → (X → Y) → (E → Blame) → Result X E → (Result Y E → Type 0) → Type 0
AnswersBy seen blame (Ok x) Is = Is (Ok (seen x))
AnswersBy seen blame (Err e) Is = blame e ≡ Input → Is (Err e)

abbrev pub is_outside : Blame → Bool
is_outside Input = false
is_outside Outside = true
is_outside Memory = false

-- the call answers that the outside failed
abbrev pub fails : {X E : Type 0} → (E → Blame) → Result X E → Bool
fails blame (Ok x) = false
fails blame (Err e) = is_outside (blame e)

-- the answer is one of these, and nothing outside was asked for it
pub record Computes {X E : Type 0} (blame : E → Blame) (result : Result X E) (Is : Result X E → Type 0) : Type 0 where
  pub answer : Answers blame result Is
  pub alone : IsFalse (fails blame result)

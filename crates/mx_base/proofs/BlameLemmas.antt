-- Answers that are handed on.
use Rattle.std.proofs.Common.{◌≡◌, ℕ, Bool, true, false, Result, Ok, Err, IsFalse, refl, sym, ap, subst}
use Rattle.std.specs.Result.{IsErrAnd}
use Rattle.mx_base.specs.Blame.{Blame, Answers, is_outside, fails}
use Rattle.mx_base.specs.Blame.Blame.{Input, Memory}
use Rattle.mx_base.specs.Causes.{Counted}

-- what a question mark hands on
pub answers_on : {X E : Type 0} (blame : E → Blame) (Is : Result X E → Type 0) (result : Result X E) (error : E) → IsErrAnd result (λ e. e ≡ error) → (blame error ≡ Input → Is (Err error)) → Answers blame result Is
answers_on blame Is (Ok x) error is refused = absurd is
answers_on blame Is (Err e) error is refused = subst (λ x. blame x ≡ Input → Is (Err x)) (sym is) refused

-- an answer of another kind, made of one that was had
pub answers_as : {X E : Type 0} (blame : E → Blame) (Was Is : Result X E → Type 0) (result : Result X E) → ((answer : Result X E) → Was answer → Is answer) → Answers blame result Was → Answers blame result Is
answers_as blame Was Is (Ok x) become was = become (Ok x) was
answers_as blame Was Is (Err e) become was = λ input. become (Err e) (was input)

-- want of memory is told only where nothing outside failed
pub quiet_at_memory : {E : Type 0} (blame : E → Blame) (before now : ℕ) (e : E) → Counted before now (is_outside (blame e)) → blame e ≡ Memory → now ≡ before
quiet_at_memory blame before now e counted memory = counted.kept (ap is_outside memory)

-- the outside is blamed exactly where its count rose
pub blamed_where_it_rose : {X E : Type 0} (blame : E → Blame) (before now : ℕ) (result : Result X E) → Counted before now (fails blame result) → (now ≡ before → ⊥) → fails blame result ≡ true
blamed_where_it_rose blame before now result counted rose = at (fails blame result) counted.kept
  where
    at : (b : Bool) → (IsFalse b → now ≡ before) → b ≡ true
    at true kept = refl
    at false kept = absurd (rose (kept refl))

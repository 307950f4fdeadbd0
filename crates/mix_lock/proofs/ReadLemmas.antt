-- What a text and its term say.
use Rattle.std.proofs.Common.{◌≡◌, ℕ, Bool, true, false, List, Err, if◌then◌else◌, refl}
use Rattle.std.specs.Prelude.{IsFalse}
use Rattle.std.specs.List.{AllByRecursion}
use Rattle.std.specs.List.Sorted.{IsPermutation}
use Rattle.std.proofs.lemmas.List.Elements.{All-from_recursion, recursion_from_All}
use Rattle.std.proofs.lemmas.List.Sorted.{All-permutation}
use Rattle.elixir_terms.specs.declared.error.TermError.{TermError}
use Rattle.elixir_terms.specs.Refusals.{IsRefusal}
use Rattle.mx_base.specs.Blame.Blame.{Input}
use Rattle.term_tokens.specs.Refused.{is_memory}
use Rattle.mix_lock.specs.declared.error.LockError.TheVariants as lock
use Rattle.mix_lock.specs.Blame.{lock_blame}
use Rattle.mix_lock.specs.Refusals.{term_refused}
use Rattle.mix_lock.specs.Says.{SaysLock}
use Rattle.mix_lock.specs.Says.SaysLock.{unread}

-- a text that is refused
pub text_refused : (text : List ℕ) (error : TermError)
    → (IsFalse (is_memory error.cause) → IsRefusal text error.at error.cause) → lock_blame (term_refused error) ≡ Input
    → SaysLock text (Err (term_refused error))
text_refused text error why = at (is_memory error.cause) refl
  where
    at : (b : Bool) → is_memory error.cause ≡ b → lock_blame (if b then lock.OutOfMemory else lock.Term error) ≡ Input
        → SaysLock text (Err (if b then lock.OutOfMemory else lock.Term error))
    at true m input = cc
    at false m input = unread (m, why m)

-- what holds of each holds of each in another order
pub all_moved : {A : Type 0} (P : A → Type 0) (xs ys : List A) → IsPermutation xs ys → AllByRecursion P xs → AllByRecursion P ys
all_moved P xs ys same all = recursion_from_All P ys (All-permutation P xs ys same (All-from_recursion P xs all))

-- What a text and its term say.
use Rattle.std.proofs.Common.{◌≡◌, ℕ, suc, ◌+◌, ◌<◌, ◌≤◌, Bool, true, false, cond, List, ◌∷◌, ◌++◌, length, map, drop, get_or, position, nat_lt, is_none, Option, Some, None, option_map, Err, Ok, Result, Vec, if◌then◌else◌, IsErrAnd, refl, sym, ◌∙◌, ap, subst, arith}
use Rattle.std.specs.List.{position_or_len}
use Rattle.std.proofs.lemmas.List.Sums.{position_or_len_is}
use Rattle.std.proofs.lemmas.Bool.{lt-ltb}
use Rattle.std.proofs.lemmas.List.{append-nil, drop_all, drop_more}
use Rattle.std.specs.Prelude.{IsFalse}
use Rattle.std.specs.declared.alloc.Global.{Global}
use Rattle.elixir_terms.specs.declared.error.TermError.{TermError}
use Rattle.elixir_terms.specs.Refusals.{IsRefusal}
use Rattle.mx_base.specs.Blame.{AnswersBy}
use Rattle.mx_base.specs.Blame.Blame.{Input}
use Rattle.term_tokens.specs.Refused.{is_memory}
use Rattle.session_script.specs.declared.edit.Edit.{Edit}
use Rattle.session_script.specs.declared.error.ScriptError.{ScriptError}
use Rattle.session_script.specs.declared.error.ScriptError.TheVariants as script
use Rattle.session_script.specs.Blame.{script_blame}
use Rattle.session_script.specs.Refusals.{term_refused}
use Rattle.session_script.specs.Says.{AreEdits, SaysScript}
use Rattle.session_script.specs.Says.AreEdits.{all, another}
use Rattle.session_script.specs.Elements.{edit_of}
use Rattle.term_values.specs.declared.term.Term.{Term}
use Rattle.session_script.specs.Says.SaysScript.{unread}

-- a text that is refused
pub text_refused : (text : List ℕ) (error : TermError)
    → (IsFalse (is_memory error.cause) → IsRefusal text error.at error.cause) → script_blame (term_refused error) ≡ Input
    → SaysScript text (Err (term_refused error))
text_refused text error why = at (is_memory error.cause) refl
  where
    at : (b : Bool) → is_memory error.cause ≡ b → script_blame (if b then script.OutOfMemory else script.Term error) ≡ Input
        → SaysScript text (Err (if b then script.OutOfMemory else script.Term error))
    at true m input = cc
    at false m input = unread (m, why m)

-- an answer of another kind
pub edits_as : (Was Is : Result (List Edit) ScriptError → Type 0) (result : Result (Vec Edit Global) ScriptError)
    → ((answer : Result (List Edit) ScriptError) → Was answer → Is answer)
    → AnswersBy (λ edits. edits.items) script_blame result Was → AnswersBy (λ edits. edits.items) script_blame result Is
edits_as Was Is (Ok edits) same says = same (Ok edits.items) says
edits_as Was Is (Err error) same says = λ input. same (Err error) (says input)

-- what a question mark hands on
pub edits_on : (Is : Result (List Edit) ScriptError → Type 0) (result : Result (Vec Edit Global) ScriptError) (error : ScriptError)
    → IsErrAnd result (λ e. e ≡ error) → (script_blame error ≡ Input → Is (Err error)) → AnswersBy (λ edits. edits.items) script_blame result Is
edits_on Is (Ok x) error is why = absurd is
edits_on Is (Err e) error is why = subst (λ x. script_blame x ≡ Input → Is (Err x)) (sym is) why

-- ---- element after element

abbrev is_another : Term → Bool
is_another element = is_none (edit_of element)

at_first : (p : Term → Bool) (e : Term) (es : List Term) → p e ≡ true → position p (e ∷ es) ≡ Some 0
at_first p e es is = at (position_or_len p (e ∷ es)) (position_or_len_is p (e ∷ es) 0 e (omega arith) (λ k below. absurd (omega (arith, below))) (λ within. is))
  where
    at : (n : ℕ) → n ≡ 0 → cond (nat_lt n (suc (length es))) (Some n) None ≡ Some 0
    at n zero_is = rw zero_is (ap (λ (b : Bool). cond b (Some 0) None) (lt-ltb 0 (suc (length es)) (omega arith)))

-- the first that has none of the forms
pub first_here : (elements : List Term) (k : ℕ) (element : Term) → k < length elements → element ≡ get_or elements k element → edit_of element ≡ None
    → option_map (λ n. k + n) (position is_another (drop k elements)) ≡ position is_another elements → AreEdits elements (Err (script.Form k))
first_here elements k element within is none first =
    another (sym first
    ∙ ap (λ (es : List Term). option_map (λ n. k + n) (position is_another es)) (drop_more elements k element within ∙ ap (λ (e : Term). e ∷ drop (k + 1) elements) (sym is))
    ∙ ap (option_map (λ n. k + n)) (at_first is_another element (drop (k + 1) elements) (ap is_none none))
    ∙ ap (λ (n : ℕ). Some n) (omega arith))

-- all have one
pub all_read : (elements : List Term) (k : ℕ) (edits : List Edit) → length elements ≤ k
    → map Some edits ++ map edit_of (drop k elements) ≡ map edit_of elements → AreEdits elements (Ok edits)
all_read elements k edits past whole =
    all (sym whole ∙ ap (λ (es : List Term). map Some edits ++ map edit_of es) (drop_all k elements past) ∙ append-nil (map Some edits))

-- A text's first token or first fault.
use Rattle.std.specs.Prelude.{IsTrue, IsFalse, IfOk, IfErr, Result, Ok, Err}
use Rattle.std.proofs.Common.{◌≡◌, ℕ, ◌+◌, ◌<◌, Bool, true, false, ◌||◌, inl, List, [], ◌∷◌, length, cond, eqb, refl, sym, ap, arith, subst}
use Rattle.std.proofs.lemmas.Bool.{eqb-true}
use Rattle.std.proofs.lemmas.List.{length-append}
use Rattle.std.specs.Char.{is_digit}
use Rattle.term_tokens.specs.declared.fault.Fault.{Fault}
use Rattle.term_tokens.specs.declared.cause.TermCause.{TermCause}
use Rattle.term_tokens.specs.declared.expected.Expected.{Expected}
use Rattle.term_tokens.specs.declared.token.Token.{Token}
use Rattle.term_tokens.specs.Lexed.{Lexed, measured, LexedBy, atom_lexed, string_lexed, words_lexed, integer_lexed, name_lexed, sign_lexed, lexed}
use Rattle.term_tokens.specs.Lexing.{IsNarrow}
use Rattle.term_tokens.specs.Local.{IsFree, takes, Locally, IsFirst}
use Rattle.term_tokens.specs.Names.{is_name_start}
use Rattle.term_tokens.specs.Refused.{is_memory}
use Rattle.term_tokens.specs.Tokens.{Begins}
use Rattle.term_tokens.proofs.AtomFaults.{atom_right}
use Rattle.term_tokens.proofs.FaultLemmas.{Right, no_fault, unclosed_at}
use Rattle.term_tokens.proofs.FaultForms.{Marked, lead}
use Rattle.term_tokens.proofs.IntegerFaults.{integer_right}
use Rattle.term_tokens.proofs.NameFaults.{name_right}
use Rattle.term_tokens.proofs.OptionLemmas.{none_some}
use Rattle.term_tokens.proofs.SignFaults.{sign_right}
use Rattle.term_tokens.proofs.StringFaults.{string_right}
use Rattle.term_tokens.proofs.TokenLaws.{begins_shorter}
use Rattle.term_tokens.proofs.BeginLemmas.{begins_first}
use Rattle.term_tokens.proofs.WordFaults.{words_right}

-- the answer is right
pub lexed_right : (e : Expected) (text : List ℕ) → (IsTrue e.outermost → IsFalse e.key) → Right e text (lexed e text)
lexed_right e [] outer = unclosed_at e [] (inl refl) (λ tok after b _ _. none_some (begins_first b)) (λ place other m. absurd m)
lexed_right e (byte ∷ text) outer = by (eqb byte 58) (eqb byte 34) (eqb byte 126) (eqb byte 45 || is_digit byte 10) (is_name_start byte) refl refl refl refl refl
  where
    by : (colon quote tilde number name : Bool) → eqb byte 58 ≡ colon → eqb byte 34 ≡ quote → eqb byte 126 ≡ tilde → (eqb byte 45 || is_digit byte 10) ≡ number → is_name_start byte ≡ name → Right e (byte ∷ text) (cond colon (atom_lexed e (byte ∷ text) text) (cond quote (string_lexed e (byte ∷ text) text) (cond tilde (words_lexed e (byte ∷ text) text) (cond number (integer_lexed e (byte ∷ text)) (cond name (name_lexed e (byte ∷ text)) (sign_lexed e (byte ∷ text)))))))
    by true quote tilde number name c q t n s = subst (λ b. Right e (b ∷ text) (atom_lexed e (b ∷ text) text)) (sym (eqb-true byte 58 c)) (atom_right e text)
    by false true tilde number name c q t n s = subst (λ b. Right e (b ∷ text) (string_lexed e (b ∷ text) text)) (sym (eqb-true byte 34 q)) (string_right e text outer)
    by false false true number name c q t n s = subst (λ b. Right e (b ∷ text) (words_lexed e (b ∷ text) text)) (sym (eqb-true byte 126 t)) (words_right e text)
    by false false false true name c q t n s = integer_right e byte text c q t n
    by false false false false true c q t n s = name_right e byte text s outer
    by false false false false false c q t n s = sign_right e byte text c q t n s

-- what a result says

abbrev pub IsTaken : Expected → List ℕ → Token × List ℕ → Type 0
IsTaken e text found = Begins text found.0 found.1 × IsTrue (takes e found.0) × IsNarrow found.0 × IsFree text found.0 found.1 × ((place : ℕ) (why : TermCause) → Marked (lead text) e text place why → ⊥)

pub ok_taken : {X : Type 0} (view : X → Token × List ℕ) (e : Expected) (text : List ℕ) (result : Result X Fault) (answer : Lexed) → Right e text answer → LexedBy view result answer → IfOk result (λ x. IsTaken e text (view x))
ok_taken view e text (Ok x) (Ok found) right h = let same : found ≡ view x = cc in subst (λ f. IsTaken e text f) same right
ok_taken view e text (Ok x) (Err stop) right h = cc
ok_taken view e text (Err fault) answer right h = tt

pub ok_begins : {X : Type 0} (view : X → Token × List ℕ) (e : Expected) (text : List ℕ) (result : Result X Fault) → IfOk result (λ x. IsTaken e text (view x)) → IfOk result (λ x. Begins text (view x).0 (view x).1)
ok_begins view e text (Ok x) h = h.0
ok_begins view e text (Err fault) h = tt

pub ok_takes : {X : Type 0} (view : X → Token × List ℕ) (e : Expected) (text : List ℕ) (result : Result X Fault) → IfOk result (λ x. IsTaken e text (view x)) → IfOk result (λ x. IsTrue (takes e (view x).0))
ok_takes view e text (Ok x) h = h.1
ok_takes view e text (Err fault) h = tt

pub ok_narrow : {X : Type 0} (view : X → Token × List ℕ) (e : Expected) (text : List ℕ) (result : Result X Fault) → IfOk result (λ x. IsTaken e text (view x)) → IfOk result (λ x. IsNarrow (view x).0)
ok_narrow view e text (Ok x) h = h.2
ok_narrow view e text (Err fault) h = tt

pub ok_free : {X : Type 0} (view : X → Token × List ℕ) (e : Expected) (text : List ℕ) (result : Result X Fault) → IfOk result (λ x. IsTaken e text (view x)) → IfOk result (λ x. IsFree text (view x).0 (view x).1)
ok_free view e text (Ok x) h = h.3
ok_free view e text (Err fault) h = tt

pub ok_whole : {X : Type 0} (view : X → Token × List ℕ) (e : Expected) (text : List ℕ) (result : Result X Fault) → IfOk result (λ x. IsTaken e text (view x)) → IfOk result (λ x. (place : ℕ) (why : TermCause) → Locally e text place why → ⊥)
ok_whole view e text (Ok x) h = no_fault e text (view x).0 (view x).1 h.0 h.1 h.3 h.4
ok_whole view e text (Err fault) h = tt

pub ok_shorter : {X : Type 0} (view : X → Token × List ℕ) (e : Expected) (text : List ℕ) (result : Result X Fault) → IfOk result (λ x. IsTaken e text (view x)) → IfOk result (λ x. length (view x).1 < length text)
ok_shorter view e text (Ok x) h = begins_shorter h.0
ok_shorter view e text (Err fault) h = tt

abbrev Measured : Type 0
Measured = Result (Token × List ℕ) (ℕ × TermCause)

err_same : (x y : ℕ × TermCause) → ◌≡◌ {A = Measured} (Err x) (Err y) → x ≡ y
err_same x y e = cc

pub err_first : {X : Type 0} (view : X → Token × List ℕ) (e : Expected) (text : List ℕ) (result : Result X Fault) (answer : Lexed) → Right e text answer → LexedBy view result answer → IfErr result (λ fault. IsFalse (is_memory fault.cause) → (k : ℕ) × (fault.left + k ≡ length text) × IsFirst e text k fault.cause)
err_first view e text (Ok x) answer right h = tt
err_first view e text (Err fault) (Ok found) right h = λ m. absurd (differ found fault (h m))
  where
    differ : (found : Token × List ℕ) (fault : Fault) → measured (Ok found) ≡ Err (fault.left, fault.cause) → ⊥
    differ found fault e = cc
err_first view e text (Err fault) (Err stop) right h = λ m. at (h m)
  where
    at : measured (Err stop) ≡ Err (fault.left, fault.cause) → (k : ℕ) × (fault.left + k ≡ length text) × IsFirst e text k fault.cause
    at s =
        let pair : ◌≡◌ {A = ℕ × TermCause} (length stop.0, stop.1) (fault.left, fault.cause) = err_same (length stop.0, stop.1) (fault.left, fault.cause) s in
        let left : length stop.0 ≡ fault.left = ap (λ p. p.0) pair in
        let why : stop.1 ≡ fault.cause = ap (λ p. p.1) pair in
        (length right.0, omega (arith, left, ap length right.1, length-append right.0 stop.0), subst (λ c. IsFirst e text (length right.0) c) why right.2)

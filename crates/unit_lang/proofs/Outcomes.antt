-- What the reader of a line answers.
use Rattle.std.proofs.Common.{◌≡◌, ℕ, ◌≤◌, Bool, true, false, eqb, List, [], ◌++◌, Some, None, Result, Ok, Err, length, refl, sym, ap, ◌∙◌, subst, inl, inr}
use Rattle.std.specs.Prelude.{◌⊎◌, ◌↔◌}
use Rattle.std.specs.Result.{MatchResult}
use Rattle.mx_base.specs.Blame.Blame.{Input}
use Rattle.unit_lang.specs.declared.error.UnitCause.{UnitCause}
use Rattle.unit_lang.specs.declared.error.UnitCause.TheVariants.{TooLong, NoUnit, TooDeep, NumberTooBig, BadLine, OutOfMemory}
use Rattle.unit_lang.specs.declared.progress.Progress.{Progress}
use Rattle.unit_lang.specs.declared.state.State.{State}
use Rattle.unit_lang.specs.declared.token.Token.{Token}
use Rattle.unit_lang.specs.declared.unit.Statement.{Statement}
use Rattle.unit_lang.specs.declared.unit.Statement.TheVariants as statement
use Rattle.unit_lang.specs.Faults.{LineFault}
use Rattle.unit_lang.specs.Blame.{cause_blame}
use Rattle.unit_lang.specs.Gives.{FaultsAs, IsWarning, fault}
use Rattle.unit_lang.specs.Lexing.{after_warn, first_token}
use Rattle.unit_lang.specs.Lines.{IsBlankLine, IsWarnLine, StartsWarn, Says, warn, tokens, are_blanks}
use Rattle.unit_lang.specs.Machine.{step, finished}
use Rattle.unit_lang.specs.Progress.{Advances, Stops, memory, stuck, deep, FinishesAs}
use Rattle.unit_lang.specs.Spells.{longest_line}
use Rattle.unit_lang.specs.Tokens.{without_blanks, without_comment}
use Rattle.unit_lang.proofs.LineLemmas.{deep_line, bad_fault, great_fault, line_says}
use Rattle.unit_lang.proofs.Reached.{Reached, reached_next, NoMore, empty_is}
use Rattle.unit_lang.proofs.TokenLemmas.{some_pair}
use Rattle.unit_lang.proofs.WarnLemmas.{starts_warn, no_warn, warns, warning_of, warn_rest_one, is_blank_line, blank_line_is, no_warning}

pub blank_test : (line rest : List ℕ) (empty : Bool) → rest ≡ without_blanks (without_comment line) → empty ≡ eqb (length rest) 0 → (empty ≡ true) ↔ IsBlankLine line
blank_test line rest empty e is =
    (λ h. is_blank_line line (sym e ∙ empty_is rest empty is h), λ b. is ∙ ap (λ l. eqb (length l) 0) (e ∙ blank_line_is line b))

-- a line with `warn`
pub warn_says : (line rest text : List ℕ) → Some rest ≡ after_warn (without_blanks line) → IsWarning rest text → Says line (statement.Warn text)
warn_says line rest text e w = warn (warns line rest text (starts_warn line rest (sym e)) w)

pub warn_bad : (line rest : List ℕ) (cause : UnitCause) → length line ≤ longest_line → Some rest ≡ after_warn (without_blanks line) → (cause ≡ OutOfMemory) ⊎ ((cause ≡ BadLine) × ((text : List ℕ) → IsWarning rest text → ⊥)) → FaultsAs line cause
warn_bad line rest cause short e (inl m) = inl m
warn_bad line rest cause short e (inr b) =
    let starts = starts_warn line rest (sym e) in
    let says : (s : Statement) → Says line s → ⊥ = λ s h. says_not s starts h in
    inr (subst (LineFault line) (sym b.0) (LineFault.bad short (λ d. d.fronts.plain (rest, starts)) (λ d. d.fronts.plain (rest, starts)) (λ d. d.plain (rest, starts)) says))
  where
    says_not : (s : Statement) → StartsWarn line rest → Says line s → ⊥
    says_not s starts (warn {text = text} w) = b.1 text (subst (λ r. IsWarning r text) (warn_rest_one line w.rest rest w.starts starts) (warning_of line text w))
    says_not s starts (tokens k h) = k.plain (rest, starts)

pub plain_of : (line : List ℕ) → None ≡ after_warn (without_blanks line) → IsWarnLine line → ⊥
plain_of line e = no_warn line (sym e)

-- a line that stops at a text with no token, or a token that is not taken

stop_by : (line : List ℕ) (s : State) (seen : Bool) (rest : List ℕ) → length line ≤ longest_line → (IsWarnLine line → ⊥) → (IsBlankLine line → ⊥) → Reached (without_comment line) s seen rest → NoMore s rest → (rest ≡ [] → finished s ≡ None) → FaultsAs line (fault BadLine seen)
stop_by line s true rest short plain solid r none unfinished = inr (great_fault line s rest short plain r none)
stop_by line s false rest short plain solid r none unfinished = inr (bad_fault line s rest short plain solid r none unfinished)

pub lex_none : (s : State) (rest : List ℕ) → first_token rest ≡ None → NoMore s rest
lex_none s rest e tok after found = absurd (let both : None ≡ Some (tok, after) = sym e ∙ found in cc)

pub memory_or : (cause : UnitCause) → (cause ≡ OutOfMemory) ⊎ (cause_blame cause ≡ Input)
memory_or TooLong = inr refl
memory_or NoUnit = inr refl
memory_or TooDeep = inr refl
memory_or NumberTooBig = inr refl
memory_or BadLine = inr refl
memory_or OutOfMemory = inl refl

pub lex_fault : (line : List ℕ) (s : State) (seen : Bool) (rest : List ℕ) (cause told : UnitCause) → length line ≤ longest_line → (IsWarnLine line → ⊥) → (IsBlankLine line → ⊥) → Reached (without_comment line) s seen rest → (rest ≡ [] → ⊥) → (cause_blame cause ≡ Input → (cause ≡ BadLine) × (first_token rest ≡ None)) → told ≡ fault cause seen → FaultsAs line told
lex_fault line s seen rest cause told short plain solid r some refused is = subst (FaultsAs line) (sym is) (by (memory_or cause))
  where
    by : (cause ≡ OutOfMemory) ⊎ (cause_blame cause ≡ Input) → FaultsAs line (fault cause seen)
    by (inl m) = inl (ap (λ c. fault c seen) m)
    by (inr n) = let k = refused n in subst (λ c. FaultsAs line (fault c seen)) (sym k.0) (stop_by line s seen rest short plain solid r (lex_none s rest k.1) (λ e. absurd (some e)))

pub stop_fault : (line : List ℕ) (p : Progress) (rest after : List ℕ) (tok : Token) (cause : UnitCause) → length line ≤ longest_line → (IsWarnLine line → ⊥) → (IsBlankLine line → ⊥) → Reached (without_comment line) p.state p.great rest → (rest ≡ [] → ⊥) → first_token rest ≡ Some (tok, after) → Stops p tok cause → FaultsAs line cause
stop_fault line p rest after tok cause short plain solid r some found memory = inl refl
stop_fault line p rest after tok cause short plain solid r some found (stuck e) =
    stop_by line p.state p.great rest short plain solid r (λ t a f. subst (λ x. step p.state x ≡ None) (some_pair (tok, after) (t, a) (sym found ∙ f)).0 e) (λ e. absurd (some e))
stop_fault line p rest after tok cause short plain solid r some found (deep {next = next} e many) =
    inr (LineFault.deep short (deep_line line p.state next p.great rest after tok plain r found e many))

pub reached_advance : (line : List ℕ) (p next : Progress) (rest after later : List ℕ) (tok : Token) → Reached (without_comment line) p.state p.great rest → first_token rest ≡ Some (tok, after) → Advances p tok next → later ≡ without_blanks after → Reached (without_comment line) next.state next.great later
reached_advance line p next rest after later tok r found a is =
    subst (λ b. Reached (without_comment line) next.state b later) (sym a.flag) (reached_next (without_comment line) p.state next.state p.great rest after later tok r found a.stepped a.room is)

-- a token that is refused
pub stops_by : (p : Progress) (tok : Token) (cause told : UnitCause) → (cause_blame cause ≡ Input → (cause ≡ BadLine) × (step p.state tok ≡ None)) → told ≡ fault cause p.great → Stops p tok told
stops_by p tok cause told refused is = subst (Stops p tok) (sym is) (by (memory_or cause))
  where
    by : (cause ≡ OutOfMemory) ⊎ (cause_blame cause ≡ Input) → Stops p tok (fault cause p.great)
    by (inl m) = subst (λ c. Stops p tok (fault c p.great)) (sym m) memory
    by (inr n) = let k = refused n in subst (λ c. Stops p tok (fault c p.great)) (sym k.0) (stuck k.1)

no_more_at_end : (s : State) (rest : List ℕ) → rest ≡ [] → NoMore s rest
no_more_at_end s rest e = lex_none s rest (ap first_token e)

pub finish_outcome : (line : List ℕ) (p : Progress) (rest : List ℕ) (result : Result Statement UnitCause) → length line ≤ longest_line → (IsWarnLine line → ⊥) → (IsBlankLine line → ⊥) → Reached (without_comment line) p.state p.great rest → rest ≡ [] → FinishesAs p result → MatchResult result (Says line) (FaultsAs line)
finish_outcome line p rest (Ok s) short plain solid r empty f =
    line_says line p.state rest s plain (subst (λ b. Reached (without_comment line) p.state b rest) f.0 r) empty f.1
finish_outcome line p rest (Err cause) short plain solid r empty (inl m) = inl m
finish_outcome line p rest (Err cause) short plain solid r empty (inr (inl g)) =
    inr (subst (LineFault line) (sym g.1) (great_fault line p.state rest short plain (subst (λ b. Reached (without_comment line) p.state b rest) g.0 r) (no_more_at_end p.state rest empty)))
finish_outcome line p rest (Err cause) short plain solid r empty (inr (inr b)) =
    inr (subst (LineFault line) (sym b.1) (bad_fault line p.state rest short plain solid (subst (λ t. Reached (without_comment line) p.state t rest) b.0 r) (no_more_at_end p.state rest empty) (λ e. b.2)))

-- the text of a warning
pub warning_none : (rest text skipped : List ℕ) (cause : UnitCause) (empty : Bool) → skipped ≡ without_blanks rest → ((after : List ℕ) × (are_blanks after ≡ true) × (skipped ≡ text ++ after)) → empty ≡ eqb (length text) 0 → empty ≡ true → (u : List ℕ) → IsWarning rest u → ⊥
warning_none rest text skipped cause empty is a e h u w = no_warning rest text skipped a.0 is a.1 a.2 (empty_is text empty e h) u w

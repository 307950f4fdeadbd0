-- Each text spells a unit or has a first fault.
use Rattle.std.proofs.Common.{◌≡◌, ℕ, zero, suc, ◌<◌, ◌≤◌, ◌||◌, Bool, true, false, List, [], ◌∷◌, ◌++◌, Option, Some, None, cond, length, refl, sym, ap, ◌∙◌, subst, arith, inl, inr}
use Rattle.std.specs.Prelude.{◌⊎◌}
use Rattle.std.proofs.lemmas.Bool.{and_from, cases_order, not_from_false}
use Rattle.unit_lang.specs.declared.error.UnitCause.{UnitCause}
use Rattle.unit_lang.specs.declared.error.UnitCause.TheVariants.{TooLong, NoUnit, TooDeep, NumberTooBig, BadLine}
use Rattle.unit_lang.specs.declared.state.State.{State}
use Rattle.unit_lang.specs.declared.state.State.TheVariants as state
use Rattle.unit_lang.specs.declared.token.Token.{Token}
use Rattle.unit_lang.specs.declared.unit.Line.{Line}
use Rattle.unit_lang.specs.declared.unit.Statement.{Statement}
use Rattle.unit_lang.specs.declared.unit.Statement.TheVariants as statement
use Rattle.unit_lang.specs.declared.unit.Unit.{Unit as UnitFile}
use Rattle.unit_lang.specs.Faults.{LineFault, HeadingFault, BodyFault, FileFault, UnitlessFault, FirstFault, IsUnitless}
use Rattle.unit_lang.specs.Gives.{FaultsAs, IsWarning}
use Rattle.unit_lang.specs.Lexing.{after_warn, first_token, too_great}
use Rattle.unit_lang.specs.Lines.{IsBlankLine, IsUnitLine, IsWarnLine, Says, are_blanks, ends_solid}
use Rattle.unit_lang.specs.Machine.{step, finished, depth}
use Rattle.unit_lang.specs.Names.{is_blank}
use Rattle.unit_lang.specs.Spells.{Spells, Makes, Body, lines_of, longest_line, longest_file}
use Rattle.unit_lang.specs.Tokens.{without_blanks, without_comment}
use Rattle.unit_lang.proofs.FileLemmas.{some_lines, unitless_or}
use Rattle.unit_lang.proofs.HeadLemmas.{unit_line_or}
use Rattle.unit_lang.proofs.LineLemmas.{deep_line, great_fault, bad_fault, line_says}
use Rattle.unit_lang.proofs.Reached.{Reached, reached_first, reached_next, NoMore}
use Rattle.unit_lang.proofs.Outcomes.{lex_none, plain_of, warn_bad, warn_says}
use Rattle.unit_lang.proofs.TokenLemmas.{first_shorter, some_pair}
use Rattle.unit_lang.proofs.WarnLemmas.{blank_line_is, is_blank_line, is_warning, no_warning}

le_or : (a b : ℕ) → (a ≤ b) ⊎ (b < a)
le_or a b = by (cases_order a b)
  where
    by : (a ≡ b) ⊎ ((a < b) ⊎ (b < a)) → (a ≤ b) ⊎ (b < a)
    by (inl e) = inl (omega arith)
    by (inr (inl h)) = inl (omega arith)
    by (inr (inr h)) = inr h

-- what a line that isn't blank says, or its fault
abbrev Answered : List ℕ → Type 0
Answered line = ((s : Statement) × Says line s) ⊎ ((cause : UnitCause) × LineFault line cause)

-- a `warn` line

record Trimmed (rest : List ℕ) : Type 0 where
  text : List ℕ
  after : List ℕ
  blank : are_blanks after ≡ true
  split : rest ≡ text ++ after
  ends : (text ≡ []) ⊎ (ends_solid text ≡ true)

trimmed_with : (byte : ℕ) (rest text after : List ℕ) (t : Bool) → is_blank byte ≡ t → are_blanks after ≡ true → rest ≡ text ++ after → (text ≡ []) ⊎ (ends_solid text ≡ true) → Trimmed (byte ∷ rest)
trimmed_with byte rest [] after true t b e ends = record { text = []; after = byte ∷ after; blank = and_from (is_blank byte) (are_blanks after) t b; split = ap (λ l. byte ∷ l) e; ends = inl refl }
trimmed_with byte rest [] after false t b e ends = record { text = byte ∷ []; after = after; blank = b; split = ap (λ l. byte ∷ l) e; ends = inr (not_from_false (is_blank byte) t) }
trimmed_with byte rest (x ∷ text) after u t b e (inl none) = absurd (cc)
trimmed_with byte rest (x ∷ text) after u t b e (inr ends) = record { text = byte ∷ x ∷ text; after = after; blank = b; split = ap (λ l. byte ∷ l) e; ends = inr ends }

trimmed : (rest : List ℕ) → Trimmed rest
trimmed [] = record { text = []; after = []; blank = refl; split = refl; ends = inl refl }
trimmed (byte ∷ rest) = let k = trimmed rest in trimmed_with byte rest k.text k.after (is_blank byte) refl k.blank k.split k.ends

no_text : (rest : List ℕ) (k : Trimmed (without_blanks rest)) → k.text ≡ [] → (text : List ℕ) → IsWarning rest text → ⊥
no_text rest k none = no_warning rest k.text (without_blanks rest) k.after refl k.blank k.split none

warn_fault : (line rest : List ℕ) → FaultsAs line BadLine → Answered line
warn_fault line rest (inl m) = absurd (cc)
warn_fault line rest (inr f) = inr (BadLine, f)

warn_answered : (line rest : List ℕ) → length line ≤ longest_line → Some rest ≡ after_warn (without_blanks line) → Answered line
warn_answered line rest short e = by (trimmed (without_blanks rest))
  where
    texts : (k : Trimmed (without_blanks rest)) (text : List ℕ) → k.text ≡ text → Answered line
    texts k [] none = warn_fault line rest (warn_bad line rest BadLine short e (inr (refl, no_text rest k none)))
    texts k (x ∷ text) some =
        let w = is_warning rest k.text (without_blanks rest) k.after refl k.blank k.split (λ n. let both : x ∷ text ≡ [] = sym some ∙ n in cc) k.ends in
        inl (statement.Warn k.text, warn_says line rest k.text e w)

    by : Trimmed (without_blanks rest) → Answered line
    by k = texts k k.text refl

-- a line's tokens

blanks_shorter_at : (byte : ℕ) (text : List ℕ) (t : Bool) → length (without_blanks text) ≤ length text → length (cond t (without_blanks text) (byte ∷ text)) ≤ suc (length text)
blanks_shorter_at byte text true h = omega arith
blanks_shorter_at byte text false h = omega arith

blanks_shorter : (text : List ℕ) → length (without_blanks text) ≤ length text
blanks_shorter [] = omega arith
blanks_shorter (byte ∷ text) = blanks_shorter_at byte text (is_blank byte) (blanks_shorter text)

-- a line that no token goes on, or that ends
stopped : (line : List ℕ) (s : State) (seen : Bool) (rest : List ℕ) → length line ≤ longest_line → (IsWarnLine line → ⊥) → (IsBlankLine line → ⊥) → Reached (without_comment line) s seen rest → NoMore s rest → (rest ≡ [] → finished s ≡ None) → Answered line
stopped line s true rest short plain solid r none unfinished = inr (NumberTooBig, great_fault line s rest short plain r none)
stopped line s false rest short plain solid r none unfinished = inr (BadLine, bad_fault line s rest short plain solid r none unfinished)

ended : (line : List ℕ) (s : State) (seen : Bool) (o : Option Statement) → length line ≤ longest_line → (IsWarnLine line → ⊥) → (IsBlankLine line → ⊥) → Reached (without_comment line) s seen [] → finished s ≡ o → Answered line
ended line s true o short plain solid r e = inr (NumberTooBig, great_fault line s [] short plain r (lex_none s [] refl))
ended line s false None short plain solid r e = inr (BadLine, bad_fault line s [] short plain solid r (lex_none s [] refl) (λ n. e))
ended line s false (Some u) short plain solid r e = inl (u, line_says line s [] u plain r refl e)

-- one more token, where each shorter rest is answered for
stepped : (line : List ℕ) (s : State) (seen : Bool) (rest after : List ℕ) (tok : Token) (o : Option State) → length line ≤ longest_line → (IsWarnLine line → ⊥) → (IsBlankLine line → ⊥) → Reached (without_comment line) s seen rest → (rest ≡ [] → ⊥) → first_token rest ≡ Some (tok, after) → step s tok ≡ o → ((next : State) (great : Bool) (later : List ℕ) → length later < length rest → Reached (without_comment line) next great later → Answered line) → Answered line
stepped line s seen rest after tok None short plain solid r some found e ih =
    stopped line s seen rest short plain solid r (λ t a f. subst (λ x. step s x ≡ None) (some_pair (tok, after) (t, a) (sym found ∙ f)).0 e) (λ n. absurd (some n))
stepped line s seen rest after tok (Some next) short plain solid r some found e ih = by (le_or (depth next) 64)
  where
    by : (depth next ≤ 64) ⊎ (64 < depth next) → Answered line
    by (inl room) =
        let less = first_shorter rest tok after found in
        let no_more = blanks_shorter after in
        ih next (seen || too_great tok) (without_blanks after) (omega arith) (reached_next (without_comment line) s next seen rest after (without_blanks after) tok r found e room refl)
    by (inr many) = inr (TooDeep, LineFault.deep short (deep_line line s next seen rest after tok plain r found e many))

went_on : (line : List ℕ) (s : State) (seen : Bool) (rest : List ℕ) → length line ≤ longest_line → (IsWarnLine line → ⊥) → (IsBlankLine line → ⊥) → Reached (without_comment line) s seen rest → ((next : State) (great : Bool) (later : List ℕ) → length later < length rest → Reached (without_comment line) next great later → Answered line) → Answered line
went_on line s seen [] short plain solid r ih = ended line s seen (finished s) short plain solid r refl
went_on line s seen (byte ∷ rest) short plain solid r ih = by (first_token (byte ∷ rest)) refl
  where
    some : byte ∷ rest ≡ [] → ⊥
    some e = cc

    by : (o : Option (Token × List ℕ)) → first_token (byte ∷ rest) ≡ o → Answered line
    by None e = stopped line s seen (byte ∷ rest) short plain solid r (lex_none s (byte ∷ rest) e) (λ n. absurd (some n))
    by (Some found) e = stepped line s seen (byte ∷ rest) found.1 found.0 (step s found.0) short plain solid r some e refl ih

run_on : (size : ℕ) (line : List ℕ) (s : State) (seen : Bool) (rest : List ℕ) → length rest ≤ size → length line ≤ longest_line → (IsWarnLine line → ⊥) → (IsBlankLine line → ⊥) → Reached (without_comment line) s seen rest → Answered line
run_on zero line s seen rest le short plain solid r = went_on line s seen rest short plain solid r (λ next great later less k. absurd (omega arith))
run_on (suc size) line s seen rest le short plain solid r = went_on line s seen rest short plain solid r (λ next great later less k. run_on size line next great later (omega arith) short plain solid k)

-- lines

blank_or : (line : List ℕ) → IsBlankLine line ⊎ (IsBlankLine line → ⊥)
blank_or line = at (without_blanks (without_comment line)) refl
  where
    at : (rest : List ℕ) → without_blanks (without_comment line) ≡ rest → IsBlankLine line ⊎ (IsBlankLine line → ⊥)
    at [] e = inl (is_blank_line line e)
    at (byte ∷ rest) e = inr (λ b. let both : [] ≡ byte ∷ rest = sym (blank_line_is line b) ∙ e in cc)

line_answered : (line : List ℕ) → length line ≤ longest_line → (IsBlankLine line → ⊥) → Answered line
line_answered line short solid = at (after_warn (without_blanks line)) refl
  where
    at : (o : Option (List ℕ)) → after_warn (without_blanks line) ≡ o → Answered line
    at (Some rest) e = warn_answered line rest short (sym e)
    at None e =
        let rest = without_blanks (without_comment line) in
        run_on (length rest) line state.Start false rest (omega arith) short (plain_of line (sym e)) solid (reached_first (without_comment line) rest refl)

abbrev BodyAnswered : ℕ → List (List ℕ) → Type 0
BodyAnswered number lines = ((said : List Line) × Body number lines said) ⊎ ((at : ℕ) × (cause : UnitCause) × BodyFault number lines at cause)

body_blank : (number : ℕ) (line : List ℕ) (lines : List (List ℕ)) → length line ≤ longest_line → IsBlankLine line → BodyAnswered (suc number) lines → BodyAnswered number (line ∷ lines)
body_blank number line lines short b (inl k) = inl (k.0, Body.blank short b k.1)
body_blank number line lines short b (inr f) = inr (f.0, f.1, BodyFault.blank short b f.2)

body_says : (number : ℕ) (line : List ℕ) (lines : List (List ℕ)) → length line ≤ longest_line → Answered line → BodyAnswered (suc number) lines → BodyAnswered number (line ∷ lines)
body_says number line lines short (inr f) rest = inr (number, f.0, BodyFault.here f.1)
body_says number line lines short (inl k) (inl rest) = inl (record { number = number; statement = k.0 } ∷ rest.0, Body.says short k.1 rest.1)
body_says number line lines short (inl k) (inr f) = inr (f.0, f.1, BodyFault.says short k.1 f.2)

body_line : (number : ℕ) (line : List ℕ) (lines : List (List ℕ)) → (length line ≤ longest_line) ⊎ (longest_line < length line) → IsBlankLine line ⊎ (IsBlankLine line → ⊥) → BodyAnswered (suc number) lines → BodyAnswered number (line ∷ lines)
body_line number line lines (inr long) blank rest = inr (number, TooLong, BodyFault.here (LineFault.long long))
body_line number line lines (inl short) (inl b) rest = body_blank number line lines short b rest
body_line number line lines (inl short) (inr solid) rest = body_says number line lines short (line_answered line short solid) rest

body_answered : (number : ℕ) (lines : List (List ℕ)) → BodyAnswered number lines
body_answered number [] = inl ([], Body.end)
body_answered number (line ∷ lines) = body_line number line lines (le_or (length line) longest_line) (blank_or line) (body_answered (suc number) lines)

abbrev FileAnswered : ℕ → List (List ℕ) → Type 0
FileAnswered number lines = ((u : UnitFile) × Makes number lines u) ⊎ ((at : ℕ) × (cause : UnitCause) × FileFault number lines at cause)

file_heading : (number : ℕ) (line : List ℕ) (lines : List (List ℕ)) → length line ≤ longest_line → IsUnitLine line → BodyAnswered (suc number) lines → FileAnswered number (line ∷ lines)
file_heading number line lines short n (inl k) = inl (record { name = n.0; line = number; lines = k.0 }, Makes.heading short n.1 k.1)
file_heading number line lines short n (inr f) = inr (f.0, f.1, FileFault.heading n.0 short n.1 f.2)

file_blank : (number : ℕ) (line : List ℕ) (lines : List (List ℕ)) → length line ≤ longest_line → IsBlankLine line → FileAnswered (suc number) lines → FileAnswered number (line ∷ lines)
file_blank number line lines short b (inl k) = inl (k.0, Makes.blank short b k.1)
file_blank number line lines short b (inr f) = inr (f.0, f.1, FileFault.blank short b f.2)

file_line : (number : ℕ) (line : List ℕ) (lines : List (List ℕ)) → (length line ≤ longest_line) ⊎ (longest_line < length line) → IsUnitLine line ⊎ (IsUnitLine line → ⊥) → IsBlankLine line ⊎ (IsBlankLine line → ⊥) → ((IsUnitLine line → ⊥) → FileAnswered (suc number) lines) → FileAnswered number (line ∷ lines)
file_line number line lines (inr long) unit blank rest = inr (number, TooLong, FileFault.here (HeadingFault.long long))
file_line number line lines (inl short) (inl n) blank rest = file_heading number line lines short n (body_answered (suc number) lines)
file_line number line lines (inl short) (inr nameless) (inl b) rest = file_blank number line lines short b (rest nameless)
file_line number line lines (inl short) (inr nameless) (inr solid) rest = inr (number, NoUnit, FileFault.here (HeadingFault.none short solid (λ name n. nameless (name, n))))

file_answered : (number : ℕ) (lines : List (List ℕ)) → (IsUnitless lines → ⊥) → FileAnswered number lines
file_answered number [] some = absurd (some tt)
file_answered number (line ∷ lines) some =
    file_line number line lines (le_or (length line) longest_line) (unit_line_or line) (blank_or line) (λ nameless. file_answered (suc number) lines (λ u. some (nameless, u)))

-- each text spells a unit or has a first fault

abbrev TextAnswered : List ℕ → Type 0
TextAnswered text = ((u : UnitFile) × Spells text u) ⊎ ((at : ℕ) × (cause : UnitCause) × FirstFault text at cause)

unitless_answered : (text : List ℕ) (lines : List (List ℕ)) → lines_of text ≡ lines → length text ≤ longest_file → IsUnitless (lines_of text) → TextAnswered text
unitless_answered text [] e short u = absurd (some_lines text e)
unitless_answered text (line ∷ lines) e short u = by (le_or (length line) longest_line)
  where
    by : (length line ≤ longest_line) ⊎ (longest_line < length line) → TextAnswered text
    by (inl le) = inr (1, NoUnit, FirstFault.unitless short u (subst (λ l. UnitlessFault l NoUnit) (sym e) (UnitlessFault.none le)))
    by (inr long) = inr (1, TooLong, FirstFault.unitless short u (subst (λ l. UnitlessFault l TooLong) (sym e) (UnitlessFault.long long)))

made : (text : List ℕ) → length text ≤ longest_file → (IsUnitless (lines_of text) → ⊥) → FileAnswered 1 (lines_of text) → TextAnswered text
made text short some (inl k) = inl (k.0, record { short = short; makes = k.1 })
made text short some (inr f) = inr (f.0, f.1, FirstFault.line short some f.2)

pub text_answered : (text : List ℕ) → ((u : UnitFile) × Spells text u) ⊎ ((at : ℕ) × (cause : UnitCause) × FirstFault text at cause)
text_answered text = by (le_or (length text) longest_file) (unitless_or (lines_of text))
  where
    by : (length text ≤ longest_file) ⊎ (longest_file < length text) → IsUnitless (lines_of text) ⊎ (IsUnitless (lines_of text) → ⊥) → TextAnswered text
    by (inr long) unit = inr (1, TooLong, FirstFault.long long)
    by (inl short) (inl u) = unitless_answered text (lines_of text) refl short u
    by (inl short) (inr some) = made text short some (file_answered 1 (lines_of text) some)

-- The lines of a text, and what the reader of a file knows at each.
use Rattle.std.proofs.Common.{◌≡◌, ℕ, suc, ◌<◌, ◌≤◌, ◌==◌, Bool, true, false, List, [], ◌∷◌, ◌++◌, cond, take, drop, length, refl, sym, ap, ◌∙◌, subst, arith, append_assoc, inl, inr}
use Rattle.std.specs.Prelude.{◌⊎◌}
use Rattle.std.proofs.lemmas.Bool.{cases_order}
use Rattle.std.proofs.lemmas.List.{append-nil}
use Rattle.unit_lang.specs.declared.error.UnitCause.{UnitCause}
use Rattle.unit_lang.specs.declared.error.UnitCause.TheVariants.{NoUnit}
use Rattle.unit_lang.specs.declared.error.UnitError.{UnitError}
use Rattle.unit_lang.specs.declared.unit.Line.{Line}
use Rattle.unit_lang.specs.declared.unit.Statement.{Statement}
use Rattle.unit_lang.specs.declared.unit.Unit.{Unit as UnitFile}
use Rattle.unit_lang.specs.Faults.{HeadingFault, BodyFault, FileFault, FirstFault, IsHeaded, IsUnitless, UnitlessFault, LineFault}
use Rattle.unit_lang.specs.Lexing.{line_len, rest_of, lines_after}
use Rattle.unit_lang.specs.Lines.{IsBlankLine, IsUnitLine, Says}
use Rattle.unit_lang.specs.Reading.{Refuses}
use Rattle.unit_lang.specs.Spells.{Makes, Body, lines_of, with_byte, longest_line, longest_file}
use Rattle.unit_lang.proofs.HeadLemmas.{unit_line_or}
use Rattle.unit_lang.proofs.OneLemmas.{blank_names_nothing}

line_at : (byte : ℕ) (text : List ℕ) (t : Bool) → lines_of text ≡ take (line_len text) text ∷ lines_after (rest_of (drop (line_len text) text)) → cond t ([] ∷ lines_of text) (with_byte byte (lines_of text)) ≡ take (cond t 0 (suc (line_len text))) (byte ∷ text) ∷ lines_after (rest_of (drop (cond t 0 (suc (line_len text))) (byte ∷ text)))
line_at byte text true h = refl
line_at byte text false h = ap (with_byte byte) h

-- the first line of a text, and the others
pub first_line_is : (text : List ℕ) → lines_of text ≡ take (line_len text) text ∷ lines_after (rest_of (drop (line_len text) text))
first_line_is [] = refl
first_line_is (byte ∷ text) = line_at byte text (byte == 10) (first_line_is text)

-- what the first line needs, for `NoUnit` to be told there
abbrev pub IsFirstShort : List (List ℕ) → Type 0
IsFirstShort [] = Unit {0}
IsFirstShort (line ∷ lines) = length line ≤ longest_line

-- where the first line that isn't blank is sought
pub record Sought (text : List ℕ) (number : ℕ) (rest : List (List ℕ)) : Type 0 where
  pub makes : (u : UnitFile) → Makes number rest u → Makes 1 (lines_of text) u
  pub faults : (at : ℕ) (cause : UnitCause) → FileFault number rest at cause → FileFault 1 (lines_of text) at cause
  pub headed : IsHeaded rest → IsHeaded (lines_of text)
  pub unitless_on : IsUnitless (lines_of text) → IsUnitless rest
  pub unitless_back : IsUnitless rest → IsUnitless (lines_of text)
  pub at_first : number ≡ 1 → rest ≡ lines_of text
  pub short : 1 < number → IsFirstShort (lines_of text)
  pub low : 1 ≤ number

pub sought_first : (text : List ℕ) → Sought text 1 (lines_of text)
sought_first text = record {
  makes = λ u h. h;
  faults = λ at cause h. h;
  headed = λ h. h;
  unitless_on = λ h. h;
  unitless_back = λ h. h;
  at_first = λ e. refl;
  short = λ h. absurd (omega arith);
  low = omega arith;
}

first_short : (text : List ℕ) (number : ℕ) (line : List ℕ) (rest : List (List ℕ)) → Sought text number (line ∷ rest) → length line ≤ longest_line → (number ≡ 1) ⊎ ((number < 1) ⊎ (1 < number)) → IsFirstShort (lines_of text)
first_short text number line rest s le (inl e) = subst IsFirstShort (s.at_first e) le
first_short text number line rest s le (inr (inl h)) = absurd (let low = s.low in omega arith)
first_short text number line rest s le (inr (inr h)) = s.short h

pub sought_next : (text : List ℕ) (number next : ℕ) (line : List ℕ) (rest : List (List ℕ)) → next ≡ suc number → Sought text number (line ∷ rest) → length line ≤ longest_line → IsBlankLine line → Sought text next rest
sought_next text number next line rest is s le blank = record {
  makes = λ u h. s.makes u (Makes.blank le blank (subst (λ n. Makes n rest u) is h));
  faults = λ at cause h. s.faults at cause (FileFault.blank le blank (subst (λ n. FileFault n rest at cause) is h));
  headed = λ h. s.headed (IsHeaded.blank le blank h);
  unitless_on = λ h. (s.unitless_on h).1;
  unitless_back = λ h. s.unitless_back (λ n. blank_names_nothing line n.0 blank n.1, h);
  at_first = λ e. absurd (let low = s.low in omega arith);
  short = λ h. first_short text number line rest s le (cases_order number 1);
  low = omega arith;
}

-- what was heard of the lines after the first
pub record Heard (begin : ℕ) (all : List (List ℕ)) (number : ℕ) (rest : List (List ℕ)) (said : List Line) : Type 0 where
  pub on : (more : List Line) → Body number rest more → Body begin all (said ++ more)
  pub faults : (at : ℕ) (cause : UnitCause) → BodyFault number rest at cause → BodyFault begin all at cause

pub heard_first : (begin : ℕ) (all : List (List ℕ)) → Heard begin all begin all []
heard_first begin all = record { on = λ more h. h; faults = λ at cause h. h }

pub heard_blank : (begin : ℕ) (all : List (List ℕ)) (number next : ℕ) (line : List ℕ) (rest : List (List ℕ)) (said : List Line) → next ≡ suc number → Heard begin all number (line ∷ rest) said → length line ≤ longest_line → IsBlankLine line → Heard begin all next rest said
heard_blank begin all number next line rest said is h le blank = record {
  on = λ more b. h.on more (Body.blank le blank (subst (λ n. Body n rest more) is b));
  faults = λ at cause b. h.faults at cause (BodyFault.blank le blank (subst (λ n. BodyFault n rest at cause) is b));
}

pub heard_says : (begin : ℕ) (all : List (List ℕ)) (number next : ℕ) (line : List ℕ) (rest : List (List ℕ)) (said later : List Line) (s : Statement) → next ≡ suc number → Heard begin all number (line ∷ rest) said → length line ≤ longest_line → Says line s → later ≡ said ++ record { number = number; statement = s } ∷ [] → Heard begin all next rest later
heard_says begin all number next line rest said later s is h le says push = record {
  on = λ more b. subst (λ l. Body begin all l) (sym (append_assoc said (record { number = number; statement = s } ∷ []) more) ∙ ap (λ l. l ++ more) (sym push)) (h.on (record { number = number; statement = s } ∷ more) (Body.says le says (subst (λ n. Body n rest more) is b)));
  faults = λ at cause b. h.faults at cause (BodyFault.says le says (subst (λ n. BodyFault n rest at cause) is b));
}

pub heard_all : (begin : ℕ) (all : List (List ℕ)) (number : ℕ) (said : List Line) → Heard begin all number [] said → Body begin all said
heard_all begin all number said h = subst (λ l. Body begin all l) (append-nil said) (h.on [] Body.end)

pub heard_fault : (begin : ℕ) (all : List (List ℕ)) (number : ℕ) (line : List ℕ) (rest : List (List ℕ)) (said : List Line) (cause : UnitCause) → Heard begin all number (line ∷ rest) said → LineFault line cause → BodyFault begin all number cause
heard_fault begin all number line rest said cause h f = h.faults number cause (BodyFault.here f)

-- a file without a `unit` line

pub some_lines : (text : List ℕ) → lines_of text ≡ [] → ⊥
some_lines text e = let f = first_line_is text in cc

first_none : (lines : List (List ℕ)) → (lines ≡ [] → ⊥) → IsFirstShort lines → UnitlessFault lines NoUnit
first_none [] some short = absurd (some refl)
first_none (line ∷ lines) some short = UnitlessFault.none short

first_refused : (line : List ℕ) (lines : List (List ℕ)) (cause : UnitCause) → HeadingFault line cause → UnitlessFault (line ∷ lines) cause
first_refused line lines cause (HeadingFault.long h) = UnitlessFault.long h
first_refused line lines cause (HeadingFault.none short solid nameless) = UnitlessFault.none short

pub unitless_or : (lines : List (List ℕ)) → IsUnitless lines ⊎ (IsUnitless lines → ⊥)
unitless_or [] = inl tt
unitless_or (line ∷ lines) = both (unit_line_or line) (unitless_or lines)
  where
    both : IsUnitLine line ⊎ (IsUnitLine line → ⊥) → IsUnitless lines ⊎ (IsUnitless lines → ⊥) → IsUnitless (line ∷ lines) ⊎ (IsUnitless (line ∷ lines) → ⊥)
    both (inl n) rest = inr (λ u. u.0 n)
    both (inr n) (inl u) = inl (n, u)
    both (inr n) (inr m) = inr (λ u. m u.1)

-- all lines are blank
pub blank_fault : (text : List ℕ) (number : ℕ) → length text ≤ longest_file → Sought text number [] → FirstFault text 1 NoUnit
blank_fault text number le s = at (cases_order number 1)
  where
    at : (number ≡ 1) ⊎ ((number < 1) ⊎ (1 < number)) → FirstFault text 1 NoUnit
    at (inl e) = absurd (some_lines text (sym (s.at_first e)))
    at (inr (inl h)) = absurd (let low = s.low in omega arith)
    at (inr (inr h)) = FirstFault.unitless le (s.unitless_back tt) (first_none (lines_of text) (some_lines text) (s.short h))

-- a line that only blank lines come before is no `unit` line
told_there : (text : List ℕ) (number : ℕ) (line : List ℕ) (rest : List (List ℕ)) (cause : UnitCause) → length text ≤ longest_file → Sought text number (line ∷ rest) → HeadingFault line cause → (1 < number → IsUnitless (line ∷ rest) → ⊥) → FirstFault text number cause
told_there text number line rest cause le s f follows = by (unitless_or (lines_of text)) (cases_order number 1)
  where
    by : IsUnitless (lines_of text) ⊎ (IsUnitless (lines_of text) → ⊥) → (number ≡ 1) ⊎ ((number < 1) ⊎ (1 < number)) → FirstFault text number cause
    by (inr n) order = FirstFault.line le n (s.faults number cause (FileFault.here f))
    by (inl u) (inl e) = subst (λ n. FirstFault text n cause) (sym e) (FirstFault.unitless le u (subst (λ l. UnitlessFault l cause) (s.at_first e) (first_refused line rest cause f)))
    by (inl u) (inr (inl h)) = absurd (let low = s.low in omega arith)
    by (inl u) (inr (inr h)) = absurd (follows h (s.unitless_on u))

pub refused_fault : (text : List ℕ) (number : ℕ) (line : List ℕ) (rest : List (List ℕ)) (cause : UnitCause) (error : UnitError) → length text ≤ longest_file → Sought text number (line ∷ rest) → HeadingFault line cause → Refuses number (line ∷ rest) cause error → FirstFault text error.line error.cause
refused_fault text number line rest cause error le s f (inl r) =
    subst (λ (e : UnitError). FirstFault text e.line e.cause) (sym r.0) (FirstFault.unitless le (s.unitless_back r.2) (first_none (lines_of text) (some_lines text) (s.short r.1)))
refused_fault text number line rest cause error le s f (inr r) =
    subst (λ (e : UnitError). FirstFault text e.line e.cause) (sym r.0) (told_there text number line rest cause le s f r.1)

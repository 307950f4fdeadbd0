-- What the reader of a file answers.
use Rattle.std.proofs.Common.{◌≡◌, ℕ, suc, ◌<◌, ◌≤◌, List, [], ◌∷◌, ◌++◌, Option, Some, None, Result, Ok, Err, length, take, drop, refl, sym, ap, ◌∙◌, subst, inl, inr}
use Rattle.std.specs.Prelude.{◌⊎◌}
use Rattle.std.specs.Result.{MatchResult, IfErr}
use Rattle.mx_base.specs.Blame.{Answers}
use Rattle.mx_base.specs.Blame.Blame.{Memory}
use Rattle.unit_lang.specs.declared.error.UnitCause.{UnitCause}
use Rattle.unit_lang.specs.declared.error.UnitCause.TheVariants.{TooLong}
use Rattle.unit_lang.specs.declared.error.UnitError.{UnitError}
use Rattle.unit_lang.specs.declared.unit.Line.{Line}
use Rattle.unit_lang.specs.declared.unit.Statement.{Statement}
use Rattle.unit_lang.specs.declared.unit.Unit.{Unit as UnitFile}
use Rattle.unit_lang.specs.Blame.{cause_blame, blame_of}
use Rattle.unit_lang.specs.Faults.{HeadingFault, BodyFault, FileFault, IsHeaded, HasHeading, IsRead, IsUnitless, LineFault, FirstFault}
use Rattle.unit_lang.specs.Gives.{FaultsAs}
use Rattle.unit_lang.specs.Lexing.{line_len, rest_of, lines_after}
use Rattle.unit_lang.specs.Lines.{IsBlankLine, IsUnitLine, Names, Says}
use Rattle.unit_lang.specs.Reading.{BodyFaultAs, Follows, Hears, HearsFault, Refuses}
use Rattle.unit_lang.specs.Spells.{Makes, Body, lines_of, longest_line, longest_file}
use Rattle.unit_lang.proofs.FileLemmas.{first_line_is, Heard, heard_blank, heard_says, heard_fault, Sought, refused_fault}

-- a text cut at the end of its first line
pub first_cut : (text line rest : List ℕ) (len : ℕ) (after : Option (List ℕ)) → len ≡ line_len text → line ≡ take len text → rest ≡ drop len text → after ≡ rest_of rest → lines_of text ≡ line ∷ lines_after after
first_cut text line rest len after e f b a =
    first_line_is text
    ∙ ap (λ n. take n text ∷ lines_after (rest_of (drop n text))) (sym e)
    ∙ ap (λ l. l ∷ lines_after (rest_of (drop len text))) (sym f)
    ∙ ap (λ r. line ∷ lines_after (rest_of r)) (sym b)
    ∙ ap (λ o. line ∷ lines_after o) (sym a)

-- a line that is too long
pub long_said : (line : List ℕ) → longest_line < length line → FaultsAs line TooLong
long_said line long = inr (LineFault.long long)

-- a unit, from its lines
pub follows_body : (number later : ℕ) (name title : List ℕ) (lines : List (List ℕ)) (said : List Line) → title ≡ name → later ≡ suc number → Body later lines said → Follows name number lines (record { name = title; line = number; lines = said })
follows_body number later name title lines said same is b = record {
  is = ap (λ n. record { name = n; line = number; lines = said }) same;
  body = subst (λ n. Body n lines said) is b;
}

pub later_fault : (number later : ℕ) (lines : List (List ℕ)) (error : UnitError) → later ≡ suc number → BodyFaultAs later lines error → BodyFaultAs (suc number) lines error
later_fault number later lines error is f = subst (λ n. BodyFaultAs n lines error) is f

-- one more line of the body
pub heard_next : (begin : ℕ) (all : List (List ℕ)) (number next : ℕ) (line : List ℕ) (rest lines : List (List ℕ)) (said later : List Line) → next ≡ suc number → Heard begin all number lines said → lines ≡ line ∷ rest → Hears number line said later → Heard begin all next rest later
heard_next begin all number next line rest lines said later is h split k = by k.1
  where
    here : Heard begin all number (line ∷ rest) said
    here = subst (λ l. Heard begin all number l said) split h

    by : (IsBlankLine line × (later ≡ said)) ⊎ ((s : Statement) × Says line s × (later ≡ said ++ record { number = number; statement = s } ∷ [])) → Heard begin all next rest later
    by (inl b) = subst (λ l. Heard begin all next rest l) (sym b.1) (heard_blank begin all number next line rest said is here k.0 b.0)
    by (inr w) = heard_says begin all number next line rest said later w.0 is here k.0 w.1 w.2

pub heard_stop : (begin : ℕ) (all : List (List ℕ)) (number : ℕ) (line : List ℕ) (rest lines : List (List ℕ)) (said : List Line) (error : UnitError) → Heard begin all number lines said → lines ≡ line ∷ rest → HearsFault number line error → BodyFaultAs begin all error
heard_stop begin all number line rest lines said error h split (inl m) = inl m
heard_stop begin all number line rest lines said error h split (inr f) = inr (subst (λ n. BodyFault begin all n error.cause) (sym f.0) (heard_fault begin all number line rest said error.cause (subst (λ l. Heard begin all number l said) split h) f.1))

-- what is read at the first line that isn't blank

-- it is a `unit` line
pub headed_read : (text : List ℕ) (number : ℕ) (line name : List ℕ) (rest lines : List (List ℕ)) (result : Result UnitFile UnitError) → length text ≤ longest_file → Sought text number lines → lines ≡ line ∷ rest → length line ≤ longest_line → Names line name → MatchResult result (Follows name number rest) (BodyFaultAs (suc number) rest) → Answers blame_of result (IsRead text)
headed_read text number line name rest lines (Ok u) le sought split short n f =
    let s = subst (λ l. Sought text number l) split sought in
    record { short = le; makes = s.makes u (subst (Makes number (line ∷ rest)) (sym f.is) (Makes.heading short n f.body)) }
headed_read text number line name rest lines (Err error) le sought split short n (inl m) = λ input. absurd (let memory = ap cause_blame m in cc)
headed_read text number line name rest lines (Err error) le sought split short n (inr f) =
    let s = subst (λ l. Sought text number l) split sought in
    λ input. FirstFault.line le (λ u. (s.unitless_on u).0 (name, n)) (s.faults error.line error.cause (FileFault.heading name short n f))

pub headed_by : (text : List ℕ) (number : ℕ) (line name : List ℕ) (rest lines : List (List ℕ)) → length text ≤ longest_file → Sought text number lines → lines ≡ line ∷ rest → length line ≤ longest_line → Names line name → HasHeading text
headed_by text number line name rest lines le sought split short n =
    let s = subst (λ l. Sought text number l) split sought in
    record { short = le; headed = s.headed (IsHeaded.heading short (name, n)) }

pub headed_memory : (text : List ℕ) (result : Result UnitFile UnitError) → HasHeading text → IfErr result (λ error. blame_of error ≡ Memory → HasHeading text)
headed_memory text (Ok u) h = tt
headed_memory text (Err error) h = λ memory. h

-- it isn't
pub refused_read : (text : List ℕ) (number : ℕ) (line : List ℕ) (rest lines : List (List ℕ)) (cause : UnitCause) (error : UnitError) → length text ≤ longest_file → Sought text number lines → lines ≡ line ∷ rest → HeadingFault line cause → Refuses number lines cause error → FirstFault text error.line error.cause
refused_read text number line rest lines cause error le sought split f r =
    refused_fault text number line rest cause error le (subst (λ l. Sought text number l) split sought) f (subst (λ l. Refuses number l cause error) split r)

-- lines without a `unit` line
pub unitless_rest : (lines : List (List ℕ)) (line : List ℕ) (rest : List (List ℕ)) → lines ≡ line ∷ rest → IsUnitless lines → (IsUnitLine line → ⊥) × IsUnitless rest
unitless_rest lines line rest e h = subst IsUnitless e h

pub unitless_with : (lines : List (List ℕ)) (line : List ℕ) (rest : List (List ℕ)) → lines ≡ line ∷ rest → (IsUnitLine line → ⊥) → IsUnitless rest → IsUnitless lines
unitless_with lines line rest e n h = subst IsUnitless (sym e) (n, h)

pub none_left : {X : Type 0} (o : Option X) → ((x : X) → o ≡ Some x → ⊥) → o ≡ None
none_left None h = refl
none_left (Some x) h = absurd (h x refl)

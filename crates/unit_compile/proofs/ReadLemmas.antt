-- What a text is read as.
use Rattle.std.proofs.Common.{◌≡◌, ℕ, List, Bool, true, false, refl, sym, ap, ◌∙◌, inl, inr, IsTrue, subst, arith, [], ◌∷◌, ◌&&◌, length, nat_le}
use Rattle.std.specs.Prelude.{◌⊎◌, Result, Ok, Err}
use Rattle.std.specs.List.{list_all}
use Rattle.std.proofs.lemmas.Bool.{and_parts, and_from}
use Rattle.std.proofs.lemmas.Bool.Decides.{nat_tests}
use Rattle.mx_base.specs.AppName.{fits_at, is_app_name}
use Rattle.mx_base.specs.Blame.{Answers}
use Rattle.mx_base.specs.Blame.Blame.{Input}
use Rattle.unit_lang.specs.declared.error.UnitCause.{UnitCause}
use Rattle.unit_lang.specs.declared.error.UnitCause.TheVariants as cause
use Rattle.unit_lang.specs.declared.error.UnitError.{UnitError}
use Rattle.unit_lang.specs.declared.unit.Unit.{Unit as UnitFile}
use Rattle.unit_lang.specs.Blame.{blame_of, cause_blame}
use Rattle.unit_lang.specs.Faults.{FirstFault, IsRead}
use Rattle.unit_lang.specs.Names.{is_name, is_name_byte, is_small_letter}
use Rattle.unit_lang.specs.Spells.{Makes, Spells}
use Rattle.unit_lang.proofs.Answered.{text_answered}
use Rattle.unit_lang.proofs.Apart.{spells_apart}
use Rattle.unit_lang.proofs.OneFault.{faults_one}
use Rattle.unit_lang.proofs.OneLemmas.{spells_one}
use Rattle.unit_compile.specs.Units.{answer_as, is_memory, ran_out, read_of}

abbrev Answer : List ℕ → Type 0
Answer text = ((u : UnitFile) × Spells text u) ⊎ ((at : ℕ) × (cause : UnitCause) × FirstFault text at cause)

same_error : (error : UnitError) (at : ℕ) (c : UnitCause) → (error.line ≡ at) × (error.cause ≡ c) → error ≡ record { line = at; cause = c }
same_error error at c e = λ i. record { line = e.0 i; cause = e.1 i }

spelled_is : (text : List ℕ) (u : UnitFile) → Spells text u → (a : Answer text) → Ok u ≡ answer_as a
spelled_is text u s (inl v) = ap Ok (spells_one text u v.0 s v.1)
spelled_is text u s (inr f) = absurd (spells_apart text u f.0 f.1 s f.2)

fault_is : (text : List ℕ) (error : UnitError) → FirstFault text error.line error.cause → (a : Answer text) → Err error ≡ answer_as a
fault_is text error f (inl v) = absurd (spells_apart text v.0 error.line error.cause v.1 f)
fault_is text error f (inr g) = ap Err (same_error error g.0 g.1 (faults_one text error.line g.0 error.cause g.1 f g.2))

-- what is read is what the text is read as
pub read_is : (text : List ℕ) (r : Result UnitFile UnitError) → IsRead text r → r ≡ read_of text
read_is text (Ok u) s = spelled_is text u s (text_answered text)
read_is text (Err error) f = fault_is text error f (text_answered text)

input_cause : (c : UnitCause) → is_memory c ≡ false → cause_blame c ≡ Input
input_cause cause.TooLong e = refl
input_cause cause.NoUnit e = refl
input_cause cause.TooDeep e = refl
input_cause cause.NumberTooBig e = refl
input_cause cause.BadLine e = refl
input_cause cause.OutOfMemory e = cc

-- where memory lasted, the answer is that
pub answered_is : (text : List ℕ) (r : Result UnitFile UnitError) → Answers blame_of r (IsRead text) → ran_out r ≡ false → r ≡ read_of text
answered_is text (Ok u) s lasted = read_is text (Ok u) s
answered_is text (Err error) f lasted = read_is text (Err error) (f (input_cause error.cause lasted))

-- a unit's name is a name of an application
small_fits : (b : ℕ) → is_small_letter b ≡ true → fits_at 0 b ≡ true
small_fits b e = grind (arith, nat_tests)

byte_fits : (b : ℕ) → is_name_byte b ≡ true → fits_at 1 b ≡ true
byte_fits b e = grind (arith, nat_tests)

all_fit : (bytes : List ℕ) → list_all is_name_byte bytes ≡ true → list_all (fits_at 1) bytes ≡ true
all_fit [] e = refl
all_fit (b ∷ bs) e =
    let parts = and_parts (is_name_byte b) (list_all is_name_byte bs) e in
    and_from (fits_at 1 b) (list_all (fits_at 1) bs) (byte_fits b parts.0) (all_fit bs parts.1)

shorter : (n : ℕ) → nat_le n 64 ≡ true → nat_le n 255 ≡ true
shorter n e = grind (arith, nat_tests)

pub is_app : (name : List ℕ) → is_name name ≡ true → is_app_name name ≡ true
is_app [] e = cc
is_app (b ∷ bs) e =
    let outer = and_parts (is_small_letter b && list_all is_name_byte bs) (nat_le (length (b ∷ bs)) 64) e in
    let inner = and_parts (is_small_letter b) (list_all is_name_byte bs) outer.0 in
    and_from (fits_at 0 b && list_all (fits_at 1) bs) (nat_le (length (b ∷ bs)) 255)
    (and_from (fits_at 0 b) (list_all (fits_at 1) bs) (small_fits b inner.0) (all_fit bs inner.1))
    (shorter (length (b ∷ bs)) outer.1)

made_named : {number : ℕ} {lines : List (List ℕ)} {u : UnitFile} → Makes number lines u → is_name u.name ≡ true
made_named (Makes.blank short blank m) = made_named m
made_named (Makes.heading short n body) = n.2.0

same_unit : (r : Result UnitFile UnitError) (u x : UnitFile) → r ≡ Ok u → r ≡ Ok x → u ≡ x
same_unit r u x e f = cc

not_both : (r : Result UnitFile UnitError) (error : UnitError) (x : UnitFile) → r ≡ Err error → r ≡ Ok x → ⊥
not_both r error x e f = cc

pub read_named : (text : List ℕ) (r : Result UnitFile UnitError) → Answers blame_of r (IsRead text) → (x : UnitFile) → r ≡ Ok x → IsTrue (is_app_name x.name)
read_named text (Ok u) s x e = is_app x.name (subst (λ (v : UnitFile). is_name v.name ≡ true) (same_unit (Ok u) u x refl e) (made_named s.makes))
read_named text (Err error) f x e = absurd (not_both (Err error) error x refl e)

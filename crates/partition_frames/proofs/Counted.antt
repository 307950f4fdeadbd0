-- Lists behind their numbers, variables, and how a job is compiled.
use Rattle.std.proofs.Common.{◌≡◌, ℕ, zero, suc, ◌^◌, ◌<◌, ◌≤◌, ◌==◌, Bool, true, false, List, [], ◌∷◌, ◌++◌, length, refl, sym, ap, ◌∙◌, arith, subst, append_assoc, append-nil}
use Rattle.std.specs.Prelude.{flat_map}
use Rattle.reading.specs.Field.{PairFits}
use Rattle.reading.specs.Plain.{IsBelow}
use Rattle.mx_base.specs.declared.variable.Variable.{Variable}
use Rattle.compile_model.specs.declared.how.How.{How}
use Rattle.compile_model.specs.declared.how.How.TheVariants.{Nothing, Unit as ByUnit, Program}
use Rattle.partition_frames.specs.Field.{together}
use Rattle.partition_frames.specs.Frame.{IsHow, IsList, IsNumber, IsText, IsVariable, how_fields, list_fields, number, number_field, text_field, variable_fields}
use Rattle.partition_frames.specs.Pieces.{IsHowByte, IsShortList, LacksBefore, SoMany, byte_field, how_of, room}
use Rattle.partition_frames.proofs.Before.{before_first, before_otherwise, before_second}
use Rattle.partition_frames.proofs.Lacking.{Tells, both_tell, nothing_stands, one_tells, pair_fields, tells_otherwise, together_append}
use Rattle.partition_frames.proofs.Sequences.{some_values, values_tell}
use Rattle.partition_frames.proofs.Singles.{all_left, byte_field_tells, number_tells, text_field_tells}

-- ---- lists behind their numbers

below_tells : (limit : ℕ) → limit ≤ 2 ^ 32 → Tells number_field (IsBelow limit)
below_tells limit small = one_tells number (IsBelow limit) (λ a b x y fa fb e. number_tells a b x y (omega (arith, fa)) (omega (arith, fb)) e)

abbrev Counted : Type 0 → Type 0
Counted A = ℕ × List A

list_there : {A : Type 0} (fields : A → List (List ℕ)) (Fits : A → Type 0) (limit : ℕ) (p : Counted A)
    → PairFits (IsBelow limit) (SoMany Fits) p → IsShortList limit Fits p.1 × (list_fields fields p.1 ≡ pair_fields number_field (λ _. flat_map fields) p)
list_there fields Fits limit p fits =
    ((omega (arith, fits.0, fits.1.0), fits.1.1), ap (λ n. number_field n ++ flat_map fields p.1) fits.1.0)

list_as : {A : Type 0} (fields : A → List (List ℕ)) (Fits : A → Type 0) (limit : ℕ) (text : List ℕ) (left : ℕ)
    → LacksBefore (pair_fields number_field (λ _. flat_map fields)) (PairFits (IsBelow limit) (SoMany Fits)) text left
    → LacksBefore (list_fields fields) (IsShortList limit Fits) text left
list_as {A} fields Fits limit text left l =
    before_otherwise (pair_fields number_field (λ _. flat_map fields)) (PairFits (IsBelow limit) (SoMany Fits)) (list_fields fields) (IsShortList limit Fits)
    (λ (p : Counted A). p.1) (λ values. (length values, values)) (λ p fits. list_there fields Fits limit p fits)
    (λ values fits. ((fits.0, (refl, fits.1)), refl)) text left l

count_first : {A : Type 0} (fields : A → List (List ℕ)) (Fits : A → Type 0) (some : A) → Fits some → (limit : ℕ) (text : List ℕ) (left : ℕ)
    → LacksBefore number_field (IsBelow limit) text left → LacksBefore (list_fields fields) (IsShortList limit Fits) text left
count_first fields Fits some fits limit text left l =
    list_as fields Fits limit text left
    (before_first number_field (IsBelow limit) (λ _. flat_map fields) (SoMany Fits) (λ n _. some_values Fits some fits n) text left l)

-- the number is lacking
pub count_lacks : {A : Type 0} (fields : A → List (List ℕ)) (Fits : A → Type 0) (some : A) → Fits some → (text : List ℕ) (left : ℕ)
    → LacksBefore number_field IsNumber text left → LacksBefore (list_fields fields) (IsList Fits) text left
count_lacks fields Fits some fits text left l = count_first fields Fits some fits (2 ^ 32) text left l

pub no_count : {A : Type 0} (fields : A → List (List ℕ)) (Fits : A → Type 0) (some : A) → Fits some → (limit : ℕ) → 0 < limit → limit ≤ 2 ^ 32
    → (text : List ℕ) (left : ℕ) → LacksBefore number_field IsNumber text left
    → LacksBefore (list_fields fields) (IsShortList limit Fits) text (length text)
no_count fields Fits some fits limit more small text left l =
    count_first fields Fits some fits limit text (length text) (all_left number_field (IsBelow limit) text
    (nothing_stands number (IsBelow limit) text 0 more
    (λ n others below e. l.lacks.nothing n others (omega (arith, below)) (e ∙ ap (λ x. x ++ others) (sym (append-nil (number n)))))))

-- .. or too great
pub great_count : {A : Type 0} (fields : A → List (List ℕ)) (Fits : A → Type 0) (some : A) → Fits some → (limit : ℕ) → 0 < limit → limit ≤ 2 ^ 32
    → (text rest : List ℕ) (count : ℕ) → IsNumber count → text ≡ together (number_field count) ++ rest → limit ≤ count
    → LacksBefore (list_fields fields) (IsShortList limit Fits) text (length text)
great_count fields Fits some fits limit more small text rest count is cut great =
    count_first fields Fits some fits limit text (length text) (all_left number_field (IsBelow limit) text
    (nothing_stands number (IsBelow limit) text 0 more
    (λ n others below e.
    let same : count ≡ n = number_tells count n rest others is (omega (arith, below))
    (ap (λ x. x ++ rest) (sym (append-nil (number count))) ∙ sym cut ∙ e) in
    omega (arith, same, below, great))))

-- a value is
pub values_lack : {A : Type 0} (fields : A → List (List ℕ)) (Fits : A → Type 0) (limit : ℕ) → limit ≤ 2 ^ 32 → (text rest : List ℕ) (count left : ℕ)
    → count < limit → text ≡ together (number_field count) ++ rest → LacksBefore (flat_map fields) (SoMany Fits count) rest left
    → LacksBefore (list_fields fields) (IsShortList limit Fits) text left
values_lack fields Fits limit small text rest count left below cut l =
    list_as fields Fits limit text left
    (before_second number_field (IsBelow limit) (λ _. flat_map fields) (SoMany Fits) (below_tells limit small) count below text rest left cut l)

pub list_read : {A : Type 0} (fields : A → List (List ℕ)) (values : List A) (text rest after : List ℕ) (count : ℕ) → length values ≡ count
    → text ≡ together (number_field count) ++ rest → rest ≡ together (flat_map fields values) ++ after
    → text ≡ together (list_fields fields values) ++ after
list_read fields values text rest after count long cut more =
    cut ∙ ap (λ n. together (number_field n) ++ rest) (sym long)
    ∙ ap (λ t. together (number_field (length values)) ++ t) more
    ∙ sym (append_assoc (together (number_field (length values))) (together (flat_map fields values)) after)
    ∙ ap (λ t. t ++ after) (sym (together_append (number_field (length values)) (flat_map fields values)))

pub list_tells : {A : Type 0} (fields : A → List (List ℕ)) (Fits : A → Type 0) → Tells fields Fits → (limit : ℕ) → limit ≤ 2 ^ 32
    → Tells (list_fields fields) (IsShortList limit Fits)
list_tells {A} fields Fits tells limit small =
    tells_otherwise (pair_fields number_field (λ _. flat_map fields)) (PairFits (IsBelow limit) (SoMany Fits)) (list_fields fields) (IsShortList limit Fits)
    (λ values. (length values, values)) (λ values fits. ((fits.0, (refl, fits.1)), refl)) (λ b c fb fc e. ap (λ (p : Counted A). p.1) e)
    (both_tell number_field (IsBelow limit) (λ _. flat_map fields) (SoMany Fits) (below_tells limit small) (λ n _. values_tell fields Fits tells n))

-- ---- variables

abbrev TextPair : Type 0
TextPair = List ℕ × List ℕ

abbrev pair_of : Variable → TextPair
pair_of variable = (variable.name, variable.value)

abbrev variable_of : TextPair → Variable
variable_of p = record { name = p.0; value = p.1 }

variable_as : (text : List ℕ) (left : ℕ) → LacksBefore (pair_fields text_field (λ _. text_field)) (PairFits IsText (λ _. IsText)) text left
    → LacksBefore variable_fields IsVariable text left
variable_as text left l =
    before_otherwise (pair_fields text_field (λ _. text_field)) (PairFits IsText (λ _. IsText)) variable_fields IsVariable
    variable_of pair_of (λ p fits. (fits, refl)) (λ v fits. (fits, refl)) text left l

some_text : (text : List ℕ) × IsText text
some_text = ([], omega arith)

pub variable_name_lacks : (text : List ℕ) (left : ℕ) → LacksBefore text_field IsText text left → LacksBefore variable_fields IsVariable text left
variable_name_lacks text left l =
    variable_as text left (before_first text_field IsText (λ _. text_field) (λ _. IsText) (λ _ _. some_text) text left l)

pub variable_value_lacks : (name text rest : List ℕ) (left : ℕ) → IsText name → text ≡ together (text_field name) ++ rest
    → LacksBefore text_field IsText rest left → LacksBefore variable_fields IsVariable text left
variable_value_lacks name text rest left is cut l =
    variable_as text left (before_second text_field IsText (λ _. text_field) (λ _. IsText) text_field_tells name is text rest left cut l)

pub variable_tells : Tells variable_fields IsVariable
variable_tells =
    tells_otherwise (pair_fields text_field (λ _. text_field)) (PairFits IsText (λ _. IsText)) variable_fields IsVariable
    pair_of (λ v fits. (fits, refl)) (λ b c fb fc e. ap variable_of e)
    (both_tell text_field IsText (λ _. text_field) (λ _. IsText) text_field_tells (λ _ _. text_field_tells))

abbrev pub some_variable : Variable
some_variable = record { name = []; value = [] }

pub some_variable_is : IsVariable some_variable
some_variable_is = (omega arith, omega arith)

-- two pieces, one behind the other
pub both_read : (a b : List (List ℕ)) (text rest after : List ℕ) → text ≡ together a ++ rest → rest ≡ together b ++ after
    → text ≡ together (a ++ b) ++ after
both_read a b text rest after cut more =
    cut ∙ ap (λ t. together a ++ t) more ∙ sym (append_assoc (together a) (together b) after)
    ∙ ap (λ t. t ++ after) (sym (together_append a b))

-- ---- how a job is compiled

abbrev HowPair : Type 0
HowPair = ℕ × List (List ℕ)

abbrev WordsFit : ℕ → List (List ℕ) → Type 0
WordsFit byte = IsShortList (room (byte == 2)) IsText

abbrev how_pair : How → HowPair
how_pair Nothing = (0, [])
how_pair ByUnit = (1, [])
how_pair (Program words) = (2, words)

pub room_small : (b : Bool) → room b ≤ 2 ^ 32
room_small true = omega arith
room_small false = omega arith

pub room_some : (b : Bool) → 0 < room b
room_some true = omega arith
room_some false = omega arith

none_of : (words : List (List ℕ)) → length words < 1 → words ≡ []
none_of [] few = refl
none_of (w ∷ words) few = absurd (omega (arith, few))

pub how_there : (byte : ℕ) (words : List (List ℕ)) → IsHowByte byte → WordsFit byte words
    → IsHow (how_of byte words) × (how_fields (how_of byte words) ≡ byte_field byte ++ list_fields text_field words)
how_there zero words is fits =
    ((omega arith, tt), ap (λ w. (0 ∷ []) ∷ list_fields text_field w) (sym (none_of words fits.0)))
how_there (suc zero) words is fits =
    ((omega arith, tt), ap (λ w. (1 ∷ []) ∷ list_fields text_field w) (sym (none_of words fits.0)))
how_there (suc (suc n)) words is fits =
    let last : n ≡ 0 = omega (arith, is) in
    (subst (λ k. WordsFit (suc (suc k)) words) last fits, ap (λ k. (suc (suc k) ∷ []) ∷ list_fields text_field words) (sym last))

how_here : (how : How) → IsHow how → PairFits IsHowByte WordsFit (how_pair how) × (pair_fields byte_field (λ _. list_fields text_field) (how_pair how) ≡ how_fields how)
how_here Nothing fits = ((omega arith, (omega arith, tt)), refl)
how_here ByUnit fits = ((omega arith, (omega arith, tt)), refl)
how_here (Program words) fits = ((omega arith, fits), refl)

how_as : (text : List ℕ) (left : ℕ) → LacksBefore (pair_fields byte_field (λ _. list_fields text_field)) (PairFits IsHowByte WordsFit) text left
    → LacksBefore how_fields IsHow text left
how_as text left l =
    before_otherwise (pair_fields byte_field (λ _. list_fields text_field)) (PairFits IsHowByte WordsFit) how_fields IsHow
    (λ (p : HowPair). how_of p.0 p.1) how_pair (λ p fits. how_there p.0 p.1 fits.0 fits.1) how_here text left l

some_words : (b : ℕ) → (words : List (List ℕ)) × WordsFit b words
some_words b = ([], (room_some (b == 2), tt))

pub how_byte_lacks : (text : List ℕ) (left : ℕ) → LacksBefore byte_field IsHowByte text left → LacksBefore how_fields IsHow text left
how_byte_lacks text left l =
    how_as text left (before_first byte_field IsHowByte (λ _. list_fields text_field) WordsFit (λ b _. some_words b) text left l)

pub words_lack : (byte : ℕ) (text rest : List ℕ) (left : ℕ) → IsHowByte byte → text ≡ together (byte_field byte) ++ rest
    → LacksBefore (list_fields text_field) (WordsFit byte) rest left → LacksBefore how_fields IsHow text left
words_lack byte text rest left is cut l =
    how_as text left (before_second byte_field IsHowByte (λ _. list_fields text_field) WordsFit byte_field_tells byte is text rest left cut l)

how_apart : (b c : How) → IsHow b → IsHow c → how_pair b ≡ how_pair c → b ≡ c
how_apart Nothing Nothing fb fc e = refl
how_apart ByUnit ByUnit fb fc e = refl
how_apart (Program v) (Program w) fb fc e = ap (λ (p : HowPair). Program p.1) e
how_apart Nothing ByUnit fb fc e = absurd (omega (arith, ap (λ (p : HowPair). p.0) e))
how_apart Nothing (Program w) fb fc e = absurd (omega (arith, ap (λ (p : HowPair). p.0) e))
how_apart ByUnit Nothing fb fc e = absurd (omega (arith, ap (λ (p : HowPair). p.0) e))
how_apart ByUnit (Program w) fb fc e = absurd (omega (arith, ap (λ (p : HowPair). p.0) e))
how_apart (Program v) Nothing fb fc e = absurd (omega (arith, ap (λ (p : HowPair). p.0) e))
how_apart (Program v) ByUnit fb fc e = absurd (omega (arith, ap (λ (p : HowPair). p.0) e))

pub how_tells : Tells how_fields IsHow
how_tells =
    tells_otherwise (pair_fields byte_field (λ _. list_fields text_field)) (PairFits IsHowByte WordsFit) how_fields IsHow
    how_pair how_here how_apart
    (both_tell byte_field IsHowByte (λ _. list_fields text_field) WordsFit byte_field_tells
    (λ b _. list_tells text_field IsText text_field_tells (room (b == 2)) (room_small (b == 2))))

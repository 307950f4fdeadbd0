-- What the readers of `scan` give on a list of bytes: a value and the bytes that are left, or how many
-- are left where no requirement goes on. proofs/ ties them to the grammar.
use Rattle.std.specs.Prelude.{ℕ, ◌+◌, ◌-◌, ◌*◌, ◌^◌, ◌==◌, nat_le, Bool, true, false, Option, Some, None, Result, Ok, Err, List, [], ◌∷◌, ◌++◌, length, if◌then◌else◌}
use Rattle.std.specs.Borrow.{Bor}
use Rattle.std.specs.Char.{is_ascii_digit}
use Rattle.semver.specs.Grammar.{is_build_identifier, is_identifier_byte, is_pre_identifier}
use Rattle.version_req.specs.declared.operator.Operator.{Operator}
use Rattle.version_req.specs.declared.operator.Operator.TheVariants.{Equal, NotEqual, Greater, GreaterOrEqual, Less, LessOrEqual, Compatible}
use Rattle.version_req.specs.declared.scanned.Joint.{Joint}
use Rattle.version_req.specs.declared.scanned.Joint.TheVariants.{And, Or}
use Rattle.version_req.specs.declared.identifiers.Kind.{Kind}
use Rattle.version_req.specs.declared.identifiers.Kind.TheVariants.{PreRelease, Build}
use Rattle.version_req.specs.declared.scan.Head.{Head}
use Rattle.version_req.specs.declared.scanned.Scanned.{Scanned}
use Rattle.version_req.specs.declared.scan.Stuck.{Stuck}
use Rattle.version_req.specs.Condition.{Condition}

-- what is read, and the bytes that are left
abbrev pub Read : Type 0 → Type 0
Read A = Result (A × List ℕ) Stuck

-- no requirement goes on here
abbrev pub stuck : {A : Type 0} → List ℕ → Result A Stuck
stuck text = Err (record { left = length text })

infixl 10 ◌>>=◌
abbrev pub ◌>>=◌ : {A B : Type 0} → Result A Stuck → (A → Result B Stuck) → Result B Stuck
Ok x >>= f = f x
Err e >>= f = Err e

abbrev pub text_view : Result (Bor (List ℕ)) Stuck → Result (List ℕ) Stuck
text_view (Ok t) = Ok t.now
text_view (Err e) = Err e

abbrev pub read_view : {A : Type 0} → Result (A × Bor (List ℕ)) Stuck → Read A
read_view (Ok r) = Ok (r.0, r.1.now)
read_view (Err e) = Err e

abbrev pub pair_view : Result (Bor (List ℕ) × Bor (List ℕ)) Stuck → Read (List ℕ)
pair_view (Ok r) = Ok (r.0.now, r.1.now)
pair_view (Err e) = Err e

-- the text without the spaces at its front
unfoldable pub without_spaces : List ℕ → List ℕ
without_spaces [] = []
without_spaces (b ∷ rest) = if b == 32 then without_spaces rest else b ∷ rest

-- what is left after this byte
abbrev pub after_byte : ℕ → List ℕ → Result (List ℕ) Stuck
after_byte byte [] = stuck []
after_byte byte (b ∷ rest) = if b == byte then Ok rest else stuck (b ∷ rest)

-- an operator that `=` may make another
abbrev pub with_equal : Operator → Operator → List ℕ → Operator × List ℕ
with_equal alone both [] = (alone, [])
with_equal alone both (b ∷ rest) = if b == 61 then (both, rest) else (alone, b ∷ rest)

abbrev pub completed : Operator → Result (List ℕ) Stuck → Read Operator
completed operator after = after >>= λ rest. Ok (operator, rest)

abbrev pub operator_of : List ℕ → Read Operator
operator_of [] = Ok (Equal, [])
operator_of (b ∷ rest) =
    if b == 61 then completed Equal (after_byte 61 rest)
    else if b == 33 then completed NotEqual (after_byte 61 rest)
    else if b == 126 then completed Compatible (after_byte 62 rest)
    else if b == 62 then Ok (with_equal Greater GreaterOrEqual rest)
    else if b == 60 then Ok (with_equal Less LessOrEqual rest)
    else Ok (Equal, b ∷ rest)

-- a number with one digit more: none has a leading zero, and all are below 2 ^ 64
abbrev pub with_digit : ℕ → ℕ → Option ℕ
with_digit value digit =
    if value == 0 then None
    else if nat_le (2 ^ 64) (value * 10 + digit) then None
    else Some (value * 10 + digit)

-- the digits after the first
unfoldable pub digits_of : ℕ → List ℕ → Read ℕ
digits_of value [] = Ok (value, [])
digits_of value (b ∷ rest) =
    if is_ascii_digit b then elim (with_digit value (b - 48)) [ Some more ↦ digits_of more rest | None ↦ stuck (b ∷ rest) ]
    else Ok (value, b ∷ rest)

unfoldable pub number_of : List ℕ → Read ℕ
number_of [] = stuck []
number_of (b ∷ rest) = if is_ascii_digit b then digits_of (b - 48) rest else stuck (b ∷ rest)

-- the patch was left out, which it may after `~>`
abbrev pub short_head : Operator → ℕ → ℕ → List ℕ → Read Head
short_head Compatible major minor text =
    Ok (record { operator = Compatible; major = major; minor = minor; patch = 0; patch_written = false }, text)
short_head operator major minor text = stuck text

abbrev pub full_head : Operator → ℕ → ℕ → ℕ → Head
full_head operator major minor patch = record { operator = operator; major = major; minor = minor; patch = patch; patch_written = true }

-- a patch and its dot, or neither
abbrev pub patch_of : Operator → ℕ → ℕ → List ℕ → Read Head
patch_of operator major minor [] = short_head operator major minor []
patch_of operator major minor (b ∷ rest) =
    if b == 46 then (number_of rest >>= λ patch. Ok (full_head operator major minor patch.0, patch.1))
    else short_head operator major minor (b ∷ rest)

-- the operator and the numbers of a comparison
unfoldable pub head_of : List ℕ → Read Head
head_of text = do
  operator ← operator_of (without_spaces text)
  major ← number_of (without_spaces operator.1)
  rest ← after_byte 46 major.1
  minor ← number_of rest
  patch_of operator.0 major.0 minor.0 minor.1

-- whether the bytes are an identifier of this kind
abbrev pub is_identifier : Kind → List ℕ → Bool
is_identifier PreRelease part = is_pre_identifier part
is_identifier Build part = is_build_identifier part

-- identifiers with dots between them, given the bytes so far and those of the identifier in hand
unfoldable pub identifiers_from : Kind → List ℕ → List ℕ → List ℕ → Read (List ℕ)
identifiers_from kind text last [] = if is_identifier kind last then Ok (text, []) else stuck []
identifiers_from kind text last (b ∷ rest) =
    if is_identifier_byte b then identifiers_from kind (text ++ b ∷ []) (last ++ b ∷ []) rest
    else if is_identifier kind last then (if b == 46 then identifiers_from kind (text ++ b ∷ []) [] rest else Ok (text, b ∷ rest))
    else stuck (b ∷ rest)

-- the mark that identifiers of this kind follow
abbrev pub mark_of : Kind → ℕ
mark_of PreRelease = 45
mark_of Build = 43

-- identifiers after their mark, or nothing
abbrev pub marked_of : Kind → List ℕ → Read (List ℕ)
marked_of kind [] = Ok ([], [])
marked_of kind (b ∷ rest) = if b == mark_of kind then identifiers_from kind [] [] rest else Ok ([], b ∷ rest)

abbrev pub condition : Head → List ℕ → List ℕ → Condition
condition h pre build = record { operator = h.operator; operand = (h.major, h.minor, h.patch, pre, build); patch_written = h.patch_written }

-- a comparison, perhaps after spaces
unfoldable pub comparison_of : List ℕ → Read Condition
comparison_of text = do
  head ← head_of text
  pre ← marked_of PreRelease head.1
  build ← marked_of Build pre.1
  Ok (condition head.0 pre.0 build.0, build.1)

-- the condition of what was scanned
abbrev pub scanned_view : Scanned → Condition
scanned_view s = condition s.head s.pre.now s.build.now

abbrev pub scanned : Result (Scanned × Bor (List ℕ)) Stuck → Read Condition
scanned (Ok r) = Ok (scanned_view r.0, r.1.now)
scanned (Err e) = Err e

-- the word that joins what was read to more, with the space after it
abbrev pub word_of : List ℕ → Read (Option Joint)
word_of [] = Ok (None, [])
word_of (b ∷ rest) =
    if b == 97 then (after_byte 110 rest >>= λ t. after_byte 100 t >>= λ u. after_byte 32 u >>= λ v. Ok (Some And, v))
    else if b == 111 then (after_byte 114 rest >>= λ t. after_byte 32 t >>= λ u. Ok (Some Or, u))
    else stuck (b ∷ rest)

-- what follows a comparison: the end of the text, or spaces and a word
unfoldable pub joint_of : List ℕ → Read (Option Joint)
joint_of [] = Ok (None, [])
joint_of (b ∷ rest) = if b == 32 then word_of (without_spaces rest) else stuck (b ∷ rest)

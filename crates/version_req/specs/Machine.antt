-- How far a requirement has been read, byte by byte: a machine that goes on exactly while the bytes
-- begin some requirement. proofs/ shows that it accepts what the grammar spells and nothing else, that
-- from each place of it some text leads to a requirement, and that the readers of `scan` follow it.
use Rattle.std.specs.Prelude.{ℕ, suc, ◌-◌, ◌==◌, false, Option, Some, None, Result, Ok, Err, List, [], ◌∷◌, ◌++◌, length, if◌then◌else◌}
use Rattle.std.specs.Char.{is_ascii_digit}
use Rattle.semver.specs.Grammar.{is_identifier_byte}
use Rattle.version_req.specs.declared.operator.Operator.{Operator}
use Rattle.version_req.specs.declared.operator.Operator.TheVariants.{Equal, NotEqual, Greater, GreaterOrEqual, Less, LessOrEqual, Compatible}
use Rattle.version_req.specs.declared.scanned.Joint.{Joint}
use Rattle.version_req.specs.declared.scanned.Joint.TheVariants.{And, Or}
use Rattle.version_req.specs.declared.identifiers.Kind.{Kind}
use Rattle.version_req.specs.declared.identifiers.Kind.TheVariants.{PreRelease, Build}
use Rattle.version_req.specs.declared.scan.Head.{Head}
use Rattle.version_req.specs.Condition.{Condition, Alternatives}
use Rattle.version_req.specs.Reading.{condition, full_head, is_identifier, with_digit}

-- which number of a version it is, and what stands before it
pub data Numbers : Type 0 where
  Major : (operator : Operator) → Numbers
  Minor : (operator : Operator) (major : ℕ) → Numbers
  Patch : (operator : Operator) (major minor : ℕ) → Numbers

-- where in a requirement the next byte stands
pub data Place : Type 0 where
  -- before a comparison
  Lead : Place
  -- before the second byte of an operator
  Half : (second : ℕ) (operator : Operator) → Place
  -- after `>` or `<`
  Angle : (alone both : Operator) → Place
  -- before a number, and in one
  Before : (number : Numbers) → Place
  Number : (number : Numbers) (value : ℕ) → Place
  -- after the numbers of a version
  Whole : (head : Head) → Place
  -- in identifiers, given the pre-release before them, their bytes, and those of the last one
  Ids : (kind : Kind) (head : Head) (pre text last : List ℕ) → Place
  -- after the pre-release
  AfterPre : (head : Head) (pre : List ℕ) → Place
  -- after a whole comparison, and in the spaces after it
  After : (c : Condition) → Place
  Gap : Place
  -- in a word, given its bytes to come
  Word : (next : ℕ) (others : List ℕ) (joint : Joint) → Place

-- the finished alternatives, and the comparisons of the one in hand
pub record Tree : Type 0 where
  pub done : List (List Condition)
  pub group : List Condition

-- what a byte leads to: another place, the end of a comparison, or the end of a word
pub data Next : Type 0 where
  Go : (place : Place) → Next
  Close : (c : Condition) → Next
  Enter : (joint : Joint) → Next

abbrev pub comparison_end : Condition → ℕ → Option Next
comparison_end c b = if b == 32 then Some (Close c) else None

abbrev pub pre_end : Head → List ℕ → ℕ → Option Next
pre_end h pre b = if b == 43 then Some (Go (Ids Build h pre [] [])) else comparison_end (condition h pre []) b

abbrev pub numbers_end : Head → ℕ → Option Next
numbers_end h b = if b == 45 then Some (Go (Ids PreRelease h [] [] [])) else pre_end h [] b

-- a patch that was left out, after `~>` alone
abbrev pub lacking_patch : Operator → ℕ → ℕ → Option Head
lacking_patch Compatible major minor = Some (record { operator = Compatible; major = major; minor = minor; patch = 0; patch_written = false })
lacking_patch operator major minor = None

abbrev pub lacking_end : Option Head → ℕ → Option Next
lacking_end (Some h) b = numbers_end h b
lacking_end None b = None

-- what follows the digits of a number
abbrev pub number_end : Numbers → ℕ → ℕ → Option Next
number_end (Major o) value b = if b == 46 then Some (Go (Before (Minor o value))) else None
number_end (Minor o major) value b = if b == 46 then Some (Go (Before (Patch o major value))) else lacking_end (lacking_patch o major value) b
number_end (Patch o major minor) value b = numbers_end (full_head o major minor value) b

abbrev pub next_digit : Numbers → Option ℕ → Option Next
next_digit n (Some value) = Some (Go (Number n value))
next_digit n None = None

abbrev pub first_digit : Numbers → ℕ → Option Next
first_digit n b = if is_ascii_digit b then Some (Go (Number n (b - 48))) else None

-- before a number, where spaces may stand after an operator
abbrev pub before_number : Numbers → ℕ → Option Next
before_number (Major o) b = if b == 32 then Some (Go (Before (Major o))) else first_digit (Major o) b
before_number (Minor o major) b = first_digit (Minor o major) b
before_number (Patch o major minor) b = first_digit (Patch o major minor) b

abbrev pub before_comparison : ℕ → Option Next
before_comparison b =
    if b == 32 then Some (Go Lead)
    else if b == 61 then Some (Go (Half 61 Equal))
    else if b == 33 then Some (Go (Half 61 NotEqual))
    else if b == 126 then Some (Go (Half 62 Compatible))
    else if b == 62 then Some (Go (Angle Greater GreaterOrEqual))
    else if b == 60 then Some (Go (Angle Less LessOrEqual))
    else first_digit (Major Equal) b

abbrev pub ids_end : Kind → Head → List ℕ → List ℕ → ℕ → Option Next
ids_end PreRelease h pre text b = pre_end h text b
ids_end Build h pre text b = comparison_end (condition h pre text) b

abbrev pub after_letter : List ℕ → Joint → Next
after_letter [] joint = Enter joint
after_letter (x ∷ others) joint = Go (Word x others joint)

-- one byte on
abbrev pub step : Place → ℕ → Option Next
step Lead b = before_comparison b
step (Half second operator) b = if b == second then Some (Go (Before (Major operator))) else None
step (Angle alone both) b = if b == 61 then Some (Go (Before (Major both))) else before_number (Major alone) b
step (Before n) b = before_number n b
step (Number n value) b = if is_ascii_digit b then next_digit n (with_digit value (b - 48)) else number_end n value b
step (Whole h) b = numbers_end h b
step (Ids kind h pre text last) b =
    if is_identifier_byte b then Some (Go (Ids kind h pre (text ++ b ∷ []) (last ++ b ∷ [])))
    else if is_identifier kind last then (if b == 46 then Some (Go (Ids kind h pre (text ++ b ∷ []) [])) else ids_end kind h pre text b)
    else None
step (AfterPre h pre) b = pre_end h pre b
step (After c) b = comparison_end c b
step Gap b =
    if b == 32 then Some (Go Gap)
    else if b == 97 then Some (Go (Word 110 (100 ∷ 32 ∷ []) And))
    else if b == 111 then Some (Go (Word 114 (32 ∷ []) Or))
    else None
step (Word next others joint) b = if b == next then Some (after_letter others joint) else None

-- the tree with one comparison more, and the tree past a word
abbrev pub with_condition : Condition → Tree → Tree
with_condition c tree = record { done = tree.done; group = tree.group ++ c ∷ [] }

abbrev pub joined : Joint → Tree → Tree
joined And tree = tree
joined Or tree = record { done = tree.done ++ tree.group ∷ []; group = [] }

abbrev pub closed : Tree → Alternatives
closed tree = tree.done ++ tree.group ∷ []

-- the comparison that ends with the text at a place
abbrev pub head_ends : Option Head → Option Condition
head_ends (Some h) = Some (condition h [] [])
head_ends None = None

abbrev pub number_ends : Numbers → ℕ → Option Condition
number_ends (Major o) value = None
number_ends (Minor o major) value = head_ends (lacking_patch o major value)
number_ends (Patch o major minor) value = Some (condition (full_head o major minor value) [] [])

abbrev pub ids_ends : Kind → Head → List ℕ → List ℕ → Condition
ids_ends PreRelease h pre text = condition h text []
ids_ends Build h pre text = condition h pre text

abbrev pub ends : Place → Option Condition
ends (Number n value) = number_ends n value
ends (Whole h) = Some (condition h [] [])
ends (Ids kind h pre text last) = if is_identifier kind last then Some (ids_ends kind h pre text) else None
ends (AfterPre h pre) = Some (condition h pre [])
ends (After c) = Some c
ends place = None

-- the requirement of a text that ends here, or that no byte is left
abbrev pub closing : Option Condition → Tree → Result Alternatives ℕ
closing (Some c) tree = Ok (closed (with_condition c tree))
closing None tree = Err 0

abbrev pub finish : Place → Tree → Result Alternatives ℕ
finish Gap tree = Ok (closed tree)
finish place tree = closing (ends place) tree

abbrev pub onward : Option Next → Tree → ℕ → (Place → Tree → Result Alternatives ℕ) → Result Alternatives ℕ
onward None tree left go = Err left
onward (Some (Go place)) tree left go = go place tree
onward (Some (Close c)) tree left go = go Gap (with_condition c tree)
onward (Some (Enter joint)) tree left go = go Lead (joined joint tree)

-- the requirement that a text spells from a place on, or how many bytes are left where none goes on
unfoldable pub run : List ℕ → Place → Tree → Result Alternatives ℕ
run [] place tree = finish place tree
run (b ∷ rest) place tree = onward (step place b) tree (suc (length rest)) (run rest)

-- before the first byte
abbrev pub empty : Tree
empty = record { done = []; group = [] }

-- The machine accepts what the grammar spells, with its requirement.
use Rattle.std.proofs.Common.{◌≡◌, ℕ, zero, suc, ◌+◌, ◌-◌, ◌*◌, ◌/◌, ◌%◌, ◌^◌, ◌<◌, ◌≤◌, ◌==◌, ◌++◌, List, [], ◌∷◌, Bool, true, false, IsFalse, Result, Ok, Some, refl, sym, ap, ◌∙◌, arith, inl, inr, subst, append_assoc, append-nil, decimal, codes}
use Rattle.std.specs.Char.{is_ascii_digit}
use Rattle.std.specs.List.{list_all}
use Rattle.std.proofs.lemmas.Bool.{cases_Bool, eq-eqb, eqb-true, lt-leb}
use Rattle.std.proofs.lemmas.Bool.Decides.{nat_tests}
use Rattle.std.proofs.lemmas.Fmt.{decimal_by_steps}
use Rattle.std.proofs.lemmas.List.Folds.{list_all-append}
use Rattle.semver.specs.Grammar.{IsValid, is_build, is_identifier_byte, is_pre_release}
use Rattle.semver.specs.Identifiers.{marked, parts_text}
use Rattle.semver.specs.Order.{parts}
use Rattle.semver.specs.OrderLaws.{parts-shape}
use Rattle.semver.specs.Parse.{Parts}
use Rattle.semver.proofs.Segments.{and-left, and-right, parts-dot, parts-one}
use Rattle.version_req.specs.declared.operator.Operator.{Operator}
use Rattle.version_req.specs.declared.operator.Operator.TheVariants.{Equal, NotEqual, Greater, GreaterOrEqual, Less, LessOrEqual, Compatible}
use Rattle.version_req.specs.declared.scanned.Joint.TheVariants.{And, Or}
use Rattle.version_req.specs.declared.identifiers.Kind.{Kind}
use Rattle.version_req.specs.declared.identifiers.Kind.TheVariants.{PreRelease, Build}
use Rattle.version_req.specs.declared.scan.Head.{Head}
use Rattle.version_req.specs.Condition.{Condition, Alternatives}
use Rattle.version_req.specs.Grammar.{Joined, MayLackPatch, Spells, SpellsAlternatives, SpellsComparison, SpellsOperator, operand_text, operator_text, spaces}
use Rattle.version_req.specs.Machine.{Numbers, Major, Minor, Patch, Place, Lead, Half, Angle, Before, Number, Ids, Gap, Word, Tree, Go, Close, closed, empty, finish, joined, run, step, with_condition}
use Rattle.version_req.specs.Reading.{condition, full_head, is_identifier, with_digit}
use Rattle.version_req.proofs.MachineSteps.{alike, at_end, close, enter, go}

-- ---- spaces

-- spaces at a place that they do not leave
stay : (p : Place) → step p 32 ≡ Some (Go p) → (n : ℕ) (x : List ℕ) (tree : Tree) → run (spaces n ++ x) p tree ≡ run x p tree
stay p h zero x tree = refl
stay p h (suc n) x tree = go p p 32 (spaces n ++ x) tree h ∙ stay p h n x tree

stay_lead : (n : ℕ) (x : List ℕ) (tree : Tree) → run (spaces n ++ x) Lead tree ≡ run x Lead tree
stay_lead = stay Lead refl

stay_before : (o : Operator) (n : ℕ) (x : List ℕ) (tree : Tree) → run (spaces n ++ x) (Before (Major o)) tree ≡ run x (Before (Major o)) tree
stay_before o = stay (Before (Major o)) refl

stay_gap : (n : ℕ) (x : List ℕ) (tree : Tree) → run (spaces n ++ x) Gap tree ≡ run x Gap tree
stay_gap = stay Gap refl

-- ---- numbers

abbrev Runs : Numbers → ℕ → List ℕ → Type 0
Runs n v ds = v < 2 ^ 64 → (x : List ℕ) (tree : Tree) → run (ds ++ x) (Before n) tree ≡ run x (Number n v) tree

first_step : (n : Numbers) (v : ℕ) → v < 10 → step (Before n) (48 + v) ≡ Some (Go (Number n v))
first_step (Major o) v small =
    let space : (48 + v == 32) ≡ false = grind (arith, nat_tests) in
    let digit : is_ascii_digit (48 + v) ≡ true = grind arith in
    let e : 48 + v - 48 ≡ v = omega arith in
    rw (space, digit, e) refl
first_step (Minor o major) v small =
    let digit : is_ascii_digit (48 + v) ≡ true = grind arith in
    let e : 48 + v - 48 ≡ v = omega arith in
    rw (digit, e) refl
first_step (Patch o major minor) v small =
    let digit : is_ascii_digit (48 + v) ≡ true = grind arith in
    let e : 48 + v - 48 ≡ v = omega arith in
    rw (digit, e) refl

digit_more : (v : ℕ) → 10 ≤ v → v < 2 ^ 64 → with_digit (v / 10) (48 + v % 10 - 48) ≡ Some v
digit_more v big small =
    let some : (v / 10 == 0) ≡ false = grind (arith, nat_tests) in
    let e : v / 10 * 10 + (48 + v % 10 - 48) ≡ v = omega arith in
    rw (some, e, lt-leb _ _ small) refl

later_step : (n : Numbers) (v : ℕ) → 10 ≤ v → v < 2 ^ 64 → step (Number n (v / 10)) (48 + v % 10) ≡ Some (Go (Number n v))
later_step n v big small =
    let digit : is_ascii_digit (48 + v % 10) ≡ true = grind arith in
    rw (digit, digit_more v big small) refl

run_decimal : (n : Numbers) (v : ℕ) → v < 2 ^ 64 → (x : List ℕ) (tree : Tree) → run (decimal v ++ x) (Before n) tree ≡ run x (Number n v) tree
run_decimal n v fits = decimal_by_steps (Runs n)
    (λ k low small x tree. go (Before n) (Number n k) (48 + k) x tree (first_step n k low))
    (λ k ds big ih small x tree.
    rw (append_assoc ds ((48 + k % 10) ∷ []) x)
    (ih (omega arith) ((48 + k % 10) ∷ x) tree ∙ go (Number n (k / 10)) (Number n k) (48 + k % 10) x tree (later_step n k big small)))
    v fits fits

-- a number begins with a digit
abbrev StartsDigit : List ℕ → Type 0
StartsDigit text = (b : ℕ) × (rest : List ℕ) × (text ≡ b ∷ rest) × (is_ascii_digit b ≡ true)

decimal_starts : (v : ℕ) → v < 2 ^ 64 → StartsDigit (decimal v)
decimal_starts v fits = decimal_by_steps (λ _ ds. StartsDigit ds)
    (λ k low. (48 + k, [], refl, grind arith))
    (λ k ds big ih. (ih.0, ih.1 ++ (48 + k % 10) ∷ [], rw ih.2 refl, ih.3))
    v fits

-- ---- operators

digit_no : (b k : ℕ) → is_ascii_digit b ≡ true → (is_ascii_digit k ≡ false) → (b == k) ≡ false
digit_no b k h other = elim (cases_Bool (b == k)) [
  | inl same ↦ cc (rw (eqb-true b k same) at h)
  | inr e ↦ e
]

-- the text after an operator
abbrev after_operator : ℕ → ℕ → List ℕ → List ℕ
after_operator gap v x = spaces gap ++ (decimal v ++ x)

plain_angle : (alone both : Operator) (gap v : ℕ) → v < 2 ^ 64 → (x : List ℕ) (tree : Tree)
    → run (after_operator gap v x) (Angle alone both) tree ≡ run (after_operator gap v x) (Before (Major alone)) tree
plain_angle alone both zero v fits x tree =
    let d = decimal_starts v fits in
    rw d.2 (alike (Angle alone both) (Before (Major alone)) d.0 (d.1 ++ x) tree (rw (digit_no d.0 61 d.3 refl) refl))
plain_angle alone both (suc n) v fits x tree = alike (Angle alone both) (Before (Major alone)) 32 (spaces n ++ (decimal v ++ x)) tree refl

plain_lead : (v : ℕ) → v < 2 ^ 64 → (x : List ℕ) (tree : Tree) → run (decimal v ++ x) Lead tree ≡ run (decimal v ++ x) (Before (Major Equal)) tree
plain_lead v fits x tree =
    let d = decimal_starts v fits in
    let no = λ (k : ℕ) (other : is_ascii_digit k ≡ false). digit_no d.0 k d.3 other in
    rw d.2 (alike Lead (Before (Major Equal)) d.0 (d.1 ++ x) tree (rw (no 32 refl, no 61 refl, no 33 refl, no 126 refl, no 62 refl, no 60 refl) refl))

-- after an operator, spaces and a number
after_run : (o : Operator) (gap v : ℕ) → v < 2 ^ 64 → (x : List ℕ) (tree : Tree)
    → run (after_operator gap v x) (Before (Major o)) tree ≡ run x (Number (Major o) v) tree
after_run o gap v fits x tree = stay_before o gap (decimal v ++ x) tree ∙ run_decimal (Major o) v fits x tree

half_run : (byte : ℕ) (o : Operator) (y : List ℕ) (tree : Tree) → run (byte ∷ y) (Half byte o) tree ≡ run y (Before (Major o)) tree
half_run byte o y tree = go (Half byte o) (Before (Major o)) byte y tree (rw (eq-eqb byte byte refl) refl)

written_run : (o : Operator) (gap v : ℕ) → v < 2 ^ 64 → (x : List ℕ) (tree : Tree)
    → run (operator_text o ++ after_operator gap v x) Lead tree ≡ run x (Number (Major o) v) tree
written_run Equal gap v fits x tree =
    let y = after_operator gap v x in
    go Lead (Half 61 Equal) 61 (61 ∷ y) tree refl ∙ half_run 61 Equal y tree ∙ after_run Equal gap v fits x tree
written_run NotEqual gap v fits x tree =
    let y = after_operator gap v x in
    go Lead (Half 61 NotEqual) 33 (61 ∷ y) tree refl ∙ half_run 61 NotEqual y tree ∙ after_run NotEqual gap v fits x tree
written_run Greater gap v fits x tree =
    let y = after_operator gap v x in
    go Lead (Angle Greater GreaterOrEqual) 62 y tree refl ∙ plain_angle Greater GreaterOrEqual gap v fits x tree ∙ after_run Greater gap v fits x tree
written_run GreaterOrEqual gap v fits x tree =
    let y = after_operator gap v x in
    go Lead (Angle Greater GreaterOrEqual) 62 (61 ∷ y) tree refl ∙ go (Angle Greater GreaterOrEqual) (Before (Major GreaterOrEqual)) 61 y tree refl
    ∙ after_run GreaterOrEqual gap v fits x tree
written_run Less gap v fits x tree =
    let y = after_operator gap v x in
    go Lead (Angle Less LessOrEqual) 60 y tree refl ∙ plain_angle Less LessOrEqual gap v fits x tree ∙ after_run Less gap v fits x tree
written_run LessOrEqual gap v fits x tree =
    let y = after_operator gap v x in
    go Lead (Angle Less LessOrEqual) 60 (61 ∷ y) tree refl ∙ go (Angle Less LessOrEqual) (Before (Major LessOrEqual)) 61 y tree refl
    ∙ after_run LessOrEqual gap v fits x tree
written_run Compatible gap v fits x tree =
    let y = after_operator gap v x in
    go Lead (Half 62 Compatible) 126 (62 ∷ y) tree refl ∙ half_run 62 Compatible y tree ∙ after_run Compatible gap v fits x tree

operator_run : (text : List ℕ) (o : Operator) → SpellsOperator text o → (gap v : ℕ) → v < 2 ^ 64 → (x : List ℕ) (tree : Tree)
    → run (text ++ after_operator gap v x) Lead tree ≡ run x (Number (Major o) v) tree
operator_run text o (inl written) gap v fits x tree = rw written (written_run o gap v fits x tree)
operator_run text o (inr (none, equal)) gap v fits x tree =
    rw (none, equal) (stay_lead gap (decimal v ++ x) tree ∙ plain_lead v fits x tree ∙ run_decimal (Major Equal) v fits x tree)

-- ---- identifiers

-- bytes of identifiers in front of a text go to the front of its first part
parts_front : (l x first : List ℕ) (others : List (List ℕ)) → list_all is_identifier_byte l ≡ true → parts x ≡ first ∷ others
    → parts (l ++ x) ≡ (l ++ first) ∷ others
parts_front [] x first others all e = e
parts_front (b ∷ l) x first others all e =
    let head : is_identifier_byte b ≡ true = and-left (is_identifier_byte b) (list_all is_identifier_byte l) all in
    let tail : list_all is_identifier_byte l ≡ true = and-right (is_identifier_byte b) (list_all is_identifier_byte l) all in
    let dot : (b == 46) ≡ false = grind arith in
    rw (dot, parts_front l x first others tail e) refl

-- the bytes of an identifier
identifier_bytes : (k : Kind) (part : List ℕ) → is_identifier k part ≡ true → list_all is_identifier_byte part ≡ true
identifier_bytes PreRelease part h = and-right _ _ (and-left _ _ h)
identifier_bytes Build part h = and-right _ _ h

-- the byte after those of a good identifier, if it is no dot
next_byte : (k : Kind) (last : List ℕ) (b : ℕ) (p : List ℕ) → list_all is_identifier_byte last ≡ true → (b == 46) ≡ false
    → list_all (is_identifier k) (parts (last ++ b ∷ p)) ≡ true → is_identifier_byte b ≡ true
next_byte k last b p all dot good =
    let shape = parts-shape p in
    let front : parts (b ∷ p) ≡ (b ∷ shape.0) ∷ shape.1 = rw (dot, shape.2) refl in
    let whole = parts_front last (b ∷ p) (b ∷ shape.0) shape.1 all front in
    let first = and-left _ _ (rw whole at good) in
    let bytes = identifier_bytes k (last ++ b ∷ shape.0) first in
    let split = rw (list_all-append is_identifier_byte last (b ∷ shape.0)) at bytes in
    and-left _ _ (and-right _ _ split)

abbrev IdsRun : Kind → Head → List ℕ → List ℕ → List ℕ → List ℕ → Type 0
IdsRun k h pre text last p = (l : List ℕ) × (is_identifier k l ≡ true)
    × ((x : List ℕ) (tree : Tree) → run (p ++ x) (Ids k h pre text last) tree ≡ run x (Ids k h pre (text ++ p) l) tree)

ids_run : (k : Kind) (h : Head) (pre text last p : List ℕ) → list_all is_identifier_byte last ≡ true
    → list_all (is_identifier k) (parts (last ++ p)) ≡ true → IdsRun k h pre text last p
ids_run k h pre text last [] all good =
    let one : parts (last ++ []) ≡ last ∷ [] = rw (append-nil last) (parts-one last all) in
    (last, and-left _ _ (rw one at good), λ x tree. rw (append-nil text) refl)
ids_run k h pre text last (b ∷ p) all good = elim (cases_Bool (b == 46)) [
  | inl dot ↦
      let byte : b ≡ 46 = eqb-true b 46 dot in
      let cut : parts (last ++ b ∷ p) ≡ last ∷ parts p = rw byte (parts-dot last p all) in
      let both = rw cut at good in
      let others = list_all (is_identifier k) (parts p) in
      let first : is_identifier k last ≡ true = and-left (is_identifier k last) others both in
      let ih = ids_run k h pre (text ++ b ∷ []) [] p refl (and-right (is_identifier k last) others both) in
      let no : is_identifier_byte b ≡ false = rw byte refl in (
        ih.0,
        ih.1,
        λ x tree.
            go (Ids k h pre text last) (Ids k h pre (text ++ b ∷ []) []) b (p ++ x) tree (rw (no, first, dot) refl)
            ∙ ih.2 x tree ∙ rw (append_assoc text (b ∷ []) p) refl,
      )
  | inr other ↦
      let letter = next_byte k last b p all other good in
      let bytes : list_all is_identifier_byte (last ++ b ∷ []) ≡ true = rw (list_all-append, all, letter) refl in
      let ih = ids_run k h pre (text ++ b ∷ []) (last ++ b ∷ []) p bytes (rw (append_assoc last (b ∷ []) p) good) in (
        ih.0,
        ih.1,
        λ x tree.
            go (Ids k h pre text last) (Ids k h pre (text ++ b ∷ []) (last ++ b ∷ [])) b (p ++ x) tree (rw letter refl)
            ∙ ih.2 x tree ∙ rw (append_assoc text (b ∷ []) p) refl,
      )
]

-- ---- the end of a comparison

-- here the comparison may end, with the text or with a space
pub record Closes (p : Place) (c : Condition) : Type 0 where
  pub last : (tree : Tree) → finish p tree ≡ Ok (closed (with_condition c tree))
  pub space : step p 32 ≡ Some (Close c)

-- here only a mark may follow, or the end
record AfterNumbers (p : Place) (h : Head) : Type 0 where
  pub ends : Closes p (condition h [] [])
  pub dash : step p 45 ≡ Some (Go (Ids PreRelease h [] [] []))
  pub plus : step p 43 ≡ Some (Go (Ids Build h [] [] []))

-- a text leads from a place to one where the comparison may end
abbrev pub Ends : Place → List ℕ → Condition → Type 0
Ends from text c = (p : Place) × Closes p c × ((x : List ℕ) (tree : Tree) → run (text ++ x) from tree ≡ run x p tree)

abbrev ids_condition : Kind → Head → List ℕ → List ℕ → Condition
ids_condition PreRelease h pre text = condition h text []
ids_condition Build h pre text = condition h pre text

ids_closes : (k : Kind) (h : Head) (pre text last : List ℕ) → is_identifier k last ≡ true
    → Closes (Ids k h pre text last) (ids_condition k h pre text)
ids_closes PreRelease h pre text last good = record { last = λ tree. rw good refl; space = rw good refl }
ids_closes Build h pre text last good = record { last = λ tree. rw good refl; space = rw good refl }

build_run : (p : Place) (h : Head) (pre build : List ℕ) → is_build build ≡ true → Closes p (condition h pre [])
    → step p 43 ≡ Some (Go (Ids Build h pre [] []))
    → Ends p (marked 43 build) (condition h pre build)
build_run p h pre [] good closes plus = (p, closes, λ x tree. refl)
build_run p h pre (b ∷ rest) good closes plus =
    let ids = ids_run Build h pre [] [] (b ∷ rest) refl good in (
      Ids Build h pre (b ∷ rest) ids.0,
      ids_closes Build h pre (b ∷ rest) ids.0 ids.1,
      λ x tree.
          go p (Ids Build h pre [] []) 43 (b ∷ (rest ++ x)) tree plus ∙ ids.2 x tree,
    )

tail_run : (p : Place) (h : Head) (pre build : List ℕ) → is_pre_release pre ≡ true → is_build build ≡ true → AfterNumbers p h
    → Ends p (marked 45 pre ++ marked 43 build) (condition h pre build)
tail_run p h [] build good fine after = build_run p h [] build fine after.ends after.plus
tail_run p h (b ∷ rest) build good fine after =
    let ids = ids_run PreRelease h [] [] [] (b ∷ rest) refl good in
    let q = Ids PreRelease h [] (b ∷ rest) ids.0 in
    let more = build_run q h (b ∷ rest) build fine (ids_closes PreRelease h [] (b ∷ rest) ids.0 ids.1) (rw ids.1 refl) in (
      more.0,
      more.1,
      λ x tree.
          rw (append_assoc (45 ∷ b ∷ rest) (marked 43 build) x)
          (go p (Ids PreRelease h [] [] []) 45 (b ∷ (rest ++ (marked 43 build ++ x))) tree after.dash ∙ ids.2 (marked 43 build ++ x) tree
          ∙ more.2 x tree),
    )

full_after : (o : Operator) (a m v : ℕ) → AfterNumbers (Number (Patch o a m) v) (full_head o a m v)
full_after o a m v = record { ends = record { last = λ tree. refl; space = refl }; dash = refl; plus = refl }

abbrev short : ℕ → ℕ → Head
short a m = record { operator = Compatible; major = a; minor = m; patch = 0; patch_written = false }

short_after : (a m : ℕ) → AfterNumbers (Number (Minor Compatible a) m) (short a m)
short_after a m = record { ends = record { last = λ tree. refl; space = refl }; dash = refl; plus = refl }

-- ---- a whole comparison

-- after the first number: the second
minor_run : (o : Operator) (a m : ℕ) → m < 2 ^ 64 → (x : List ℕ) (tree : Tree)
    → run (46 ∷ (decimal m ++ x)) (Number (Major o) a) tree ≡ run x (Number (Minor o a) m) tree
minor_run o a m fits x tree = go (Number (Major o) a) (Before (Minor o a)) 46 (decimal m ++ x) tree refl ∙ run_decimal (Minor o a) m fits x tree

patch_run : (o : Operator) (a m v : ℕ) → v < 2 ^ 64 → (x : List ℕ) (tree : Tree)
    → run (46 ∷ (decimal v ++ x)) (Number (Minor o a) m) tree ≡ run x (Number (Patch o a m) v) tree
patch_run o a m v fits x tree = go (Number (Minor o a) m) (Before (Patch o a m)) 46 (decimal v ++ x) tree refl
    ∙ run_decimal (Patch o a m) v fits x tree

-- the texts as the grammar groups them, and as they are read
full_text : (op a m v tail x : List ℕ) (gap : List ℕ)
    → (op ++ (gap ++ (a ++ (46 ∷ (m ++ (46 ∷ (v ++ tail))))))) ++ x ≡ op ++ (gap ++ (a ++ (46 ∷ (m ++ (46 ∷ (v ++ (tail ++ x)))))))
full_text op a m v tail x gap = simp append_assoc

short_text : (op a m tail x : List ℕ) (gap : List ℕ)
    → (op ++ (gap ++ (a ++ (46 ∷ (m ++ tail))))) ++ x ≡ op ++ (gap ++ (a ++ (46 ∷ (m ++ (tail ++ x)))))
short_text op a m tail x gap = simp append_assoc

full_run : (op : List ℕ) (o : Operator) (gap : ℕ) (p : Parts) → SpellsOperator op o → IsValid p
    → Ends Lead (op ++ (spaces gap ++ parts_text p)) (record { operator = o; operand = p; patch_written = true })
full_run op o gap p written valid =
    let tail = marked 45 p.3 ++ marked 43 p.4 in
    let e = tail_run (Number (Patch o p.0 p.1) p.2) (full_head o p.0 p.1 p.2) p.3 p.4 valid.3 valid.4 (full_after o p.0 p.1 p.2) in (
      e.0,
      e.1,
      λ x tree. ap (λ t. run t Lead tree) (full_text op (decimal p.0) (decimal p.1) (decimal p.2) tail x (spaces gap))
          ∙ operator_run op o written gap p.0 valid.0 (46 ∷ (decimal p.1 ++ (46 ∷ (decimal p.2 ++ (tail ++ x))))) tree
          ∙ minor_run o p.0 p.1 valid.1 (46 ∷ (decimal p.2 ++ (tail ++ x))) tree
          ∙ patch_run o p.0 p.1 p.2 valid.2 (tail ++ x) tree
          ∙ e.2 x tree,
    )

short_run : (op : List ℕ) (gap : ℕ) (p : Parts) → SpellsOperator op Compatible → IsValid p
    → Ends Lead (op ++ (spaces gap ++ operand_text false p)) (condition (short p.0 p.1) p.3 p.4)
short_run op gap p written valid =
    let tail = marked 45 p.3 ++ marked 43 p.4 in
    let e = tail_run (Number (Minor Compatible p.0) p.1) (short p.0 p.1) p.3 p.4 valid.3 valid.4 (short_after p.0 p.1) in (
      e.0,
      e.1,
      λ x tree. ap (λ t. run t Lead tree) (short_text op (decimal p.0) (decimal p.1) tail x (spaces gap))
          ∙ operator_run op Compatible written gap p.0 valid.0 (46 ∷ (decimal p.1 ++ (tail ++ x))) tree
          ∙ minor_run Compatible p.0 p.1 valid.1 (tail ++ x) tree
          ∙ e.2 x tree,
    )

abbrev made : Operator → Parts → Bool → Condition
made o p w = record { operator = o; operand = p; patch_written = w }

same_ends : (from : Place) (t u : List ℕ) (c d : Condition) → t ≡ u → c ≡ d → Ends from t c → Ends from u d
same_ends from t u c d e f h = subst (λ (z : Condition). Ends from u z) f (subst (λ (z : List ℕ). Ends from z c) e h)

by_patch : (text : List ℕ) (c : Condition) (w : Bool) → c.patch_written ≡ w → SpellsComparison text c → Ends Lead text c
by_patch text c true e s =
    let op = s.bytes.0 in
    let gap = s.bytes.1 in
    let bytes : op ++ (spaces gap ++ parts_text c.operand) ≡ text = ap (λ (v : Bool). op ++ (spaces gap ++ operand_text v c.operand)) (sym e)
    ∙ sym s.bytes.3 in
    same_ends Lead _ text (made c.operator c.operand true) c bytes (ap (made c.operator c.operand) (sym e))
    (full_run op c.operator gap c.operand s.bytes.2 s.valid)
by_patch text c false e s =
    let op = s.bytes.0 in
    let gap = s.bytes.1 in
    let p = c.operand in
    let lacks : MayLackPatch c = s.patch (subst IsFalse (sym e) refl) in
    let bytes : op ++ (spaces gap ++ operand_text false p) ≡ text = ap (λ (v : Bool). op ++ (spaces gap ++ operand_text v p)) (sym e)
    ∙ sym s.bytes.3 in
    let same : made Compatible (p.0, p.1, 0, p.3, p.4) false ≡ c =
    ap (λ (o : Operator). made o (p.0, p.1, 0, p.3, p.4) false) (sym lacks.0)
    ∙ ap (λ (z : ℕ). made c.operator (p.0, p.1, z, p.3, p.4) false) (sym lacks.1)
    ∙ ap (made c.operator p) (sym e) in
    same_ends Lead _ text _ c bytes same (short_run op gap p (subst (λ (o : Operator). SpellsOperator op o) lacks.0 s.bytes.2) s.valid)

comparison_run : (text : List ℕ) (c : Condition) → SpellsComparison text c → Ends Lead text c
comparison_run text c s = by_patch text c c.patch_written refl s

-- ---- comparisons joined by words

-- a comparison may end before such a text
abbrev Stops : List ℕ → Type 0
Stops [] = Unit {0}
Stops (b ∷ rest) = b ≡ 32

ends_gap : (text : List ℕ) (c : Condition) → Ends Lead text c → (x : List ℕ) → Stops x → (tree : Tree)
    → run (text ++ x) Lead tree ≡ run x Gap (with_condition c tree)
ends_gap text c e [] stop tree = e.2 [] tree ∙ at_end e.0 tree ∙ (e.1).last tree ∙ sym (at_end Gap (with_condition c tree))
ends_gap text c e (b ∷ rest) stop tree =
    let closing : step e.0 b ≡ Some (Close c) = rw stop (e.1).space in
    let on : step Gap b ≡ Some (Go Gap) = rw stop refl in
    e.2 (b ∷ rest) tree ∙ close e.0 c b rest tree closing ∙ sym (go Gap Gap b rest (with_condition c tree) on)

and_word : (n : ℕ) (x : List ℕ) (tree : Tree) → run (codes "and" ++ (spaces (suc n) ++ x)) Gap tree ≡ run x Lead tree
and_word n x tree =
    let y = spaces n ++ x in
    go Gap (Word 110 (100 ∷ 32 ∷ []) And) 97 (110 ∷ 100 ∷ 32 ∷ y) tree refl
    ∙ go (Word 110 (100 ∷ 32 ∷ []) And) (Word 100 (32 ∷ []) And) 110 (100 ∷ 32 ∷ y) tree refl
    ∙ go (Word 100 (32 ∷ []) And) (Word 32 [] And) 100 (32 ∷ y) tree refl
    ∙ enter (Word 32 [] And) And 32 y tree refl
    ∙ stay_lead n x tree

or_word : (n : ℕ) (x : List ℕ) (tree : Tree) → run (codes "or" ++ (spaces (suc n) ++ x)) Gap tree ≡ run x Lead (joined Or tree)
or_word n x tree =
    let y = spaces n ++ x in
    go Gap (Word 114 (32 ∷ []) Or) 111 (114 ∷ 32 ∷ y) tree refl
    ∙ go (Word 114 (32 ∷ []) Or) (Word 32 [] Or) 114 (32 ∷ y) tree refl
    ∙ enter (Word 32 [] Or) Or 32 y tree refl
    ∙ stay_lead n x (joined Or tree)

-- the text that a word joins, as it is read
joined_text : (text first word gap later rest x : List ℕ) → text ≡ first ++ (gap ++ (word ++ (later ++ rest)))
    → text ++ x ≡ first ++ (gap ++ (word ++ (later ++ (rest ++ x))))
joined_text text first word gap later rest x e = rw e (simp append_assoc)

abbrev tree_of : List (List Condition) → List Condition → Tree
tree_of done group = record { done = done; group = group }

abbrev with_all : List Condition → Tree → Tree
with_all cs tree = record { done = tree.done; group = tree.group ++ cs }

group_run : (c : Condition) (cs : List Condition) (text : List ℕ) → Joined (codes "and") SpellsComparison text (c ∷ cs)
    → (x : List ℕ) → Stops x → (tree : Tree) → run (text ++ x) Lead tree ≡ run x Gap (with_all (c ∷ cs) tree)
group_run c [] text h x stop tree = ends_gap text c (comparison_run text c h) x stop tree
group_run c (d ∷ more) text (first, before, later, rest, s, others, e) x stop tree =
    let y = rest ++ x in
    let after = codes "and" ++ (spaces (suc later) ++ y) in
    let one = with_condition c tree in
    let same : with_all (d ∷ more) one ≡ with_all (c ∷ d ∷ more) tree =
    ap (tree_of tree.done) (append_assoc tree.group (c ∷ []) (d ∷ more)) in
    ap (λ (t : List ℕ). run t Lead tree) (joined_text text first (codes "and") (spaces (suc before)) (spaces (suc later)) rest x e)
    ∙ ends_gap first c (comparison_run first c s) (spaces (suc before) ++ after) refl tree
    ∙ stay_gap (suc before) after one
    ∙ and_word later y one
    ∙ group_run d more rest others x stop one
    ∙ ap (run x Gap) same

-- all comparisons of an alternative, which has at least one
alternative_run : (g : List Condition) (text : List ℕ) → Joined (codes "and") SpellsComparison text g
    → (x : List ℕ) → Stops x → (done : List (List Condition)) → run (text ++ x) Lead (tree_of done []) ≡ run x Gap (tree_of done g)
alternative_run [] text h x stop done = absurd h
alternative_run (c ∷ cs) text h x stop done = group_run c cs text h x stop (tree_of done [])

-- what is read of a requirement when its last comparison ends
abbrev last_tree : List (List Condition) → List Condition → List (List Condition) → Tree
last_tree done g [] = tree_of done g
last_tree done g (h ∷ more) = last_tree (done ++ g ∷ []) h more

closed-last_tree : (done : List (List Condition)) (g : List Condition) (gs : List (List Condition)) → closed (last_tree done g gs) ≡ done ++ g ∷ gs
closed-last_tree done g [] = refl
closed-last_tree done g (h ∷ more) = closed-last_tree (done ++ g ∷ []) h more ∙ append_assoc done (g ∷ []) (h ∷ more)

all_run : (g : List Condition) (gs : List (List Condition)) (text : List ℕ) → SpellsAlternatives text (g ∷ gs)
    → (x : List ℕ) → Stops x → (done : List (List Condition)) → run (text ++ x) Lead (tree_of done []) ≡ run x Gap (last_tree done g gs)
all_run g [] text h x stop done = alternative_run g text h x stop done
all_run g (k ∷ more) text (first, before, later, rest, s, others, e) x stop done =
    let y = rest ++ x in
    let after = codes "or" ++ (spaces (suc later) ++ y) in
    ap (λ (t : List ℕ). run t Lead (tree_of done [])) (joined_text text first (codes "or") (spaces (suc before)) (spaces (suc later)) rest x e)
    ∙ alternative_run g first s (spaces (suc before) ++ after) refl done
    ∙ stay_gap (suc before) after (tree_of done g)
    ∙ or_word later y (tree_of done g)
    ∙ all_run k more rest others x stop (done ++ g ∷ [])

-- spaces may end a text
end_run : (n : ℕ) (tree : Tree) → run (spaces n) Gap tree ≡ Ok (closed tree)
end_run zero tree = at_end Gap tree
end_run (suc n) tree = go Gap Gap 32 (spaces n) tree refl ∙ end_run n tree

spaces_stop : (n : ℕ) → Stops (spaces n)
spaces_stop zero = tt
spaces_stop (suc n) = refl

abbrev accepted : Alternatives → Result Alternatives ℕ
accepted a = Ok a

ok_same : (a b : Alternatives) → accepted a ≡ accepted b → a ≡ b
ok_same a b e = cc

-- what is spelled is accepted
pub run-Spells : (text : List ℕ) (requirement : Alternatives) → Spells text requirement → run text Lead empty ≡ Ok requirement
run-Spells text [] s = absurd s.3
run-Spells text (g ∷ gs) (before, inner, later, s, e) =
    rw e (stay_lead before (inner ++ spaces later) empty
    ∙ all_run g gs inner s (spaces later) (spaces_stop later) []
    ∙ end_run later (last_tree [] g gs)
    ∙ ap accepted (closed-last_tree [] g gs))

-- no text spells two requirements
pub one_requirement : (text : List ℕ) (a b : Alternatives) → Spells text a → Spells text b → a ≡ b
one_requirement text a b s t = ok_same a b (sym (run-Spells text a s) ∙ run-Spells text b t)

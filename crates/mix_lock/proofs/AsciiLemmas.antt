-- Requirements and digits are bytes.
use Rattle.std.proofs.Common.{◌≡◌, ℕ, zero, suc, ◌<◌, ◌^◌, Bool, true, false, List, [], ◌∷◌, ◌++◌, codes, sym, subst, ⊎_elim, arith}
use Rattle.std.specs.Str.{IsAscii}
use Rattle.std.specs.Fmt.{decimal}
use Rattle.std.proofs.lemmas.Fmt.{IsAscii-decimal}
use Rattle.std.proofs.lemmas.List.Elements.{All-from_recursion}
use Rattle.std.proofs.lemmas.Str.Ascii.{IsAscii-from_all}
use Rattle.hex.specs.Hex.{encode_lower, lower_digits}
use Rattle.hex.proofs.HexLemmas.{IsAscii-encode_with}
use Rattle.semver.specs.Identifiers.{marked}
use Rattle.term_print.specs.Printable.{AreBytes}
use Rattle.term_print.proofs.PrintedBytes.{utf8_bytes}
use Rattle.version_req.specs.declared.operator.Operator.{Operator}
use Rattle.version_req.specs.declared.operator.Operator.TheVariants.{Equal, NotEqual, Greater, GreaterOrEqual, Less, LessOrEqual, Compatible}
use Rattle.version_req.specs.Condition.{Condition, Alternatives}
use Rattle.version_req.specs.Grammar.{IsSpelled, Joined, SpellsAlternatives, SpellsComparison, SpellsOperator, operand_text, operator_text, spaces}
use Rattle.version_req.proofs.Ascii.{pre_utf8, build_utf8}

ascii_bytes : (text : List ℕ) → IsAscii text → AreBytes text
ascii_bytes [] ascii = tt
ascii_bytes (b ∷ text) ascii = (let low : b < 128 = ascii 0 in omega arith, ascii_bytes text (λ i. ascii (suc i)))

bytes_append : (xs ys : List ℕ) → AreBytes xs → AreBytes ys → AreBytes (xs ++ ys)
bytes_append [] ys a b = b
bytes_append (x ∷ xs) ys a b = (a.0, bytes_append xs ys a.1 b)

spaces_bytes : (n : ℕ) → AreBytes (spaces n)
spaces_bytes zero = tt
spaces_bytes (suc n) = (omega arith, spaces_bytes n)

decimal_bytes : (n : ℕ) → n < 2 ^ 64 → AreBytes (decimal n)
decimal_bytes n small = ascii_bytes (decimal n) (IsAscii-decimal n small)

marked_bytes : (mark : ℕ) (text : List ℕ) → mark < 256 → AreBytes text → AreBytes (marked mark text)
marked_bytes mark [] small bytes = tt
marked_bytes mark (b ∷ text) small bytes = (small, bytes)

operator_bytes : (o : Operator) → AreBytes (operator_text o)
operator_bytes Equal = (omega arith, (omega arith, tt))
operator_bytes NotEqual = (omega arith, (omega arith, tt))
operator_bytes Greater = (omega arith, tt)
operator_bytes GreaterOrEqual = (omega arith, (omega arith, tt))
operator_bytes Less = (omega arith, tt)
operator_bytes LessOrEqual = (omega arith, (omega arith, tt))
operator_bytes Compatible = (omega arith, (omega arith, tt))

spelled_operator : (text : List ℕ) (o : Operator) → SpellsOperator text o → AreBytes text
spelled_operator text o spells =
    ⊎_elim (λ (e : text ≡ operator_text o). subst AreBytes (sym e) (operator_bytes o))
    (λ (none : (text ≡ []) × (o ≡ Equal)). subst AreBytes (sym none.0) tt) spells

tail_bytes : (c : Condition) (text : List ℕ) → SpellsComparison text c → AreBytes (marked 45 c.operand.3 ++ marked 43 c.operand.4)
tail_bytes c text spells =
    bytes_append (marked 45 c.operand.3) (marked 43 c.operand.4)
    (marked_bytes 45 c.operand.3 (omega arith) (utf8_bytes c.operand.3 (pre_utf8 c.operand.3 spells.valid.3)))
    (marked_bytes 43 c.operand.4 (omega arith) (utf8_bytes c.operand.4 (build_utf8 c.operand.4 spells.valid.4)))

operand_bytes : (c : Condition) (text : List ℕ) → SpellsComparison text c → (written : Bool) → AreBytes (operand_text written c.operand)
operand_bytes c text spells true =
    let p = c.operand in
    let rest = marked 45 p.3 ++ marked 43 p.4 in
    bytes_append (decimal p.0) (46 ∷ (decimal p.1 ++ (46 ∷ (decimal p.2 ++ rest)))) (decimal_bytes p.0 spells.valid.0) (
      omega arith,
      bytes_append (decimal p.1) (46 ∷ (decimal p.2 ++ rest)) (decimal_bytes p.1 spells.valid.1)
          (omega arith, bytes_append (decimal p.2) rest (decimal_bytes p.2 spells.valid.2) (tail_bytes c text spells)),
    )
operand_bytes c text spells false =
    let p = c.operand in
    let rest = marked 45 p.3 ++ marked 43 p.4 in
    bytes_append (decimal p.0) (46 ∷ (decimal p.1 ++ rest)) (decimal_bytes p.0 spells.valid.0)
    (omega arith, bytes_append (decimal p.1) rest (decimal_bytes p.1 spells.valid.1) (tail_bytes c text spells))

comparison_bytes : (text : List ℕ) (c : Condition) → SpellsComparison text c → AreBytes text
comparison_bytes text c spells =
    let operator = spells.bytes.0 in
    let gap = spells.bytes.1 in
    let operand = operand_text c.patch_written c.operand in
    subst AreBytes (sym spells.bytes.3)
    (bytes_append operator (spaces gap ++ operand) (spelled_operator operator c.operator spells.bytes.2)
    (bytes_append (spaces gap) operand (spaces_bytes gap) (operand_bytes c text spells c.patch_written)))

joined_bytes : {X : Type 0} (word : List ℕ) (Each : List ℕ → X → Type 0) → AreBytes word
    → ((text : List ℕ) (x : X) → Each text x → AreBytes text) → (text : List ℕ) (xs : List X) → Joined word Each text xs
    → AreBytes text
joined_bytes word Each bytes each text [] joined = absurd joined
joined_bytes word Each bytes each text (x ∷ []) joined = each text x joined
joined_bytes word Each bytes each text (x ∷ y ∷ more) joined =
    let first = joined.0 in
    let before = joined.1 in
    let after = joined.2 in
    let rest = joined.3 in
    subst AreBytes (sym joined.6)
    (bytes_append first (spaces (suc before) ++ (word ++ (spaces (suc after) ++ rest))) (each first x joined.4)
    (bytes_append (spaces (suc before)) (word ++ (spaces (suc after) ++ rest)) (spaces_bytes (suc before))
    (bytes_append word (spaces (suc after) ++ rest) bytes
    (bytes_append (spaces (suc after)) rest (spaces_bytes (suc after)) (joined_bytes word Each bytes each rest (y ∷ more) joined.5)))))

alternatives_bytes : (text : List ℕ) (alternatives : Alternatives) → SpellsAlternatives text alternatives → AreBytes text
alternatives_bytes text alternatives =
    joined_bytes (codes "or") (Joined (codes "and") SpellsComparison) (omega arith, (omega arith, tt))
    (joined_bytes (codes "and") SpellsComparison (omega arith, (omega arith, (omega arith, tt))) comparison_bytes) text alternatives

-- the text of a requirement is made of bytes
pub requirement_bytes : (text : List ℕ) → IsSpelled text → AreBytes text
requirement_bytes text spelled =
    let s = spelled.1 in
    subst AreBytes (sym s.4)
    (bytes_append (spaces s.0) (s.1 ++ spaces s.2) (spaces_bytes s.0) (bytes_append s.1 (spaces s.2) (alternatives_bytes s.1 spelled.0 s.3) (spaces_bytes s.2)))

lower_ascii : IsAscii lower_digits
lower_ascii =
    IsAscii-from_all lower_digits (All-from_recursion (λ b. b < 128) lower_digits (
      omega arith,
      (
        omega arith,
        (
          omega arith,
          (
            omega arith,
            (
              omega arith,
              (
                omega arith,
                (
                  omega arith,
                  (
                    omega arith,
                    (omega arith, (omega arith, (omega arith, (omega arith, (omega arith, (omega arith, (omega arith, (omega arith, tt)))))))),
                  ),
                ),
              ),
            ),
          ),
        ),
      ),
    ))

-- and so are hexadecimal digits
pub digit_bytes : (bytes : List ℕ) → AreBytes (encode_lower bytes)
digit_bytes bytes = ascii_bytes (encode_lower bytes) (IsAscii-encode_with lower_digits bytes lower_ascii)

-- Which texts spell which requirement. A version is spelled as SemVer 2.0.0 says, sections 2, 9 and 10,
-- with numbers below 2 ^ 64.
use Rattle.std.specs.Prelude.{◌≡◌, ℕ, suc, ◌⊎◌, Bool, true, false, IsFalse, List, [], ◌∷◌, ◌++◌, replicate, codes}
use Rattle.std.specs.Fmt.{decimal}
use Rattle.semver.specs.Grammar.{IsValid}
use Rattle.semver.specs.Identifiers.{marked, parts_text}
use Rattle.semver.specs.Parse.{Parts}
use Rattle.version_req.specs.declared.operator.Operator.{Operator}
use Rattle.version_req.specs.declared.operator.Operator.TheVariants.{Equal, NotEqual, Greater, GreaterOrEqual, Less, LessOrEqual, Compatible}
use Rattle.version_req.specs.Condition.{Condition, Alternatives}

-- so many spaces
abbrev pub spaces : ℕ → List ℕ
spaces n = replicate n 32

-- the bytes of an operator
abbrev pub operator_text : Operator → List ℕ
operator_text Equal = codes "=="
operator_text NotEqual = codes "!="
operator_text Greater = codes ">"
operator_text GreaterOrEqual = codes ">="
operator_text Less = codes "<"
operator_text LessOrEqual = codes "<="
operator_text Compatible = codes "~>"

-- an operator is written, or `==` is meant by none
abbrev pub SpellsOperator : List ℕ → Operator → Type 0
SpellsOperator text operator = (text ≡ operator_text operator) ⊎ ((text ≡ []) × (operator ≡ Equal))

-- the bytes of a version, with its patch or without
abbrev pub operand_text : Bool → Parts → List ℕ
operand_text true p = parts_text p
operand_text false p = decimal p.0 ++ (46 ∷ (decimal p.1 ++ (marked 45 p.3 ++ marked 43 p.4)))

-- a patch that is left out stands after `~>`, and is 0
abbrev pub MayLackPatch : Condition → Type 0
MayLackPatch c = (c.operator ≡ Compatible) × (c.operand.2 ≡ 0)

-- a comparison is an operator, perhaps spaces, and a version
pub record SpellsComparison (text : List ℕ) (c : Condition) : Type 0 where
  pub valid : IsValid c.operand
  pub patch : IsFalse c.patch_written → MayLackPatch c
  pub bytes : (operator : List ℕ) × (gap : ℕ) × SpellsOperator operator c.operator
      × (text ≡ operator ++ (spaces gap ++ operand_text c.patch_written c.operand))

-- things one after the other, with a word between two of them and at least one space on each side of it
abbrev pub Joined : {X : Type 0} → List ℕ → (List ℕ → X → Type 0) → List ℕ → List X → Type 0
Joined word Each text [] = ⊥
Joined word Each text (x ∷ []) = Each text x
Joined word Each text (x ∷ y ∷ more) =
    (first : List ℕ) × (before : ℕ) × (after : ℕ) × (rest : List ℕ)
    × Each first x × Joined word Each rest (y ∷ more)
    × (text ≡ first ++ (spaces (suc before) ++ (word ++ (spaces (suc after) ++ rest))))

-- comparisons joined by `and`, and these joined by `or`, which so binds less
abbrev pub SpellsAlternatives : List ℕ → Alternatives → Type 0
SpellsAlternatives = Joined (codes "or") (Joined (codes "and") SpellsComparison)

-- a requirement is that, with spaces before and after it
abbrev pub Spells : List ℕ → Alternatives → Type 0
Spells text requirement =
    (before : ℕ) × (inner : List ℕ) × (after : ℕ)
    × SpellsAlternatives inner requirement × (text ≡ spaces before ++ (inner ++ spaces after))

-- a text that spells some requirement
abbrev pub IsSpelled : List ℕ → Type 0
IsSpelled text = (requirement : Alternatives) × Spells text requirement

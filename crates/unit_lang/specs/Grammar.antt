-- What the tokens of a line say.
use Rattle.std.specs.Prelude.{◌≡◌, ℕ, suc, ◌≤◌, List, [], ◌∷◌, ◌++◌, IsTrue, codes, pos}
use Rattle.std.specs.Str.Parse.{digits_value}
use Rattle.mx_base.specs.AppName.{IsAppName}
use Rattle.unit_lang.specs.declared.token.Token.{Token}
use Rattle.unit_lang.specs.declared.token.Token.TheVariants.{Word, Equals, Plus, Minus, Star, Open, Close}
use Rattle.unit_lang.specs.declared.unit.Expression.{Expression}
use Rattle.unit_lang.specs.declared.unit.Expression.TheVariants.{Number, Name, Reference, Add, Subtract, Multiply, Negate}
use Rattle.unit_lang.specs.declared.unit.Statement.{Statement}
use Rattle.unit_lang.specs.declared.unit.Statement.TheVariants.{Use, Let, Export}
use Rattle.unit_lang.specs.Names.{is_name, are_digits}

mutual
  -- an expression: terms joined by `+` and `-` from the left. Parentheses and minus signs nest at most so many
  -- levels deep, and no number is above the greatest
  pub data IsExpression : ℕ → ℕ → List Token → Expression → Type 0 where
    term : {levels most : ℕ} {tokens : List Token} {e : Expression} → IsTerm levels most tokens e → IsExpression levels most tokens e
    add : {levels most : ℕ} {first second : List Token} {left right : Expression} → IsExpression levels most first left → IsTerm levels most second right → IsExpression levels most (first ++ Plus ∷ second) (Add left right)
    subtract : {levels most : ℕ} {first second : List Token} {left right : Expression} → IsExpression levels most first left → IsTerm levels most second right → IsExpression levels most (first ++ Minus ∷ second) (Subtract left right)

  -- a term: factors joined by `*` from the left
  pub data IsTerm : ℕ → ℕ → List Token → Expression → Type 0 where
    factor : {levels most : ℕ} {tokens : List Token} {e : Expression} → IsFactor levels most tokens e → IsTerm levels most tokens e
    multiply : {levels most : ℕ} {first second : List Token} {left right : Expression} → IsTerm levels most first left → IsFactor levels most second right → IsTerm levels most (first ++ Star ∷ second) (Multiply left right)

  pub data IsFactor : ℕ → ℕ → List Token → Expression → Type 0 where
    number : {levels most : ℕ} {digits : List ℕ} → IsTrue (are_digits digits) → digits_value 10 digits ≤ most → IsFactor levels most (Word digits ∷ []) (Number (pos (digits_value 10 digits)))
    name : {levels most : ℕ} {bytes : List ℕ} → IsTrue (is_name bytes) → IsFactor levels most (Word bytes ∷ []) (Name bytes)
    reference : {levels most : ℕ} {unit bytes : List ℕ} → IsTrue (is_name unit) → IsTrue (is_name bytes) → IsFactor levels most (Word (unit ++ 46 ∷ bytes) ∷ []) (Reference unit bytes)
    parentheses : {levels most : ℕ} {tokens : List Token} {e : Expression} → IsExpression levels most tokens e → IsFactor (suc levels) most (Open ∷ tokens ++ Close ∷ []) e
    negate : {levels most : ℕ} {tokens : List Token} {e : Expression} → IsFactor levels most tokens e → IsFactor (suc levels) most (Minus ∷ tokens) (Negate e)

-- the tokens of the lines after the first, but for `warn` lines
pub data IsStatement : ℕ → ℕ → List Token → Statement → Type 0 where
  uses : {levels most : ℕ} {app unit : List ℕ} → IsAppName app → IsTrue (is_name unit) → IsStatement levels most (Word (codes "use") ∷ Word (app ++ 46 ∷ unit) ∷ []) (Use app unit)
  lets : {levels most : ℕ} {bytes : List ℕ} {tokens : List Token} {e : Expression} → IsTrue (is_name bytes) → IsExpression levels most tokens e → IsStatement levels most (Word (codes "let") ∷ Word bytes ∷ Equals ∷ tokens) (Let bytes e)
  exports : {levels most : ℕ} {bytes : List ℕ} → IsTrue (is_name bytes) → IsStatement levels most (Word (codes "export") ∷ Word bytes ∷ []) (Export bytes)

-- the tokens of the first line
abbrev pub IsHeading : List Token → List ℕ → Type 0
IsHeading tokens title = IsTrue (is_name title) × (tokens ≡ Word (codes "unit") ∷ Word title ∷ [])

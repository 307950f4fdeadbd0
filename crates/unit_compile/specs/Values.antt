-- What the lines of a unit have defined, and the values of expressions.
use Rattle.std.specs.Prelude.{ℕ, ℤ, ◌+ℤ◌, ◌-ℤ◌, ◌*ℤ◌, neg_ℤ, List, [], Option, Some, None, option_and_then, Result, Ok, Err, if◌then◌else◌}
use Rattle.unit_lang.specs.declared.unit.Expression.{Expression}
use Rattle.unit_lang.specs.declared.unit.Expression.TheOpen.{Expression-F}
use Rattle.unit_lang.specs.declared.unit.Expression.TheFolds.{fold-Expression}
use Rattle.unit_compile.specs.Faces.{Export, fits}
use Rattle.unit_compile.specs.Said.{dotted, is_unknown, overflow}

-- what is defined at a line
pub record Scope : Type 0 where
  -- the values of names
  pub lets : List ℕ → Option ℤ
  -- for each unit that is used, the values of its exports
  pub used : List ℕ → Option (List ℕ → Option ℤ)
  -- what goes into the face, in the order of names
  pub exports : List Export

abbrev pub empty_scope : Scope
empty_scope = record { lets = λ name. None; used = λ unit. None; exports = [] }

abbrev pub reference_in : Scope → List ℕ → List ℕ → Option ℤ
reference_in scope unit name = option_and_then (λ values. values name) (scope.used unit)

-- a value, or what is said where there is none
abbrev pub known : List ℕ → Option ℤ → Result ℤ (List ℕ)
known name (Some z) = Ok z
known name None = Err (is_unknown name)

abbrev pub within : ℤ → Result ℤ (List ℕ)
within z = if fits z then Ok z else Err overflow

-- an operation on two values. What is wrong on its left is told first
abbrev pub operation : (ℤ → ℤ → ℤ) → Result ℤ (List ℕ) → Result ℤ (List ℕ) → Result ℤ (List ℕ)
operation f (Err said) right = Err said
operation f (Ok x) (Err said) = Err said
operation f (Ok x) (Ok y) = within (f x y)

abbrev pub negated : Result ℤ (List ℕ) → Result ℤ (List ℕ)
negated (Err said) = Err said
negated (Ok z) = within (neg_ℤ z)

-- the value of an expression, or the first that is wrong with it, from the left
abbrev pub value_step : Scope → Expression-F (Result ℤ (List ℕ)) → Result ℤ (List ℕ)
value_step scope (Expression-F.Number z) = Ok z
value_step scope (Expression-F.Name name) = known name (scope.lets name)
value_step scope (Expression-F.Reference unit name) = known (dotted unit name) (reference_in scope unit name)
value_step scope (Expression-F.Add left right) = operation (λ x y. x +ℤ y) left right
value_step scope (Expression-F.Subtract left right) = operation (λ x y. x -ℤ y) left right
value_step scope (Expression-F.Multiply left right) = operation (λ x y. x *ℤ y) left right
value_step scope (Expression-F.Negate inner) = negated inner

abbrev pub value_in : Scope → Expression → Result ℤ (List ℕ)
value_in scope = fold-Expression (Result ℤ (List ℕ)) (value_step scope)

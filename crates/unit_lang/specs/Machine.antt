-- The states of the reader of a line between two tokens. What tokens say is said without them (Grammar.antt).
use Rattle.std.specs.Prelude.{ℕ, Bool, true, false, ◌&&◌, List, [], ◌∷◌, Option, Some, None, option_map, length, codes, if◌then◌else◌}
use Rattle.std.specs.Prelude.{bytes_eq}
use Rattle.mx_base.specs.AppName.{is_app_name}
use Rattle.unit_lang.specs.declared.token.Token.{Token}
use Rattle.unit_lang.specs.declared.token.Token.TheVariants.{Word, Equals, Plus, Minus, Star, Open, Close}
use Rattle.unit_lang.specs.declared.unit.Expression.{Expression}
use Rattle.unit_lang.specs.declared.unit.Expression.TheVariants as expression
use Rattle.unit_lang.specs.declared.unit.Statement.{Statement}
use Rattle.unit_lang.specs.declared.unit.Statement.TheVariants as statement
use Rattle.unit_lang.specs.declared.level.Sum.{Sum}
use Rattle.unit_lang.specs.declared.level.Sum.TheVariants as sum
use Rattle.unit_lang.specs.declared.level.Level.{Level}
use Rattle.unit_lang.specs.declared.level.Hole.{Hole}
use Rattle.unit_lang.specs.declared.level.Hole.TheVariants as hole
use Rattle.unit_lang.specs.declared.state.State.{State}
use Rattle.unit_lang.specs.declared.state.State.TheVariants as state
use Rattle.unit_lang.specs.Names.{is_name}
use Rattle.unit_lang.specs.Lexing.{dotted, operand}

-- a term after a sum
abbrev pub joined : Sum → Expression → Expression
joined sum.Nothing term = term
joined (sum.Plus left) term = expression.Add left term
joined (sum.Minus left) term = expression.Subtract left term

-- a factor after a product
abbrev pub times : Option Expression → Expression → Expression
times None factor = factor
times (Some left) factor = expression.Multiply left factor

-- where nothing was read yet
abbrev pub fresh : Level
fresh = record { sum = sum.Nothing; product = None }

-- a token directly after a factor that no minus sign stands before
abbrev pub after_factor : List ℕ → Sum → Expression → List Hole → Token → Option State
after_factor name s term holes Plus = Some (state.Factor name (record { sum = sum.Plus (joined s term); product = None }) holes)
after_factor name s term holes Minus = Some (state.Factor name (record { sum = sum.Minus (joined s term); product = None }) holes)
after_factor name s term holes Star = Some (state.Factor name (record { sum = s; product = Some term }) holes)
after_factor name s term (hole.Parenthesis outer ∷ holes) Close = Some (state.Operator name outer (joined s term) holes)
after_factor name s term holes token = None

abbrev pub is_minus : Option Hole → Bool
is_minus (Some hole.Minus) = true
is_minus o = false

-- the minus signs before a factor are taken in
abbrev pub settled : Expression → List Hole → Expression × List Hole
settled factor (hole.Minus ∷ holes) = settled (expression.Negate factor) holes
settled factor (hole.Parenthesis outer ∷ holes) = (factor, hole.Parenthesis outer ∷ holes)
settled factor [] = (factor, [])

-- a token directly after a factor
abbrev pub at_settled : List ℕ → Level → Expression × List Hole → Token → Option State
at_settled name level rest token = after_factor name level.sum (times level.product rest.0) rest.1 token

abbrev pub at_operator : List ℕ → Level → Expression → List Hole → Token → Option State
at_operator name level factor holes token = at_settled name level (settled factor holes) token

-- a token where a factor is wanted
abbrev pub at_factor : List ℕ → Level → List Hole → Token → Option State
at_factor name level holes Minus = Some (state.Factor name level (hole.Minus ∷ holes))
at_factor name level holes Open = Some (state.Factor name fresh (hole.Parenthesis level ∷ holes))
at_factor name level holes (Word word) = option_map (λ factor. state.Operator name level factor holes) (operand word)
at_factor name level holes token = None

-- a line's first token
abbrev pub at_start : Token → Option State
at_start (Word word) = if bytes_eq word (codes "let") then Some state.Let else (if bytes_eq word (codes "use") then Some state.Use else (if bytes_eq word (codes "export") then Some state.Export else None))
at_start token = None

-- another app's unit
abbrev pub used : Option (List ℕ × List ℕ) → Option State
used None = None
used (Some parts) = if is_app_name parts.0 && is_name parts.1 then Some (state.Done (statement.Use parts.0 parts.1)) else None

abbrev pub at_use : Token → Option State
at_use (Word word) = used (dotted word)
at_use token = None

abbrev pub at_let : Token → Option State
at_let (Word word) = if is_name word then Some (state.Named word) else None
at_let token = None

abbrev pub at_named : List ℕ → Token → Option State
at_named name Equals = Some (state.Factor name fresh [])
at_named name token = None

abbrev pub at_export : Token → Option State
at_export (Word word) = if is_name word then Some (state.Done (statement.Export word)) else None
at_export token = None

-- one more token
abbrev pub step : State → Token → Option State
step state.Start token = at_start token
step state.Use token = at_use token
step state.Let token = at_let token
step (state.Named name) token = at_named name token
step state.Export token = at_export token
step (state.Factor name level holes) token = at_factor name level holes token
step (state.Operator name level factor holes) token = at_operator name level factor holes token
step (state.Done s) token = None

-- the expression that is whole after a factor
abbrev pub closed : Expression → List Hole → Option Expression
closed e [] = Some e
closed e (hole ∷ holes) = None

abbrev pub whole_settled : Level → Expression × List Hole → Option Expression
whole_settled level rest = closed (joined level.sum (times level.product rest.0)) rest.1

abbrev pub whole : Level → Expression → List Hole → Option Expression
whole level factor holes = whole_settled level (settled factor holes)

-- the statement that is whole
abbrev pub finished : State → Option Statement
finished (state.Done s) = Some s
finished (state.Operator name level factor holes) = option_map (λ e. statement.Let name e) (whole level factor holes)
finished s = None

-- how many parentheses and minus signs are open
abbrev pub depth : State → ℕ
depth (state.Factor name level holes) = length holes
depth (state.Operator name level factor holes) = length holes
depth s = 0

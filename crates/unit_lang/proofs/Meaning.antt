-- What each state of a line's reader still wants of the tokens that follow, said by the grammar.
use Rattle.std.proofs.Common.{◌≡◌, ℕ, suc, ◌+◌, Bool, true, false, List, [], ◌∷◌, ◌++◌, Option, Some, None, length, IsTrue}
use Rattle.mx_base.specs.AppName.{IsAppName}
use Rattle.unit_lang.specs.declared.token.Token.{Token}
use Rattle.unit_lang.specs.declared.token.Token.TheVariants.{Word, Equals, Close}
use Rattle.unit_lang.specs.declared.unit.Expression.{Expression}
use Rattle.unit_lang.specs.declared.unit.Expression.TheVariants.{Negate}
use Rattle.unit_lang.specs.declared.unit.Statement.{Statement}
use Rattle.unit_lang.specs.declared.unit.Statement.TheVariants as statement
use Rattle.unit_lang.specs.declared.level.Sum.{Sum}
use Rattle.unit_lang.specs.declared.level.Level.{Level}
use Rattle.unit_lang.specs.declared.level.Hole.{Hole}
use Rattle.unit_lang.specs.declared.level.Hole.TheVariants as hole
use Rattle.unit_lang.specs.declared.state.State.{State}
use Rattle.unit_lang.specs.declared.state.State.TheVariants as state
use Rattle.unit_lang.specs.Grammar.{IsExpression, IsFactor, IsStatement}
use Rattle.unit_lang.specs.Machine.{times}
use Rattle.unit_lang.specs.Names.{is_name}
use Rattle.unit_lang.proofs.Chain.{Chain}

-- the tokens end a parenthesis, and are what is wanted outside of it
pub record Closes (Outside : Expression → List Token → Type 0) (inner most : ℕ) (s : Sum) (t : Expression) (tokens : List Token) : Type 0 where
  pub part : List Token
  pub rest : List Token
  pub e : Expression
  pub chain : Chain inner most s t part e
  pub split : tokens ≡ part ++ Close ∷ rest
  pub outside : Outside e rest

-- after the factor the tokens make the whole expression u; inside, so many levels may still open
abbrev pub After : ℕ → ℕ → Expression → Level → Expression → List Hole → List Token → Type 0
After inner most u level f (hole.Minus ∷ holes) tokens = After (suc inner) most u level (Negate f) holes tokens
After inner most u level f (hole.Parenthesis outer ∷ holes) tokens = Closes (λ e rest. After (suc inner) most u outer e holes rest) inner most level.sum (times level.product f) tokens
After inner most u level f [] tokens = Chain inner most level.sum (times level.product f) tokens u

-- the tokens are a factor, and what is wanted after it
pub record Factors (inner most : ℕ) (u : Expression) (level : Level) (holes : List Hole) (tokens : List Token) : Type 0 where
  pub word : List Token
  pub rest : List Token
  pub f : Expression
  pub reads : IsFactor inner most word f
  pub split : tokens ≡ word ++ rest
  pub after : After inner most u level f holes rest

-- a value's line, in an expression with so many open levels
pub record Valued (P : ℕ → Expression → Type 0) (name : List ℕ) (levels open_levels : ℕ) (u : Statement) : Type 0 where
  pub inner : ℕ
  pub e : Expression
  pub count : inner + open_levels ≡ levels
  pub wanted : P inner e
  pub is : u ≡ statement.Let name e

pub record UsesRest (tokens : List Token) (u : Statement) : Type 0 where
  pub app : List ℕ
  pub unit : List ℕ
  pub is_app : IsAppName app
  pub is_unit : IsTrue (is_name unit)
  pub split : tokens ≡ Word (app ++ 46 ∷ unit) ∷ []
  pub is : u ≡ statement.Use app unit

pub record LetRest (levels most : ℕ) (tokens : List Token) (u : Statement) : Type 0 where
  pub name : List ℕ
  pub rest : List Token
  pub e : Expression
  pub is_named : IsTrue (is_name name)
  pub reads : IsExpression levels most rest e
  pub split : tokens ≡ Word name ∷ Equals ∷ rest
  pub is : u ≡ statement.Let name e

pub record NamedRest (levels most : ℕ) (name : List ℕ) (tokens : List Token) (u : Statement) : Type 0 where
  pub rest : List Token
  pub e : Expression
  pub reads : IsExpression levels most rest e
  pub split : tokens ≡ Equals ∷ rest
  pub is : u ≡ statement.Let name e

pub record ExportRest (tokens : List Token) (u : Statement) : Type 0 where
  pub name : List ℕ
  pub is_named : IsTrue (is_name name)
  pub split : tokens ≡ Word name ∷ []
  pub is : u ≡ statement.Export name

-- in the state, the tokens make the statement u of the line
abbrev pub Wants : ℕ → ℕ → Statement → State → List Token → Type 0
Wants levels most u state.Start tokens = IsStatement levels most tokens u
Wants levels most u state.Use tokens = UsesRest tokens u
Wants levels most u state.Let tokens = LetRest levels most tokens u
Wants levels most u (state.Named name) tokens = NamedRest levels most name tokens u
Wants levels most u state.Export tokens = ExportRest tokens u
Wants levels most u (state.Factor name level holes) tokens = Valued (λ inner e. Factors inner most e level holes tokens) name levels (length holes) u
Wants levels most u (state.Operator name level f holes) tokens = Valued (λ inner e. After inner most e level f holes tokens) name levels (length holes) u
Wants levels most u (state.Done s) tokens = (tokens ≡ []) × (u ≡ s)

-- where there is a state
abbrev pub WantsNext : ℕ → ℕ → Statement → Option State → List Token → Type 0
WantsNext levels most u None tokens = ⊥
WantsNext levels most u (Some s) tokens = Wants levels most u s tokens

abbrev pub is_let : Statement → Bool
is_let (statement.Let name e) = true
is_let s = false

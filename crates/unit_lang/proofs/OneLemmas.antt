-- A text spells one unit.
use Rattle.std.proofs.Common.{◌≡◌, ℕ, List, [], ◌∷◌, codes, refl, sym, ap, ◌∙◌, subst}
use Rattle.unit_lang.specs.declared.token.Token.{Token}
use Rattle.unit_lang.specs.declared.token.Token.TheVariants.{Word}
use Rattle.unit_lang.specs.declared.unit.Line.{Line}
use Rattle.unit_lang.specs.declared.unit.Statement.{Statement}
use Rattle.unit_lang.specs.declared.unit.Statement.TheVariants as statement
use Rattle.unit_lang.specs.declared.unit.Unit.{Unit as UnitFile}
use Rattle.unit_lang.specs.declared.state.State.TheVariants as state
use Rattle.unit_lang.specs.Grammar.{IsStatement}
use Rattle.unit_lang.specs.Gives.{IsWarning}
use Rattle.unit_lang.specs.Lines.{IsBlankLine, LineTokens, Names, Says, warn, tokens, greatest}
use Rattle.unit_lang.specs.Spells.{Spells, Makes, Body}
use Rattle.unit_lang.specs.Tokens.{without_comment}
use Rattle.unit_lang.proofs.Ends.{wants_end}
use Rattle.unit_lang.proofs.Steps.{statement_one}
use Rattle.unit_lang.proofs.TokenLemmas.{tokens_one}
use Rattle.unit_lang.proofs.WarnLemmas.{warning_one, warning_of, warn_rest_one}

line_tokens_one : (line : List ℕ) (a b : List Token) → LineTokens line a → LineTokens line b → a ≡ b
line_tokens_one line a b p q = tokens_one (without_comment line) a b p.cut q.cut

pub names_one : (line a b : List ℕ) → Names line a → Names line b → a ≡ b
names_one line a b p q =
    let same = line_tokens_one line p.0 q.0 p.1 q.1 in
    let e : Word (codes "unit") ∷ Word a ∷ [] ≡ Word (codes "unit") ∷ Word b ∷ [] = sym p.2.1 ∙ same ∙ q.2.1 in
    cc

says_by : (line : List ℕ) (s t : Statement) → Says line s → Says line t → s ≡ t
says_by line s t (warn {text = a} p) (warn {text = b} q) =
    let same = warn_rest_one line p.rest q.rest p.starts q.starts in
    ap statement.Warn (warning_one q.rest a b (subst (λ r. IsWarning r a) same (warning_of line a p)) (warning_of line b q))
says_by line s t (warn p) (tokens k h) = absurd (k.plain (p.rest, p.starts))
says_by line s t (tokens k h) (warn q) = absurd (k.plain (q.rest, q.starts))
says_by line s t (tokens {tokens = a} k h) (tokens {tokens = b} l g) =
    statement_one 64 b s t (subst (λ x. IsStatement 64 greatest x s) (line_tokens_one line a b k l) h) g

pub says_one : (line : List ℕ) (s t : Statement) → Says line s → Says line t → s ≡ t
says_one = says_by

pub blank_says_nothing : (line : List ℕ) (s : Statement) → IsBlankLine line → Says line s → ⊥
blank_says_nothing line s b (warn p) = b.plain (p.rest, p.starts)
blank_says_nothing line s b (tokens {tokens = all} k h) =
    let e = line_tokens_one line all [] k b in
    let n = wants_end 64 greatest s state.Start (subst (λ x. IsStatement 64 greatest x s) e h) in
    cc

pub blank_names_nothing : (line name : List ℕ) → IsBlankLine line → Names line name → ⊥
blank_names_nothing line name b p =
    let e : [] ≡ Word (codes "unit") ∷ Word name ∷ [] = line_tokens_one line [] p.0 b p.1 ∙ p.2.1 in
    cc

same_line : (number : ℕ) (s t : Statement) (a b : List Line) → s ≡ t → a ≡ b → record { number = number; statement = s } ∷ a ≡ record { number = number; statement = t } ∷ b
same_line number s t a b e f = ap (λ (x : Statement). record { number = number; statement = x } ∷ a) e ∙ ap (λ (l : List Line). record { number = number; statement = t } ∷ l) f

body_one : {number : ℕ} {lines : List (List ℕ)} {a : List Line} (b : List Line) → Body number lines a → Body number lines b → a ≡ b
body_one b Body.end Body.end = refl
body_one b (Body.blank le p h) (Body.blank lf q g) = body_one b h g
body_one b (Body.blank {line = line} le p h) (Body.says {s = t} lf q g) = absurd (blank_says_nothing line t p q)
body_one b (Body.says {line = line} {s = s} le p h) (Body.blank lf q g) = absurd (blank_says_nothing line s q p)
body_one b (Body.says {number = number} {line = line} {said = a} {s = s} le p h) (Body.says {said = c} {s = t} lf q g) = same_line number s t a c (says_one line s t p q) (body_one c h g)

same_unit : (number : ℕ) (m n : List ℕ) (a b : List Line) → m ≡ n → a ≡ b → ◌≡◌ {A = UnitFile} (record { name = m; line = number; lines = a }) (record { name = n; line = number; lines = b })
same_unit number m n a b e f =
    let made : List ℕ → List Line → UnitFile = λ x l. record { name = x; line = number; lines = l } in
    ap (λ x. made x a) e ∙ ap (λ l. made n l) f

makes_one : {number : ℕ} {lines : List (List ℕ)} {u : UnitFile} (v : UnitFile) → Makes number lines u → Makes number lines v → u ≡ v
makes_one v (Makes.blank le p h) (Makes.blank lf q g) = makes_one v h g
makes_one v (Makes.blank {line = line} le p h) (Makes.heading {name = n} lf q g) = absurd (blank_names_nothing line n p q)
makes_one v (Makes.heading {line = line} {name = n} le p h) (Makes.blank lf q g) = absurd (blank_names_nothing line n q p)
makes_one v (Makes.heading {number = number} {line = line} {name = m} {said = a} le p h) (Makes.heading {name = n} {said = b} lf q g) = same_unit number m n a b (names_one line m n p q) (body_one b h g)

-- no text spells two units
pub spells_one : (text : List ℕ) (u v : UnitFile) → Spells text u → Spells text v → u ≡ v
spells_one text u v a b = makes_one v a.makes b.makes

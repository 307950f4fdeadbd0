-- What a state's next state wants, the state wants before the token.
use Rattle.std.proofs.Common.{◌≡◌, ℕ, zero, suc, ◌+◌, ◌≤◌, ◌&&◌, Bool, true, false, List, [], ◌∷◌, ◌++◌, Option, Some, None, cond, length, codes, bytes_eq, refl, sym, ap, ◌∙◌, subst, append_assoc, arith, unwrap_or, is_none, pos}
use Rattle.std.specs.Prelude.{option_map}
use Rattle.std.specs.Str.Parse.{digits_value}
use Rattle.std.proofs.lemmas.Bool.{and_parts, true≢false}
use Rattle.std.proofs.lemmas.Slice.Eq.{bytes_eq-Decides}
use Rattle.mx_base.specs.AppName.{is_app_name}
use Rattle.unit_lang.specs.declared.token.Token.{Token}
use Rattle.unit_lang.specs.declared.token.Token.TheVariants.{Word, Equals, Plus, Minus, Star, Open, Close}
use Rattle.unit_lang.specs.declared.unit.Expression.{Expression}
use Rattle.unit_lang.specs.declared.unit.Expression.TheVariants.{Number, Name, Reference, Negate}
use Rattle.unit_lang.specs.declared.unit.Statement.{Statement}
use Rattle.unit_lang.specs.declared.unit.Statement.TheVariants as statement
use Rattle.unit_lang.specs.declared.level.Sum.{Sum}
use Rattle.unit_lang.specs.declared.level.Level.{Level}
use Rattle.unit_lang.specs.declared.level.Hole.{Hole}
use Rattle.unit_lang.specs.declared.level.Hole.TheVariants as hole
use Rattle.unit_lang.specs.declared.state.State.{State}
use Rattle.unit_lang.specs.declared.state.State.TheVariants as state
use Rattle.unit_lang.specs.Grammar.{IsExpression, IsFactor, IsStatement, uses, lets, exports}
use Rattle.unit_lang.specs.Grammar as grammar
use Rattle.unit_lang.specs.Lexing.{dotted, operand, number_of, too_great}
use Rattle.unit_lang.specs.Machine.{joined, times, fresh, used, at_start, at_use, at_let, at_named, at_export, at_factor, at_operator, after_factor, step, depth}
use Rattle.unit_lang.specs.Names.{is_name, are_digits}
use Rattle.unit_lang.proofs.Chain.{Chain, end, star, plus, minus, head_expression}
use Rattle.unit_lang.proofs.Meaning.{Closes, After, Factors, Valued, UsesRest, LetRest, NamedRest, ExportRest, Wants, WantsNext, is_let}
use Rattle.unit_lang.proofs.StepForth.{after_any}
use Rattle.unit_lang.proofs.WordLemmas.{Operand, number, name, reference, operand_back, app_from_test, dotted_back, number_of_is, NumberIs}

-- a number is at most this
abbrev pub Fits : ℕ → Token → Type 0
Fits most (Word bytes) = are_digits bytes ≡ true → digits_value 10 bytes ≤ most
Fits most token = Unit {0}

-- what the state wants, and that it is the same statement where the number isn't too great
pub record Back (levels most : ℕ) (great : Bool) (u : Statement) (s : State) (tokens : List Token) : Type 0 where
  pub v : Statement
  pub wants : Wants levels most v s tokens
  pub same : great ≡ false → v ≡ u
  pub kind : is_let v ≡ is_let u

back_same : (levels most : ℕ) (great : Bool) (u : Statement) (s : State) (tokens : List Token) → Wants levels most u s tokens → Back levels most great u s tokens
back_same levels most great u s tokens h = record { v = u; wants = h; same = λ _. refl; kind = refl }

start_back : (levels most : ℕ) (u : Statement) (word : List ℕ) (tokens : List Token) (a b c : Bool) → bytes_eq word (codes "let") ≡ a → bytes_eq word (codes "use") ≡ b → bytes_eq word (codes "export") ≡ c → WantsNext levels most u (cond a (Some state.Let) (cond b (Some state.Use) (cond c (Some state.Export) None))) tokens → IsStatement levels most (Word word ∷ tokens) u
start_back levels most u word tokens true b c p q r h =
    rw ((bytes_eq-Decides word (codes "let")).0 p, h.split, h.is) (lets h.is_named h.reads)
start_back levels most u word tokens false true c p q r h =
    rw ((bytes_eq-Decides word (codes "use")).0 q, h.split, h.is) (uses h.is_app h.is_unit)
start_back levels most u word tokens false false true p q r h =
    rw ((bytes_eq-Decides word (codes "export")).0 r, h.split, h.is) (exports h.is_named)
start_back levels most u word tokens false false false p q r h = absurd h

at_start_back : (levels most : ℕ) (u : Statement) (tok : Token) (tokens : List Token) → WantsNext levels most u (at_start tok) tokens → IsStatement levels most (tok ∷ tokens) u
at_start_back levels most u (Word word) tokens h = start_back levels most u word tokens (bytes_eq word (codes "let")) (bytes_eq word (codes "use")) (bytes_eq word (codes "export")) refl refl refl h
at_start_back levels most u Equals tokens h = absurd h
at_start_back levels most u Plus tokens h = absurd h
at_start_back levels most u Minus tokens h = absurd h
at_start_back levels most u Star tokens h = absurd h
at_start_back levels most u Open tokens h = absurd h
at_start_back levels most u Close tokens h = absurd h

used_back : (levels most : ℕ) (u : Statement) (word : List ℕ) (tokens : List Token) (parts : List ℕ × List ℕ) (t : Bool) → (is_app_name parts.0 && is_name parts.1) ≡ t → word ≡ parts.0 ++ 46 ∷ parts.1 → WantsNext levels most u (cond t (Some (state.Done (statement.Use parts.0 parts.1))) None) tokens → UsesRest (Word word ∷ tokens) u
used_back levels most u word tokens parts true t e h =
    let both = and_parts (is_app_name parts.0) (is_name parts.1) t in
    record { app = parts.0; unit = parts.1; is_app = app_from_test parts.0 both.0; is_unit = both.1; split = ap (λ w. Word w ∷ tokens) e ∙ ap (λ l. Word (parts.0 ++ 46 ∷ parts.1) ∷ l) h.0; is = h.1 }
used_back levels most u word tokens parts false t e h = absurd h

use_back : (levels most : ℕ) (u : Statement) (word : List ℕ) (tokens : List Token) (o : Option (List ℕ × List ℕ)) → dotted word ≡ o → WantsNext levels most u (used o) tokens → UsesRest (Word word ∷ tokens) u
use_back levels most u word tokens None e h = absurd h
use_back levels most u word tokens (Some parts) e h = used_back levels most u word tokens parts (is_app_name parts.0 && is_name parts.1) refl (dotted_back word parts e) h

at_use_back : (levels most : ℕ) (u : Statement) (tok : Token) (tokens : List Token) → WantsNext levels most u (at_use tok) tokens → UsesRest (tok ∷ tokens) u
at_use_back levels most u (Word word) tokens h = use_back levels most u word tokens (dotted word) refl h
at_use_back levels most u Equals tokens h = absurd h
at_use_back levels most u Plus tokens h = absurd h
at_use_back levels most u Minus tokens h = absurd h
at_use_back levels most u Star tokens h = absurd h
at_use_back levels most u Open tokens h = absurd h
at_use_back levels most u Close tokens h = absurd h

let_back : (levels most : ℕ) (u : Statement) (word : List ℕ) (tokens : List Token) (t : Bool) → is_name word ≡ t → WantsNext levels most u (cond t (Some (state.Named word)) None) tokens → LetRest levels most (Word word ∷ tokens) u
let_back levels most u word tokens true t h = record { name = word; rest = h.rest; e = h.e; is_named = t; reads = h.reads; split = ap (λ l. Word word ∷ l) h.split; is = h.is }
let_back levels most u word tokens false t h = absurd h

at_let_back : (levels most : ℕ) (u : Statement) (tok : Token) (tokens : List Token) → WantsNext levels most u (at_let tok) tokens → LetRest levels most (tok ∷ tokens) u
at_let_back levels most u (Word word) tokens h = let_back levels most u word tokens (is_name word) refl h
at_let_back levels most u Equals tokens h = absurd h
at_let_back levels most u Plus tokens h = absurd h
at_let_back levels most u Minus tokens h = absurd h
at_let_back levels most u Star tokens h = absurd h
at_let_back levels most u Open tokens h = absurd h
at_let_back levels most u Close tokens h = absurd h

export_back : (levels most : ℕ) (u : Statement) (word : List ℕ) (tokens : List Token) (t : Bool) → is_name word ≡ t → WantsNext levels most u (cond t (Some (state.Done (statement.Export word))) None) tokens → ExportRest (Word word ∷ tokens) u
export_back levels most u word tokens true t h = record { name = word; is_named = t; split = ap (λ l. Word word ∷ l) h.0; is = h.1 }
export_back levels most u word tokens false t h = absurd h

at_export_back : (levels most : ℕ) (u : Statement) (tok : Token) (tokens : List Token) → WantsNext levels most u (at_export tok) tokens → ExportRest (tok ∷ tokens) u
at_export_back levels most u (Word word) tokens h = export_back levels most u word tokens (is_name word) refl h
at_export_back levels most u Equals tokens h = absurd h
at_export_back levels most u Plus tokens h = absurd h
at_export_back levels most u Minus tokens h = absurd h
at_export_back levels most u Star tokens h = absurd h
at_export_back levels most u Open tokens h = absurd h
at_export_back levels most u Close tokens h = absurd h

named_back : (levels most : ℕ) (u : Statement) (title : List ℕ) (tokens : List Token) (k : Valued (λ inner e. Factors inner most e fresh [] tokens) title levels 0 u) → NamedRest levels most title (Equals ∷ tokens) u
named_back levels most u title tokens k =
    let w = k.wanted in
    let all : k.inner ≡ levels = let count = k.count in omega arith in
    let reads : IsExpression levels most (w.word ++ w.rest) k.e = subst (λ l. IsExpression l most (w.word ++ w.rest) k.e) all (head_expression w.reads w.after) in
    record { rest = w.word ++ w.rest; e = k.e; reads = reads; split = ap (λ l. Equals ∷ l) w.split; is = k.is }

at_named_back : (levels most : ℕ) (u : Statement) (title : List ℕ) (tok : Token) (tokens : List Token) → WantsNext levels most u (at_named title tok) tokens → NamedRest levels most title (tok ∷ tokens) u
at_named_back levels most u title (Word word) tokens h = absurd h
at_named_back levels most u title Equals tokens h = named_back levels most u title tokens h
at_named_back levels most u title Plus tokens h = absurd h
at_named_back levels most u title Minus tokens h = absurd h
at_named_back levels most u title Star tokens h = absurd h
at_named_back levels most u title Open tokens h = absurd h
at_named_back levels most u title Close tokens h = absurd h

-- a sign after a factor

sign_back : (title : List ℕ) (levels most : ℕ) (u : Statement) (s : Sum) (t : Expression) (tok : Token) (tokens : List Token) → WantsNext levels most u (after_factor title s t [] tok) tokens → Valued (λ inner e. Chain inner most s t (tok ∷ tokens) e) title levels 0 u
sign_back title levels most u s t Plus tokens k =
    let w = k.wanted in
    record { inner = k.inner; e = k.e; count = k.count; wanted = subst (λ l. Chain k.inner most s t (Plus ∷ l) k.e) (sym w.split) (plus w.reads w.after); is = k.is }
sign_back title levels most u s t Minus tokens k =
    let w = k.wanted in
    record { inner = k.inner; e = k.e; count = k.count; wanted = subst (λ l. Chain k.inner most s t (Minus ∷ l) k.e) (sym w.split) (minus w.reads w.after); is = k.is }
sign_back title levels most u s t Star tokens k =
    let w = k.wanted in
    record { inner = k.inner; e = k.e; count = k.count; wanted = subst (λ l. Chain k.inner most s t (Star ∷ l) k.e) (sym w.split) (star w.reads w.after); is = k.is }
sign_back title levels most u s t (Word word) tokens k = absurd k
sign_back title levels most u s t Equals tokens k = absurd k
sign_back title levels most u s t Open tokens k = absurd k
sign_back title levels most u s t Close tokens k = absurd k

-- one level less may open inside
abbrev Lowered : (ℕ → Expression → Type 0) → List ℕ → ℕ → ℕ → Statement → Type 0
Lowered P title levels open_levels u = Valued (λ inner e. P (suc inner) e) title levels (suc open_levels) u

lowered : (P : ℕ → Expression → Type 0) (title : List ℕ) (levels open_levels : ℕ) (u : Statement) (inner : ℕ) (e : Expression) → suc open_levels ≤ levels → inner + open_levels ≡ levels → P inner e → u ≡ statement.Let title e → Lowered P title levels open_levels u
lowered P title levels open_levels u zero e room count h is = absurd (omega arith)
lowered P title levels open_levels u (suc inner) e room count h is = record { inner = inner; e = e; count = omega arith; wanted = h; is = is }

inside_back : (title : List ℕ) (levels most : ℕ) (u : Statement) (s : Sum) (t : Expression) (outer : Level) (holes : List Hole) (tok : Token) (tokens : List Token) → suc (length holes) ≤ levels → WantsNext levels most u (after_factor title s t (hole.Parenthesis outer ∷ holes) tok) tokens → Valued (λ inner e. Closes (λ f rest. After (suc inner) most e outer f holes rest) inner most s t (tok ∷ tokens)) title levels (suc (length holes)) u
inside_back title levels most u s t outer holes Plus tokens room k =
    let w = k.wanted in
    let a = w.after in
    record { inner = k.inner; e = k.e; count = k.count; is = k.is; wanted = record { part = Plus ∷ w.word ++ a.part; rest = a.rest; e = a.e; chain = plus w.reads a.chain; split = ap (λ l. Plus ∷ l) (w.split ∙ ap (λ l. w.word ++ l) a.split ∙ sym (append_assoc w.word a.part (Close ∷ a.rest))); outside = a.outside } }
inside_back title levels most u s t outer holes Minus tokens room k =
    let w = k.wanted in
    let a = w.after in
    record { inner = k.inner; e = k.e; count = k.count; is = k.is; wanted = record { part = Minus ∷ w.word ++ a.part; rest = a.rest; e = a.e; chain = minus w.reads a.chain; split = ap (λ l. Minus ∷ l) (w.split ∙ ap (λ l. w.word ++ l) a.split ∙ sym (append_assoc w.word a.part (Close ∷ a.rest))); outside = a.outside } }
inside_back title levels most u s t outer holes Star tokens room k =
    let w = k.wanted in
    let a = w.after in
    record { inner = k.inner; e = k.e; count = k.count; is = k.is; wanted = record { part = Star ∷ w.word ++ a.part; rest = a.rest; e = a.e; chain = star w.reads a.chain; split = ap (λ l. Star ∷ l) (w.split ∙ ap (λ l. w.word ++ l) a.split ∙ sym (append_assoc w.word a.part (Close ∷ a.rest))); outside = a.outside } }
inside_back title levels most u s t outer holes Close tokens room k =
    let low = lowered (λ inner e. After inner most e outer (joined s t) holes tokens) title levels (length holes) u k.inner k.e room k.count k.wanted k.is in
    record { inner = low.inner; e = low.e; count = low.count; is = low.is; wanted = record { part = []; rest = tokens; e = joined s t; chain = end; split = refl; outside = low.wanted } }
inside_back title levels most u s t outer holes (Word word) tokens room k = absurd k
inside_back title levels most u s t outer holes Equals tokens room k = absurd k
inside_back title levels most u s t outer holes Open tokens room k = absurd k

operator_back : (title : List ℕ) (levels most : ℕ) (u : Statement) (level : Level) (f : Expression) (holes : List Hole) (tok : Token) (tokens : List Token) → length holes ≤ levels → WantsNext levels most u (at_operator title level f holes tok) tokens → Valued (λ inner e. After inner most e level f holes (tok ∷ tokens)) title levels (length holes) u
operator_back title levels most u level f [] tok tokens room h = sign_back title levels most u level.sum (times level.product f) tok tokens h
operator_back title levels most u level f (hole.Minus ∷ holes) tok tokens room h =
    let k = operator_back title levels most u level (Negate f) holes tok tokens (omega arith) h in
    lowered (λ inner e. After inner most e level (Negate f) holes (tok ∷ tokens)) title levels (length holes) u k.inner k.e room k.count k.wanted k.is
operator_back title levels most u level f (hole.Parenthesis outer ∷ holes) tok tokens room h = inside_back title levels most u level.sum (times level.product f) outer holes tok tokens room h

-- a token where a factor is wanted

word_back : (title : List ℕ) (levels most : ℕ) (great : Bool) (u : Statement) (level : Level) (holes : List Hole) (word : List ℕ) (g : Expression) (tokens : List Token) (inner : ℕ) (e : Expression) → inner + length holes ≡ levels → IsFactor inner most (Word word ∷ []) g → After inner most e level g holes tokens → u ≡ statement.Let title e → Back levels most great u (state.Factor title level holes) (Word word ∷ tokens)
word_back title levels most great u level holes word g tokens inner e count reads h is =
    back_same levels most great u (state.Factor title level holes) (Word word ∷ tokens) (record { inner = inner; e = e; count = count; is = is; wanted = record { word = Word word ∷ []; rest = tokens; f = g; reads = reads; split = refl; after = h } })

number_back : (title : List ℕ) (levels most : ℕ) (u : Statement) (level : Level) (holes : List Hole) (digits : List ℕ) (tokens : List Token) (o : Option ℕ) (inner : ℕ) (e : Expression) → number_of digits ≡ o → are_digits digits ≡ true → digits_value 10 digits ≤ most → NumberIs (digits_value 10 digits) o → inner + length holes ≡ levels → After inner most e level (Number (pos (unwrap_or o 0))) holes tokens → u ≡ statement.Let title e → Back levels most (is_none o) u (state.Factor title level holes) (Word digits ∷ tokens)
number_back title levels most u level holes digits tokens (Some value) inner e o d fits n count h is =
    word_back title levels most false u level holes digits (Number (pos (digits_value 10 digits))) tokens inner e count (grammar.number d fits) (subst (λ v. After inner most e level (Number (pos v)) holes tokens) n.0 h) is
number_back title levels most u level holes digits tokens None inner e o d fits n count h is =
    let other = after_any inner most e level (Number (pos 0)) holes tokens h (Number (pos (digits_value 10 digits))) in
    let k = word_back title levels most true (statement.Let title other.0) level holes digits (Number (pos (digits_value 10 digits))) tokens inner other.0 count (grammar.number d fits) other.1 refl in
    record { v = k.v; wants = k.wants; same = λ t. absurd (true≢false t); kind = k.kind ∙ sym (ap is_let is) }

operand_in : (title : List ℕ) (levels most : ℕ) (u : Statement) (level : Level) (holes : List Hole) {word : List ℕ} {f : Expression} (tokens : List Token) (inner : ℕ) (e : Expression) → Operand word f → Fits most (Word word) → inner + length holes ≡ levels → After inner most e level f holes tokens → u ≡ statement.Let title e → Back levels most (too_great (Word word)) u (state.Factor title level holes) (Word word ∷ tokens)
operand_in title levels most u level holes tokens inner e (number {digits = digits} d) fits count h is =
    rw d (number_back title levels most u level holes digits tokens (number_of digits) inner e refl d (fits d) (number_of_is digits d) count h is)
operand_in title levels most u level holes tokens inner e (name {bytes = bytes} n) fits count h is = word_back title levels most (too_great (Word bytes)) u level holes bytes (Name bytes) tokens inner e count (grammar.name n) h is
operand_in title levels most u level holes tokens inner e (reference {unit = unit} {bytes = bytes} n m) fits count h is = word_back title levels most (too_great (Word (unit ++ 46 ∷ bytes))) u level holes (unit ++ 46 ∷ bytes) (Reference unit bytes) tokens inner e count (grammar.reference n m) h is

operand_at : (title : List ℕ) (levels most : ℕ) (u : Statement) (level : Level) (holes : List Hole) (word : List ℕ) (o : Option Expression) (tokens : List Token) → operand word ≡ o → Fits most (Word word) → WantsNext levels most u (option_map (λ f. state.Operator title level f holes) o) tokens → Back levels most (too_great (Word word)) u (state.Factor title level holes) (Word word ∷ tokens)
operand_at title levels most u level holes word None tokens o fits h = absurd h
operand_at title levels most u level holes word (Some f) tokens o fits h = operand_in title levels most u level holes tokens h.inner h.e (operand_back word f o) fits h.count h.wanted h.is

minus_back : (title : List ℕ) (levels most : ℕ) (u : Statement) (level : Level) (holes : List Hole) (tokens : List Token) → Wants levels most u (state.Factor title level (hole.Minus ∷ holes)) tokens → Wants levels most u (state.Factor title level holes) (Minus ∷ tokens)
minus_back title levels most u level holes tokens h =
    let w = h.wanted in
    let count : suc h.inner + length holes ≡ levels = let c = h.count in omega arith in
    record { inner = suc h.inner; e = h.e; count = count; is = h.is; wanted = record { word = Minus ∷ w.word; rest = w.rest; f = Negate w.f; reads = grammar.negate w.reads; split = ap (λ l. Minus ∷ l) w.split; after = w.after } }

open_back : (title : List ℕ) (levels most : ℕ) (u : Statement) (level : Level) (holes : List Hole) (tokens : List Token) → Wants levels most u (state.Factor title fresh (hole.Parenthesis level ∷ holes)) tokens → Wants levels most u (state.Factor title level holes) (Open ∷ tokens)
open_back title levels most u level holes tokens h =
    let w = h.wanted in
    let a = w.after in
    let count : suc h.inner + length holes ≡ levels = let c = h.count in omega arith in
    let all : tokens ≡ ((w.word ++ a.part) ++ Close ∷ []) ++ a.rest = w.split ∙ ap (λ l. w.word ++ l) a.split ∙ sym (append_assoc w.word a.part (Close ∷ a.rest)) ∙ sym (append_assoc (w.word ++ a.part) (Close ∷ []) a.rest) in
    record { inner = suc h.inner; e = h.e; count = count; is = h.is; wanted = record { word = Open ∷ (w.word ++ a.part) ++ Close ∷ []; rest = a.rest; f = a.e; reads = grammar.parentheses (head_expression w.reads a.chain); split = ap (λ l. Open ∷ l) all; after = a.outside } }

factor_back : (title : List ℕ) (levels most : ℕ) (u : Statement) (level : Level) (holes : List Hole) (tok : Token) (tokens : List Token) → Fits most tok → WantsNext levels most u (at_factor title level holes tok) tokens → Back levels most (too_great tok) u (state.Factor title level holes) (tok ∷ tokens)
factor_back title levels most u level holes (Word word) tokens fits h = operand_at title levels most u level holes word (operand word) tokens refl fits h
factor_back title levels most u level holes Minus tokens fits h = back_same levels most false u (state.Factor title level holes) (Minus ∷ tokens) (minus_back title levels most u level holes tokens h)
factor_back title levels most u level holes Open tokens fits h = back_same levels most false u (state.Factor title level holes) (Open ∷ tokens) (open_back title levels most u level holes tokens h)
factor_back title levels most u level holes Equals tokens fits h = absurd h
factor_back title levels most u level holes Plus tokens fits h = absurd h
factor_back title levels most u level holes Star tokens fits h = absurd h
factor_back title levels most u level holes Close tokens fits h = absurd h

-- what a state's next state wants, the state wants before the token
pub step_back : (levels most : ℕ) (u : Statement) (s : State) (tok : Token) (tokens : List Token) → Fits most tok → depth s ≤ levels → WantsNext levels most u (step s tok) tokens → Back levels most (too_great tok) u s (tok ∷ tokens)
step_back levels most u state.Start tok tokens fits room h = back_same levels most (too_great tok) u state.Start (tok ∷ tokens) (at_start_back levels most u tok tokens h)
step_back levels most u state.Use tok tokens fits room h = back_same levels most (too_great tok) u state.Use (tok ∷ tokens) (at_use_back levels most u tok tokens h)
step_back levels most u state.Let tok tokens fits room h = back_same levels most (too_great tok) u state.Let (tok ∷ tokens) (at_let_back levels most u tok tokens h)
step_back levels most u (state.Named title) tok tokens fits room h = back_same levels most (too_great tok) u (state.Named title) (tok ∷ tokens) (at_named_back levels most u title tok tokens h)
step_back levels most u state.Export tok tokens fits room h = back_same levels most (too_great tok) u state.Export (tok ∷ tokens) (at_export_back levels most u tok tokens h)
step_back levels most u (state.Factor title level holes) tok tokens fits room h = factor_back title levels most u level holes tok tokens fits h
step_back levels most u (state.Operator title level f holes) tok tokens fits room h = back_same levels most (too_great tok) u (state.Operator title level f holes) (tok ∷ tokens) (operator_back title levels most u level f holes tok tokens room h)
step_back levels most u (state.Done s) tok tokens fits room h = absurd h

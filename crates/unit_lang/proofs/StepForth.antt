-- What a state wants, its next state wants after the token.
use Rattle.std.proofs.Common.{◌≡◌, ℕ, suc, ◌+◌, ◌<◌, ◌≤◌, Bool, true, false, List, [], ◌∷◌, ◌++◌, Option, Some, None, cond, length, codes, refl, sym, ap, ◌∙◌, append_assoc, arith, unwrap_or, pos, nat_le}
use Rattle.std.specs.Str.Parse.{digits_value}
use Rattle.std.proofs.lemmas.Bool.{and_from, leb-true, leb-false}
use Rattle.mx_base.specs.AppName.{IsAppName, is_app_name}
use Rattle.unit_lang.specs.declared.token.Token.{Token}
use Rattle.unit_lang.specs.declared.token.Token.TheVariants.{Word, Equals, Plus, Minus, Star, Open, Close}
use Rattle.unit_lang.specs.declared.unit.Expression.{Expression}
use Rattle.unit_lang.specs.declared.unit.Expression.TheVariants.{Number, Name, Reference, Multiply, Negate}
use Rattle.unit_lang.specs.declared.unit.Statement.{Statement}
use Rattle.unit_lang.specs.declared.unit.Statement.TheVariants as statement
use Rattle.unit_lang.specs.declared.level.Sum.{Sum}
use Rattle.unit_lang.specs.declared.level.Sum.TheVariants as sum
use Rattle.unit_lang.specs.declared.level.Level.{Level}
use Rattle.unit_lang.specs.declared.level.Hole.{Hole}
use Rattle.unit_lang.specs.declared.level.Hole.TheVariants as hole
use Rattle.unit_lang.specs.declared.state.State.{State}
use Rattle.unit_lang.specs.declared.state.State.TheVariants as state
use Rattle.unit_lang.specs.Grammar.{IsExpression, IsFactor, number, name, reference, parentheses, negate, IsStatement, uses, lets, exports}
use Rattle.unit_lang.specs.Lexing.{operand, number_of}
use Rattle.unit_lang.specs.Lines.{greatest}
use Rattle.unit_lang.specs.Machine.{joined, times, fresh, used, at_start, at_use, at_let, at_named, at_export, at_factor, at_operator, after_factor, step}
use Rattle.unit_lang.specs.Names.{is_name, are_digits}
use Rattle.unit_lang.proofs.Chain.{Chain, end, star, plus, minus, Head, expression_head}
use Rattle.unit_lang.proofs.Meaning.{After, Factors, UsesRest, LetRest, NamedRest, ExportRest, Wants, WantsNext, is_let}
use Rattle.unit_lang.proofs.WordLemmas.{operand_number, operand_name, operand_reference, app_dotted, app_test, number_kept}

-- another expression for the same tokens, after any term
pub chain_any : {inner most : ℕ} {s : Sum} {t e : Expression} {tokens : List Token} → Chain inner most s t tokens e → (s' : Sum) (t' : Expression) → (e' : Expression) × Chain inner most s' t' tokens e'
chain_any end s' t' = (joined s' t', end)
chain_any (star {f = f} h c) s' t' = let k = chain_any c s' (Multiply t' f) in (k.0, star h k.1)
chain_any (plus {f = f} h c) s' t' = let k = chain_any c (sum.Plus (joined s' t')) f in (k.0, plus h k.1)
chain_any (minus {f = f} h c) s' t' = let k = chain_any c (sum.Minus (joined s' t')) f in (k.0, minus h k.1)

pub after_any : (inner most : ℕ) (u : Expression) (level : Level) (f : Expression) (holes : List Hole) (tokens : List Token) → After inner most u level f holes tokens → (g : Expression) → (v : Expression) × After inner most v level g holes tokens
after_any inner most u level f [] tokens h g = chain_any h level.sum (times level.product g)
after_any inner most u level f (hole.Minus ∷ holes) tokens h g = after_any (suc inner) most u level (Negate f) holes tokens h (Negate g)
after_any inner most u level f (hole.Parenthesis outer ∷ holes) tokens h g =
    let k = chain_any h.chain level.sum (times level.product g) in
    let o = after_any (suc inner) most u outer h.e holes h.rest h.outside k.0 in
    (o.0, record { part = h.part; rest = h.rest; e = k.0; chain = k.1; split = h.split; outside = o.1 })

-- what the next state wants, and that it is the same statement where no number is too great
pub record Forth (levels most : ℕ) (u : Statement) (o : Option State) (tokens : List Token) : Type 0 where
  pub v : Statement
  pub wants : WantsNext levels most v o tokens
  pub same : most ≤ greatest → v ≡ u
  pub kind : is_let v ≡ is_let u

forth_same : (levels most : ℕ) (u : Statement) (o : Option State) (tokens : List Token) → WantsNext levels most u o tokens → Forth levels most u o tokens
forth_same levels most u o tokens h = record { v = u; wants = h; same = λ _. refl; kind = refl }

count_in : (inner open_levels levels : ℕ) → inner + suc open_levels ≡ levels → suc inner + open_levels ≡ levels
count_in inner open_levels levels e = omega arith

chain_at_end : (title : List ℕ) (levels inner most : ℕ) (s : Sum) (t e : Expression) (tok : Token) (tokens : List Token) {all : List Token} → inner + 0 ≡ levels → Chain inner most s t all e → all ≡ tok ∷ tokens → WantsNext levels most (statement.Let title e) (after_factor title s t [] tok) tokens
chain_at_end title levels inner most s t e tok tokens count end split = absurd (cc)
chain_at_end title levels inner most s t e tok tokens count (star {f = f} {word = word} {more = more} h c) split =
    let e1 : tok ≡ Star = cc in
    let e2 : tokens ≡ word ++ more = cc in
    rw e1 (record { inner = inner; e = e; count = count; wanted = record { word = word; rest = more; f = f; reads = h; split = e2; after = c }; is = refl })
chain_at_end title levels inner most s t e tok tokens count (plus {f = f} {word = word} {more = more} h c) split =
    let e1 : tok ≡ Plus = cc in
    let e2 : tokens ≡ word ++ more = cc in
    rw e1 (record { inner = inner; e = e; count = count; wanted = record { word = word; rest = more; f = f; reads = h; split = e2; after = c }; is = refl })
chain_at_end title levels inner most s t e tok tokens count (minus {f = f} {word = word} {more = more} h c) split =
    let e1 : tok ≡ Minus = cc in
    let e2 : tokens ≡ word ++ more = cc in
    rw e1 (record { inner = inner; e = e; count = count; wanted = record { word = word; rest = more; f = f; reads = h; split = e2; after = c }; is = refl })

closes_at : (title : List ℕ) (levels inner most : ℕ) (u : Expression) (s : Sum) (t : Expression) (outer : Level) (holes : List Hole) (tok : Token) (tokens : List Token) {part : List Token} (rest : List Token) (e : Expression) → inner + suc (length holes) ≡ levels → Chain inner most s t part e → tok ∷ tokens ≡ part ++ Close ∷ rest → After (suc inner) most u outer e holes rest → WantsNext levels most (statement.Let title u) (after_factor title s t (hole.Parenthesis outer ∷ holes) tok) tokens
closes_at title levels inner most u s t outer holes tok tokens rest e count end split outside =
    let e1 : tok ≡ Close = cc in
    let e2 : tokens ≡ rest = cc in
    rw (e1, e2) (record { inner = suc inner; e = u; count = count_in inner (length holes) levels count; wanted = outside; is = refl })
closes_at title levels inner most u s t outer holes tok tokens rest e count (star {f = f} {word = word} {more = more} h c) split outside =
    let e1 : tok ≡ Star = cc in
    let e2 : tokens ≡ (word ++ more) ++ Close ∷ rest = cc in
    rw e1 (record { inner = inner; e = u; count = count; wanted = record { word = word; rest = more ++ Close ∷ rest; f = f; reads = h; split = e2 ∙ append_assoc word more (Close ∷ rest); after = record { part = more; rest = rest; e = e; chain = c; split = refl; outside = outside } }; is = refl })
closes_at title levels inner most u s t outer holes tok tokens rest e count (plus {f = f} {word = word} {more = more} h c) split outside =
    let e1 : tok ≡ Plus = cc in
    let e2 : tokens ≡ (word ++ more) ++ Close ∷ rest = cc in
    rw e1 (record { inner = inner; e = u; count = count; wanted = record { word = word; rest = more ++ Close ∷ rest; f = f; reads = h; split = e2 ∙ append_assoc word more (Close ∷ rest); after = record { part = more; rest = rest; e = e; chain = c; split = refl; outside = outside } }; is = refl })
closes_at title levels inner most u s t outer holes tok tokens rest e count (minus {f = f} {word = word} {more = more} h c) split outside =
    let e1 : tok ≡ Minus = cc in
    let e2 : tokens ≡ (word ++ more) ++ Close ∷ rest = cc in
    rw e1 (record { inner = inner; e = u; count = count; wanted = record { word = word; rest = more ++ Close ∷ rest; f = f; reads = h; split = e2 ∙ append_assoc word more (Close ∷ rest); after = record { part = more; rest = rest; e = e; chain = c; split = refl; outside = outside } }; is = refl })

operator_forth : (title : List ℕ) (levels inner most : ℕ) (u : Expression) (level : Level) (f : Expression) (holes : List Hole) (tok : Token) (tokens : List Token) → inner + length holes ≡ levels → After inner most u level f holes (tok ∷ tokens) → WantsNext levels most (statement.Let title u) (at_operator title level f holes tok) tokens
operator_forth title levels inner most u level f [] tok tokens count h = chain_at_end title levels inner most level.sum (times level.product f) u tok tokens count h refl
operator_forth title levels inner most u level f (hole.Minus ∷ holes) tok tokens count h = operator_forth title levels (suc inner) most u level (Negate f) holes tok tokens (count_in inner (length holes) levels count) h
operator_forth title levels inner most u level f (hole.Parenthesis outer ∷ holes) tok tokens count h = closes_at title levels inner most u level.sum (times level.product f) outer holes tok tokens h.rest h.e count h.chain h.split h.outside

-- an expression is wanted where its first factor is
expression_forth : (levels inner most : ℕ) (level : Level) (holes : List Hole) (u : Expression) (rest : List Token) {e : Expression} {tokens : List Token} → IsExpression inner most tokens e → ((k : Head inner most tokens e) → After inner most u level k.f holes (k.rest ++ rest)) → Factors inner most u level holes (tokens ++ rest)
expression_forth levels inner most level holes u rest h after =
    let k = expression_head h in
    record { word = k.word; rest = k.rest ++ rest; f = k.f; reads = k.reads; split = ap (λ l. l ++ rest) k.split ∙ append_assoc k.word k.rest rest; after = after k }

word_forth : (title : List ℕ) (levels inner most : ℕ) (u : Expression) (level : Level) (holes : List Hole) (word : List ℕ) (f : Expression) (tokens : List Token) → inner + length holes ≡ levels → operand word ≡ Some f → After inner most u level f holes tokens → WantsNext levels most (statement.Let title u) (at_factor title level holes (Word word)) tokens
word_forth title levels inner most u level holes word f tokens count o h = rw o (record { inner = inner; e = u; count = count; wanted = h; is = refl })

number_by : (title : List ℕ) (levels inner most : ℕ) (u : Expression) (level : Level) (holes : List Hole) (digits : List ℕ) (tokens : List Token) (total kept : ℕ) (fits : Bool) → nat_le total greatest ≡ fits → inner + length holes ≡ levels → total ≤ most → (total ≤ greatest → kept ≡ total) → After inner most u level (Number (pos total)) holes tokens → operand digits ≡ Some (Number (pos kept)) → Forth levels most (statement.Let title u) (at_factor title level holes (Word digits)) tokens
number_by title levels inner most u level holes digits tokens total kept true fits count small keeps h o =
    let same : operand digits ≡ Some (Number (pos total)) = o ∙ ap (λ n. Some (Number (pos n))) (keeps (leb-true total greatest fits)) in
    forth_same levels most (statement.Let title u) (at_factor title level holes (Word digits)) tokens (word_forth title levels inner most u level holes digits (Number (pos total)) tokens count same h)
number_by title levels inner most u level holes digits tokens total kept false fits count small keeps h o =
    let other = after_any inner most u level (Number (pos total)) holes tokens h (Number (pos kept)) in
    let great : greatest < total = leb-false total greatest fits in
    record { v = statement.Let title other.0; wants = word_forth title levels inner most other.0 level holes digits (Number (pos kept)) tokens count o other.1; same = λ le. absurd (omega arith); kind = refl }

number_forth : (title : List ℕ) (levels inner most : ℕ) (u : Expression) (level : Level) (holes : List Hole) (digits : List ℕ) (tokens : List Token) → inner + length holes ≡ levels → are_digits digits ≡ true → digits_value 10 digits ≤ most → After inner most u level (Number (pos (digits_value 10 digits))) holes tokens → Forth levels most (statement.Let title u) (at_factor title level holes (Word digits)) tokens
number_forth title levels inner most u level holes digits tokens count d small h =
    number_by title levels inner most u level holes digits tokens (digits_value 10 digits) (unwrap_or (number_of digits) 0) (nat_le (digits_value 10 digits) greatest) refl count small (number_kept digits d) h (operand_number digits d)

factor_forth : (title : List ℕ) (levels inner most : ℕ) (u : Expression) (level : Level) (holes : List Hole) (tok : Token) (tokens : List Token) {word : List Token} {f : Expression} (rest : List Token) → inner + length holes ≡ levels → IsFactor inner most word f → tok ∷ tokens ≡ word ++ rest → After inner most u level f holes rest → Forth levels most (statement.Let title u) (at_factor title level holes tok) tokens
factor_forth title levels inner most u level holes tok tokens rest count (number {digits = digits} d small) split h =
    let e1 : tok ≡ Word digits = cc in
    let e2 : tokens ≡ rest = cc in
    rw (e1, e2) (number_forth title levels inner most u level holes digits rest count d small h)
factor_forth title levels inner most u level holes tok tokens rest count (name {bytes = bytes} n) split h =
    let e1 : tok ≡ Word bytes = cc in
    let e2 : tokens ≡ rest = cc in
    rw (e1, e2) (forth_same levels most (statement.Let title u) (at_factor title level holes (Word bytes)) rest (word_forth title levels inner most u level holes bytes (Name bytes) rest count (operand_name bytes n) h))
factor_forth title levels inner most u level holes tok tokens rest count (reference {unit = unit} {bytes = bytes} n m) split h =
    let e1 : tok ≡ Word (unit ++ 46 ∷ bytes) = cc in
    let e2 : tokens ≡ rest = cc in
    rw (e1, e2) (forth_same levels most (statement.Let title u) (at_factor title level holes (Word (unit ++ 46 ∷ bytes))) rest (word_forth title levels inner most u level holes (unit ++ 46 ∷ bytes) (Reference unit bytes) rest count (operand_reference unit bytes n m) h))
factor_forth title levels inner most u level holes tok tokens rest count (parentheses {levels = below} {tokens = within} {e = e} reads) split h =
    let e1 : tok ≡ Open = cc in
    let e2 : tokens ≡ (within ++ Close ∷ []) ++ rest = cc in
    let e3 : tokens ≡ within ++ Close ∷ rest = e2 ∙ append_assoc within (Close ∷ []) rest in
    rw (e1, e3) (forth_same levels most (statement.Let title u) (Some (state.Factor title fresh (hole.Parenthesis level ∷ holes))) (within ++ Close ∷ rest)
    (record { inner = below; e = u; count = omega arith; wanted = expression_forth levels below most fresh (hole.Parenthesis level ∷ holes) u (Close ∷ rest) reads (λ k. record { part = k.rest; rest = rest; e = e; chain = k.chain; split = refl; outside = h }); is = refl }))
factor_forth title levels inner most u level holes tok tokens rest count (negate {levels = below} {tokens = within} {e = e} reads) split h =
    let e1 : tok ≡ Minus = cc in
    let e2 : tokens ≡ within ++ rest = cc in
    rw e1 (forth_same levels most (statement.Let title u) (Some (state.Factor title level (hole.Minus ∷ holes))) tokens
    (record { inner = below; e = u; count = omega arith; wanted = record { word = within; rest = rest; f = e; reads = reads; split = e2; after = h }; is = refl }))

start_forth : (levels most : ℕ) {u : Statement} (tok : Token) (tokens : List Token) {all : List Token} → IsStatement levels most all u → all ≡ tok ∷ tokens → WantsNext levels most u (at_start tok) tokens
start_forth levels most tok tokens (uses {app = app} {unit = unit} is_app is_unit) split =
    let e1 : tok ≡ Word (codes "use") = cc in
    let e2 : tokens ≡ Word (app ++ 46 ∷ unit) ∷ [] = cc in
    rw e1 (record { app = app; unit = unit; is_app = is_app; is_unit = is_unit; split = e2; is = refl })
start_forth levels most tok tokens (lets {bytes = bytes} {tokens = rest} {e = e} is_named reads) split =
    let e1 : tok ≡ Word (codes "let") = cc in
    let e2 : tokens ≡ Word bytes ∷ Equals ∷ rest = cc in
    rw e1 (record { name = bytes; rest = rest; e = e; is_named = is_named; reads = reads; split = e2; is = refl })
start_forth levels most tok tokens (exports {bytes = bytes} is_named) split =
    let e1 : tok ≡ Word (codes "export") = cc in
    let e2 : tokens ≡ Word bytes ∷ [] = cc in
    rw e1 (record { name = bytes; is_named = is_named; split = e2; is = refl })

used_is : (app unit : List ℕ) → IsAppName app → is_name unit ≡ true → used (Some (app, unit)) ≡ Some (state.Done (statement.Use app unit))
used_is app unit a n = ap (λ t. cond t (Some (state.Done (statement.Use app unit))) None) (and_from (is_app_name app) (is_name unit) (app_test app a) n)

use_forth : (levels most : ℕ) (u : Statement) (tok : Token) (tokens : List Token) → UsesRest (tok ∷ tokens) u → WantsNext levels most u (at_use tok) tokens
use_forth levels most u tok tokens h =
    let e1 : tok ≡ Word (h.app ++ 46 ∷ h.unit) = let split = h.split in cc in
    let e2 : tokens ≡ [] = let split = h.split in cc in
    let next : at_use tok ≡ Some (state.Done (statement.Use h.app h.unit)) = ap at_use e1 ∙ ap used (app_dotted h.app h.unit h.is_app) ∙ used_is h.app h.unit h.is_app h.is_unit in
    rw next (e2, h.is)

let_forth : (levels most : ℕ) (u : Statement) (tok : Token) (tokens : List Token) → LetRest levels most (tok ∷ tokens) u → WantsNext levels most u (at_let tok) tokens
let_forth levels most u tok tokens h =
    let e1 : tok ≡ Word h.name = let split = h.split in cc in
    let e2 : tokens ≡ Equals ∷ h.rest = let split = h.split in cc in
    let next : at_let tok ≡ Some (state.Named h.name) = ap at_let e1 ∙ ap (λ t. cond t (Some (state.Named h.name)) None) h.is_named in
    rw next (record { rest = h.rest; e = h.e; reads = h.reads; split = e2; is = h.is })

named_forth : (levels most : ℕ) (u : Statement) (title : List ℕ) (tok : Token) (tokens : List Token) → NamedRest levels most title (tok ∷ tokens) u → WantsNext levels most u (at_named title tok) tokens
named_forth levels most u title tok tokens h =
    let e1 : tok ≡ Equals = let split = h.split in cc in
    let e2 : tokens ≡ h.rest = let split = h.split in cc in
    let k = expression_head h.reads in
    rw e1 (record { inner = levels; e = h.e; count = omega arith; wanted = record { word = k.word; rest = k.rest; f = k.f; reads = k.reads; split = e2 ∙ k.split; after = k.chain }; is = h.is })

export_forth : (levels most : ℕ) (u : Statement) (tok : Token) (tokens : List Token) → ExportRest (tok ∷ tokens) u → WantsNext levels most u (at_export tok) tokens
export_forth levels most u tok tokens h =
    let e1 : tok ≡ Word h.name = let split = h.split in cc in
    let e2 : tokens ≡ [] = let split = h.split in cc in
    let next : at_export tok ≡ Some (state.Done (statement.Export h.name)) = ap at_export e1 ∙ ap (λ t. cond t (Some (state.Done (statement.Export h.name))) None) h.is_named in
    rw next (e2, h.is)

-- what a state wants, its next state wants after the token
pub step_forth : (levels most : ℕ) (u : Statement) (s : State) (tok : Token) (tokens : List Token) → Wants levels most u s (tok ∷ tokens) → Forth levels most u (step s tok) tokens
step_forth levels most u state.Start tok tokens h = forth_same levels most u (at_start tok) tokens (start_forth levels most tok tokens h refl)
step_forth levels most u state.Use tok tokens h = forth_same levels most u (at_use tok) tokens (use_forth levels most u tok tokens h)
step_forth levels most u state.Let tok tokens h = forth_same levels most u (at_let tok) tokens (let_forth levels most u tok tokens h)
step_forth levels most u (state.Named title) tok tokens h = forth_same levels most u (at_named title tok) tokens (named_forth levels most u title tok tokens h)
step_forth levels most u state.Export tok tokens h = forth_same levels most u (at_export tok) tokens (export_forth levels most u tok tokens h)
step_forth levels most u (state.Factor title level holes) tok tokens h =
    let w = h.wanted in
    let k = factor_forth title levels h.inner most h.e level holes tok tokens w.rest h.count w.reads w.split w.after in
    record { v = k.v; wants = k.wants; same = λ le. k.same le ∙ sym h.is; kind = k.kind ∙ sym (ap is_let h.is) }
step_forth levels most u (state.Operator title level f holes) tok tokens h =
    rw h.is (forth_same levels most (statement.Let title h.e) (at_operator title level f holes tok) tokens (operator_forth title levels h.inner most h.e level f holes tok tokens h.count h.wanted))
step_forth levels most u (state.Done s) tok tokens h = absurd (let e = h.0 in cc)

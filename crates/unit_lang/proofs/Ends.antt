-- Where a state wants nothing more, and how the line of each state can be completed.
use Rattle.std.proofs.Common.{◌≡◌, ℕ, suc, ◌+◌, ◌<◌, ◌≤◌, Bool, true, false, List, [], ◌∷◌, ◌++◌, Option, Some, None, length, codes, refl, sym, ap, ◌∙◌, subst, arith}
use Rattle.std.specs.Prelude.{option_map}
use Rattle.std.proofs.lemmas.Bool.{false≢true}
use Rattle.unit_lang.specs.declared.token.Token.{Token}
use Rattle.unit_lang.specs.declared.token.Token.TheVariants.{Word, Equals, Close}
use Rattle.unit_lang.specs.declared.unit.Expression.{Expression}
use Rattle.unit_lang.specs.declared.unit.Expression.TheVariants.{Name, Negate}
use Rattle.unit_lang.specs.declared.unit.Statement.{Statement}
use Rattle.unit_lang.specs.declared.unit.Statement.TheVariants as statement
use Rattle.unit_lang.specs.declared.level.Sum.{Sum}
use Rattle.unit_lang.specs.declared.level.Level.{Level}
use Rattle.unit_lang.specs.declared.level.Hole.{Hole}
use Rattle.unit_lang.specs.declared.level.Hole.TheVariants as hole
use Rattle.unit_lang.specs.declared.state.State.{State}
use Rattle.unit_lang.specs.declared.state.State.TheVariants as state
use Rattle.unit_lang.specs.Grammar.{term, factor, IsFactor, number, name, reference, parentheses, negate, IsStatement, uses, lets, exports}
use Rattle.unit_lang.specs.Machine.{joined, times, whole, finished, depth}
use Rattle.unit_lang.proofs.Chain.{Chain, end, star, plus, minus}
use Rattle.unit_lang.proofs.Meaning.{After, Wants, is_let}

not_end : (part rest : List Token) (tok : Token) → [] ≡ part ++ tok ∷ rest → ⊥
not_end [] rest tok e = cc
not_end (t ∷ part) rest tok e = cc

chain_ends : {inner most : ℕ} {s : Sum} {t e : Expression} {tokens : List Token} → Chain inner most s t tokens e → tokens ≡ [] → e ≡ joined s t
chain_ends end split = refl
chain_ends (star h c) split = absurd (cc)
chain_ends (plus h c) split = absurd (cc)
chain_ends (minus h c) split = absurd (cc)

after_ends : (inner most : ℕ) (u : Expression) (level : Level) (f : Expression) (holes : List Hole) → After inner most u level f holes [] → whole level f holes ≡ Some u
after_ends inner most u level f [] h = ap Some (sym (chain_ends h refl))
after_ends inner most u level f (hole.Minus ∷ holes) h = after_ends (suc inner) most u level (Negate f) holes h
after_ends inner most u level f (hole.Parenthesis outer ∷ holes) h = absurd (not_end h.part h.rest Close h.split)

not_nothing : {inner most : ℕ} {word : List Token} {f : Expression} (rest : List Token) → IsFactor inner most word f → [] ≡ word ++ rest → ⊥
not_nothing rest (number d n) e = cc
not_nothing rest (name n) e = cc
not_nothing rest (reference n m) e = cc
not_nothing rest (parentheses h) e = cc
not_nothing rest (negate h) e = cc

start_ends : {levels most : ℕ} {u : Statement} {tokens : List Token} → IsStatement levels most tokens u → tokens ≡ [] → ⊥
start_ends (uses a n) e = cc
start_ends (lets n h) e = cc
start_ends (exports n) e = cc

-- where nothing more is wanted, the statement is whole
pub wants_end : (levels most : ℕ) (u : Statement) (s : State) → Wants levels most u s [] → finished s ≡ Some u
wants_end levels most u state.Start h = absurd (start_ends h refl)
wants_end levels most u state.Use h = absurd (let e = h.split in cc)
wants_end levels most u state.Let h = absurd (let e = h.split in cc)
wants_end levels most u (state.Named title) h = absurd (let e = h.split in cc)
wants_end levels most u state.Export h = absurd (let e = h.split in cc)
wants_end levels most u (state.Factor title level holes) h = absurd (let w = h.wanted in not_nothing w.rest w.reads w.split)
wants_end levels most u (state.Operator title level f holes) h = ap (option_map (λ e. statement.Let title e)) (after_ends h.inner most h.e level f holes h.wanted) ∙ ap Some (sym h.is)
wants_end levels most u (state.Done s) h = ap Some (sym h.1)

after_whole : (inner most : ℕ) (u : Expression) (level : Level) (f : Expression) (holes : List Hole) → whole level f holes ≡ Some u → After inner most u level f holes []
after_whole inner most u level f [] h =
    let e : joined level.sum (times level.product f) ≡ u = cc in
    subst (λ v. Chain inner most level.sum (times level.product f) [] v) e end
after_whole inner most u level f (hole.Minus ∷ holes) h = after_whole (suc inner) most u level (Negate f) holes h
after_whole inner most u level f (hole.Parenthesis outer ∷ holes) h = absurd (cc)

operator_whole : (levels most : ℕ) (u : Statement) (title : List ℕ) (level : Level) (f : Expression) (holes : List Hole) (o : Option Expression) (inner : ℕ) → inner + length holes ≡ levels → whole level f holes ≡ o → option_map (λ e. statement.Let title e) o ≡ Some u → Wants levels most u (state.Operator title level f holes) []
operator_whole levels most u title level f holes None inner count w e = absurd (cc)
operator_whole levels most u title level f holes (Some v) inner count w e =
    let is : statement.Let title v ≡ u = cc in
    record { inner = inner; e = v; count = count; is = sym is; wanted = after_whole inner most v level f holes w }

-- a whole statement wants nothing more
pub finished_wants : (levels most : ℕ) (u : Statement) (s : State) (inner : ℕ) → inner + depth s ≡ levels → finished s ≡ Some u → Wants levels most u s []
finished_wants levels most u state.Start inner room e = absurd (cc)
finished_wants levels most u state.Use inner room e = absurd (cc)
finished_wants levels most u state.Let inner room e = absurd (cc)
finished_wants levels most u (state.Named title) inner room e = absurd (cc)
finished_wants levels most u state.Export inner room e = absurd (cc)
finished_wants levels most u (state.Factor title level holes) inner room e = absurd (cc)
finished_wants levels most u (state.Operator title level f holes) inner room e = operator_whole levels most u title level f holes (whole level f holes) inner room refl e
finished_wants levels most u (state.Done s) inner room e = let same : s ≡ u = cc in (refl, sym same)

-- completing the line

-- the state is inside of a `let` line
abbrev pub can_let : State → Bool
can_let state.Use = false
can_let state.Export = false
can_let (state.Done s) = is_let s
can_let s = true

closers : List Hole → List Token
closers [] = []
closers (hole.Minus ∷ holes) = closers holes
closers (hole.Parenthesis outer ∷ holes) = Close ∷ closers holes

pub record Completes (levels most : ℕ) (s : State) : Type 0 where
  pub tokens : List Token
  pub u : Statement
  pub kind : is_let u ≡ true
  pub wants : Wants levels most u s tokens

after_completes : (inner most : ℕ) (level : Level) (f : Expression) (holes : List Hole) → (tokens : List Token) × (u : Expression) × After inner most u level f holes tokens
after_completes inner most level f [] = ([], joined level.sum (times level.product f), end)
after_completes inner most level f (hole.Minus ∷ holes) = after_completes (suc inner) most level (Negate f) holes
after_completes inner most level f (hole.Parenthesis outer ∷ holes) =
    let o = after_completes (suc inner) most outer (joined level.sum (times level.product f)) holes in
    (Close ∷ o.0, o.1, record { part = []; rest = o.0; e = joined level.sum (times level.product f); chain = end; split = refl; outside = o.2 })

-- the line of such a state can be completed, as deep as it is
pub completes : (levels most : ℕ) (s : State) (inner : ℕ) → can_let s ≡ true → inner + depth s ≡ levels → Completes levels most s
completes levels most state.Start inner can room = record { tokens = Word (codes "let") ∷ Word (97 ∷ []) ∷ Equals ∷ Word (97 ∷ []) ∷ []; u = statement.Let (97 ∷ []) (Name (97 ∷ [])); kind = refl; wants = lets {bytes = 97 ∷ []} refl (term (factor (name {bytes = 97 ∷ []} refl))) }
completes levels most state.Use inner can room = absurd (false≢true can)
completes levels most state.Let inner can room = record { tokens = Word (97 ∷ []) ∷ Equals ∷ Word (97 ∷ []) ∷ []; u = statement.Let (97 ∷ []) (Name (97 ∷ [])); kind = refl; wants = record { name = 97 ∷ []; rest = Word (97 ∷ []) ∷ []; e = Name (97 ∷ []); is_named = refl; reads = term (factor (name {bytes = 97 ∷ []} refl)); split = refl; is = refl } }
completes levels most (state.Named title) inner can room = record { tokens = Equals ∷ Word (97 ∷ []) ∷ []; u = statement.Let title (Name (97 ∷ [])); kind = refl; wants = record { rest = Word (97 ∷ []) ∷ []; e = Name (97 ∷ []); reads = term (factor (name {bytes = 97 ∷ []} refl)); split = refl; is = refl } }
completes levels most state.Export inner can room = absurd (false≢true can)
completes levels most (state.Factor title level holes) inner can room =
    let k = after_completes inner most level (Name (97 ∷ [])) holes in
    record { tokens = Word (97 ∷ []) ∷ k.0; u = statement.Let title k.1; kind = refl; wants = record { inner = inner; e = k.1; count = room; is = refl; wanted = record { word = Word (97 ∷ []) ∷ []; rest = k.0; f = Name (97 ∷ []); reads = name {bytes = 97 ∷ []} refl; split = refl; after = k.2 } } }
completes levels most (state.Operator title level f holes) inner can room =
    let k = after_completes inner most level f holes in
    record { tokens = k.0; u = statement.Let title k.1; kind = refl; wants = record { inner = inner; e = k.1; count = room; is = refl; wanted = k.2 } }
completes levels most (state.Done s) inner can room = record { tokens = []; u = s; kind = can; wants = (refl, refl) }

-- a state that wants a `let` line is inside of one
pub wants_can : (levels most : ℕ) (u : Statement) (s : State) (tokens : List Token) → is_let u ≡ true → Wants levels most u s tokens → can_let s ≡ true
wants_can levels most u state.Start tokens k h = refl
wants_can levels most u state.Use tokens k h = absurd (false≢true (sym (ap is_let h.is) ∙ k))
wants_can levels most u state.Let tokens k h = refl
wants_can levels most u (state.Named title) tokens k h = refl
wants_can levels most u state.Export tokens k h = absurd (false≢true (sym (ap is_let h.is) ∙ k))
wants_can levels most u (state.Factor title level holes) tokens k h = refl
wants_can levels most u (state.Operator title level f holes) tokens k h = refl
wants_can levels most u (state.Done s) tokens k h = sym (ap is_let h.1) ∙ k

pub deep_can : (s : State) → 0 < depth s → can_let s ≡ true
deep_can state.Start deep = absurd (omega arith)
deep_can state.Use deep = absurd (omega arith)
deep_can state.Let deep = absurd (omega arith)
deep_can (state.Named title) deep = absurd (omega arith)
deep_can state.Export deep = absurd (omega arith)
deep_can (state.Factor title level holes) deep = refl
deep_can (state.Operator title level f holes) deep = refl
deep_can (state.Done s) deep = absurd (omega arith)

-- so many levels are open in a state, and as many there are
pub wants_depth : (levels most : ℕ) (u : Statement) (s : State) (tokens : List Token) → Wants levels most u s tokens → depth s ≤ levels
wants_depth levels most u state.Start tokens h = omega arith
wants_depth levels most u state.Use tokens h = omega arith
wants_depth levels most u state.Let tokens h = omega arith
wants_depth levels most u (state.Named title) tokens h = omega arith
wants_depth levels most u state.Export tokens h = omega arith
wants_depth levels most u (state.Factor title level holes) tokens h = let c = h.count in omega arith
wants_depth levels most u (state.Operator title level f holes) tokens h = let c = h.count in omega arith
wants_depth levels most u (state.Done s) tokens h = omega arith

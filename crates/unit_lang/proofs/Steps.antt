-- Tokens that lead from state to state, and what the grammar says of them.
use Rattle.std.proofs.Common.{◌≡◌, ℕ, ◌+◌, ◌-◌, ◌≤◌, ◌&&◌, true, false, List, [], ◌∷◌, ◌++◌, Option, Some, None, is_none, refl, sym, ap, ◌∙◌, subst, arith, append_assoc}
use Rattle.std.specs.List.{list_any}
use Rattle.std.specs.Str.Parse.{digits_value}
use Rattle.std.proofs.lemmas.Bool.{or_parts, true≢false, false≢true}
use Rattle.std.proofs.lemmas.List.{append-nil}
use Rattle.unit_lang.specs.declared.token.Token.{Token}
use Rattle.unit_lang.specs.declared.token.Token.TheVariants.{Word, Equals, Plus, Minus, Star, Open, Close}
use Rattle.unit_lang.specs.declared.unit.Statement.{Statement}
use Rattle.unit_lang.specs.declared.unit.Statement.TheVariants as statement
use Rattle.unit_lang.specs.declared.state.State.{State}
use Rattle.unit_lang.specs.declared.state.State.TheVariants as state
use Rattle.unit_lang.specs.Faults.{BeginsLet}
use Rattle.unit_lang.specs.Grammar.{IsStatement}
use Rattle.unit_lang.specs.Lexing.{too_great, number_of}
use Rattle.unit_lang.specs.Lines.{greatest}
use Rattle.unit_lang.specs.Machine.{step, finished, depth}
use Rattle.unit_lang.proofs.Meaning.{Wants, WantsNext, is_let}
use Rattle.unit_lang.proofs.StepForth.{Forth, step_forth}
use Rattle.unit_lang.proofs.StepBack.{Fits, Back, step_back}
use Rattle.unit_lang.proofs.Ends.{can_let, wants_can, completes, wants_end, finished_wants, wants_depth}
use Rattle.unit_lang.proofs.WordLemmas.{NumberIs, number_of_is}

-- the tokens lead from one state to another, and no state after the first is deeper than the bound
abbrev pub Steps : ℕ → State → List Token → State → Type 0
Steps bound s [] last = s ≡ last
Steps bound s (tok ∷ tokens) last = (next : State) × (step s tok ≡ Some next) × (depth next ≤ bound) × Steps bound next tokens last

pub steps_push : (bound : ℕ) (s middle last : State) (tokens : List Token) (tok : Token) → Steps bound s tokens middle → step middle tok ≡ Some last → depth last ≤ bound → Steps bound s (tokens ++ tok ∷ []) last
steps_push bound s middle last [] tok h e room = (last, ap (λ (x : State). step x tok) h ∙ e, room, refl)
steps_push bound s middle last (t ∷ tokens) tok h e room = (h.0, h.1, h.2, steps_push bound h.0 middle last tokens tok h.3 e room)

pub steps_take : (bound : ℕ) (s last : State) (tokens more : List Token) → Steps bound s (tokens ++ more) last → (middle : State) × Steps bound s tokens middle × Steps bound middle more last
steps_take bound s last [] more h = (s, refl, h)
steps_take bound s last (t ∷ tokens) more h = let k = steps_take bound h.0 last tokens more h.3 in (k.0, (h.0, h.1, h.2, k.1), k.2)

pub steps_more : (bound other : ℕ) (s last : State) (tokens : List Token) → bound ≤ other → Steps bound s tokens last → Steps other s tokens last
steps_more bound other s last [] le h = h
steps_more bound other s last (t ∷ tokens) le h = (h.0, h.1, (let room = h.2 in omega arith), steps_more bound other h.0 last tokens le h.3)

pub steps_depth : (bound : ℕ) (s last : State) (tokens : List Token) → depth s ≤ bound → Steps bound s tokens last → depth last ≤ bound
steps_depth bound s last [] room h = subst (λ (x : State). depth x ≤ bound) h room
steps_depth bound s last (t ∷ tokens) room h = steps_depth bound h.0 last tokens h.2 h.3

-- what the first state wants, the last one wants after the tokens
pub steps_forth : (bound levels most : ℕ) (u : Statement) (s last : State) (tokens more : List Token) → Steps bound s tokens last → Wants levels most u s (tokens ++ more) → Forth levels most u (Some last) more
steps_forth bound levels most u s last [] more h w = record { v = u; wants = subst (λ (x : State). Wants levels most u x more) h w; same = λ _. refl; kind = refl }
steps_forth bound levels most u s last (t ∷ tokens) more h w =
    let k = step_forth levels most u s t (tokens ++ more) w in
    let wants : Wants levels most k.v h.0 (tokens ++ more) = subst (λ o. WantsNext levels most k.v o (tokens ++ more)) h.1 k.wants in
    let r = steps_forth bound levels most k.v h.0 last tokens more h.3 wants in
    record { v = r.v; wants = r.wants; same = λ le. r.same le ∙ k.same le; kind = r.kind ∙ k.kind }

-- the numbers are at most this
abbrev pub AllFit : ℕ → List Token → Type 0
AllFit most [] = Unit {0}
AllFit most (tok ∷ tokens) = Fits most tok × AllFit most tokens

-- what the last state wants after the tokens, the first one wants
pub steps_back : (bound levels most : ℕ) (u : Statement) (s last : State) (tokens more : List Token) → bound ≤ levels → depth s ≤ levels → AllFit most tokens → Steps bound s tokens last → Wants levels most u last more → Back levels most (list_any too_great tokens) u s (tokens ++ more)
steps_back bound levels most u s last [] more le room fits h w = record { v = u; wants = subst (λ (x : State). Wants levels most u x more) (sym h) w; same = λ _. refl; kind = refl }
steps_back bound levels most u s last (t ∷ tokens) more le room fits h w =
    let below : depth h.0 ≤ levels = (let deep = h.2 in omega arith) in
    let k = steps_back bound levels most u h.0 last tokens more le below fits.1 h.3 w in
    let wants : WantsNext levels most k.v (step s t) (tokens ++ more) = subst (λ o. WantsNext levels most k.v o (tokens ++ more)) (sym h.1) k.wants in
    let b = step_back levels most k.v s t (tokens ++ more) fits.0 room wants in
    record { v = b.v; wants = b.wants; same = λ small. (let parts = or_parts (too_great t) (list_any too_great tokens) small in b.same parts.0 ∙ k.same parts.1); kind = b.kind ∙ k.kind }

-- a bound of the numbers
abbrev worth : Token → ℕ
worth (Word bytes) = digits_value 10 bytes
worth Equals = 0
worth Plus = 0
worth Minus = 0
worth Star = 0
worth Open = 0
worth Close = 0

abbrev pub most_of : List Token → ℕ
most_of [] = 0
most_of (tok ∷ tokens) = worth tok + most_of tokens

fits_worth : (most : ℕ) (tok : Token) → worth tok ≤ most → Fits most tok
fits_worth most (Word bytes) le = λ d. le
fits_worth most Equals le = tt
fits_worth most Plus le = tt
fits_worth most Minus le = tt
fits_worth most Star le = tt
fits_worth most Open le = tt
fits_worth most Close le = tt

pub all_fit_most : (most : ℕ) (tokens : List Token) → most_of tokens ≤ most → AllFit most tokens
all_fit_most most [] le = tt
all_fit_most most (tok ∷ tokens) le = (fits_worth most tok (omega arith), all_fit_most most tokens (omega arith))

fits_kept : (total : ℕ) (o : Option ℕ) → is_none o ≡ false → NumberIs total o → total ≤ greatest
fits_kept total None e n = absurd (true≢false e)
fits_kept total (Some value) e n = let same = n.0 in let small = n.1 in omega arith

fits_small : (tok : Token) → too_great tok ≡ false → Fits greatest tok
fits_small (Word bytes) small = λ d. fits_kept (digits_value 10 bytes) (number_of bytes) (sym (ap (λ b. b && is_none (number_of bytes)) d) ∙ small) (number_of_is bytes d)
fits_small Equals small = tt
fits_small Plus small = tt
fits_small Minus small = tt
fits_small Star small = tt
fits_small Open small = tt
fits_small Close small = tt

pub all_fit_small : (tokens : List Token) → list_any too_great tokens ≡ false → AllFit greatest tokens
all_fit_small [] small = tt
all_fit_small (tok ∷ tokens) small =
    let parts = or_parts (too_great tok) (list_any too_great tokens) small in
    (fits_small tok parts.0, all_fit_small tokens parts.1)

-- the whole line of a `let` that begins with the tokens
pub record Whole (levels most : ℕ) (front : List Token) : Type 0 where
  pub rest : List Token
  pub u : Statement
  pub kind : is_let u ≡ true
  pub whole : IsStatement levels most (front ++ rest) u

-- tokens that lead into a `let` line begin one that is as deep as the bound
pub steps_whole : (bound : ℕ) (front : List Token) (s : State) → Steps bound state.Start front s → can_let s ≡ true → Whole bound (most_of front) front
steps_whole bound front s h can =
    let room : depth s ≤ bound = steps_depth bound state.Start s front (omega arith) h in
    let k = completes bound (most_of front) s (bound - depth s) can (omega arith) in
    let b = steps_back bound bound (most_of front) k.u state.Start s front k.tokens (omega arith) (omega arith) (all_fit_most (most_of front) front (omega arith)) h k.wants in
    record { rest = k.tokens; u = b.v; kind = b.kind ∙ k.kind; whole = b.wants }

begins_by : (levels most : ℕ) (front rest : List Token) (u : Statement) → is_let u ≡ true → IsStatement levels most (front ++ rest) u → BeginsLet front
begins_by levels most front rest (statement.Let title e) k h = record { levels = levels; most = most; rest = rest; name = title; value = e; whole = h }
begins_by levels most front rest (statement.Use app unit) k h = absurd (false≢true k)
begins_by levels most front rest (statement.Export title) k h = absurd (false≢true k)
begins_by levels most front rest (statement.Warn text) k h = absurd (false≢true k)

pub steps_begins : (bound : ℕ) (front : List Token) (s : State) → Steps bound state.Start front s → can_let s ≡ true → BeginsLet front
steps_begins bound front s h can =
    let w = steps_whole bound front s h can in
    begins_by bound (most_of front) front w.rest w.u w.kind w.whole

-- tokens that begin a `let` line, with more of them, lead into one
pub begins_wants : (bound : ℕ) (front more : List Token) (s : State) → Steps bound state.Start front s → (b : BeginsLet (front ++ more)) → Forth b.levels b.most (statement.Let b.name b.value) (Some s) (more ++ b.rest)
begins_wants bound front more s h b = steps_forth bound b.levels b.most (statement.Let b.name b.value) state.Start s front (more ++ b.rest) h (subst (λ l. IsStatement b.levels b.most l (statement.Let b.name b.value)) (append_assoc front more b.rest) b.whole)

pub begins_can : (bound : ℕ) (front : List Token) (s : State) → Steps bound state.Start front s → BeginsLet front → can_let s ≡ true
begins_can bound front s h b =
    let k = steps_forth bound b.levels b.most (statement.Let b.name b.value) state.Start s front b.rest h b.whole in
    wants_can b.levels b.most k.v s b.rest k.kind k.wants

-- what the tokens say where no number is too great
pub steps_say : (front : List Token) (s : State) (u : Statement) → Steps 64 state.Start front s → list_any too_great front ≡ false → finished s ≡ Some u → IsStatement 64 greatest front u
steps_say front s u h small e =
    let room : depth s ≤ 64 = steps_depth 64 state.Start s front (omega arith) h in
    let w = finished_wants 64 greatest u s (64 - depth s) (omega arith) e in
    let b = steps_back 64 64 greatest u state.Start s front [] (omega arith) (omega arith) (all_fit_small front small) h w in
    subst (λ v. IsStatement 64 greatest front v) (b.same small) (subst (λ l. IsStatement 64 greatest l b.v) (append-nil front) b.wants)

-- what the tokens say, more of them go on saying
pub steps_said : (bound levels : ℕ) (front more : List Token) (s : State) (u : Statement) → Steps bound state.Start front s → IsStatement levels greatest (front ++ more) u → Wants levels greatest u s more
steps_said bound levels front more s u h w =
    let k = steps_forth bound levels greatest u state.Start s front more h w in
    subst (λ v. Wants levels greatest v s more) (k.same (omega arith)) k.wants

-- tokens of a whole line lead somewhere
pub record Runs (levels : ℕ) (tokens : List Token) (s : State) (u : Statement) : Type 0 where
  pub last : State
  pub steps : Steps levels s tokens last
  pub ends : finished last ≡ Some u

next_runs : (levels most : ℕ) (u : Statement) (s : State) (tok : Token) (tokens : List Token) (o : Option State) → step s tok ≡ o → WantsNext levels most u o tokens → ((next : State) → Wants levels most u next tokens → Runs levels tokens next u) → Runs levels (tok ∷ tokens) s u
next_runs levels most u s tok tokens None e w ih = absurd w
next_runs levels most u s tok tokens (Some next) e w ih =
    let k = ih next w in
    record { last = k.last; steps = (next, e, wants_depth levels most u next tokens w, k.steps); ends = k.ends }

wants_run : (levels : ℕ) (u : Statement) (s : State) (tokens : List Token) → Wants levels greatest u s tokens → Runs levels tokens s u
wants_run levels u s [] w = record { last = s; steps = refl; ends = wants_end levels greatest u s w }
wants_run levels u s (tok ∷ tokens) w =
    let k = step_forth levels greatest u s tok tokens w in
    next_runs levels greatest u s tok tokens (step s tok) refl (subst (λ v. WantsNext levels greatest v (step s tok) tokens) (k.same (omega arith)) k.wants) (λ next h. wants_run levels u next tokens h)

steps_meet : (bound other : ℕ) (s first second : State) (tokens : List Token) → Steps bound s tokens first → Steps other s tokens second → first ≡ second
steps_meet bound other s first second [] a b = sym a ∙ b
steps_meet bound other s first second (t ∷ tokens) a b =
    let same : a.0 ≡ b.0 = let e = sym a.1 ∙ b.1 in cc in
    steps_meet bound other b.0 first second tokens (subst (λ (x : State). Steps bound x tokens first) same a.3) b.3

-- tokens say one statement
pub statement_one : (levels : ℕ) (tokens : List Token) (u v : Statement) → IsStatement levels greatest tokens u → IsStatement levels greatest tokens v → u ≡ v
statement_one levels tokens u v a b =
    let p = wants_run levels u state.Start tokens a in
    let q = wants_run levels v state.Start tokens b in
    let same = steps_meet levels levels state.Start p.last q.last tokens p.steps q.steps in
    let e : Some u ≡ Some v = sym p.ends ∙ ap finished same ∙ q.ends in
    cc

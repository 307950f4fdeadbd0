-- The fault of a line that the reader refuses.
use Rattle.std.proofs.Common.{◌≡◌, ℕ, ◌<◌, ◌≤◌, ◌&&◌, ◌||◌, Bool, true, false, List, [], ◌∷◌, ◌++◌, Option, Some, None, cond, length, is_none, codes, bytes_eq, refl, sym, ap, ◌∙◌, subst, arith}
use Rattle.std.specs.Prelude.{option_map}
use Rattle.std.specs.Char.{is_ascii_digit}
use Rattle.std.specs.List.{list_any, list_all}
use Rattle.std.specs.Str.Parse.{digits_value}
use Rattle.std.proofs.lemmas.Bool.{and_parts, and_right, or_left, or_right, true≢false, false≢true}
use Rattle.std.proofs.lemmas.Slice.Eq.{bytes_eq-Decides}
use Rattle.unit_lang.specs.declared.error.UnitCause.TheVariants.{NumberTooBig, BadLine}
use Rattle.unit_lang.specs.declared.token.Token.{Token}
use Rattle.unit_lang.specs.declared.token.Token.TheVariants.{Word, Equals, Plus, Minus, Star, Open, Close}
use Rattle.unit_lang.specs.declared.unit.Expression.{Expression}
use Rattle.unit_lang.specs.declared.unit.Statement.{Statement}
use Rattle.unit_lang.specs.declared.unit.Statement.TheVariants as statement
use Rattle.unit_lang.specs.declared.level.Level.{Level}
use Rattle.unit_lang.specs.declared.level.Hole.{Hole}
use Rattle.unit_lang.specs.declared.state.State.{State}
use Rattle.unit_lang.specs.declared.state.State.TheVariants as state
use Rattle.unit_lang.specs.Faults.{BeginsLet, IsTooDeep, IsTooBig, LineFault, great, bad}
use Rattle.unit_lang.specs.Grammar.{IsStatement}
use Rattle.unit_lang.specs.Lexing.{too_great, number_of, dotted, operand, first_token}
use Rattle.unit_lang.specs.Lines.{IsWarnLine, IsBlankLine, Says, warn, tokens, greatest}
use Rattle.unit_lang.specs.Machine.{step, used, finished, depth}
use Rattle.unit_lang.specs.Names.{are_digits, is_name}
use Rattle.unit_lang.specs.Spells.{longest_line}
use Rattle.unit_lang.specs.Tokens.{Leads, end, without_blanks, without_comment}
use Rattle.unit_lang.proofs.Meaning.{WantsNext}
use Rattle.unit_lang.proofs.Reached.{Reached, NoMore}
use Rattle.unit_lang.proofs.StepForth.{step_forth}
use Rattle.unit_lang.proofs.Ends.{can_let, deep_can, wants_end, wants_depth}
use Rattle.unit_lang.proofs.Steps.{Steps, steps_push, steps_take, steps_more, steps_forth, most_of, steps_whole, steps_begins, begins_wants, begins_can, steps_say, steps_said}
use Rattle.unit_lang.proofs.TokenLemmas.{leads_push, leads_solid, leads_none, leads_next, next_leads, leads_meet, Meets, within, beyond, tokens_go_on}
use Rattle.unit_lang.proofs.WordLemmas.{NumberIs, number_of_is, dotted_back, name_no_digits}

-- a line of which a token opens too many levels
pub deep_line : (line : List ℕ) (s next : State) (seen : Bool) (rest after : List ℕ) (tok : Token) → (IsWarnLine line → ⊥) → Reached (without_comment line) s seen rest → first_token rest ≡ Some (tok, after) → step s tok ≡ Some next → 64 < depth next → IsTooDeep line
deep_line line s next seen rest after tok plain r found stepped many =
    let front = r.front ++ tok ∷ [] in
    let steps : Steps (depth next) state.Start front next = steps_push (depth next) state.Start s next r.front tok (steps_more 64 (depth next) state.Start s r.front (omega arith) r.steps) stepped (omega arith) in
    record {
      front = front;
      fronts = record { plain = plain; rest = without_blanks after; leads = leads_push (without_comment line) rest after r.front tok r.leads found; begins = steps_begins (depth next) front next steps (deep_can next (omega arith)) };
      deep = λ most more u h. let k = steps_forth (depth next) 64 most u state.Start next front more steps h in let room = wants_depth 64 most k.v next more k.wants in omega arith;
    }

-- no `let` line goes on with a token that the state doesn't take
stuck_beyond : (s : State) (rest after : List ℕ) (front other more : List Token) (tok : Token) → NoMore s rest → Steps 64 state.Start front s → BeginsLet other → other ≡ front ++ tok ∷ more → first_token rest ≡ Some (tok, after) → ⊥
stuck_beyond s rest after front other more tok none steps begins split found =
    let b : BeginsLet (front ++ tok ∷ more) = subst BeginsLet split begins in
    let k = begins_wants 64 front (tok ∷ more) s steps b in
    let f = step_forth b.levels b.most k.v s tok (more ++ b.rest) k.wants in
    subst (λ o. WantsNext b.levels b.most f.v o (more ++ b.rest)) (none tok after found) f.wants

no_deep_by : (line : List ℕ) (s : State) (seen : Bool) (rest : List ℕ) (r : Reached (without_comment line) s seen rest) → NoMore s rest → (d : IsTooDeep line) {last : List ℕ} → Meets r.front rest d.front last → ⊥
no_deep_by line s seen rest r none d (within {more = more} split l) =
    let cut = steps_take 64 state.Start s d.front more (subst (λ k. Steps 64 state.Start k s) split r.steps) in
    let can = begins_can 64 d.front cut.0 cut.1 d.fronts.begins in
    let w = steps_whole 64 d.front cut.0 cut.1 can in
    d.deep (most_of d.front) w.rest w.u w.whole
no_deep_by line s seen rest r none d (beyond {more = more} {after = after} tok split found l) = stuck_beyond s rest after r.front d.front more tok none r.steps d.fronts.begins split found

-- a line that stops before it is too deep isn't
pub no_deep : (line : List ℕ) (s : State) (seen : Bool) (rest : List ℕ) → Reached (without_comment line) s seen rest → NoMore s rest → IsTooDeep line → ⊥
no_deep line s seen rest r none d = no_deep_by line s seen rest r none d (leads_meet (without_comment line) rest d.fronts.rest r.front d.front r.leads d.fronts.leads)

great_is_by : (total : ℕ) (o : Option ℕ) → NumberIs total o → greatest < total → is_none o ≡ true
great_is_by total None n h = refl
great_is_by total (Some value) n h = absurd (let same = n.0 in let small = n.1 in omega arith)

great_is : (digits : List ℕ) → are_digits digits ≡ true → greatest < digits_value 10 digits → too_great (Word digits) ≡ true
great_is digits d h = ap (λ b. b && is_none (number_of digits)) d ∙ great_is_by (digits_value 10 digits) (number_of digits) (number_of_is digits d) h

great_in : (front more : List Token) (digits : List ℕ) → too_great (Word digits) ≡ true → list_any too_great ((front ++ Word digits ∷ []) ++ more) ≡ true
great_in [] more digits h = or_left (too_great (Word digits)) (list_any too_great more) h
great_in (t ∷ front) more digits h = or_right (too_great t) (list_any too_great ((front ++ Word digits ∷ []) ++ more)) (great_in front more digits h)

no_great_by : (line : List ℕ) (s : State) (rest : List ℕ) (r : Reached (without_comment line) s false rest) → NoMore s rest → (b : IsTooBig line) {last : List ℕ} → Meets r.front rest (b.front ++ Word b.digits ∷ []) last → ⊥
no_great_by line s rest r none b (within {more = more} split l) =
    true≢false (sym (great_in b.front more b.digits (great_is b.digits b.number b.great)) ∙ ap (list_any too_great) (sym split) ∙ sym r.flag)
no_great_by line s rest r none b (beyond {more = more} {after = after} tok split found l) = stuck_beyond s rest after r.front (b.front ++ Word b.digits ∷ []) more tok none r.steps b.fronts.begins split found

-- a line that stops before a number is too great has none
pub no_great : (line : List ℕ) (s : State) (rest : List ℕ) → Reached (without_comment line) s false rest → NoMore s rest → IsTooBig line → ⊥
no_great line s rest r none b = no_great_by line s rest r none b (leads_meet (without_comment line) rest b.fronts.rest r.front (b.front ++ Word b.digits ∷ []) r.leads b.fronts.leads)

-- a number that is too great, among tokens
record Great (front : List Token) : Type 0 where
  before : List Token
  digits : List ℕ
  more : List Token
  great : too_great (Word digits) ≡ true
  split : front ≡ (before ++ Word digits ∷ []) ++ more

great_at : (t : Token) (front : List Token) (here : Bool) → too_great t ≡ here → (here || list_any too_great front) ≡ true → (list_any too_great front ≡ true → Great front) → Great (t ∷ front)
great_at (Word bytes) front true e h rest = record { before = []; digits = bytes; more = front; great = e; split = refl }
great_at Equals front true e h rest = absurd (false≢true e)
great_at Plus front true e h rest = absurd (false≢true e)
great_at Minus front true e h rest = absurd (false≢true e)
great_at Star front true e h rest = absurd (false≢true e)
great_at Open front true e h rest = absurd (false≢true e)
great_at Close front true e h rest = absurd (false≢true e)
great_at t front false e h rest = let k = rest h in record { before = t ∷ k.before; digits = k.digits; more = k.more; great = k.great; split = ap (λ l. t ∷ l) k.split }

great_among : (front : List Token) → list_any too_great front ≡ true → Great front
great_among [] h = absurd (false≢true h)
great_among (t ∷ front) h = great_at t front (too_great t) refl h (great_among front)

leads_take : (text rest : List ℕ) (front more : List Token) → Leads text (front ++ more) rest → (middle : List ℕ) × Leads text front middle
leads_take text rest [] more l = (without_blanks text, end refl)
leads_take text rest (t ∷ front) more l =
    let k = leads_next text rest t (front ++ more) l in
    let m = leads_take k.after rest front more k.leads in
    (m.0, next_leads text m.0 t front k.after k.is m.1)

-- where a number that is too great is taken

pub dot_no_digits : (bytes rest : List ℕ) → list_all is_ascii_digit (bytes ++ 46 ∷ rest) ≡ false
dot_no_digits [] rest = refl
dot_no_digits (byte ∷ bytes) rest = and_right (is_ascii_digit byte) (list_all is_ascii_digit (bytes ++ 46 ∷ rest)) (dot_no_digits bytes rest)

pub digits_all : (bytes : List ℕ) → are_digits bytes ≡ true → list_all is_ascii_digit bytes ≡ true
digits_all [] h = refl
digits_all (byte ∷ bytes) h = h

use_stuck : (bytes : List ℕ) (o : Option (List ℕ × List ℕ)) (next : State) → are_digits bytes ≡ true → dotted bytes ≡ o → used o ≡ Some next → ⊥
use_stuck bytes None next d e h = cc
use_stuck bytes (Some parts) next d e h = true≢false (sym (digits_all bytes d) ∙ ap (list_all is_ascii_digit) (dotted_back bytes parts e) ∙ dot_no_digits parts.0 parts.1)

start_kind : (bytes : List ℕ) (next : State) (a b c : Bool) → too_great (Word bytes) ≡ true → bytes_eq bytes (codes "use") ≡ b → bytes_eq bytes (codes "export") ≡ c → cond a (Some state.Let) (cond b (Some state.Use) (cond c (Some state.Export) None)) ≡ Some next → can_let next ≡ true
start_kind bytes next true b c g p q h = let e : state.Let ≡ next = cc in ap can_let (sym e)
start_kind bytes next false true c g p q h = absurd (false≢true (ap (λ w. too_great (Word w)) (sym ((bytes_eq-Decides bytes (codes "use")).0 p)) ∙ g))
start_kind bytes next false false true g p q h = absurd (false≢true (ap (λ w. too_great (Word w)) (sym ((bytes_eq-Decides bytes (codes "export")).0 q)) ∙ g))
start_kind bytes next false false false g p q h = absurd (cc)

let_kind : (bytes : List ℕ) (next : State) (t : Bool) → cond t (Some (state.Named bytes)) None ≡ Some next → can_let next ≡ true
let_kind bytes next true h = let e : state.Named bytes ≡ next = cc in ap can_let (sym e)
let_kind bytes next false h = absurd (cc)

export_stuck : (bytes : List ℕ) (next : State) (t : Bool) → is_name bytes ≡ t → are_digits bytes ≡ true → cond t (Some (state.Done (statement.Export bytes))) None ≡ Some next → ⊥
export_stuck bytes next true n d h = true≢false (sym d ∙ name_no_digits bytes n)
export_stuck bytes next false n d h = cc

factor_kind : (title : List ℕ) (level : Level) (holes : List Hole) (next : State) (o : Option Expression) → option_map (λ f. state.Operator title level f holes) o ≡ Some next → can_let next ≡ true
factor_kind title level holes next None h = absurd (cc)
factor_kind title level holes next (Some f) h = let e : state.Operator title level f holes ≡ next = cc in ap can_let (sym e)

great_step : (s next : State) (digits : List ℕ) → too_great (Word digits) ≡ true → step s (Word digits) ≡ Some next → can_let next ≡ true
great_step state.Start next digits g h = start_kind digits next (bytes_eq digits (codes "let")) (bytes_eq digits (codes "use")) (bytes_eq digits (codes "export")) g refl refl h
great_step state.Use next digits g h = absurd (use_stuck digits (dotted digits) next (and_parts (are_digits digits) (is_none (number_of digits)) g).0 refl h)
great_step state.Let next digits g h = let_kind digits next (is_name digits) h
great_step (state.Named title) next digits g h = absurd (cc)
great_step state.Export next digits g h = absurd (export_stuck digits next (is_name digits) refl (and_parts (are_digits digits) (is_none (number_of digits)) g).0 h)
great_step (state.Factor title level holes) next digits g h = factor_kind title level holes next (operand digits) h
great_step (state.Operator title level f holes) next digits g h = absurd (cc)
great_step (state.Done s) next digits g h = absurd (cc)

great_can : (front : List Token) (digits : List ℕ) (s : State) → too_great (Word digits) ≡ true → Steps 64 state.Start (front ++ Word digits ∷ []) s → can_let s ≡ true
great_can front digits s g h =
    let cut = steps_take 64 state.Start s front (Word digits ∷ []) h in
    let last = cut.2 in
    ap can_let (sym last.3) ∙ great_step cut.0 last.0 digits g last.1

great_value_by : (total : ℕ) (o : Option ℕ) → NumberIs total o → is_none o ≡ true → greatest < total
great_value_by total None n h = n
great_value_by total (Some value) n h = absurd (false≢true h)

-- a line of which a number is too great
pub great_line : (line : List ℕ) (s : State) (rest : List ℕ) → (IsWarnLine line → ⊥) → Reached (without_comment line) s true rest → IsTooBig line
great_line line s rest plain r =
    let k = great_among r.front (sym r.flag) in
    let front = k.before ++ Word k.digits ∷ [] in
    let cut = steps_take 64 state.Start s front k.more (subst (λ l. Steps 64 state.Start l s) k.split r.steps) in
    let leads = leads_take (without_comment line) rest front k.more (subst (λ l. Leads (without_comment line) l rest) k.split r.leads) in
    let parts = and_parts (are_digits k.digits) (is_none (number_of k.digits)) k.great in
    record {
      front = k.before;
      digits = k.digits;
      fronts = record { plain = plain; rest = leads.0; leads = leads.1; begins = steps_begins 64 front cut.0 cut.1 (great_can k.before k.digits cut.0 k.great cut.1) };
      number = parts.0;
      great = great_value_by (digits_value 10 k.digits) (number_of k.digits) (number_of_is k.digits parts.0) parts.1;
    }

says_nothing_by : (line : List ℕ) (s : State) (rest : List ℕ) (r : Reached (without_comment line) s false rest) → NoMore s rest → (rest ≡ [] → finished s ≡ None) → (all : List Token) (u : Statement) → IsStatement 64 greatest all u → (more : List Token) → all ≡ r.front ++ more → Leads rest more [] → ⊥
says_nothing_by line s rest r none unfinished all u h [] split l =
    let empty : rest ≡ [] = sym (leads_solid (without_comment line) rest r.front r.leads) ∙ leads_none rest [] l in
    let w = steps_said 64 64 r.front [] s u r.steps (subst (λ k. IsStatement 64 greatest k u) split h) in
    let e : Some u ≡ None = sym (wants_end 64 greatest u s w) ∙ unfinished empty in
    cc
says_nothing_by line s rest r none unfinished all u h (tok ∷ more) split l =
    let n = leads_next rest [] tok more l in
    let found : first_token rest ≡ Some (tok, n.after) = ap first_token (sym (leads_solid (without_comment line) rest r.front r.leads)) ∙ n.is in
    let w = steps_said 64 64 r.front (tok ∷ more) s u r.steps (subst (λ k. IsStatement 64 greatest k u) split h) in
    let f = step_forth 64 greatest u s tok more w in
    subst (λ o. WantsNext 64 greatest f.v o more) (none tok n.after found) f.wants

-- a line that stops says nothing
pub says_nothing : (line : List ℕ) (s : State) (rest : List ℕ) → (IsWarnLine line → ⊥) → Reached (without_comment line) s false rest → NoMore s rest → (rest ≡ [] → finished s ≡ None) → (u : Statement) → Says line u → ⊥
says_nothing line s rest plain r none unfinished u (warn w) = plain (w.rest, w.starts)
says_nothing line s rest plain r none unfinished u (tokens {tokens = all} t h) =
    let k = tokens_go_on (without_comment line) rest r.front all r.leads t.cut in
    says_nothing_by line s rest r none unfinished all u h k.more k.split k.leads

-- the fault of a line that stops
pub bad_fault : (line : List ℕ) (s : State) (rest : List ℕ) → length line ≤ longest_line → (IsWarnLine line → ⊥) → (IsBlankLine line → ⊥) → Reached (without_comment line) s false rest → NoMore s rest → (rest ≡ [] → finished s ≡ None) → LineFault line BadLine
bad_fault line s rest short plain solid r none unfinished = bad short (no_deep line s false rest r none) (no_great line s rest r none) solid (says_nothing line s rest plain r none unfinished)

pub great_fault : (line : List ℕ) (s : State) (rest : List ℕ) → length line ≤ longest_line → (IsWarnLine line → ⊥) → Reached (without_comment line) s true rest → NoMore s rest → LineFault line NumberTooBig
great_fault line s rest short plain r none = great short (no_deep line s true rest r none) (great_line line s rest plain r)

-- and what a line says that ends with a whole statement
pub line_says : (line : List ℕ) (s : State) (rest : List ℕ) (u : Statement) → (IsWarnLine line → ⊥) → Reached (without_comment line) s false rest → rest ≡ [] → finished s ≡ Some u → Says line u
line_says line s rest u plain r empty e =
    tokens (record { plain = plain; cut = subst (λ l. Leads (without_comment line) r.front l) empty r.leads }) (steps_say r.front s u r.steps (sym r.flag) e)

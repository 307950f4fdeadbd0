-- Where tokens stand that lead to a place of a text of which some tokens were read.
use Rattle.std.proofs.Common.{◌≡◌, ℕ, ◌+◌, ◌≤◌, Bool, true, false, eqb, cond, List, [], ◌∷◌, ◌++◌, Some, None, length, refl, sym, ap, ◌∙◌, subst, arith}
use Rattle.std.specs.Prelude.{option_and_then}
use Rattle.elixir_terms.specs.declared.state.State.{State}
use Rattle.term_tokens.specs.declared.token.Token.{Token}
use Rattle.term_tokens.specs.Lexing.{past_blank}
use Rattle.elixir_terms.specs.Machine.{step}
use Rattle.elixir_terms.specs.Prefixes.{Leads, none as no_token, token as one_token}
use Rattle.term_tokens.specs.Tokens.{Begins, Blanks, none, blank, comment, line_end}
use Rattle.elixir_terms.specs.Within.{deepest}
use Rattle.term_tokens.proofs.BlankLemmas.{blanks_meet}
use Rattle.elixir_terms.proofs.OpenLemmas.{runs}
use Rattle.elixir_terms.proofs.PrefixLemmas.{AllSound, next_sound}
use Rattle.term_tokens.proofs.TokenLaws.{begins_one, begins_solid, begins_shorter}
use Rattle.elixir_terms.proofs.TrailLemmas.{Stood, Trail, rests, steps}

line_shorter : (text : List ℕ) → length (line_end text) ≤ length text
line_shorter [] = omega arith
line_shorter (byte ∷ text) = by (eqb byte 10) (line_shorter text)
  where
    by : (feed : Bool) → length (line_end text) ≤ length text → length (cond feed (byte ∷ text) (line_end text)) ≤ length (byte ∷ text)
    by true h = omega arith
    by false h = omega arith

pub blanks_shorter : {text rest : List ℕ} → Blanks text rest → length rest ≤ length text
blanks_shorter none = omega arith
blanks_shorter (blank w h) = let k = blanks_shorter h in omega arith
blanks_shorter (comment {text = text} h) = let k = blanks_shorter h in let l = line_shorter text in omega arith

pub leads_shorter : {tokens : List Token} {text rest : List ℕ} → Leads tokens text rest → length rest ≤ length text
leads_shorter (no_token blanks) = blanks_shorter blanks
leads_shorter (one_token blanks begins leads) = let a = blanks_shorter blanks in let b = begins_shorter begins in let c = leads_shorter leads in omega arith

-- a token that was read at the place, and those after it
pub record Inside (tokens : List Token) (s last : State) (rest : List ℕ) (others : List Token) (place : List ℕ) : Type 0 where
  pub here : State
  pub next : State
  pub tok : Token
  pub after : List ℕ
  pub more : List Token
  pub split : tokens ≡ others ++ tok ∷ more
  pub ran : runs others s ≡ Some here
  pub stood : Stood here place tok after next
  pub sound : AllSound here
  pub trail : Trail more next last after rest

-- a token that stands where the reading ended, and those after it
pub record Past (tokens : List Token) (rest : List ℕ) (others : List Token) (place : List ℕ) : Type 0 where
  pub tok : Token
  pub after : List ℕ
  pub more : List Token
  pub split : others ≡ tokens ++ tok ∷ more
  pub begins : Begins rest tok after
  pub leads : Leads more after place

-- before the end of what was read, there, or behind it
pub data Meets (tokens : List Token) (s last : State) (rest : List ℕ) (others : List Token) (place : List ℕ) : Type 0 where
  within : Inside tokens s last rest others place → Meets tokens s last rest others place
  there : others ≡ tokens → place ≡ rest → Meets tokens s last rest others place
  behind : Past tokens rest others place → Meets tokens s last rest others place

one_more : {tokens : List Token} {s next last : State} {rest : List ℕ} {others : List Token} {place : List ℕ} (tok : Token) → step s tok ≡ Some next → Meets tokens next last rest others place → Meets (tok ∷ tokens) s last rest (tok ∷ others) place
one_more {others = others} tok stepped (within i) =
    within (record { here = i.here; next = i.next; tok = i.tok; after = i.after; more = i.more; split = ap (λ l. tok ∷ l) i.split; ran = ap (option_and_then (runs others)) stepped ∙ i.ran; stood = i.stood; sound = i.sound; trail = i.trail })
one_more tok stepped (there e p) = there (ap (λ l. tok ∷ l) e) p
one_more tok stepped (behind b) = behind (record { tok = b.tok; after = b.after; more = b.more; split = ap (λ l. tok ∷ l) b.split; begins = b.begins; leads = b.leads })

pub meets : {tokens : List Token} {s last : State} {text rest : List ℕ} (others : List Token) (place : List ℕ) → Trail tokens s last text rest → AllSound s → Leads others text place → past_blank place ≡ None → Meets tokens s last rest others place
meets others place (rests blanks solid) sound (no_token b) here = there refl (blanks_meet _ here solid b blanks)
meets others place (rests {rest = rest} blanks solid) sound (one_token {start = start} {after = after} {token = tok} {tokens = more} b begins leads) here =
    let same : start ≡ rest = blanks_meet rest (begins_solid begins) solid b blanks in
    behind (record { tok = tok; after = after; more = more; split = refl; begins = subst (λ l. Begins l tok after) same begins; leads = leads })
meets others place (steps {tok = tok} {tokens = tokens} {s = s} {next = next} {begin = begin} {after = after} blanks stood trail) sound (no_token b) here =
    let same : begin ≡ place = blanks_meet place (begins_solid stood.begins) here blanks b in
    within (record { here = s; next = next; tok = tok; after = after; more = tokens; split = refl; ran = refl; stood = subst (λ l. Stood s l tok after next) same stood; sound = sound; trail = trail })
meets others place (steps {tok = tok} {tokens = tokens} {s = s} {next = next} {last = last} {begin = begin} {after = after} {rest = rest} blanks stood trail) sound (one_token {start = start} {after = end} {token = other} {tokens = more} b begins leads) here =
    let same : start ≡ begin = blanks_meet begin (begins_solid begins) (begins_solid stood.begins) b blanks in
    let one = begins_one (subst (λ l. Begins l other end) same begins) stood.begins in
    let well = stood.well in
    let on : AllSound next = λ extra. next_sound (deepest + extra) s next tok (sound extra) (omega arith) stood.stepped in
    let m = meets more place trail on (subst (λ l. Leads more l place) one.1 leads) here in
    subst (λ t. Meets (tok ∷ tokens) s last rest (t ∷ more) place) (sym one.0) (one_more tok stood.stepped m)

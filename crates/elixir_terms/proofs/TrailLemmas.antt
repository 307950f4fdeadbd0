-- The tokens that were read at the front of a text.
use Rattle.std.proofs.Common.{◌≡◌, ℕ, ◌<◌, ◌≤◌, List, [], ◌∷◌, ◌++◌, Some, None, length, refl, sym, ap, ◌∙◌, subst, arith, append_assoc}
use Rattle.term_tokens.specs.declared.cause.TermCause.{TermCause}
use Rattle.elixir_terms.specs.declared.state.State.{State}
use Rattle.term_tokens.specs.declared.token.Token.{Token}
use Rattle.term_tokens.specs.Lexing.{past_blank, IsNarrow}
use Rattle.term_tokens.specs.Local.{IsFree, Locally}
use Rattle.elixir_terms.specs.Machine.{step, expected, IsNew}
use Rattle.elixir_terms.specs.Prefixes.{Leads, none as no_token, token as one_token}
use Rattle.term_tokens.specs.Tokens.{Begins, Blanks, none, blank, comment, line_end, AreTokens}
use Rattle.elixir_terms.specs.Within.{deepest}
use Rattle.term_tokens.proofs.BlankLemmas.{blank_past, blanks_after, blanks_meet, blanks_join}
use Rattle.term_tokens.proofs.FollowLemmas.{Like, same, like_after, moves, shifts}
use Rattle.elixir_terms.proofs.OpenLemmas.{runs}
use Rattle.elixir_terms.proofs.SoundLemmas.{need}
use Rattle.term_tokens.proofs.TokenLaws.{begins_one, begins_solid, begins_shorter}

-- a token that was read in a state, with nothing to refuse at its place
pub record Stood (s : State) (begin : List ℕ) (tok : Token) (after : List ℕ) (next : State) : Type 0 where
  pub begins : Begins begin tok after
  pub free : IsFree begin tok after
  pub narrow : IsNarrow tok
  pub calm : (k : ℕ) (why : TermCause) → Locally (expected s) begin k why → ⊥
  pub well : need s tok ≤ deepest
  pub stepped : step s tok ≡ Some next
  pub new : IsNew next

-- tokens that were read from a state to another one, and the text before and behind them
pub data Trail : List Token → State → State → List ℕ → List ℕ → Type 0 where
  rests : {s : State} {text rest : List ℕ} → Blanks text rest → past_blank rest ≡ None → Trail [] s s text rest
  steps : {tok : Token} {tokens : List Token} {s next last : State} {text begin after rest : List ℕ} → Blanks text begin → Stood s begin tok after next → Trail tokens next last after rest → Trail (tok ∷ tokens) s last text rest

-- one more token
pub trail_push : {tokens : List Token} {s last next : State} {text rest : List ℕ} (tok : Token) (after end : List ℕ) → Trail tokens s last text rest → Stood last rest tok after next → Blanks after end → past_blank end ≡ None → Trail (tokens ++ tok ∷ []) s next text end
trail_push tok after end (rests blanks solid) stood more there = steps blanks stood (rests more there)
trail_push tok after end (steps blanks stood trail) last more there = steps blanks stood (trail_push tok after end trail last more there)

pub trail_solid : {tokens : List Token} {s last : State} {text rest : List ℕ} → Trail tokens s last text rest → past_blank rest ≡ None
trail_solid (rests blanks solid) = solid
trail_solid (steps blanks stood trail) = trail_solid trail

pub trail_runs : {tokens : List Token} {s last : State} {text rest : List ℕ} → Trail tokens s last text rest → runs tokens s ≡ Some last
trail_runs (rests blanks solid) = refl
trail_runs {last = last} (steps {tokens = tokens} {next = next} blanks stood trail) = rw stood.stepped (trail_runs trail)

pub trail_leads : {tokens : List Token} {s last : State} {text rest : List ℕ} → Trail tokens s last text rest → Leads tokens text rest
trail_leads (rests blanks solid) = no_token blanks
trail_leads (steps blanks stood trail) = one_token blanks stood.begins (trail_leads trail)

-- the text in front of a rest, behind which others may stand
pub record Fronts (tokens : List Token) (text rest : List ℕ) : Type 0 where
  pub front : List ℕ
  pub split : text ≡ front ++ rest
  pub moved : (other : List ℕ) → Like rest other → Leads tokens (front ++ other) other

some_word : (word after start : List ℕ) → start ≡ word ++ after → length after < length start → (byte : ℕ) × (more : List ℕ) × (word ≡ byte ∷ more)
some_word [] after start e h = absurd (omega (arith, ap length e))
some_word (byte ∷ more) after start e h = (byte, more, refl)

like_word : (word after other start : List ℕ) → start ≡ word ++ after → length after < length start → Like start (word ++ other)
like_word word after other start e h =
    let w = some_word word after start e h in
    let left : start ≡ w.0 ∷ (w.1 ++ after) = e ∙ ap (λ l. l ++ after) w.2 in
    let right : word ++ other ≡ w.0 ∷ (w.1 ++ other) = ap (λ l. l ++ other) w.2 in
    rw (left, right) (same w.0)

pub trail_fronts : {tokens : List Token} {s last : State} {text rest : List ℕ} → Trail tokens s last text rest → Fronts tokens text rest
trail_fronts (rests blanks solid) = let h = shifts blanks solid in record { front = h.front; split = h.split; moved = λ other l. no_token (h.moved other l) }
trail_fronts {text = text} {rest = rest} (steps {tok = tok} {tokens = tokens} {begin = begin} {after = after} blanks stood trail) =
    let h = shifts blanks (begins_solid stood.begins) in
    let m = moves stood.begins stood.free in
    let f = trail_fronts trail in
    record {
      front = h.front ++ (m.word ++ f.front);
      split = h.split ∙ ap (λ l. h.front ++ l) (m.split ∙ ap (λ l. m.word ++ l) f.split ∙ sym (append_assoc m.word f.front rest)) ∙ sym (append_assoc h.front (m.word ++ f.front) rest);
      moved = λ other l.
          let whole : (h.front ++ (m.word ++ f.front)) ++ other ≡ h.front ++ (m.word ++ (f.front ++ other)) = append_assoc h.front (m.word ++ f.front) other ∙ ap (λ x. h.front ++ x) (append_assoc m.word f.front other) in
          let inner : Like after (f.front ++ other) = subst (λ x. Like x (f.front ++ other)) (sym f.split) (like_after f.front rest other l) in
          let outer : Like begin (m.word ++ (f.front ++ other)) = like_word m.word after (f.front ++ other) begin m.split (begins_shorter stood.begins) in
          subst (λ x. Leads (tok ∷ tokens) x other) (sym whole) (one_token (h.moved (m.word ++ (f.front ++ other)) outer) (m.moved (f.front ++ other) inner) (f.moved other l));
    }

-- blanks lead on from a place that other blanks lead to
pub blanks_from : {text middle : List ℕ} (end : List ℕ) → Blanks text middle → Blanks text end → past_blank end ≡ None → Blanks middle end
blanks_from end none h solid = h
blanks_from end (blank {byte = byte} {text = text} w b) h solid = blanks_from end b (blanks_after text (blank_past byte text w) solid h) solid
blanks_from end (comment {text = text} b) h solid = blanks_from end b (blanks_after (line_end text) refl solid h) solid

-- what the tokens of a text are behind those that lead to a rest
pub record Behind (tokens all : List Token) (rest : List ℕ) : Type 0 where
  pub others : List Token
  pub split : all ≡ tokens ++ others
  pub spelled : AreTokens others rest

pub behind : {tokens : List Token} {text rest : List ℕ} (all : List Token) → Leads tokens text rest → AreTokens all text → Behind tokens all rest
behind [] (no_token blanks) h = record { others = []; split = refl; spelled = blanks_from [] blanks h refl }
behind (tok ∷ all) (no_token blanks) h = record { others = tok ∷ all; split = refl; spelled = (h.0, h.1, blanks_from h.0 blanks h.2 (begins_solid h.3), h.3, h.4) }
behind [] (one_token blanks begins leads) h = absurd (no_begin (blanks_meet [] (begins_solid begins) refl blanks h) begins)
  where
    no_begin : {start : List ℕ} {tok : Token} {after : List ℕ} → start ≡ [] → Begins start tok after → ⊥
    no_begin {tok = tok} {after = after} e b = let short = begins_shorter b in omega (arith, ap length e)
behind (tok ∷ all) (one_token {start = start} {after = after} {token = token} blanks begins leads) h =
    let same : start ≡ h.0 = blanks_meet h.0 (begins_solid begins) (begins_solid h.3) blanks h.2 in
    let one = begins_one begins (subst (λ l. Begins l tok h.1) (sym same) h.3) in
    let b = behind all leads (subst (λ l. AreTokens all l) (sym one.1) h.4) in
    record { others = b.others; split = ap (λ t. t ∷ all) (sym one.0) ∙ ap (λ l. token ∷ l) b.split; spelled = b.spelled }

-- tokens that lead to a rest, and those of the rest
pub leads_join : {tokens : List Token} {text rest : List ℕ} (others : List Token) → Leads tokens text rest → AreTokens others rest → AreTokens (tokens ++ others) text
leads_join [] (no_token blanks) h = blanks_join [] blanks h
leads_join (tok ∷ others) (no_token blanks) h = (h.0, h.1, blanks_join h.0 blanks h.2, h.3, h.4)
leads_join others (one_token {start = start} {after = after} blanks begins leads) h = (start, after, blanks, begins, leads_join others leads h)

-- Tokens that start at a place, and how many levels they need.
use Rattle.std.proofs.Common.{◌≡◌, ℕ, ◌+◌, ◌<◌, ◌≤◌, true, eqb, List, [], ◌∷◌, ◌++◌, Some, None, length, drop, take, map, refl, sym, ap, subst, arith}
use Rattle.elixir_terms.specs.declared.state.State.{State}
use Rattle.elixir_terms.specs.declared.state.State.TheVariants as state
use Rattle.term_values.specs.declared.term.Term.{Term}
use Rattle.term_tokens.specs.declared.token.Token.{Token}
use Rattle.term_tokens.specs.declared.token.WordKind.{WordKind}
use Rattle.term_tokens.specs.declared.token.WordKind.TheVariants.{Strings}
use Rattle.term_tokens.specs.declared.token.Token.TheVariants.{Words}
use Rattle.term_tokens.specs.Lexing.{past_blank, inside_len, kind_of, words_from, words_before}
use Rattle.term_tokens.specs.Local.{takes}
use Rattle.elixir_terms.specs.Machine.{expected}
use Rattle.elixir_terms.specs.Refusals.{AreTooDeep, IsStarted, whole_token, open_words}
use Rattle.elixir_terms.specs.Refusals as far
use Rattle.term_tokens.specs.Tokens.{Begins}
use Rattle.elixir_terms.specs.Within.{deepest}
use Rattle.elixir_terms.proofs.EndLemmas.{state_ends}
use Rattle.elixir_terms.proofs.OpenLemmas.{runs, start, runs_push, passed_back}
use Rattle.term_tokens.proofs.OptionLemmas.{none_some, some_same, cond_some}
use Rattle.elixir_terms.proofs.PrefixLemmas.{AllSound, next_sound, takes_steps}
use Rattle.elixir_terms.proofs.Runs.{first_wants}
use Rattle.elixir_terms.proofs.SoundLemmas.{need}
use Rattle.term_tokens.proofs.TokenLaws.{begins_one, begins_solid, begins_shorter}
use Rattle.term_tokens.proofs.BeginLemmas.{begins_first}

-- what begins with `~w(` begins with words, if it begins with a token
pub words_only : {text : List ℕ} {tok : Token} {after : List ℕ} (more : List ℕ) → text ≡ 126 ∷ 119 ∷ 40 ∷ more → Begins text tok after → (kind : WordKind) × (ws : List (List ℕ)) × (tok ≡ Words kind ws)
words_only {tok = tok} {after = after} more e begins = by (take (inside_len more) more) (drop (inside_len more) more) (begins_first (subst (λ l. Begins l tok after) e begins))
  where
    same : (a : Token) (x : List ℕ) → ◌≡◌ {A = Token × List ℕ} (a, x) (tok, after) → tok ≡ a
    same a x e = sym (ap (λ p. p.0) e)

    by : (inside l : List ℕ) → words_before inside l ≡ Some (tok, after) → (kind : WordKind) × (ws : List (List ℕ)) × (tok ≡ Words kind ws)
    by inside [] h = absurd (none_some h)
    by inside (end ∷ text) h =
        let c = cond_some (eqb end 41) (Some (Words (kind_of text).0 (words_from [] inside), (kind_of text).1)) (tok, after) h in
        ((kind_of text).0, words_from [] inside, same (Words (kind_of text).0 (words_from [] inside)) (kind_of text).1 (some_same c.1))

pub started_solid : {text : List ℕ} {tok : Token} → IsStarted text tok → past_blank text ≡ None
started_solid (whole_token begins) = begins_solid begins
started_solid (open_words more e) = subst (λ l. past_blank l ≡ None) (sym e) refl

pub started_some : {text : List ℕ} {tok : Token} → IsStarted text tok → 0 < length text
started_some (whole_token begins) = let short = begins_shorter begins in omega arith
started_some (open_words more e) = omega (arith, ap length e)

-- words need as many levels whatever they are
pub need_words : (s : State) (kind : WordKind) (ws : List (List ℕ)) → need s (Words kind ws) ≡ need s (Words Strings [])
need_words (state.Value holes) kind ws = refl
need_words (state.Element frame holes) kind ws = refl
need_words (state.Separator frame holes) kind ws = refl
need_words (state.Arrow entry frame holes) kind ws = refl
need_words (state.Done t) kind ws = refl

-- what starts where a token was read is no deeper than that token
pub started_like : {text : List ℕ} {tok other : Token} {after : List ℕ} (s : State) → Begins text tok after → takes (expected s) tok ≡ true → need s tok ≤ deepest → IsStarted text other → (takes (expected s) other ≡ true) × (need s other ≤ deepest)
started_like s begins t n (whole_token b) =
    let one = begins_one begins b in
    (subst (λ x. takes (expected s) x ≡ true) one.0 t, subst (λ x. need s x ≤ deepest) one.0 n)
started_like s begins t n (open_words more e) =
    let w = words_only more e begins in
    (subst (λ x. takes (expected s) x ≡ true) w.2 t, subst (λ m. m ≤ deepest) (need_words s w.0 w.1) (subst (λ x. need s x ≤ deepest) w.2 n))

-- a token that leaves levels is not too deep
pub small_not_deep : (tokens : List Token) (s : State) (tok : Token) → runs tokens start ≡ Some s → AllSound s → takes (expected s) tok ≡ true → need s tok ≤ deepest → AreTooDeep (tokens ++ tok ∷ []) → ⊥
small_not_deep tokens s tok ran sound t n too =
    let next = takes_steps (deepest + 0) s tok (sound 0) t in
    let e = state_ends (deepest + 0) next.0 (next_sound (deepest + 0) s next.0 tok (sound 0) n next.1) in
    too.deep e.tokens e.u (first_wants e.u ((tokens ++ tok ∷ []) ++ e.tokens) (passed_back e.u (tokens ++ tok ∷ []) e.tokens start next.0 e.wanted (runs_push tokens tok start s next.0 ran next.1))) e.shallow

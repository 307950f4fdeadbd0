-- What can be decided of a state and a token.
use Rattle.std.specs.Prelude.{IsTrue, IsFalse}
use Rattle.std.proofs.Common.{◌≡◌, ℕ, ◌⊎◌, inl, inr, Bool, true, false, List, [], ◌∷◌, eqb, refl, sym, ◌∙◌, arith, ⊎_elim}
use Rattle.std.proofs.lemmas.Bool.{cases_lt, eqb-true, eqb-false, true≢false}
use Rattle.term_tokens.specs.declared.bracket.Bracket.{Bracket}
use Rattle.term_tokens.specs.declared.bracket.Bracket.TheVariants as bracket
use Rattle.term_tokens.specs.declared.cause.TermCause.{TermCause}
use Rattle.elixir_terms.specs.declared.state.State.{State}
use Rattle.elixir_terms.specs.declared.state.State.TheVariants as state
use Rattle.term_values.specs.declared.term.Term.{Term}
use Rattle.term_values.specs.declared.term.Term.TheVariants as term
use Rattle.term_tokens.specs.declared.token.Token.{Token}
use Rattle.term_tokens.specs.declared.token.Token.TheVariants.{Atom, Int, Str, Words, Key, Open, Close, Comma, Arrow}
use Rattle.term_tokens.specs.declared.token.WordKind.TheVariants.{Strings}
use Rattle.term_print.specs.Spells.{Spells}
use Rattle.elixir_terms.specs.Codes.{keys_in, has_code}
use Rattle.elixir_terms.specs.KeyCode.{term_code}
use Rattle.elixir_terms.specs.Machine.{expected, HasLevels, NewIn, NewKeyword, NewEntry}
use Rattle.elixir_terms.specs.Reading.{HasRoomAt, BeginsDeepWords}
use Rattle.elixir_terms.specs.Refusals.{IsRefusal}
use Rattle.elixir_terms.specs.Within.{deepest, Within}
use Rattle.elixir_terms.proofs.CodeLemmas.{none_from, none_to}
use Rattle.elixir_terms.proofs.KeptLemmas.{StateFits}
use Rattle.elixir_terms.proofs.NeedLemmas.{levels_need, need_levels}
use Rattle.elixir_terms.proofs.SnagLemmas.{NotDone}
use Rattle.elixir_terms.proofs.SoundLemmas.{need}

-- a refusal of the text
abbrev pub Refused : List ℕ → Type 0
Refused text = (at : ℕ) × (why : TermCause) × IsRefusal text at why

abbrev pub Answer : List ℕ → Type 0
Answer text = ((t : Term) × Spells text t × Within text t) ⊎ Refused text

-- what can be decided of a state and a token

pub done_or : (s : State) → ((t : Term) × (s ≡ state.Done t)) ⊎ NotDone s
done_or (state.Done t) = inl (t, refl)
done_or (state.Value holes) = inr (λ t e. cc)
done_or (state.Element frame holes) = inr (λ t e. cc)
done_or (state.Separator frame holes) = inr (λ t e. cc)
done_or (state.Arrow key frame holes) = inr (λ t e. cc)

pub levels_or : (s : State) (tok : Token) → StateFits s → HasLevels s tok ⊎ (HasLevels s tok → ⊥)
levels_or s tok fit = ⊎_elim (λ l. inr (λ h. let few = levels_need s tok h in omega arith)) (λ l. inl (need_levels s tok fit l)) (cases_lt deepest (need s tok))

new_or : (kind : Bracket) (key : Term) (keys : List Term) → NewIn kind key keys ⊎ (NewIn kind key keys → ⊥)
new_or bracket.List key keys = inl tt
new_or bracket.Tuple key keys = inl tt
new_or bracket.Map key keys = by (has_code keys (term_code key)) refl
  where
    by : (has : Bool) → has_code keys (term_code key) ≡ has → NewIn bracket.Map key keys ⊎ (NewIn bracket.Map key keys → ⊥)
    by false e = inl (none_from key keys e)
    by true e = inr (λ n. true≢false (sym e ∙ none_to key keys n))

pub keyword_or : (s : State) (tok : Token) → NewKeyword s tok ⊎ (NewKeyword s tok → ⊥)
keyword_or (state.Element frame holes) (Key name) = new_or frame.bracket (term.Atom name) (keys_in frame)
keyword_or (state.Element frame holes) (Atom name) = inl tt
keyword_or (state.Element frame holes) (Int n) = inl tt
keyword_or (state.Element frame holes) (Str bytes) = inl tt
keyword_or (state.Element frame holes) (Words kind ws) = inl tt
keyword_or (state.Element frame holes) (Open kind) = inl tt
keyword_or (state.Element frame holes) (Close closing) = inl tt
keyword_or (state.Element frame holes) Comma = inl tt
keyword_or (state.Element frame holes) Arrow = inl tt
keyword_or (state.Value holes) tok = inl tt
keyword_or (state.Separator frame holes) tok = inl tt
keyword_or (state.Arrow key frame holes) tok = inl tt
keyword_or (state.Done t) tok = inl tt

pub entry_or : (s : State) → NewEntry s ⊎ (NewEntry s → ⊥)
entry_or (state.Arrow key frame holes) = new_or frame.bracket key (keys_in frame)
entry_or (state.Value holes) = inl tt
entry_or (state.Element frame holes) = inl tt
entry_or (state.Separator frame holes) = inl tt
entry_or (state.Done t) = inl tt

pub no_outer_key : (s : State) → IsTrue (expected s).outermost → IsFalse (expected s).key
no_outer_key (state.Value holes) o = refl
no_outer_key (state.Element frame holes) o = absurd (cc)
no_outer_key (state.Separator frame holes) o = refl
no_outer_key (state.Arrow key frame holes) o = refl
no_outer_key (state.Done t) o = refl

-- words, whose end may be missing

abbrev OpensWords : List ℕ → Type 0
OpensWords text = (more : List ℕ) × (text ≡ 126 ∷ 119 ∷ 40 ∷ more)

words_by : (a b c : ℕ) (more : List ℕ) (tilde letter paren : Bool) → eqb a 126 ≡ tilde → eqb b 119 ≡ letter → eqb c 40 ≡ paren → OpensWords (a ∷ b ∷ c ∷ more) ⊎ (OpensWords (a ∷ b ∷ c ∷ more) → ⊥)
words_by a b c more true true true t l p = let x = eqb-true a 126 t in let y = eqb-true b 119 l in let z = eqb-true c 40 p in inl (more, cc)
words_by a b c more false letter paren t l p = inr (λ o. let e = o.1 in eqb-false a 126 t (cc))
words_by a b c more true false paren t l p = inr (λ o. let e = o.1 in eqb-false b 119 l (cc))
words_by a b c more true true false t l p = inr (λ o. let e = o.1 in eqb-false c 40 p (cc))

words_or : (text : List ℕ) → OpensWords text ⊎ (OpensWords text → ⊥)
words_or [] = inr (λ o. let e = o.1 in absurd (cc))
words_or (a ∷ []) = inr (λ o. let e = o.1 in absurd (cc))
words_or (a ∷ b ∷ []) = inr (λ o. let e = o.1 in absurd (cc))
words_or (a ∷ b ∷ c ∷ more) = words_by a b c more (eqb a 126) (eqb b 119) (eqb c 40) refl refl refl

pub room_or : (s : State) (text : List ℕ) → StateFits s → HasRoomAt s text ⊎ BeginsDeepWords s text
room_or s text fit = ⊎_elim (λ h. inl (λ more e t. h)) (λ lacks. ⊎_elim (λ o. taken lacks o (expected s).term refl) (λ other. inl (λ more e t. absurd (other (more, e)))) (words_or text)) (levels_or s (Words Strings []) fit)
  where
    taken : (HasLevels s (Words Strings []) → ⊥) → OpensWords text → (term : Bool) → (expected s).term ≡ term → HasRoomAt s text ⊎ BeginsDeepWords s text
    taken lacks o true e = inr (o.0, o.1, e, lacks)
    taken lacks o false e = inl (λ more same t. absurd (true≢false (sym t ∙ e)))

-- What the reader of a line knows at each token.
use Rattle.std.proofs.Common.{◌≡◌, ℕ, ◌≤◌, ◌||◌, Bool, true, false, List, [], ◌∷◌, ◌++◌, Some, None, eqb, length, refl, sym, ap, ◌∙◌, subst}
use Rattle.std.specs.List.{list_any}
use Rattle.std.proofs.lemmas.Bool.{eqb-true, eqb-false}
use Rattle.std.proofs.lemmas.List.{nil_from_length}
use Rattle.unit_lang.specs.declared.token.Token.{Token}
use Rattle.unit_lang.specs.declared.state.State.{State}
use Rattle.unit_lang.specs.declared.state.State.TheVariants as state
use Rattle.unit_lang.specs.Lexing.{too_great, first_token}
use Rattle.unit_lang.specs.Machine.{step, depth}
use Rattle.unit_lang.specs.Tokens.{Leads, end, without_blanks}
use Rattle.unit_lang.proofs.Steps.{Steps, steps_push}
use Rattle.unit_lang.proofs.TokenLemmas.{leads_push}

pub empty_is : (rest : List ℕ) (empty : Bool) → empty ≡ eqb (length rest) 0 → empty ≡ true → rest ≡ []
empty_is rest empty e h = nil_from_length rest (eqb-true (length rest) 0 (sym e ∙ h))

pub more_is : (rest : List ℕ) (empty : Bool) → empty ≡ eqb (length rest) 0 → empty ≡ false → rest ≡ [] → ⊥
more_is rest empty e h r = eqb-false (length rest) 0 (sym e ∙ h) (ap length r)

-- the text leads with tokens to the rest, and they lead to the state
pub record Reached (text : List ℕ) (s : State) (seen : Bool) (rest : List ℕ) : Type 0 where
  pub front : List Token
  pub leads : Leads text front rest
  pub steps : Steps 64 state.Start front s
  pub flag : seen ≡ list_any too_great front

pub reached_first : (text rest : List ℕ) → without_blanks text ≡ rest → Reached text state.Start false rest
reached_first text rest e = record { front = []; leads = end e; steps = refl; flag = refl }

any_push : (front : List Token) (tok : Token) (seen : Bool) → seen ≡ list_any too_great front → (seen || too_great tok) ≡ list_any too_great (front ++ tok ∷ [])
any_push front tok seen e = ap (λ b. b || too_great tok) e ∙ any_last front
  where
    or_false : (b : Bool) → b ≡ (b || false)
    or_false true = refl
    or_false false = refl

    or_assoc : (a b c : Bool) → (a || (b || c)) ≡ ((a || b) || c)
    or_assoc true b c = refl
    or_assoc false b c = refl

    any_last : (front : List Token) → (list_any too_great front || too_great tok) ≡ list_any too_great (front ++ tok ∷ [])
    any_last [] = or_false (too_great tok)
    any_last (t ∷ front) = sym (or_assoc (too_great t) (list_any too_great front) (too_great tok)) ∙ ap (λ b. too_great t || b) (any_last front)

pub reached_next : (text : List ℕ) (s next : State) (seen : Bool) (rest after later : List ℕ) (tok : Token) → Reached text s seen rest → first_token rest ≡ Some (tok, after) → step s tok ≡ Some next → depth next ≤ 64 → later ≡ without_blanks after → Reached text next (seen || too_great tok) later
reached_next text s next seen rest after later tok r found stepped room is = record {
  front = r.front ++ tok ∷ [];
  leads = subst (λ l. Leads text (r.front ++ tok ∷ []) l) (sym is) (leads_push text rest after r.front tok r.leads found);
  steps = steps_push 64 state.Start s next r.front tok r.steps stepped room;
  flag = any_push r.front tok seen r.flag;
}

-- no token goes on from the state
abbrev pub NoMore : State → List ℕ → Type 0
NoMore s rest = (tok : Token) (after : List ℕ) → first_token rest ≡ Some (tok, after) → step s tok ≡ None

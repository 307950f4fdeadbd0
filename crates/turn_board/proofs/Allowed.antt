-- Each step of a seat is allowed, by what is always true of the seat, and what the first seat's steps tell.
use Rattle.std.proofs.Common.{◌≡◌, ℕ, ◌+◌, ◌%◌, ◌^◌, ◌<◌, eqb, [], ◌∷◌, ◌++◌, length, refl, sym, ap, ◌∙◌, subst, arith}
use Rattle.std.specs.Prelude.{Option, Some, None}
use mathlib.Core.Option.{some, none}
use prog.Atomic.{either}
use Rattle.atomic_table.specs.Table.{State, Me, step, rest, Allows, Splits}
use Rattle.turn_board.specs.declared.sight.Tally.{Tally}
use Rattle.turn_board.specs.declared.sight.Sight.{Sight}
use Rattle.turn_board.specs.declared.sight.Stage.TheVariants.{Idle, Has}
use Rattle.turn_board.specs.Histories.{Account}
use Rattle.turn_board.specs.Sights.{seated, at_stage, first_of, split_off, splitter, blank}
use Rattle.turn_board.specs.Turn.{IsIdle, IsWaiting, looks, TurnRule, draws, counts, passes, opens}
use Rattle.turn_board.proofs.Counting.{counts_at, passes_at}
use Rattle.turn_board.proofs.Opening.{opens_at}
use Rattle.turn_board.proofs.Splitting.{splits_at}
use Rattle.turn_board.proofs.Steps.{draws_at, looks_at}
use Rattle.turn_board.proofs.Tokens.{having_slot}

module _ {X O E : Type 0} (account : Account X O E) (n : ℕ) where
  abbrev M : Type 0
  M = Me (Option X) (Sight O E)

  abbrev Rule : State (Option X) (Sight O E) → Type 0
  Rule = TurnRule account n

  pub draws_from : (slots id old new : ℕ) (m : M) → IsIdle m → new ≡ (old + 1) % 18446744073709551616
      → Allows Rule slots id m 0 (λ k. either (eqb k old) new k) (draws (step slots 0 old new none) m)
  draws_from slots id old new m w next = subst (λ z. Allows Rule slots id z 0 (λ k. either (eqb k old) new k) (draws (step slots 0 old new none) z))
      (sym w.2)
      (draws_at account n slots id 1 w.0 old new w.1 [] (omega arith) next)

  pub looks_from : (slots id ticket : ℕ) (m : M) → IsWaiting ticket m → Allows Rule slots id m 1 (λ k. k) (looks account (step slots 1 0 0 none) m)
  looks_from slots id ticket m w = subst (λ z. Allows Rule slots id z 1 (λ k. k) (looks account (step slots 1 0 0 none) z)) (sym w.3)
      (looks_at account n slots id 1 w.0 w.1 w.2 [] (omega arith))

  pub counts_from : (slots id nx t : ℕ) (r : Tally O E) (x : X) (e : E) (m : M) → m ≡ having_slot account nx t r x → account.history x ≡ r.seen ++ e ∷ []
      → account.maker e ≡ r.number → length (account.history x) < 2 ^ 64
      → Allows Rule slots id m 2 (λ k. (k + 1) % 18446744073709551616) (counts account.history (step slots 2 1 0 none) m)
  counts_from slots id nx t r x e m is grows own small =
      subst (λ z. Allows Rule slots id z 2 (λ k. (k + 1) % 18446744073709551616) (counts account.history (step slots 2 1 0 none) z)) (sym is)
      (counts_at account n slots id 1 nx t r x e (omega arith) grows own small)

  pub passes_from : (slots id nx t p : ℕ) (r : Tally O E) (x : X) (m : M) → 0 < p → m ≡ (seated p nx (Has t) r, (0, Some x) ∷ [])
      → account.history x ≡ r.seen → r.opening ≡ Some (account.opening x)
      → Allows Rule slots id m 1 (λ k. (k + 1) % 18446744073709551616) (passes (step slots 1 1 0 none) m)
  passes_from slots id nx t p r x m some_part is same opening =
      subst (λ z. Allows Rule slots id z 1 (λ k. (k + 1) % 18446744073709551616) (passes (step slots 1 1 0 none) z)) (sym is)
      (passes_at account n slots id p nx t r x some_part same opening)

  pub opens_from : (slots id : ℕ) (m : M) (x : X) → 0 < n → m ≡ (blank n, [])
      → Allows Rule slots id m 0 (λ k. either (eqb k 0) 1 k) (opens account (step slots 0 0 1 (some (Some x))) m)
  opens_from slots id m x some_seat e =
      subst (λ z. Allows Rule slots id z 0 (λ k. either (eqb k 0) 1 k) (opens account (step slots 0 0 1 (some (Some x))) z)) (sym e)
      (opens_at account n slots id x some_seat)

  abbrev pub opened_me : X → M
  opened_me x = (seated n 2 (Has 0) (first_of (Some (account.opening x))), (0, None) ∷ [])

  pub was_opened : (m m₁ : M) (x : X) → m ≡ (blank n, []) → opens account (step 1 0 0 1 (some (Some x))) m 0 m₁ → m₁ ≡ opened_me x
  was_opened m m₁ x e told = told x refl ∙ ap (λ (z : M). (seated z.0.parts 2 (Has 0) (first_of (Some (account.opening x))), (0, None) ∷ [])) e

  pub opened_put : (m₁ m₂ : M) (x : X) → m₁ ≡ opened_me x → m₂ ≡ (m₁.0, (0, Some x) ∷ rest m₁.1)
      → m₂ ≡ (seated n 2 (Has 0) (first_of (Some (account.opening x))), (0, Some x) ∷ [])
  opened_put m₁ m₂ x e is = is ∙ ap (λ (z : M). (z.0, (0, Some x) ∷ rest z.1)) e

  pub opened_passed : (m₂ m₃ : M) (x : X) → m₂ ≡ (seated n 2 (Has 0) (first_of (Some (account.opening x))), (0, Some x) ∷ [])
      → m₃ ≡ (at_stage Idle m₂.0, rest m₂.1) → m₃ ≡ (seated n 2 Idle (first_of (Some (account.opening x))), [])
  opened_passed m₂ m₃ x e is = is ∙ ap (λ (z : M). (at_stage Idle z.0, rest z.1)) e

  pub splits_from : (id p nx : ℕ) (r : Tally O E) (m : M) → m ≡ (seated p nx Idle r, []) → 1 < p → 0 < nx
      → Splits Rule id m.0 (splitter m.0) (split_off m.0)
  splits_from id p nx r m e more some_next = subst (λ (z : M). Splits Rule id z.0 (splitter z.0) (split_off z.0)) (sym e)
      (splits_at account n id p nx r more some_next)

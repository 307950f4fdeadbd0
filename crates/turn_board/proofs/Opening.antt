-- How a board gets its first value.
use Rattle.std.proofs.Common.{◌≡◌, ◌≢◌, ℕ, zero, suc, ◌<◌, ◌≤◌, eqb, [], ◌∷◌, set, refl, sym, ap, ◌∙◌, subst, inl, inr, ⊎_elim, arith}
use Rattle.std.specs.Prelude.{Option, Some, None, slice_index}
use mathlib.Core.Option.{some, none, some-injective, some-ne-none}
use lib.ListN.{get_elem?}
use prog.Atomic.{either}
use Rattle.atomic_table.specs.Table.{State, step, takes, stepped, opening, Allows}
use Rattle.turn_board.specs.declared.sight.Sight.{Sight}
use Rattle.turn_board.specs.declared.sight.Stage.TheVariants.{Has}
use Rattle.turn_board.specs.Histories.{Account}
use Rattle.turn_board.specs.Sights.{blank, seated, first_of, Apart}
use Rattle.turn_board.specs.Turn.{TurnRule, Turning, Fits, opens}
use Rattle.turn_board.proofs.Steps.{option_some}

module _ {X O E : Type 0} (account : Account X O E) (n : ℕ) where
  abbrev V : Type 0
  V = Sight O E

  abbrev Rule : State (Option X) V → Type 0
  Rule = TurnRule account n

  abbrev start_seat : V
  start_seat = blank n

  pub starts : n ≤ 64 → Rule (opening (0 ∷ 0 ∷ 0 ∷ []) (None ∷ []) (blank n))
  starts few = inl record { few = few; words = refl; homes = refl; views = refl }

  -- the first seat, on a board with this first value
  abbrev opener : X → V
  opener x = seated n 2 (Has 0) (first_of (Some (account.opening x)))

  abbrev opened : X → State (Option X) V
  opened x = record { words = 1 ∷ 0 ∷ 0 ∷ []; homes = none ∷ []; views = opener x ∷ [] }

  opened_turns : (x : X) → 0 < n → n ≤ 64 → Turning account n (opened x)
  opened_turns x some_seat few = record {
    start = account.opening x;
    log = [];
    drawn = 1;
    served = 0;
    words = refl;
    one_slot = refl;
    few = few;
    tickets = refl;
    whole = omega arith;
    counted = refl;
    makers = λ k (some : 0 < 0). absurd (omega arith);
    housed = inr (0, opener x, refl, refl);
    each = only;
    apart = alone;
  }
    where
      only : (j : ℕ) (v : V) → get_elem? (opener x ∷ []) j ≡ some v → Fits account (account.opening x) [] 1 0 (none ∷ []) v
      only zero v e = subst (Fits account (account.opening x) [] 1 0 (none ∷ [])) (some-injective _ _ e) record {
        named = λ _. omega arith;
        opened = (refl, tt);
        staged = (refl, omega arith, refl, (refl, tt));
        continues = (([], refl, refl), tt);
        below = λ k o _. ⊎_elim (λ (is : 1 ≡ k). omega arith) (λ (z : ⊥). absurd z) o;
        fresh = λ _ _ _. refl;
        nobody = λ (z : n ≡ 0). absurd (omega arith);
      }
      only (suc j) v e = absurd (some-ne-none v (sym e))

      alone : (i j : ℕ) (v w : V) → get_elem? (opener x ∷ []) i ≡ some v → get_elem? (opener x ∷ []) j ≡ some w → i ≢ j → Apart v w
      alone zero zero v w e e' apart = absurd (apart refl)
      alone zero (suc j) v w e e' apart = absurd (some-ne-none w (sym e'))
      alone (suc i) j v w e e' apart = absurd (some-ne-none v (sym e))

  pub opens_at : (slots id : ℕ) (x : X) → 0 < n
      → Allows Rule slots id (blank n, []) 0 (λ k. either (eqb k 0) 1 k) (opens account (step slots 0 0 1 (some (Some x))) (blank n, []))
  opens_at slots id x some_seat s (inr t) _ at _ = absurd (let l = (t.each id start_seat at).named some_seat in omega arith)
  opens_at slots id x some_seat s (inl b) _ at _ = (
    opener x,
    takes 0 None,
    ap (λ h. get_elem? h 0) b.homes,
    inr (subst (Turning account n) (sym becomes) (opened_turns x some_seat b.few)),
    λ y is. ap (λ z. (opener z, (0, None) ∷ [])) (option_some x y (some-injective _ _ is)),
  )
    where
      first : (k : ℕ) → get_elem? (start_seat ∷ []) k ≡ some start_seat → k ≡ 0
      first zero e = refl
      first (suc k) e = absurd (some-ne-none start_seat (sym e))

      becomes : stepped s 0 (either (eqb (slice_index s.words 0) 0) 1 (slice_index s.words 0)) id [] (opener x) (takes 0 None) ≡ opened x
      becomes = λ i. record {
        words = ap (λ ws. set ws 0 (either (eqb (slice_index ws 0) 0) 1 (slice_index ws 0))) b.words i;
        homes = ap (λ h. set h 0 none) b.homes i;
        views = (ap (λ vs. set vs id (opener x)) b.views ∙ ap (λ k. set (start_seat ∷ []) k (opener x))
            (first id (subst (λ vs. get_elem? vs id ≡ some start_seat) b.views at))) i;
      }

-- What a board ends with.
use Rattle.std.proofs.Common.{◌≡◌, ◌≢◌, ℕ, ◌<◌, List, [], ◌∷◌, length, sym, ap, ◌∙◌, subst, ⊎_elim, arith}
use Rattle.std.specs.Prelude.{Option, Some}
use mathlib.Core.Logic.{dite}
use mathlib.Core.Option.{some, some-injective}
use native.Mathlib.Decide.{ℕ_discrete}
use lib.ListN.{get_elem?}
use Rattle.atomic_table.specs.Table.{State, Final, Seen}
use Rattle.turn_board.specs.declared.sight.Tally.{Tally}
use Rattle.turn_board.specs.declared.sight.Sight.{Sight}
use Rattle.turn_board.specs.declared.sight.Stage.TheVariants.{Idle, Has}
use Rattle.turn_board.specs.Histories.{Account, Continues, made_by, total}
use Rattle.turn_board.specs.Sights.{Each, Owns, share, events}
use Rattle.turn_board.specs.Turn.{IsOwned, TurnRule}
use Rattle.turn_board.proofs.Steps.{turning, idle_not_has}
use Rattle.turn_board.proofs.Sums.{total_two, total_one}

module _ {X O E : Type 0} (account : Account X O E) (n : ℕ) where
  abbrev V : Type 0
  V = Sight O E

  abbrev Rule : State (Option X) V → Type 0
  Rule = TurnRule account n

  -- what the board ends with, where one seat has taken in all the others
  pub ends : (ws : List ℕ) (xs : List (Option X)) (id : ℕ) (v : V) (r : Tally O E) (rs : List (Tally O E)) → v.parts ≡ n → 0 < n → v.stage ≡ Idle
      → v.tallies ≡ r ∷ rs → Final (Seen Rule id v) ws xs
      → (x : X) × (get_elem? xs 0 ≡ some (Some x)) × Each (λ y. y.opening ≡ Some (account.opening x)) v.tallies
      × Each (λ y. Continues account.maker y.number y.seen (account.history x)) v.tallies × (length (account.history x) ≡ total (λ y. y.made) v.tallies)
      × ((k : ℕ) → 0 < made_by account.maker k (account.history x) → Owns k v.tallies)
  ends ws xs id v r rs all some_seat idle tally final =
      let s = final.0 in
      let at = final.1.1 in
      let q = turning account n s id v r rs tally at final.1.0 in
      let f = q.each id v at in
      let gone : (j : ℕ) (u : V) → j ≢ id → get_elem? s.views j ≡ some u → u.parts ≡ 0 = λ j u other e. let a = total_two share s.views j id u v other e at in
      let b = q.whole in omega arith in
      let home : (x : X) × (s.homes ≡ some (Some x) ∷ []) × (account.opening x ≡ q.start) × (account.history x ≡ q.log) =
      ⊎_elim (λ x. x)
      (λ (h : (j : ℕ) × (u : V) × (get_elem? s.views j ≡ some u) × (u.stage ≡ Has q.served)). absurd (dite (ℕ_discrete h.0 id)
      (λ e. idle_not_has (sym idle ∙ (ap (λ (y : V). y.stage) (some-injective v h.1 (sym at ∙ (ap (get_elem? s.views) (sym e) ∙ h.2))) ∙ h.3)))
      (λ other. idle_not_has (sym ((q.each h.0 h.1 h.2).nobody (gone h.0 h.1 other h.2)).0 ∙ h.3))))
      q.housed in
      let mine : (k : ℕ) → IsOwned s.views k → Owns k v.tallies = λ k o. dite (ℕ_discrete o.0 id)
      (λ e. subst (λ (y : V). Owns k y.tallies) (some-injective o.1 v (sym o.2 ∙ (ap (get_elem? s.views) e ∙ at))) o.3)
      (λ other. absurd (subst (Owns k) ((q.each o.0 o.1 o.2).nobody (gone o.0 o.1 other o.2)).1 o.3)) in
      let x = home.0 in
      let counted : total events s.views ≡ events v = total_one events s.views id v at
      (λ j u other e. ap (λ (l : List (Tally O E)). total (λ y. y.made) l) ((q.each j u e).nobody (gone j u other e)).1) in (
        x,
        final.4 0 (Some x) (ap (λ h. get_elem? h 0) home.1),
        subst (λ o. Each (λ y. y.opening ≡ Some o) v.tallies) (sym home.2) f.opened,
        subst (λ l. Each (λ y. Continues account.maker y.number y.seen l) v.tallies) (sym home.3) f.continues,
        ap length home.3 ∙ (sym q.counted ∙ counted),
        (λ k some. mine k (q.makers k (subst (λ l. 0 < made_by account.maker k l) home.3 some))),
      )

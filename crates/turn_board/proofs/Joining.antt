-- How a seat takes in another.
use Rattle.std.proofs.Common.{◌≡◌, ◌≢◌, ℕ, ◌+◌, ◌<◌, List, ◌∷◌, length, set, refl, sym, ap, ◌∙◌, subst, inr, ⊎_elim, arith, length-append}
use Rattle.std.specs.Prelude.{Option, Some}
use mathlib.Core.Option.{some}
use lib.ListN.{get_elem?}
use Rattle.atomic_table.specs.Table.{State, Joins}
use Rattle.atomic_table.proofs.Lists.{at_set}
use Rattle.turn_board.specs.declared.sight.Tally.{Tally}
use Rattle.turn_board.specs.declared.sight.Sight.{Sight}
use Rattle.turn_board.specs.declared.sight.Stage.TheVariants.{Idle}
use Rattle.turn_board.specs.Histories.{Account, Continues}
use Rattle.turn_board.specs.Sights.{joined, spent, holding, share, events, tickets_of, HasTicket, Apart}
use Rattle.turn_board.specs.Turn.{TurnRule, Fits, OnStage}
use Rattle.turn_board.proofs.Frames.{owned_joined, each_set, owns_append, housed_set, apart_set_on}
use Rattle.turn_board.proofs.Steps.{turning, idle_not_has}
use Rattle.turn_board.proofs.Sums.{total_set, total_append, each_append}

module _ {X O E : Type 0} (account : Account X O E) (n : ℕ) where
  abbrev V : Type 0
  V = Sight O E

  abbrev Rule : State (Option X) V → Type 0
  Rule = TurnRule account n

  pub joins_at : (id : ℕ) (v : V) (other : ℕ) (u : V) (r : Tally O E) (rs : List (Tally O E)) → 0 < v.parts → v.stage ≡ Idle → u.stage ≡ Idle
      → v.tallies ≡ r ∷ rs → Joins Rule id v other u (joined v u) spent
  joins_at id v other u r rs some_part idle idle' tally s kept at apart there =
      let q = turning account n s id v r rs tally at kept in
      let w : V = joined v u in
      let vs : List V = set s.views id w in
      let there' : get_elem? s.views other ≡ some u = ⊎_elim (λ (t : (other ≡ id) × (w ≡ u)). absurd (apart t.0))
      (λ (t : (other ≢ id) × (get_elem? s.views other ≡ some u)). t.1) (at_set s.views id other w u there) in
      let f = q.each id v at in
      let g = q.each other u there' in
      let held = total_set holding s.views id v w at in
      let shared = total_set share s.views id v w at in
      let made = total_set events s.views id v w at in
      let held' = total_set holding vs other u spent there in
      let shared' = total_set share vs other u spent there in
      let made' = total_set events vs other u spent there in
      let tallies = total_append (λ (y : Tally O E). y.made) u.tallies v.tallies in
      let tickets = q.tickets in
      let whole = q.whole in
      let counted = q.counted in
      let no_ticket : tickets_of v.stage ≡ 0 = ap tickets_of idle in
      let no_ticket' : tickets_of u.stage ≡ 0 = ap tickets_of idle' in
      let Fit : V → Type 0 = Fits account q.start q.log q.drawn q.served s.homes in
      let none : (t : ℕ) → HasTicket t v.stage → ⊥ = λ t h. subst (HasTicket t) idle h in
      let one = each_set Fit s.views id w record {
        named = λ _. let l = length-append u.tallies v.tallies in let k : length v.tallies ≡ length (r ∷ rs) = ap length tally in omega arith;
        opened = each_append (λ y. y.opening ≡ Some q.start) u.tallies v.tallies g.opened f.opened;
        staged = subst (λ st. OnStage account q.start q.log q.drawn q.served s.homes w.tallies st) (sym idle) tt;
        continues = each_append (λ y. Continues account.maker y.number y.seen q.log) u.tallies v.tallies g.continues f.continues;
        below = λ _ _ z. absurd (omega arith);
        fresh = λ _ z _. absurd (omega arith);
        nobody = λ (z : v.parts + u.parts ≡ 0). absurd (omega arith);
      } (λ j y _ e. q.each j y e) in
      let mine : (j : ℕ) (y : V) → j ≢ other → j ≢ id → get_elem? s.views j ≡ some y → Apart w y × Apart y w = λ j y far far' e.
      let a = q.apart id j v y at e (λ z. far' (sym z)) in
      let b = q.apart j id y v e at far' in
      let c = q.apart other j u y there' e (λ z. far (sym z)) in
      let d = q.apart j other y u e there' far in (
        record {
          tickets = λ t h _. none t h;
          numbers = λ k x z. ⊎_elim (λ o. c.numbers k o z) (λ o. a.numbers k o z) (owns_append k u.tallies v.tallies x);
          above = λ k _ z. absurd (omega arith);
          one_next = λ z. absurd (omega arith);
        },
        record {
          tickets = λ t _ h. none t h;
          numbers = λ k z x. ⊎_elim (λ o. d.numbers k z o) (λ o. b.numbers k z o) (owns_append k u.tallies v.tallies x);
          above = λ k x l. ⊎_elim (λ o. d.above k o l) (λ o. b.above k o l) (owns_append k u.tallies v.tallies x);
          one_next = λ _. refl;
        },
      ) in
      inr record {
        start = q.start;
        log = q.log;
        drawn = q.drawn;
        served = q.served;
        words = q.words;
        one_slot = q.one_slot;
        few = q.few;
        tickets = omega arith;
        whole = omega arith;
        counted = omega arith;
        makers = λ k some. owned_joined s.views id other k v u w spent apart at there' refl (q.makers k some);
        housed = housed_set account q.start q.log q.log q.drawn q.drawn q.served s.homes vs other u spent there refl
            (λ e. absurd (idle_not_has (sym idle' ∙ e)))
            (housed_set account q.start q.log q.log q.drawn q.drawn q.served s.homes s.views id v w at refl (λ e. absurd (idle_not_has (sym idle ∙ e)))
            q.housed);
        each = each_set Fit vs other spent
            record {
              named = λ z. absurd (omega arith);
              opened = tt;
              staged = tt;
              continues = tt;
              below = λ _ o _. absurd o;
              fresh = λ _ z _. absurd (omega arith);
              nobody = λ _. (refl, refl);
            }
            (λ j y _ e. one j y e);
        apart = λ i₀ j₀ v₀ u₀. apart_set_on (λ _. Unit {0}) vs other spent
            (λ j y _ _ _. (
              record { tickets = λ t h _. h; numbers = λ k o _. o; above = λ k _ z. absurd (omega arith); one_next = λ z. absurd (omega arith) },
              record { tickets = λ t _ h. h; numbers = λ k _ o. o; above = λ k o _. absurd o; one_next = λ _. refl },
            ))
            (λ i j x y _ _ far far' e e'. apart_set_on (λ k. k ≢ other) s.views id w mine (λ i j x y _ _ _ _. q.apart i j x y) i j x y far far' e e') i₀ j₀ v₀
            u₀ tt tt;
      }

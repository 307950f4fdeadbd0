-- How a seat is split off the first.
use Rattle.std.proofs.Common.{◌≡◌, ◌≢◌, ℕ, ◌+◌, ◌-◌, ◌<◌, List, [], ◌∷◌, set, refl, sym, ap, inr, ⊎_elim, arith}
use Rattle.std.specs.Prelude.{Option}
use mathlib.Core.Option.{some}
use lib.ListN.{get_elem?}
use Rattle.atomic_table.specs.Table.{State, Splits}
use Rattle.turn_board.specs.declared.sight.Tally.{Tally}
use Rattle.turn_board.specs.declared.sight.Sight.{Sight}
use Rattle.turn_board.specs.declared.sight.Stage.TheVariants.{Idle}
use Rattle.turn_board.specs.Histories.{Account, made_by}
use Rattle.turn_board.specs.Sights.{seated, splitter, split_off, holding, share, events, Apart}
use Rattle.turn_board.specs.Turn.{TurnRule, Fits}
use Rattle.turn_board.proofs.Frames.{owned_set, owned_snoc, each_set, apart_set, housed_snoc, housed_set, each_snoc, apart_snoc}
use Rattle.turn_board.proofs.Steps.{turning, idle_not_has}
use Rattle.turn_board.proofs.Sums.{total_set, total_append, made_by_append}

module _ {X O E : Type 0} (account : Account X O E) (n : ℕ) where
  abbrev V : Type 0
  V = Sight O E

  abbrev Rule : State (Option X) V → Type 0
  Rule = TurnRule account n

  pub splits_at : (id p nx : ℕ) (r : Tally O E) → 1 < p → 0 < nx
      → Splits Rule id (seated p nx Idle r) (splitter (seated p nx Idle r)) (split_off (seated p nx Idle r))
  splits_at id p nx r more some_next s kept at =
      let v : V = seated p nx Idle r in
      let q = turning account n s id v r [] refl at kept in
      let f = q.each id v at in
      let w : V = seated (p - 1) (nx + 1) Idle r in
      let new : V = seated 1 0 Idle record { number = nx; opening = r.opening; seen = r.seen; made = 0 } in
      let vs : List V = set s.views id w in
      let held = total_set holding s.views id v w at in
      let shared = total_set share s.views id v w at in
      let made = total_set events s.views id v w at in
      let held' = total_append holding vs (new ∷ []) in
      let shared' = total_append share vs (new ∷ []) in
      let made' = total_append events vs (new ∷ []) in
      let tickets = q.tickets in
      let whole = q.whole in
      let counted = q.counted in
      let seen = f.continues.0 in
      let unused : made_by account.maker nx seen.0 ≡ 0 = let a = f.fresh nx some_next (omega arith) in let b = ap (made_by account.maker nx) seen.1 in
      let c = made_by_append account.maker nx r.seen seen.0 in omega arith in
      let Fit : V → Type 0 = Fits account q.start q.log q.drawn q.served s.homes in
      let fit : Fit w = record {
        named = λ _. omega arith;
        opened = f.opened;
        staged = tt;
        continues = f.continues;
        below = λ k own _. let b = f.below k own some_next in omega arith;
        fresh = λ k _ l. f.fresh k some_next (omega arith);
        nobody = λ (z : p - 1 ≡ 0). absurd (omega arith);
      } in
      let fit_new : Fit new = record {
        named = λ _. omega arith;
        opened = f.opened;
        staged = tt;
        continues = ((seen.0, seen.1, unused), tt);
        below = λ _ _ z. absurd (omega arith);
        fresh = λ _ z _. absurd (omega arith);
        nobody = λ (z : 1 ≡ 0). absurd (omega arith);
      } in
      let each_old = each_set Fit s.views id w fit (λ j u _ e. q.each j u e) in
      let apart_old = apart_set s.views id w
      (λ j u other e.
      let a = q.apart id j v u at e (λ z. other (sym z)) in
      let b = q.apart j id u v e at other in (
        record {
          tickets = a.tickets;
          numbers = a.numbers;
          above = λ k own _. let l = a.above k own some_next in omega arith;
          one_next =
              λ _. a.one_next some_next;
        },
        record { tickets = b.tickets; numbers = b.numbers; above = b.above; one_next = λ l. absurd (let z = a.one_next some_next in omega arith) },
      ))
      q.apart in
      let next_of_others : (j : ℕ) (u : V) → j ≢ id → get_elem? s.views j ≡ some u
      → u.next ≡ 0 = λ j u other e. (q.apart id j v u at e (λ z. other (sym z))).one_next some_next in
      let with_new : (j : ℕ) (u : V) → get_elem? vs j ≡ some u → Apart new u × Apart u new = each_set (λ u. Apart new u × Apart u new) s.views id w (
        record {
          tickets = λ t h _. h;
          numbers = λ k x y. ⊎_elim (λ (is : nx ≡ k). let l = f.below k y some_next in absurd (omega arith)) (λ (z : ⊥). absurd z) x;
          above = λ k _ z. absurd (omega arith);
          one_next = λ z. absurd (omega arith);
        },
        record {
          tickets = λ t h _. h;
          numbers = λ k y x. ⊎_elim (λ (is : nx ≡ k). let l = f.below k y some_next in absurd (omega arith)) (λ (z : ⊥). absurd z) x;
          above = λ k x _. ⊎_elim (λ (is : nx ≡ k). omega arith) (λ (z : ⊥). absurd z) x;
          one_next = λ _. refl;
        },
      )
      (λ j u other e.
      let a = q.apart id j v u at e (λ z. other (sym z)) in
      let none_next = next_of_others j u other e in (
        record {
          tickets = λ t h _. h;
          numbers = λ k x y. ⊎_elim (λ (is : nx ≡ k). let l = a.above k y some_next in absurd (omega arith)) (λ (z : ⊥). absurd z) x;
          above = λ k _ z. absurd (omega arith);
          one_next = λ z. absurd (omega arith);
        },
        record {
          tickets = λ t _ h. h;
          numbers = λ k y x. ⊎_elim (λ (is : nx ≡ k). let l = a.above k y some_next in absurd (omega arith)) (λ (z : ⊥). absurd z) x;
          above = λ k _ z. absurd (omega arith);
          one_next = λ _. refl;
        },
      )) in
      inr record {
        start = q.start;
        log = q.log;
        drawn = q.drawn;
        served = q.served;
        words = q.words;
        one_slot = q.one_slot;
        few = q.few;
        tickets = omega arith;
        whole = omega arith;
        counted = omega arith;
        makers = λ k some. owned_snoc vs new k (owned_set s.views id k v w at (λ o. o) (q.makers k some));
        housed = housed_snoc account q.start q.log q.drawn q.served s.homes vs new
            (housed_set account q.start q.log q.log q.drawn q.drawn q.served s.homes s.views id v w at refl (λ e. absurd (idle_not_has e)) q.housed);
        each = each_snoc Fit vs new fit_new each_old;
        apart = apart_snoc vs new with_new apart_old;
      }

-- The steps of a seat that has the value, to count an event and to pass on, keep the rule.
use Rattle.std.proofs.Common.{◌≡◌, ℕ, ◌+◌, ◌%◌, ◌^◌, ◌<◌, [], ◌∷◌, ◌++◌, length, set, refl, sym, ap, ◌∙◌, subst, inl, inr, arith, length-append}
use Rattle.std.specs.Prelude.{Option, Some, slice_index}
use mathlib.Core.List.{append-nil}
use mathlib.Core.Logic.{dite}
use mathlib.Core.Option.{some, none}
use native.Mathlib.Decide.{ℕ_discrete}
use Rattle.atomic_table.specs.Table.{State, step, keeps, gives, Allows}
use Rattle.turn_board.specs.declared.sight.Tally.{Tally}
use Rattle.turn_board.specs.declared.sight.Sight.{Sight}
use Rattle.turn_board.specs.declared.sight.Stage.TheVariants.{Idle, Has}
use Rattle.turn_board.specs.Histories.{Account, made_by}
use Rattle.turn_board.specs.Sights.{seated, holding, share, events, Owns}
use Rattle.turn_board.specs.Turn.{TurnRule, counts, Fits, passes}
use Rattle.turn_board.proofs.Frames.{owned_set, each_set, fits_grown, apart_set, fits_quiet, apart_kept}
use Rattle.turn_board.proofs.Steps.{turning, option_some}
use Rattle.turn_board.proofs.Sums.{total_set, set_at, made_by_more}

module _ {X O E : Type 0} (account : Account X O E) (n : ℕ) where
  abbrev V : Type 0
  V = Sight O E

  abbrev Rule : State (Option X) V → Type 0
  Rule = TurnRule account n

  pub counts_at : (slots id p nx t : ℕ) (r : Tally O E) (x : X) (e : E) → 0 < p → account.history x ≡ r.seen ++ e ∷ [] → account.maker e ≡ r.number
      → length (account.history x) < 2 ^ 64
      → Allows Rule slots id (seated p nx (Has t) r, (0, Some x) ∷ []) 2 (λ k. (k + 1) % 18446744073709551616)
      (counts account.history (step slots 2 1 0 none) (seated p nx (Has t) r, (0, Some x) ∷ []))
  counts_at slots id p nx t r x e some_part grows own small s kept _ at _ =
      let v : V = seated p nx (Has t) r in
      let q = turning account n s id v r [] refl at kept in
      let f = q.each id v at in
      let now : t ≡ q.served = f.staged.0 in
      let seen : r.seen ≡ q.log = f.staged.3.0 in
      let longer : account.history x ≡ q.log ++ e ∷ [] = grows ∙ ap (λ l. l ++ e ∷ []) seen in
      let length_is : length (account.history x) ≡ length q.log + 1 = ap length longer ∙ length-append q.log (e ∷ []) in
      let w : V = seated p nx (Has t) record { number = r.number; opening = r.opening; seen = account.history x; made = r.made + 1 } in
      let held = total_set holding s.views id v w at in
      let shared = total_set share s.views id v w at in
      let made = total_set events s.views id v w at in
      let tickets = q.tickets in
      let whole = q.whole in
      let counted = q.counted in (
        w,
        keeps,
        tt,
        inr record {
          start = q.start;
          log = account.history x;
          drawn = q.drawn;
          served = q.served;
          words = ap (λ ws. set ws 2 ((slice_index ws 2 + 1) % 18446744073709551616)) q.words
              ∙ ap (λ k. (q.drawn % 18446744073709551616) ∷ (q.served % 18446744073709551616) ∷ k ∷ []) (omega arith);
          one_slot = q.one_slot;
          few = q.few;
          tickets = omega arith;
          whole = omega arith;
          counted = omega arith;
          makers = λ k some. dite (ℕ_discrete (account.maker e) k)
              (λ is. (id, w, set_at s.views id v w at, inl (sym own ∙ is)))
              (λ ne. owned_set s.views id k v w at (λ o. o)
              (q.makers k (let b = ap (made_by account.maker k) longer ∙ made_by_more account.maker k q.log e ne in omega arith)));
          housed = inr (id, w, set_at s.views id v w at, ap Has now);
          each = each_set (Fits account q.start (account.history x) q.drawn q.served s.homes) s.views id w
              record {
                named = λ _. omega arith;
                opened = f.opened;
                staged = (now, f.staged.1, f.staged.2, (refl, tt));
                continues = (([], sym (append-nil (account.history x)), refl), tt);
                below = f.below;
                fresh = λ k l m. let b = f.below r.number (inl refl) l in
                    ap (made_by account.maker k) longer ∙ made_by_more account.maker k q.log e (λ same. omega arith) ∙ f.fresh k l m;
                nobody = λ (z : p ≡ 0). absurd (omega arith);
              }
              (λ j u other h.
              let b = q.apart j id u v h at other in
              fits_grown account q.start q.log (account.history x) e q.drawn q.served s.homes u longer
              (λ k. b.tickets q.served k now)
              (λ k. b.numbers r.number (subst (λ z. Owns z u.tallies) own k) (inl refl))
              (λ l. let a = b.above r.number (inl refl) l in omega arith)
              (q.each j u h));
          apart = apart_set s.views id w
              (λ j u other h.
              let a = q.apart id j v u at h (λ z. other (sym z)) in
              let b = q.apart j id u v h at other in (
                record { tickets = a.tickets; numbers = a.numbers; above = a.above; one_next = a.one_next },
                record { tickets = b.tickets; numbers = b.numbers; above = b.above; one_next = b.one_next },
              ))
              q.apart;
        },
        refl,
      )

  pub passes_at : (slots id p nx t : ℕ) (r : Tally O E) (x : X) → 0 < p → account.history x ≡ r.seen → r.opening ≡ Some (account.opening x)
      → Allows Rule slots id (seated p nx (Has t) r, (0, Some x) ∷ []) 1 (λ k. (k + 1) % 18446744073709551616)
      (passes (step slots 1 1 0 none) (seated p nx (Has t) r, (0, Some x) ∷ []))
  passes_at slots id p nx t r x some_part same opening s kept _ at _ =
      let v : V = seated p nx (Has t) r in
      let q = turning account n s id v r [] refl at kept in
      let f = q.each id v at in
      let now : t ≡ q.served = f.staged.0 in
      let home : set s.homes 0 (some (Some x)) ≡ some (Some x) ∷ [] = ap (λ h. set h 0 (some (Some x))) f.staged.2 in
      let w : V = seated p nx Idle r in
      let held = total_set holding s.views id v w at in
      let shared = total_set share s.views id v w at in
      let made = total_set events s.views id v w at in
      let tickets = q.tickets in
      let whole = q.whole in
      let counted = q.counted in (
        w,
        gives,
        tt,
        inr record {
          start = q.start;
          log = q.log;
          drawn = q.drawn;
          served = q.served + 1;
          words = ap (λ ws. set ws 1 ((slice_index ws 1 + 1) % 18446744073709551616)) q.words
              ∙ ap (λ k. (q.drawn % 18446744073709551616) ∷ k ∷ length q.log ∷ []) (omega arith);
          one_slot = ap length home;
          few = q.few;
          tickets = omega arith;
          whole = omega arith;
          counted = omega arith;
          makers = λ k some. owned_set s.views id k v w at (λ o. o) (q.makers k some);
          housed = inl (x, home, option_some (account.opening x) q.start (sym opening ∙ f.opened.0), same ∙ f.staged.3.0);
          each = each_set (Fits account q.start q.log q.drawn (q.served + 1) (set s.homes 0 (some (Some x)))) s.views id w
              record {
                named = λ _. omega arith;
                opened = f.opened;
                staged = tt;
                continues = f.continues;
                below = f.below;
                fresh = f.fresh;
                nobody = λ (z : p ≡ 0). absurd (omega arith);
              }
              (λ j u other h. fits_quiet account q.start q.log q.drawn q.served (q.served + 1) s.homes (set s.homes 0 (some (Some x))) u (omega arith)
              (λ k. (q.apart j id u v h at other).tickets q.served k now) (q.each j u h));
          apart = apart_set s.views id w
              (λ j u other h. apart_kept v w u refl refl (λ k k'. absurd k') (q.apart id j v u at h (λ z. other (sym z)), q.apart j id u v h at other))
              q.apart;
        },
        refl,
      )

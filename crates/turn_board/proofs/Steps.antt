-- Each kind of step keeps the rule.
use Rattle.std.proofs.Common.{◌≡◌, ℕ, zero, suc, ◌+◌, ◌%◌, ◌<◌, ◌≤◌, eqb, ne_eqb, eq-eqb, List, [], ◌∷◌, length, set, refl, sym, ap, ◌∙◌, subst, inl, inr, ⊎_elim, arith}
use Rattle.std.specs.Prelude.{Option, Some, None, slice_index}
use mathlib.Core.Logic.{dite}
use mathlib.Core.List.{append-nil}
use mathlib.Core.Option.{some, none, some-injective, some-ne-none}
use native.Mathlib.Decide.{ℕ_discrete}
use lib.ListN.{get_elem?}
use lib.Seq.{set-get_or}
use prog.Atomic.{either}
use Rattle.atomic_table.specs.Table.{State, step, keeps, takes, stepped, Allows}
use Rattle.atomic_table.proofs.Lists.{one_turn, set_again}
use Rattle.turn_board.specs.declared.sight.Tally.{Tally}
use Rattle.turn_board.specs.declared.sight.Sight.{Sight}
use Rattle.turn_board.specs.declared.sight.Stage.{Stage}
use Rattle.turn_board.specs.declared.sight.Stage.TheVariants.{Idle, Waits, Has}
use Rattle.turn_board.specs.Histories.{Account}
use Rattle.turn_board.specs.Sights.{blank, holding, share, tickets_of, seated, events, HasTicket}
use Rattle.turn_board.specs.Turn.{TurnRule, Turning, draws, drew, Fits, looks}
use Rattle.turn_board.proofs.Frames.{housed_set, owned_set, each_set, fits_drawn, apart_set, ticket_drawn, has_its_ticket, fits_quiet}
use Rattle.turn_board.proofs.Sums.{total_below, total_set, set_at}

pub idle_not_has : {k : ℕ} → Idle ≡ Has k → ⊥
idle_not_has {k} e = subst idle e tt
  where
    idle : Stage → Type 0
    idle Idle = Unit {0}
    idle (Waits u) = ⊥
    idle (Has u) = ⊥

pub waits_not_has : {t k : ℕ} → Waits t ≡ Has k → ⊥
waits_not_has {t} {k} e = subst waiting e tt
  where
    waiting : Stage → Type 0
    waiting Idle = ⊥
    waiting (Waits u) = Unit {0}
    waiting (Has u) = ⊥

pub option_some : {A : Type 0} (a b : A) → Some a ≡ Some b → a ≡ b
option_some a b e = ap (or a) e
  where
    or : {A : Type 0} → A → Option A → A
    or d (Some y) = y
    or d None = d

module _ {X O E : Type 0} (account : Account X O E) (n : ℕ) where
  abbrev V : Type 0
  V = Sight O E

  abbrev Rule : State (Option X) V → Type 0
  Rule = TurnRule account n

  -- a seat that has a tally is at a board that has its value
  pub turning : (s : State (Option X) V) (id : ℕ) (v : V) (r : Tally O E) (rs : List (Tally O E)) → v.tallies ≡ r ∷ rs
      → get_elem? s.views id ≡ some v → Rule s → Turning account n s
  turning s id v r rs tally at (inr t) = t
  turning s id v r rs tally at (inl b) = absurd (nowhere id (subst (λ vs. get_elem? vs id ≡ some v) b.views at))
    where
      nowhere : (id : ℕ) → get_elem? (blank n ∷ []) id ≡ some v → ⊥
      nowhere zero e = let l : 0 ≡ length (r ∷ rs) = ap (λ (u : V). length u.tallies) (some-injective _ _ e) ∙ ap length tally in absurd (omega arith)
      nowhere (suc k) e = some-ne-none v (sym e)

  few_tickets : (s : State (Option X) V) (t : Turning account n s) → t.drawn ≤ t.served + 64
  few_tickets s t = let a = total_below holding share s.views (λ j v at. each_holds v.stage v.parts (λ z. ((t.each j v at).nobody z).0)) in
      let b = t.tickets in let c = t.whole in let d = t.few in omega arith
    where
      each_holds : (st : Stage) (p : ℕ) → (p ≡ 0 → st ≡ Idle) → tickets_of st ≤ p
      each_holds Idle p h = omega arith
      each_holds (Waits u) p h = dite (ℕ_discrete p 0) (λ z. let e : tickets_of (Waits u) ≡ 0 = ap tickets_of (h z) in absurd (omega arith))
          (λ z. omega arith)
      each_holds (Has u) p h = dite (ℕ_discrete p 0) (λ z. let e : tickets_of (Has u) ≡ 0 = ap tickets_of (h z) in absurd (omega arith)) (λ z. omega arith)

  -- a ticket is drawn, and the word counts it
  ticket_out : (id p nx : ℕ) (r : Tally O E) (c : List (ℕ × Option X)) (s : State (Option X) V) → 0 < p → Rule s
      → get_elem? s.views id ≡ some (seated p nx Idle r)
      → (w : V) × Rule (stepped s 0 ((slice_index s.words 0 + 1) % 18446744073709551616) id c w keeps)
      × drew (slice_index s.words 0) (seated p nx Idle r, c) (w, c)
  ticket_out id p nx r c s some_part kept at =
      let v : V = seated p nx Idle r in
      let t = turning s id v r [] refl at kept in
      let f = t.each id v at in
      let w : V = seated p nx (Waits t.drawn) r in
      let held = total_set holding s.views id v w at in
      let shared = total_set share s.views id v w at in
      let made = total_set events s.views id v w at in
      let tickets = t.tickets in
      let whole = t.whole in
      let counted = t.counted in (
        w,
        inr record {
          start = t.start;
          log = t.log;
          drawn = t.drawn + 1;
          served = t.served;
          words = ap (λ ws. set ws 0 ((slice_index ws 0 + 1) % 18446744073709551616)) t.words
              ∙ ap (λ k. k ∷ (t.served % 18446744073709551616) ∷ length t.log ∷ []) (omega arith);
          one_slot = t.one_slot;
          few = t.few;
          tickets = omega arith;
          whole = omega arith;
          counted = omega arith;
          makers = λ k some. owned_set s.views id k v w at (λ o. o) (t.makers k some);
          housed = housed_set account t.start t.log t.log t.drawn (t.drawn + 1) t.served s.homes s.views id v w at refl (λ e. absurd (idle_not_has e))
              t.housed;
          each = each_set (Fits account t.start t.log (t.drawn + 1) t.served s.homes) s.views id w
              record {
                named = λ _. omega arith;
                opened = f.opened;
                staged = (omega arith, omega arith);
                continues = f.continues;
                below = f.below;
                fresh =
                    f.fresh;
                nobody = λ (z : p ≡ 0). absurd (omega arith);
              }
              (λ j u _ e. fits_drawn account t.start t.log t.drawn (t.drawn + 1) t.served s.homes u (omega arith) (t.each j u e));
          apart = apart_set s.views id w
              (λ j u other e.
              let a = t.apart id j v u at e (λ z. other (sym z)) in
              let b = t.apart j id u v e at other in
              let new : (k : ℕ) → HasTicket k u.stage → t.drawn ≡ k
              → ⊥ = λ k h is. let l = ticket_drawn account t.start t.log t.drawn t.served s.homes u.tallies u.stage k (t.each j u e).staged h in
              omega arith in (
                record { tickets = λ k x y. new k y x; numbers = a.numbers; above = a.above; one_next = a.one_next },
                record { tickets = λ k x y. new k x y; numbers = b.numbers; above = b.above; one_next = b.one_next },
              ))
              t.apart;
        },
        (t.drawn, ap (λ ws. slice_index ws 0) t.words, refl),
      )

  -- a step that changes nothing
  still : (s : State (Option X) V) (i id : ℕ) (v : V) (c : List (ℕ × Option X)) → get_elem? s.views id ≡ some v → Rule s
      → Rule (stepped s i (slice_index s.words i) id c v keeps)
  still s i id v c at kept = subst (λ (z : List ℕ × List V). Rule record { words = z.0; homes = s.homes; views = z.1 })
      (λ k. (sym (set-get_or s.words i 0) k, sym (set_again s.views id v at) k)) kept

  pub draws_at : (slots id p nx old new : ℕ) (r : Tally O E) (c : List (ℕ × Option X)) → 0 < p → new ≡ (old + 1) % 18446744073709551616
      → Allows Rule slots id (seated p nx Idle r, c) 0 (λ k. either (eqb k old) new k) (draws (step slots 0 old new none) (seated p nx Idle r, c))
  draws_at slots id p nx old new r c some_part next s kept _ at _ =
      let k = slice_index s.words 0 in
      dite (ℕ_discrete k old)
      (λ hit.
      let a = ticket_out id p nx r c s some_part kept at in
      let one_more : (k + 1) % 18446744073709551616 ≡ either (eqb k old) new k =
      ap (λ z. (z + 1) % 18446744073709551616) hit ∙ (sym next ∙ ap (λ b. either b new k) (sym (eq-eqb k old hit))) in
      (a.0, keeps, tt, subst (λ z. Rule (stepped s 0 z id c a.0 keeps)) one_more a.1, ((λ miss. absurd (miss hit)), (λ _. a.2))))
      (λ miss. (
        seated p nx Idle r,
        keeps,
        tt,
        subst (λ z. Rule (stepped s 0 z id c (seated p nx Idle r) keeps)) (ap (λ b. either b new k) (sym (ne_eqb k old miss)))
            (still s 0 id (seated p nx Idle r) c at kept),
        ((λ _. refl), (λ hit. absurd (miss hit))),
      ))

  pub looks_at : (slots id p nx t : ℕ) (r : Tally O E) (c : List (ℕ × Option X)) → 0 < p
      → Allows Rule slots id (seated p nx (Waits t) r, c) 1 (λ k. k) (looks account (step slots 1 0 0 none) (seated p nx (Waits t) r, c))
  looks_at slots id p nx t r c some_part s kept _ at _ = dite (ℕ_discrete (slice_index s.words 1) (t % 18446744073709551616))
      (λ hit.
      let v : V = seated p nx (Waits t) r in
      let q = turning s id v r [] refl at kept in
      let f = q.each id v at in
      let few = few_tickets s q in
      let low : q.served ≤ t = f.staged.0 in
      let high : t < q.drawn = f.staged.1 in
      let now : t ≡ q.served = sym (one_turn q.served t 18446744073709551616 low (omega arith) (sym (ap (λ ws. slice_index ws 1) q.words) ∙ hit)) in
      let mine : HasTicket q.served (Waits t) = now in
      let home : (x : X) × (s.homes ≡ some (Some x) ∷ []) × (account.opening x ≡ q.start) × (account.history x ≡ q.log) =
      ⊎_elim (λ x. x)
      (λ (h : (j : ℕ) × (u : V) × (get_elem? s.views j ≡ some u) × (u.stage ≡ Has q.served)). absurd (dite (ℕ_discrete h.0 id)
      (λ e. waits_not_has (ap (λ (y : V). y.stage) (some-injective v h.1 (sym at ∙ (ap (get_elem? s.views) (sym e) ∙ h.2))) ∙ h.3))
      (λ other. (q.apart h.0 id h.1 v h.2 at other).tickets q.served (has_its_ticket h.1.stage q.served h.3) mine)))
      q.housed in
      let x = home.0 in
      let w : V = seated p nx (Has t) record { number = r.number; opening = r.opening; seen = account.history x; made = r.made } in
      let held = total_set holding s.views id v w at in
      let shared = total_set share s.views id v w at in
      let made = total_set events s.views id v w at in
      let tickets = q.tickets in
      let whole = q.whole in
      let counted = q.counted in
      let empty : set s.homes 0 none ≡ none ∷ [] = ap (λ h. set h 0 none) home.1 in
      let seen = f.continues.0 in (
        w,
        takes 0 (Some x),
        ap (λ h. get_elem? h 0) home.1,
        inr record {
          start = q.start;
          log = q.log;
          drawn = q.drawn;
          served = q.served;
          words = set-get_or s.words 1 0 ∙ q.words;
          one_slot = ap length empty;
          few = q.few;
          tickets = omega arith;
          whole = omega arith;
          counted = omega arith;
          makers = λ k some. owned_set s.views id k v w at (λ o. o) (q.makers k some);
          housed = inr (id, w, set_at s.views id v w at, ap Has now);
          each = each_set (Fits account q.start q.log q.drawn q.served (set s.homes 0 none)) s.views id w
              record {
                named = λ _. omega arith;
                opened = f.opened;
                staged = (now, high, empty, (home.3, tt));
                continues = (([], sym home.3 ∙ sym (append-nil (account.history x)), refl), tt);
                below = f.below;
                fresh = f.fresh;
                nobody = λ (z : p ≡ 0). absurd (omega arith);
              }
              (λ j u other e. fits_quiet account q.start q.log q.drawn q.served q.served s.homes (set s.homes 0 none) u (omega arith)
              (λ h. (q.apart j id u v e at other).tickets q.served h mine) (q.each j u e));
          apart = apart_set s.views id w
              (λ j u other e.
              let a = q.apart id j v u at e (λ z. other (sym z)) in
              let b = q.apart j id u v e at other in (
                record { tickets = a.tickets; numbers = a.numbers; above = a.above; one_next = a.one_next },
                record { tickets = b.tickets; numbers = b.numbers; above = b.above; one_next = b.one_next },
              ))
              q.apart;
        },
        (
          (λ miss. absurd (miss hit)),
          (λ _. (x, f.opened.0 ∙ ap Some (sym home.2), (seen.0, home.3 ∙ seen.1, seen.2), refl)),
        ),
      ))
      (λ miss. (seated p nx (Waits t) r, keeps, tt, still s 1 id (seated p nx (Waits t) r) c at kept, ((λ _. refl), (λ hit. absurd (miss hit)))))

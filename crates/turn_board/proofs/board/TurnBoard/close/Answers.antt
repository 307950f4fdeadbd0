use Rattle.std.proofs.Common.{rules, ◌≡◌, ◌<◌, ℕ, ◌∙◌, [], ◌∷◌, length, false, sym, ap, subst}
use Rattle.std.specs.Prelude.{Some}
use Rattle.std.specs.List.{All}
use Rattle.std.proofs.lemmas.List.Elements.{All-pop}
use Rattle.turn_board.specs.Histories.{account_of, Continues, made_by}
use Rattle.turn_board.specs.Seats.{HasSeat}
use Rattle.turn_board.specs.Inside.{tally_of, Keeps}
use Rattle.turn_board.proofs.Closing.{idle_of, joins_from, keeps_more, closes}
use Rattle.turn_board.proofs.Steps.{option_some}
use Rattle.turn_board.proofs.board.TurnBoard.close.Goals as goal

pub join_seat-requires : goal.join_seat-requires
join_seat-requires g c =
    let account = account_of g.V.Counted.opening g.V.Counted.history g.V.Counted.maker in
    let i = c.loop-next.invariant in
    let q = All-pop (λ s. (s.board ≡ c.args.self.board) × (s.has_value ≡ false)) c.loop-next.seats.items c.pop-in-loop-next.new.self.items
    (Some c.in-Some-pop.next) c.in-Some-pop.ensures.items i.1 in
    let home = ap (λ s. s.has_value) c.next.view_is ∙ q.1.1 in
    let own = sym (ap (λ b. b.board) c.self.view_is) in (
      i.0 ∙ own,
      ap (λ s. s.board) c.next.view_is ∙ (q.1.0 ∙ own),
      (idle_of account c.self.inside.table.shared.key c.next.inside.number c.next.inside.out c.next.inside.seat.me c.next.invariant home).1,
      search rules,
      joins_from account _ _ _ c.next.inside.number c.next.inside.out c.loop-next.keeper.me c.next.inside.seat.me _ _ i.2 c.next.invariant home,
    )

pub loop-next-preserved : goal.loop-next-preserved
loop-next-preserved g c =
    let i = c.loop-next.invariant in
    let q = All-pop (λ s. (s.board ≡ c.args.self.board) × (s.has_value ≡ false)) c.loop-next.seats.items c.pop-in-loop-next.new.self.items
    (Some c.in-Some-pop.next) c.in-Some-pop.ensures.items i.1 in
    let home = ap (λ s. s.has_value) c.next.view_is ∙ q.1.1 in
    let own = sym (ap (λ b. b.board) c.self.view_is) in
    let j = c.join_seat.ensures in
    let alone = c.next.invariant.0.alone in (
      j.0 ∙ i.0,
      q.0,
      keeps_more c.args.seats.items c.loop-next.seats.items c.pop-in-loop-next.new.self.items c.loop-next.keeper.me c.join_seat.new.seat.me c.in-Some-pop.next
          c.next.inside.seat.me.0 i.2 c.in-Some-pop.ensures.items
          (ap (λ v. v.parts) alone) (ap (λ v. v.tallies) alone ∙ ap (λ s. tally_of s ∷ []) c.next.view_is) j.2,
    )

pub unreachable-requires-in_default-take : goal.unreachable-requires-in_default-take
unreachable-requires-in_default-take g c =
    let account = account_of g.V.Counted.opening g.V.Counted.history g.V.Counted.maker in
    let i = c.loop-next.invariant in
    let gone : c.loop-next.seats.items ≡ [] = search rules in
    let k = subst (λ l. Keeps c.args.seats.items l c.loop-next.keeper.me) gone i.2 in
    let z = closes account c.self.inside.table.shared.key _ _ c.loop-next.keeper.id c.loop-next.keeper.me c.args.seats.items c.take.result
    (c.requires.all ∙ sym (ap (λ b. b.seats) c.self.view_is)) k c.close_with-closed.ensures.values.2 c.take.ensures.value in
    c.in_default-take.not-Some z.0 z.1

pub returns : goal.returns
returns g c =
    let account = account_of g.V.Counted.opening g.V.Counted.history g.V.Counted.maker in
    let i = c.loop-next.invariant in
    let gone : c.loop-next.seats.items ≡ [] = search rules in
    let k = subst (λ l. Keeps c.args.seats.items l c.loop-next.keeper.me) gone i.2 in
    let z = closes account c.self.inside.table.shared.key _ _ c.loop-next.keeper.id c.loop-next.keeper.me c.args.seats.items c.take.result
    (c.requires.all ∙ sym (ap (λ b. b.seats) c.self.view_is)) k c.close_with-closed.ensures.values.2 c.take.ensures.value in
    let same = option_some z.0 c.in-Some-take.value (sym z.1 ∙ c.in-Some-take.is) in
    record {
      opening = subst (λ v. All (λ s. s.opening ≡ Some (g.V.Counted.opening v)) c.args.seats.items) same z.2;
      seen = subst (λ v. All (λ s. Continues g.V.Counted.maker s.number s.seen (g.V.Counted.history v)) c.args.seats.items) same z.3;
      counted = ap (λ v. length (g.V.Counted.history v)) (sym same) ∙ z.4;
      makers = subst (λ v. (n : ℕ) → 0 < made_by g.V.Counted.maker n (g.V.Counted.history v) → HasSeat c.args.seats.items n) same z.5;
    }

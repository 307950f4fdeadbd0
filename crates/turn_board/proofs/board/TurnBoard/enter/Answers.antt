use Rattle.std.proofs.Common.{◌∙◌, true, sym, ap, subst}
use Rattle.std.specs.Prelude.{Some}
use Rattle.turn_board.specs.Histories.{account_of, Continues}
use Rattle.turn_board.specs.Sights.{first_tally}
use Rattle.turn_board.specs.Seats.{entered}
use Rattle.turn_board.specs.Inside.{seat_view}
use Rattle.turn_board.proofs.Steps.{option_some}
use Rattle.turn_board.proofs.Tokens.{is_idle, is_waiting, has_slot, takes_out, is_outside}
use Rattle.turn_board.proofs.board.TurnBoard.enter.Goals as goal

pub draw_ticket-ticket-requires : goal.draw_ticket-ticket-requires
draw_ticket-ticket-requires g c =
    let account = account_of g.V.Counted.opening g.V.Counted.history g.V.Counted.maker in
    record {
      own = ap (λ s. s.board) c.seat.view_is ∙ c.requires.board;
      idle = is_idle account c.seat.inside.number c.seat.inside.out _ c.seat.invariant (ap (λ s. s.has_value) c.seat.view_is ∙ c.requires.home);
    }

pub await_turn-requires : goal.await_turn-requires
await_turn-requires g c =
    let account = account_of g.V.Counted.opening g.V.Counted.history g.V.Counted.maker in
    let home = ap (λ s. s.has_value) c.seat.view_is ∙ c.requires.home in
    let d = c.draw_ticket-ticket.ensures in
    record {
      own = d.own.0 ∙ (ap (λ s. s.board) c.seat.view_is ∙ c.requires.board);
      waits = is_waiting account c.seat.inside.number _ c.seat.inside.out c.seat.inside.seat.me _ c.seat.invariant home d.drew;
    }

pub exchange-taken-requires : goal.exchange-taken-requires
exchange-taken-requires g c =
    let account = account_of g.V.Counted.opening g.V.Counted.history g.V.Counted.maker in
    let home = ap (λ s. s.has_value) c.seat.view_is ∙ c.requires.home in
    let d = c.draw_ticket-ticket.ensures in
    let a = c.await_turn.ensures in (
      a.own.0 ∙ (d.own.0 ∙ (ap (λ s. s.board) c.seat.view_is ∙ (c.requires.board ∙ sym (ap (λ b. b.board) c.self.view_is)))),
      has_slot account c.seat.inside.number _ c.seat.inside.out c.seat.inside.seat.me _ _ c.seat.invariant home d.drew a.took,
    )

pub invariant_of-seat : goal.invariant_of-seat
invariant_of-seat g c =
    let account = account_of g.V.Counted.opening g.V.Counted.history g.V.Counted.maker in
    let home = ap (λ s. s.has_value) c.seat.view_is ∙ c.requires.home in
    let x = c.exchange-taken.ensures in
    let k = takes_out account c.seat.inside.number _ c.seat.inside.out c.seat.inside.seat.me _ _ c.exchange-taken.new.seat.me _ c.seat.invariant home
    c.draw_ticket-ticket.ensures.drew c.await_turn.ensures.took x.2 x.3 in
    is_outside account c.seat.inside.number c.draw_ticket-ticket.ensures.drew.0 c.seat.inside.out c.seat.inside.seat.me c.exchange-taken.new.seat.me
    (g.V.Counted.history k.0) c.seat.invariant k.3 k.4

pub returns : goal.returns
returns g c =
    let account = account_of g.V.Counted.opening g.V.Counted.history g.V.Counted.maker in
    let home = ap (λ s. s.has_value) c.seat.view_is ∙ c.requires.home in
    let d = c.draw_ticket-ticket.ensures in
    let a = c.await_turn.ensures in
    let x = c.exchange-taken.ensures in
    let k = takes_out account c.seat.inside.number _ c.seat.inside.out c.seat.inside.seat.me _ _ c.exchange-taken.new.seat.me _ c.seat.invariant home
    d.drew a.took x.2 x.3 in
    let same = option_some k.0 c.in-Some.value (sym k.1 ∙ c.in-Some.is) in
    record {
      opening = sym (ap (λ s. s.opening) c.seat.view_is) ∙ (k.2 ∙ ap (λ v. Some (g.V.Counted.opening v)) same);
      seen = subst (λ s. Continues g.V.Counted.maker s.number s.seen (g.V.Counted.history c.in-Some.value)) c.seat.view_is
          (subst (λ v. Continues g.V.Counted.maker c.seat.inside.number (first_tally c.seat.inside.seat.me.0.tallies).seen (g.V.Counted.history v)) same k.3);
      seat = ap (λ z. seat_view z c.seat.inside.number true c.exchange-taken.new.seat.me.0) (x.0 ∙ (a.own.0 ∙ d.own.0))
          ∙ (ap (λ z. seat_view c.seat.inside.seat.table_id c.seat.inside.number true z.0) k.4
          ∙ (ap (λ s. entered s (g.V.Counted.history k.0)) c.seat.view_is ∙ ap (λ v. entered c.args.seat.now (g.V.Counted.history v)) same));
    }

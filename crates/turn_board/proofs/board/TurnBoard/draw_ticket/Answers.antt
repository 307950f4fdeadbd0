use Rattle.std.proofs.Common.{rules, ◌∙◌, sym, ap, subst}
use Rattle.turn_board.specs.Histories.{account_of}
use Rattle.turn_board.specs.Turn.{IsIdle, drew}
use Rattle.turn_board.proofs.Allowed.{draws_from}
use Rattle.turn_board.proofs.board.TurnBoard.draw_ticket.Goals as goal

pub compare_exchange-found-requires : goal.compare_exchange-found-requires
compare_exchange-found-requires g c =
    let account = account_of g.V.Counted.opening g.V.Counted.history g.V.Counted.maker in (
      c.loop.invariant.0 ∙ (c.requires.own ∙ sym (ap (λ b. b.board) c.self.view_is)),
      search rules,
      draws_from account _ _ _ _ _ _ (subst IsIdle (sym c.loop.invariant.2) c.requires.idle) (search rules),
    )

pub loop-preserved : goal.loop-preserved
loop-preserved g c =
    let i = c.loop.invariant in
    let l = c.compare_exchange-found.ensures in
    (l.0 ∙ i.0, l.1 ∙ i.1, l.2.0 c.if-found-turn.false ∙ i.2)

pub returns-then-found-turn-clause-drew : goal.returns-then-found-turn-clause-drew
returns-then-found-turn-clause-drew g c =
    let l = c.compare_exchange-found.ensures in
    subst (λ m. drew c.compare_exchange-found.result m c.compare_exchange-found.new.seat.me) c.loop.invariant.2 (l.2.1 c.if-found-turn.true)

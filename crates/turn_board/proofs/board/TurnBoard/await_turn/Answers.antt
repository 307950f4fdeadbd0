use Rattle.std.proofs.Common.{rules, ◌∙◌, sym, ap, subst}
use Rattle.turn_board.specs.Histories.{account_of}
use Rattle.turn_board.specs.Turn.{IsWaiting, took}
use Rattle.turn_board.proofs.Tokens.{looked_miss, looked_hit}
use Rattle.turn_board.proofs.Allowed.{looks_from}
use Rattle.turn_board.proofs.board.TurnBoard.await_turn.Goals as goal

pub load-turn-requires : goal.load-turn-requires
load-turn-requires g c =
    let account = account_of g.V.Counted.opening g.V.Counted.history g.V.Counted.maker in (
      c.loop.invariant.0 ∙ (c.requires.own ∙ sym (ap (λ b. b.board) c.self.view_is)),
      search rules,
      looks_from account _ _ _ c.args.ticket _ (subst (IsWaiting c.args.ticket) (sym c.loop.invariant.2) c.requires.waits),
    )

pub loop-preserved : goal.loop-preserved
loop-preserved g c =
    let account = account_of g.V.Counted.opening g.V.Counted.history g.V.Counted.maker in
    let i = c.loop.invariant in
    let w = subst (IsWaiting c.args.ticket) (sym i.2) c.requires.waits in
    let l = c.load-turn.ensures in
    (l.0 ∙ i.0, l.1 ∙ i.1, looked_miss account _ _ c.args.ticket _ w l.2 c.if-turn-ticket.false ∙ i.2)

pub returns-then-turn-ticket-clause-took : goal.returns-then-turn-ticket-clause-took
returns-then-turn-ticket-clause-took g c =
    let account = account_of g.V.Counted.opening g.V.Counted.history g.V.Counted.maker in
    let i = c.loop.invariant in
    let w = subst (IsWaiting c.args.ticket) (sym i.2) c.requires.waits in
    let l = c.load-turn.ensures in
    subst (λ m. took account m c.load-turn.new.seat.me) i.2
    (looked_hit account _ _ c.args.ticket _ w l.2 c.if-turn-ticket.true)

use Rattle.std.proofs.Common.{rules, ◌∙◌, sym, ap, subst}
use Rattle.turn_board.specs.Histories.{account_of}
use Rattle.turn_board.specs.Inside.{MayCount}
use Rattle.turn_board.proofs.Allowed.{counts_from}
use Rattle.turn_board.proofs.board.TurnBoard.count.Goals as goal

pub fetch_add-requires : goal.fetch_add-requires
fetch_add-requires g c =
    let account = account_of g.V.Counted.opening g.V.Counted.history g.V.Counted.maker in
    let may = subst (λ b. MayCount account b c.args.seat.now.me) c.if-grew.true c.requires.may in (
      c.requires.own ∙ sym (ap (λ b. b.board) c.self.view_is),
      search rules,
      counts_from account _ _ _ may.0 may.1 may.2 may.3 may.5.0 _ may.4 may.5.1 may.5.2 may.6,
    )

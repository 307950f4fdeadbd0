use Rattle.std.proofs.Common.{rules, ◌∙◌, refl, false, sym, ap, subst}
use Rattle.turn_board.specs.Histories.{account_of}
use Rattle.turn_board.specs.Seats.{GrewBy, left}
use Rattle.turn_board.specs.Inside.{seat_view}
use Rattle.turn_board.proofs.Tokens.{may_count, puts_back, gives_back, is_back}
use Rattle.turn_board.proofs.Allowed.{passes_from}
use Rattle.turn_board.proofs.board.TurnBoard.leave.Goals as goal

pub count-requires : goal.count-requires
count-requires g c =
    let account = account_of g.V.Counted.opening g.V.Counted.history g.V.Counted.maker in
    let taken = ap (λ s. s.has_value) c.seat.view_is ∙ c.requires.taken in
    let grows = subst (λ s. GrewBy g.V.Counted.maker s c.args.grew (g.V.Counted.history c.args.value)) (sym c.seat.view_is) c.requires.history in
    let x = c.exchange-empty.ensures in
    record {
      own = x.0 ∙ (ap (λ s. s.board) c.seat.view_is ∙ c.requires.board);
      may = may_count account c.seat.inside.number c.args.grew c.seat.inside.out c.seat.inside.seat.me _ c.args.value c.seat.invariant taken x.3 grows
          c.is_counted.ensures;
    }

pub fetch_add-requires : goal.fetch_add-requires
fetch_add-requires g c =
    let account = account_of g.V.Counted.opening g.V.Counted.history g.V.Counted.maker in
    let taken = ap (λ s. s.has_value) c.seat.view_is ∙ c.requires.taken in
    let grows = subst (λ s. GrewBy g.V.Counted.maker s c.args.grew (g.V.Counted.history c.args.value)) (sym c.seat.view_is) c.requires.history in
    let x = c.exchange-empty.ensures in
    let k = puts_back account c.seat.inside.number c.args.grew c.seat.inside.out c.seat.inside.seat.me _ _ c.args.value c.seat.invariant taken x.3 grows
    c.count.ensures.counted in (
      c.count.ensures.own.0 ∙ (x.0 ∙ (ap (λ s. s.board) c.seat.view_is ∙ (c.requires.board ∙ sym (ap (λ b. b.board) c.self.view_is)))),
      search rules,
      passes_from account _ _ _ _ _ 1 _ c.args.value _ (search rules) k refl (ap (λ s. s.opening) c.seat.view_is ∙ c.requires.opening),
    )

pub invariant_of-seat : goal.invariant_of-seat
invariant_of-seat g c =
    let account = account_of g.V.Counted.opening g.V.Counted.history g.V.Counted.maker in
    let taken = ap (λ s. s.has_value) c.seat.view_is ∙ c.requires.taken in
    let grows = subst (λ s. GrewBy g.V.Counted.maker s c.args.grew (g.V.Counted.history c.args.value)) (sym c.seat.view_is) c.requires.history in
    is_back account c.seat.inside.number c.args.grew c.seat.inside.out c.seat.inside.seat.me c.fetch_add.new.seat.me (g.V.Counted.history c.args.value)
    c.seat.invariant grows (gives_back account c.seat.inside.number c.args.grew c.seat.inside.out c.seat.inside.seat.me _ _ _ c.args.value c.seat.invariant
    taken c.exchange-empty.ensures.3 grows c.count.ensures.counted c.fetch_add.ensures.2)

pub returns : goal.returns
returns g c =
    let account = account_of g.V.Counted.opening g.V.Counted.history g.V.Counted.maker in
    let taken = ap (λ s. s.has_value) c.seat.view_is ∙ c.requires.taken in
    let grows = subst (λ s. GrewBy g.V.Counted.maker s c.args.grew (g.V.Counted.history c.args.value)) (sym c.seat.view_is) c.requires.history in
    let x = c.exchange-empty.ensures in
    let b = gives_back account c.seat.inside.number c.args.grew c.seat.inside.out c.seat.inside.seat.me _ _ _ c.args.value c.seat.invariant taken x.3 grows
    c.count.ensures.counted c.fetch_add.ensures.2 in
    ap (λ z. seat_view z c.seat.inside.number false c.fetch_add.new.seat.me.0) (c.fetch_add.ensures.0 ∙ (c.count.ensures.own.0 ∙ x.0))
    ∙ (ap (λ z. seat_view c.seat.inside.seat.table_id c.seat.inside.number false z.0) b
    ∙ ap (λ s. left s (g.V.Counted.history c.args.value) c.args.grew) c.seat.view_is)

use Rattle.std.proofs.Common.{rules, arith, ◌≡◌, ◌∙◌, ◌+◌, ◌-◌, [], ◌∷◌, ◌++◌, refl, false, true≢false, sym, ap, subst, ◌≤◌}
use Rattle.std.specs.Result.{IsOk}
use Rattle.turn_board.specs.declared.sight.Stage.TheVariants.{Idle}
use Rattle.turn_board.specs.Histories.{account_of}
use Rattle.turn_board.specs.Sights.{seated, first_of}
use Rattle.turn_board.specs.Seats.{fresh_seat, numbered}
use Rattle.turn_board.specs.Inside.{opening_of, seat_view}
use Rattle.turn_board.proofs.Tokens.{is_fresh, split_is, fresh_view, one_left, splitter_is, fresh_more}
use Rattle.turn_board.proofs.Allowed.{splits_from}
use Rattle.turn_board.proofs.board.TurnBoard.deal.Goals as goal

pub loop-number-init : goal.loop-number-init
loop-number-init g c =
    let some_seat = c.requires.seats.0 in
    let o = opening_of c.args.first.me in
    let all : c.args.seats ≡ (c.args.seats - 1) + 1 = omega arith in (
      search rules,
      some_seat,
      c.requires.own,
      c.requires.first ∙ ap (λ k. (seated k 2 Idle (first_of o), [])) all,
      ap (λ l. fresh_seat c.args.self.now.board o 1 ∷ l) c.requires.room.0,
      search rules,
      c.requires.room.1,
    )

pub split_seat-seat-requires : goal.split_seat-seat-requires
split_seat-seat-requires g c =
    let account = account_of g.V.Counted.opening g.V.Counted.history g.V.Counted.maker in
    let i = c.loop-number.invariant in
    let more = c.loop-number-test.true in
    let low = i.0 in (
      i.2 ∙ sym (ap (λ b. b.board) c.self.view_is),
      search rules,
      splits_from account _ _ _ (c.loop-number.number + 1) _ _ i.3 (omega arith) (omega arith),
    )

pub invariant_of-push_reserved : goal.invariant_of-push_reserved
invariant_of-push_reserved g c =
    let account = account_of g.V.Counted.opening g.V.Counted.history g.V.Counted.maker in
    let i = c.loop-number.invariant in
    let n = c.loop-number.number + 1 in
    let o = opening_of c.args.first.me in
    is_fresh account 0 n o c.split_seat-seat.result.me (split_is account _ n o c.loop-number.first.me _ i.3 c.split_seat-seat.ensures.4) (omega arith)

pub push_reserved-requires : goal.push_reserved-requires
push_reserved-requires g c =
    let i = c.loop-number.invariant in
    let more = c.loop-number-test.true in
    let high = i.1 in
    let len = i.5 in
    let room = i.6 in
    omega arith

pub loop-number-preserved : goal.loop-number-preserved
loop-number-preserved g c =
    let account = account_of g.V.Counted.opening g.V.Counted.history g.V.Counted.maker in
    let i = c.loop-number.invariant in
    let more = c.loop-number-test.true in
    let low = i.0 in
    let high = i.1 in
    let len = i.5 in
    let o = opening_of c.args.first.me in
    let n = c.loop-number.number in
    let b = c.args.self.now.board in
    let s = c.split_seat-seat.ensures in
    let u = c.push_reserved.ensures in
    let longer = u.len in
    let view = fresh_view account 0 (n + 1) o c.split_seat-seat.result.me b c.split_seat-seat.result.table_id
    (split_is account _ (n + 1) o c.loop-number.first.me _ i.3 s.4) (s.3 ∙ i.2) in (
      omega arith,
      omega arith,
      s.0 ∙ i.2,
      splitter_is account _ ((c.args.seats - (n + 1)) + 1) (n + 1) ((n + 1) + 1) o c.loop-number.first.me c.split_seat-seat.new.seat.me i.3 s.2 (omega arith)
          refl,
      ap (λ l. fresh_seat b o 1 ∷ l) u.items
          ∙ (ap (λ l. l ++ seat_view c.split_seat-seat.result.table_id (n + 1) false c.split_seat-seat.result.me.0 ∷ []) i.4
          ∙ (ap (λ v. numbered b o n ++ v ∷ []) view ∙ sym (fresh_more b o n))),
      omega arith,
      subst (λ k. c.args.seats ≤ k) (sym u.capacity) i.6,
    )

pub invariant_of-first : goal.invariant_of-first
invariant_of-first g c =
    let account = account_of g.V.Counted.opening g.V.Counted.history g.V.Counted.maker in
    let last = c.loop-number-test.false in
    let first = one_left account c.args.seats c.loop-number.number _ _ c.loop-number.first.me c.loop-number.invariant.3 (omega arith) in
    is_fresh account _ 1 _ c.loop-number.first.me first (search rules)

pub unreachable-requires : goal.unreachable-requires
unreachable-requires g c =
    let i = c.loop-number.invariant in
    let len = i.5 in
    let room = i.6 in
    let high = i.1 in
    let fits = c.insert.ensures.succeeds (omega arith) in
    true≢false (sym (subst IsOk c.in_default.is fits))

pub returns : goal.returns
returns g c =
    let account = account_of g.V.Counted.opening g.V.Counted.history g.V.Counted.maker in
    let i = c.loop-number.invariant in
    let last = c.loop-number-test.false in
    let high = i.1 in
    let o = opening_of c.args.first.me in
    let b = c.args.self.now.board in
    let first = one_left account c.args.seats c.loop-number.number _ o c.loop-number.first.me i.3 (omega arith) in
    let view = fresh_view account _ 1 o c.loop-number.first.me b c.loop-number.first.table_id first i.2 in
    let last_number : c.loop-number.number ≡ c.args.seats = omega arith in
    c.in-Ok.ensures.items ∙ (ap (λ v. v ∷ c.loop-number.all.items) view ∙ (i.4 ∙ ap (numbered b o) (last_number ∙ sym c.requires.seats.1)))

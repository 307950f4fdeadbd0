use Rattle.std.proofs.Common.{rules, ◌≡◌, ◌∙◌, [], refl, sym, ap, subst}
use Rattle.std.specs.Prelude.{Some, None}
use Rattle.turn_board.specs.declared.sight.Stage.TheVariants.{Idle}
use Rattle.turn_board.specs.Histories.{account_of}
use Rattle.turn_board.specs.Sights.{blank, first_of, seated}
use Rattle.turn_board.proofs.Tokens.{slot_is, same_slot}
use Rattle.turn_board.proofs.Allowed.{opens_from, was_opened, opened_put, passes_from, opened_passed}
use Rattle.turn_board.proofs.board.TurnBoard.open.Goals as goal

pub compare_exchange_with-requires : goal.compare_exchange_with-requires
compare_exchange_with-requires g c =
    let account = account_of g.V.Counted.opening g.V.Counted.history g.V.Counted.maker in
    let first = subst (λ b. c.args.first.now.me ≡ (blank b.seats, [])) (sym c.self.view_is) c.requires.first in (
      c.requires.own ∙ sym (ap (λ b. b.board) c.self.view_is),
      search rules,
      opens_from account _ _ _ _ c.args.value c.self.invariant.1 first,
    )

pub exchange-empty-requires : goal.exchange-empty-requires
exchange-empty-requires g c =
    let account = account_of g.V.Counted.opening g.V.Counted.history g.V.Counted.maker in
    let first = subst (λ b. c.args.first.now.me ≡ (blank b.seats, [])) (sym c.self.view_is) c.requires.first in
    let m = was_opened account _ c.args.first.now.me c.compare_exchange_with.new.seat.me c.args.value first c.compare_exchange_with.ensures.2 in (
      c.compare_exchange_with.ensures.0 ∙ (c.requires.own ∙ sym (ap (λ b. b.board) c.self.view_is)),
      (None, slot_is _ 0 None (ap (λ z. z.1) m)),
    )

pub unreachable-requires : goal.unreachable-requires
unreachable-requires g c =
    let account = account_of g.V.Counted.opening g.V.Counted.history g.V.Counted.maker in
    let first = subst (λ b. c.args.first.now.me ≡ (blank b.seats, [])) (sym c.self.view_is) c.requires.first in
    let m = was_opened account _ c.args.first.now.me c.compare_exchange_with.new.seat.me c.args.value first c.compare_exchange_with.ensures.2 in
    let empty = same_slot _ _ 0 _ None (sym c.exchange-empty.ensures.2 ∙ ap (λ z. z.1) m) in
    c.in_default.not-None empty

pub fetch_add-requires : goal.fetch_add-requires
fetch_add-requires g c =
    let account = account_of g.V.Counted.opening g.V.Counted.history g.V.Counted.maker in
    let first = subst (λ b. c.args.first.now.me ≡ (blank b.seats, [])) (sym c.self.view_is) c.requires.first in
    let m = was_opened account _ c.args.first.now.me c.compare_exchange_with.new.seat.me c.args.value first c.compare_exchange_with.ensures.2 in
    let p = opened_put account _ c.compare_exchange_with.new.seat.me c.exchange-empty.new.seat.me c.args.value m c.exchange-empty.ensures.3 in (
      c.exchange-empty.ensures.0 ∙ (c.compare_exchange_with.ensures.0 ∙ (c.requires.own ∙ sym (ap (λ b. b.board) c.self.view_is))),
      search rules,
      passes_from account _ _ _ 2 0 c.self.inside.table.shared.key (first_of (Some (g.V.Counted.opening c.args.value))) c.args.value _ c.self.invariant.1 p
          c.requires.history refl,
    )

pub returns-clause-first : goal.returns-clause-first
returns-clause-first g c =
    let account = account_of g.V.Counted.opening g.V.Counted.history g.V.Counted.maker in
    let first = subst (λ b. c.args.first.now.me ≡ (blank b.seats, [])) (sym c.self.view_is) c.requires.first in
    let m = was_opened account _ c.args.first.now.me c.compare_exchange_with.new.seat.me c.args.value first c.compare_exchange_with.ensures.2 in
    let p = opened_put account _ c.compare_exchange_with.new.seat.me c.exchange-empty.new.seat.me c.args.value m c.exchange-empty.ensures.3 in
    opened_passed account _ c.exchange-empty.new.seat.me c.fetch_add.new.seat.me c.args.value p c.fetch_add.ensures.2
    ∙ ap (λ b. (seated b.seats 2 Idle (first_of (Some (g.V.Counted.opening c.args.value))), [])) c.self.view_is

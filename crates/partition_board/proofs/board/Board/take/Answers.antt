use Rattle.std.proofs.Common.{ℕ, Bool, false, ap, refl, subst, sym, ◌∙◌}
use Rattle.partition_core.specs.Refusals.{by_of}
use Rattle.partition_core.specs.Story.{Story}
use Rattle.turn_board.specs.Seats.{GrewBy, left}
use Rattle.partition_board.specs.Answers.{next_of}
use Rattle.partition_board.specs.Steps.{AnsweredAt, IsLentAt}
use Rattle.partition_board.proofs.Calls.{answers_is, events_is, found, free_is, lent_is, opening_left, take_grew}
use Rattle.partition_board.proofs.board.Board.take.Goals as goal

pub take_from-took-requires-clause-idle : goal.take_from-took-requires-clause-idle
take_from-took-requires-clause-idle g c =
    let f = found c.args.post.now c.core.inside.core c.core.inside.house c.enter.result c.core.view_is c.enter.ensures.opening c.enter.ensures.seen
    c.front-front.ensures.legal in
    free_is c.args.post.now c.core.inside.core c.core.inside.house.handed f c.number-by.result c.number-by.ensures.number c.requires.free

pub leave-requires-clause-opening : goal.leave-requires-clause-opening
leave-requires-clause-opening g c =
    let f = found c.args.post.now c.core.inside.core c.core.inside.house c.enter.result c.core.view_is c.enter.ensures.opening c.enter.ensures.seen
    c.front-front.ensures.legal in
    opening_left c.args.post.now c.core.inside.core c.core.inside.house.handed f c.enter.new.seat
    (left c.enter.new.seat c.take_from-took.new.core.events false) c.enter.result c.take_from-took.new.core c.core.inside.house false c.core.view_is
    c.enter.ensures.seat refl c.take_from-took.new.house
    (ap (λ (s : Story). s.opening) c.take_from-took.ensures.answer.story) c.take_from-took.ensures.handed

pub leave-requires-clause-history : goal.leave-requires-clause-history
leave-requires-clause-history g c =
    let f = found c.args.post.now c.core.inside.core c.core.inside.house c.enter.result c.core.view_is c.enter.ensures.opening c.enter.ensures.seen
    c.front-front.ensures.legal in
    subst (λ (grew : Bool). GrewBy by_of c.enter.new.seat grew c.take_from-took.new.core.events) (sym c.makes_event-grew.ensures)
    (take_grew c.take_from-took.result c.enter.new.seat c.number-by.result c.core.inside.core.events c.take_from-took.new.core.events
    (c.number-by.ensures.number ∙ sym (ap (λ p. p.number) c.enter.ensures.seat))
    (events_is c.args.post.now c.core.inside.core c.core.inside.house.handed f c.enter.new.seat
    (left c.enter.new.seat c.take_from-took.new.core.events false) c.enter.result c.take_from-took.new.core c.core.inside.house false c.core.view_is
    c.enter.ensures.seat refl)
    (ap (λ (s : Story). s.events) c.take_from-took.ensures.answer.story))

pub returns-clause-answer : goal.returns-clause-answer
returns-clause-answer g c =
    let f = found c.args.post.now c.core.inside.core c.core.inside.house c.enter.result c.core.view_is c.enter.ensures.opening c.enter.ensures.seen
    c.front-front.ensures.legal in
    answers_is c.args.post.now c.core.inside.core c.core.inside.house.handed f c.enter.new.seat c.leave.new.seat c.enter.result c.take_from-took.new.core
    c.core.inside.house c.makes_event-grew.result c.core.view_is c.enter.ensures.seat c.leave.ensures c.take_from-took.result c.requires.own.1
    c.makes_event-grew.ensures
    (subst (λ (n : ℕ). AnsweredAt n c.core.inside.core (next_of c.take_from-took.result) c.take_from-took.new.core) c.number-by.ensures.number
    c.take_from-took.ensures.answer)
    c.front-front-2.ensures.legal

pub returns-clause-lent : goal.returns-clause-lent
returns-clause-lent g c =
    let f = found c.args.post.now c.core.inside.core c.core.inside.house c.enter.result c.core.view_is c.enter.ensures.opening c.enter.ensures.seen
    c.front-front.ensures.legal in
    lent_is c.args.post.now c.core.inside.core c.core.inside.house.handed f c.enter.new.seat c.leave.new.seat c.enter.result c.take_from-took.new.core
    c.core.inside.house c.makes_event-grew.result c.core.view_is c.enter.ensures.seat c.leave.ensures g.F.Folder.known c.take_from-took.new.house
    c.take_from-took.result c.take_from-took.new.needs.items
    (sym (ap (λ (s : Story). s.opening) c.take_from-took.ensures.answer.story)) c.take_from-took.ensures.handed
    (subst (λ (n : ℕ). IsLentAt g.F.Folder.known c.take_from-took.new.core c.take_from-took.new.house n c.take_from-took.new.needs.items
    c.take_from-took.result)
    c.number-by.ensures.number c.take_from-took.ensures.lent)

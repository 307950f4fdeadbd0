use Rattle.std.proofs.Common.{[], ◌∷◌, true, ap, refl}
use Rattle.partition_core.specs.Story.{Story}
use Rattle.turn_board.specs.Seats.{left}
use Rattle.partition_board.proofs.Calls.{adds_is, faithful_is, found, grew_is, legal_is, opening_left, stands_left, suits_is}
use Rattle.partition_board.proofs.board.Board.end_run.Goals as goal

pub end-requires-clause-legal : goal.end-requires-clause-legal
end-requires-clause-legal g c =
    let f = found c.args.post.now c.core.inside.core c.core.inside.house c.enter.result c.core.view_is c.enter.ensures.opening c.enter.ensures.seen
    c.front-front.ensures.legal in
    legal_is c.args.post.now c.core.inside.core c.core.inside.house.handed f c.args.event c.requires.suits.ends c.requires.legal

pub end-requires-clause-suits : goal.end-requires-clause-suits
end-requires-clause-suits g c =
    let f = found c.args.post.now c.core.inside.core c.core.inside.house c.enter.result c.core.view_is c.enter.ensures.opening c.enter.ensures.seen
    c.front-front.ensures.legal in
    suits_is c.args.post.now c.core.inside.core c.core.inside.house.handed f g.F.Folder.known c.args.event c.args.folder c.requires.legal c.requires.suits

pub end-requires-clause-meant : goal.end-requires-clause-meant
end-requires-clause-meant g c = λ h.
    let f = found c.args.post.now c.core.inside.core c.core.inside.house c.enter.result c.core.view_is c.enter.ensures.opening c.enter.ensures.seen
    c.front-front.ensures.legal in
    faithful_is c.args.post.now c.core.inside.core c.core.inside.house.handed f g.M.Meaning.compile_of c.args.event c.requires.suits.ends c.requires.legal
    (c.requires.meant h)

pub leave-requires-clause-opening : goal.leave-requires-clause-opening
leave-requires-clause-opening g c =
    let f = found c.args.post.now c.core.inside.core c.core.inside.house c.enter.result c.core.view_is c.enter.ensures.opening c.enter.ensures.seen
    c.front-front.ensures.legal in
    opening_left c.args.post.now c.core.inside.core c.core.inside.house.handed f c.enter.new.seat (left c.enter.new.seat c.end.new.core.events true)
    c.enter.result c.end.new.core c.core.inside.house true c.core.view_is c.enter.ensures.seat refl c.end.new.house
    (ap (λ (s : Story). s.opening) c.end.ensures.story) c.end.ensures.handed

pub leave-requires-clause-history : goal.leave-requires-clause-history
leave-requires-clause-history g c =
    let f = found c.args.post.now c.core.inside.core c.core.inside.house c.enter.result c.core.view_is c.enter.ensures.opening c.enter.ensures.seen
    c.front-front.ensures.legal in
    grew_is c.args.post.now c.core.inside.core c.core.inside.house.handed f c.enter.new.seat (left c.enter.new.seat c.end.new.core.events true)
    c.enter.result c.end.new.core c.core.inside.house true c.core.view_is c.enter.ensures.seat refl c.args.event c.requires.legal.0 c.end.ensures.story

pub returns-clause-made : goal.returns-clause-made
returns-clause-made g c =
    let f = found c.args.post.now c.core.inside.core c.core.inside.house c.enter.result c.core.view_is c.enter.ensures.opening c.enter.ensures.seen
    c.front-front.ensures.legal in
    adds_is c.args.post.now c.core.inside.core c.core.inside.house.handed f c.enter.new.seat c.leave.new.seat c.enter.result c.end.new.core
    c.core.inside.house true c.core.view_is c.enter.ensures.seat c.leave.ensures (c.args.event ∷ []) c.requires.own.1 c.end.ensures.story refl
    c.front-front-2.ensures.legal

pub returns-clause-stands : goal.returns-clause-stands
returns-clause-stands g c =
    let f = found c.args.post.now c.core.inside.core c.core.inside.house c.enter.result c.core.view_is c.enter.ensures.opening c.enter.ensures.seen
    c.front-front.ensures.legal in
    stands_left c.args.post.now c.core.inside.core c.core.inside.house.handed f c.enter.new.seat c.leave.new.seat c.enter.result c.end.new.core
    c.core.inside.house true c.core.view_is c.enter.ensures.seat c.leave.ensures c.args.event c.requires.suits.ends c.requires.legal.0
    (legal_is c.args.post.now c.core.inside.core c.core.inside.house.handed f c.args.event c.requires.suits.ends c.requires.legal) c.end.ensures.story

use Rattle.std.proofs.Common.{false, refl}
use Rattle.partition_board.proofs.Calls.{found, sees_is}
use Rattle.partition_board.proofs.board.Board.look.Goals as goal

pub returns-clause-sees : goal.returns-clause-sees
returns-clause-sees g c =
    let f = found c.args.post.now c.core.inside.core c.core.inside.house c.enter.result c.core.view_is c.enter.ensures.opening c.enter.ensures.seen
    c.front-front.ensures.legal in
    sees_is c.args.post.now c.core.inside.core c.core.inside.house.handed f c.enter.new.seat c.leave.new.seat c.enter.result c.core.inside.core
    c.core.inside.house false c.core.view_is c.enter.ensures.seat c.leave.ensures c.requires.own.1 refl refl

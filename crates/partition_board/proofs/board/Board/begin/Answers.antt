use Rattle.std.proofs.Common.{Some, ap, refl, ◌∙◌}
use Rattle.partition_core.specs.State.{Opening}
use Rattle.partition_core.specs.Story.{Story}
use Rattle.turn_board.specs.Seats.{fresh_seats, numbered}
use Rattle.partition_board.specs.Begun.{Begun}
use Rattle.partition_board.specs.Homes.{HouseView, StateView}
use Rattle.partition_board.proofs.Beginning.{begun_housed, fresh_each}
use Rattle.partition_board.proofs.Giving.{map_some}
use Rattle.partition_board.proofs.board.Board.begin.Goals as goal

pub invariant_of-state : goal.invariant_of-state
invariant_of-state g c =
    let o : Opening = record { plan = c.args.plan; kept = c.args.kept.items; partitions = c.args.partitions } in
    begun_housed g.F.Folder.known o c.args.folders.items c.requires.folders c.in-Ok-begin.core c.in-Ok.house c.in-Ok-begin.ensures c.in-Ok.ensures.housed

pub returns-in_default-clause-refused : goal.returns-in_default-clause-refused
returns-in_default-clause-refused g c =
    map_some c.gather.result.items c.args.folders.items (c.gather.ensures ∙ ap (λ (h : HouseView g.row.F.Denot). h.homes) c.in-Ok.ensures.housed)

pub returns-in-Err-begin-clause-refused : goal.returns-in-Err-begin-clause-refused
returns-in-Err-begin-clause-refused g c =
    map_some c.gather-in-Err-begin.result.items c.args.folders.items
    (c.gather-in-Err-begin.ensures ∙ ap (λ (v : StateView g.row.F.Denot). v.house.homes) c.value.view_is
    ∙ ap (λ (v : StateView g.row.F.Denot). v.house.homes) c.in-Err-begin.ensures.refused
    ∙ ap (λ (h : HouseView g.row.F.Denot). h.homes) c.in-Ok.ensures.housed)

pub returns-in-Ok-begin-2-clause-free : goal.returns-in-Ok-begin-2-clause-free
returns-in-Ok-begin-2-clause-free g c =
    let o : Opening = record { plan = c.args.plan; kept = c.args.kept.items; partitions = c.args.partitions } in
    let begun : Begun g.row.F.Denot = record { build = o; folders = c.args.folders.items } in
    let turn = c.in-Ok-begin-2.turn in
    fresh_each turn.board begun c.in-Ok-begin-2.posts.items c.args.partitions refl
    (c.in-Ok-begin-2.ensures.dealt
    ∙ ap (λ (s : Story). fresh_seats turn (Some (record { build = s.opening; folders = c.in-Ok.house.handed }))) c.in-Ok-begin.ensures
    ∙ ap (λ (h : HouseView g.row.F.Denot). fresh_seats turn (Some (record { build = o; folders = h.handed }))) c.in-Ok.ensures.housed
    ∙ ap (numbered turn.board (Some begun)) c.in-Ok-begin-2.ensures.board)

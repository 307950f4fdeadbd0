use Rattle.std.proofs.Common.{◌≡◌, ◌<◌, List, map, ap, sym, ◌∙◌, subst}
use Rattle.compile_model.specs.declared.outcome.Fate.{Fate}
use Rattle.compile_model.specs.Seq.{seq}
use Rattle.std.specs.Prelude.{Option}
use Rattle.partition_core.specs.declared.event.Event.{Event}
use Rattle.partition_core.specs.Histories.{Faithful, Sound, replay}
use Rattle.partition_core.specs.Nexts.{AreSettled}
use Rattle.turn_board.specs.Seats.{BoardView}
use Rattle.partition_board.specs.Begun.{Begun}
use Rattle.partition_board.specs.Holds.{AreLeft}
use Rattle.partition_board.specs.Posts.{AreFatesOf, begun_in}
use Rattle.partition_board.proofs.Closing.{all_counted, all_here, all_left, begun_all, closes, history_is, nothing_runs, own_all}
use Rattle.partition_board.proofs.board.Board.close.Goals as goal

pub close-requires-clause-each : goal.close-requires-clause-each
close-requires-clause-each g c =
    own_all c.args.posts.items c.self.inside.turn.board c.args.self.board (ap (λ (b : BoardView). b.board) c.self.view_is) c.requires.returned

pub gather-folders-requires : goal.gather-folders-requires
gather-folders-requires g c =
    let k = c.core.inside.core in
    let h = c.core.inside.house in
    let posts = c.args.posts.items in
    let some : 0 < c.args.self.seats = subst (λ (b : BoardView). 0 < b.seats) c.self.view_is c.self.invariant in
    let cl = closes posts k h c.close.result c.core.view_is c.close.ensures.opening c.close.ensures.seen c.close.ensures.counted c.close.ensures.makers
    c.front-front.ensures.legal in
    let none = nothing_runs posts k h.handed cl c.args.self.seats c.requires.all some c.args.self.board c.requires.returned in
    all_here g.F.Folder.known k h c.core.invariant none

pub returns-clause-history : goal.returns-clause-history
returns-clause-history g c =
    let k = c.core.inside.core in
    let h = c.core.inside.house in
    let posts = c.args.posts.items in
    let some : 0 < c.args.self.seats = subst (λ (b : BoardView). 0 < b.seats) c.self.view_is c.self.invariant in
    let cl = closes posts k h c.close.result c.core.view_is c.close.ensures.opening c.close.ensures.seen c.close.ensures.counted c.close.ensures.makers
    c.front-front.ensures.legal in
    history_is posts k h.handed cl c.args.self.seats c.requires.all some c.close-fates.result.1.items c.close-fates.ensures.history

pub returns-clause-fates : goal.returns-clause-fates
returns-clause-fates g c =
    let k = c.core.inside.core in
    let h = c.core.inside.house in
    let posts = c.args.posts.items in
    let some : 0 < c.args.self.seats = subst (λ (b : BoardView). 0 < b.seats) c.self.view_is c.self.invariant in
    let cl = closes posts k h c.close.result c.core.view_is c.close.ensures.opening c.close.ensures.seen c.close.ensures.counted c.close.ensures.makers
    c.front-front.ensures.legal in
    let begun : begun_in posts ≡ record { build = k.opening; folders = h.handed } = begun_all posts k h.handed cl c.args.self.seats c.requires.all some in
    c.close-fates.ensures.fates ∙ ap (λ (b : Begun g.row.F.Denot). (replay b.build k.events).fates) (sym begun)
    ∙ ap (λ (es : List Event). (replay (begun_in posts).build es).fates) (sym c.close-fates.ensures.history)

pub returns-clause-faithful : goal.returns-clause-faithful
returns-clause-faithful g c = λ honest.
    let k = c.core.inside.core in
    let h = c.core.inside.house in
    let posts = c.args.posts.items in
    let some : 0 < c.args.self.seats = subst (λ (b : BoardView). 0 < b.seats) c.self.view_is c.self.invariant in
    let cl = closes posts k h c.close.result c.core.view_is c.close.ensures.opening c.close.ensures.seen c.close.ensures.counted c.close.ensures.makers
    c.front-front.ensures.legal in
    let begun : begun_in posts ≡ record { build = k.opening; folders = h.handed } = begun_all posts k h.handed cl c.args.self.seats c.requires.all some in
    subst (λ (b : Begun g.row.F.Denot). Faithful g.M.Meaning.compile_of b.build c.close-fates.result.1.items) (sym begun)
    (subst (λ (es : List Event). Faithful g.M.Meaning.compile_of k.opening es) (sym c.close-fates.ensures.history) (c.close-fates.ensures.faithful honest))

pub returns-clause-sequential : goal.returns-clause-sequential
returns-clause-sequential g c = λ honest.
    let k = c.core.inside.core in
    let h = c.core.inside.house in
    let posts = c.args.posts.items in
    let some : 0 < c.args.self.seats = subst (λ (b : BoardView). 0 < b.seats) c.self.view_is c.self.invariant in
    let cl = closes posts k h c.close.result c.core.view_is c.close.ensures.opening c.close.ensures.seen c.close.ensures.counted c.close.ensures.makers
    c.front-front.ensures.legal in
    let begun : begun_in posts ≡ record { build = k.opening; folders = h.handed } = begun_all posts k h.handed cl c.args.self.seats c.requires.all some in
    subst (λ (b : Begun g.row.F.Denot). Sound g.M.Meaning.compile_of b.build → AreFatesOf (seq g.M.Meaning.compile_of b.build.plan.jobs)
    c.close-fates.result.0.items)
    (sym begun)
    (λ sound. record {
      each = c.close-fates.ensures.each honest sound;
      whole = λ settled. c.close-fates.ensures.sequential honest sound (subst AreSettled c.close-fates.ensures.fates settled);
    })

pub returns-clause-left : goal.returns-clause-left
returns-clause-left g c =
    let k = c.core.inside.core in
    let h = c.core.inside.house in
    let posts = c.args.posts.items in
    let some : 0 < c.args.self.seats = subst (λ (b : BoardView). 0 < b.seats) c.self.view_is c.self.invariant in
    let cl = closes posts k h c.close.result c.core.view_is c.close.ensures.opening c.close.ensures.seen c.close.ensures.counted c.close.ensures.makers
    c.front-front.ensures.legal in
    let none = nothing_runs posts k h.handed cl c.args.self.seats c.requires.all some c.args.self.board c.requires.returned in
    let begun : begun_in posts ≡ record { build = k.opening; folders = h.handed } = begun_all posts k h.handed cl c.args.self.seats c.requires.all some in
    subst (λ (b : Begun g.row.F.Denot). AreLeft b.build c.close-fates.result.0.items (map g.F.Folder.known b.folders)
    (map g.F.Folder.known c.gather-folders.result.items))
    (sym begun)
    (subst (λ (fates : List (Option Fate)). AreLeft k.opening fates (map g.F.Folder.known h.handed) (map g.F.Folder.known c.gather-folders.result.items))
    (sym c.close-fates.ensures.fates)
    (all_left g.F.Folder.known k h c.core.invariant none c.gather-folders.result.items c.gather-folders.ensures))

pub returns-clause-counted : goal.returns-clause-counted
returns-clause-counted g c =
    let k = c.core.inside.core in
    let h = c.core.inside.house in
    let posts = c.args.posts.items in
    let some : 0 < c.args.self.seats = subst (λ (b : BoardView). 0 < b.seats) c.self.view_is c.self.invariant in
    let cl = closes posts k h c.close.result c.core.view_is c.close.ensures.opening c.close.ensures.seen c.close.ensures.counted c.close.ensures.makers
    c.front-front.ensures.legal in
    let none = nothing_runs posts k h.handed cl c.args.self.seats c.requires.all some c.args.self.board c.requires.returned in
    all_counted g.F.Folder.known k h c.core.invariant none c.gather-folders.result.items c.gather-folders.ensures c.close-fates.result.1.items
    c.close-fates.ensures.history

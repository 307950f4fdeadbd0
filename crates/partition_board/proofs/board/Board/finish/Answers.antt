use Rattle.std.proofs.Common.{ℕ, [], ◌∷◌, subst}
use Rattle.partition_core.specs.declared.event.Event.TheVariants.{Finish}
use Rattle.partition_board.specs.Posts.{Adds}
use Rattle.partition_board.proofs.Handing.{finish_legal, finish_suits}
use Rattle.partition_board.proofs.board.Board.finish.Goals as goal

pub end_run-requires-clause-legal : goal.end_run-requires-clause-legal
end_run-requires-clause-legal g c = finish_legal g.F.Folder.known c.args.post.now c.args.lease c.args.outcome c.requires.finished

pub end_run-requires-clause-suits : goal.end_run-requires-clause-suits
end_run-requires-clause-suits g c = finish_suits g.F.Folder.known c.args.post.now c.args.lease c.args.outcome c.requires.finished

pub returns-clause-made : goal.returns-clause-made
returns-clause-made g c = subst (λ (n : ℕ). Adds (Finish c.args.lease.place n c.args.outcome.event ∷ []) c.args.post.now c.end_run.new.post)
    c.requires.finished.mine.by c.end_run.ensures.made

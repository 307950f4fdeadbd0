use Rattle.std.proofs.Common.{ℕ, [], ◌∷◌, subst}
use Rattle.partition_core.specs.declared.event.Event.TheVariants.{Back}
use Rattle.partition_board.specs.Posts.{Adds}
use Rattle.partition_board.proofs.Handing.{back_legal, back_suits}
use Rattle.partition_board.proofs.board.Board.give_back.Goals as goal

pub end_run-requires-clause-legal : goal.end_run-requires-clause-legal
end_run-requires-clause-legal g c = back_legal g.F.Folder.known c.args.post.now c.args.lease c.args.cause c.requires.lease

pub end_run-requires-clause-suits : goal.end_run-requires-clause-suits
end_run-requires-clause-suits g c = back_suits g.F.Folder.known c.args.post.now c.args.lease c.args.cause c.requires.lease c.requires.cause

pub returns-clause-made : goal.returns-clause-made
returns-clause-made g c = subst (λ (n : ℕ). Adds (Back c.args.lease.place n c.args.cause ∷ []) c.args.post.now c.end_run.new.post) c.requires.lease.by
    c.end_run.ensures.made

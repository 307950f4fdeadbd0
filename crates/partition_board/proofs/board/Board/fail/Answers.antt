use Rattle.std.proofs.Common.{ℕ, [], ◌∷◌, subst}
use Rattle.partition_core.specs.declared.event.Event.TheVariants.{Fail}
use Rattle.partition_board.specs.Posts.{Adds}
use Rattle.partition_board.proofs.Handing.{fail_legal, fail_suits}
use Rattle.partition_board.proofs.board.Board.fail.Goals as goal

pub end_run-requires-clause-legal : goal.end_run-requires-clause-legal
end_run-requires-clause-legal g c = fail_legal g.F.Folder.known c.args.post.now c.args.lease c.args.outcome c.requires.failed

pub end_run-requires-clause-suits : goal.end_run-requires-clause-suits
end_run-requires-clause-suits g c = fail_suits g.F.Folder.known c.args.post.now c.args.lease c.args.outcome c.requires.failed

pub returns-clause-made : goal.returns-clause-made
returns-clause-made g c = subst (λ (n : ℕ). Adds (Fail c.args.lease.place n c.args.outcome.event ∷ []) c.args.post.now c.end_run.new.post)
    c.requires.failed.mine.by c.end_run.ensures.made

use Rattle.partition_board.specs.Posts.{PostView, opening_at, state_at}
use Rattle.partition_build.proofs.Leasing.{leased_ready, leased_within, may_hand, needs_here, within_plan}
use Rattle.partition_build.proofs.handing.run.Goals as goal

pub work-worked-requires-clause-place : goal.work-worked-requires-clause-place
work-worked-requires-clause-place g c κs within =
    let post : PostView g.row.F.Denot = c.args.posting.now.post in
    within_plan c.args.plan.now (opening_at post) c.args.lease.place c.requires.posted.asked
    (leased_within (opening_at post) post.seen c.args.lease.place post.number c.requires.taken.legal c.requires.taken.mine.holds)

pub work-worked-requires-clause-needs : goal.work-worked-requires-clause-needs
work-worked-requires-clause-needs g c κs within =
    let post : PostView g.row.F.Denot = c.args.posting.now.post in
    needs_here c.args.plan.now (opening_at post) (state_at post) c.args.lease.place c.args.needs.now c.requires.posted.asked
    (leased_ready (opening_at post) post.seen c.args.lease.place post.number c.requires.taken.legal c.requires.taken.mine.holds)
    c.requires.taken.given

pub hand_in-requires-clause-suits : goal.hand_in-requires-clause-suits
hand_in-requires-clause-suits g c κs within =
    may_hand g.F.Folder.known c.args.posting.now.post c.args.plan.now c.args.needs.now c.args.lease c.work-worked.new.lease c.requires.posted.asked
    c.requires.taken c.work-worked.ensures.lease c.work-worked.result c.work-worked.ensures.folder c.work-worked.ensures.worked

use Rattle.partition_build.specs.Postings.{IsServing, PostingView, posting_by}
use Rattle.partition_build.proofs.Turning.{posted_still, served_live, served_ran, serving_kept, serving_later, serving_over, serving_ran, serving_runs, serving_sees, serving_short, serving_skipped}
use Rattle.partition_build.proofs.serving.serve.Goals as goal

pub returns-in-Over : goal.returns-in-Over
returns-in-Over g c =
    let counted = g.P.Partition.counted in
    let known = g.F.Folder.known in
    let lasting = g.P.Partition.lasting in
    let first : PostingView g.row.F.Denot = posting_by c.args.posting.now.post (counted c.args.posting.now.partition) in
    let old : PostingView g.row.F.Denot = posting_by c.loop.posting.post (counted c.loop.posting.partition) in
    let mid = c.take.new.post in
    let serving = serving_over known first old mid c.loop.invariant.serving c.take.new.needs.items c.in-Over.field-0 c.in-Over.ensures.answer c.in-Over.ensures.lent in
    record { served = served_live lasting first (posting_by mid old.counts) serving }

pub returns-in-NoMemory : goal.returns-in-NoMemory
returns-in-NoMemory g c =
    let counted = g.P.Partition.counted in
    let known = g.F.Folder.known in
    let lasting = g.P.Partition.lasting in
    let first : PostingView g.row.F.Denot = posting_by c.args.posting.now.post (counted c.args.posting.now.partition) in
    let old : PostingView g.row.F.Denot = posting_by c.loop.posting.post (counted c.loop.posting.partition) in
    let mid = c.take.new.post in
    let serving = serving_short known first old mid c.loop.invariant.serving c.take.new.needs.items c.in-NoMemory.ensures.answer c.in-NoMemory.ensures.lent in
    record { served = served_live lasting first (posting_by mid old.counts) serving }

pub loop-preserved-in-Later : goal.loop-preserved-in-Later
loop-preserved-in-Later g c =
    let counted = g.P.Partition.counted in
    let known = g.F.Folder.known in
    let lasting = g.P.Partition.lasting in
    let first : PostingView g.row.F.Denot = posting_by c.args.posting.now.post (counted c.args.posting.now.partition) in
    let old : PostingView g.row.F.Denot = posting_by c.loop.posting.post (counted c.loop.posting.partition) in
    let mid = c.take.new.post in
    let after = serving_later known first old mid c.loop.invariant.serving c.take.new.needs.items c.in-Later.front c.in-Later.ensures.answer
    c.in-Later.ensures.lent in
    let serving = serving_sees first (posting_by mid old.counts) c.wait_past.new.post after c.wait_past.ensures.sees in
    record {
      can_next = tt;
      finite = tt;
      posted = posted_still c.args.board.now.board c.args.plan.now c.args.posting.now.post c.wait_past.new.post c.requires.may.posted serving.same;
      serving = serving;
    }

pub loop-preserved-in-Kept : goal.loop-preserved-in-Kept
loop-preserved-in-Kept g c =
    let counted = g.P.Partition.counted in
    let known = g.F.Folder.known in
    let lasting = g.P.Partition.lasting in
    let first : PostingView g.row.F.Denot = posting_by c.args.posting.now.post (counted c.args.posting.now.partition) in
    let old : PostingView g.row.F.Denot = posting_by c.loop.posting.post (counted c.loop.posting.partition) in
    let mid = c.take.new.post in
    let serving = serving_kept known first old mid c.loop.invariant.serving c.take.new.needs.items c.in-Kept.place c.in-Kept.ensures.answer
    c.in-Kept.ensures.lent in
    record {
      can_next = tt;
      finite = tt;
      posted = posted_still c.args.board.now.board c.args.plan.now c.args.posting.now.post mid c.requires.may.posted serving.same;
      serving = serving;
    }

pub loop-preserved-in-Skipped : goal.loop-preserved-in-Skipped
loop-preserved-in-Skipped g c =
    let counted = g.P.Partition.counted in
    let known = g.F.Folder.known in
    let lasting = g.P.Partition.lasting in
    let first : PostingView g.row.F.Denot = posting_by c.args.posting.now.post (counted c.args.posting.now.partition) in
    let old : PostingView g.row.F.Denot = posting_by c.loop.posting.post (counted c.loop.posting.partition) in
    let mid = c.take.new.post in
    let serving = serving_skipped known first old mid c.loop.invariant.serving c.take.new.needs.items c.in-Skipped.place c.in-Skipped.need
    c.in-Skipped.ensures.answer c.in-Skipped.ensures.lent in
    record {
      can_next = tt;
      finite = tt;
      posted = posted_still c.args.board.now.board c.args.plan.now c.args.posting.now.post mid c.requires.may.posted serving.same;
      serving = serving;
    }

pub run-requires-clause-able : goal.run-requires-clause-able
run-requires-clause-able g c κs within =
    let counted = g.P.Partition.counted in
    let known = g.F.Folder.known in
    let lasting = g.P.Partition.lasting in
    let first : PostingView g.row.F.Denot = posting_by c.args.posting.now.post (counted c.args.posting.now.partition) in
    let old : PostingView g.row.F.Denot = posting_by c.loop.posting.post (counted c.loop.posting.partition) in
    let mid = c.take.new.post in
    serving_runs c.args.board.now.board c.args.plan.now first old c.loop.invariant.posted c.requires.planned c.requires.may.young
    c.loop.invariant.serving

pub returns-then-not-run : goal.returns-then-not-run
returns-then-not-run g c =
    let counted = g.P.Partition.counted in
    let known = g.F.Folder.known in
    let lasting = g.P.Partition.lasting in
    let first : PostingView g.row.F.Denot = posting_by c.args.posting.now.post (counted c.args.posting.now.partition) in
    let old : PostingView g.row.F.Denot = posting_by c.loop.posting.post (counted c.loop.posting.partition) in
    let mid = c.take.new.post in
    let new : PostingView g.row.F.Denot = posting_by c.run.new.posting.post (counted c.run.new.posting.partition) in
    record {
      served = served_ran lasting first old mid new c.loop.invariant.serving c.in-Started.lease c.in-Started.ensures.answer c.run.result
          c.run.ensures.run c.requires.may.young.lives;
    }

pub loop-preserved : goal.loop-preserved
loop-preserved g c =
    let counted = g.P.Partition.counted in
    let known = g.F.Folder.known in
    let lasting = g.P.Partition.lasting in
    let first : PostingView g.row.F.Denot = posting_by c.args.posting.now.post (counted c.args.posting.now.partition) in
    let old : PostingView g.row.F.Denot = posting_by c.loop.posting.post (counted c.loop.posting.partition) in
    let mid = c.take.new.post in
    let new : PostingView g.row.F.Denot = posting_by c.run.new.posting.post (counted c.run.new.posting.partition) in
    let serving : IsServing first new = serving_ran lasting first old mid new c.loop.invariant.serving c.in-Started.lease c.in-Started.ensures.answer
    c.run.result c.run.ensures.run c.if-not-run.false in
    record {
      can_next = tt;
      finite = tt;
      posted = posted_still c.args.board.now.board c.args.plan.now c.args.posting.now.post c.run.new.posting.post c.requires.may.posted serving.same;
      serving = serving;
    }

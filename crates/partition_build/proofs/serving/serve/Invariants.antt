use Rattle.partition_build.specs.Postings.{IsPosted, IsServing, posting_by}
use Rattle.partition_build.proofs.serving.serve.Given as goal

abbrev pub invariant-loop : goal.invariant-loop
invariant-loop g l = record {
  can_next : (goal.iterator-loop g).can_next l.iterator';
  finite : (goal.iterator-loop g).is_finite l.iterator';
  posted : IsPosted l.board.board l.plan l.posting.post;
  serving : IsServing (posting_by l.fn.posting.post (g.P.Partition.counted l.fn.posting.partition))
      (posting_by l.posting.post (g.P.Partition.counted l.posting.partition));
}

use Rattle.std.proofs.Common.{◌≡◌, ◌+◌, ◌≤◌, ◌++◌, length, map, reverse, vec_len, vec_capacity}
use Rattle.partition_build.proofs.seating.unseat.Given as goal

abbrev pub invariant-loop-posting : goal.invariant-loop-posting
invariant-loop-posting g l = record {
  posts : map (λ p. p.post) l.postings.items ++ reverse l.posts.items ≡ map (λ p. p.post) l.initial.postings.items;
  partitions : map (λ p. p.partition) l.postings.items ++ reverse l.partitions.items ≡ map (λ p. p.partition) l.initial.postings.items;
  room : length l.postings.items + length l.posts.items ≤ vec_capacity l.posts;
  left : length l.postings.items + length l.partitions.items ≤ vec_capacity l.partitions;
}

abbrev pub decreases-loop-posting : goal.decreases-loop-posting
decreases-loop-posting g l = vec_len l.postings

use Rattle.std.proofs.Common.{◌≡◌, ◌+◌, ◌≤◌, ◌++◌, length, map, reverse, vec_len, vec_capacity}
use Rattle.partition_build.proofs.seating.seat.Given as goal

abbrev pub invariant-loop-post : goal.invariant-loop-post
invariant-loop-post g l = record {
  posts : l.posts.items ++ reverse (map (λ p. p.post) l.postings.items) ≡ l.initial.posts.items;
  partitions : l.partitions.items ++ reverse (map (λ p. p.partition) l.postings.items) ≡ l.initial.partitions.items;
  all : length l.posts.items ≡ length l.partitions.items;
  room : length l.posts.items + length l.postings.items ≤ vec_capacity l.postings;
  kept : length l.initial.posts.items ≤ vec_capacity l.posts;
  left : length l.initial.partitions.items ≤ vec_capacity l.partitions;
}

abbrev pub decreases-loop-post : goal.decreases-loop-post
decreases-loop-post g l = vec_len l.posts

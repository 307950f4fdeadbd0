use Rattle.std.proofs.Common.{◌≡◌, length, rules}
use Rattle.partition_build.proofs.Seated.{same_length, seated}
use Rattle.partition_build.proofs.seating.seat.Goals as goal

pub returns-clause-posts : goal.returns-clause-posts
returns-clause-posts g c =
    let none : length c.loop-post.posts.items ≡ 0 = (search rules) in
    seated (λ p. p.post) c.loop-post.postings.items c.reverse.new.self.items c.loop-post.posts.items c.args.posts.now.items none c.loop-post.invariant.posts
    c.reverse.ensures.items

pub returns-clause-partitions : goal.returns-clause-partitions
returns-clause-partitions g c =
    let none : length c.loop-post.posts.items ≡ 0 = (search rules) in
    seated (λ p. p.partition) c.loop-post.postings.items c.reverse.new.self.items c.loop-post.partitions.items c.args.partitions.now.items
    (same_length c.loop-post.posts.items c.loop-post.partitions.items c.loop-post.invariant.all none) c.loop-post.invariant.partitions
    c.reverse.ensures.items

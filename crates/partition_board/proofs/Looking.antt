-- Posts that look again and again.
use Rattle.std.proofs.Common.{◌≡◌, refl, ◌∙◌}
use Rattle.atomic_table.specs.Seated.{TableId}
use Rattle.partition_core.specs.State.{standing}
use Rattle.partition_core.specs.Refusals.{by_of}
use Rattle.turn_board.specs.Histories.{Continues}
use Rattle.partition_board.specs.Posts.{IsIn, IsSamePost, PostView, Sees, state_at}
use Rattle.partition_board.proofs.Seen.{goes_on_as, went_nothing}

module _ {F : Type 0} where
  -- what the post has seen so far goes on from what it had seen, and its partition does what it did
  pub record Went (old new : PostView F) : Type 0 where
    pub same : IsSamePost old new
    pub went : Continues by_of old.number old.seen new.seen
    pub stands : standing (state_at new).standings new.number ≡ standing (state_at old).standings old.number
    pub counted : new.made ≡ old.made

  pub went_none : (post : PostView F) → Went post post
  went_none post = record { same = (refl, refl, refl, refl); went = went_nothing post.number post.seen; stands = refl; counted = refl }

  same_more : (old mid new : PostView F) → IsSamePost old mid → IsSamePost mid new → IsSamePost old new
  same_more old mid new first then_ = (then_.0 ∙ first.0, then_.1 ∙ first.1, then_.2 ∙ first.2, then_.3 ∙ first.3)

  pub sees_more : (old mid new : PostView F) → Went old mid → Sees mid new → Sees old new
  sees_more old mid new first then_ = record {
    same = same_more old mid new first.same then_.same;
    went = goes_on_as old.number mid.number old.seen mid.seen new.seen first.same.1 first.went then_.went;
    legal = then_.legal;
    stands = then_.stands ∙ first.stands;
    counted = then_.counted ∙ first.counted;
  }

  pub went_more : (old mid new : PostView F) → Went old mid → Sees mid new → Went old new
  went_more old mid new first then_ =
      let all = sees_more old mid new first then_ in record { same = all.same; went = all.went; stands = all.stands; counted = all.counted }

  pub own_more : (mid new : PostView F) (board : TableId) → IsIn board mid → Sees mid new → IsIn board new
  own_more mid new board own sees = (sees.same.0 ∙ own.0, sees.same.3 ∙ own.1)

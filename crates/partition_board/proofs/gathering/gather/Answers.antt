use Rattle.std.proofs.Common.{◌++◌, ◌∷◌, [], ◌∙◌, ap, vec_capacity}
use Rattle.partition_board.proofs.Giving.{here_last, here_front, moved, fewer}
use Rattle.partition_board.proofs.gathering.gather.Goals as goal

pub unreachable-requires : goal.unreachable-requires
unreachable-requires g c =
    let last = here_last c.pop.new.self.items c.in-Some.home c.loop-home.homes.items c.in-Some.ensures.items c.loop-home.invariant.here in
    c.in_default-home.not-Some last.0 last.1

pub loop-home-preserved : goal.loop-home-preserved
loop-home-preserved g c = record {
  here = here_front c.pop.new.self.items c.in-Some.home c.loop-home.homes.items c.in-Some.ensures.items c.loop-home.invariant.here;
  same = moved c.pop.new.self.items c.loop-home.homes.items c.args.homes.items c.in-Some-home.folder c.loop-home.spare.items c.push_reserved.new.self.items
      (c.in-Some.ensures.items ∙ ap (λ h. c.pop.new.self.items ++ h ∷ []) c.in-Some-home.is) c.push_reserved.ensures.items c.loop-home.invariant.same;
  room = fewer c.pop.new.self.items c.loop-home.homes.items c.in-Some.home c.in-Some-home.folder c.loop-home.spare.items c.push_reserved.new.self.items
      (vec_capacity c.loop-home.spare) (vec_capacity c.push_reserved.new.self) c.in-Some.ensures.items c.push_reserved.ensures.items
      c.loop-home.invariant.room c.push_reserved.ensures.capacity;
}

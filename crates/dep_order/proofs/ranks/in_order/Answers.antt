use Rattle.std.proofs.Common.{◌≡◌, ◌<◌, ◌≤◌, length, get_or, map, sym, ◌∙◌, ap, arith}
use Rattle.std.proofs.lemmas.List.{take_all}
use Rattle.dep_order.specs.Listing.{is_listed}
use Rattle.dep_order.specs.Search.{AreNumbers}
use Rattle.dep_order.proofs.Ranking.{ranked, numbers_as, number_within}
use Rattle.dep_order.proofs.ranks.in_order.Goals as goal

pub place_at-requires : goal.place_at-requires
place_at-requires c =
    let known : AreNumbers c.in_ok-numbers.numbers.items (is_listed (map (λ place. get_or c.args.ranks.now place 0) c.args.places.now)) =
    numbers_as c.in_ok-numbers.numbers.items _ _ c.in_ok-ranks_among.ensures c.in_ok-numbers.ensures in
    let within : c.loop-rank.rank-index < length c.deref-rank-items.result.now = omega arith in
    rw c.deref-rank-items.ensures.value
    (number_within c.args.order.now c.args.ranks.now c.args.places.now c.in_ok-numbers.numbers.items c.requires.ranks c.requires.within known c.loop-rank.rank-index (rw c.deref-rank-items.ensures.value at within))

pub returns : goal.returns
returns c =
    let known : AreNumbers c.in_ok-numbers.numbers.items (is_listed (map (λ place. get_or c.args.ranks.now place 0) c.args.places.now)) =
    numbers_as c.in_ok-numbers.numbers.items _ _ c.in_ok-ranks_among.ensures c.in_ok-numbers.ensures in
    let past : length c.deref-rank-items.result.now ≤ c.loop-rank.rank-index = omega arith in
    c.loop-rank.invariant
    ∙ ap (map (λ rank. get_or c.args.order.now rank 0)) (take_all c.loop-rank.rank-index c.deref-rank-items.result.now past ∙ c.deref-rank-items.ensures.value)
    ∙ ranked c.args.order.now c.args.ranks.now c.args.places.now c.in_ok-numbers.numbers.items c.requires.ranks c.requires.within known
